-- Laws about filling the lent tables.
use Rattle.std.proofs.Common.{ℕ, ◌+◌, ◌≤◌, ◌<◌, ◌≡◌, refl, ap, ap₂, subst, sym, ◌∙◌, List, [], ◌∷◌, ◌++◌, append-nil, append_assoc, Bool, true, false, true≢false, arith, length, take, drop, length-append, length-take, take-append-drop, drop-drop, ne_eqb}
use Rattle.std.specs.Prelude.{Option, Some, Ok, if◌then◌else◌, map}
use Rattle.field.specs.First.{when}
use Rattle.field.proofs.FirstLaws.{when_hit, when_pass}
use Rattle.madt.specs.Entries.{entries}
use Rattle.madt.specs.SoundEntries.{sound_left}
use Rattle.madt.specs.declared.SoundEntries.{SoundEntries}
use Rattle.madt.proofs.EntryLaws.{Item}
use Rattle.madt.specs.declared.MadtEntry.{MadtEntry}
use Rattle.madt.specs.declared.Kind.{Kind}
use Rattle.madt.specs.declared.Kind.TheVariants.{
  LocalApic,
  IoApic,
  InterruptSourceOverride,
  NmiSource,
  LocalApicNmi,
  LocalX2Apic,
  X2ApicNmi,
}
use Rattle.platform.specs.declared.Record.{Record}
use Rattle.platform.specs.declared.Record.TheVariants.{Processor, IoApic as IoApicRecord, Override, NmiSource as NmiSourceRecord, NmiLine}
use Rattle.platform.specs.Lists.{ListName, goes_to, those}
use Rattle.platform.specs.Lists.ListName.{processors, io_apics, interrupt_source_overrides, nmi_sources, local_apic_nmi_lines}
use Rattle.platform.specs.Records.{record_of, spelled, words_of, list}
use Rattle.platform.specs.declared.State.{State}
use Rattle.platform.specs.declared.State.TheVariants.{Waiting, Running}
use Rattle.platform.specs.Fill.{over}
use Rattle.platform.specs.Inner.{enabled_at}

-- what the walk is to come to yet, as items of the table
abbrev pub to_come : SoundEntries → List Item
to_come w = map Ok (sound_left w)

-- of five things, in the order of the lists, the one of a list
abbrev pub of_list : {A : Type 0} → A → A → A → A → A → ListName → A
of_list p i o n l processors = p
of_list p i o n l io_apics = i
of_list p i o n l interrupt_source_overrides = o
of_list p i o n l nmi_sources = n
of_list p i o n l local_apic_nmi_lines = l

-- the list that a record is for
abbrev pub is_for : Option Record → ListName → Bool
is_for (Some (Processor w)) processors = true
is_for (Some (IoApicRecord w)) io_apics = true
is_for (Some (Override w)) interrupt_source_overrides = true
is_for (Some (NmiSourceRecord w)) nmi_sources = true
is_for (Some (NmiLine w)) local_apic_nmi_lines = true
is_for _ _ = false

-- It is the list that the entry goes to, and the record has some words.
same_list : (s : List ℕ) (enabled : State) (at : ℕ) (k : Kind) (l : ListName) → goes_to k l ≡ is_for (record_of s enabled at k) l
same_list s enabled at LocalApic processors = refl
same_list s enabled at _ _ = refl

some_words : (s : List ℕ) (enabled : State) (at : ℕ) (k : Kind) (l : ListName) → goes_to k l ≡ true → 0 < length (spelled (record_of s enabled at k))
some_words s enabled at LocalApic l h = omega arith
some_words s enabled at LocalX2Apic l h = omega arith
some_words s enabled at IoApic l h = omega arith
some_words s enabled at InterruptSourceOverride l h = omega arith
some_words s enabled at NmiSource l h = omega arith
some_words s enabled at LocalApicNmi l h = omega arith
some_words s enabled at X2ApicNmi l h = omega arith
some_words s enabled at _ l h = absurd (true≢false (sym h))

-- Once a word is written, another processor waits.
later_waits : (to : ℕ) → 0 < to → enabled_at to ≡ Waiting
later_waits to h = ap (λ b. if b then Running else Waiting) (ne_eqb to 0 (λ e. omega arith))

-- Only processors have a state.
pub no_state : (s : List ℕ) (a b : State) (at : ℕ) (k : Kind) → goes_to k processors ≡ false → record_of s a at k ≡ record_of s b at k
no_state s a b at LocalApic h = absurd (true≢false h)
no_state s a b at LocalX2Apic h = absurd (true≢false h)
no_state s a b at _ h = refl

-- What a list's table holds, and what is to be written to it yet.
pub record Filling (l : ListName) (s before now : List ℕ) (to : ℕ) (items : List Item) : Type 0 where
  pub whole : take to now ++ words_of s (enabled_at to) (those l items) ≡ list l s
  pub behind : drop to now ≡ drop to before
  pub within : to ≤ length now
  pub same : length now ≡ length before
  pub fits : length (list l s) ≤ length before

pub fill_start :
    (l : ListName) {s before now : List ℕ} {to : ℕ} {items : List Item} → items ≡ entries s → to ≡ 0 → now ≡ before →
    length (list l s) ≤ length before → Filling l s now now to items
unfolding list
fill_start l q start same h = rw (q, start, same) (record { whole = refl; behind = refl; within = omega arith; same = refl; fits = h })

pub fill_end : {l : ListName} {s before now : List ℕ} {to : ℕ} {items : List Item} → Filling l s before now to items → items ≡ [] → now ≡ over (list l s) before
unfolding those words_of over
fill_end {l} {s} {before} {now} {to} was₀ q =
    let was : Filling l s before now to [] = rw q at was₀ in
    let all : take to now ≡ list l s = sym (append-nil (take to now)) ∙ was.whole in
    let long : length (list l s) ≡ to = omega (arith, ap length all, length-take to now) in
    rw (long, ← all, ← was.behind) (sym (take-append-drop to now))

-- What a turn of the loop knows: the entry at the front, and its record, where p words are written of the processors.
pub record Turn (s : List ℕ) (items rest : List Item) (p : ℕ) (e : MadtEntry) (r : Option Record) : Type 0 where
  pub front : items ≡ Ok e ∷ rest
  pub told : record_of s (enabled_at p) e.at e.kind ≡ r

pub turn :
    {s : List ℕ} {items rest : List Item} {p : ℕ} {enabled : State} {item : Item} {e : MadtEntry} {r result : Option Record} →
    items ≡ item ∷ rest → item ≡ Ok e → enabled ≡ enabled_at p → result ≡ record_of s enabled e.at e.kind → result ≡ r →
    Turn s items rest p e r
turn {s} {rest = rest} {e = e} q is state told same =
    record {
      front = q ∙ ap (λ (item : Item). item ∷ rest) is;
      told = ap (λ enabled. record_of s enabled e.at e.kind) (sym state) ∙ (sym told ∙ same);
    }

module _
    {s : List ℕ}
    {items rest : List Item}
    {p : ℕ}
    {e : MadtEntry}
    {r : Option Record}
    (t : Turn s items rest p e r)
    (l : ListName)
  where
    here : goes_to e.kind l ≡ is_for r l
    here = same_list s (enabled_at p) e.at e.kind l ∙ ap (λ r. is_for r l) t.told

    those_here : those l items ≡ when (is_for r l) (e ∷ those l rest) (those l rest)
    unfolding those
    those_here = rw (t.front, here) refl

    -- A record of another list changes nothing.
    pub fill_other :
        is_for r l ≡ false → {before now : List ℕ} {to : ℕ} → Filling l s before now to items → Filling l s before now to rest
    fill_other other {before} {now} {to} was =
        let none = those_here ∙ when_pass _ _ _ other in
        record { whole = rw (← none) was.whole; behind = was.behind; within = was.within; same = was.same; fits = was.fits }

    -- The words of one of this list are the next.
    state_here : {to : ℕ} → (is_for r processors ≡ true → p ≡ to) → record_of s (enabled_at to) e.at e.kind ≡ r
    state_here {to} own = go (is_for r processors) refl
      where
        go : (b : Bool) → is_for r processors ≡ b → record_of s (enabled_at to) e.at e.kind ≡ r
        go true h = ap (λ n. record_of s (enabled_at n) e.at e.kind) (sym (own h)) ∙ t.told
        go false h = no_state s (enabled_at to) (enabled_at p) e.at e.kind (same_list s (enabled_at p) e.at e.kind processors ∙ ap (λ r. is_for r processors) t.told ∙ h) ∙ t.told

    words_here :
        is_for r l ≡ true → {to : ℕ} → (is_for r processors ≡ true → p ≡ to) →
        words_of s (enabled_at to) (those l items) ≡ spelled r ++ words_of s (enabled_at (to + length (spelled r))) (those l rest)
    unfolding words_of
    words_here mine {to} own =
        let told = state_here own in
        let some : 0 < length (spelled r) = subst (λ r. 0 < length (spelled r)) told (some_words s (enabled_at to) e.at e.kind l (here ∙ mine)) in
        ap (words_of s (enabled_at to)) (those_here ∙ when_hit _ _ _ mine)
        ∙ ap₂ (λ r n. spelled r ++ words_of s n (those l rest)) told (sym (later_waits (to + length (spelled r)) (omega arith)))

    -- So there is room for them, and with them written the table is filled up to behind the entry.
    pub fill_room :
        is_for r l ≡ true → {before now : List ℕ} {to : ℕ} → (is_for r processors ≡ true → p ≡ to) → Filling l s before now to items →
        to + length (spelled r) ≤ length now
    fill_room mine {before} {now} {to} own was =
        let all = ap length (ap (λ words. take to now ++ words) (words_here mine own)) in
        omega (arith, ap length was.whole, all, length-append (take to now) (spelled r ++ words_of s (enabled_at (to + length (spelled r))) (those l rest)), length-append (spelled r) (words_of s (enabled_at (to + length (spelled r))) (those l rest)), length-take to now, was.same, was.fits)

    pub fill_mine :
        is_for r l ≡ true → {before now now' : List ℕ} {to to' : ℕ} → (is_for r processors ≡ true → p ≡ to) → Filling l s before now to items →
        to' ≡ to + length (spelled r) → take to' now' ≡ take to now ++ spelled r → drop to' now' ≡ drop to' now → length now' ≡ length now →
        Filling l s before now' to' rest
    fill_mine mine {before} {now} {now'} {to} {to'} own was next written kept long =
        let n = length (spelled r) in
        let room = fill_room mine own was in
        record {
          whole =
              ap₂ (λ words n. words ++ words_of s (enabled_at n) (those l rest)) written next
              ∙ (append_assoc (take to now) (spelled r) _ ∙ (ap (λ words. take to now ++ words) (sym (words_here mine own)) ∙ was.whole));
          behind =
              kept
              ∙ (ap (λ n. drop n now) next
              ∙ (sym (drop-drop n to now)
              ∙ (ap (drop n) was.behind
              ∙ (drop-drop n to before
              ∙ ap (λ n. drop n before) (sym next)))));
          within = omega arith;
          same = long ∙ was.same;
          fits = was.fits;
        }
