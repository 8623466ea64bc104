-- Laws about the walk through the entries.
use Rattle.std.proofs.Common.{ℕ, zero, suc, ◌+◌, ◌-◌, ◌≤◌, ◌<◌, ◌≡◌, refl, ap, sym, subst, ◌∙◌, List, [], ◌∷◌, append-nil, Bool, true, false, true≢false, arith, length, drop, drop_of_length-le, take-append-drop, drop-drop}
use Rattle.std.specs.Prelude.{Option, Some, None, Result, Ok, Err, IsOk, map}
use Rattle.refusal.specs.declared.Refusal.{Refusal}
use Rattle.refusal.specs.declared.Refusal.TheVariants.{InconsistentEntry}
use Rattle.field.specs.Part.{part}
use Rattle.field.specs.Number.{number}
use Rattle.field.specs.First.{when, less}
use Rattle.field.proofs.FirstLaws.{less_yes, less_true, less_false, when_hit, when_pass}
use Rattle.madt.specs.declared.MadtEntry.{MadtEntry}
use Rattle.madt.specs.Kinds.{kind_of, least_length}
use Rattle.madt.specs.Entries.{entry_at, item_at, next_at, walk, entries_from, entries, faulty, entries_among, joined, EntriesAreTheTable}
use Rattle.madt.proofs.KindLaws.{at_least_two}

-- An item of the walk.
abbrev pub Item : Type 0
Item = Result MadtEntry Refusal

-- A chain of tests that ends in y has passed a test that would have ended in something else.
record Past {A : Type 0} (t : Bool) (rest y : A) : Type 0 where
  fails : t ≡ false
  goes_on : rest ≡ y

past : {A : Type 0} (t : Bool) (x rest y : A) → (x ≡ y → ⊥) → when t x rest ≡ y → Past t rest y
unfolding when
past true x rest y differs e = absurd (differs e)
past false x rest y differs e = record { fails = refl; goes_on = e }

-- What is known of an entry that stands at a place.
pub record Stands (s : List ℕ) (at : ℕ) (e : MadtEntry) : Type 0 where
  pub is : e ≡ entry_at s at
  pub place : e.at ≡ at
  pub enough : least_length e.kind ≤ e.len
  pub two : 2 ≤ e.len
  pub inside : at + e.len ≤ length s

stands_item : (s : List ℕ) (at : ℕ) (e : MadtEntry) → item_at s at ≡ Ok e → Stands s at e
unfolding item_at
stands_item s at e h =
    let p₁ = past _ _ _ _ (λ q. cc) h in
    let p₂ = past _ _ _ _ (λ q. cc) p₁.goes_on in
    let p₃ = past _ _ _ _ (λ q. cc) p₂.goes_on in
    let this : e ≡ entry_at s at = cc in
    let l : e.len ≡ number s (at + 1) 1 = ap (λ x. x.len) this in
    let f₂ = less_false _ _ p₂.fails in
    let f₃ = less_false _ _ p₃.fails in
    let q : least_length e.kind ≡ least_length (kind_of (number s at 1)) = ap (λ x. least_length x.kind) this in
    record {
      is = this;
      place = ap (λ x. x.at) this;
      enough = omega arith;
      two = omega (arith, at_least_two e.kind);
      inside = omega arith;
    }

pub stands : (s : List ℕ) (at : ℕ) (e : MadtEntry) → next_at s at ≡ Some (Ok e) → Stands s at e
unfolding next_at
stands s at e h =
    let p = past _ _ _ _ (λ q. cc) h in
    stands_item s at e (cc)

-- A fault has one refusal.
one_refusal : {r : Refusal} (t : Bool) {rest : Item} → (rest ≡ Err r → r ≡ InconsistentEntry) → when t (Err InconsistentEntry) rest ≡ Err r → r ≡ InconsistentEntry
unfolding when
one_refusal true rests q = cc
one_refusal false rests q = rests q

fault_item : (s : List ℕ) (at : ℕ) (r : Refusal) → item_at s at ≡ Err r → r ≡ InconsistentEntry
unfolding item_at
fault_item s at r h = one_refusal _ (one_refusal _ (one_refusal _ (λ q. cc))) h

fault_is : (s : List ℕ) (at : ℕ) (r : Refusal) → next_at s at ≡ Some (Err r) → r ≡ InconsistentEntry
unfolding next_at
fault_is s at r h =
    let p = past _ _ _ _ (λ q. cc) h in
    fault_item s at r (cc)

-- The table has ended where nothing stands.
pub ended : (s : List ℕ) (at : ℕ) → next_at s at ≡ None → length s ≤ at
unfolding next_at
ended s at h = go (less (length s) (at + 1)) refl
  where
    go : (t : Bool) → less (length s) (at + 1) ≡ t → length s ≤ at
    go true e = omega (arith, less_true _ _ e)
    go false e = absurd (cc (when_pass _ None (Some (item_at s at)) e))

-- Nothing stands past the table's end.
pub past_end : (s : List ℕ) (at : ℕ) → length s ≤ at → next_at s at ≡ None
unfolding next_at
past_end s at h = when_hit _ _ _ (less_yes _ _ (omega arith))

-- One step of the walk, by what stands at its place.
walk_none : (s : List ℕ) (at : ℕ) → walk zero s at ≡ []
unfolding walk
walk_none s at = refl

walk_end : (n : ℕ) (s : List ℕ) (at : ℕ) → next_at s at ≡ None → walk (suc n) s at ≡ []
unfolding walk
walk_end n s at h = rw (h, walk)

walk_fault : (n : ℕ) (s : List ℕ) (at : ℕ) (r : Refusal) → next_at s at ≡ Some (Err r) → walk (suc n) s at ≡ Err r ∷ []
unfolding walk
walk_fault n s at r h = rw (h, walk)

walk_entry :
    (n : ℕ) (s : List ℕ) (at : ℕ) (e : MadtEntry) → next_at s at ≡ Some (Ok e) →
    walk (suc n) s at ≡ Ok e ∷ walk n s (at + e.len)
unfolding walk
walk_entry n s at e h = rw (h, walk)

-- Any number of steps that is enough gives the same entries.
enough_steps : (n m : ℕ) (s : List ℕ) (at : ℕ) → length s ≤ at + n → length s ≤ at + m → walk n s at ≡ walk m s at
enough_steps zero zero s at hn hm = refl
enough_steps zero (suc m) s at hn hm = walk_none s at ∙ sym (walk_end m s at (past_end s at (omega arith)))
enough_steps (suc n) zero s at hn hm = walk_end n s at (past_end s at (omega arith)) ∙ sym (walk_none s at)
enough_steps (suc n) (suc m) s at hn hm = go (enough_steps n m s) (next_at s at) refl
  where
    go :
        ((at' : ℕ) → length s ≤ at' + n → length s ≤ at' + m → walk n s at' ≡ walk m s at') →
        (x : Option Item) → next_at s at ≡ x → walk (suc n) s at ≡ walk (suc m) s at
    go again None h = walk_end n s at h ∙ sym (walk_end m s at h)
    go again (Some (Err r)) h = walk_fault n s at r h ∙ sym (walk_fault m s at r h)
    go again (Some (Ok e)) h =
        let st = stands s at e h in
        walk_entry n s at e h
        ∙ (ap (λ (items : List Item). Ok e ∷ items) (again (at + e.len) (omega arith) (omega arith))
        ∙ sym (walk_entry m s at e h))

-- The entries from a place on, by what stands there.
pub from_end : (s : List ℕ) (at : ℕ) → next_at s at ≡ None → entries_from s at ≡ []
unfolding entries_from
from_end s at h = enough_steps (length s) (suc (length s)) s at (omega arith) (omega arith) ∙ walk_end (length s) s at h

pub from_fault : (s : List ℕ) (at : ℕ) (r : Refusal) → next_at s at ≡ Some (Err r) → entries_from s at ≡ Err r ∷ entries_from s (length s)
unfolding entries_from
from_fault s at r h =
    rw (from_end s (length s) (past_end s (length s) (omega arith)))
    (enough_steps (length s) (suc (length s)) s at (omega arith) (omega arith) ∙ walk_fault (length s) s at r h)

pub from_entry :
    (s : List ℕ) (at : ℕ) (e : MadtEntry) → next_at s at ≡ Some (Ok e) → entries_from s at ≡ Ok e ∷ entries_from s (at + e.len)
unfolding entries_from
from_entry s at e h =
    enough_steps (length s) (suc (length s)) s at (omega arith) (omega arith) ∙ walk_entry (length s) s at e h

-- There are no more entries than bytes behind the fixed part.
stands_inside : (s : List ℕ) (at : ℕ) (item : Item) → next_at s at ≡ Some item → at < length s
unfolding next_at
stands_inside s at item h =
    let p = past _ _ _ _ (λ q. cc) h in
    let f = less_false _ _ p.fails in
    omega arith

walk_short : (n : ℕ) (s : List ℕ) (at : ℕ) → length (walk n s at) ≤ length s - at
walk_short zero s at = rw (walk_none s at) (omega arith)
walk_short (suc n) s at = go (walk_short n s) (next_at s at) refl
  where
    go : ((at' : ℕ) → length (walk n s at') ≤ length s - at') → (x : Option Item) → next_at s at ≡ x → length (walk (suc n) s at) ≤ length s - at
    go again None h = rw (walk_end n s at h) (omega arith)
    go again (Some (Err r)) h = rw (walk_fault n s at r h) (omega (arith, stands_inside s at (Err r) h))
    go again (Some (Ok e)) h = rw (walk_entry n s at e h) (omega (arith, again (at + e.len), stands s at e h))

pub entries_short : (s : List ℕ) → length (entries s) ≤ length s - 44
unfolding entries entries_from
entries_short s = walk_short (length s) s 44

-- Each entry of a list stands in the table, and a fault has the refusal of a fault.
pub data Standing (s : List ℕ) : List Item → Type 0 where
  none : Standing s []
  fault : {items : List Item} → Standing s items → Standing s (Err InconsistentEntry ∷ items)
  entry : {e : MadtEntry} {items : List Item} → Stands s e.at e → Standing s items → Standing s (Ok e ∷ items)

walk_stands : (n : ℕ) (s : List ℕ) (at : ℕ) → Standing s (walk n s at)
walk_stands zero s at = rw (walk_none s at) none
walk_stands (suc n) s at = go (walk_stands n s) (next_at s at) refl
  where
    go : ((at' : ℕ) → Standing s (walk n s at')) → (x : Option Item) → next_at s at ≡ x → Standing s (walk (suc n) s at)
    go again None h = rw (walk_end n s at h) none
    go again (Some (Err r)) h = rw (walk_fault n s at r h, fault_is s at r h) (fault none)
    go again (Some (Ok e)) h =
        let st = stands s at e h in
        rw (walk_entry n s at e h) (entry {e = e} (subst (λ n. Stands s n e) (sym st.place) st) (again (at + e.len)))

pub entries_stand : (s : List ℕ) → Standing s (entries s)
unfolding entries entries_from
entries_stand s = walk_stands (length s) s 44

-- What is known of the first item, and of those behind it.
module _ {s : List ℕ} {items rest : List Item} where
  pub standing_rest : {item : Item} → Standing s items → items ≡ item ∷ rest → Standing s rest
  standing_rest {item} stand q = go (rw q at stand)
    where
      go : {item : Item} {rest : List Item} → Standing s (item ∷ rest) → Standing s rest
      go (fault others) = others
      go (entry here others) = others

  pub standing_entry : {e : MadtEntry} → Standing s items → items ≡ Ok e ∷ rest → Stands s e.at e
  standing_entry stand q = go (rw q at stand)
    where
      go : {e : MadtEntry} {rest : List Item} → Standing s (Ok e ∷ rest) → Stands s e.at e
      go (entry here others) = here

  pub standing_fault : {r : Refusal} → Standing s items → items ≡ Err r ∷ rest → r ≡ InconsistentEntry
  standing_fault {r} stand q = go (rw q at stand)
    where
      go : {r : Refusal} {rest : List Item} → Standing s (Err r ∷ rest) → r ≡ InconsistentEntry
      go (fault others) = refl

-- Where no fault is to come, the first item is an entry, and none is to come behind it.
pub sound_entry : {items rest : List Item} {item : Item} → faulty items ≡ false → items ≡ item ∷ rest → IsOk item
unfolding faulty
sound_entry {rest = rest} {item = Ok e} sound q = refl
sound_entry {rest = rest} {item = Err r} sound q = absurd (true≢false (rw q at sound))

pub sound_rest : {items rest : List Item} {item : Item} → faulty items ≡ false → items ≡ item ∷ rest → faulty rest ≡ false
unfolding faulty
sound_rest {rest = rest} {item = Ok e} sound q = rw q at sound
sound_rest {rest = rest} {item = Err r} sound q = absurd (true≢false (rw q at sound))

-- Where no fault is to come, the items are the entries among them.
pub among_sound : (items : List Item) → faulty items ≡ false → map (λ (e : MadtEntry). Ok e) (entries_among items) ≡ items
unfolding faulty entries_among
among_sound [] sound = refl
among_sound (Ok e ∷ items) sound = ap (λ (items : List Item). Ok e ∷ items) (among_sound items sound)
among_sound (Err r ∷ items) sound = absurd (true≢false sound)

-- And an entry stands at each place in front of the table's end, with no fault behind it.
pub record SoundStep (s : List ℕ) (at : ℕ) : Type 0 where
  pub here : Stands s at (entry_at s at)
  pub first : entries_from s at ≡ Ok (entry_at s at) ∷ entries_from s (at + (entry_at s at).len)
  pub behind : faulty (entries_from s (at + (entry_at s at).len)) ≡ false

pub sound_step : (s : List ℕ) (at : ℕ) → faulty (entries_from s at) ≡ false → at < length s → SoundStep s at
sound_step s at sound inside = go (next_at s at) refl
  where
    go : (x : Option Item) → next_at s at ≡ x → SoundStep s at
    go None h = absurd (omega (arith, ended s at h))
    go (Some (Err r)) h = absurd (true≢false (sym (sound_entry sound (from_fault s at r h))))
    go (Some (Ok e)) h =
        let st = stands s at e h in
        let first = from_entry s at e h in
        subst (λ (e : MadtEntry). Stands s at e → entries_from s at ≡ Ok e ∷ entries_from s (at + e.len) → SoundStep s at) (sym st.is)
        (λ here first. record { here = here; first = first; behind = sound_rest sound first }) st first

-- The items from a place on, joined, are the bytes from there on: an entry's bytes and those behind it are what is left.
joined_walk : (n : ℕ) (s : List ℕ) (at : ℕ) → length s ≤ at + n → joined s at (walk n s at) ≡ drop at s
unfolding joined part
joined_walk zero s at h = rw (walk_none s at) (sym (drop_of_length-le s {i = at} (omega arith)))
joined_walk (suc n) s at h = go (joined_walk n s) (next_at s at) refl
  where
    go :
        ((at' : ℕ) → length s ≤ at' + n → joined s at' (walk n s at') ≡ drop at' s) →
        (x : Option Item) → next_at s at ≡ x → joined s at (walk (suc n) s at) ≡ drop at s
    go again None e = rw (walk_end n s at e) (sym (drop_of_length-le s (ended s at e)))
    go again (Some (Err r)) e = rw (walk_fault n s at r e) (append-nil (drop at s))
    go again (Some (Ok e)) eq =
        let st = stands s at e eq in
        let next : length s ≤ at + e.len + n = omega arith in
        rw (walk_entry n s at e eq, st.place, again (at + e.len) next, ← drop-drop e.len at s)
        (take-append-drop e.len (drop at s))

pub entries_are_the_table : EntriesAreTheTable
unfolding entries entries_from
entries_are_the_table s = joined_walk (length s) s 44 (omega arith)
