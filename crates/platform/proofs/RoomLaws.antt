-- Laws about the room in the lent tables, and about what refuses to fill them.
use Rattle.std.proofs.Common.{ℕ, ◌*◌, ◌/◌, ◌≤◌, ◌≡◌, refl, ap, sym, ◌∙◌, List, [], ◌∷◌, Bool, true, false, true≢false, mul-zero, mul-suc, arith, length, length-append}
use Rattle.std.specs.Prelude.{Result, Ok, Err}
use Rattle.std.proofs.lemmas.Bool.{or_parts}
use Rattle.refusal.specs.Number.{number_of}
use Rattle.refusal.specs.declared.Refusal.{Refusal}
use Rattle.refusal.specs.declared.Refusal.TheVariants.{BufferTooShort}
use Rattle.field.specs.First.{when, checked}
use Rattle.field.proofs.FirstLaws.{less_no, less_false, hit, pass, clear, all_clear, append_stops, append_passes, ascends, ascending}
use Rattle.field.proofs.ThenLaws.{then_ok, then_err}
use Rattle.madt.specs.Fixed.{madt_of}
use Rattle.madt.specs.Entries.{entries, faulty}
use Rattle.madt.proofs.EntryLaws.{Item}
use Rattle.madt.specs.declared.Kind.{Kind}
use Rattle.madt.specs.declared.Kind.TheVariants.{
  LocalApic,
  IoApic,
  InterruptSourceOverride,
  NmiSource,
  LocalApicNmi,
  LocalX2Apic,
  X2ApicNmi,
}
use Rattle.platform.specs.declared.Model.{Model}
use Rattle.platform.specs.Lists.{ListName, goes_to, those}
use Rattle.platform.specs.Lists.ListName.{processors, io_apics, interrupt_source_overrides, nmi_sources, local_apic_nmi_lines}
use Rattle.platform.specs.Records.{record_of, spelled, words_of, list}
use Rattle.platform.specs.declared.State.{State}
use Rattle.platform.specs.declared.State.TheVariants.{Waiting, Running}
use Rattle.platform.specs.Model.{model_with, refusals, RefusalsAscend, model_of}
use Rattle.platform.specs.Fill.{too_short, fill_refusals, fill_checked, FillRefusalsAscend, Filled}
use Rattle.platform.specs.Inner.{count}
use Rattle.platform.proofs.FillLaws.{of_list}

pub refusals_ascend : RefusalsAscend
unfolding refusals ascends
refusals_ascend s = ascending number_of 11 _ tt

pub fill_refusals_ascend : FillRefusalsAscend
unfolding fill_refusals refusals ascends
fill_refusals_ascend s p i o n l = ascending number_of 11 _ tt

-- How many words a record of each list has.
abbrev pub width : ListName → ℕ
width processors = 3
width io_apics = 3
width interrupt_source_overrides = 3
width nmi_sources = 2
width local_apic_nmi_lines = 2

record_width : (s : List ℕ) (enabled : State) (at : ℕ) (k : Kind) (l : ListName) → goes_to k l ≡ true → length (spelled (record_of s enabled at k)) ≡ width l
record_width s enabled at LocalApic processors h = refl
record_width s enabled at LocalX2Apic processors h = refl
record_width s enabled at IoApic io_apics h = refl
record_width s enabled at InterruptSourceOverride interrupt_source_overrides h = refl
record_width s enabled at NmiSource nmi_sources h = refl
record_width s enabled at LocalApicNmi local_apic_nmi_lines h = refl
record_width s enabled at X2ApicNmi local_apic_nmi_lines h = refl
record_width s enabled at _ _ h = absurd (true≢false (sym h))

-- So a list has as many words as its records have together.
words_width :
    (s : List ℕ) (l : ListName) (enabled : State) (items : List Item) →
    length (words_of s enabled (those l items)) ≡ width l * length (those l items)
unfolding words_of those when
words_width s l enabled [] = sym (mul-zero (width l))
words_width s l enabled (Err r ∷ items) = words_width s l enabled items
words_width s l enabled (Ok e ∷ items) = go (goes_to e.kind l) refl (words_width s l enabled items) (words_width s l Waiting items)
  where
    go :
        (t : Bool) → goes_to e.kind l ≡ t →
        length (words_of s enabled (those l items)) ≡ width l * length (those l items) →
        length (words_of s Waiting (those l items)) ≡ width l * length (those l items) →
        length (words_of s enabled (when t (e ∷ those l items) (those l items))) ≡ width l * length (when t (e ∷ those l items) (those l items))
    go true d h₁ h₂ =
        length-append (spelled (record_of s enabled e.at e.kind)) (words_of s Waiting (those l items))
        ∙ rw (record_width s enabled e.at e.kind l d, h₂, mul-suc (width l) (length (those l items))) (omega arith)
    go false d h₁ h₂ = h₁

-- What the answer about the model says of the reasons, and of the lengths of the lists.
pub record Accepted (s : List ℕ) (m : Model) : Type 0 where
  pub none : checked (refusals s) ≡ Ok tt
  pub words : (l : ListName) → length (list l s) ≡ width l * count m l

counted : (s : List ℕ) (l : ListName) → count (model_with s (madt_of s)) l ≡ length (those l (entries s))
unfolding model_with
counted s processors = refl
counted s _ = refl

pub accepted : {s : List ℕ} {m : Model} → model_of s ≡ Ok m → Accepted s m
unfolding model_of list
accepted {s} {m} h = go (checked (refusals s)) refl
  where
    go : (r : Result (Unit {0}) Refusal) → checked (refusals s) ≡ r → Accepted s m
    go (Ok x) e =
        let same : model_with s (madt_of s) ≡ m = cc (then_ok (λ _. Ok (model_with s (madt_of s))) e) in
        record {
          none = e;
          words = λ l. words_width s l Running (entries s) ∙ ap (λ n. width l * n) (sym (counted s l) ∙ ap (λ m. count m l) same);
        }
    go (Err r) e = absurd (cc (then_err (λ _. Ok (model_with s (madt_of s))) e))

pub refused : (s : List ℕ) {r : Refusal} → model_of s ≡ Err r → checked (refusals s) ≡ Err r
unfolding model_of
refused s {r} h = go (checked (refusals s)) refl
  where
    go : (a : Result (Unit {0}) Refusal) → checked (refusals s) ≡ a → checked (refusals s) ≡ Err r
    go (Ok x) e = absurd (cc (then_ok (λ _. Ok (model_with s (madt_of s))) e))
    go (Err q) e = e ∙ cc (then_err (λ _. Ok (model_with s (madt_of s))) e)

-- Where nothing refuses the model, its table has no fault.
pub sound : (s : List ℕ) → checked (refusals s) ≡ Ok tt → faulty (entries s) ≡ false
unfolding refusals
sound s none = (all_clear _ _ _ (all_clear _ _ _ none).others).fails

-- Every lent table has room for its list, by the tables' lengths.
abbrev pub Rooms : List ℕ → ℕ → ℕ → ℕ → ℕ → ℕ → Type 0
Rooms s p i o n l = (name : ListName) → length (list name s) ≤ of_list p i o n l name

-- What refuses to fill is what refuses the model, and else a table without room for its list.
module _ (s : List ℕ) (p i o n l : ℕ) where
  pub fill_refused : {r : Refusal} → checked (refusals s) ≡ Err r → Err r ≡ fill_checked s p i o n l
  unfolding fill_checked fill_refusals
  fill_refused {r} e = sym (append_stops (refusals s) _ r e)

  rooms_or_short : too_short s p i o n l ≡ false → Rooms s p i o n l
  unfolding too_short
  rooms_or_short h =
      let c₄ = or_parts _ _ h in
      let c₃ = or_parts _ _ c₄.0 in
      let c₂ = or_parts _ _ c₃.0 in
      let c₁ = or_parts _ _ c₂.0 in
      elim [
        | processors ↦ less_false _ _ c₁.0
        | io_apics ↦ less_false _ _ c₁.1
        | interrupt_source_overrides ↦ less_false _ _ c₂.1
        | nmi_sources ↦ less_false _ _ c₃.1
        | local_apic_nmi_lines ↦ less_false _ _ c₄.1
      ]

  pub fill_short : checked (refusals s) ≡ Ok tt → (Rooms s p i o n l → ⊥) → Err BufferTooShort ≡ fill_checked s p i o n l
  unfolding fill_checked fill_refusals
  fill_short none short = go (too_short s p i o n l) refl
    where
      go : (t : Bool) → too_short s p i o n l ≡ t → Err BufferTooShort ≡ fill_checked s p i o n l
      go true e = sym (append_passes (refusals s) _ none ∙ hit _ _ _ e)
      go false e = absurd (short (rooms_or_short e))

  pub fill_fits : checked (refusals s) ≡ Ok tt → Rooms s p i o n l → Ok tt ≡ fill_checked s p i o n l
  unfolding fill_checked fill_refusals too_short
  fill_fits none rooms =
      let long : too_short s p i o n l ≡ false =
      cc (less_no _ _ (rooms processors), less_no _ _ (rooms io_apics), less_no _ _ (rooms interrupt_source_overrides), less_no _ _ (rooms nmi_sources), less_no _ _ (rooms local_apic_nmi_lines)) in
      sym (append_passes (refusals s) _ none ∙ pass _ _ _ long clear)

-- There is room where the counts of the model say so.
pub has_room :
    {s : List ℕ} {m : Model} (p i o n l : ℕ) → Accepted s m → m.processors ≤ p / 3 → m.io_apics ≤ i / 3 →
    m.interrupt_source_overrides ≤ o / 3 → m.nmi_sources ≤ n / 2 → m.local_apic_nmi_lines ≤ l / 2 → Rooms s p i o n l
has_room p i o n l a hp hi ho hn hl =
    elim [
      | processors ↦ omega (arith, a.words processors)
      | io_apics ↦ omega (arith, a.words io_apics)
      | interrupt_source_overrides ↦ omega (arith, a.words interrupt_source_overrides)
      | nmi_sources ↦ omega (arith, a.words nmi_sources)
      | local_apic_nmi_lines ↦ omega (arith, a.words local_apic_nmi_lines)
    ]

-- A refusal leaves every table as it was.
pub untouched :
    {s p i o n l : List ℕ} {q : Refusal} → Err q ≡ fill_checked s (length p) (length i) (length o) (length n) (length l) →
    Filled s (Err q) p p i i o o n n l l
untouched e =
    record {
      answer = e;
      processors = refl;
      io_apics = refl;
      interrupt_source_overrides = refl;
      nmi_sources = refl;
      local_apic_nmi_lines = refl;
    }
