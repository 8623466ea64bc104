-- Laws about going through all entries once.
use Rattle.std.proofs.Common.{ℕ, ◌+◌, ◌-◌, ◌≤◌, ◌≡◌, refl, ap, ap₂, sym, ◌∙◌, List, [], ◌∷◌, Bool, true, false, ◌||◌, arith, length, zero-add}
use Rattle.std.specs.Prelude.{Result, Ok, Err, if◌then◌else◌}
use mathlib.Core.Bool.{or-false, or_assoc}
use Rattle.refusal.specs.declared.Refusal.{Refusal}
use Rattle.refusal.specs.declared.Refusal.TheVariants.{InconsistentEntry}
use Rattle.field.specs.First.{when}
use Rattle.field.proofs.FirstLaws.{when_hit, when_pass}
use Rattle.madt.specs.Entries.{entries, faulty}
use Rattle.madt.specs.declared.Madt.{Madt}
use Rattle.madt.specs.declared.MadtEntry.{MadtEntry}
use Rattle.madt.proofs.EntryLaws.{Item, Standing, entries_stand, entries_short, standing_rest, standing_fault}
use Rattle.platform.specs.declared.Model.{Model}
use Rattle.platform.specs.declared.Seen.{Seen}
use Rattle.platform.specs.Lists.{ListName, those}
use Rattle.platform.specs.Lists.ListName.{processors, io_apics, interrupt_source_overrides, nmi_sources, local_apic_nmi_lines}
use Rattle.platform.specs.Wrong.{wrong_at}
use Rattle.platform.specs.Model.{some, belongs, wrong, last_address, model_with}
use Rattle.platform.specs.Inner.{count, with_entry, seen_of}
use Rattle.platform.proofs.ListLaws.{those_short}

-- What is told so far, with what the items that are left tell, is what the whole table tells.
pub record Surveying (s : List ℕ) (m : Madt) (bad : Bool) (model : Model) (items : List Item) : Type 0 where
  pub standing : Standing s items
  pub counted : (l : ListName) → count model l + length (those l items) ≡ length (those l (entries s))
  pub belonging : (model.known || some belongs items) ≡ some belongs (entries s)
  pub mistaken : (bad || some (wrong s) items) ≡ some (wrong s) (entries s)
  pub addressed : last_address s model.local_apic_address items ≡ last_address s m.local_apic_address (entries s)
  pub legacy : model.also_has_legacy_pics ≡ m.supports_8259
  pub faults : faulty items ≡ faulty (entries s)

-- At the start nothing is told and everything is left.
abbrev pub untold : Madt → Model
untold m =
    record {
      known = false;
      local_apic_address = m.local_apic_address;
      also_has_legacy_pics = m.supports_8259;
      processors = 0;
      io_apics = 0;
      interrupt_source_overrides = 0;
      nmi_sources = 0;
      local_apic_nmi_lines = 0;
    }

pub survey_start : (s : List ℕ) (m : Madt) → Surveying s m false (untold m) (entries s)
survey_start s m =
    record {
      standing = entries_stand s;
      counted = elim [
        | processors ↦ zero-add _
        | io_apics ↦ zero-add _
        | interrupt_source_overrides ↦ zero-add _
        | nmi_sources ↦ zero-add _
        | local_apic_nmi_lines ↦ zero-add _
      ];
      belonging = refl;
      mistaken = refl;
      addressed = refl;
      legacy = refl;
      faults = refl;
    }

-- One more record, where the entry goes to the list.
counted_entry : (k n : ℕ) (t : Bool) (e : MadtEntry) (those : List MadtEntry) → k + length (when t (e ∷ those) those) ≡ n → k + (if t then 1 else 0) + length those ≡ n
unfolding when
counted_entry k n true e those h = omega arith
counted_entry k n false e those h = omega arith

-- An entry is taken in, and the items behind it are left.
pub survey_entry :
    {s : List ℕ} {m : Madt} {bad bad' : Bool} {model model' : Model} {items rest : List Item} {item : Item} {e : MadtEntry} →
    Surveying s m bad model items → items ≡ item ∷ rest → item ≡ Ok e → bad' ≡ wrong_at s e.at e.kind → model' ≡ with_entry s model e →
    Surveying s m (bad || bad') model' rest
unfolding those some last_address faulty
survey_entry {s} {m} {bad} {model = model} {rest = rest} {e = e} was₀ q is qb qm =
    let was : Surveying s m bad model (Ok e ∷ rest) = rw (q, is) at was₀ in
    rw (qb, qm) (record {
      standing = standing_rest was.standing refl;
      counted = elim [
        | processors ↦ counted_entry _ _ _ e _ (was.counted processors)
        | io_apics ↦ counted_entry _ _ _ e _ (was.counted io_apics)
        | interrupt_source_overrides ↦ counted_entry _ _ _ e _ (was.counted interrupt_source_overrides)
        | nmi_sources ↦ counted_entry _ _ _ e _ (was.counted nmi_sources)
        | local_apic_nmi_lines ↦ counted_entry _ _ _ e _ (was.counted local_apic_nmi_lines)
      ];
      belonging = or_assoc model.known _ _ ∙ was.belonging;
      mistaken = or_assoc bad _ _ ∙ was.mistaken;
      addressed = was.addressed;
      legacy = was.legacy;
      faults = was.faults;
    })

module _ {s : List ℕ} {m : Madt} {bad : Bool} {model : Model} where
  -- No count is above the number of entries.
  pub count_small : {items : List Item} → Surveying s m bad model items → (l : ListName) → count model l ≤ length s - 44
  count_small was l = omega (arith, was.counted l, those_short l (entries s), entries_short s)

  -- A fault refuses, and at the end all is told.
  pub survey_fault :
      {items rest : List Item} {item : Item} {r : Refusal} → Surveying s m bad model items → items ≡ item ∷ rest → item ≡ Err r →
      Err r ≡ seen_of s m
  unfolding faulty seen_of
  survey_fault {rest = rest} {r = r} was₀ q is =
      let was : Surveying s m bad model (Err r ∷ rest) = rw (q, is) at was₀ in
      ap Err (standing_fault was.standing refl) ∙ sym (when_hit _ _ _ (sym was.faults))

  pub survey_end : {items : List Item} → Surveying s m bad model items → items ≡ [] → Ok (record { wrong = bad; model = model }) ≡ seen_of s m
  unfolding those some last_address faulty model_with seen_of
  survey_end was₀ q =
      let was : Surveying s m bad model [] = rw q at was₀ in
      let told : (l : ListName) → count model l ≡ length (those l (entries s)) = λ l. omega (arith, was.counted l) in
      let n₀ = told processors in
      let n₁ = told io_apics in
      let n₂ = told interrupt_source_overrides in
      let n₃ = told nmi_sources in
      let n₄ = told local_apic_nmi_lines in
      let known = sym (or-false model.known) ∙ was.belonging in
      let mistaken = sym (or-false bad) ∙ was.mistaken in
      let made : Model = record {
        known = model.known;
        local_apic_address = model.local_apic_address;
        also_has_legacy_pics = model.also_has_legacy_pics;
        processors = model.processors;
        io_apics = model.io_apics;
        interrupt_source_overrides = model.interrupt_source_overrides;
        nmi_sources = model.nmi_sources;
        local_apic_nmi_lines = model.local_apic_nmi_lines;
      }
      in
      let same : made ≡ model_with s m = cc in
      let seen : Seen = record { wrong = some (wrong s) (entries s); model = model_with s m } in
      let told : ◌≡◌ {A = Result Seen Refusal} (Ok (record { wrong = bad; model = model })) (Ok seen) =
      ap₂ (λ bad model. Ok (record { wrong = bad; model = model })) mistaken same
      in
      told ∙ sym (when_pass _ (Err InconsistentEntry) (Ok seen) (sym was.faults))
