-- The interrupt model that the entries of the MADT describe, and the refusals of it.
use Rattle.std.specs.Prelude.{ℕ, ◌≡◌, List, [], ◌∷◌, Bool, false, ◌&&◌, ◌||◌, ◌==◌, length, Result, Ok, Err}
use Rattle.refusal.specs.Number.{number_of}
use Rattle.refusal.specs.declared.Refusal.{Refusal}
use Rattle.refusal.specs.declared.Refusal.TheVariants.{TooShort, InconsistentEntry, WrongEntryField}
use Rattle.field.specs.First.{Reason, checked, Ascending}
use Rattle.field.specs.First.Reason.{◌gives◌}
use Rattle.field.specs.Then.{and_then}
use Rattle.madt.specs.Fields.{value, address_override}
use Rattle.madt.specs.Fixed.{not_madt, madt_of}
use Rattle.madt.specs.Entries.{entries, faulty}
use Rattle.madt.specs.declared.Madt.{Madt}
use Rattle.madt.specs.declared.MadtEntry.{MadtEntry}
use Rattle.madt.specs.declared.Kind.{Kind}
use Rattle.madt.specs.declared.Kind.TheVariants.{LocalApicAddressOverride}
use Rattle.platform.specs.declared.Model.{Model}
use Rattle.platform.specs.Lists.{ListName, of_model, those}
use Rattle.platform.specs.Lists.ListName.{processors, io_apics, interrupt_source_overrides, nmi_sources, local_apic_nmi_lines}
use Rattle.platform.specs.Wrong.{wrong_at}

-- some entry has the property
unfoldable pub some : (MadtEntry → Bool) → List (Result MadtEntry Refusal) → Bool
some property [] = false
some property (Ok e ∷ items) = property e || some property items
some property (Err r ∷ items) = some property items

-- the entry belongs to the model
abbrev pub belongs : MadtEntry → Bool
belongs e = of_model e.kind

-- the entry is wrong
abbrev pub wrong : List ℕ → MadtEntry → Bool
wrong s e = wrong_at s e.at e.kind

-- the local address after an entry: a Local APIC Address Override replaces it (5.2.12.8)
abbrev pub address_after : List ℕ → ℕ → ℕ → Kind → ℕ
address_after s address at LocalApicAddressOverride = value s at address_override
address_after s address at _ = address

-- the local address after all entries, so that the last override wins
unfoldable pub last_address : List ℕ → ℕ → List (Result MadtEntry Refusal) → ℕ
last_address s address [] = address
last_address s address (Ok e ∷ items) = last_address s (address_after s address e.at e.kind) items
last_address s address (Err r ∷ items) = last_address s address items

-- The model with the fields of the fixed part: known where some entry belongs to it, and the lengths of its lists.
unfoldable pub model_with : List ℕ → Madt → Model
model_with s m =
    record {
      known = some belongs (entries s);
      local_apic_address = last_address s m.local_apic_address (entries s);
      also_has_legacy_pics = m.supports_8259;
      processors = length (those processors (entries s));
      io_apics = length (those io_apics (entries s));
      interrupt_source_overrides = length (those interrupt_source_overrides (entries s));
      nmi_sources = length (those nmi_sources (entries s));
      local_apic_nmi_lines = length (those local_apic_nmi_lines (entries s));
    }

-- Where the model is not known, all of its lists are empty.
abbrev pub UnknownIsEmpty : Type 0
UnknownIsEmpty = (s : List ℕ) (m : Madt) → (model_with s m).known ≡ false → (l : ListName) → those l (entries s) ≡ []

-- a known model without a processor
abbrev pub lacks_processor : Model → Bool
lacks_processor model = model.known && model.processors == 0

-- why there is no model
unfoldable pub refusals : List ℕ → List (Reason Refusal)
refusals s =
    (not_madt s gives TooShort)
    ∷ (faulty (entries s) gives InconsistentEntry)
    ∷ (lacks_processor (model_with s (madt_of s)) gives InconsistentEntry)
    ∷ (some (wrong s) (entries s) gives WrongEntryField)
    ∷ []

-- The reasons ascend, so that the first that holds gives the smallest number that applies, wherever the entries stand.
abbrev pub RefusalsAscend : Type 0
RefusalsAscend = (s : List ℕ) → Ascending number_of 11 (refusals s)

unfoldable pub model_of : List ℕ → Result Model Refusal
model_of s = and_then (checked (refusals s)) (λ _. Ok (model_with s (madt_of s)))
