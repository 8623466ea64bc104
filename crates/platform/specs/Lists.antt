-- Which entries of the MADT belong to the model, and to which of its lists.
use Rattle.std.specs.Prelude.{List, [], ◌∷◌, Bool, true, false, Result, Ok, Err}
use Rattle.refusal.specs.declared.Refusal.{Refusal}
use Rattle.field.specs.First.{when}
use Rattle.madt.specs.declared.MadtEntry.{MadtEntry}
use Rattle.madt.specs.declared.Kind.{Kind}
use Rattle.madt.specs.declared.Kind.TheVariants.{
  LocalApic,
  IoApic,
  InterruptSourceOverride,
  NmiSource,
  LocalApicNmi,
  LocalX2Apic,
  X2ApicNmi,
  MultiprocessorWakeup,
  Foreign,
  Reserved,
}

-- the five lists
pub data ListName : Type 0 where
  processors : ListName
  io_apics : ListName
  interrupt_source_overrides : ListName
  nmi_sources : ListName
  local_apic_nmi_lines : ListName

-- The entries of a kind go to the list. Those of a kind that is not named here go to none.
abbrev pub goes_to : Kind → ListName → Bool
goes_to LocalApic processors = true
goes_to LocalX2Apic processors = true
goes_to IoApic io_apics = true
goes_to InterruptSourceOverride interrupt_source_overrides = true
goes_to NmiSource nmi_sources = true
goes_to LocalApicNmi local_apic_nmi_lines = true
goes_to X2ApicNmi local_apic_nmi_lines = true
goes_to _ _ = false

-- an entry of this kind says that the machine has this interrupt model
abbrev pub of_model : Kind → Bool
of_model MultiprocessorWakeup = false
of_model Foreign = false
of_model Reserved = false
of_model _ = true

-- the entries that go to the list, in order
unfoldable pub those : ListName → List (Result MadtEntry Refusal) → List MadtEntry
those l [] = []
those l (Ok e ∷ items) = when (goes_to e.kind l) (e ∷ those l items) (those l items)
those l (Err r ∷ items) = those l items
