-- What the contracts of inner functions cite. No promise to a caller rests on these.
use Rattle.std.specs.Prelude.{ℕ, ◌+◌, List, ◌||◌, Result, Ok, Err, if◌then◌else◌, ◌==◌}
use Rattle.refusal.specs.declared.Refusal.{Refusal}
use Rattle.refusal.specs.declared.Refusal.TheVariants.{InconsistentEntry}
use Rattle.field.specs.First.{when}
use Rattle.madt.specs.Entries.{entries, faulty}
use Rattle.madt.specs.declared.Madt.{Madt}
use Rattle.madt.specs.declared.MadtEntry.{MadtEntry}
use Rattle.platform.specs.declared.Model.{Model}
use Rattle.platform.specs.declared.Seen.{Seen}
use Rattle.platform.specs.Lists.{ListName, goes_to, of_model}
use Rattle.platform.specs.Lists.ListName.{processors, io_apics, interrupt_source_overrides, nmi_sources, local_apic_nmi_lines}
use Rattle.platform.specs.declared.State.{State}
use Rattle.platform.specs.declared.State.TheVariants.{Waiting, Running}
use Rattle.platform.specs.Model.{some, wrong, model_with, address_after}

-- how many records the model has in a list
abbrev pub count : Model → ListName → ℕ
count m processors = m.processors
count m io_apics = m.io_apics
count m interrupt_source_overrides = m.interrupt_source_overrides
count m nmi_sources = m.nmi_sources
count m local_apic_nmi_lines = m.local_apic_nmi_lines

-- the model with one more entry taken in
abbrev pub with_entry : List ℕ → Model → MadtEntry → Model
with_entry s m e =
    record {
      known = m.known || of_model e.kind;
      local_apic_address = address_after s m.local_apic_address e.at e.kind;
      also_has_legacy_pics = m.also_has_legacy_pics;
      processors = m.processors + (if goes_to e.kind processors then 1 else 0);
      io_apics = m.io_apics + (if goes_to e.kind io_apics then 1 else 0);
      interrupt_source_overrides = m.interrupt_source_overrides + (if goes_to e.kind interrupt_source_overrides then 1 else 0);
      nmi_sources = m.nmi_sources + (if goes_to e.kind nmi_sources then 1 else 0);
      local_apic_nmi_lines = m.local_apic_nmi_lines + (if goes_to e.kind local_apic_nmi_lines then 1 else 0);
    }

-- what going through the entries tells: a fault, or whether an entry is wrong, and the model
unfoldable pub seen_of : List ℕ → Madt → Result Seen Refusal
seen_of s m =
    when (faulty (entries s)) (Err InconsistentEntry) (Ok (record { wrong = some (wrong s) (entries s); model = model_with s m }))

-- the state of the next processor that is enabled, where so many words are written already
abbrev pub enabled_at : ℕ → State
enabled_at to = if to == 0 then Running else Waiting
