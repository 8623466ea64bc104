-- The records of the five lists, in 32-bit words (docs/TABLES.md, section 11).
use Rattle.std.specs.Prelude.{ℕ, ◌%◌, List, [], ◌∷◌, ◌++◌, Option, Some, None, if◌then◌else◌, ◌==◌}
use Rattle.madt.specs.Fields.{
  value,
  local_apic_uid,
  local_apic_id,
  local_apic_flags,
  local_x2apic_uid,
  local_x2apic_id,
  local_x2apic_flags,
  io_apic_id,
  io_apic_address,
  io_apic_interrupt_base,
  override_source,
  override_interrupt,
  override_flags,
  nmi_source_interrupt,
  nmi_source_flags,
  local_apic_nmi_uid,
  local_apic_nmi_line,
  x2apic_nmi_uid,
  x2apic_nmi_line,
}
use Rattle.madt.specs.Entries.{entries}
use Rattle.madt.specs.declared.MadtEntry.{MadtEntry}
use Rattle.madt.specs.declared.Kind.{Kind}
use Rattle.madt.specs.declared.Kind.TheVariants.{
  LocalApic,
  IoApic,
  InterruptSourceOverride,
  NmiSource,
  LocalApicNmi,
  LocalX2Apic,
  X2ApicNmi,
}
use Rattle.platform.specs.declared.State.{State}
use Rattle.platform.specs.declared.State.TheVariants.{Disabled, Waiting, Running}
use Rattle.platform.specs.declared.Record.{Record}
use Rattle.platform.specs.declared.Record.TheVariants.{Processor, IoApic as IoApicRecord, Override, NmiSource as NmiSourceRecord, NmiLine}
use Rattle.platform.specs.Lists.{ListName, those}

-- the number of each state of a processor
abbrev pub state_number : State → ℕ
state_number Disabled = 0
state_number Waiting = 1
state_number Running = 2

-- Bit 0 of the Local APIC flags, Enabled (5.2.12.2): a processor without it is disabled, one with it is in the state `enabled`.
abbrev pub state_of : ℕ → State → State
state_of flags enabled = if flags % 2 == 1 then enabled else Disabled

-- The uid 0xff of a Local APIC NMI entry stands for all processors (5.2.12.7). In a record 0xffffffff does, as in an entry for
-- the x2APIC (5.2.12.13).
abbrev pub uid_or_all : ℕ → ℕ
uid_or_all uid = if uid == 0xff then 0xffff_ffff else uid

-- The record of an entry of each kind: its list, and its two or three words. Of the MPS INTI flags (5.2.12.5) the low four bits
-- are told, polarity and trigger.
abbrev pub record_of : List ℕ → State → ℕ → Kind → Option Record
record_of s enabled at LocalApic =
    Some (Processor (value s at local_apic_uid ∷ value s at local_apic_id ∷ state_number (state_of (value s at local_apic_flags) enabled) ∷ []))
record_of s enabled at LocalX2Apic =
    Some (Processor (value s at local_x2apic_uid ∷ value s at local_x2apic_id ∷ state_number (state_of (value s at local_x2apic_flags) enabled) ∷ []))
record_of s enabled at IoApic =
    Some (IoApicRecord (value s at io_apic_id ∷ value s at io_apic_address ∷ value s at io_apic_interrupt_base ∷ []))
record_of s enabled at InterruptSourceOverride =
    Some (Override (value s at override_source ∷ value s at override_interrupt ∷ (value s at override_flags % 16) ∷ []))
record_of s enabled at NmiSource =
    Some (NmiSourceRecord (value s at nmi_source_interrupt ∷ (value s at nmi_source_flags % 16) ∷ []))
record_of s enabled at LocalApicNmi =
    Some (NmiLine (uid_or_all (value s at local_apic_nmi_uid) ∷ value s at local_apic_nmi_line ∷ []))
record_of s enabled at X2ApicNmi = Some (NmiLine (value s at x2apic_nmi_uid ∷ value s at x2apic_nmi_line ∷ []))
record_of s enabled at _ = None

-- the words of a record
abbrev pub spelled : Option Record → List ℕ
spelled None = []
spelled (Some (Processor words)) = words
spelled (Some (IoApicRecord words)) = words
spelled (Some (Override words)) = words
spelled (Some (NmiSourceRecord words)) = words
spelled (Some (NmiLine words)) = words

-- The records of some entries, one after the other. The state of the first that is enabled is given, the others wait.
unfoldable pub words_of : List ℕ → State → List MadtEntry → List ℕ
words_of s enabled [] = []
words_of s enabled (e ∷ es) = spelled (record_of s enabled e.at e.kind) ++ words_of s Waiting es

-- What list l holds. The first processor is the boot processor, which runs.
unfoldable pub list : ListName → List ℕ → List ℕ
list l s = words_of s Running (those l (entries s))
