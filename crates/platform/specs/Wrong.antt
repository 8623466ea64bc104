-- What is wrong in an entry that is long enough: WrongEntryField (docs/TABLES.md, section 11).
use Rattle.std.specs.Prelude.{ℕ, ◌/◌, ◌%◌, List, Bool, false, not, ◌||◌, ◌==◌, nat_lt}
use Rattle.madt.specs.Fields.{
  value,
  override_bus,
  override_flags,
  nmi_source_flags,
  local_apic_nmi_line,
  x2apic_nmi_line,
}
use Rattle.madt.specs.declared.Kind.{Kind}
use Rattle.madt.specs.declared.Kind.TheVariants.{InterruptSourceOverride, NmiSource, LocalApicNmi, X2ApicNmi}

-- MPS INTI flags (5.2.12.5): polarity in bits 0 and 1, trigger in bits 2 and 3; the value 2 is reserved in both
abbrev pub wrong_flags : ℕ → Bool
wrong_flags flags = flags % 4 == 2 || flags / 4 % 4 == 2

-- an override is of the ISA bus, 0 (5.2.12.5)
abbrev pub wrong_bus : ℕ → Bool
wrong_bus bus = not (bus == 0)

-- a local APIC has the interrupt inputs 0 and 1 (5.2.12.7)
abbrev pub wrong_line : ℕ → Bool
wrong_line line = nat_lt 1 line

-- an entry of this kind at `at` is wrong
abbrev pub wrong_at : List ℕ → ℕ → Kind → Bool
wrong_at s at InterruptSourceOverride = wrong_bus (value s at override_bus) || wrong_flags (value s at override_flags)
wrong_at s at NmiSource = wrong_flags (value s at nmi_source_flags)
wrong_at s at LocalApicNmi = wrong_line (value s at local_apic_nmi_line)
wrong_at s at X2ApicNmi = wrong_line (value s at x2apic_nmi_line)
wrong_at s at _ = false
