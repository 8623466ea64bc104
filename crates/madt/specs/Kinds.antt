-- The kinds of entries, which the specification calls interrupt controller structure types (ACPI 6.5, section 5.2.12). What a
-- kind is, and which lengths it may have, is said here and nowhere else.
use Rattle.std.specs.Prelude.{ℕ, List, [], ◌∷◌, slice_index_or}
use Rattle.madt.specs.declared.Kind.{Kind}
use Rattle.madt.specs.declared.Kind.TheVariants.{
  LocalApic,
  IoApic,
  InterruptSourceOverride,
  NmiSource,
  LocalApicNmi,
  LocalApicAddressOverride,
  LocalX2Apic,
  X2ApicNmi,
  MultiprocessorWakeup,
  Foreign,
  Reserved,
}

-- The kinds 0 to 16, in order. 6 to 8 are those of the SAPIC and 11 to 15 those of the GIC.
unfoldable pub kinds : List Kind
kinds =
    LocalApic
    ∷ IoApic
    ∷ InterruptSourceOverride
    ∷ NmiSource
    ∷ LocalApicNmi
    ∷ LocalApicAddressOverride
    ∷ Foreign
    ∷ Foreign
    ∷ Foreign
    ∷ LocalX2Apic
    ∷ X2ApicNmi
    ∷ Foreign
    ∷ Foreign
    ∷ Foreign
    ∷ Foreign
    ∷ Foreign
    ∷ MultiprocessorWakeup
    ∷ []

-- the kind that a number is: from 17 up they are reserved
unfoldable pub kind_of : ℕ → Kind
kind_of number = slice_index_or kinds number Reserved

-- The least length of an entry of each kind (sections 5.2.12.2 to 5.2.12.19). No length byte says 256, so an entry of another
-- interrupt model is never long enough. A reserved kind needs the two bytes that every entry begins with.
abbrev pub least_length : Kind → ℕ
least_length LocalApic = 8
least_length IoApic = 12
least_length InterruptSourceOverride = 10
least_length NmiSource = 8
least_length LocalApicNmi = 6
least_length LocalApicAddressOverride = 12
least_length LocalX2Apic = 16
least_length X2ApicNmi = 12
least_length MultiprocessorWakeup = 16
least_length Foreign = 256
least_length Reserved = 2
