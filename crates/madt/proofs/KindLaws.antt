-- Laws about the kinds of entries.
use Rattle.std.proofs.Common.{◌≤◌, arith}
use Rattle.madt.specs.declared.Kind.{Kind}
use Rattle.madt.specs.declared.Kind.TheVariants.{
  LocalApic,
  IoApic,
  InterruptSourceOverride,
  NmiSource,
  LocalApicNmi,
  LocalApicAddressOverride,
  LocalX2Apic,
  X2ApicNmi,
  MultiprocessorWakeup,
  Foreign,
  Reserved,
}
use Rattle.madt.specs.Kinds.{least_length}

-- Every kind needs the two bytes that say kind and length.
pub at_least_two : (k : Kind) → 2 ≤ least_length k
at_least_two LocalApic = omega arith
at_least_two IoApic = omega arith
at_least_two InterruptSourceOverride = omega arith
at_least_two NmiSource = omega arith
at_least_two LocalApicNmi = omega arith
at_least_two LocalApicAddressOverride = omega arith
at_least_two LocalX2Apic = omega arith
at_least_two X2ApicNmi = omega arith
at_least_two MultiprocessorWakeup = omega arith
at_least_two Foreign = omega arith
at_least_two Reserved = omega arith
