-- The fixed part of the MADT, 44 bytes (ACPI 6.5, section 5.2.12): the header, the local interrupt controller's address at 36
-- and the flags at 40.
use Rattle.std.specs.Prelude.{ℕ, ◌%◌, List, Bool, ◌||◌, length, ◌==◌, Result, Ok, Err}
use Rattle.refusal.specs.declared.Refusal.{Refusal}
use Rattle.refusal.specs.declared.Refusal.TheVariants.{TooShort}
use Rattle.field.specs.Number.{number}
use Rattle.field.specs.First.{when, less, differ}
use Rattle.field.specs.Then.{and_then}
use Rattle.madt.specs.declared.Madt.{Madt}

-- the slice is no MADT: it is shorter than the fixed part, or the length in the header, at 4, is not the slice's
unfoldable pub not_madt : List ℕ → Bool
not_madt s = less (length s) 44 || differ (number s 4 4) (length s)

unfoldable pub madt_checked : List ℕ → Result (Unit {0}) Refusal
madt_checked s = when (not_madt s) (Err TooShort) (Ok tt)

-- Bit 0 of the flags, PCAT_COMPAT: the machine also has a pair of 8259 controllers.
unfoldable pub madt_of : List ℕ → Madt
madt_of s =
    record {
      local_apic_address = number s 36 4;
      flags = number s 40 4;
      supports_8259 = number s 40 4 % 2 == 1;
    }

unfoldable pub fixed_of : List ℕ → Result Madt Refusal
fixed_of s = and_then (madt_checked s) (λ _. Ok (madt_of s))
