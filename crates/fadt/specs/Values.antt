-- Addresses of other tables, and numbers behind the fixed part (ACPI 6.5, Table 5.9).
use Rattle.std.specs.Prelude.{ℕ, ◌+◌, List, Result, Ok, Err}
use Rattle.refusal.specs.declared.Refusal.{Refusal}
use Rattle.refusal.specs.declared.Refusal.TheVariants.{TooShort, NotThere}
use Rattle.field.specs.Number.{number}
use Rattle.field.specs.First.{differ, when}
use Rattle.field.specs.Then.{and_then}
use Rattle.fadt.specs.Room.{lacks}
use Rattle.fadt.specs.Forms.{form_of, by_form}

-- an address, which is none if it is zero
unfoldable pub nonzero : ℕ → Result ℕ Refusal
nonzero address = when (differ address 0) (Ok address) (Err NotThere)

-- an address with a narrow form of four bytes and a wide form of eight, by the form that counts
unfoldable pub formed : List ℕ → ℕ → ℕ → Result ℕ Refusal
formed table narrow wide =
    and_then (form_of table wide) (λ form. nonzero (by_form form (number table wide 8) (number table narrow 4)))

-- FIRMWARE_CTRL and X_FIRMWARE_CTRL, the address of the FACS.
abbrev pub facs_address : List ℕ → Result ℕ Refusal
facs_address table = formed table 36 132

-- DSDT and X_DSDT.
abbrev pub dsdt_address : List ℕ → Result ℕ Refusal
dsdt_address table = formed table 40 140

-- a number of n bytes behind the fixed part
unfoldable pub number_at : List ℕ → ℕ → ℕ → Result ℕ Refusal
number_at table at n = when (lacks table (at + n)) (Err TooShort) (Ok (number table at n))

-- RESET_VALUE.
abbrev pub reset_value : List ℕ → Result ℕ Refusal
reset_value table = number_at table 128 1

-- ARM_BOOT_ARCH.
abbrev pub arm_boot_arch : List ℕ → Result ℕ Refusal
arm_boot_arch table = number_at table 129 2
