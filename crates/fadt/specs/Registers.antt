-- Registers behind the fixed part, as generic addresses (ACPI 6.5, Table 5.9).
use Rattle.std.specs.Prelude.{ℕ, ◌+◌, List, Result, Err}
use Rattle.refusal.specs.declared.Refusal.{Refusal}
use Rattle.refusal.specs.declared.Refusal.TheVariants.{TooShort, NotThere}
use Rattle.field.specs.First.{when}
use Rattle.address.specs.Generic.{generic_address_at}
use Rattle.address.specs.declared.GenericAddress.{GenericAddress}
use Rattle.fadt.specs.Room.{lacks, early}

-- the register of twelve bytes at an offset
unfoldable pub register_at : List ℕ → ℕ → Result GenericAddress Refusal
register_at table at = when (lacks table (at + 12)) (Err TooShort) (generic_address_at table at)

-- RESET_REG.
abbrev pub reset_register : List ℕ → Result GenericAddress Refusal
reset_register table = register_at table 116

-- a register that a table has from revision 2 on
unfoldable pub sleep_register : List ℕ → ℕ → Result GenericAddress Refusal
sleep_register table at =
    when (lacks table 116) (Err TooShort)
    (when (early table) (Err NotThere)
    (register_at table at))

-- SLEEP_CONTROL_REG.
abbrev pub sleep_control_register : List ℕ → Result GenericAddress Refusal
sleep_control_register table = sleep_register table 244

-- SLEEP_STATUS_REG.
abbrev pub sleep_status_register : List ℕ → Result GenericAddress Refusal
sleep_status_register table = sleep_register table 256
