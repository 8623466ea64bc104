-- The questions about the FADT that are asked by number.
use Rattle.std.specs.Prelude.{ℕ, List, not, Result, Ok, Err}
use Rattle.field.specs.First.{differ, when}
use Rattle.field.specs.Then.{and_then}
use Rattle.refusal.specs.declared.Refusal.{Refusal}
use Rattle.refusal.specs.declared.Refusal.TheVariants.{NotThere}
use Rattle.address.specs.declared.GenericAddress.{GenericAddress}
use Rattle.fadt.specs.Blocks.{nth_register_block}
use Rattle.fadt.specs.Registers.{reset_register, sleep_control_register, sleep_status_register}
use Rattle.fadt.specs.Values.{facs_address, dsdt_address, reset_value, arm_boot_arch}
use Rattle.fadt.specs.Profiles.{power_profile, profile_number}

-- 0 to 7 the register blocks in the order of the table, 8 reset, 9 sleep control, 10 sleep status; no other number names one
unfoldable pub register_of : List ℕ → ℕ → Result GenericAddress Refusal
register_of t which =
    when (not (differ which 8)) (reset_register t)
    (when (not (differ which 9)) (sleep_control_register t)
    (when (not (differ which 10)) (sleep_status_register t) (nth_register_block t which)))

-- the power profile by its number
unfoldable pub profile_of : List ℕ → Result ℕ Refusal
profile_of t = and_then (power_profile t) (λ profile. Ok (profile_number profile))

-- a number that names nothing: NotThere, and TooShort of a slice that is no FADT
unfoldable pub no_number : List ℕ → Result ℕ Refusal
no_number t = and_then (power_profile t) (λ profile. Err NotThere)

-- 0 FACS address, 1 DSDT address, 2 reset value, 3 ARM boot flags, 4 power profile; no other number names one
unfoldable pub number_of : List ℕ → ℕ → Result ℕ Refusal
number_of t which =
    when (not (differ which 0)) (facs_address t)
    (when (not (differ which 1)) (dsdt_address t)
    (when (not (differ which 2)) (reset_value t)
    (when (not (differ which 3)) (arm_boot_arch t)
    (when (not (differ which 4)) (profile_of t)
    (no_number t)))))
