-- Flags are the bits of a number, the lowest being bit 0 (ACPI 6.5, Tables 5.10, 5.11 and 5.12).
use Rattle.std.specs.Prelude.{ℕ, ◌/◌, ◌%◌, ◌^◌, Bool, ◌==◌}

unfoldable pub flag_of : ℕ → ℕ → Bool
flag_of word bit = word / 2 ^ bit % 2 == 1
