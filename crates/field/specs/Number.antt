-- A number in a table: some bytes from an offset on, lowest byte first (ACPI 6.5, section 5.2: all numbers are little endian).
use Rattle.std.specs.Prelude.{ℕ, zero, suc, ◌+◌, ◌*◌, List, slice_index}

-- the number that the n bytes of s from `at` on make
unfoldable pub number : List ℕ → ℕ → ℕ → ℕ
number s at zero = 0
number s at (suc n) = slice_index s at + 256 * number s (at + 1) n
