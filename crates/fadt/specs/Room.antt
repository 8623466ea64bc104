-- Whether a slice is a table that holds a field (ACPI 6.5, section 5.2.6, field Length; section 5.2.9).
use Rattle.std.specs.Prelude.{ℕ, List, Bool, ◌||◌, length}
use Rattle.field.specs.Number.{number}
use Rattle.field.specs.First.{less, differ}

-- The slice has less than the 116 bytes of the fixed part, or its stated length is not its own, or it ends before `end`.
unfoldable pub lacks : List ℕ → ℕ → Bool
lacks table end = less (length table) 116 || (differ (number table 4 4) (length table) || less (length table) end)

-- The revision, which is the byte at 8, is below 2: such a table has neither wide forms nor sleep registers.
unfoldable pub early : List ℕ → Bool
early table = less (number table 8 1) 2
