-- The tables that the root table lists (docs/TABLES.md, "Tables"): the k-th entry, the n-th valid table, the table at an address.
use Rattle.std.specs.Prelude.{ℕ, List, slice_get, Option, Result, Ok}
use Rattle.std.specs.Option.{option_map, ok_or}
use Rattle.field.specs.Choice.{nth_valid}
use Rattle.field.specs.Then.{and_then}
use Rattle.refusal.specs.declared.Refusal.{Refusal}
use Rattle.refusal.specs.declared.Refusal.TheVariants.{NoValidTable, NotThere}
use Rattle.memory.specs.Ranges.{ranges_of}
use Rattle.memory.specs.Places.{place_of, view_of}
use Rattle.memory.specs.Asked.{asked}
use Rattle.sdt.specs.Header.{length_of}
use Rattle.sdt.specs.Valid.{table_checked}
use Rattle.sdt.specs.declared.Wanted.{Wanted}
use Rattle.tables.specs.Root.{root_of, listed, offset_of}
use Rattle.tables.specs.declared.Table.{Table}

-- the k-th entry of the root table, counted from 0, or the root's refusal
unfoldable pub entry_of : List ℕ → List ℕ → ℕ → ℕ → Result ℕ Refusal
entry_of image words rsdp k = and_then (root_of image words rsdp) (λ root. ok_or (slice_get (listed image words root) k) NotThere)

-- what is said of a table that is valid
unfoldable pub table_in : List ℕ → List ℕ → ℕ → Table
table_in image words p =
    record { address = p; at = offset_of (place_of (ranges_of words) p); len = length_of (view_of image words p) }

-- the check of the table at an address
unfoldable pub checked_at : List ℕ → List ℕ → Wanted → ℕ → ℕ → Result (Unit {0}) Refusal
checked_at image words wanted least p = table_checked wanted least (view_of image words p)

-- the table at an address of memory whose list of ranges is right, or what refuses it
unfoldable pub valid_table : List ℕ → List ℕ → Wanted → ℕ → ℕ → Result Table Refusal
valid_table image words wanted least p = and_then (checked_at image words wanted least p) (λ _. Ok (table_in image words p))

-- the table at an address
unfoldable pub table_at : List ℕ → List ℕ → ℕ → Wanted → ℕ → Result Table Refusal
table_at image words p wanted least = asked image words (valid_table image words wanted least p)

-- the n-th valid table among those that the root table lists, counted from 0
unfoldable pub nth_listed : List ℕ → List ℕ → Wanted → ℕ → ℕ → List ℕ → Option Table
nth_listed image words wanted least n ps = option_map (table_in image words) (nth_valid (checked_at image words wanted least) n ps)

-- the same, or the root's refusal
unfoldable pub nth_table : List ℕ → List ℕ → ℕ → Wanted → ℕ → ℕ → Result Table Refusal
nth_table image words rsdp wanted least n =
    and_then (root_of image words rsdp) (λ root. ok_or (nth_listed image words wanted least n (listed image words root)) NoValidTable)
