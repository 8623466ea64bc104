-- What a root table that was reported is: mapped whole, summing to 0 over its stated length, and said of it what it holds.
use Rattle.std.specs.Prelude.{ℕ, ◌-◌, ◌/◌, ◌%◌, ◌≤◌, ◌≡◌, List, length, sum}
use Rattle.memory.specs.Ranges.{ranges_of}
use Rattle.memory.specs.Places.{place_of, view_of}
use Rattle.sdt.specs.Header.{header_size, length_of, whole_of}
use Rattle.tables.specs.Root.{size_of, offset_of}
use Rattle.tables.specs.declared.RootTable.{RootTable}

pub record GoodRoot (image words : List ℕ) (root : RootTable) : Type 0 where
  pub mapped : length_of (view_of image words root.address) ≤ length (view_of image words root.address)
  pub header : header_size ≤ length_of (view_of image words root.address)
  pub sums : sum (whole_of (view_of image words root.address)) % 256 ≡ 0
  pub stands : root.at ≡ offset_of (place_of (ranges_of words) root.address)
  pub long : root.len ≡ length_of (view_of image words root.address)
  pub sized : root.entry_size ≡ size_of root.kind
  pub counted : root.entries ≡ (length_of (view_of image words root.address) - header_size) / size_of root.kind
