-- The list of ranges (docs/TABLES.md, "Memory"): which lists are right.
use Rattle.std.specs.Prelude.{ℕ, ◌+◌, ◌/◌, ◌%◌, ◌^◌, List, [], ◌∷◌, Bool, true, ◌&&◌, nat_le, nat_lt, ◌==◌, length, slice_index}
use Rattle.std.specs.List.{list_all}
use Rattle.memory.specs.declared.Range.{Range}

-- the list is flat, three numbers to a range: where it begins in memory, how long it is, and its offset in the slice
abbrev pub range_of : List ℕ → Range
range_of numbers = record { start = slice_index numbers 0; len = slice_index numbers 1; offset = slice_index numbers 2 }

unfoldable pub ranges_of : List ℕ → List Range
ranges_of [] = []
ranges_of (start ∷ []) = []
ranges_of (start ∷ len ∷ []) = []
ranges_of (start ∷ len ∷ offset ∷ rest) = record { start = start; len = len; offset = offset } ∷ ranges_of rest

-- a list has at most so many ranges
abbrev pub most_ranges : ℕ
most_ranges = 64

-- a range lies inside the slice, which has size bytes, and ends at 2^64 or below
abbrev pub inside : ℕ → Range → Bool
inside size r = nat_le (r.offset + r.len) size && nat_le (r.start + r.len) (2 ^ 64)

-- s starts above the start of r, and not before the end of r
abbrev pub follows : Range → Range → Bool
follows r s = nat_lt r.start s.start && nat_le (r.start + r.len) s.start

-- ascending by start, no two overlapping
unfoldable pub ordered : List Range → Bool
ordered [] = true
ordered (r ∷ []) = true
ordered (r ∷ s ∷ rest) = follows r s && ordered (s ∷ rest)

-- the list is right for a slice of size bytes
unfoldable pub right : ℕ → List ℕ → Bool
right size words =
    length words % 3 == 0
    && nat_le (length words / 3) most_ranges
    && list_all (inside size) (ranges_of words)
    && ordered (ranges_of words)
