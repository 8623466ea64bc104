-- A part of a list of bytes.
use Rattle.std.specs.Prelude.{ℕ, List, take, drop}

-- the n bytes of s from `at` on, or as many of them as s has
unfoldable pub part : List ℕ → ℕ → ℕ → List ℕ
part s at n = take n (drop at s)
