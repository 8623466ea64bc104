-- What the values of an answer are.
use Rattle.std.specs.Prelude.{ℕ, List, [], Result, Ok, Err}

-- A refusal has none.
abbrev pub values_of : {E : Type 0} → Result (List ℕ) E → List ℕ
values_of (Ok values) = values
values_of (Err e) = []
