-- Answers one after the other: what an answer leads to, or its refusal.
use Rattle.std.specs.Prelude.{Result, Ok, Err}

abbrev pub and_then : {T U E : Type 0} → Result T E → (T → Result U E) → Result U E
and_then (Ok x) next = next x
and_then (Err e) next = Err e
