-- A question that is asked of a slice with its list of ranges: a wrong list is refused, else the memory answers.
use Rattle.std.specs.Prelude.{ℕ, List, not, length, Result, Err}
use Rattle.field.specs.First.{when}
use Rattle.refusal.specs.declared.Refusal.{Refusal}
use Rattle.refusal.specs.declared.Refusal.TheVariants.{WrongRanges}
use Rattle.memory.specs.Ranges.{right}

unfoldable pub asked : {T : Type 0} → List ℕ → List ℕ → Result T Refusal → Result T Refusal
asked image words answer = when (not (right (length image) words)) (Err WrongRanges) answer
