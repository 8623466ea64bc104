-- Laws about answers one after the other.
use Rattle.std.proofs.Common.{◌≡◌, ap}
use Rattle.std.specs.Prelude.{Result, Ok, Err}
use Rattle.field.specs.Then.{and_then}

-- An answer leads on, and a refusal stays.
pub then_ok : {T U E : Type 0} (next : T → Result U E) {r : Result T E} {x : T} → r ≡ Ok x → and_then r next ≡ next x
then_ok next e = ap (λ (s : Result _ _). and_then s next) e

pub then_err : {T U E : Type 0} (next : T → Result U E) {r : Result T E} {d : E} → r ≡ Err d → and_then r next ≡ Err d
then_err next e = ap (λ (s : Result _ _). and_then s next) e
