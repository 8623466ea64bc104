-- `sum` meets its contract: adding up modulo 256 at each byte is adding up first.
use Rattle.std.proofs.Common.{rules, tests, ◌≡◌, ◌+◌, ◌%◌, ◌∙◌, arith, refl}
use Rattle.std.proofs.lemmas.Iterator.{YieldsList-from_slice}
use Rattle.std.proofs.lemmas.Iterator.Consumers.{fold_from_yields_List}
use Rattle.std.proofs.lemmas.List.Folds.{fold_along}
use Rattle.field.proofs.sum.Goals as goal

pub returns : goal.returns
returns c =
    fold_from_yields_List _ (λ t b. (t + b) % 256) 0 _ c.fold.ensures.ran (YieldsList-from_slice c.args.bytes.now cc) (λ t b r q k. search (rules, tests))
    ∙ fold_along (λ t b. (t + b) % 256) (λ t b. t + b) (λ t s. t ≡ s % 256) (λ t s b e. omega arith) 0 0 c.args.bytes.now refl
