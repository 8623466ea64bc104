-- `are_ordered` meets its contract: the closure answers of each two neighbours whether the second follows the first.
use Rattle.std.proofs.Common.{rules, ℕ, List}
use Rattle.std.proofs.lemmas.List.Sorted.{answers_always}
use Rattle.memory.specs.Ranges.{range_of, follows}
use Rattle.memory.proofs.RangeLaws.{ordered_is}
use Rattle.memory.proofs.are_ordered.Goals as goal

pub returns : goal.returns
returns c =
    ordered_is c.args.ranges.now c.is_sorted_by.result
    (c.is_sorted_by.ensures.cases (λ (x y : List ℕ). follows (range_of x) (range_of y)) (answers_always _ _ _ (λ f a r f' k. search rules)))
