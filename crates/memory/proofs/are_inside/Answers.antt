-- `are_inside` meets its contract: the closure answers of each chunk what the test says of its range.
use Rattle.std.proofs.Common.{rules, tests, ℕ, List, sym, ◌∙◌}
use Rattle.std.proofs.lemmas.Iterator.{YieldsList-from_slice}
use Rattle.std.proofs.lemmas.Iterator.Search.{all_from_yields_List}
use Rattle.std.proofs.lemmas.List.Folds.{list_all-map}
use Rattle.memory.specs.Ranges.{range_of, inside}
use Rattle.memory.proofs.are_inside.Goals as goal

pub returns : goal.returns
returns c =
    let a = c.args in
    all_from_yields_List (λ (n : List ℕ). inside a.size (range_of n)) _ _ _ c.all.ensures.ran (YieldsList-from_slice a.ranges.now cc)
    (λ x b q k. search (rules, tests))
    ∙ sym (list_all-map (inside a.size) range_of a.ranges.now)
