-- `is_right` meets its contract: each test that fails makes the list wrong, and after them the order decides.
use Rattle.std.proofs.Common.{ap, sym, ◌∙◌, ⊎_elim, arith}
use Rattle.std.specs.List.{list_all}
use Rattle.memory.specs.Ranges.{inside, ordered}
use Rattle.memory.proofs.RangeLaws.{right_cut, right_many, right_outside, right_order}
use Rattle.memory.proofs.is_right.Goals as goal

pub returns-then-ranges-ne0 : goal.returns-then-ranges-ne0
returns-then-ranges-ne0 c =
    let words = c.args.ranges.now in
    sym (⊎_elim (λ cut. right_cut _ words (omega arith)) (λ many. right_many _ words (omega arith)) c.then-ranges-ne0.either)

pub returns-then-are_inside : goal.returns-then-are_inside
returns-then-are_inside c =
    let same = c.listed-list.ensures.ranges in
    let within = ap (list_all (inside _)) (sym same) ∙ sym c.are_inside.ensures ∙ c.if-are_inside.true in
    c.are_ordered.ensures ∙ ap ordered same ∙ sym (right_order _ c.args.ranges.now (omega arith) (omega arith) within)

pub returns-else-are_inside : goal.returns-else-are_inside
returns-else-are_inside c =
    let outside = ap (list_all (inside _)) (sym c.listed-list.ensures.ranges) ∙ sym c.are_inside.ensures ∙ c.if-are_inside.false in
    c.if-are_inside.false ∙ sym (right_outside _ c.args.ranges.now outside)
