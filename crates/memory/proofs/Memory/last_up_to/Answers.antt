-- `last_up_to` meets its contract: the starts ascend, so the search parts the ranges, and the one in front of the point decides.
use Rattle.std.proofs.Common.{sym}
use Rattle.std.proofs.lemmas.Option.{MatchOption-at_some, MatchOption-at_none}
use Rattle.memory.proofs.PlaceLaws.{last_of_part}
use Rattle.memory.proofs.Memory.last_up_to.Goals as goal

pub returns-in_err-numbers : goal.returns-in_err-numbers
returns-in_err-numbers c =
    let m = c.args.self in
    let l = c.listed-ranges in
    let i = c.starting_up_to-starting in
    rw c.from_residual.ensures
    (MatchOption-at_none _ _ (sym c.in_err-numbers.ensures.value)
    (last_of_part _ m.ranges.now c.args.p l.result.now m.right_ranges l.ensures.ranges i.result i.ensures.bound i.ensures.parted))

pub returns : goal.returns
returns c =
    let m = c.args.self in
    let l = c.listed-ranges in
    let i = c.starting_up_to-starting in
    rw c.from.ensures
    (MatchOption-at_some _ _ c.in_ok-numbers.numbers.now (sym c.in_ok-numbers.ensures.value)
    (last_of_part _ m.ranges.now c.args.p l.result.now m.right_ranges l.ensures.ranges i.result i.ensures.bound i.ensures.parted))
