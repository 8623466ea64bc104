-- `unmapped_up_to` meets its contract: the search parts the ranges, and the one behind the point is the next to start.
use Rattle.std.proofs.Common.{rules}
use Rattle.memory.proofs.PlaceLaws.{next_of_part}
use Rattle.memory.proofs.Memory.unmapped_up_to.Goals as goal

pub returns-in-Some : goal.returns-in-Some
returns-in-Some c none =
    let m = c.args.self in
    let l = c.listed-ranges in
    let i = c.starting_up_to-starting in
    next_of_part _ m.ranges.now c.args.p l.result.now m.right_ranges l.ensures.ranges i.result i.ensures.bound i.ensures.parted none _
    (λ d h. search rules)

pub returns-in-None : goal.returns-in-None
returns-in-None c none =
    let m = c.args.self in
    let l = c.listed-ranges in
    let i = c.starting_up_to-starting in
    next_of_part _ m.ranges.now c.args.p l.result.now m.right_ranges l.ensures.ranges i.result i.ensures.bound i.ensures.parted none _
    (λ d h. search rules)
