-- `search_area` meets its contract. The loop's invariant: the places left give the answer of all.
use Rattle.std.proofs.Common.{◌≡◌}
use Rattle.field.specs.Choice.{nth_valid}
use Rattle.rsdp.specs.Search.{every_sixteen, checked_at}
use Rattle.rsdp.proofs.search_area.Given as goal

abbrev pub invariant-loop-left : goal.invariant-loop-left
invariant-loop-left l =
    nth_valid (checked_at l.memory.image.now l.memory.ranges.now) 0 (every_sixteen l.left.places l.left.start)
    ≡ nth_valid (checked_at l.memory.image.now l.memory.ranges.now) 0 (every_sixteen l.initial.left.places l.initial.left.start)

abbrev pub decreases-loop-left : goal.decreases-loop-left
decreases-loop-left l = l.left.places
