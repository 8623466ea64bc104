-- `search_view` meets its contract. The loop's invariant: the places left give the answer of all.
use Rattle.std.proofs.Common.{◌≡◌, ◌+◌, ◌-◌, ◌*◌}
use Rattle.field.specs.Choice.{nth_valid}
use Rattle.rsdp.specs.Search.{every_sixteen, checked_in}
use Rattle.rsdp.proofs.search_view.Given as goal

abbrev pub invariant-loop-k : goal.invariant-loop-k
invariant-loop-k l =
    nth_valid (checked_in l.view l.area.start) 0 (every_sixteen (l.area.places - l.k) (l.area.start + 16 * l.k))
    ≡ nth_valid (checked_in l.view l.area.start) 0 (every_sixteen l.area.places l.area.start)
