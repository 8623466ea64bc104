-- The loop takes the strings one by one: before string k the tally has taken k.
use Rattle.std.proofs.Common.{◌≡◌}
use Rattle.utf8_cases.specs.Count.{Bounded}
use Rattle.utf8_cases.proofs.tally_of.Given as goal

abbrev pub invariant-loop-k : goal.invariant-loop-k
invariant-loop-k g l = (l.tally.taken ≡ l.k) × Bounded l.tally
