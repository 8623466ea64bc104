-- `starting_up_to` meets its contract: the closure says of each range whether it starts at the address or below.
use Rattle.std.proofs.Common.{rules, tests}
use Rattle.std.proofs.lemmas.List.Sorted.{IsPartitionPoint-from_clause}
use Rattle.memory.specs.Places.{starts_up_to}
use Rattle.memory.proofs.starting_up_to.Goals as goal

pub returns-clause-parted : goal.returns-clause-parted
returns-clause-parted c sorted =
    IsPartitionPoint-from_clause (starts_up_to c.args.p) _ _ c.partition_point.ensures.partitioned sorted
    (λ a r f' k. search (rules, tests))
