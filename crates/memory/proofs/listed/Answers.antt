-- `listed` meets its contract: the chunks of three numbers are the ranges.
use Rattle.std.proofs.Common.{refl, ap, ◌∙◌, map}
use Rattle.memory.specs.Ranges.{range_of}
use Rattle.memory.proofs.RangeLaws.{chunks_are_ranges}
use Rattle.memory.proofs.listed.Goals as goal

pub returns-clause-ranges : goal.returns-clause-ranges
returns-clause-ranges c = ap (map range_of) c.as_chunks.ensures.front ∙ chunks_are_ranges _ c.args.numbers.now refl
