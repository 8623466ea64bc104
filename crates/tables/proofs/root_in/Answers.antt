-- `root_in` meets its contract: the root pointer's refusal, or the root table that it leads to.
use Rattle.std.proofs.Common.{rules}
use Rattle.tables.proofs.RootLaws.{root_unled, root_led}
use Rattle.tables.proofs.root_in.Goals as goal

pub returns-in_err-pointer : goal.returns-in_err-pointer
returns-in_err-pointer c = search (rules, root_unled)

pub returns : goal.returns
returns c = search (rules, root_led)
