-- `root_table` meets its contract: a wrong list is refused, else the memory has the answer.
use Rattle.std.proofs.Common.{rules}
use Rattle.tables.proofs.RootLaws.{root_wrong}
use Rattle.tables.proofs.root_table.Goals as goal

pub returns-in_err-new : goal.returns-in_err-new
returns-in_err-new c =
    let wrong = c.in_err-new.ensures.wrong in
    search (rules, root_wrong)
