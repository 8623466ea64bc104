-- `nth_table` meets its contract: a wrong list is refused, else the root's refusal, or the n-th valid table that it lists.
use Rattle.std.proofs.Common.{rules}
use Rattle.tables.proofs.TableLaws.{nth_wrong, nth_of_refused, nth_of_table}
use Rattle.tables.proofs.nth_table.Goals as goal

pub returns-in_err-memory : goal.returns-in_err-memory
returns-in_err-memory c =
    let wrong = c.in_err-memory.ensures.wrong in
    search (rules, nth_wrong)

pub returns-in_err-entries : goal.returns-in_err-entries
returns-in_err-entries c =
    let lent = c.in_ok-memory.ensures.lent in
    let refused = c.in_err-entries.ensures in
    search (rules, nth_of_refused)

pub returns : goal.returns
returns c =
    let lent = c.in_ok-memory.ensures.lent in
    let root = c.in_ok-entries.ensures in
    let found = c.ok_or.ensures.value in
    search (rules, nth_of_table)
