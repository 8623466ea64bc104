-- `root_entry` meets its contract: a wrong list is refused, else the root's refusal, or its k-th entry.
use Rattle.std.proofs.Common.{rules}
use Rattle.tables.proofs.TableLaws.{entry_wrong, entry_of_refused, entry_of_table}
use Rattle.tables.proofs.root_entry.Goals as goal

pub returns-in_err-new : goal.returns-in_err-new
returns-in_err-new c =
    let wrong = c.in_err-new.ensures.wrong in
    search (rules, entry_wrong)

pub returns-in_err-root_entries : goal.returns-in_err-root_entries
returns-in_err-root_entries c =
    let lent = c.in_ok-new.ensures.lent in
    let refused = c.in_err-root_entries.ensures in
    search (rules, entry_of_refused)

pub returns : goal.returns
returns c =
    let lent = c.in_ok-new.ensures.lent in
    let root = c.in_ok-root_entries.ensures in
    search (rules, entry_of_table)
