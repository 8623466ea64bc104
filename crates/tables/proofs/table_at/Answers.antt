-- `table_at` meets its contract: a wrong list is refused, else the memory has the answer.
use Rattle.std.proofs.Common.{◌∙◌, ℕ, List, rules}
use Rattle.memory.proofs.AskedLaws.{asked_lent, asked_wrong}
use Rattle.tables.specs.Tables.{valid_table, table_at}
use Rattle.tables.proofs.table_at.Goals as goal

pub returns-in_err-new : goal.returns-in_err-new
unfolding table_at
returns-in_err-new c =
    let wrong = c.in_err-new.ensures.wrong in
    search (rules, asked_wrong)

pub returns : goal.returns
unfolding table_at
returns c =
    let a = c.args in
    c.valid_table.ensures
    ∙ asked_lent c.in_ok-new.field-0 a.image.now a.ranges.now (λ (i w : List ℕ). valid_table i w a.wanted a.least a.address) c.in_ok-new.ensures.lent
