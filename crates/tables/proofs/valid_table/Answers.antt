-- `valid_table` meets its contract: what refuses the view, or what is said of a valid table.
use Rattle.std.proofs.Common.{sym, ◌∙◌, rules}
use Rattle.tables.specs.Tables.{table_in}
use Rattle.tables.proofs.TableLaws.{valid_header, table_refused, table_told}
use Rattle.tables.proofs.valid_table.Goals as goal

pub returns-in_err-check_table : goal.returns-in_err-check_table
returns-in_err-check_table c = search (rules, table_refused)

pub stated_length-requires : goal.stated_length-requires
stated_length-requires c = valid_header _ _ _ (sym c.check_table.ensures ∙ c.in_ok-check_table.was)

pub returns : goal.returns
unfolding table_in
returns c = search (rules, table_told)
