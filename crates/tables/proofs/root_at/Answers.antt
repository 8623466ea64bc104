-- `root_at` meets its contract: the refusal of the view, or what is said of a valid root table.
use Rattle.std.proofs.Common.{sym, ◌∙◌, arith, rules}
use Rattle.sdt.proofs.ValidLaws.{valid_root_sums}
use Rattle.tables.specs.Root.{root_table_in}
use Rattle.tables.proofs.RootLaws.{root_refused, root_valid}
use Rattle.tables.proofs.root_at.Goals as goal

pub returns-in_err-check_root : goal.returns-in_err-check_root
returns-in_err-check_root c = search (rules, root_refused)

pub stated_length-len-requires : goal.stated_length-len-requires
stated_length-len-requires c =
    let valid = valid_root_sums _ _ (sym c.check_root.ensures ∙ c.in_ok-check_root.was) in
    omega arith

pub returns : goal.returns
unfolding root_table_in
returns c = search (rules, root_valid)
