-- `check_root` meets its contract: each finding decides, in the order of the reasons.
use Rattle.std.proofs.Common.{sym, rules}
use Rattle.sdt.proofs.ValidLaws.{root_unmapped, root_header, root_sum, root_length}
use Rattle.sdt.proofs.check_root.Goals as goal

pub returns-in_default : goal.returns-in_default
returns-in_default c = sym (root_unmapped c.args.wanted c.args.view.now c.in_default.ensures)

pub returns-in_err-check_header : goal.returns-in_err-check_header
returns-in_err-check_header c = search (rules, root_header)

pub returns-in_err-check_sum : goal.returns-in_err-check_sum
returns-in_err-check_sum c = search (rules, root_sum)

pub returns : goal.returns
returns c = search (rules, root_length)
