-- `check_table` meets its contract: each finding decides, in the order of the reasons.
use Rattle.std.proofs.Common.{rules}
use Rattle.sdt.proofs.ValidLaws.{got_whole, table_unmapped, table_header, cut_short, cut_long, table_sum, table_length}
use Rattle.sdt.proofs.check_table.Goals as goal

pub returns-then-view-lt-HEADER_SIZE : goal.returns-then-view-lt-HEADER_SIZE
returns-then-view-lt-HEADER_SIZE c = search (rules, table_unmapped)

pub returns-in_err-check_header : goal.returns-in_err-check_header
returns-in_err-check_header c = search (rules, table_header)

pub returns-in_err-check_sum-in-Some : goal.returns-in_err-check_sum-in-Some
returns-in_err-check_sum-in-Some c =
    let whole = got_whole c.args.view.now _ _ c.stated_length-stated.ensures c.in-Some.ensures.lookup.0.2 in
    search (rules, table_sum)

pub returns-in_ok-check_sum-in-Some : goal.returns-in_ok-check_sum-in-Some
returns-in_ok-check_sum-in-Some c =
    let whole = got_whole c.args.view.now _ _ c.stated_length-stated.ensures c.in-Some.ensures.lookup.0.2 in
    search (rules, table_length)

pub returns-in_err-check_length-in-None : goal.returns-in_err-check_length-in-None
returns-in_err-check_length-in-None c = search (rules, cut_short)

pub returns-in_ok-check_length-in-None : goal.returns-in_ok-check_length-in-None
returns-in_ok-check_length-in-None c = search (rules, cut_long)
