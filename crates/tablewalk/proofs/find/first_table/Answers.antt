-- `first_table` may hand out the table's bytes: what is found is mapped, in a right list of ranges.
use Rattle.std.proofs.Common.{sym, ◌∙◌}
use Rattle.tablewalk.proofs.FindLaws.{found_mapped}
use Rattle.tablewalk.proofs.find.first_table.Goals as goal

pub whole-requires-clause-right_ranges : goal.whole-requires-clause-right_ranges
whole-requires-clause-right_ranges c = (found_mapped _ _ _ _ _ _ _ (sym c.find_table.ensures ∙ c.in_ok-table.was)).ranged

pub whole-requires-clause-mapped_header : goal.whole-requires-clause-mapped_header
whole-requires-clause-mapped_header c = (found_mapped _ _ _ _ _ _ _ (sym c.find_table.ensures ∙ c.in_ok-table.was)).header
