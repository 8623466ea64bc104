-- `begin` meets its contract: each arm is a row of the table, and what is in no arm is in no row.
use Rattle.std.proofs.Common.{refl, ap, ◌∙◌, arith}
use Rattle.field.specs.Text.{table}
use Rattle.field.specs.Walk.{spans, spans_of, meaning}
use Rattle.field.proofs.TextLaws.{end_by, begin_from, in_row, in_first_row, in_no_row}
use Rattle.field.proofs.utf8.begin.Goals as goal

pub returns-then-b-lt128 : goal.returns-then-b-lt128
unfolding meaning spans_of spans
returns-then-b-lt128 c = ap meaning c.expect.ensures ∙ in_first_row c.args.b (omega arith)

pub returns-in-194-to-223 : goal.returns-in-194-to-223
unfolding meaning spans_of spans table end_by
returns-in-194-to-223 c = ap meaning c.expect-in-194-to-223.ensures ∙ in_row 1 0x7f c.args.b refl tt (omega arith) (omega arith) (omega arith)

pub returns-in-224 : goal.returns-in-224
unfolding meaning spans_of spans table end_by
returns-in-224 c = ap meaning c.expect-in-224.ensures ∙ in_row 2 0xdf c.args.b refl tt (omega arith) (omega arith) (omega arith)

pub returns-in-225-to-236 : goal.returns-in-225-to-236
unfolding meaning spans_of spans table end_by
returns-in-225-to-236 c = ap meaning c.expect-in-225-to-236.ensures ∙ in_row 3 0xe0 c.args.b refl tt (omega arith) (omega arith) (omega arith)

pub returns-in-237 : goal.returns-in-237
unfolding meaning spans_of spans table end_by
returns-in-237 c = ap meaning c.expect-in-237.ensures ∙ in_row 4 0xec c.args.b refl tt (omega arith) (omega arith) (omega arith)

pub returns-in-238-to-239 : goal.returns-in-238-to-239
unfolding meaning spans_of spans table end_by
returns-in-238-to-239 c = ap meaning c.expect-in-238-to-239.ensures ∙ in_row 5 0xed c.args.b refl tt (omega arith) (omega arith) (omega arith)

pub returns-in-240 : goal.returns-in-240
unfolding meaning spans_of spans table end_by
returns-in-240 c = ap meaning c.expect-in-240.ensures ∙ in_row 6 0xef c.args.b refl tt (omega arith) (omega arith) (omega arith)

pub returns-in-241-to-243 : goal.returns-in-241-to-243
unfolding meaning spans_of spans table end_by
returns-in-241-to-243 c = ap meaning c.expect-in-241-to-243.ensures ∙ in_row 7 0xf0 c.args.b refl tt (omega arith) (omega arith) (omega arith)

pub returns-in-244 : goal.returns-in-244
unfolding meaning spans_of spans table end_by
returns-in-244 c = ap meaning c.expect-in-244.ensures ∙ in_row 8 0xf3 c.args.b refl tt (omega arith) (omega arith) (omega arith)

pub returns-in_default : goal.returns-in_default
unfolding meaning table end_by begin_from
returns-in_default c = in_no_row 1 0x7f 0xc2 c.args.b tt tt (omega arith) (omega arith)

pub returns-in_default-2 : goal.returns-in_default-2
unfolding meaning table end_by begin_from
returns-in_default-2 c = in_no_row 9 0xf4 0x100 c.args.b tt tt (omega arith) (omega arith)
