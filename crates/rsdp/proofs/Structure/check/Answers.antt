-- `check` meets its contract: each finding decides, in the order of the reasons.
use Rattle.std.proofs.Common.{ap, sym, ◌∙◌, arith, not}
use Rattle.field.specs.Part.{part}
use Rattle.rsdp.proofs.PointerLaws.{pointer_signature, pointer_maker, pointer_sum, pointer_valid}
use Rattle.rsdp.proofs.Structure.check.Goals as goal

pub returns-then-u64_at-ne-RSD_PTR : goal.returns-then-u64_at-ne-RSD_PTR
returns-then-u64_at-ne-RSD_PTR c = sym (pointer_signature c.args.self.view.now (omega arith) (λ e. c.if-u64_at-ne-RSD_PTR.true (c.u64_at.ensures ∙ e)))

pub returns-then-not-is_text : goal.returns-then-not-is_text
unfolding part
returns-then-not-is_text c =
    sym
    (pointer_maker c.args.self.view.now (omega arith) (sym c.u64_at.ensures ∙ c.if-u64_at-ne-RSD_PTR.false)
    (ap not (sym c.is_text.ensures ∙ c.if-not-is_text.true)))

pub returns-then-has_wrong_sum : goal.returns-then-has_wrong_sum
unfolding part
returns-then-has_wrong_sum c =
    sym
    (pointer_sum c.args.self.view.now (omega arith) (sym c.u64_at.ensures ∙ c.if-u64_at-ne-RSD_PTR.false)
    (ap not (sym c.is_text.ensures ∙ c.if-not-is_text.false))
    (sym c.has_wrong_sum.ensures ∙ c.if-has_wrong_sum.true))

pub returns : goal.returns
unfolding part
returns c =
    sym
    (pointer_valid c.args.self.view.now (omega arith) (sym c.u64_at.ensures ∙ c.if-u64_at-ne-RSD_PTR.false)
    (ap not (sym c.is_text.ensures ∙ c.if-not-is_text.false))
    (sym c.has_wrong_sum.ensures ∙ c.if-has_wrong_sum.false))
