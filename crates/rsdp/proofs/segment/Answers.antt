-- `segment` meets its contract: the word at the view's start, if two bytes are mapped.
use Rattle.std.proofs.Common.{ap, sym, ◌∙◌, arith}
use Rattle.field.proofs.FirstLaws.{less_yes, less_no, when_hit, when_pass}
use Rattle.rsdp.specs.Search.{segment_of}
use Rattle.rsdp.proofs.segment.Goals as goal

pub returns-then-view-lt2 : goal.returns-then-view-lt2
unfolding segment_of
returns-then-view-lt2 c = sym (ap segment_of (sym c.view-view.ensures) ∙ when_hit _ _ _ (less_yes _ 2 (omega arith)))

pub returns-else-view-lt2 : goal.returns-else-view-lt2
unfolding segment_of
returns-else-view-lt2 c = c.u16_at.ensures ∙ sym (ap segment_of (sym c.view-view.ensures) ∙ when_pass _ _ _ (less_no _ 2 (omega arith)))
