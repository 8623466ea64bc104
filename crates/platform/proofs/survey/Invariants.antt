-- `survey` meets its contract. The loop's invariant: what is told so far, with what the rest tells, is what the table tells.
use Rattle.madt.specs.Walk.{left}
use Rattle.platform.proofs.SurveyLaws.{Surveying}
use Rattle.platform.proofs.survey.Given as goal

abbrev pub invariant-loop-item : goal.invariant-loop-item
invariant-loop-item l = Surveying l.table l.fn.m l.wrong l.model (left l.item-iterator)
