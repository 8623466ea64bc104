-- `root_pointer_at` meets its contract: a wrong list is refused, else the view at the address decides.
use Rattle.std.proofs.Common.{rules, ap, ◌∙◌, List, ℕ}
use Rattle.memory.specs.Places.{view_of}
use Rattle.memory.proofs.AskedLaws.{asked_lent, asked_wrong}
use Rattle.rsdp.specs.Pointer.{root_pointer_of}
use Rattle.rsdp.specs.Asked.{root_pointer_at}
use Rattle.rsdp.proofs.root_pointer_at.Goals as goal

pub returns-in_err-new : goal.returns-in_err-new
unfolding root_pointer_at
returns-in_err-new c =
    let wrong = c.in_err-new.ensures.wrong in
    search (rules, asked_wrong)

pub returns : goal.returns
unfolding root_pointer_at
returns c =
    let a = c.args in
    c.root_pointer.ensures ∙ ap root_pointer_of c.view.ensures
    ∙ asked_lent c.in_ok-new.field-0 a.image.now a.ranges.now (λ (i w : List ℕ). root_pointer_of (view_of i w a.address)) c.in_ok-new.ensures.lent
