-- `mapped` meets its contract: where not all that is needed is mapped, that is what refuses the root pointer.
use Rattle.std.proofs.Common.{arith}
use Rattle.rsdp.proofs.PointerLaws.{pointer_short, pointer_cut}
use Rattle.rsdp.proofs.Structure.mapped.Goals as goal
use Rattle.rsdp.proofs.Structure.mapped.Goals.{then-view-lt20-via-then-view-lt20, then-view-lt20-via-else-view-lt20+then-view-needed}

pub returns-then-view-lt20 : goal.returns-then-view-lt20
returns-then-view-lt20 c =
    elim c.then-view-lt20.branch [
      | then-view-lt20-via-then-view-lt20 w ↦ pointer_short c.args.view.now (omega arith)
      | then-view-lt20-via-else-view-lt20+then-view-needed w ↦ pointer_cut c.args.view.now (omega arith) (omega arith)
    ]
