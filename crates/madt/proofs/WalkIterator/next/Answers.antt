-- `next` meets its contract: what stands at the place is the first item that is left, and the place behind it has the others.
use Rattle.std.proofs.Common.{◌∙◌, sym, ap, length, rules}
use Rattle.std.specs.Prelude.{Some}
use Rattle.madt.proofs.EntryLaws.{stands, from_end, from_fault, from_entry}
use Rattle.madt.proofs.WalkIterator.next.Goals as goal
use Rattle.madt.proofs.WalkIterator.next.Goals.{in-Ok, in-Err}

pub returns-in_err-item-clause-steps : goal.returns-in_err-item-clause-steps
returns-in_err-item-clause-steps c =
    let none = from_end _ _ (sym c.next_entry.ensures ∙ c.in_err-item.was) in
    rw c.from_residual.ensures (none, none)

pub overflow_add-self : goal.overflow_add-self
overflow_add-self c = search (rules, stands _ _ _ (sym c.next_entry.ensures ∙ (c.in_ok-item.was ∙ ap Some c.in-Ok.is)))

pub returns-clause-steps : goal.returns-clause-steps
returns-clause-steps c =
    elim c.match-item.branch [
      | in-Ok w ↦ rw (w.item-is, w.self-is) (from_entry _ _ _ (sym c.next_entry.ensures ∙ (c.in_ok-item.was ∙ ap Some w.in-Ok.is)))
      | in-Err w ↦ rw (w.item-is, w.self-is, w.in-Err.is) (from_fault _ _ _ (sym c.next_entry.ensures ∙ (c.in_ok-item.was ∙ ap Some w.in-Err.is)))
    ]

pub returns-clause-goes : goal.returns-clause-goes
returns-clause-goes c = let e = ap length (returns-clause-steps c) in search rules
