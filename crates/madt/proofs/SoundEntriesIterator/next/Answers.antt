-- `next` meets its contract: where no fault is to come, an entry stands at each place in front of the table's end.
use Rattle.std.proofs.Common.{ℕ, ◌+◌, ◌∙◌, ap, arith, length, rules}
use Rattle.madt.specs.Entries.{entries_from, faulty, entries_among}
use Rattle.madt.proofs.EntryLaws.{past_end, from_end, sound_step}
use Rattle.madt.proofs.SoundEntriesIterator.next.Goals as goal

pub returns-then-self-at-clause-steps : goal.returns-then-self-at-clause-steps
unfolding entries_among
returns-then-self-at-clause-steps c =
    let none = ap entries_among (from_end _ _ (past_end _ _ c.if-self-at.true)) in
    (none, none)

pub u8_at-len-requires : goal.u8_at-len-requires
u8_at-len-requires c =
    let step = sound_step _ _ c.args.self.now.sound c.if-self-at.false in
    omega (arith, step.here)

pub invariant_of-self : goal.invariant_of-self
invariant_of-self c =
    let step = sound_step _ _ c.args.self.now.sound c.if-self-at.false in
    let now = c.args.self.now in
    record { sound = ap (λ (len : ℕ). faulty (entries_from now.table.now (now.at + len))) c.u8_at-len.ensures ∙ step.behind }

pub returns-clause-steps : goal.returns-clause-steps
unfolding entries_among
returns-clause-steps c =
    let step = sound_step _ _ c.args.self.now.sound c.if-self-at.false in
    rw (c.from.ensures, c.u8_at-number.ensures, c.u8_at-len.ensures) (ap entries_among step.first)

pub returns-clause-goes : goal.returns-clause-goes
returns-clause-goes c = let e = ap length (returns-clause-steps c) in search rules
