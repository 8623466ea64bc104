-- `next` meets its contract: the first entry is given, if a whole one is left.
use Rattle.std.proofs.Common.{◌≡◌, ap, ◌∷◌, length, rules}
use Rattle.tables.specs.Root.{entries_in}
use Rattle.tables.proofs.EntryLaws.{entries_first, entries_end}
use Rattle.tables.proofs.listing.EntriesIterator.next.Goals as goal
use Rattle.tables.proofs.listing.EntriesIterator.next.Goals.{After-address}

pub returns-in_err-entry-clause-steps : goal.returns-in_err-entry-clause-steps
returns-in_err-entry-clause-steps c = search (rules, entries_end)

-- What was left begins with the entry.
given : (c : After-address) → entries_in c.args.self.now.kind c.args.self.now.bytes.now ≡ c.address.result ∷ entries_in c.args.self.now.kind c.in_ok-entry.rest.now
given c =
    let cut = c.in_ok-entry.ensures.cases in
    entries_first c.args.self.now.kind c.args.self.now.bytes.now _ _ _ _ c.size.ensures cut.0 cut.1 cut.2 c.address.ensures

pub returns-clause-steps : goal.returns-clause-steps
returns-clause-steps c = given c

pub returns-clause-goes : goal.returns-clause-goes
returns-clause-goes c =
    let fewer = ap length (given c) in
    search rules
