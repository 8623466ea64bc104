-- `get` meets its contract: the k-th of the entries that fit stands k sizes further on.
use Rattle.std.proofs.Common.{rules, arith, refl, sym}
use Rattle.tables.proofs.EntryLaws.{some_size, entry_there, entry_behind}
use Rattle.tables.proofs.listing.Entries.get.Goals as goal

pub nonzero_div-self : goal.nonzero_div-self
nonzero_div-self c = omega (arith, some_size c.args.self.now.kind)

pub returns-then-self-size : goal.returns-then-self-size
returns-then-self-size c = search (rules, entry_behind)

pub returns : goal.returns
returns c =
    let e = c.args.self.now in
    sym (entry_there e.kind e.bytes.now c.args.k _ c.size-size.ensures (omega arith) _ _ refl c.address.ensures)
