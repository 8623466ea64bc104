-- `first_mailbox` meets its contract. The loop's invariant: the first mailbox of the items that are left is that of the table.
use Rattle.std.proofs.Common.{◌≡◌}
use Rattle.madt.specs.Entries.{entries}
use Rattle.madt.specs.Walk.{left}
use Rattle.madt.proofs.EntryLaws.{Standing}
use Rattle.platform.specs.Mailbox.{first_mailbox}
use Rattle.platform.proofs.first_mailbox.Given as goal

abbrev pub invariant-loop-entry : goal.invariant-loop-entry
invariant-loop-entry l =
    record {
      standing : Standing l.table (left l.entry-iterator);
      same : first_mailbox l.table (left l.entry-iterator) ≡ first_mailbox l.table (entries l.table);
    }
