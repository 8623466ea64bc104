-- `fill` meets its contract. The loop's invariant: each entry that is to come stands in the table, and each table, with what is to
-- be written to it yet, is what it has to be.
use Rattle.std.proofs.Common.{◌≡◌}
use Rattle.madt.proofs.EntryLaws.{Standing}
use Rattle.platform.specs.Lists.{ListName}
use Rattle.platform.proofs.FillLaws.{to_come, Filling, of_list}
use Rattle.platform.proofs.fill.Given as goal

abbrev pub invariant-loop-e : goal.invariant-loop-e
invariant-loop-e l =
    let first = l.initial in
    let before = of_list first.processors first.io_apics first.interrupt_source_overrides first.nmi_sources first.local_apic_nmi_lines in
    let now = of_list l.processors l.io_apics l.interrupt_source_overrides l.nmi_sources l.local_apic_nmi_lines in
    record {
      standing : Standing l.table (to_come l.e-iterator);
      loans : (name : ListName) → (now name).words.ghost_name ≡ (before name).words.ghost_name;
      filling : (name : ListName) → Filling name l.table (before name).words.now (now name).words.now (now name).written (to_come l.e-iterator);
    }
