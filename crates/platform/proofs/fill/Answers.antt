-- `fill` meets its contract: what refuses does so before anything is written, and where nothing does there is room.
use Rattle.std.proofs.Common.{◌≡◌, ◌∙◌, refl, ap, sym, subst, arith, length, rules}
use Rattle.std.proofs.lemmas.Result.{err_from_is_err_and}
use Rattle.std.specs.Prelude.{Option, Some, Ok, map}
use Rattle.madt.proofs.EntryLaws.{Standing, entries_stand, standing_rest, standing_entry}
use Rattle.platform.specs.declared.Record.{Record}
use Rattle.platform.specs.Lists.ListName.{processors, io_apics, interrupt_source_overrides, nmi_sources, local_apic_nmi_lines}
use Rattle.platform.proofs.RoomLaws.{Rooms, accepted, refused, sound, fill_refused, fill_short, fill_fits, has_room, untouched}
use Rattle.platform.proofs.FillLaws.{to_come, Turn, fill_start, fill_end, turn, fill_room, fill_mine, fill_other}
use Rattle.platform.proofs.fill.Goals as goal
use Rattle.platform.proofs.fill.Goals.{
  After-to_record,
  then-processors-m-via-then-processors-m,
  then-processors-m-via-else-processors-m+then-io_apics-m,
  then-processors-m-via-else-processors-m+else-io_apics-m+then-interrupt_source_overrides-m,
  then-processors-m-via-else-processors-m+else-io_apics-m+else-interrupt_source_overrides-m+then-nmi_sources-m,
  then-processors-m-via-else-processors-m+else-io_apics-m+else-interrupt_source_overrides-m+else-nmi_sources-m+then-local_apic_nmi_lines-m,
}

pub returns-in_err-m : goal.returns-in_err-m
returns-in_err-m c =
    let p = err_from_is_err_and c.from_residual.result c.from_residual.ensures.1 in
    rw (p.1, p.2) (untouched (fill_refused _ _ _ _ _ _ (refused _ (sym c.interrupt_model.ensures ∙ c.in_err-m.was))))

pub returns-then-processors-m : goal.returns-then-processors-m
returns-then-processors-m c =
    let a = accepted (sym c.interrupt_model.ensures ∙ c.in_ok-m.was) in
    let short : Rooms c.args.table.now (length c.args.processors.now) (length c.args.io_apics.now) (length c.args.interrupt_source_overrides.now) (length c.args.nmi_sources.now) (length c.args.local_apic_nmi_lines.now) → ⊥ =
    λ rooms. elim c.then-processors-m.branch [
      | then-processors-m-via-then-processors-m w ↦ omega (arith, a.words processors, rooms processors)
      | then-processors-m-via-else-processors-m+then-io_apics-m w ↦ omega (arith, a.words io_apics, rooms io_apics)
      | then-processors-m-via-else-processors-m+else-io_apics-m+then-interrupt_source_overrides-m w ↦ omega (arith, a.words interrupt_source_overrides, rooms interrupt_source_overrides)
      | then-processors-m-via-else-processors-m+else-io_apics-m+else-interrupt_source_overrides-m+then-nmi_sources-m w ↦ omega (arith, a.words nmi_sources, rooms nmi_sources)
      | then-processors-m-via-else-processors-m+else-io_apics-m+else-interrupt_source_overrides-m+else-nmi_sources-m+then-local_apic_nmi_lines-m w ↦ omega (arith, a.words local_apic_nmi_lines, rooms local_apic_nmi_lines)
    ]
    in
    untouched (fill_short _ _ _ _ _ _ a.none short)

turned :
    (c : After-to_record) {r : Option Record} → c.to_record.result ≡ r →
    Turn c.args.table.now (to_come c.loop-e.e-iterator) (to_come c.next.new.self) c.loop-e.processors.written c.in-Some.e r
turned c same = turn (ap (map Ok) c.in-Some.ensures.steps) refl c.enabled_at.ensures c.to_record.ensures same

-- An entry that stands in the table has all bytes that its kind needs.
pub invariant_of-entry : goal.invariant_of-entry
invariant_of-entry c =
    let here = standing_entry c.loop-e.invariant.standing (ap (map Ok) c.in-Some.ensures.steps) in
    record { inside = search (rules, here) }

pub of-e-items-requires : goal.of-e-items-requires
of-e-items-requires c = sound _ (accepted (sym c.interrupt_model.ensures ∙ c.in_ok-m.was)).none

pub loop-e-init : goal.loop-e-init
loop-e-init c =
    let a = accepted (sym c.interrupt_model.ensures ∙ c.in_ok-m.was) in
    let rooms =
    has_room _ _ _ _ _ a c.if-processors-m.false c.if-io_apics-m.false c.if-interrupt_source_overrides-m.false c.if-nmi_sources-m.false
    c.if-local_apic_nmi_lines-m.false
    in
    let q = ap to_come c.into_iter-e-iterator.ensures.into_iter_gives ∙ c.of-e-items.ensures in
    record {
      standing = subst (Standing _) (sym q) (entries_stand _);
      loans = elim [ processors ↦ refl | name ↦ refl ];
      filling = elim [
        | processors ↦ fill_start processors q c.new-processors.ensures.none c.new-processors.ensures.words (rooms processors)
        | io_apics ↦ fill_start io_apics q c.new-io_apics.ensures.none c.new-io_apics.ensures.words (rooms io_apics)
        | interrupt_source_overrides ↦ fill_start interrupt_source_overrides q c.new-interrupt_source_overrides.ensures.none c.new-interrupt_source_overrides.ensures.words (rooms interrupt_source_overrides)
        | nmi_sources ↦ fill_start nmi_sources q c.new-nmi_sources.ensures.none c.new-nmi_sources.ensures.words (rooms nmi_sources)
        | local_apic_nmi_lines ↦ fill_start local_apic_nmi_lines q c.new-local_apic_nmi_lines.ensures.none c.new-local_apic_nmi_lines.ensures.words (rooms local_apic_nmi_lines)
      ];
    }

pub push-requires : goal.push-requires
push-requires c =
    let t = turned (goal.at.push-requires c).After-to_record (c.in-Some-Processor.is ∙ ap Some c.in-Some-Processor.field-0-is) in
    fill_room t processors refl (λ _. refl) (c.loop-e.invariant.filling processors)

pub loop-e-preserved-in-Some-Processor : goal.loop-e-preserved-in-Some-Processor
loop-e-preserved-in-Some-Processor c =
    let t = turned (goal.at.loop-e-preserved-in-Some-Processor c).After-to_record (c.in-Some-Processor.is ∙ ap Some c.in-Some-Processor.field-0-is) in
    let was = c.loop-e.invariant in
    let put = c.push.ensures in
    record {
      standing = standing_rest was.standing (ap (map Ok) c.in-Some.ensures.steps);
      loans = elim [ processors ↦ put.loan ∙ was.loans processors | name ↦ was.loans name ];
      filling = elim [
        | processors ↦ fill_mine t processors refl (λ _. refl) (was.filling processors) put.next put.front put.behind put.long
        | name ↦ fill_other t name refl (was.filling name)
      ];
    }

pub push-requires-in-Some-IoApic : goal.push-requires-in-Some-IoApic
push-requires-in-Some-IoApic c =
    let t = turned (goal.at.push-requires-in-Some-IoApic c).After-to_record (c.in-Some-IoApic.is ∙ ap Some c.in-Some-IoApic.field-0-is) in
    fill_room t io_apics refl (λ z. cc) (c.loop-e.invariant.filling io_apics)

pub loop-e-preserved-in-Some-IoApic : goal.loop-e-preserved-in-Some-IoApic
loop-e-preserved-in-Some-IoApic c =
    let t = turned (goal.at.loop-e-preserved-in-Some-IoApic c).After-to_record (c.in-Some-IoApic.is ∙ ap Some c.in-Some-IoApic.field-0-is) in
    let was = c.loop-e.invariant in
    let put = c.push-in-Some-IoApic.ensures in
    record {
      standing = standing_rest was.standing (ap (map Ok) c.in-Some.ensures.steps);
      loans = elim [ io_apics ↦ put.loan ∙ was.loans io_apics | name ↦ was.loans name ];
      filling = elim [
        | io_apics ↦ fill_mine t io_apics refl (λ z. cc) (was.filling io_apics) put.next put.front put.behind put.long
        | name ↦ fill_other t name refl (was.filling name)
      ];
    }

pub push-requires-in-Some-Override : goal.push-requires-in-Some-Override
push-requires-in-Some-Override c =
    let t = turned (goal.at.push-requires-in-Some-Override c).After-to_record (c.in-Some-Override.is ∙ ap Some c.in-Some-Override.field-0-is) in
    fill_room t interrupt_source_overrides refl (λ z. cc) (c.loop-e.invariant.filling interrupt_source_overrides)

pub loop-e-preserved-in-Some-Override : goal.loop-e-preserved-in-Some-Override
loop-e-preserved-in-Some-Override c =
    let t = turned (goal.at.loop-e-preserved-in-Some-Override c).After-to_record (c.in-Some-Override.is ∙ ap Some c.in-Some-Override.field-0-is) in
    let was = c.loop-e.invariant in
    let put = c.push-in-Some-Override.ensures in
    record {
      standing = standing_rest was.standing (ap (map Ok) c.in-Some.ensures.steps);
      loans = elim [ interrupt_source_overrides ↦ put.loan ∙ was.loans interrupt_source_overrides | name ↦ was.loans name ];
      filling = elim [
        | interrupt_source_overrides ↦ fill_mine t interrupt_source_overrides refl (λ z. cc) (was.filling interrupt_source_overrides) put.next put.front put.behind put.long
        | name ↦ fill_other t name refl (was.filling name)
      ];
    }

pub push-requires-in-Some-NmiSource : goal.push-requires-in-Some-NmiSource
push-requires-in-Some-NmiSource c =
    let t = turned (goal.at.push-requires-in-Some-NmiSource c).After-to_record (c.in-Some-NmiSource.is ∙ ap Some c.in-Some-NmiSource.field-0-is) in
    fill_room t nmi_sources refl (λ z. cc) (c.loop-e.invariant.filling nmi_sources)

pub loop-e-preserved-in-Some-NmiSource : goal.loop-e-preserved-in-Some-NmiSource
loop-e-preserved-in-Some-NmiSource c =
    let t = turned (goal.at.loop-e-preserved-in-Some-NmiSource c).After-to_record (c.in-Some-NmiSource.is ∙ ap Some c.in-Some-NmiSource.field-0-is) in
    let was = c.loop-e.invariant in
    let put = c.push-in-Some-NmiSource.ensures in
    record {
      standing = standing_rest was.standing (ap (map Ok) c.in-Some.ensures.steps);
      loans = elim [ nmi_sources ↦ put.loan ∙ was.loans nmi_sources | name ↦ was.loans name ];
      filling = elim [
        | nmi_sources ↦ fill_mine t nmi_sources refl (λ z. cc) (was.filling nmi_sources) put.next put.front put.behind put.long
        | name ↦ fill_other t name refl (was.filling name)
      ];
    }

pub push-requires-in-Some-NmiLine : goal.push-requires-in-Some-NmiLine
push-requires-in-Some-NmiLine c =
    let t = turned (goal.at.push-requires-in-Some-NmiLine c).After-to_record (c.in-Some-NmiLine.is ∙ ap Some c.in-Some-NmiLine.field-0-is) in
    fill_room t local_apic_nmi_lines refl (λ z. cc) (c.loop-e.invariant.filling local_apic_nmi_lines)

pub loop-e-preserved-in-Some-NmiLine : goal.loop-e-preserved-in-Some-NmiLine
loop-e-preserved-in-Some-NmiLine c =
    let t = turned (goal.at.loop-e-preserved-in-Some-NmiLine c).After-to_record (c.in-Some-NmiLine.is ∙ ap Some c.in-Some-NmiLine.field-0-is) in
    let was = c.loop-e.invariant in
    let put = c.push-in-Some-NmiLine.ensures in
    record {
      standing = standing_rest was.standing (ap (map Ok) c.in-Some.ensures.steps);
      loans = elim [ local_apic_nmi_lines ↦ put.loan ∙ was.loans local_apic_nmi_lines | name ↦ was.loans name ];
      filling = elim [
        | local_apic_nmi_lines ↦ fill_mine t local_apic_nmi_lines refl (λ z. cc) (was.filling local_apic_nmi_lines) put.next put.front put.behind put.long
        | name ↦ fill_other t name refl (was.filling name)
      ];
    }

pub loop-e-preserved : goal.loop-e-preserved
loop-e-preserved c =
    let t = turned (goal.at.loop-e-preserved c).After-to_record c.in-None-to_record.is in
    let was = c.loop-e.invariant in
    record {
      standing = standing_rest was.standing (ap (map Ok) c.in-Some.ensures.steps);
      loans = was.loans;
      filling = λ name. fill_other t name refl (was.filling name);
    }

pub returns : goal.returns
returns c =
    let a = accepted (sym c.interrupt_model.ensures ∙ c.in_ok-m.was) in
    let rooms =
    has_room _ _ _ _ _ a c.if-processors-m.false c.if-io_apics-m.false c.if-interrupt_source_overrides-m.false c.if-nmi_sources-m.false
    c.if-local_apic_nmi_lines-m.false
    in
    let loans = c.loop-e.invariant.loans in
    let filling = c.loop-e.invariant.filling in
    let none = ap (map Ok) c.in-None.ensures.steps.0 in
    record {
      answer = fill_fits _ _ _ _ _ _ a.none rooms;
      processors = let loan = loans processors in let all = fill_end (filling processors) none in search rules;
      io_apics = let loan = loans io_apics in let all = fill_end (filling io_apics) none in search rules;
      interrupt_source_overrides = let loan = loans interrupt_source_overrides in let all = fill_end (filling interrupt_source_overrides) none in search rules;
      nmi_sources = let loan = loans nmi_sources in let all = fill_end (filling nmi_sources) none in search rules;
      local_apic_nmi_lines = let loan = loans local_apic_nmi_lines in let all = fill_end (filling local_apic_nmi_lines) none in search rules;
    }
