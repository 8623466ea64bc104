use Rattle.std.proofs.Common.{arith, rules}
use Rattle.platform.specs.Lists.ListName.{processors, io_apics, interrupt_source_overrides, nmi_sources, local_apic_nmi_lines}
use Rattle.platform.proofs.SurveyLaws.{survey_start, survey_entry, count_small, survey_fault, survey_end}
use Rattle.platform.proofs.survey.Goals as goal

pub loop-item-init : goal.loop-item-init
loop-item-init c = grind (arith, survey_start c.args.table.now c.args.m)

pub take_in-requires : goal.take_in-requires
take_in-requires c =
    let small = count_small c.loop-item.invariant in
    record {
      processors = omega (arith, small processors);
      io_apics = omega (arith, small io_apics);
      overrides = omega (arith, small interrupt_source_overrides);
      nmi_sources = omega (arith, small nmi_sources);
      nmi_lines = omega (arith, small local_apic_nmi_lines);
    }

pub loop-item-preserved : goal.loop-item-preserved
loop-item-preserved c =
    survey_entry c.loop-item.invariant c.in-Some.ensures.steps c.in_ok-item.was c.is_wrong.ensures c.take_in.ensures

pub returns-in_err-item : goal.returns-in_err-item
returns-in_err-item c = search (rules, survey_fault c.loop-item.invariant c.in-Some.ensures.steps c.in_err-item.was)

pub returns : goal.returns
returns c = survey_end c.loop-item.invariant c.in-None.ensures.steps.0
