-- Small tables, worked out by the definitions: they test the definitions, and nothing is proved from them.
use Rattle.std.proofs.Common.{◌≡◌, refl, [], ◌∷◌, ◌++◌, true, false}
use Rattle.std.specs.Prelude.{Ok, Err}
use Rattle.refusal.specs.declared.Refusal.TheVariants.{InconsistentEntry, WrongEntryField}
use Rattle.field.specs.Number.{number}
use Rattle.field.specs.First.{when, less, differ, checked}
use Rattle.madt.specs.Kinds.{kinds, kind_of}
use Rattle.madt.specs.Fixed.{not_madt, madt_of}
use Rattle.madt.specs.Entries.{item_at, next_at, walk, entries_from, entries, faulty}
use Rattle.madt.proofs.Examples.{fixed, sample}
use Rattle.platform.specs.Lists.{those}
use Rattle.platform.specs.Lists.ListName.{processors, local_apic_nmi_lines}
use Rattle.platform.specs.Records.{words_of, list}
use Rattle.platform.specs.Model.{some, last_address, model_with, refusals, model_of}

-- The sample of docs/TABLES.md, section 12.
sample_model :
    model_of (fixed 88 ++ sample)
    ≡ Ok
    (record {
      known = true;
      local_apic_address = 0xfee0_0000;
      also_has_legacy_pics = true;
      processors = 2;
      io_apics = 1;
      interrupt_source_overrides = 1;
      nmi_sources = 0;
      local_apic_nmi_lines = 1;
    })
unfolding model_of refusals not_madt model_with madt_of checked differ when less number entries entries_from walk next_at item_at kind_of kinds faulty some those last_address fixed sample
sample_model = refl

sample_processors : list processors (fixed 88 ++ sample) ≡ 0 ∷ 0 ∷ 2 ∷ 1 ∷ 2 ∷ 1 ∷ []
unfolding list words_of those differ when number entries entries_from walk next_at item_at less kind_of kinds fixed sample
sample_processors = refl

sample_nmi_lines : list local_apic_nmi_lines (fixed 88 ++ sample) ≡ 0xffff_ffff ∷ 1 ∷ []
unfolding list words_of those differ when number entries entries_from walk next_at item_at less kind_of kinds fixed sample
sample_nmi_lines = refl

-- The same with a length of 0 in the last entry.
damaged :
    model_of
    (fixed 88
    ++ 0x00 ∷ 0x08 ∷ 0x00 ∷ 0x00 ∷ 0x01 ∷ 0x00 ∷ 0x00 ∷ 0x00 ∷ 0x00 ∷ 0x08 ∷ 0x01 ∷ 0x02 ∷ 0x01 ∷ 0x00 ∷ 0x00 ∷ 0x00
    ∷ 0x01 ∷ 0x0c ∷ 0x02 ∷ 0x00 ∷ 0x00 ∷ 0x00 ∷ 0xc0 ∷ 0xfe ∷ 0x00 ∷ 0x00 ∷ 0x00 ∷ 0x00 ∷ 0x02 ∷ 0x0a ∷ 0x00 ∷ 0x00
    ∷ 0x02 ∷ 0x00 ∷ 0x00 ∷ 0x00 ∷ 0x00 ∷ 0x00 ∷ 0x04 ∷ 0x00 ∷ 0xff ∷ 0x05 ∷ 0x00 ∷ 0x01 ∷ [])
    ≡ Err InconsistentEntry
unfolding model_of refusals not_madt model_with madt_of checked differ when less number entries entries_from walk next_at item_at kind_of kinds faulty some those last_address fixed
damaged = refl

-- An override of another bus is WrongEntryField, and InconsistentEntry where there is no processor either. Of two address
-- overrides the last wins.
other_bus : model_of (fixed 62 ++ 2 ∷ 10 ∷ 1 ∷ 0 ∷ 2 ∷ 0 ∷ 0 ∷ 0 ∷ 0 ∷ 0 ∷ 0 ∷ 8 ∷ 0 ∷ 0 ∷ 1 ∷ 0 ∷ 0 ∷ 0 ∷ []) ≡ Err WrongEntryField
unfolding model_of refusals not_madt model_with madt_of checked differ when less number entries entries_from walk next_at item_at kind_of kinds faulty some those last_address fixed
other_bus = refl

no_processor : model_of (fixed 54 ++ 2 ∷ 10 ∷ 1 ∷ 0 ∷ 2 ∷ 0 ∷ 0 ∷ 0 ∷ 0 ∷ 0 ∷ []) ≡ Err InconsistentEntry
unfolding model_of refusals not_madt model_with madt_of checked differ when less number entries entries_from walk next_at item_at kind_of kinds faulty some those last_address fixed
no_processor = refl

last_address_lem :
    last_address
    (fixed 68
    ++ 5 ∷ 12 ∷ 0 ∷ 0 ∷ 1 ∷ 0 ∷ 0 ∷ 0 ∷ 0 ∷ 0 ∷ 0 ∷ 0 ∷ 5 ∷ 12 ∷ 0 ∷ 0 ∷ 2 ∷ 0 ∷ 0 ∷ 0 ∷ 0 ∷ 0 ∷ 0 ∷ 0 ∷ [])
    0xfee0_0000
    (entries
    (fixed 68
    ++ 5 ∷ 12 ∷ 0 ∷ 0 ∷ 1 ∷ 0 ∷ 0 ∷ 0 ∷ 0 ∷ 0 ∷ 0 ∷ 0 ∷ 5 ∷ 12 ∷ 0 ∷ 0 ∷ 2 ∷ 0 ∷ 0 ∷ 0 ∷ 0 ∷ 0 ∷ 0 ∷ 0 ∷ []))
    ≡ 2
unfolding last_address number when less entries entries_from walk next_at item_at kind_of kinds fixed
last_address_lem = refl

-- Nothing of the model: it is unknown, and that is no refusal.
unknown_model_lem :
    model_of (fixed 46 ++ 0x80 ∷ 2 ∷ [])
    ≡ Ok
    (record {
      known = false;
      local_apic_address = 0xfee0_0000;
      also_has_legacy_pics = true;
      processors = 0;
      io_apics = 0;
      interrupt_source_overrides = 0;
      nmi_sources = 0;
      local_apic_nmi_lines = 0;
    })
unfolding model_of refusals not_madt model_with madt_of checked differ when less number entries entries_from walk next_at item_at kind_of kinds faulty some those last_address fixed
unknown_model_lem = refl
