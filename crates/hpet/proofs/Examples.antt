-- The definitions on a table of 56 bytes: timers of Intel's at 0xfed00000, three comparators, and on the same in I/O space.
use Rattle.std.proofs.Common.{ℕ, ◌≡◌, refl, List, [], ◌∷◌, ◌++◌, true, replicate}
use Rattle.std.specs.Prelude.{Ok, Err}
use Rattle.field.specs.Number.{number}
use Rattle.field.specs.First.{less, differ, when, checked}
use Rattle.refusal.specs.declared.Refusal.TheVariants.{UnknownSpaceOrSize}
use Rattle.hpet.specs.Hpet.{protection_of, info_of, hpet_of}
use Rattle.hpet.specs.declared.PageProtection.TheVariants.{Protected4K}

abbrev table : ℕ → List ℕ
table space =
    0x48 ∷ 0x50 ∷ 0x45 ∷ 0x54 ∷ 56 ∷ 0 ∷ 0 ∷ 0 ∷ []
    ++ replicate 28 0
    ++ 0x01 ∷ 0xa2 ∷ 0x86 ∷ 0x80 ∷ space ∷ 64 ∷ 0 ∷ 0 ∷ 0x00 ∷ 0x00 ∷ 0xd0 ∷ 0xfe ∷ 0 ∷ 0 ∷ 0 ∷ 0 ∷ 5 ∷ 0x80 ∷ 0x01 ∷ 0xf1 ∷ []

in_memory :
    hpet_of (table 0)
    ≡ Ok
    (record {
      event_timer_block_id = 0x8086_a201;
      hardware_rev = 1;
      num_comparators = 3;
      main_counter_is_64bits = true;
      legacy_irq_capable = true;
      pci_vendor_id = 0x8086;
      base_address = 0xfed0_0000;
      hpet_number = 5;
      clock_tick_unit = 0x0180;
      page_protection = Protected4K;
    })
unfolding hpet_of info_of protection_of number checked less differ when
in_memory = refl

in_ports : hpet_of (table 1) ≡ Err UnknownSpaceOrSize
unfolding hpet_of info_of protection_of number checked less differ when
in_ports = refl
