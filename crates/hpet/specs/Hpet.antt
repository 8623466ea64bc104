-- The HPET table (IA-PC HPET Specification 1.0a, section 3.2.4, Table 3), 56 bytes.
use Rattle.std.specs.Prelude.{ℕ, ◌+◌, ◌-◌, ◌/◌, ◌%◌, ◌^◌, List, [], ◌∷◌, ◌==◌, length, slice_get, unwrap_or, Result, Ok}
use Rattle.field.specs.Number.{number}
use Rattle.field.specs.First.{less, differ, ◌gives◌, checked}
use Rattle.field.specs.Then.{and_then}
use Rattle.refusal.specs.declared.Refusal.{Refusal}
use Rattle.refusal.specs.declared.Refusal.TheVariants.{TooShort, UnknownSpaceOrSize}
use Rattle.address.specs.Space.{space_number}
use Rattle.address.specs.declared.AddressSpace.TheVariants.{SystemMemory}
use Rattle.hpet.specs.declared.PageProtection.{PageProtection}
use Rattle.hpet.specs.declared.PageProtection.TheVariants.{None, Protected4K, Protected64K, Other}
use Rattle.hpet.specs.declared.HpetInfo.{HpetInfo}

-- the bits of x from `high` down to `low`, both included, as the specification writes them
abbrev pub bits : ℕ → ℕ → ℕ → ℕ
bits x high low = x / 2 ^ low % 2 ^ (high + 1 - low)

-- Page Protection: no guarantee, or the rest of 4 KB or of 64 KB may be accessed; other numbers are reserved
abbrev pub protections : List PageProtection
protections = None ∷ Protected4K ∷ Protected64K ∷ []

unfoldable pub protection_of : ℕ → PageProtection
protection_of n = unwrap_or (slice_get protections n) Other

-- the number that callers are handed: that of the table, and 3 for all that are reserved
abbrev pub protection_number : PageProtection → ℕ
protection_number None = 0
protection_number Protected4K = 1
protection_number Protected64K = 2
protection_number Other = 3

-- The fields: Event Timer Block ID at 36, the base address' Address at 44 (its structure begins at 40), HPET Number at 52, Main
-- Counter Minimum Clock_tick at 53, Page Protection And OEM Attribute at 55. The block id holds the number of comparators less one.
unfoldable pub info_of : List ℕ → HpetInfo
info_of table =
    let id = number table 36 4 in
    record {
      event_timer_block_id = id;
      hardware_rev = bits id 7 0;
      num_comparators = bits id 12 8 + 1;
      main_counter_is_64bits = bits id 13 13 == 1;
      legacy_irq_capable = bits id 15 15 == 1;
      pci_vendor_id = bits id 31 16;
      base_address = number table 44 8;
      hpet_number = number table 52 1;
      clock_tick_unit = number table 53 2;
      page_protection = protection_of (bits (number table 55 1) 3 0);
    }

-- What a table says: TooShort where it is too short or its stated length is another, UnknownSpaceOrSize where the timers do not
-- lie in memory.
unfoldable pub hpet_of : List ℕ → Result HpetInfo Refusal
hpet_of table =
    and_then
    (checked
    ((less (length table) 56 gives TooShort)
    ∷ (differ (number table 4 4) (length table) gives TooShort)
    ∷ (differ (number table 40 1) (space_number SystemMemory) gives UnknownSpaceOrSize)
    ∷ []))
    (λ _. Ok (info_of table))
