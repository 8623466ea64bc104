-- What a kernel asks first about its machine: power profile, interrupt model and power management timer in one answer.
use Rattle.std.specs.Prelude.{ℕ, List, [], ◌∷◌, ◌++◌, Bool, false, replicate, Option, Some, None, Result, Ok, Err}
use Rattle.field.specs.First.{differ, when}
use Rattle.field.specs.Then.{and_then}
use Rattle.refusal.specs.Number.{number_of}
use Rattle.refusal.specs.declared.Refusal.{Refusal}
use Rattle.refusal.specs.declared.Refusal.TheVariants.{NotThere}
use Rattle.memory.specs.Places.{view_of}
use Rattle.sdt.specs.Header.{whole_of}
use Rattle.sdt.specs.declared.Wanted.TheVariants.{Signature}
use Rattle.tables.specs.Tables.{nth_table}
use Rattle.tables.specs.declared.Table.{Table}
use Rattle.address.specs.declared.GenericAddress.{GenericAddress}
use Rattle.fadt.specs.Blocks.{register_block}
use Rattle.fadt.specs.Fields.{fixed_fields}
use Rattle.fadt.specs.Flags.{flag_of}
use Rattle.fadt.specs.Profiles.{power_profile, profile_number}
use Rattle.fadt.specs.declared.Fixed.{Fixed}
use Rattle.fadt.specs.declared.RegisterBlock.TheVariants.{PmTimer}
use Rattle.platform.specs.Model.{model_of}
use Rattle.platform.specs.declared.Model.{Model}
use Rattle.answers.specs.Answer.{answer_of}
use Rattle.answers.specs.Words.{bit, generic_values, model_values}
use Rattle.tablewalk.specs.Asked.{asked_of}
use Rattle.tablewalk.specs.declared.platform_info.PmTimer.{PmTimer as Timer}
use Rattle.tablewalk.specs.declared.platform_info.PlatformInfo.{PlatformInfo}

-- a model that is not known, and of which nothing is
abbrev pub unknown_model : Model
unknown_model =
    record {
      known = false;
      local_apic_address = 0;
      also_has_legacy_pics = false;
      processors = 0;
      io_apics = 0;
      interrupt_source_overrides = 0;
      nmi_sources = 0;
      local_apic_nmi_lines = 0;
    }

-- the model that a MADT describes; a machine without a valid MADT has an unknown one, which is no refusal
unfoldable pub model_part : List ℕ → List ℕ → Result Table Refusal → Result Model Refusal
model_part image words (Ok t) = model_of (whole_of (view_of image words t.address))
model_part image words (Err r) = Ok unknown_model

-- whether the timer has 32 bits: TMR_VAL_EXT, bit 8 of the flags (ACPI 6.5, Table 5.10)
unfoldable pub wide_timer : Result Fixed Refusal → Bool
wide_timer (Ok f) = flag_of f.flags 8
wide_timer (Err r) = false

-- the timer whose block was looked for: a block that is not there is no refusal, and then there is no timer
unfoldable pub timer_at : Result GenericAddress Refusal → Bool → Result (Option Timer) Refusal
timer_at (Ok base) wide = Ok (Some (record { base = base; supports_32bit = wide }))
timer_at (Err r) wide = when (differ (number_of r) (number_of NotThere)) (Err r) (Ok None)

unfoldable pub timer_of : List ℕ → Result (Option Timer) Refusal
timer_of fadt = timer_at (register_block fadt PmTimer) (wide_timer (fixed_fields fadt))

-- the power profile of the FADT, then the model, then the timer of the FADT: the first refusal counts
unfoldable pub info_with : Result Model Refusal → List ℕ → Result PlatformInfo Refusal
info_with model fadt =
    and_then (power_profile fadt)
    (λ profile. and_then model
    (λ m. and_then (timer_of fadt)
    (λ timer. Ok (record { power_profile = profile; interrupt_model = m; pm_timer = timer }))))

-- A FADT is needed, and a MADT is looked for: "FACP" and "APIC", lowest byte first.
unfoldable pub platform_info_of : List ℕ → List ℕ → ℕ → Result PlatformInfo Refusal
platform_info_of image words rsdp =
    asked_of image words (info_with (model_part image words (nth_table image words rsdp (Signature 0x43495041) 44 0)))
    (nth_table image words rsdp (Signature 0x50434146) 116 0)

-- 1, the timer's generic address and whether it has 32 bits; seven zeros where there is none
abbrev pub timer_values : Option Timer → List ℕ
timer_values (Some t) = 1 ∷ generic_values t.base ++ bit t.supports_32bit ∷ []
timer_values None = replicate 7 0

-- the number of the profile, the words of the model, and those of the timer
abbrev pub platform_values : PlatformInfo → List ℕ
platform_values info = profile_number info.power_profile ∷ (model_values info.interrupt_model ++ timer_values info.pm_timer)

unfoldable pub platform_answer : List ℕ → List ℕ → ℕ → Result (List ℕ) Refusal
platform_answer image words rsdp = answer_of platform_values (platform_info_of image words rsdp)
