-- The plain fields of the fixed part (ACPI 6.5, Table 5.9).
use Rattle.std.specs.Prelude.{ℕ, List, Result, Ok, Err}
use Rattle.refusal.specs.declared.Refusal.{Refusal}
use Rattle.refusal.specs.declared.Refusal.TheVariants.{TooShort}
use Rattle.field.specs.Number.{number}
use Rattle.field.specs.First.{when}
use Rattle.fadt.specs.Room.{lacks}
use Rattle.fadt.specs.declared.Fixed.{Fixed}

-- each field by its offset and its number of bytes
unfoldable pub fixed_in : List ℕ → Fixed
fixed_in table =
    record {
      sci_interrupt = number table 46 2;
      smi_cmd_port = number table 48 4;
      acpi_enable = number table 52 1;
      acpi_disable = number table 53 1;
      s4bios_req = number table 54 1;
      pstate_control = number table 55 1;
      gpe1_base = number table 94 1;
      c_state_control = number table 95 1;
      worst_c2_latency = number table 96 2;
      worst_c3_latency = number table 98 2;
      flush_size = number table 100 2;
      flush_stride = number table 102 2;
      duty_offset = number table 104 1;
      duty_width = number table 105 1;
      day_alarm = number table 106 1;
      month_alarm = number table 107 1;
      century = number table 108 1;
      iapc_boot_arch = number table 109 2;
      flags = number table 112 4;
    }

-- All plain fields at once.
unfoldable pub fixed_fields : List ℕ → Result Fixed Refusal
fixed_fields table = when (lacks table 116) (Err TooShort) (Ok (fixed_in table))
