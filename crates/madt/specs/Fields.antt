-- The fields of the entries of the MADT (ACPI 6.5, sections 5.2.12.2 to 5.2.12.19).
use Rattle.std.specs.Prelude.{ℕ, ◌+◌, List}
use Rattle.field.specs.Number.{number}

infix 40 ◌bytes_at◌
-- a field: how many bytes it has, and at which offset from the entry's start
pub data Field : Type 0 where
  ◌bytes_at◌ : ℕ → ℕ → Field

-- the number in a field of the entry that begins at `at`
abbrev pub value : List ℕ → ℕ → Field → ℕ
value s at (size bytes_at offset) = number s (at + offset) size

-- Processor Local APIC, 5.2.12.2
abbrev pub local_apic_uid : Field
local_apic_uid = 1 bytes_at 2

abbrev pub local_apic_id : Field
local_apic_id = 1 bytes_at 3

abbrev pub local_apic_flags : Field
local_apic_flags = 4 bytes_at 4

-- I/O APIC, 5.2.12.3
abbrev pub io_apic_id : Field
io_apic_id = 1 bytes_at 2

abbrev pub io_apic_address : Field
io_apic_address = 4 bytes_at 4

abbrev pub io_apic_interrupt_base : Field
io_apic_interrupt_base = 4 bytes_at 8

-- Interrupt Source Override, 5.2.12.5
abbrev pub override_bus : Field
override_bus = 1 bytes_at 2

abbrev pub override_source : Field
override_source = 1 bytes_at 3

abbrev pub override_interrupt : Field
override_interrupt = 4 bytes_at 4

abbrev pub override_flags : Field
override_flags = 2 bytes_at 8

-- NMI Source, 5.2.12.6
abbrev pub nmi_source_flags : Field
nmi_source_flags = 2 bytes_at 2

abbrev pub nmi_source_interrupt : Field
nmi_source_interrupt = 4 bytes_at 4

-- Local APIC NMI, 5.2.12.7
abbrev pub local_apic_nmi_uid : Field
local_apic_nmi_uid = 1 bytes_at 2

abbrev pub local_apic_nmi_line : Field
local_apic_nmi_line = 1 bytes_at 5

-- Local APIC Address Override, 5.2.12.8
abbrev pub address_override : Field
address_override = 8 bytes_at 4

-- Processor Local x2APIC, 5.2.12.12
abbrev pub local_x2apic_id : Field
local_x2apic_id = 4 bytes_at 4

abbrev pub local_x2apic_flags : Field
local_x2apic_flags = 4 bytes_at 8

abbrev pub local_x2apic_uid : Field
local_x2apic_uid = 4 bytes_at 12

-- Local x2APIC NMI, 5.2.12.13
abbrev pub x2apic_nmi_uid : Field
x2apic_nmi_uid = 4 bytes_at 4

abbrev pub x2apic_nmi_line : Field
x2apic_nmi_line = 1 bytes_at 8

-- Multiprocessor Wakeup, 5.2.12.19
abbrev pub mailbox_address : Field
mailbox_address = 8 bytes_at 8
