-- What each kind of value gives to a caller in another language: its words, in order.
use Rattle.std.specs.Prelude.{ℕ, List, [], ◌∷◌, Bool, true, false}
use Rattle.rsdp.specs.declared.Rsdp.{Rsdp}
use Rattle.tables.specs.declared.RootTable.{RootTable}
use Rattle.tables.specs.declared.RootKind.{RootKind}
use Rattle.tables.specs.declared.RootKind.TheVariants.{Rsdt, Xsdt}
use Rattle.tables.specs.declared.Table.{Table}
use Rattle.address.specs.Space.{space_number}
use Rattle.address.specs.Size.{size_number}
use Rattle.address.specs.declared.GenericAddress.{GenericAddress}
use Rattle.hpet.specs.Hpet.{protection_number}
use Rattle.hpet.specs.declared.HpetInfo.{HpetInfo}
use Rattle.mcfg.specs.declared.McfgEntry.{McfgEntry}
use Rattle.fadt.specs.Profiles.{profile_number}
use Rattle.fadt.specs.declared.PowerProfile.{PowerProfile}
use Rattle.fadt.specs.declared.Fixed.{Fixed}
use Rattle.madt.specs.declared.Madt.{Madt}
use Rattle.madt.specs.declared.MadtEntry.{MadtEntry}
use Rattle.platform.specs.declared.Model.{Model}
use Rattle.answers.specs.declared.aml.Aml.{Aml}

-- a yes is 1, a no is 0
abbrev pub bit : Bool → ℕ
bit true = 1
bit false = 0

-- an address, a count, or another number
abbrev pub one_value : ℕ → List ℕ
one_value n = n ∷ []

-- revision, length, address of the RSDT, address of the XSDT
abbrev pub rsdp_values : Rsdp → List ℕ
rsdp_values p = p.revision ∷ p.length ∷ p.rsdt_address ∷ p.xsdt_address ∷ []

abbrev pub kind_number : RootKind → ℕ
kind_number Rsdt = 0
kind_number Xsdt = 1

-- kind, address, offset in the slice, length, size of an entry, number of entries
abbrev pub root_values : RootTable → List ℕ
root_values t = kind_number t.kind ∷ t.address ∷ t.at ∷ t.len ∷ t.entry_size ∷ t.entries ∷ []

-- physical address, offset in the slice, length
abbrev pub table_values : Table → List ℕ
table_values t = t.address ∷ t.at ∷ t.len ∷ []

-- physical address and length
abbrev pub aml_values : Aml → List ℕ
aml_values a = a.address ∷ a.length ∷ []

-- block id, revision, comparators, wide counter, legacy, vendor, base, number, tick, protection
abbrev pub hpet_values : HpetInfo → List ℕ
hpet_values h =
    h.event_timer_block_id
    ∷ h.hardware_rev
    ∷ h.num_comparators
    ∷ bit h.main_counter_is_64bits
    ∷ bit h.legacy_irq_capable
    ∷ h.pci_vendor_id
    ∷ h.base_address
    ∷ h.hpet_number
    ∷ h.clock_tick_unit
    ∷ protection_number h.page_protection
    ∷ []

-- base, segment group, first and last bus
abbrev pub window_values : McfgEntry → List ℕ
window_values e = e.base_address ∷ e.pci_segment_group ∷ e.bus_number_start ∷ e.bus_number_end ∷ []

-- the number of the specification
abbrev pub profile_values : PowerProfile → List ℕ
profile_values p = profile_number p ∷ []

-- the plain fields in the order of the table
abbrev pub fixed_values : Fixed → List ℕ
fixed_values f =
    f.sci_interrupt
    ∷ f.smi_cmd_port
    ∷ f.acpi_enable
    ∷ f.acpi_disable
    ∷ f.s4bios_req
    ∷ f.pstate_control
    ∷ f.gpe1_base
    ∷ f.c_state_control
    ∷ f.worst_c2_latency
    ∷ f.worst_c3_latency
    ∷ f.flush_size
    ∷ f.flush_stride
    ∷ f.duty_offset
    ∷ f.duty_width
    ∷ f.day_alarm
    ∷ f.month_alarm
    ∷ f.century
    ∷ f.iapc_boot_arch
    ∷ f.flags
    ∷ []

-- space, bit width, bit offset, access size, address
abbrev pub generic_values : GenericAddress → List ℕ
generic_values a = space_number a.address_space ∷ a.bit_width ∷ a.bit_offset ∷ size_number a.access_size ∷ a.address ∷ []

-- address of the local controllers, flags, whether there are old controllers
abbrev pub madt_values : Madt → List ℕ
madt_values m = m.local_apic_address ∷ m.flags ∷ bit m.supports_8259 ∷ []

-- number of the kind, offset in the table, length
abbrev pub madt_entry_values : MadtEntry → List ℕ
madt_entry_values e = e.number ∷ e.at ∷ e.len ∷ []

-- whether there is a model, address of the local controllers, old controllers, and how many records each list has
abbrev pub model_values : Model → List ℕ
model_values m =
    bit m.known
    ∷ m.local_apic_address
    ∷ bit m.also_has_legacy_pics
    ∷ m.processors
    ∷ m.io_apics
    ∷ m.interrupt_source_overrides
    ∷ m.nmi_sources
    ∷ m.local_apic_nmi_lines
    ∷ []
