-- Small tables, worked out: each answer is computed from the bytes.
use Rattle.std.proofs.Common.{ℕ, ◌≡◌, refl, List, true, false, replicate, set, Ok, Err}
use Rattle.refusal.specs.declared.Refusal.TheVariants.{TooShort, NotThere}
use Rattle.field.specs.Number.{number}
use Rattle.field.specs.First.{less, differ, when}
use Rattle.address.specs.declared.AddressSpace.TheVariants.{SystemIo}
use Rattle.address.specs.declared.AccessSize.TheVariants.{Undefined}
use Rattle.address.specs.declared.GenericAddress.{GenericAddress}
use Rattle.fadt.specs.Room.{lacks, early}
use Rattle.fadt.specs.Forms.{form_of}
use Rattle.fadt.specs.Values.{nonzero, formed, number_at, facs_address, dsdt_address, reset_value}
use Rattle.fadt.specs.Blocks.{narrow_address, narrow_block, formed_block, block, register_block}
use Rattle.fadt.specs.Registers.{register_at, sleep_register, reset_register, sleep_control_register}
use Rattle.fadt.specs.Profiles.{profiles, profile_of}
use Rattle.fadt.specs.Flags.{flag_of}
use Rattle.fadt.specs.declared.RegisterBlock.TheVariants.{Pm1aEvent, Pm1bEvent, PmTimer, Gpe0}
use Rattle.fadt.specs.declared.PowerProfile.TheVariants.{Tablet, Reserved}

-- a table of zeros, of a length below 256 and a revision
abbrev blank : ℕ → ℕ → List ℕ
blank size revision = set (set (replicate size 0) 4 size) 8 revision

-- an address in I/O space
abbrev port : ℕ → ℕ → GenericAddress
port width address =
    record { address_space = SystemIo; bit_width = width; bit_offset = 0; access_size = Undefined; address = address }

-- In revision 1 the narrow field counts, and zero is none.
narrow_only : dsdt_address (set (blank 116 1) 41 3) ≡ Ok 0x300
unfolding formed form_of nonzero lacks early less differ when number
narrow_only = refl

none : facs_address (blank 116 1) ≡ Err NotThere
unfolding formed form_of nonzero lacks early less differ when number
none = refl

-- In revision 2 the wide field counts if it is not zero, and the table must hold it.
wide_first : dsdt_address (set (set (blank 148 2) 41 3) 140 7) ≡ Ok 7
unfolding formed form_of nonzero lacks early less differ when number
wide_first = refl

wide_zero : dsdt_address (set (blank 148 2) 41 3) ≡ Ok 0x300
unfolding formed form_of nonzero lacks early less differ when number
wide_zero = refl

wide_cut : dsdt_address (set (blank 147 2) 41 3) ≡ Err TooShort
unfolding formed form_of nonzero lacks early less differ when number
wide_cut = refl

-- A slice whose stated length is another is no table.
other_length : dsdt_address (set (blank 116 1) 4 117) ≡ Err TooShort
unfolding formed form_of nonzero lacks early less differ when number
other_length = refl

-- A PM1a block of zero answers, a PM1b block of zero does not.
required : register_block (set (blank 116 1) 88 4) Pm1aEvent ≡ Ok (port 32 0)
unfolding register_block block formed_block narrow_block narrow_address form_of lacks early less differ when number
required = refl

optional : register_block (set (blank 116 1) 88 4) Pm1bEvent ≡ Err NotThere
unfolding register_block block formed_block narrow_block narrow_address form_of lacks early less differ when number
optional = refl

-- A length byte of 32 makes a width of 256.
wide_width : register_block (set (set (blank 116 1) 80 1) 92 32) Gpe0 ≡ Ok (port 256 1)
unfolding register_block block formed_block narrow_block narrow_address form_of lacks early less differ when number
wide_width = refl

-- The timer's length is looked at before the wide field, which this table does not hold.
no_timer : register_block (set (blank 116 2) 91 3) PmTimer ≡ Err NotThere
unfolding register_block block formed_block narrow_block narrow_address form_of lacks early less differ when number
no_timer = refl

timer_cut : register_block (set (blank 116 2) 91 4) PmTimer ≡ Err TooShort
unfolding register_block block formed_block narrow_block narrow_address form_of lacks early less differ when number
timer_cut = refl

timer : register_block (set (set (blank 116 1) 77 4) 91 4) PmTimer ≡ Ok (port 32 0x400)
unfolding register_block block formed_block narrow_block narrow_address form_of lacks early less differ when number
timer = refl

-- Registers and numbers behind the fixed part must lie inside the table.
reset_cut : reset_register (blank 127 1) ≡ Err TooShort
unfolding register_at lacks less differ when number
reset_cut = refl

reset_value_cut : reset_value (blank 128 1) ≡ Err TooShort
unfolding number_at lacks less differ when number
reset_value_cut = refl

reset_value_lem : reset_value (set (blank 129 1) 128 6) ≡ Ok 6
unfolding number_at lacks less differ when number
reset_value_lem = refl

-- A sleep register is not there before revision 2, and else must lie inside the table.
no_sleep : sleep_control_register (blank 244 1) ≡ Err NotThere
unfolding sleep_register register_at lacks early less differ when number
no_sleep = refl

sleep_cut : sleep_control_register (blank 244 3) ≡ Err TooShort
unfolding sleep_register register_at lacks early less differ when number
sleep_cut = refl

-- The last profile that has a name, and the first that has none.
tablet : profile_of 8 ≡ Tablet
unfolding profile_of profiles
tablet = refl

reserved : profile_of 9 ≡ Reserved 9
unfolding profile_of profiles
reserved = refl

-- Bits of a number.
bit_eight : flag_of 0x100 8 ≡ true
unfolding flag_of
bit_eight = refl

bit_nine : flag_of 0x100 9 ≡ false
unfolding flag_of
bit_nine = refl
