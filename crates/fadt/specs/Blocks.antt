-- Register blocks, as generic addresses (ACPI 6.5, Table 5.9).
use Rattle.std.specs.Prelude.{ℕ, ◌+◌, ◌*◌, List, [], ◌∷◌, Bool, true, false, ◌&&◌, ◌||◌, length, slice_index_or, Result, Ok, Err}
use Rattle.refusal.specs.declared.Refusal.{Refusal}
use Rattle.refusal.specs.declared.Refusal.TheVariants.{TooShort, NotThere}
use Rattle.field.specs.Number.{number}
use Rattle.field.specs.First.{less, differ, when}
use Rattle.field.specs.Then.{and_then}
use Rattle.address.specs.Generic.{generic_address_at}
use Rattle.address.specs.declared.AddressSpace.TheVariants.{SystemIo}
use Rattle.address.specs.declared.AccessSize.TheVariants.{Undefined}
use Rattle.address.specs.declared.GenericAddress.{GenericAddress}
use Rattle.fadt.specs.Room.{lacks}
use Rattle.fadt.specs.Forms.{form_of, by_form}
use Rattle.fadt.specs.declared.Place.{Place}
use Rattle.fadt.specs.declared.RegisterBlock.{RegisterBlock}
use Rattle.fadt.specs.declared.RegisterBlock.TheVariants.{Pm1aEvent, Pm1bEvent, Pm1aControl, Pm1bControl, Pm2Control, PmTimer, Gpe0, Gpe1}

-- a place: the offsets of a narrow address, of a length byte and of a wide form, and two rules
abbrev pub place : ℕ → ℕ → ℕ → Bool → Bool → Place
place narrow size wide required four = record { narrow = narrow; size = size; wide = wide; required = required; four = four }

-- Each block: where its narrow address, its length byte and its wide form stand; whether it answers though its address is
-- zero, as the two PM1a blocks do, which are required; and whether its length must be 4, as PM_TMR_LEN must.
abbrev pub place_of : RegisterBlock → Place
place_of Pm1aEvent = place 56 88 148 true false
place_of Pm1bEvent = place 60 88 160 false false
place_of Pm1aControl = place 64 89 172 true false
place_of Pm1bControl = place 68 89 184 false false
place_of Pm2Control = place 72 90 196 false false
place_of PmTimer = place 76 91 208 false true
place_of Gpe0 = place 80 92 220 false false
place_of Gpe1 = place 84 93 232 false false

-- the narrow form of a block: in I/O space from the address on, as many bytes as the length byte says
unfoldable pub narrow_address : List ℕ → Place → GenericAddress
narrow_address table p =
    record {
      address_space = SystemIo;
      bit_width = 8 * number table p.size 1;
      bit_offset = 0;
      access_size = Undefined;
      address = number table p.narrow 4;
    }

unfoldable pub narrow_block : List ℕ → Place → Result GenericAddress Refusal
narrow_block table p =
    when (p.required || differ (number table p.narrow 4) 0) (Ok (narrow_address table p)) (Err NotThere)

-- a block by the form that counts; of the twelve bytes of the wide form the last eight are its address
unfoldable pub formed_block : List ℕ → Place → Result GenericAddress Refusal
formed_block table p =
    and_then (form_of table (p.wide + 4)) (λ form. by_form form (generic_address_at table p.wide) (narrow_block table p))

-- a block whose length must be 4 is not there with another length, whatever its forms say
unfoldable pub block : List ℕ → Place → Result GenericAddress Refusal
block table p = when (p.four && differ (number table p.size 1) 4) (Err NotThere) (formed_block table p)

-- Where a register block lies.
unfoldable pub register_block : List ℕ → RegisterBlock → Result GenericAddress Refusal
register_block table which = when (lacks table 116) (Err TooShort) (block table (place_of which))

-- the blocks in the order of their numbers, which is that of the table
abbrev pub blocks : List RegisterBlock
blocks = Pm1aEvent ∷ Pm1bEvent ∷ Pm1aControl ∷ Pm1bControl ∷ Pm2Control ∷ PmTimer ∷ Gpe0 ∷ Gpe1 ∷ []

-- the block of a number: there is none behind the list
unfoldable pub nth_block : ℕ → Result RegisterBlock Refusal
nth_block n = when (less n (length blocks)) (Ok (slice_index_or blocks n Pm1aEvent)) (Err NotThere)

-- Where the block of a number lies.
unfoldable pub nth_register_block : List ℕ → ℕ → Result GenericAddress Refusal
nth_register_block table n =
    when (lacks table 116) (Err TooShort) (and_then (nth_block n) (λ which. block table (place_of which)))
