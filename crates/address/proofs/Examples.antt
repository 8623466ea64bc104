-- The definitions on a few bytes: a 32-bit register at 0xfed00000 in memory, the same with a reserved space, and with a
-- reserved access size.
use Rattle.std.proofs.Common.{ℕ, ◌≡◌, refl, List, [], ◌∷◌, Ok, Err}
use Rattle.refusal.specs.declared.Refusal.TheVariants.{UnknownSpaceOrSize}
use Rattle.field.specs.Number.{number}
use Rattle.field.specs.First.{less, when}
use Rattle.address.specs.Space.{space_of}
use Rattle.address.specs.Size.{size_of}
use Rattle.address.specs.Generic.{generic_address_at}
use Rattle.address.specs.declared.AddressSpace.TheVariants.{SystemMemory}
use Rattle.address.specs.declared.AccessSize.TheVariants.{DWordAccess}

abbrev register : ℕ → ℕ → List ℕ
register space size = 0xaa ∷ space ∷ 32 ∷ 0 ∷ size ∷ 0x00 ∷ 0x00 ∷ 0xd0 ∷ 0xfe ∷ 0 ∷ 0 ∷ 0 ∷ 0 ∷ []

in_memory :
    generic_address_at (register 0 3) 1
    ≡ Ok
    (record { address_space = SystemMemory; bit_width = 32; bit_offset = 0; access_size = DWordAccess; address = 0xfed0_0000 })
unfolding generic_address_at space_of size_of number less when
in_memory = refl

reserved_space : generic_address_at (register 0x0b 3) 1 ≡ Err UnknownSpaceOrSize
unfolding generic_address_at space_of size_of number less when
reserved_space = refl

reserved_size : generic_address_at (register 0 5) 1 ≡ Err UnknownSpaceOrSize
unfolding generic_address_at space_of size_of number less when
reserved_size = refl
