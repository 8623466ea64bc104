-- Address spaces (ACPI 6.5, section 5.2.3.2, Table 5.1, field Address Space ID).
use Rattle.std.specs.Prelude.{ℕ, ◌≡◌, List, [], ◌∷◌, length, slice_index_or, Result, Ok, Err}
use Rattle.refusal.specs.declared.Refusal.{Refusal}
use Rattle.refusal.specs.declared.Refusal.TheVariants.{UnknownSpaceOrSize}
use Rattle.field.specs.First.{less, when}
use Rattle.address.specs.declared.AddressSpace.{AddressSpace}
use Rattle.address.specs.declared.AddressSpace.TheVariants.{SystemMemory, SystemIo, PciConfigSpace, EmbeddedController, SMBus, SystemCmos, PciBarTarget, Ipmi, GeneralIo, GenericSerialBus, PlatformCommunicationsChannel, FunctionalFixedHardware, OemDefined}

-- the number of each space
abbrev pub space_number : AddressSpace → ℕ
space_number SystemMemory = 0x00
space_number SystemIo = 0x01
space_number PciConfigSpace = 0x02
space_number EmbeddedController = 0x03
space_number SMBus = 0x04
space_number SystemCmos = 0x05
space_number PciBarTarget = 0x06
space_number Ipmi = 0x07
space_number GeneralIo = 0x08
space_number GenericSerialBus = 0x09
space_number PlatformCommunicationsChannel = 0x0a
space_number FunctionalFixedHardware = 0x7f
space_number (OemDefined n) = n

-- the spaces that the numbers from 0x00 on name
abbrev pub spaces : List AddressSpace
spaces =
    SystemMemory
    ∷ SystemIo
    ∷ PciConfigSpace
    ∷ EmbeddedController
    ∷ SMBus
    ∷ SystemCmos
    ∷ PciBarTarget
    ∷ Ipmi
    ∷ GeneralIo
    ∷ GenericSerialBus
    ∷ PlatformCommunicationsChannel
    ∷ []

-- The space that the number n names. What lies between the named ones is reserved, and from 0xc0 on a number is the maker's own.
unfoldable pub space_of : ℕ → Result AddressSpace Refusal
space_of n =
    when (less n (length spaces)) (Ok (slice_index_or spaces n SystemMemory))
    (when (less n 0x7f) (Err UnknownSpaceOrSize)
    (when (less n 0x80) (Ok FunctionalFixedHardware)
    (when (less n 0xc0) (Err UnknownSpaceOrSize)
    (Ok (OemDefined n)))))

-- A space that a number names has that number.
abbrev pub SpaceHasItsNumber : Type 0
SpaceHasItsNumber = (n : ℕ) (space : AddressSpace) → space_of n ≡ Ok space → space_number space ≡ n
