-- The fields of a table's header: ACPI 6.5, section 5.2.6, Table 5.4 "DESCRIPTION_HEADER Fields". t is a view: the bytes
-- from the table's start to the end of what is mapped there.
use Rattle.std.specs.Prelude.{ℕ, List, take}
use Rattle.field.specs.Number.{number}
use Rattle.field.specs.Part.{part}

abbrev pub header_size : ℕ
header_size = 36

abbrev pub signature_of : List ℕ → ℕ
signature_of t = number t 0 4

-- Length: of the table in bytes, the header included
abbrev pub length_of : List ℕ → ℕ
length_of t = number t 4 4

abbrev pub revision_of : List ℕ → ℕ
revision_of t = number t 8 1

-- OEMID and OEM Table ID
abbrev pub maker_of : List ℕ → List ℕ
maker_of t = part t 10 6

abbrev pub table_id_of : List ℕ → List ℕ
table_id_of t = part t 16 8

-- the table itself: as many bytes as its length says
abbrev pub whole_of : List ℕ → List ℕ
whole_of t = take (length_of t) t
