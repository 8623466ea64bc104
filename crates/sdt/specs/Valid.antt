-- When a table is valid for whoever asks, and what refuses it (docs/TABLES.md, "Tables" and "Answers").
use Rattle.std.specs.Prelude.{ℕ, ◌%◌, max, List, [], ◌∷◌, ◌++◌, Bool, not, ◌&&◌, length, sum, Result}
use Rattle.refusal.specs.declared.Refusal.{Refusal}
use Rattle.refusal.specs.declared.Refusal.TheVariants.{RootNotMapped, WrongSignature, WrongOemId, WrongTableId, WrongChecksum, TooShort, NoValidTable}
use Rattle.field.specs.First.{less, differ, Reason, ◌gives◌, checked}
use Rattle.field.specs.Part.{part}
use Rattle.field.specs.Text.{text}
use Rattle.sdt.specs.Header.{header_size, signature_of, length_of, maker_of, table_id_of, whole_of}
use Rattle.sdt.specs.declared.Wanted.{Wanted}
use Rattle.sdt.specs.declared.Wanted.TheVariants.{Signature, Any}

-- the table is not of the kind asked for; where any is, its signature still has to be text
unfoldable pub wrong_signature : Wanted → List ℕ → Bool
wrong_signature (Signature n) t = differ (signature_of t) n
wrong_signature Any t = not (text (part t 0 4))

-- the bytes of the table do not sum to 0 modulo 256 over its stated length
unfoldable pub wrong_sum : List ℕ → Bool
wrong_sum t = differ (sum (whole_of t) % 256) 0

-- part of the table lies behind what is mapped
unfoldable pub cut_off : List ℕ → Bool
cut_off t = less (length t) (length_of t)

-- the ids of the table's maker are no text
abbrev pub id_reasons : List ℕ → List (Reason Refusal)
id_reasons t = (not (text (maker_of t)) gives WrongOemId) ∷ (not (text (table_id_of t)) gives WrongTableId) ∷ []

unfoldable pub header_reasons : Wanted → List ℕ → List (Reason Refusal)
header_reasons wanted t = (wrong_signature wanted t gives WrongSignature) ∷ id_reasons t

-- A slice that is handed over as a table of at least so many bytes: it has a header, and is as long as it states.
unfoldable pub whole_checked : ℕ → List ℕ → Result (Unit {0}) Refusal
whole_checked least t =
    checked ((less (length t) (max header_size least) gives TooShort) ∷ (differ (length_of t) (length t) gives TooShort) ∷ [])

-- A table at an address. Without its header nothing can be said of it. A sum over bytes that are not mapped is not wrong.
unfoldable pub table_reasons : Wanted → ℕ → List ℕ → List (Reason Refusal)
table_reasons wanted least t =
    header_reasons wanted t
    ++ ((not (cut_off t) && wrong_sum t gives WrongChecksum)
    ∷ (less (length_of t) (max header_size least) gives TooShort)
    ∷ (cut_off t gives NoValidTable)
    ∷ [])

-- `Ok` where the table is valid for the signature wanted and at least so many bytes long, else what refuses it
unfoldable pub table_checked : Wanted → ℕ → List ℕ → Result (Unit {0}) Refusal
table_checked wanted least t = checked ((less (length t) header_size gives NoValidTable) ∷ table_reasons wanted least t)

-- The root table: the same, but that it has to be mapped over its whole length comes first.
unfoldable pub root_reasons : Wanted → List ℕ → List (Reason Refusal)
root_reasons wanted t =
    (less (length t) header_size gives RootNotMapped)
    ∷ (cut_off t gives RootNotMapped)
    ∷ header_reasons wanted t
    ++ ((wrong_sum t gives WrongChecksum)
    ∷ (less (length_of t) header_size gives TooShort)
    ∷ [])

unfoldable pub root_checked : Wanted → List ℕ → Result (Unit {0}) Refusal
root_checked wanted t = checked (root_reasons wanted t)
