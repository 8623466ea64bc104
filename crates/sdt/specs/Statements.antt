-- What is shown of valid tables beside the contracts.
use Rattle.std.specs.Prelude.{ℕ, ◌%◌, ◌≤◌, ◌≡◌, List, false, length, take, sum, Ok}
use Rattle.refusal.specs.Number.{number_of}
use Rattle.field.specs.First.{Ascending}
use Rattle.sdt.specs.Header.{header_size, length_of, whole_of}
use Rattle.sdt.specs.Valid.{wrong_signature, table_reasons, root_reasons, table_checked, root_checked}
use Rattle.sdt.specs.declared.Wanted.{Wanted}

-- A valid table is mapped whole, as long as it says, as long as was asked, and sums to 0 over exactly that length.
pub record ValidTable (wanted : Wanted) (least : ℕ) (t : List ℕ) : Type 0 where
  pub kind : wrong_signature wanted t ≡ false
  pub mapped : length_of t ≤ length t
  pub header : header_size ≤ length_of t
  pub enough : least ≤ length_of t
  pub sums : sum (whole_of t) % 256 ≡ 0

abbrev pub ValidSums : Type 0
ValidSums = (wanted : Wanted) (least : ℕ) (t : List ℕ) → table_checked wanted least t ≡ Ok tt → ValidTable wanted least t

abbrev pub ValidRootSums : Type 0
ValidRootSums = (wanted : Wanted) (t : List ℕ) → root_checked wanted t ≡ Ok tt → ValidTable wanted header_size t

-- The answer about a table depends on its header alone, and on the whole of it only if its signature is the wanted one.
abbrev pub TableBytes : Type 0
TableBytes =
    (wanted : Wanted) (least : ℕ) (t t' : List ℕ) → length t ≡ length t' → take header_size t ≡ take header_size t'
    → (wrong_signature wanted t ≡ false → whole_of t ≡ take (length_of t) t')
    → table_checked wanted least t ≡ table_checked wanted least t'

-- The answer about the root table depends on it over its stated length (and on its header, where it states less).
abbrev pub RootBytes : Type 0
RootBytes =
    (wanted : Wanted) (t t' : List ℕ) → length t ≡ length t' → take header_size t ≡ take header_size t'
    → whole_of t ≡ take (length_of t) t' → root_checked wanted t ≡ root_checked wanted t'

-- The numbers ascend, so that the first that applies is the smallest.
abbrev pub TableReasonsAscend : Type 0
TableReasonsAscend = (wanted : Wanted) (least : ℕ) (t : List ℕ) → Ascending number_of 7 (table_reasons wanted least t)

abbrev pub RootReasonsAscend : Type 0
RootReasonsAscend = (wanted : Wanted) (t : List ℕ) → Ascending number_of 6 (root_reasons wanted t)
