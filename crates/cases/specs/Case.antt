-- What a question of a file asks about, as tests/reference/make_cases.py lays it out.
use Rattle.std.specs.Prelude.{◌≡◌, ℕ, List, fold, slice_index, slice_set}
use Rattle.std.specs.Int.{from_le_bytes, w32}
use Rattle.cases.specs.declared.record.Image.{Image}
use Rattle.cases.specs.declared.record.Question.{Question}
use Rattle.cases.specs.declared.case.Case.{Case}

-- A patch has an offset in its first four bytes, and a byte behind them.
unfoldable pub offset_of : List ℕ → ℕ
offset_of patch = from_le_bytes w32 patch

abbrev pub with_patch : List ℕ → List ℕ → List ℕ
with_patch image patch = slice_set image (offset_of patch) (slice_index patch 4)

-- The image with its patches, and its ranges and the numbers of the question as the file has them, eight bytes each.
pub record IsOf (image : Image) (question : Question) (case : Case) : Type 0 where
  pub patched : case.image.now ≡ fold with_patch image.bytes.now question.patches.now
  pub ranges : case.ranges.now ≡ image.ranges.now
  pub id : case.id ≡ question.id
  pub arguments : case.arguments.now ≡ question.arguments.now
  pub number : case.stored.number ≡ question.answer
  pub values : case.stored.values.now ≡ question.values.now
