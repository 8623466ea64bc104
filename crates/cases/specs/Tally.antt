-- How questions are counted.
use Rattle.std.specs.Prelude.{◌≡◌, ◌≢◌, ◌+◌, ◌-◌, ◌^◌, ℕ, Bool, List, if◌then◌else◌, min, option_map, slice_get, unwrap_or}
use Rattle.std.specs.Ordering.{nat_cmp}
use Rattle.std.specs.BTreeMap.{BTreeMap, get}
use Rattle.cases.specs.declared.tally.Count.{Count}

-- No question yet.
abbrev pub none_asked : Count
none_asked = record { asked = 0; differed = 0 }

-- One question more, and one that differs more unless its answer is the same, as far as the numbers go.
abbrev pub counted : Count → Bool → Count
counted c same =
    record {
      asked = min (c.asked + 1) (2 ^ 64 - 1);
      differed = min (c.differed + (if same then 0 else 1)) (2 ^ 64 - 1);
    }

-- The count of a question, and none asked where the map has nothing of it yet.
abbrev pub count_of : BTreeMap ℕ Count → ℕ → Count
count_of counts id = unwrap_or (get nat_cmp counts id) (record { asked = 0; differed = 0 })

-- The count of the question goes up, and no other changes.
pub record Notes (old new : BTreeMap ℕ Count) (id : ℕ) (same : Bool) : Type 0 where
  pub noted : count_of new id ≡ counted (count_of old id) same
  pub others : (other : ℕ) → other ≢ id → count_of new other ≡ count_of old other

-- The same where the counts stand in a row, at the questions' numbers.
pub record NotesInRow (old new : List Count) (id : ℕ) (same : Bool) : Type 0 where
  pub noted : slice_get new id ≡ option_map (λ c. counted c same) (slice_get old id)
  pub others : (other : ℕ) → other ≢ id → slice_get new other ≡ slice_get old other
