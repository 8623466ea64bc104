-- Laws about functions of the entries.
use Rattle.std.proofs.Common.{suc, ◌≤◌, ◌≡◌, refl, ◌∙◌, List, [], ◌∷◌, Bool, true, false, true≢false, arith, length}
use Rattle.std.specs.Prelude.{Ok, Err}
use Rattle.std.proofs.lemmas.Bool.{or_parts}
use Rattle.field.specs.First.{when}
use Rattle.field.proofs.FirstLaws.{when_pass}
use Rattle.madt.specs.Entries.{entries}
use Rattle.madt.proofs.EntryLaws.{Item}
use Rattle.madt.specs.declared.Kind.{Kind}
use Rattle.madt.specs.declared.Kind.TheVariants.{MultiprocessorWakeup, Foreign, Reserved}
use Rattle.platform.specs.Lists.{ListName, goes_to, of_model, those}
use Rattle.platform.specs.Model.{some, belongs, model_with, UnknownIsEmpty}

-- A kind that does not belong to the model goes to no list.
stranger : (k : Kind) (l : ListName) → of_model k ≡ false → goes_to k l ≡ false
stranger MultiprocessorWakeup l h = refl
stranger Foreign l h = refl
stranger Reserved l h = refl
stranger _ l h = absurd (true≢false h)

-- A list has no more entries than the table.
pub those_short : (l : ListName) (items : List Item) → length (those l items) ≤ length items
unfolding those when
those_short l [] = omega arith
those_short l (Err r ∷ items) = omega (arith, those_short l items)
those_short l (Ok e ∷ items) = go (goes_to e.kind l) (those_short l items)
  where
    go :
        (t : Bool) → length (those l items) ≤ length items →
        length (when t (e ∷ those l items) (those l items)) ≤ suc (length items)
    go true h = omega arith
    go false h = omega arith

-- Where no entry belongs to the model, a list has none.
none_belongs : (l : ListName) (items : List Item) → some belongs items ≡ false → those l items ≡ []
unfolding some those
none_belongs l [] h = refl
none_belongs l (Err r ∷ items) h = none_belongs l items h
none_belongs l (Ok e ∷ items) h =
    let both = or_parts (of_model e.kind) (some belongs items) h in
    when_pass _ _ _ (stranger e.kind l both.0) ∙ none_belongs l items both.1

pub unknown_is_empty : UnknownIsEmpty
unfolding model_with
unknown_is_empty s m h l = none_belongs l (entries s) h
