-- Laws about UTF-8: which row of the table a first byte has. The rows ascend, so all rows before it end below the byte.
use Rattle.std.proofs.Common.{◌≡◌, ℕ, zero, suc, ◌<◌, ◌≤◌, Bool, true, false, ◌&&◌, T, leb, List, [], ◌∷◌, drop, sym, refl, ap, ◌∙◌, zero-le, lt_of_lt_of_le, lt_of_le_of_lt, leb→le, le-leb}
use borrow.Author.Tests.{lt-leb}
use Rattle.field.specs.Text.{Span, ◌to◌, within, Row, table, following_in}
use Rattle.std.specs.Prelude.{Some, None}
use Rattle.field.specs.First.{when}

-- A byte is inside a span, or below it, or above it.
pub inside : (span : Span) (b : ℕ) → span.low ≤ b → b ≤ span.high → within span b ≡ true
unfolding within
inside span b h k = rw (le-leb span.low b h, le-leb b span.high k)

pub below : (span : Span) (b : ℕ) → b < span.low → within span b ≡ false
unfolding within
below span b h = rw (lt-leb span.low b h)

and_false : (a : Bool) → a && false ≡ false
and_false true = refl
and_false false = refl

pub above : (span : Span) (b : ℕ) → span.high < b → within span b ≡ false
unfolding within
above span b h = rw (lt-leb b span.high h) (and_false (leb span.low b))

-- Whether each of the first k rows ends at the bound or below; and whether every row begins at the bound or above.
unfoldable pub end_by : ℕ → ℕ → List Row → Bool
end_by zero bound rows = true
end_by (suc k) bound [] = true
end_by (suc k) bound (row ∷ rows) = leb row.first.high bound && end_by k bound rows

unfoldable pub begin_from : ℕ → List Row → Bool
begin_from bound [] = true
begin_from bound (row ∷ rows) = leb bound row.first.low && begin_from bound rows

both : (a b : Bool) → T (a && b) → T a × T b
both true b t = (tt, t)
both false b t = absurd t

skip_row : (row : Row) (rows : List Row) (b : ℕ) → within row.first b ≡ false → following_in (row ∷ rows) b ≡ following_in rows b
unfolding following_in when
skip_row row rows b e = rw e

-- A byte above the first k rows has what it has in the others.
skip_rows : (k bound : ℕ) (rows : List Row) (b : ℕ) → T (end_by k bound rows) → bound < b → following_in rows b ≡ following_in (drop k rows) b
unfolding end_by
skip_rows zero bound rows b t h = refl
skip_rows (suc k) bound [] b t h = refl
skip_rows (suc k) bound (row ∷ rows) b t h =
    let ends : T (leb row.first.high bound) × T (end_by k bound rows) = both (leb row.first.high bound) (end_by k bound rows) t in
    skip_row row rows b (above row.first b (lt_of_le_of_lt (leb→le _ _ ends.0) h)) ∙ skip_rows k bound rows b ends.1 h

-- A byte below all rows has none.
no_row : (bound : ℕ) (rows : List Row) (b : ℕ) → T (begin_from bound rows) → b < bound → following_in rows b ≡ None
unfolding begin_from following_in
no_row bound [] b t h = refl
no_row bound (row ∷ rows) b t h =
    let begins : T (leb bound row.first.low) × T (begin_from bound rows) = both (leb bound row.first.low) (begin_from bound rows) t in
    skip_row row rows b (below row.first b (lt_of_lt_of_le h (leb→le _ _ begins.0))) ∙ no_row bound rows b begins.1 h

hit_row : (row : Row) (rows : List Row) (b : ℕ) → within row.first b ≡ true → following_in (row ∷ rows) b ≡ Some row.following
unfolding following_in when
hit_row row rows b e = rw e

-- A byte in the span of the row at k has what follows in that row, if the rows before it end below the byte.
pub in_row : (k bound b : ℕ) {row : Row} {rows : List Row} → drop k table ≡ row ∷ rows → T (end_by k bound table) → bound < b
    → row.first.low ≤ b → b ≤ row.first.high → Some row.following ≡ following_in table b
in_row k bound b {row} {rows} e t h low high =
    sym
    (skip_rows k bound table b t h
    ∙ ap (λ (l : List Row). following_in l b) e
    ∙ hit_row row rows b (inside row.first b low high))

-- The first row has no row before it.
pub in_first_row : (b : ℕ) → b ≤ 0x7f → Some [] ≡ following_in table b
unfolding table following_in when
in_first_row b h = sym (rw (inside (0x00 to 0x7f) b zero-le h))

-- A byte above the first k rows and below the others is in none.
pub in_no_row : (k bound next b : ℕ) → T (end_by k bound table) → T (begin_from next (drop k table)) → bound < b → b < next
    → None ≡ following_in table b
in_no_row k bound next b t u h h' = sym (skip_rows k bound table b t h ∙ no_row next (drop k table) b u h')
