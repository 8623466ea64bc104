-- How the state of the walk over UTF-8 stands for the spans of the bytes that are still to come.
use Rattle.std.specs.Prelude.{ℕ, zero, suc, Bool, false, List, [], ◌∷◌, replicate, Option, Some, None}
use Rattle.field.specs.Text.{Span, ◌to◌, well_formed}
use Rattle.field.specs.declared.utf8.Expected.{Expected}

-- n bytes to come: the next from low to high, the others from 80 to bf
unfoldable pub spans : ℕ → ℕ → ℕ → List Span
spans zero low high = []
spans (suc n) low high = (low to high) ∷ replicate n (0x80 to 0xbf)

unfoldable pub spans_of : Expected → List Span
spans_of e = spans e.left e.low e.high

unfoldable pub meaning : Option Expected → Option (List Span)
meaning None = None
meaning (Some e) = Some (spans_of e)

-- whether the bytes s are well formed after what a byte led to
unfoldable pub well_formed_after : Option Expected → List ℕ → Bool
well_formed_after None s = false
well_formed_after (Some e) s = well_formed (spans_of e) s
