-- The questions as they are asked of a slice with its list of ranges.
use Rattle.std.specs.Prelude.{ℕ, List, Result}
use Rattle.refusal.specs.declared.Refusal.{Refusal}
use Rattle.memory.specs.Asked.{asked}
use Rattle.memory.specs.Places.{view_of}
use Rattle.rsdp.specs.Pointer.{root_pointer_of}
use Rattle.rsdp.specs.Search.{search_of}
use Rattle.rsdp.specs.declared.Rsdp.{Rsdp}

unfoldable pub root_pointer_at : List ℕ → List ℕ → ℕ → Result Rsdp Refusal
root_pointer_at image words address = asked image words (root_pointer_of (view_of image words address))

unfoldable pub search_asked : List ℕ → List ℕ → Result ℕ Refusal
search_asked image words = asked image words (search_of image words)
