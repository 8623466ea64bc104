-- Laws about pieces: what changing a byte leaves alone.
use Rattle.std.proofs.Common.{sym, [], ◌∷◌}
use Rattle.field.specs.Choice.All.{none, with}
use Rattle.field.proofs.ChoiceLaws.{all_map}
use Rattle.memory.specs.Pieces.{Piece, OthersAgree, NotMappedOutside}
use Rattle.memory.proofs.PlaceLaws.{other_bytes_stay}

-- A byte outside a piece can change, and what is read there stays.
pub others_agree : OthersAgree
others_agree image words j b pieces outside =
    all_map (λ (piece : Piece) elsewhere. sym (other_bytes_stay image words piece.start piece.size j b elsewhere)) outside

pub not_mapped_outside : NotMappedOutside
not_mapped_outside words j [] unmapped = none
not_mapped_outside words j (piece ∷ pieces) unmapped =
    with (unmapped piece.start piece.size) (not_mapped_outside words j pieces unmapped)
