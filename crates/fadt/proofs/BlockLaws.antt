-- How a block that is asked for by its number stands to the block itself.
use Rattle.std.proofs.Common.{ℕ, ◌≡◌, refl, List, Ok}
use Rattle.field.specs.Then.{and_then}
use Rattle.fadt.specs.Blocks.{register_block, nth_block, nth_register_block}
use Rattle.fadt.specs.declared.RegisterBlock.{RegisterBlock}

-- The block of a block's number is that block: both questions test the table and read the block in one way.
pub numbered : (table : List ℕ) (n : ℕ) (which : RegisterBlock) → nth_block n ≡ Ok which → nth_register_block table n ≡ register_block table which
unfolding nth_register_block register_block
numbered table n which e = rw e refl
