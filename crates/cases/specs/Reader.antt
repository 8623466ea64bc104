-- How a reader of a stored file goes on.
use Rattle.std.specs.Prelude.{◌≡◌, ◌+◌, ◌≤◌, ℕ, length}
use Rattle.cases.specs.declared.record.Reader.{Reader}

-- It stays in its file, and goes on by a number of bytes at least, at most to the file's end.
pub record Moves (from to : Reader) (bytes : ℕ) : Type 0 where
  pub same_file : to.file.now ≡ from.file.now
  pub forward : from.at + bytes ≤ to.at
  pub within : to.at ≤ length to.file.now
