-- Bytes put at a place of a lent buffer. Assumes nothing.
use Rattle.std.specs.Prelude.{List, length, ◌≡◌, ℕ, ◌+◌}
use Rattle.std.proofs.lemmas.List.Edits.{sets}

-- the bytes stand there one after the other, all others keep their values, and the place after them is answered
pub record Put (bytes lent : List ℕ) (at : ℕ) (left : List ℕ) (next : ℕ) : Type 0 where
  pub stored : left ≡ sets lent at bytes
  pub after : next ≡ at + length bytes
