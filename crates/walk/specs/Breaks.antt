-- Reductions that break. Assumes nothing.
use Rattle.std.specs.Prelude.{List, [], ◌∷◌, ◌++◌, ◌≡◌, ℕ}
use Rattle.book.specs.Tables.{Tables}
use Rattle.machine.specs.Machine.{Move, next, Steps, Terminals}

-- request 5: 'some sequence, of any length, brings the machine there with a stack on which the reduction breaks': fed w then z the machine has at
-- some moment taken in all of w and not z, with s on top, and its next step is a broken reduction. Stack and reductions are unlimited
pub record Breaks (B : Tables) (w : List ℕ) (z s : ℕ) : Type 0 where
  pub terminals : Terminals B w
  pub below : List ℕ
  pub run : Steps B (0 ∷ []) (w ++ (z ∷ [])) (s ∷ below) (z ∷ [])
  pub broken : next B (s ∷ below) z ≡ Move.breaks
