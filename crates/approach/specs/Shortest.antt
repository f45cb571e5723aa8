-- The costs to go from state 0 over an empty rest of the stack. Assumes nothing.
use Rattle.std.specs.Prelude.{List, ◌≡◌, ℕ, zero, suc, ◌≤◌, ◌<◌, min}
use Rattle.layers.specs.Layer.{entry_in, layer_in}

-- the least of what `togo` and the layers below m have for state 0 under a
unfoldable pub least_over : List ℕ → List ℕ → ℕ → ℕ → ℕ
least_over togo due zero a = entry_in togo 0 a
least_over togo due (suc m) a = min (layer_in due m 0 a) (least_over togo due m a)

-- r is the least of what E has below t, of which there is one at least
pub record Lowest (E : ℕ → ℕ) (t r : ℕ) : Type 0 where
  pub below : (a : ℕ) → a < t → r ≤ E a
  pub attained : (a : ℕ) × (a < t) × (r ≡ E a)
