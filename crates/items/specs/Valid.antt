-- Entries that a list over t terminals can have, and how many. Assumes nothing.
use Rattle.std.specs.Prelude.{List, [], ◌∷◌, ℕ, ◌≤◌, ◌<◌, length, get_or}
use Rattle.items.specs.Items.{Item}

-- 'A sentence w is up to 1,000 symbols from 1 to T - 1', a lookahead below T, and an article number, '0 to 2,097,151'
pub record ValidItem (t : ℕ) (x : Item) : Type 0 where
  pub short : length x.symbols ≤ 1000
  pub symbol : (i : ℕ) → i < length x.symbols → (1 ≤ get_or x.symbols i 0) × (get_or x.symbols i 0 < t)
  pub below : x.lookahead < t
  pub article : x.article ≤ 2097151

pub data AllValid (t : ℕ) : List Item → Type 0 where
  none : AllValid t []
  more : {x : Item} {xs : List Item} → ValidItem t x → AllValid t xs → AllValid t (x ∷ xs)
