-- The same entries in another order. Assumes nothing.
use Rattle.std.specs.Prelude.{List, [], ◌∷◌}
use Rattle.items.specs.Items.{Item}

-- the second has the entries of the first, each as often, in any order
pub data Rearranged : List Item → List Item → Type 0 where
  none : Rearranged [] []
  same : {x : Item} {xs ys : List Item} → Rearranged xs ys → Rearranged (x ∷ xs) (x ∷ ys)
  swapped : {x y : Item} {xs ys : List Item} → Rearranged xs ys → Rearranged (x ∷ y ∷ xs) (y ∷ x ∷ ys)
  then : {xs ys zs : List Item} → Rearranged xs ys → Rearranged ys zs → Rearranged xs zs
