-- What it costs to be done from a state over what is left of a stack. Assumes nothing.
use Rattle.std.specs.Prelude.{Bool, true, cond, List, [], ◌∷◌, ℕ, zero, suc, ◌-◌, min, eqb, drop}
use Rattle.book.specs.Tables.{Tables}

-- what a reduction under the left side X leaves to go on from is nothing, or its top has no goto
abbrev pub bare : Tables → ℕ → List ℕ → Bool
bare B X [] = true
bare B X (q ∷ st) = eqb (B.goto q X) 0

-- the least of what G has for (q, a), and of what layer j of L has for it, for each j below m such that a reduction of n states under X, j
-- transitions after q, takes off all of these, q and n - 1 - j states of the stack below it, and then breaks
unfoldable pub to_go : Tables → ℕ → ℕ → (ℕ → ℕ → ℕ) → (ℕ → ℕ → ℕ → ℕ) → ℕ → List ℕ → ℕ → ℕ → ℕ
to_go B X n G L zero st q a = G q a
to_go B X n G L (suc m) st q a = cond (bare B X (drop (n - suc m) st)) (min (L m q a) (to_go B X n G L m st q a)) (to_go B X n G L m st q a)

-- .. for all n layers; with none that is what G has
abbrev pub end_cost : Tables → ℕ → ℕ → (ℕ → ℕ → ℕ) → (ℕ → ℕ → ℕ → ℕ) → List ℕ → ℕ → ℕ → ℕ
end_cost B X n G L = to_go B X n G L n
