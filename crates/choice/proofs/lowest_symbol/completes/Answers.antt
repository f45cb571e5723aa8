-- `choice::lowest_symbol::completes` meets its contract: what the search finds, or not, and the end mark is no symbol. Assumes nothing.
use native.Mathlib.Omega.{arith}
use mathlib.Core.List.{List}
use mathlib.Core.Path.{◌≡◌, sym, ◌∙◌}
use mathlib.Core.Bool.{true, false≢true}
use Prim.Native.Nat.{ℕ, ◌<◌}
use Rattle.std.proofs.Common.{Option, Some, None, is_some}
use Rattle.book.specs.Tables.{Tables}
use Rattle.walk.specs.Scale.{Scale, unreached}
use Rattle.walk.specs.Claims.{Claims}
use Rattle.search.specs.Search.{Searched}
use Rattle.search.specs.SearchLaws.{reached-completes}
use Rattle.choice.specs.Choice.{Completing}
use Rattle.choice.proofs.lowest_symbol.completes.Goals as goal

found : {σ : Scale} {B : Tables} {claim : Claims} {E : List ℕ → ℕ → ℕ → ℕ} {x r : ℕ} → (s : List ℕ) → r < unreached σ → (f : Option (ℕ × ℕ)) → Searched σ B claim E s x r f → is_some f ≡ true → Completing σ B claim E s r x
found s h (Some (k, g)) a e = reached-completes h a
found s h None a e = absurd (false≢true e)

pub returns-clause-le_a : goal.returns-clause-le_a
returns-clause-le_a c =
    λ e. (omega (arith, c.if-a-eq0.false), found c.args.stack.now (omega (arith, c.requires.a_lt_t.1)) c.search_with.result c.search_with.ensures.searched (sym c.is_some.ensures ∙ e))
