-- Laws of the pairs that fail: the costs from the start and those of breaks decide which. Assumes nothing.
use Rattle.std.specs.Prelude.{Bool, true, false, cond, List, ◌≡◌, refl, ℕ, ◌<◌}
use Rattle.std.proofs.lemmas.Bool.{false≢true}
use Rattle.std.proofs.Common.{sym}
use Rattle.book.specs.Tables.{tables_of}
use Rattle.book.specs.TablesLaws.{Holds}
use Rattle.book.specs.declared.Action.{Action}
use Rattle.book.specs.declared.Action.TheVariants.{Error, Accept, Shift, Reduce}
use Rattle.book.specs.declared.Sizes.{Sizes}
use Rattle.sets.specs.SetLaws.{both}
use Rattle.walk.specs.Breaks.{Breaks}
use Rattle.walk.proofs.CostLaws.{exact-reached}
use Rattle.walk.specs.Scale.{plain}
use Rattle.breaks.specs.BreakingLaws.{breaks-reduce}
use Rattle.layers.specs.CrossingLaws.{terminals-are}
use Rattle.distances.specs.Distances.{StartTable}
use Rattle.lengths.specs.Lengths.{BreakTable}
use Rattle.failing.specs.Failing.{is_error, FailsAt, errs, breaks, FailingPair, Decides}
use Rattle.failing.specs.Tests.{has_cost, fails_in}

pub decides-one : {a b : Bool} {P : Type 0} → Decides a P → Decides b P → a ≡ b
decides-one {a} {b} x y = both a b (λ e. y.1 (x.0 e)) (λ e. x.1 (y.0 e))

pub is-error : (x : Action) → is_error x ≡ true → x ≡ Error
is-error Error e = refl
is-error Accept e = absurd (false≢true e)
is-error (Shift s) e = absurd (false≢true e)
is-error (Reduce p) e = absurd (false≢true e)

-- which pairs break
pub breaks-decides : {d : Sizes} {cells broken : List ℕ} (s z : ℕ) → s < d.s → z < d.t → BreakTable plain d cells broken
    → Decides (has_cost broken s z) ((w : List ℕ) × Breaks (tables_of cells) w z s)
breaks-decides s z hs hz y = exact-reached (y.exact s z hs hz)

-- .. and which fail
pub fails-decides : {d : Sizes} {cells dist broken : List ℕ} → Holds d cells → (s z : ℕ) → s < d.s → z < d.t → StartTable plain d cells dist → BreakTable plain d cells broken
    → Decides (fails_in cells dist broken s z) (FailingPair (tables_of cells) s z)
fails-decides {cells = cells} {dist} {broken} h s z hs hz x y = (λ e. go (is_error ((tables_of cells).act s z)) refl e, λ f. back f.fails)
  where
    terminal : z < (tables_of cells).terminals
    terminal = rw (terminals-are h) hz

    go : (b : Bool) → b ≡ is_error ((tables_of cells).act s z) → cond b (has_cost dist s z) (has_cost broken s z) ≡ true → FailingPair (tables_of cells) s z
    go true i e = let (w, r) = (exact-reached (x.exact s z hs hz)).0 e in record { terminal = terminal; word = w; fails = errs r (is-error ((tables_of cells).act s z) (sym i)) }
    go false i e = let (w, r) = (breaks-decides s z hs hz y).0 e in record { terminal = terminal; word = w; fails = breaks r }

    back : {w : List ℕ} → FailsAt (tables_of cells) s z w → fails_in cells dist broken s z ≡ true
    back {w} (errs r e) = rw e ((exact-reached (x.exact s z hs hz)).1 (w, r))
    back {w} (breaks b) = let (p, e) = breaks-reduce b in rw e ((breaks-decides s z hs hz y).1 (w, b))
