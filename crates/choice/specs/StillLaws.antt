-- Laws of the column of costs to go to a shift. Assumes nothing.
use Rattle.std.specs.Prelude.{List, ◌≡◌, ℕ, ◌+◌, ◌*◌, ◌<◌, length, get_or, set}
use Rattle.std.proofs.Common.{sym, ◌∙◌, arith, lt-ltb, le-ltb, length-set, get_or-set_same, get_or-set_other}
use Rattle.std.proofs.Math.Decide.{dec_lt, ℕ_discrete}
use Rattle.book.specs.Tables.{Tables}
use Rattle.layers.specs.Layer.{entry_in}
use Rattle.choice.specs.AdvanceLaws.{Still}
use Rattle.choice.specs.Still.{cost_of, Column}

pub column-none : {distances to : List ℕ} {x : ℕ} → length to ≡ 4096 → Column distances x to 0
column-none h = record { size = h; entries = λ q l. absurd (omega (arith, l)) }

pub column-more : {distances to : List ℕ} {x s v : ℕ} → Column distances x to s → x < 32 → s < 128 → v ≡ cost_of (get_or distances s 0)
    → Column distances x (set to (s * 32 + x) v) (s + 1)
unfolding entry_in
column-more {distances} {to} {x} {s} {v} c hx hs e = record { size = length-set to (s * 32 + x) v ∙ c.size; entries = λ q l. at q l (ℕ_discrete q s) }
  where
    at : (q : ℕ) → q < s + 1 → Dec (q ≡ s) → entry_in (set to (s * 32 + x) v) q x ≡ cost_of (get_or distances q 0)
    at q l (yes i) = rw i (get_or-set_same to (s * 32 + x) v 0 (omega (arith, c.size)) ∙ e)
    at q l (no i) = get_or-set_other to (s * 32 + x) (q * 32 + x) v 0 (λ j. i (omega (arith, j))) ∙ c.entries q (omega arith)

pub column-still : (B : Tables) (distances to : List ℕ) (x : ℕ) → Column distances x to B.states → Still B x distances (entry_in to)
column-still B distances to x c = record {
  near = λ q h l. c.entries q h ∙ rw (lt-ltb (get_or distances q 0) 255 l);
  off = λ q h e. go q (sym (c.entries q h) ∙ e) (dec_lt (get_or distances q 0) 255);
}
  where
    go : (q : ℕ) → cost_of (get_or distances q 0) ≡ 0 → Dec (get_or distances q 0 < 255) → get_or distances q 0 < 255
    go q e (yes l) = l
    go q e (no l) = absurd (omega (arith, rw (le-ltb (get_or distances q 0) 255 (omega arith)) at e))
