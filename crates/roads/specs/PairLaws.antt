-- Laws of the pairs' claims: one copied more, and that the layer after them shows which are exceeded. Assumes nothing.
use Rattle.std.specs.Prelude.{List, ◌⊎◌, ◌≡◌, ℕ, ◌+◌, ◌*◌, ◌/◌, ◌%◌, ◌≤◌, ◌<◌, length, set}
use Rattle.std.proofs.Common.{inl, inr, ◌∙◌, div-add-mod', mod-lt, mul-le-mul_right, arith, length-set, get_or-set_same, get_or-set_other}
use Rattle.std.proofs.Math.Path.{sym}
use Rattle.std.proofs.Math.Decide.{ℕ_discrete}
use Rattle.std.proofs.Math.ListN.{get_or}
use Rattle.book.specs.IndexLaws.{index_below, index-first, index-second, Digits, index-split, index-digits}
use Rattle.book.specs.RangeLaws.{Small}
use Rattle.book.specs.Tables.{tables_of}
use Rattle.book.specs.TablesLaws.{Holds}
use Rattle.book.proofs.TablesLaws.{in-range}
use Rattle.book.specs.declared.Sizes.{Sizes}
use Rattle.walk.specs.Scale.{plain, unreached}
use Rattle.walk.specs.Claims.{Claims}
use Rattle.walk.specs.Layers.{Longer}
use Rattle.walk.proofs.LayersLaws.{longer-as}
use Rattle.layers.specs.CrossingLaws.{terminal, within, states-are}
use Rattle.layers.specs.Layer.{value_in, Lengthened}
use Rattle.layers.specs.LayerLaws.{value_read}
use Rattle.layers.specs.States.{AllOn}
use Rattle.roads.specs.Lowest.{Lowest}
use Rattle.roads.specs.LowestLaws.{lowest-map}
use Rattle.roads.specs.Pairs.{pair_in, PairsIn, OverLayer, PairExceeds}

pub pairs-few : {d : Sizes} {n : ℕ} → Small d → n ≡ d.s * d.t → n ≤ 128 * d.t
pairs-few {d} s e = omega (arith, mul-le-mul_right d.t s.states)

-- ---- one claim more is copied
pub pairs-more : {t k : ℕ} {pairs values : List ℕ} → 1 ≤ t → t ≤ 32 → k < 128 * t → PairsIn t pairs k values → PairsIn t pairs (k + 1) (set values (k / t * 32 + k % t) (get_or pairs k 0))
pairs-more {t} {k} {pairs} {values} h m l p = record { size = length-set values (k / t * 32 + k % t) (get_or pairs k 0) ∙ p.size; same = λ j b. same j b (ℕ_discrete j k) }
  where
    digits : Digits 128 t k
    digits = index-split 128 t k l

    apart : (j : ℕ) → ¬ (j ≡ k) → ¬ (j / t * 32 + j % t ≡ k / t * 32 + k % t)
    apart j n e =
        let r : j % t < t = mod-lt j (omega arith) in
        let f : j / t ≡ k / t = index-first 32 (j / t) (k / t) (j % t) (k % t) (omega arith) (omega (arith, digits.low)) e in
        let g : j % t ≡ k % t = index-second 32 (j / t) (k / t) (j % t) (k % t) (omega arith) (omega (arith, digits.low)) e in
        n (sym (div-add-mod' j t) ∙ rw (f, g) (div-add-mod' k t))

    same : (j : ℕ) → j < k + 1 → Dec (j ≡ k) → get_or (set values (k / t * 32 + k % t) (get_or pairs k 0)) (j / t * 32 + j % t) 0 ≡ get_or pairs j 0
    same j b (yes e) = rw e (get_or-set_same values (k / t * 32 + k % t) (get_or pairs k 0) 0 (omega (arith, digits.high, digits.low, p.size)))
    same j b (no n) = get_or-set_other values (k / t * 32 + k % t) (j / t * 32 + j % t) (get_or pairs k 0) 0 (apart j n) ∙ p.same j (omega arith)

-- ---- the layer after the pairs' claims
module _ {d : Sizes} {cells pairs values flags : List ℕ} (h : Holds d cells) (n : length pairs ≡ d.s * d.t) (p : PairsIn d.t pairs (length pairs) values) (on : AllOn d.s flags) where
  layer-pair : (q z : ℕ) → q < (tables_of cells).states → z < (tables_of cells).terminals → value_in plain values flags q z ≡ pair_in d.t pairs q z
  unfolding pair_in
  layer-pair q z lq lz =
      let hq : q < d.s = rw (states-are h) at lq in
      let hz = within h lz in
      let (state, next) = index-digits _ q z hz in
      value_read plain values flags q z (on.all q hq) ∙ (rw (state, next) at (p.same (q * d.t + z) (omega (arith, index_below d.s d.t q z hq hz))))

  pub pairs-exceeded : {claim : Claims} {L : ℕ → ℕ → ℕ} {r : ℕ} → ((k : ℕ) → get_or pairs k 0 ≤ unreached plain) → Lengthened plain (tables_of cells) claim (value_in plain values flags) L
      → Lowest (OverLayer d.t pairs L) (length pairs) r → Lowest (PairExceeds d (tables_of cells) claim pairs) (length pairs) r
  unfolding pair_in
  pairs-exceeded {claim} {L} most l = lowest-map out into
    where
      exceeds : (k : ℕ) → Digits d.s d.t k → L (k / d.t) (k % d.t) < get_or pairs k 0
          → (L (k / d.t) (k % d.t) ≡ unreached plain) ⊎ Longer plain (tables_of cells) claim (value_in plain values flags) (k / d.t) (k % d.t) (L (k / d.t) (k % d.t)) → PairExceeds d (tables_of cells) claim pairs k
      exceeds k g o (inl e) = absurd (omega (arith, most k))
      exceeds k g o (inr x) = record {
        s = k / d.t;
        z = k % d.t;
        v = L (k / d.t) (k % d.t);
        state = g.high;
        terminal = g.low;
        index = sym g.same;
        longer = longer-as (in-range h) layer-pair x;
        exceeds = rw g.same o;
      }

      out : (k : ℕ) → OverLayer d.t pairs L k → PairExceeds d (tables_of cells) claim pairs k
      out k x =
          let digits = index-split d.s d.t k (rw n at x.inside) in
          exceeds k digits x.over (l (k / d.t) (k % d.t) (terminal h digits.low)).attained

      over : (s z v : ℕ) → s < d.s → z < d.t → Longer plain (tables_of cells) claim (pair_in d.t pairs) s z v → v < pair_in d.t pairs s z → OverLayer d.t pairs L (s * d.t + z)
      over s z v hs hz x o =
          let (state, next) = index-digits _ s z hz in
          let least = (l s z (terminal h hz)).below v (longer-as (in-range h) (λ q b lq lb. sym (layer-pair q b lq lb)) x) in
          record { inside = omega (arith, index_below d.s d.t s z hs hz); over = rw (state, next) (omega arith) }

      into : (k : ℕ) → PairExceeds d (tables_of cells) claim pairs k → OverLayer d.t pairs L k
      into k x = rw x.index (over x.s x.z x.v x.state x.terminal x.longer x.exceeds)
