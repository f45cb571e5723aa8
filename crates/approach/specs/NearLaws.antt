-- Laws of the layers of walks to a pair in arrays: the first, and one more. Assumes nothing.
use Rattle.std.specs.Prelude.{List, ◌++◌, ◌≡◌, ℕ, ◌+◌, ◌*◌, ◌≤◌, ◌<◌, get_or, take, drop}
use Rattle.std.proofs.Common.{◌∙◌, add-one, arith, length-take-le, get_or-take, get_or-append-add}
use Rattle.std.proofs.Math.Decide.{ℕ_discrete}
use Rattle.std.proofs.Math.ListN.{length, get_or-append}
use Rattle.std.proofs.Math.Seq.{paste, length-paste, length_paste_head}
use Rattle.book.specs.Tables.{tables_of}
use Rattle.book.specs.TablesLaws.{Holds}
use Rattle.book.proofs.TablesLaws.{in-range}
use Rattle.book.specs.declared.Sizes.{Sizes}
use Rattle.walk.specs.Scale.{Scale}
use Rattle.walk.specs.Claims.{Claims}
use Rattle.layers.specs.CrossingLaws.{terminals-are, states-are}
use Rattle.layers.specs.Layer.{entry_in, layer_in}
use Rattle.distances.specs.Distances.{distance_in, Bounded, Single}
use Rattle.distances.specs.DistancesLaws.{distance-entry}
use Rattle.distances.specs.SingleLaws.{single-least, single-bounded}
use Rattle.breaks.specs.BreakClaims.{LayerTo}
use Rattle.approach.specs.Approach.{SoonerLayer, LayersTo}
use Rattle.approach.specs.LayerToLaws.{to-here, to-sooner, to-as}

-- what a copy of n elements leaves: before the place as it was, and from there on what is copied
module _ (l : List ℕ) (at : ℕ) (s : List ℕ) (n k : ℕ) (room : at + n ≤ length l) (long : n ≤ length s) where
  head-length : length (take at l ++ take n s) ≡ at + n
  head-length = length_paste_head l at s n (omega arith) long

  paste-before : k < at → get_or (paste l at s n) k 0 ≡ get_or l k 0
  paste-before h =
      get_or-append (take at l ++ take n s) (drop (at + n) l) 0 k (omega (arith, head-length))
      ∙ get_or-append (take at l) (take n s) 0 k (omega (arith, length-take-le at l (omega arith)))
      ∙ get_or-take at l k 0 h

  paste-inside : k < n → get_or (paste l at s n) (at + k) 0 ≡ get_or s k 0
  paste-inside h =
      let front : length (take at l) ≡ at = length-take-le at l (omega arith) in
      get_or-append (take at l ++ take n s) (drop (at + n) l) 0 (at + k) (omega (arith, head-length))
      ∙ (rw front at (get_or-append-add (take at l) (take n s) k 0))
      ∙ get_or-take n s k 0 h

module _ {σ : Scale} {d : Sizes} {cells : List ℕ} {claim : Claims} {s z : ℕ} {due layer : List ℕ} (h : Holds d cells) where
  -- the layer of no transitions
  pub layers-none : length due ≡ 131072 → Single σ s z layer → LayersTo σ d (tables_of cells) claim s z 0 due layer
  layers-none e x = record {
    size = e;
    near = λ j l. absurd (omega arith);
    last = to-here (λ q a hq ha. single-least x q a (omega (arith, states-are h, h.small.states)) (omega (arith, terminals-are h, h.small.terminals)));
    bounded = single-bounded x h.small.terminals;
  }

  -- one more
  pub layers-more : {m : ℕ} {new : List ℕ} → m < 32 → LayersTo σ d (tables_of cells) claim s z m due layer → Bounded σ d.t new
      → SoonerLayer σ (tables_of cells) claim (distance_in σ layer) (entry_in new) → LayersTo σ d (tables_of cells) claim s z (m + 1) (paste due (m * 4096) layer (d.s * 32)) new
  unfolding entry_in
  layers-more {m} {new} hm l b x = record {
    size = length-paste due (m * 4096) layer (d.s * 32) room long ∙ l.size;
    near = λ j hj. near j hj (ℕ_discrete j m);
    last = rw (add-one m) (to-sooner (in-range h) (to-as (λ q a hq ha. distance-entry σ layer q a (omega (arith, states-are h, h.small.states))) l.last) x);
    bounded = b;
  }
    where
      room : m * 4096 + d.s * 32 ≤ length due
      room = omega (arith, l.size, h.small.states)

      long : d.s * 32 ≤ length layer
      long = omega (arith, l.bounded.size, h.small.states)

      near : (j : ℕ) → j < m + 1 → Dec (j ≡ m) → LayerTo σ (tables_of cells) claim s z j (layer_in (paste due (m * 4096) layer (d.s * 32)) j)
      near j hj (yes e) = rw e (to-as (λ q a hq ha. paste-inside due (m * 4096) layer (d.s * 32) (q * 32 + a) room long (omega (arith, states-are h, terminals-are h, h.small.terminals))) l.last)
      near j hj (no e) = to-as (λ q a hq ha. paste-before due (m * 4096) layer (d.s * 32) (j * 4096 + (q * 32 + a)) room long (omega (arith, states-are h, terminals-are h, h.small.states, h.small.terminals))) (l.near j (omega arith))
