-- Laws of roads by layers: where a claim exceeds no reduction, and that the layers find what any road does. Assumes nothing.
use Rattle.std.specs.Prelude.{true, List, ◌⊎◌, ◌≡◌, refl, ℕ, suc, ◌+◌, ◌≤◌, ◌<◌, get_or}
use Rattle.std.proofs.Common.{inl, inr, sym, ◌∙◌, add-one, arith}
use Rattle.std.proofs.Math.Decide.{ℕ_discrete}
use Rattle.book.specs.Tables.{Tables, tables_of}
use Rattle.book.specs.TablesLaws.{Holds}
use Rattle.book.proofs.TablesLaws.{in-range}
use Rattle.book.specs.declared.Action.{Action}
use Rattle.book.specs.declared.Action.TheVariants.{Error, Accept, Shift, Reduce}
use Rattle.book.specs.declared.Sizes.{Sizes}
use Rattle.machine.specs.MachineLaws.{clash}
use Rattle.walk.specs.Scale.{plain, long, unreached}
use Rattle.walk.specs.Claims.{Claims, Claimed, Least}
use Rattle.walk.proofs.ClaimsLaws.{claimed-next}
use Rattle.walk.specs.Layers.{Longer, Hereditary, cut_at}
use Rattle.walk.proofs.LayersLaws.{layer-here, layer-elsewhere, layer-where, where-longer, longer-whole}
use Rattle.layers.specs.ActionLaws.{reduce-below}
use Rattle.layers.specs.Crossing.{crossing_row, claim_in}
use Rattle.layers.specs.CrossingLaws.{terminals-are, terminal, within, states-are}
use Rattle.layers.specs.Layer.{value_in, Begun, Wanted, LengthenedTo}
use Rattle.layers.specs.LayerLaws.{value-off}
use Rattle.layers.specs.LengthenLaws.{longer-below}
use Rattle.layers.specs.States.{flag_in, listed_in, Listed}
use Rattle.positions.specs.Position.{position_in, Positions, PositionPassed, LongestOf}
use Rattle.positions.specs.PositionLaws.{reduce-passed, passed-before}
use Rattle.roads.specs.Lowest.{Lowered, Among}
use Rattle.roads.specs.LowestLaws.{lowered_none, lowered-here, lowered-map, lowered-join, lowered-listed}
use Rattle.roads.specs.Roads.{Marked, ExceededBy, ExceededAt, ByLayer, LayerPassed, ByRoad, ByRoads}

-- ---- one reduction
module _ {d : Sizes} {B : Tables} {claim : Claims} {q a m z v p low : ℕ} where
  pub other_length : ¬ (B.len p ≡ m) → Lowered (ExceededBy d B claim q a m z v p) low low
  other_length n = lowered_none (λ k x. absurd (n x.long))

  pub not-over : claim q (B.lhs p) a z ≤ v → Lowered (ExceededBy d B claim q a m z v p) low low
  not-over h = lowered_none (λ k x. absurd (omega (arith, x.exceeds)))

  pub not_lower : low ≤ crossing_row d q (B.lhs p) a + z → Lowered (ExceededBy d B claim q a m z v p) low low
  not_lower h = lowered_none (λ k x. omega (arith, x.index))

  pub lower : {k : ℕ} → B.len p ≡ m → k ≡ crossing_row d q (B.lhs p) a + z → v < claim q (B.lhs p) a z → k < low → Lowered (ExceededBy d B claim q a m z v p) low k
  lower l i h b = lowered-here b (record { long = l; index = i; exceeds = h }) (λ j x. omega (arith, x.index))

module _ {d : Sizes} {B : Tables} {claim : Claims} {q a m last z v low : ℕ} where
  -- .. is the one in (last, z)
  pub reduction-at : {p r : ℕ} → B.act last z ≡ Reduce p → Lowered (ExceededBy d B claim q a m z v p) low r → Lowered (ExceededAt d B claim q a m last z v) low r
  reduction-at {p} e = lowered-map
      (λ k x. record { production = p; reduced = e; exceeded = x })
      (λ k x. let i : x.production ≡ p = same x.reduced in rw i at x.exceeded)
    where
      same : {p' : ℕ} → B.act last z ≡ Reduce p' → p' ≡ p
      same f = cc

  -- .. or there is none
  module _ {x : Action} (same : x ≡ B.act last z) where
    pub error-none : x ≡ Error → Lowered (ExceededAt d B claim q a m last z v) low low
    error-none e = lowered_none (λ k y. absurd (none y.reduced))
      where
        none : {p : ℕ} → ¬ (B.act last z ≡ Reduce p)
        none f = clash cc

    pub accept-none : x ≡ Accept → Lowered (ExceededAt d B claim q a m last z v) low low
    accept-none e = lowered_none (λ k y. absurd (none y.reduced))
      where
        none : {p : ℕ} → ¬ (B.act last z ≡ Reduce p)
        none f = clash cc

    pub shift_none : {s : ℕ} → x ≡ Shift s → Lowered (ExceededAt d B claim q a m last z v) low low
    shift_none e = lowered_none (λ k y. absurd (none y.reduced))
      where
        none : {p : ℕ} → ¬ (B.act last z ≡ Reduce p)
        none f = clash cc

module _ {d : Sizes} {cells table : List ℕ} (marked : Marked d cells table) where
  holds : Holds d cells
  holds = marked.fitted.holds

  pub claim-most : (q X a z : ℕ) → claim_in d table q X a z ≤ unreached plain
  unfolding claim_in
  claim-most q X a z = marked.most (crossing_row d q X a + z)

  -- no claim exceeds unreached
  far-never : {q a m last z v k : ℕ} → unreached plain ≤ v → ¬ ExceededAt d (tables_of cells) (claim_in d table) q a m last z v k
  far-never {q} {a} {z} u x = omega (arith, x.exceeded.exceeds, claim-most q ((tables_of cells).lhs x.production) a z)

  pub far_none : {q a m last z v low : ℕ} → unreached plain ≤ v → Lowered (ExceededAt d (tables_of cells) (claim_in d table) q a m last z v) low low
  far_none u = lowered_none (λ k x. absurd (far-never u x))

  -- a layer is looked through by the list of the states that are on
  pub layer-listed : {q a m low r : ℕ} (values flags : List ℕ) → Listed d.s flags
      → Lowered (Among (get_or flags 0 0) (λ i. Among d.t (λ z. ExceededAt d (tables_of cells) (claim_in d table) q a m (listed_in flags i) z (value_in plain values flags (listed_in flags i) z)))) low r
      → Lowered (ByLayer d (tables_of cells) (claim_in d table) q a m (value_in plain values flags)) low r
  layer-listed {q} {a} {m} values flags l = lowered-listed _ (listed_in flags) l.below (λ last k h (z, hz, x). has last k z x (ℕ_discrete (flag_in flags last) 0))
    where
      has : (last k z : ℕ) → ExceededAt d (tables_of cells) (claim_in d table) q a m last z (value_in plain values flags last z) k → Dec (flag_in flags last ≡ 0)
          → (i : ℕ) × (i < get_or flags 0 0) × (listed_in flags i ≡ last)
      has last k z x (yes e) = absurd (far-never (omega (arith, value-off plain values flags last z e)) x)
      has last k z x (no n) = let at = l.every last n in (at.index, at.before, at.same)

  -- no production is longer than the longest
  pub roads-whole : {len low r : ℕ} → LongestOf (tables_of cells) d.p len → Lowered (Among d.s (λ q. Among d.t (λ a. ByRoads d (tables_of cells) (claim_in d table) q a 0 len))) low r
      → Lowered (Among d.s (λ q. Among d.t (λ a. ByRoads d (tables_of cells) (claim_in d table) q a 0 32))) low r
  roads-whole {len} l = lowered-map
      (λ k (q, hq, (a, ha, x)). (q, hq, (a, ha, record { count = x.count; from = x.from; to = omega (arith, x.to, l.most); road = x.road })))
      (λ k (q, hq, (a, ha, x)). (q, hq, (a, ha, record { count = x.count; from = x.from; to = short x.road; road = x.road })))
    where
      short : {q a m k : ℕ} → ByRoad d (tables_of cells) (claim_in d table) q a m k → m ≤ len
      short x = let y = x.exceeded in omega (arith, l.bound y.production (reduce-below x.last x.z holds refl y.reduced), y.exceeded.long)

  -- ---- the layers from (q, a)
  module _ {positions : List ℕ} (ps : Positions true (tables_of cells) 0 positions) where
    hereditary : Hereditary plain (tables_of cells) (λ i q' v. PositionPassed positions i q')
    hereditary = record { before = λ v w hv l c. passed-before (in-range holds) ps l c }

    -- a layer finds what a road of its length does
    layer-roads : {q a m low r : ℕ} {L : ℕ → ℕ → ℕ} → LayerPassed d cells table positions q a m L → Lowered (ByLayer d (tables_of cells) (claim_in d table) q a m L) low r
        → Lowered (ByRoad d (tables_of cells) (claim_in d table) q a m) low r
    layer-roads {q} {a} {m} {L} l p = record {
      fall = p.fall;
      lowest = record { below = λ k x. p.lowest.below k (into x); attained = out p.lowest.attained };
    }
      where
        into : {k : ℕ} → ByRoad d (tables_of cells) (claim_in d table) q a m k → ByLayer d (tables_of cells) (claim_in d table) q a m L k
        into {k} x =
            let y = x.exceeded in
            let e = y.exceeded in
            let ls = ((in-range holds).reduces x.last x.z y.production y.reduced).0 in
            let least = (l x.last x.z (claimed-next x.walk)).below x.v x.walk (reduce-passed (in-range holds) ps x.z y.reduced e.long) in (
              x.last,
              rw (states-are holds) at ls,
              (
                x.z,
                within holds (claimed-next x.walk),
                record {
                  production = y.production;
                  reduced = y.reduced;
                  exceeded = record { long = e.long; index = e.index; exceeds = omega (arith, e.exceeds) };
                },
              ),
            )

        walked : {last z k : ℕ} → (L last z ≡ unreached plain) ⊎ Claimed plain (tables_of cells) (claim_in d table) q a (L last z) z m last
            → ExceededAt d (tables_of cells) (claim_in d table) q a m last z (L last z) k → ByRoad d (tables_of cells) (claim_in d table) q a m k
        walked (inl e) x = absurd (far-never (omega arith) x)
        walked {last} {z} (inr w) x = record { last = last; z = z; v = L last z; walk = w; exceeded = x }

        out : {k low : ℕ} → (k ≡ low) ⊎ ByLayer d (tables_of cells) (claim_in d table) q a m L k → (k ≡ low) ⊎ ByRoad d (tables_of cells) (claim_in d table) q a m k
        out (inl e) = inl e
        out (inr (last, hl, (z, hz, x))) = inr (walked (l last z (terminal holds hz)).attained x)

    -- it is the last ..
    pub roads-last : {q a m len low r : ℕ} {L : ℕ → ℕ → ℕ} → m ≡ len → LayerPassed d cells table positions q a m L → Lowered (ByLayer d (tables_of cells) (claim_in d table) q a m L) low r
        → Lowered (ByRoads d (tables_of cells) (claim_in d table) q a m len) low r
    roads-last {q} {a} {m} {len} e l p = lowered-map
        (λ k x. record { count = m; from = omega arith; to = omega arith; road = x })
        (λ k x. let i : x.count ≡ m = omega (arith, x.from, x.to) in rw i at x.road)
        (layer-roads l p)

    -- .. or those after it are looked through too
    pub least-longer : {q a m : ℕ} {L L' : ℕ → ℕ → ℕ} {want : List ℕ} → ((q' : ℕ) → q' < d.s → get_or want q' 0 ≡ position_in positions m q')
        → LengthenedTo plain want (tables_of cells) (claim_in d table) (cut_at plain (long plain) L) L' → LayerPassed d cells table positions q a m L → LayerPassed d cells table positions q a (m + 1) L'
    least-longer {q} {a} {m} {L} {L'} {want} copy f s = rw add-one (λ last z hz.
        let whole = longer-whole (f last z hz) in
        where-longer hereditary s (λ x j y l. whole.below y l (wanted l j)) whole.attained)
      where
        wanted : {last z y : ℕ} → Longer plain (tables_of cells) (claim_in d table) L last z y → PositionPassed positions (suc m) last → Wanted want last
        wanted {last} l j = record { on = λ e. j.on m (omega arith) (sym (copy last (longer-below holds l)) ∙ e) }

    pub roads-later : {q a m len low r n : ℕ} {L : ℕ → ℕ → ℕ} → m ≤ len → LayerPassed d cells table positions q a m L → Lowered (ByLayer d (tables_of cells) (claim_in d table) q a m L) low r
        → Lowered (ByRoads d (tables_of cells) (claim_in d table) q a (m + 1) len) r n → Lowered (ByRoads d (tables_of cells) (claim_in d table) q a m len) low n
    roads-later {q} {a} {m} {len} h l p later = lowered-map
        (λ k. join k)
        (λ k x. split k x (ℕ_discrete x.count m))
        (lowered-join (layer-roads l p) later)
      where
        join : (k : ℕ) → ByRoad d (tables_of cells) (claim_in d table) q a m k ⊎ ByRoads d (tables_of cells) (claim_in d table) q a (m + 1) len k → ByRoads d (tables_of cells) (claim_in d table) q a m len k
        join k (inl x) = record { count = m; from = omega arith; to = h; road = x }
        join k (inr x) = record { count = x.count; from = omega (arith, x.from); to = x.to; road = x.road }

        split : (k : ℕ) (x : ByRoads d (tables_of cells) (claim_in d table) q a m len k) → Dec (x.count ≡ m)
            → ByRoad d (tables_of cells) (claim_in d table) q a m k ⊎ ByRoads d (tables_of cells) (claim_in d table) q a (m + 1) len k
        split k x (yes e) = inl (rw e at x.road)
        split k x (no n) = inr record { count = x.count; from = omega (arith, x.from); to = x.to; road = x.road }

    -- the layer of no transitions
    pub least-begun : {q a : ℕ} {L : ℕ → ℕ → ℕ} → a < d.t → Begun plain q a L → LayerPassed d cells table positions q a 0 L
    least-begun {q} {a} {L} ha b = layer-where (λ i q' v. PositionPassed positions i q') (λ last z hz. least last z hz (ℕ_discrete q last) (ℕ_discrete a z))
      where
        small : {z : ℕ} → z < (tables_of cells).terminals → z < 32
        small hz = omega (arith, terminals-are holds, holds.small.terminals)

        least : (last z : ℕ) → z < (tables_of cells).terminals → Dec (q ≡ last) → Dec (a ≡ z) → Least plain (λ v. Claimed plain (tables_of cells) (claim_in d table) q a v z 0 last) (L last z)
        least last z hz (yes i) (yes j) = rw (← i, ← j, b.here) (layer-here (terminal holds ha))
        least last z hz (yes i) (no j) = rw (b.elsewhere last z (small hz) (λ x y. j y)) (layer-elsewhere (λ x y. j y))
        least last z hz (no i) e = rw (b.elsewhere last z (small hz) (λ x y. i x)) (layer-elsewhere (λ x y. i x))
