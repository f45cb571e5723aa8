-- Laws of a layer that is lengthened in front, cell by cell. Assumes nothing.
use Rattle.std.specs.Prelude.{List, ◌≡◌, refl, ℕ, ◌+◌, ◌*◌, ◌/◌, ◌%◌, ◌≤◌, ◌<◌, length, get_or, set}
use Rattle.std.proofs.Common.{inl, ⊎_elim, ◌∙◌, le_of_eq, arith, length-set, get_or-set_same, get_or-set_other}
use Rattle.std.proofs.Math.Decide.{ℕ_discrete, dec_lt}
use Rattle.book.specs.Tables.{Tables, tables_of}
use Rattle.book.specs.TablesLaws.{Holds}
use Rattle.book.specs.declared.Sizes.{Sizes}
use Rattle.walk.specs.Scale.{Scale, unreached}
use Rattle.walk.proofs.CostLaws.{plus-bounded}
use Rattle.walk.specs.Claims.{Claims, Least}
use Rattle.walk.specs.Layers.{Sooner, from-shift, from-goto}
use Rattle.layers.specs.CrossingLaws.{terminals-are, states-are}
use Rattle.layers.specs.Layer.{entry_in}
use Rattle.layers.specs.Opening.{row_in, Skips}
use Rattle.distances.specs.Distances.{distance_in, Bounded}
use Rattle.distances.specs.DistancesLaws.{distance_read, distance-out}
use Rattle.distances.specs.GoalLaws.{sooner-skipped}
use Rattle.approach.specs.Approach.{SoonerAt, SoonerLayer}

-- a row that can be passed over
pub skipped-least : {σ : Scale} {B : Tables} {claim : Claims} {rows : List ℕ} {L : ℕ → ℕ → ℕ} {q a : ℕ} → Skips σ B claim rows → row_in rows q a ≡ 0 → a < B.terminals
    → Least σ (Sooner σ B claim L q a) (unreached σ)
skipped-least k o ha = record { below = λ v x. sooner-skipped k o ha x; attained = inl refl }

-- the cells below n are done, and the others as before
pub record SoonerCells (σ : Scale) (B : Tables) (claim : Claims) (old : List ℕ) (n : ℕ) (new : List ℕ) : Type 0 where
  pub size : length new ≡ 4096
  pub done : (k : ℕ) → k < n → SoonerAt σ B claim (distance_in σ old) k (get_or new k 0)
  pub rest : (k : ℕ) → n ≤ k → get_or new k 0 ≡ get_or old k 0

module _ {σ : Scale} {B : Tables} {claim : Claims} {old : List ℕ} where
  pub cells-none : length old ≡ 4096 → SoonerCells σ B claim old 0 old
  cells-none e = record { size = e; done = λ k h. absurd (omega arith); rest = λ k h. refl }

  pub cells-more : {n v : ℕ} {new : List ℕ} → n < 4096 → SoonerCells σ B claim old n new → SoonerAt σ B claim (distance_in σ old) n v → SoonerCells σ B claim old (n + 1) (set new n v)
  cells-more {n} {v} {new} h c x = record {
    size = length-set new n v ∙ c.size;
    done = λ k l. done k l (ℕ_discrete k n);
    rest = λ k l. get_or-set_other new n k v 0 (λ e. omega arith) ∙ c.rest k (omega arith);
  }
    where
      done : (k : ℕ) → k < n + 1 → Dec (k ≡ n) → SoonerAt σ B claim (distance_in σ old) k (get_or (set new n v) k 0)
      done k l (yes e) = rw (e, get_or-set_same new n v 0 (omega (arith, c.size))) x
      done k l (no e) = rw (get_or-set_other new n k v 0 e) (c.done k (omega arith))

-- what a transition makes is at most unreached
sooner-most : {σ : Scale} {B : Tables} {claim : Claims} {L : ℕ → ℕ → ℕ} {q a v : ℕ} → Sooner σ B claim L q a v → v ≤ unreached σ
sooner-most {σ} (from-shift b e h) = plus-bounded σ _ _
sooner-most {σ} (from-goto X b g h) = plus-bounded σ _ _

-- every cell of a state of the book is done
module _ {σ : Scale} {d : Sizes} {cells : List ℕ} {claim : Claims} {old new : List ℕ} {n : ℕ} (h : Holds d cells) (l : d.s * 32 ≤ n) (c : SoonerCells σ (tables_of cells) claim old n new) where
  done_at : (q a : ℕ) → q < d.s → a < d.t → Least σ (Sooner σ (tables_of cells) claim (distance_in σ old) q a) (get_or new (q * 32 + a) 0)
  done_at q a hq ha =
      let state : (q * 32 + a) / 32 ≡ q = omega (arith, h.small.terminals) in
      let terminal : (q * 32 + a) % 32 ≡ a = omega (arith, h.small.terminals) in
      rw (state, terminal) at ((c.done (q * 32 + a) (omega (arith, h.small.terminals))).least (rw (terminal, terminals-are h) ha))

  pub sooner-layer : SoonerLayer σ (tables_of cells) claim (distance_in σ old) (entry_in new)
  unfolding entry_in
  sooner-layer q a hq ha = done_at q a (rw (states-are h) at hq) (rw (terminals-are h) at ha)

  pub sooner-bounded : n ≤ d.s * 32 → Bounded σ d.t old → Bounded σ d.t new
  sooner-bounded r b = record { size = c.size; most = λ q z hz. most q z hz (dec_lt q 128) (dec_lt q d.s) }
    where
      most : (q z : ℕ) → z < d.t → Dec (q < 128) → Dec (q < d.s) → distance_in σ new q z ≤ unreached σ
      most q z hz (yes j) (yes k) = rw (distance_read σ new q z j) (⊎_elim le_of_eq (λ x. sooner-most x) (done_at q z k hz).attained)
      most q z hz (yes j) (no k) = rw (distance_read σ new q z j, c.rest (q * 32 + z) (omega arith), ← distance_read σ old q z j) (b.most q z hz)
      most q z hz (no j) k = le_of_eq (distance-out σ new q z (omega arith))
