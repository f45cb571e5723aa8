-- Laws of the weights of a break, and of the costs to go that they make. Assumes nothing.
use Rattle.std.specs.Prelude.{List, ◌≡◌, length}
use Rattle.std.proofs.Common.{inl, inr, ◌∙◌, le_of_eq, arith, eq-eqb, ne_eqb}
use Rattle.std.proofs.Math.Logic.{⊎_map}
use Rattle.std.proofs.Math.Path.{refl}
use Prim.Native.Nat.{ℕ, zero, suc, ◌+◌, ◌*◌, ◌≤◌, ◌<◌}
use Rattle.std.proofs.Math.Decide.{ℕ_discrete, dec_lt}
use Rattle.std.proofs.Math.Numerals.{add-one}
use Rattle.std.proofs.Math.ListN.{get_or}
use Rattle.book.specs.Tables.{Tables, tables_of}
use Rattle.book.specs.TablesLaws.{Holds}
use Rattle.book.proofs.TablesLaws.{in-range}
use Rattle.book.specs.declared.Sizes.{Sizes}
use Rattle.walk.specs.Scale.{Scale, unreached}
use Rattle.walk.specs.Claims.{Claims, Least}
use Rattle.walk.proofs.ClaimsLaws.{weights-least}
use Rattle.walk.specs.Fill.{filled}
use Rattle.walk.specs.FillLaws.{filled-size, filled-inside, filled-outside}
use Rattle.layers.specs.Crossing.{claim_in}
use Rattle.layers.specs.CrossingLaws.{terminals-are, states-are}
use Rattle.layers.specs.Layer.{entry_in, layer_in}
use Rattle.distances.specs.Distances.{distance_in, Bounded, GoalTable}
use Rattle.distances.specs.DistancesLaws.{distance_read, distance-out}
use Rattle.breaks.specs.BreakClaims.{Lacking, ToBreak}
use Rattle.approach.specs.Approach.{LayersTo, without_row, without_rows}

module _ (σ : Scale) (B : Tables) (X : ℕ) (l : List ℕ) where
  -- one row: it stays, or is filled
  pub row_stays : (q : ℕ) → B.goto q X ≡ 0 → l ≡ without_row σ B X l q
  unfolding without_row
  row_stays q e = rw (eq-eqb (B.goto q X) 0 e)

  pub row-filled : (q : ℕ) → ¬ (B.goto q X ≡ 0) → filled l (q * 32) 32 (unreached σ) ≡ without_row σ B X l q
  unfolding without_row
  row-filled q n = rw (ne_eqb (B.goto q X) 0 n)

  row-size : (q : ℕ) → length (without_row σ B X l q) ≡ length l
  row-size q = go (ℕ_discrete (B.goto q X) 0)
    where
      go : Dec (B.goto q X ≡ 0) → length (without_row σ B X l q) ≡ length l
      go (yes e) = rw (← row_stays q e)
      go (no n) = rw (← row-filled q n) (filled-size l (q * 32) 32 (unreached σ))

  -- every other row stays
  row_kept : (n q a : ℕ) → a < 32 → (q ≡ n → B.goto n X ≡ 0) → get_or (without_row σ B X l n) (q * 32 + a) 0 ≡ get_or l (q * 32 + a) 0
  row_kept n q a ha f = go (ℕ_discrete (B.goto n X) 0) (dec_lt q n)
    where
      go : Dec (B.goto n X ≡ 0) → Dec (q < n) → get_or (without_row σ B X l n) (q * 32 + a) 0 ≡ get_or l (q * 32 + a) 0
      go (yes e) o = rw (← row_stays n e)
      go (no m) (yes o) = rw (← row-filled n m) (filled-outside l (n * 32) 32 (unreached σ) (q * 32 + a) (inl (omega arith)))
      go (no m) (no o) =
          let apart : ¬ (q ≡ n) = λ e. m (f e) in
          rw (← row-filled n m) (filled-outside l (n * 32) 32 (unreached σ) (q * 32 + a) (inr (omega arith)))

  row_out : (n a : ℕ) → a < 32 → n * 32 + 32 ≤ length l → ¬ (B.goto n X ≡ 0) → get_or (without_row σ B X l n) (n * 32 + a) 0 ≡ unreached σ
  row_out n a ha room m = rw (← row-filled n m) (filled-inside l (n * 32) 32 (unreached σ) (n * 32 + a) room (omega arith) (omega arith))

-- all rows
module _ (σ : Scale) (B : Tables) (X : ℕ) (l : List ℕ) where
  pub rows_none : l ≡ without_rows σ B X l 0
  unfolding without_rows
  rows_none = refl

  pub rows_more : (n : ℕ) → without_row σ B X (without_rows σ B X l n) n ≡ without_rows σ B X l (n + 1)
  unfolding without_rows
  rows_more n = rw add-one

  pub rows-size : (n : ℕ) → length (without_rows σ B X l n) ≡ length l
  unfolding without_rows
  rows-size zero = refl
  rows-size (suc n) = row-size σ B X (without_rows σ B X l n) n ∙ rows-size n

  rows-kept : (n q a : ℕ) → a < 32 → (q < n → B.goto q X ≡ 0) → get_or (without_rows σ B X l n) (q * 32 + a) 0 ≡ get_or l (q * 32 + a) 0
  unfolding without_rows
  rows-kept zero q a ha f = refl
  rows-kept (suc n) q a ha f = row_kept σ B X (without_rows σ B X l n) n q a ha (λ e. rw (← e) (f (omega arith))) ∙ rows-kept n q a ha (λ h. f (omega arith))

  rows_out : (n q a : ℕ) → a < 32 → n * 32 ≤ length l → q < n → ¬ (B.goto q X ≡ 0) → get_or (without_rows σ B X l n) (q * 32 + a) 0 ≡ unreached σ
  unfolding without_rows
  rows_out zero q a ha room h m = absurd (omega arith)
  rows_out (suc n) q a ha room h m = go (ℕ_discrete q n) (λ k. rows_out n q a ha (omega arith) k m)
    where
      go : Dec (q ≡ n) → (q < n → get_or (without_rows σ B X l n) (q * 32 + a) 0 ≡ unreached σ) → get_or (without_row σ B X (without_rows σ B X l n) n) (q * 32 + a) 0 ≡ unreached σ
      go (yes e) f = rw e (row_out σ B X (without_rows σ B X l n) n a ha (omega (arith, rows-size n)) (rw e at m))
      go (no e) f = row_kept σ B X (without_rows σ B X l n) n q a ha (λ i. absurd (e i)) ∙ f (omega arith)

module _ {σ : Scale} {d : Sizes} {cells : List ℕ} (h : Holds d cells) where
  -- the weights are at most unreached ..
  pub weights-bounded : {layer : List ℕ} (X : ℕ) → Bounded σ d.t layer → Bounded σ d.t (without_rows σ (tables_of cells) X layer d.s)
  weights-bounded {layer} X b = record {
    size = rows-size σ (tables_of cells) X layer d.s ∙ b.size;
    most = λ q a ha. most q a ha (dec_lt q 128) (dec_lt q d.s) (ℕ_discrete ((tables_of cells).goto q X) 0);
  }
    where
      kept : (q a : ℕ) → a < d.t → q < 128 → (q < d.s → (tables_of cells).goto q X ≡ 0) → distance_in σ (without_rows σ (tables_of cells) X layer d.s) q a ≤ unreached σ
      kept q a ha j f =
          rw (distance_read σ (without_rows σ (tables_of cells) X layer d.s) q a j, rows-kept σ (tables_of cells) X layer d.s q a (omega (arith, h.small.terminals)) f, ← distance_read σ layer q a j)
          (b.most q a ha)

      most : (q a : ℕ) → a < d.t → Dec (q < 128) → Dec (q < d.s) → Dec ((tables_of cells).goto q X ≡ 0) → distance_in σ (without_rows σ (tables_of cells) X layer d.s) q a ≤ unreached σ
      most q a ha (yes j) (yes k) (yes e) = kept q a ha j (λ i. e)
      most q a ha (yes j) (yes k) (no e) =
          le_of_eq (distance_read σ _ q a j ∙ rows_out σ (tables_of cells) X layer d.s q a (omega (arith, h.small.terminals)) (omega (arith, b.size, h.small.states)) k e)
      most q a ha (yes j) (no k) e = kept q a ha j (λ i. absurd (k i))
      most q a ha (no j) k e = le_of_eq (distance-out σ _ q a (omega arith))

  -- .. and the least costs from the states that have no goto
  lacking-least : {claim : Claims} {s z : ℕ} {due layer : List ℕ} (p : ℕ) → LayersTo σ d (tables_of cells) claim s z ((tables_of cells).len p) due layer → (q a : ℕ)
      → q < (tables_of cells).states → a < (tables_of cells).terminals
      → Least σ (Lacking σ (tables_of cells) claim p s z q a) (entry_in (without_rows σ (tables_of cells) ((tables_of cells).lhs p) layer d.s) q a)
  unfolding entry_in
  lacking-least {claim} {s} {z} {layer} p l q a hq ha = go (ℕ_discrete ((tables_of cells).goto q ((tables_of cells).lhs p)) 0)
    where
      low : a < 32
      low = omega (arith, terminals-are h, h.small.terminals)

      go : Dec ((tables_of cells).goto q ((tables_of cells).lhs p) ≡ 0)
          → Least σ (Lacking σ (tables_of cells) claim p s z q a) (get_or (without_rows σ (tables_of cells) ((tables_of cells).lhs p) layer d.s) (q * 32 + a) 0)
      go (yes e) = rw (rows-kept σ (tables_of cells) ((tables_of cells).lhs p) layer d.s q a low (λ i. e)) (record {
        below = λ v (g, c). (l.last q a hq ha).below v c;
        attained = ⊎_map (λ i. i) (λ c. (e, c)) (l.last q a hq ha).attained;
      })
      go (no n) =
          rw (rows_out σ (tables_of cells) ((tables_of cells).lhs p) layer d.s q a low (omega (arith, l.bounded.size, h.small.states)) (rw (states-are h) at hq) n)
          (record { below = λ v (g, c). absurd (n g); attained = inl refl })

-- so what they make are the costs to go to a break
pub break-costs : {σ : Scale} {d : Sizes} {cells table due layer weights togo : List ℕ} {p s z len X : ℕ} → Holds d cells → len ≡ (tables_of cells).len p → X ≡ (tables_of cells).lhs p
    → LayersTo σ d (tables_of cells) (claim_in d table) s z len due layer → weights ≡ without_rows σ (tables_of cells) X layer d.s → GoalTable σ d cells table weights togo
    → ToBreak σ (tables_of cells) (claim_in d table) p s z (entry_in togo) (layer_in due)
break-costs {p} h i j l w g = record {
  far = λ q a hq ha. weights-least (in-range h) hq (λ q₁ c hq₁ hc. rw (w, j) (lacking-least h p (rw i at l) q₁ c hq₁ hc)) (g.least q a (rw (states-are h) at hq) (rw (terminals-are h) at ha));
  near = rw i at l.near;
}
