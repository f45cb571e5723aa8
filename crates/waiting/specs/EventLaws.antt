-- Laws of the table of waiting gotos in its array: reading, turning a depth and a row on, a store, and turning a depth off. Assumes nothing.
use Rattle.std.specs.Prelude.{List, ◌⊎◌, ◌≡◌, ℕ, ◌+◌, ◌*◌, ◌/◌, ◌≤◌, ◌<◌, length, get_or, set}
use Rattle.std.proofs.Common.{inl, inr, ⊎_elim, sym, ◌∙◌, le_refl, arith, eq-eqb, ne_eqb, length-set, get_or-set_same, get_or-set_other}
use Rattle.std.proofs.Math.Decide.{ℕ_discrete, dec_lt}
use Rattle.std.proofs.Math.ListN.{get_or-eq_default}
use Rattle.walk.specs.Scale.{Scale, unreached}
use Rattle.walk.specs.Fill.{filled}
use Rattle.walk.specs.FillLaws.{filled-size, filled-inside, filled-outside}
use Rattle.layers.specs.Layer.{entry_in}
use Rattle.layers.specs.Step.{TableStep}
use Rattle.layers.specs.StepLaws.{step_from}
use Rattle.waiting.specs.Waiting.{depth_in, row_on, event_in, DepthOn, RowOn, Dropped, Lowered}

-- ---- flags
module _ (events : List ℕ) (row : ℕ) where
  pub row-shut : depth_in events (row / 32) ≡ 0 → row_on events row ≡ 0
  unfolding row_on
  row-shut e = rw (eq-eqb (depth_in events (row / 32)) 0 e)

  pub row_open : ¬ (depth_in events (row / 32) ≡ 0) → row_on events row ≡ get_or events (32768 + row) 0
  unfolding row_on
  row_open n = rw (ne_eqb (depth_in events (row / 32)) 0 n)

-- the flag of a row depends on two cells
row_same : (events events' : List ℕ) (row : ℕ) → depth_in events' (row / 32) ≡ depth_in events (row / 32) → get_or events' (32768 + row) 0 ≡ get_or events (32768 + row) 0
    → row_on events' row ≡ row_on events row
unfolding row_on
row_same events events' row e f = rw (e, f)

-- past the last depth all is off
past : (events : List ℕ) (row : ℕ) → length events ≡ 33824 → 32 ≤ row / 32 → row_on events row ≡ 0
past events row size h = row-shut events row (get_or-eq_default events 0 (omega arith))

-- ---- reading
module _ (σ : Scale) (events : List ℕ) (row c : ℕ) where
  pub event-off : row_on events row ≡ 0 → event_in σ events row c ≡ unreached σ
  unfolding event_in
  event-off e = rw (eq-eqb (row_on events row) 0 e)

  pub event-on : ¬ (row_on events row ≡ 0) → event_in σ events row c ≡ entry_in events row c
  unfolding event_in
  event-on n = rw (ne_eqb (row_on events row) 0 n)

-- the same flag and the same cell, up to the last depth
event-same : (σ : Scale) (events events' : List ℕ) (row c : ℕ) → length events ≡ 33824 → length events' ≡ 33824
    → (row / 32 < 32 → (row_on events' row ≡ row_on events row) × (entry_in events' row c ≡ entry_in events row c)) → event_in σ events' row c ≡ event_in σ events row c
event-same σ events events' row c size size' f = go (dec_lt (row / 32) 32) (ℕ_discrete (row_on events row) 0)
  where
    go : Dec (row / 32 < 32) → Dec (row_on events row ≡ 0) → event_in σ events' row c ≡ event_in σ events row c
    go (no h) d = event-off σ events' row c (past events' row size' (omega arith)) ∙ sym (event-off σ events row c (past events row size (omega arith)))
    go (yes h) (yes o) = event-off σ events' row c ((f h).0 ∙ o) ∙ sym (event-off σ events row c o)
    go (yes h) (no o) = event-on σ events' row c (rw (f h).0 o) ∙ (f h).1 ∙ sym (event-on σ events row c o)

-- the row of a nonterminal at a depth, as code reads it
module _ (σ : Scale) (events : List ℕ) (at X : ℕ) (hX : X < 32) where
  depth-of : (at * 32 + X) / 32 ≡ at
  depth-of = omega arith

  pub row-dark : (depth_in events at ≡ 0) ⊎ (get_or events (32768 + (at * 32 + X)) 0 ≡ 0) → (c : ℕ) → event_in σ events (at * 32 + X) c ≡ unreached σ
  row-dark (inl e) c = event-off σ events (at * 32 + X) c (row-shut events (at * 32 + X) (rw depth-of e))
  row-dark (inr e) c = event-off σ events (at * 32 + X) c (go (ℕ_discrete (depth_in events at) 0))
    where
      go : Dec (depth_in events at ≡ 0) → row_on events (at * 32 + X) ≡ 0
      go (yes o) = row-shut events (at * 32 + X) (rw depth-of o)
      go (no o) = row_open events (at * 32 + X) (rw depth-of o) ∙ e

  pub row_read : ¬ (depth_in events at ≡ 0) → ¬ (get_or events (32768 + (at * 32 + X)) 0 ≡ 0) → (c : ℕ) → event_in σ events (at * 32 + X) c ≡ get_or events ((at * 32 + X) * 32 + c) 0
  unfolding entry_in
  row_read n o c = event-on σ events (at * 32 + X) c (rw (row_open events (at * 32 + X) (rw depth-of n)) o)

-- with the flags of all depths off
pub event-none : (σ : Scale) (events : List ℕ) {events' : List ℕ} → length events ≡ 33824 → events' ≡ filled events 33792 32 0 → (row c : ℕ) → event_in σ events' row c ≡ unreached σ
event-none σ events {events'} size w row c = event-off σ events' row c (go (dec_lt (row / 32) 32))
  where
    go : Dec (row / 32 < 32) → row_on events' row ≡ 0
    go (yes h) = row-shut events' row (rw w (filled-inside events 33792 32 0 (33792 + row / 32) (omega arith) (omega arith) (omega arith)))
    go (no h) = past events' row (rw w (filled-size events 33792 32 0) ∙ size) (omega arith)

-- ---- cells are filled, and then one is set
module _ (events : List ℕ) {events' : List ℕ} (start v at x : ℕ) (w : events' ≡ filled events start 32 v) where
  put-size : length (set events' at x) ≡ length events
  put-size = length-set events' at x ∙ rw w (filled-size events start 32 v)

  put-there : at < length events → get_or (set events' at x) at 0 ≡ x
  put-there h = get_or-set_same events' at x 0 (rw w (rw (filled-size events start 32 v) h))

  put-inside : (k : ℕ) → start + 32 ≤ length events → start ≤ k → k < start + 32 → ¬ (k ≡ at) → get_or (set events' at x) k 0 ≡ v
  put-inside k h l m n = get_or-set_other events' at k x 0 n ∙ rw w (filled-inside events start 32 v k h l m)

  put-outside : (k : ℕ) → (k < start) ⊎ (start + 32 ≤ k) → ¬ (k ≡ at) → get_or (set events' at x) k 0 ≡ get_or events k 0
  put-outside k o n = get_or-set_other events' at k x 0 n ∙ rw w (filled-outside events start 32 v k o)

-- rows in order
beside : (r row : ℕ) → ¬ (r ≡ row) → (r < row) ⊎ (row < r)
beside r row n = go (dec_lt r row)
  where
    go : Dec (r < row) → (r < row) ⊎ (row < r)
    go (yes h) = inl h
    go (no h) = inr (omega arith)

-- ---- a depth is turned on, with its rows off
pub depth-cleared : {σ : Scale} (k : ℕ) (events : List ℕ) {events' : List ℕ} → k < 32 → length events ≡ 33824 → depth_in events k ≡ 0 → events' ≡ filled events (32768 + k * 32) 32 0
    → DepthOn σ k events (set events' (33792 + k) 1)
unfolding entry_in
depth-cleared {σ} k events {events'} hk size off w = record {
  on = λ e. omega (arith, e, there);
  same = λ row c l. event-same σ events new row c size (put-size events (32768 + k * 32) 0 (33792 + k) 1 w ∙ size) (λ h. (flag row h (ℕ_discrete (row / 32) k), kept (row * 32 + c) (inl (omega arith)) (λ i. omega (arith, i))));
}
  where
    new : List ℕ
    new = set events' (33792 + k) 1

    there : get_or new (33792 + k) 0 ≡ 1
    there = put-there events (32768 + k * 32) 0 (33792 + k) 1 w (omega arith)

    kept : (j : ℕ) → (j < 32768 + k * 32) ⊎ (32768 + k * 32 + 32 ≤ j) → ¬ (j ≡ 33792 + k) → get_or new j 0 ≡ get_or events j 0
    kept = put-outside events (32768 + k * 32) 0 (33792 + k) 1 w

    flag : (row : ℕ) → row / 32 < 32 → Dec (row / 32 ≡ k) → row_on new row ≡ row_on events row
    flag row h (yes e) =
        row_open new row (rw e (λ i. omega (arith, i, there))) ∙ put-inside events (32768 + k * 32) 0 (33792 + k) 1 w (32768 + row) (omega arith) (omega arith) (omega arith) (λ i. omega (arith, i))
        ∙ sym (row-shut events row (rw e off))
    flag row h (no n) = row_same events new row (kept (33792 + row / 32) (inr (omega arith)) (λ i. n (omega (arith, i)))) (⊎_elim
        (λ l. kept (32768 + row) (inl (omega arith)) (λ i. omega (arith, i)))
        (λ l. kept (32768 + row) (inr (omega arith)) (λ i. omega (arith, i)))
        (beside (row / 32) k n))

-- ---- a row of such a depth is turned on
pub row-cleared : {σ : Scale} (row : ℕ) (events : List ℕ) {events' : List ℕ} → row < 1024 → length events ≡ 33824 → ¬ (depth_in events (row / 32) ≡ 0) → get_or events (32768 + row) 0 ≡ 0
    → events' ≡ filled events (row * 32) 32 (unreached σ) → RowOn σ row events (set events' (32768 + row) 1)
unfolding entry_in
row-cleared {σ} row events {events'} hr size up off w = record { on = λ e. omega (arith, sym there ∙ e); same = λ r c l. same r c l (ℕ_discrete r row) }
  where
    new : List ℕ
    new = set events' (32768 + row) 1

    kept : (j : ℕ) → (j < row * 32) ⊎ (row * 32 + 32 ≤ j) → ¬ (j ≡ 32768 + row) → get_or new j 0 ≡ get_or events j 0
    kept = put-outside events (row * 32) (unreached σ) (32768 + row) 1 w

    depth : (r : ℕ) → r / 32 < 32 → depth_in new (r / 32) ≡ depth_in events (r / 32)
    depth r h = kept (33792 + r / 32) (inr (omega arith)) (λ i. omega (arith, i))

    there : row_on new row ≡ 1
    there = row_open new row (rw (depth row (omega arith)) up) ∙ put-there events (row * 32) (unreached σ) (32768 + row) 1 w (omega arith)

    same : (r c : ℕ) → c < 32 → Dec (r ≡ row) → event_in σ new r c ≡ event_in σ events r c
    same r c l (yes e) = rw e
        (event-on σ new row c (λ o. omega (arith, sym there ∙ o)) ∙ put-inside events (row * 32) (unreached σ) (32768 + row) 1 w (row * 32 + c) (omega arith) (omega arith) (omega arith) (λ i. omega (arith, i))
        ∙ sym (event-off σ events row c (row_open events row up ∙ off)))
    same r c l (no n) = event-same σ events new r c size (put-size events (row * 32) (unreached σ) (32768 + row) 1 w ∙ size) (λ h. (
      row_same events new r (depth r h) (kept (32768 + r) (inr (omega arith)) (λ i. n (omega (arith, i)))),
      ⊎_elim
          (λ m. kept (r * 32 + c) (inl (omega arith)) (λ i. omega (arith, i)))
          (λ m. kept (r * 32 + c) (inr (omega arith)) (λ i. omega (arith, i)))
          (beside r row n),
    ))

-- a store into a row that is on, seen through the flags
pub step_row : {σ : Scale} {row c w : ℕ} (events on-events : List ℕ) (v : ℕ) → row < 1024 → c < 32 → RowOn σ row events on-events
    → TableStep σ (Lowered row c w) (entry_in on-events) (entry_in (set on-events (row * 32 + c) v)) → TableStep σ (Lowered row c w) (event_in σ events) (event_in σ (set on-events (row * 32 + c) v))
step_row {σ} {row} {c} {w} events on-events v hr hc on s = step_from on.same (record {
  fall = λ q z h. fall q z h (ℕ_discrete (row_on on-events q) 0);
  below = λ q z w' p h u. rw (event-on σ new q z (rw (flag q, p.0) on.on)) (s.below q z w' p h u);
  attained = λ q z h. attained q z h (ℕ_discrete (row_on on-events q) 0);
})
  where
    new : List ℕ
    new = set on-events (row * 32 + c) v

    flag : (q : ℕ) → row_on new q ≡ row_on on-events q
    flag q = row_same on-events new q
        (get_or-set_other on-events (row * 32 + c) (33792 + q / 32) v 0 (λ i. omega (arith, i)))
        (get_or-set_other on-events (row * 32 + c) (32768 + q) v 0 (λ i. omega (arith, i)))

    fall : (q z : ℕ) → z < 32 → Dec (row_on on-events q ≡ 0) → event_in σ new q z ≤ event_in σ on-events q z
    fall q z h (yes e) = rw (event-off σ new q z (flag q ∙ e), event-off σ on-events q z e) (le_refl _)
    fall q z h (no n) = rw (event-on σ new q z (rw (flag q) n), event-on σ on-events q z n) (s.fall q z h)

    attained : (q z : ℕ) → z < 32 → Dec (row_on on-events q ≡ 0) → (event_in σ new q z ≡ event_in σ on-events q z) ⊎ Lowered row c w q z (event_in σ new q z)
    attained q z h (yes e) = inl (event-off σ new q z (flag q ∙ e) ∙ sym (event-off σ on-events q z e))
    attained q z h (no n) = rw (event-on σ new q z (rw (flag q) n), event-on σ on-events q z n) (s.attained q z h)

-- ---- a depth is turned off
pub rows-off : {σ : Scale} (at : ℕ) (events : List ℕ) → at < 32 → length events ≡ 33824 → Dropped σ at (event_in σ events) (event_in σ (set events (33792 + at) 0))
unfolding entry_in
rows-off {σ} at events h size = record {
  gone = λ row c l e. event-off σ (set events (33792 + at) 0) row c (row-shut (set events (33792 + at) 0) row (rw e (get_or-set_same events (33792 + at) 0 0 (omega arith))));
  rest = λ row c l n. event-same σ events (set events (33792 + at) 0) row c size (length-set events (33792 + at) 0 ∙ size) (λ m.
      (row_same events (set events (33792 + at) 0) row (kept (33792 + row / 32) (λ i. n (omega (arith, i)))) (kept (32768 + row) (λ i. omega (arith, i))), kept (row * 32 + c) (λ i. omega (arith, i))));
}
  where
    kept : (j : ℕ) → ¬ (j ≡ 33792 + at) → get_or (set events (33792 + at) 0) j 0 ≡ get_or events j 0
    kept j n = get_or-set_other events (33792 + at) j 0 0 n
