-- Laws of the way down: how the table of waiting gotos begins, is settled at a depth, and is moved to the next, and what it says at the end.
-- Assumes nothing.
use Rattle.std.specs.Prelude.{List, ◌∷◌, ◌⊎◌, ◌≡◌, ℕ, suc, ◌+◌, ◌-◌, ◌*◌, ◌/◌, ◌%◌, ◌≤◌, ◌<◌, length, set, drop}
use Rattle.std.proofs.Common.{inl, inr, ⊎_elim, sym, ◌∙◌, le_refl, get_or-set_same, get_or-set_other}
use Rattle.std.proofs.Math.Path.{refl}
use Rattle.std.proofs.Math.Decide.{dec_lt, ℕ_discrete}
use Rattle.std.proofs.Math.Nat.{le_trans}
use native.Mathlib.Omega.{arith}
use Rattle.std.proofs.Math.ListN.{get_or}
use Rattle.book.specs.Tables.{Tables}
use Rattle.walk.specs.Scale.{Scale, unreached}
use Rattle.walk.proofs.CostLaws.{plus-mono}
use Rattle.walk.specs.Claims.{Claims, Completes}
use Rattle.walk.proofs.ClaimsLaws.{claimed-next}
use Rattle.walk.specs.Sum.{plus}
use Rattle.layers.specs.Layer.{entry_in}
use Rattle.layers.specs.Step.{TableStep}
use Rattle.waiting.specs.Completes.{Pops, Stands, top, falls, Event}
use Rattle.waiting.specs.CompletesLaws.{part-within, event-stands, completes-stands-iff}
use Rattle.waiting.specs.Waiting.{Narrow, row_of, waiting_in, Expands}
use Rattle.search.specs.Progress.{Progress, Settling}

-- equal rows are of one depth and one nonterminal
pub row_one : (j d k X Y : ℕ) → X < 32 → Y < 32 → k < 32 → j ≤ d → d < j + 32 → row_of d X ≡ row_of (j + k) Y → (d ≡ j + k) × (X ≡ Y)
row_one j d k X Y hX hY hk l m e = (omega arith, omega arith)

pops-as : {σ : Scale} {B : Tables} {claim : Claims} {g g' b b' u u' k X X' c w : ℕ} → g ≡ g' → b ≡ b' → u ≡ u' → X ≡ X' → Pops σ B claim g b u k X c w → Pops σ B claim g' b' u' k X' c w
pops-as e f h i p = rw (e, f, h, i) at p

-- the same pop at a lower cost so far
pops-from : {σ : Scale} {B : Tables} {claim : Claims} {g b u k X c w : ℕ} (v : ℕ) (p : Pops σ B claim g b u k X c w) → Pops σ B claim g b v k X c (plus σ v p.taken)
pops-from v p = record { taken = p.taken; count = p.count; last = p.last; production = p.production; walk = p.walk; action = p.action; left = p.left; longer = p.longer; sum = refl }

module _ {σ : Scale} {B : Tables} {claim : Claims} (n : Narrow B) where
  -- a pop stays within the table's rows and columns
  pub pops-row : {g b u k X c w : ℕ} → Pops σ B claim g b u k X c w → (k < 32) × (X < 32) × (c < 32)
  pops-row {c} p =
      let (l, m, x, y) = n.range.reduces p.last c p.production p.action in
      (omega (arith, p.longer), omega (arith, p.left, n.nonterminals), omega (arith, n.terminals))

module _ {σ : Scale} {B : Tables} {claim : Claims} {q a : ℕ} {st : List ℕ} where
  pub at_top : {i g b u : ℕ} → i ≤ 0 → Stands σ B claim q st a i g b u → (i ≡ 0) × (g ≡ q) × (b ≡ a) × (u ≡ 0)
  at_top h top = (refl, refl, refl, refl)
  at_top h (falls d s p e l j) = absurd (omega arith)

  pub stands-depth : {i g b u : ℕ} → Stands σ B claim q st a i g b u → i ≤ length st
  stands-depth top = omega arith
  stands-depth (falls d s p e l j) = l

-- the table is unreached everywhere, and the top was expanded into it
module _ {σ : Scale} {B : Tables} {claim : Claims} (n : Narrow B) {E : List ℕ → ℕ → ℕ → ℕ} {q a r : ℕ} (st : List ℕ) {K T : ℕ → ℕ → ℕ} (hr : r < unreached σ) where
  pub progress_start : ((row c : ℕ) → row < 1024 → c < 32 → K row c ≡ unreached σ) → r < plus σ 0 (E st q a)
      → TableStep σ (Expands σ B claim 0 q a 0 r) K T → Progress σ B claim E q st a r 0 T
  unfolding waiting_in
  progress_start none miss step = record {
    below = λ h s p l m. low h s p l;
    missed = λ h s. no_more h s;
    attained = λ d X c hX hc l m. kept d X c hX hc m (step.attained (row_of d X) c hc);
  }
    where
      low : {i g b u k X c w : ℕ} → i ≤ 0 → Stands σ B claim q st a i g b u → Pops σ B claim g b u k X c w → w ≤ r → T (row_of (i - 1 + k) X) c ≤ w
      low {i} {k} {X} {c} {w} h s p l =
          let (ei, eg, eb, eu) = at_top h s in
          step.below (row_of (i - 1 + k) X) c w (k, X, omega arith, pops-as eg eb eu refl p, l) (pops-row n p).2 (omega arith)

      no_more : {i g b u : ℕ} → i ≤ 0 → Stands σ B claim q st a i g b u → r < plus σ u (E (drop (i - 1) st) g b)
      no_more h s = let (ei, eg, eb, eu) = at_top h s in rw (ei, eg, eb, eu) miss

      kept : (d X c : ℕ) → X < 32 → c < 32 → d < 0 + 32 → (T (row_of d X) c ≡ K (row_of d X) c) ⊎ Expands σ B claim 0 q a 0 r (row_of d X) c (T (row_of d X) c)
          → (T (row_of d X) c ≡ unreached σ) ⊎ (Event σ B claim q st a d X c (T (row_of d X) c) × (T (row_of d X) c ≤ r))
      kept d X c hX hc hd (inl e) = inl (e ∙ none (row_of d X) c (omega arith) hc)
      kept d X c hX hc hd (inr (k, Y, er, p, l)) =
          let (hk, hY, hz) = pops-row n p in
          let (ed, eX) = row_one 0 d k X Y hX hY hk (omega arith) hd er in
          inr (record { index = 0; state = q; first = a; cost = 0; more = k; stands = top; pops = pops-as refl refl refl (sym eX) p; depth = omega arith }, l)

module _ {σ : Scale} {B : Tables} {claim : Claims} {E : List ℕ → ℕ → ℕ → ℕ} {q a r j : ℕ} {st : List ℕ} {T : ℕ → ℕ → ℕ} where
  -- nothing at this depth was followed yet
  pub settling-none : {done : List ℕ} → ((k : ℕ) → k < B.nonterminals * 32 → get_or done k 0 ≡ unreached σ) → Progress σ B claim E q st a r j T → Settling σ B claim E q st a r j T done
  unfolding entry_in
  settling-none {done} none p = record {
    progress = p;
    seen = λ X c hX hc g u. absurd (omega (arith, at X c hX hc));
    refused = λ X c hX hc g u. absurd (omega (arith, at X c hX hc));
  }
    where
      at : (X c : ℕ) → X < B.nonterminals → c < 32 → get_or done (X * 32 + c) 0 ≡ unreached σ
      at X c hX hc = none (X * 32 + c) (omega arith)

  -- at the end of the stack
  pub progress-done : r < unreached σ → length st ≤ j → Progress σ B claim E q st a r j T → (v : ℕ) → Completes σ B claim E (q ∷ st) a v → v ≤ r → ⊥
  progress-done hr h p v c l = let (i, g, b, u, s, m) = (completes-stands-iff hr).0 (v, c, l) in omega (arith, p.missed (le_trans (stands-depth s) h) s)

-- one goto is followed, or is none
module _ {σ : Scale} {B : Tables} {claim : Claims} {E : List ℕ → ℕ → ℕ → ℕ} {q a r j : ℕ} {st done : List ℕ} {T : ℕ → ℕ → ℕ} (X c v : ℕ) (s : Settling σ B claim E q st a r j T done)
    (n : Narrow B) (hX : X < B.nonterminals) (hc : c < 32) (size : length done ≡ 1024) (most : entry_in done X c ≤ unreached σ) (ev : v ≡ waiting_in T j X c) (low : v < entry_in done X c) where
  settling-set : {T' : ℕ → ℕ → ℕ} → Progress σ B claim E q st a r j T' → ((d Y z : ℕ) → z < 32 → waiting_in T' d Y z ≤ waiting_in T d Y z)
      → ((g k Y z w : ℕ) → B.goto (get_or st j 0) X ≡ suc g → Pops σ B claim g c v k Y z w → w ≤ r → waiting_in T' (j + k) Y z ≤ w)
      → ((g : ℕ) → B.goto (get_or st j 0) X ≡ suc g → r < plus σ v (E (drop j st) g c)) → Settling σ B claim E q st a r j T' (set done (X * 32 + c) v)
  unfolding entry_in
  settling-set {T'} p fall new miss = record {
    progress = p;
    seen = λ X' c' hX' hc' g u p l. seen X' c' hX' hc' g u p l (ℕ_discrete (X' * 32 + c') (X * 32 + c));
    refused = λ X' c' hX' hc' g u. refused X' c' hX' hc' g u (ℕ_discrete (X' * 32 + c') (X * 32 + c));
  }
    where
      here : (k : ℕ) → k ≡ X * 32 + c → get_or (set done (X * 32 + c) v) k 0 ≡ v
      here k e = rw e (get_or-set_same done (X * 32 + c) v 0 (omega (arith, n.nonterminals)))

      seen : (X' c' : ℕ) {g k Y z w : ℕ} → X' < B.nonterminals → c' < 32 → B.goto (get_or st j 0) X' ≡ suc g → get_or (set done (X * 32 + c) v) (X' * 32 + c') 0 < unreached σ
          → Pops σ B claim g c' (get_or (set done (X * 32 + c) v) (X' * 32 + c') 0) k Y z w → w ≤ r → Dec (X' * 32 + c' ≡ X * 32 + c) → waiting_in T' (j + k) Y z ≤ w
      seen X' c' {g = g'} {k} {Y} {z} {w} hX' hc' g u p l (yes e) =
          let eX : X' ≡ X = omega arith in
          let ec : c' ≡ c = omega arith in
          new g' k Y z w (rw eX at g) (pops-as refl ec (here (X' * 32 + c') e) refl p) l
      seen X' c' {k} {Y} {z} hX' hc' g u p l (no m) =
          let same = get_or-set_other done (X * 32 + c) (X' * 32 + c') v 0 m in
          le_trans (fall (j + k) Y z (pops-row n p).2) (s.seen X' c' hX' hc' g (omega arith) (pops-as refl refl same refl p) l)

      refused : (X' c' : ℕ) {g : ℕ} → X' < B.nonterminals → c' < 32 → B.goto (get_or st j 0) X' ≡ suc g → get_or (set done (X * 32 + c) v) (X' * 32 + c') 0 < unreached σ
          → Dec (X' * 32 + c' ≡ X * 32 + c) → r < plus σ (get_or (set done (X * 32 + c) v) (X' * 32 + c') 0) (E (drop j st) g c')
      refused X' c' {g = g'} hX' hc' g u (yes e) =
          let eX : X' ≡ X = omega arith in
          let ec : c' ≡ c = omega arith in
          rw (here (X' * 32 + c') e, ec) (miss g' (rw eX at g))
      refused X' c' hX' hc' g u (no m) =
          let same = get_or-set_other done (X * 32 + c) (X' * 32 + c') v 0 m in
          rw same (s.refused X' c' hX' hc' g (omega arith))

  -- there is no such goto
  pub settling-pass : B.goto (get_or st j 0) X ≡ 0 → Settling σ B claim E q st a r j T (set done (X * 32 + c) v)
  settling-pass none = settling-set s.progress (λ d Y z h. le_refl _) (λ g k Y z w e p l. absurd (omega arith)) (λ g e. absurd (omega arith))

  -- the goto is one that waits
  pub settling-event : Event σ B claim q st a j X c v × (v ≤ r)
  settling-event = ⊎_elim
      (λ e. absurd (omega arith))
      (λ x. rw ev x)
      (s.progress.attained j X c (omega (arith, n.nonterminals)) hc (le_refl j) (omega arith))

  pub settling-follow : {g : ℕ} {T' : ℕ → ℕ → ℕ} → r < unreached σ → j < length st → B.goto (get_or st j 0) X ≡ suc g → r < plus σ v (E (drop j st) g c)
      → TableStep σ (Expands σ B claim j g c v r) T T' → Settling σ B claim E q st a r j T' (set done (X * 32 + c) v)
  unfolding waiting_in
  settling-follow {g} {T'} hr hj there miss step = settling-set
      (record {
        below = λ h t p l m. below h t p l m;
        missed = s.progress.missed;
        attained = λ d Y z hY hz l m. attained d Y z hY hz l m (step.attained (row_of d Y) z hz);
      })
      (λ d Y z h. step.fall (row_of d Y) z h)
      (λ g' k Y z w i p l. new g' k Y z w i p l)
      (λ g' i. let e : g' ≡ g = omega arith in rw e miss)
    where
      below : {i g b u k X c w : ℕ} → i ≤ j → Stands σ B claim q st a i g b u → Pops σ B claim g b u k X c w → w ≤ r → j ≤ i - 1 + k → T' (row_of (i - 1 + k) X) c ≤ w
      below {i} {k} {X} {c} h t p l m = le_trans (step.fall (row_of (i - 1 + k) X) c (pops-row n p).2) (s.progress.below h t p l m)

      new : (g' k Y z w : ℕ) → B.goto (get_or st j 0) X ≡ suc g' → Pops σ B claim g' c v k Y z w → w ≤ r → T' (row_of (j + k) Y) z ≤ w
      new g' k Y z w i p l =
          let e : g' ≡ g = omega arith in
          let hz = (pops-row n p).2 in
          step.below (row_of (j + k) Y) z w (k, Y, refl, pops-as e refl refl refl p, l) hz (omega arith)

      attained : (d Y z : ℕ) → Y < 32 → z < 32 → j ≤ d → d < j + 32
          → (T' (row_of d Y) z ≡ T (row_of d Y) z) ⊎ Expands σ B claim j g c v r (row_of d Y) z (T' (row_of d Y) z)
          → (T' (row_of d Y) z ≡ unreached σ) ⊎ (Event σ B claim q st a d Y z (T' (row_of d Y) z) × (T' (row_of d Y) z ≤ r))
      attained d Y z hY hz l m (inl e) = rw e (s.progress.attained d Y z hY hz l m)
      attained d Y z hY hz l m (inr (k, Y', er, p, le)) =
          let (hk, hY', hz') = pops-row n p in
          let (ed, eY) = row_one j d k Y Y' hY hY' hk l m er in
          inr (
            record {
              index = suc j;
              state = g;
              first = c;
              cost = v;
              more = k;
              stands = event-stands settling-event.0 hj there;
              pops = pops-as refl refl refl (sym eY) p;
              depth = omega arith;
            },
            le,
          )

-- every goto that waits at depth j was followed at its cost: on to the next depth, whose last row is that of depth j, cleared
module _ {σ : Scale} {B : Tables} {claim : Claims} {E : List ℕ → ℕ → ℕ → ℕ} {q a r j : ℕ} {st done : List ℕ} {T : ℕ → ℕ → ℕ} (n : Narrow B) (hr : r < unreached σ) (s : Settling σ B claim E q st a r j T done)
    (quiet : (X c : ℕ) → X < B.nonterminals → c < B.terminals → entry_in done X c ≤ waiting_in T j X c) where
  followed : {g c w : ℕ} (X : ℕ) → c < B.terminals → B.goto (get_or st j 0) X ≡ suc g → waiting_in T j X c ≤ w → entry_in done X c ≤ w
  followed {g} {c} X hc e h = let (x, y, z) = n.range.gotos (get_or st j 0) X g e in le_trans (quiet X c y hc) h

  -- what is popped from one more stand
  covered_more : {d g c w k X' c' w' : ℕ} (X : ℕ) → Stands σ B claim q st a (suc d) g c w → d ≤ j → c < B.terminals → B.goto (get_or st d 0) X ≡ suc g → (d ≡ j → waiting_in T j X c ≤ w)
      → Pops σ B claim g c w k X' c' w' → w' ≤ r → j ≤ suc d - 1 + k → waiting_in T (suc d - 1 + k) X' c' ≤ w'
  covered_more {d} {g} {c} {w} {k} {X'} {c'} {w'} X t h hc e low p l m = go (dec_lt d j)
    where
      go : Dec (d < j) → waiting_in T (suc d - 1 + k) X' c' ≤ w'
      go (yes f) = s.progress.below f t p l m
      go (no f) =
          let same : d ≡ j = omega arith in
          let there : B.goto (get_or st j 0) X ≡ suc g = rw same at e in
          let v = followed X hc there (low same) in
          let le : plus σ (entry_in done X c) p.taken ≤ w' = rw p.sum (plus-mono σ v (le_refl p.taken)) in
          let here : suc d - 1 + k ≡ j + k = omega arith in
          let near = part-within σ w p.taken r hr (rw (← p.sum) l) in
          rw here (le_trans (s.seen X c (n.range.gotos (get_or st j 0) X g there).1 (omega (arith, n.terminals)) there (omega arith) (pops-from (entry_in done X c) p) (le_trans le l)) le)

  covered : {i g b u k X c w : ℕ} → Stands σ B claim q st a i g b u → i ≤ suc j → Pops σ B claim g b u k X c w → w ≤ r → j ≤ i - 1 + k → waiting_in T (i - 1 + k) X c ≤ w
  covered top h p l m = s.progress.below (omega arith) top p l m
  covered (falls {i} {k} {X} {c} {w} d t o e lt g) h p l m =
      let near = part-within σ w p.taken r hr (rw (← p.sum) l) in
      covered_more X (falls d t o e lt g) (omega arith) (claimed-next o.walk) g (λ f. let same : j ≡ i - 1 + k = omega arith in rw same (covered t (omega arith) o near (omega arith))) p l m

  -- .. and none completes
  refused : {i g b u : ℕ} → Stands σ B claim q st a i g b u → i ≤ suc j → r < plus σ u (E (drop (i - 1) st) g b)
  refused top h = s.progress.missed (omega arith) top
  refused (falls {i} {k} {X} {c} {w} {g'} d t o e lt g) h = go (dec_lt d j) (dec_lt r (plus σ w (E (drop (suc d - 1) st) g' c)))
    where
      go : Dec (d < j) → Dec (r < plus σ w (E (drop (suc d - 1) st) g' c)) → r < plus σ w (E (drop (suc d - 1) st) g' c)
      go (yes f) x = s.progress.missed f (falls d t o e lt g)
      go (no f) (yes x) = x
      go (no f) (no x) =
          let (hk, hX, hc) = pops-row n o in
          let same : d ≡ j = omega arith in
          let here : j ≡ i - 1 + k = omega arith in
          let last : suc d - 1 ≡ j = omega arith in
          let low : plus σ w (E (drop (suc d - 1) st) g' c) ≤ r = omega arith in
          let within = rw last at low in
          let near = part-within σ w (E (drop j st) g' c) r hr within in
          let there : B.goto (get_or st j 0) X ≡ suc g' = rw same at g in
          let v = followed {w = w} X (claimed-next o.walk) there (rw here (covered t (omega arith) o near (omega arith))) in
          absurd (omega (arith, s.refused X c (n.range.gotos (get_or st j 0) X g' there).1 hc there (omega arith), plus-mono σ v (le_refl (E (drop j st) g' c)), within))

  pub settling-done : {T' : ℕ → ℕ → ℕ} → ((X c : ℕ) → X < 32 → c < 32 → T' (row_of j X) c ≡ unreached σ) → ((row c : ℕ) → c < 32 → ¬ (row / 32 ≡ j % 32) → T' row c ≡ T row c)
      → Progress σ B claim E q st a r (suc j) T'
  unfolding waiting_in
  settling-done {T'} gone rest = record {
    below = λ h t p l m. below h t p l m;
    missed = λ h t. refused t h;
    attained = λ d X c hX hc l m. attained d X c hX hc l m (dec_lt d (j + 32));
  }
    where
      same : (d X c : ℕ) → j < d → d < j + 32 → X < 32 → c < 32 → T' (row_of d X) c ≡ T (row_of d X) c
      same d X c l m hX hc = rest (row_of d X) c hc (λ e. omega arith)

      below : {i g b u k X c w : ℕ} → i ≤ suc j → Stands σ B claim q st a i g b u → Pops σ B claim g b u k X c w → w ≤ r → suc j ≤ i - 1 + k → T' (row_of (i - 1 + k) X) c ≤ w
      below {i} {k} {X} {c} h t p l m =
          let (hk, hX, hc) = pops-row n p in
          rw (same (i - 1 + k) X c (omega arith) (omega arith) hX hc) (covered t h p l (omega arith))

      attained : (d X c : ℕ) → X < 32 → c < 32 → suc j ≤ d → d < suc j + 32 → Dec (d < j + 32)
          → (T' (row_of d X) c ≡ unreached σ) ⊎ (Event σ B claim q st a d X c (T' (row_of d X) c) × (T' (row_of d X) c ≤ r))
      attained d X c hX hc l m (yes f) = rw (same d X c (omega arith) f hX hc) (s.progress.attained d X c hX hc (omega arith) f)
      attained d X c hX hc l m (no f) = let e : row_of d X ≡ row_of j X = omega arith in inl (rw e (gone X c hX hc))
