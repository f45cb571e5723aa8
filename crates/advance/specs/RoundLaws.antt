-- Laws of rounds: the first, one turn more, the next round, and the last. Assumes nothing.
use Rattle.std.specs.Prelude.{cond, List, [], ◌∷◌, ◌⊎◌, ◌≡◌, refl, ℕ, zero, suc, ◌+◌, ◌≤◌, ◌<◌, ltb, length, get_or, set, replicate}
use Rattle.std.proofs.Common.{inl, inr, ⊎_elim, sym, ◌∙◌, ap, not-suc-le-zero, le_of_suc-le-suc, arith, lt-ltb, le-ltb, length-set, get_or-set_same, get_or-set_other}
use Rattle.std.proofs.Math.Decide.{ℕ_discrete, dec_lt}
use Rattle.std.proofs.lemmas.List.{length-replicate, get_or-replicate}
use Rattle.std.proofs.Math.ListN.{get_or-eq_default}
use Rattle.book.specs.Tables.{Tables, tables_of}
use Rattle.book.specs.TablesLaws.{InRange, Holds}
use Rattle.book.proofs.TablesLaws.{in-range}
use Rattle.book.specs.declared.Sizes.{Sizes}
use Rattle.walk.specs.Claims.{Claims}
use Rattle.layers.specs.CrossingLaws.{states-are}
use Rattle.advance.specs.Nearest.{far, Shifts, LeadsTo, Nearest}
use Rattle.advance.specs.Round.{numbered, First, shifting, other, Started, Turn, kept, given, Round, Rounds}

-- ---- the count of the numbered
one : (v : ℕ) → v < far → ◌≡◌ {A = ℕ} (cond (ltb v far) 1 0) 1
one v h = rw (lt-ltb v far h)

none : (v : ℕ) → v ≡ far → ◌≡◌ {A = ℕ} (cond (ltb v far) 1 0) 0
none v e = rw (le-ltb v far (omega arith))

at_most : (v : ℕ) → Dec (v < far) → cond (ltb v far) 1 0 ≤ 1
at_most v (yes h) = rw (lt-ltb v far h) (omega arith)
at_most v (no h) = rw (le-ltb v far (omega arith)) (omega arith)

numbered-most : (l : List ℕ) → numbered l ≤ length l
unfolding numbered
numbered-most [] = omega arith
numbered-most (v ∷ l) = omega (arith, numbered-most l, at_most v (dec_lt v far))

-- where one has the mark, not all are numbered; where it gets a number, one more is
numbered-room : (l : List ℕ) (k : ℕ) → k < length l → get_or l k 0 ≡ far → numbered l < length l
unfolding numbered
numbered-room [] k h e = absurd (not-suc-le-zero h)
numbered-room (v ∷ l) zero h e = omega (arith, numbered-most l, none v e)
numbered-room (v ∷ l) (suc k) h e = omega (arith, numbered-room l k (le_of_suc-le-suc h) e, at_most v (dec_lt v far))

numbered-some : (l : List ℕ) (k : ℕ) → k < length l → get_or l k 0 < far → 0 < numbered l
unfolding numbered
numbered-some [] k h e = absurd (not-suc-le-zero h)
numbered-some (v ∷ l) zero h e = omega (arith, one v e)
numbered-some (v ∷ l) (suc k) h e = omega (arith, numbered-some l k (le_of_suc-le-suc h) e)

numbered-given : (l : List ℕ) (k v : ℕ) → k < length l → get_or l k 0 ≡ far → v < far → numbered (set l k v) ≡ numbered l + 1
unfolding numbered
numbered-given [] k v h e n = absurd (not-suc-le-zero h)
numbered-given (u ∷ l) zero v h e n = omega (arith, one v n, none u e)
numbered-given (u ∷ l) (suc k) v h e n = omega (arith, numbered-given l k v (le_of_suc-le-suc h) e n)

-- ---- before the rounds
pub started_none : {B : Tables} {x : ℕ} → Started B x 0 (replicate 128 far)
started_none = record {
  size = length-replicate {A = ℕ} 128 far;
  first = λ q h. absurd (omega arith);
  rest = λ q h l. get_or-replicate {A = ℕ} 128 q far 0 l;
}

pub started-more : {B : Tables} {x i v : ℕ} {to : List ℕ} → i < 128 → Started B x i to → First B x i v → Started B x (i + 1) (set to i v)
started-more {B} {x} {i} {v} {to} h s f = record {
  size = rw (length-set to i v) s.size;
  first = λ q l. first q l (ℕ_discrete q i);
  rest = λ q l u. rw (get_or-set_other to i q v 0 (λ e. omega arith)) (s.rest q (omega arith) u);
}
  where
    first : (q : ℕ) → q < i + 1 → Dec (q ≡ i) → First B x q (get_or (set to i v) q 0)
    first q l (yes e) = rw (e, get_or-set_same to i v 0 (omega (arith, s.size))) f
    first q l (no n) = rw (get_or-set_other to i q v 0 n) (s.first q (omega arith))

-- ---- a store where the mark stood
module _ {B : Tables} {claim : Claims} {x : ℕ} (to : List ℕ) (i v : ℕ) where
  leads-kept : {q k X : ℕ} → get_or to i 0 ≡ far → k < far → LeadsTo B claim x to q k X → LeadsTo B claim x (set to i v) q k X
  leads-kept h l a = record {
    target = a.target;
    transition = a.transition;
    claimed = a.claimed;
    distance = get_or-set_other to i a.target v 0 (λ e. absurd (omega (arith, ap (λ (j : ℕ). get_or to j 0) e))) ∙ a.distance;
  }

  leads-before : {q k X : ℕ} → i < length to → k < v → LeadsTo B claim x (set to i v) q k X → LeadsTo B claim x to q k X
  leads-before {q} {k} h l a = record {
    target = a.target;
    transition = a.transition;
    claimed = a.claimed;
    distance = sym (get_or-set_other to i a.target v 0 (λ e. absurd (omega (arith, ap (λ (j : ℕ). get_or (set to i v) j 0) e, get_or-set_same to i v 0 h)))) ∙ a.distance;
  }

-- ---- in a round
module _ {B : Tables} {claim : Claims} {x : ℕ} (range : InRange B) (fits : B.states ≤ 128) where
  round-first : {i : ℕ} {to : List ℕ} → B.states ≤ i → Started B x i to → Round B claim x 0 0 0 to
  round-first {i} {to} all s = record {
    sound = record { size = s.size; shifts = λ q h. shifts q (s.first q (omega arith)); onward = λ q m h e l. absurd (onward q m e l (s.first q (omega arith))); bounded = λ q. bounded q };
    most = λ q. ⊎_elim (λ h. inl (omega arith)) inr (zeroes q);
    idle = λ e q. zeroes q;
    complete = λ q k X a. ⊎_elim (λ h. absurd (omega arith)) (λ h. absurd (omega arith));
    count = λ q h e. numbered-some to q (omega (arith, s.size)) (omega arith);
    grown = λ h. absurd (omega arith);
  }
    where
      shifts : (q : ℕ) {v : ℕ} → First B x q v → (v ≡ 0 → Shifts B x q) × (Shifts B x q → v ≡ 0)
      shifts q (shifting y) = (λ e. y, λ e. refl)
      shifts q (other n) = (λ e. absurd (omega arith), λ y. absurd (n y))

      onward : (q m : ℕ) {v : ℕ} → v ≡ suc m → suc m < far → First B x q v → ⊥
      onward q m e l (shifting y) = omega arith
      onward q m e l (other n) = omega arith

      at : {q v : ℕ} → First B x q v → (v ≤ 0) ⊎ (v ≡ far)
      at (shifting y) = inl (omega arith)
      at (other n) = inr refl

      out : (q : ℕ) → Dec (q < 128) → ¬ (q < i) → (get_or to q 0 ≤ 0) ⊎ (get_or to q 0 ≡ far)
      out q (yes h) n = inr (s.rest q (omega arith) h)
      out q (no h) n = inl (rw (get_or-eq_default to 0 {n = q} (omega (arith, s.size))) (omega arith))

      within : (q : ℕ) → Dec (q < i) → (get_or to q 0 ≤ 0) ⊎ (get_or to q 0 ≡ far)
      within q (yes h) = at (s.first q h)
      within q (no h) = out q (dec_lt q 128) h

      zeroes : (q : ℕ) → (get_or to q 0 ≤ 0) ⊎ (get_or to q 0 ≡ far)
      zeroes q = within q (dec_lt q i)

      bounded : (q : ℕ) → (get_or to q 0 ≤ 127) ⊎ (get_or to q 0 ≡ far)
      bounded q = ⊎_elim (λ h. inl (omega arith)) inr (zeroes q)

  -- the turn of state i gave it nothing ..
  round-kept : {m i r : ℕ} {to : List ℕ} → (get_or to i 0 ≡ far → (X : ℕ) → ¬ LeadsTo B claim x to i m X) → Round B claim x m i r to → Round B claim x m (i + 1) (r + 0) to
  round-kept {m} {i} {r} {to} f p = record {
    sound = p.sound;
    most = p.most;
    idle = λ e. p.idle (omega arith);
    complete = λ q k X a. ⊎_elim (λ h. p.complete q k X a (inl h)) (λ (e, h). here q k X a e h (ℕ_discrete q i));
    count = λ q h e. omega (arith, p.count q h e);
    grown = λ h. omega (arith, p.grown (omega arith));
  }
    where
      here : (q k X : ℕ) → LeadsTo B claim x to q k X → k ≡ m → q < i + 1 → Dec (q ≡ i) → get_or to q 0 ≤ suc k
      here q k X a e h (no n) = p.complete q k X a (inr (e, omega arith))
      here q k X a e h (yes n) = ⊎_elim (λ y. omega arith) (λ y. absurd (f (rw n at y) X (rw (n, e) at a))) (p.most q)

  -- .. or a distance
  round-given : {m i r X : ℕ} {to : List ℕ} → i < B.states → get_or to i 0 ≡ far → LeadsTo B claim x to i m X → Round B claim x m i r to
      → Round B claim x m (i + 1) (r + 1) (set to i (m + 1))
  round-given {m} {i} {r} {X} {to} hi mark a p = record {
    sound = record {
      size = rw (length-set to i (m + 1)) p.sound.size;
      shifts = λ q h. shifts q h (ℕ_discrete q i);
      onward = λ q k h e l. onward q k h e l (ℕ_discrete q i);
      bounded = λ q. bounded q (ℕ_discrete q i);
    };
    most = λ q. most q (ℕ_discrete q i);
    idle = λ e. absurd (omega arith);
    complete = λ q k Y b h. complete q k Y b h (ℕ_discrete q i);
    count = λ q h e. omega (arith, more);
    grown = λ h. omega (arith, more);
  }
    where
      inside : i < length to
      inside = omega (arith, p.sound.size)

      near : m + r < numbered to
      near = p.count a.target (range.gotos i X a.target a.transition).2 a.distance

      low : m + 1 ≤ 127
      low = omega (arith, near, numbered-room to i inside mark, p.sound.size)

      more : m + (r + 1) < numbered (set to i (m + 1))
      more = omega (arith, near, numbered-given to i (m + 1) inside mark (omega (arith, low)))

      there : get_or (set to i (m + 1)) i 0 ≡ m + 1
      there = get_or-set_same to i (m + 1) 0 inside

      away : (q : ℕ) → ¬ (q ≡ i) → get_or (set to i (m + 1)) q 0 ≡ get_or to q 0
      away q n = get_or-set_other to i q (m + 1) 0 n

      shifts : (q : ℕ) → q < B.states → Dec (q ≡ i) → (get_or (set to i (m + 1)) q 0 ≡ 0 → Shifts B x q) × (Shifts B x q → get_or (set to i (m + 1)) q 0 ≡ 0)
      shifts q h (no n) = rw (away q n) (p.sound.shifts q h)
      shifts q h (yes e) = rw e (λ z. absurd (omega (arith, there)), λ y. absurd (omega (arith, (p.sound.shifts i hi).1 y)))

      onward : (q k : ℕ) → q < B.states → get_or (set to i (m + 1)) q 0 ≡ suc k → suc k < far → Dec (q ≡ i) → (Y : ℕ) × LeadsTo B claim x (set to i (m + 1)) q k Y
      onward q k h e l (no n) =
          let (Y, b) = p.sound.onward q k h (rw (away q n) at e) l in
          (Y, leads-kept to i (m + 1) mark (omega arith) b)
      onward q k h e l (yes n) =
          let same : m ≡ k = omega (arith, there, rw n at e) in
          (X, rw (n, ← same) (leads-kept to i (m + 1) mark (omega (arith, low)) a))

      bounded : (q : ℕ) → Dec (q ≡ i) → (get_or (set to i (m + 1)) q 0 ≤ 127) ⊎ (get_or (set to i (m + 1)) q 0 ≡ far)
      bounded q (no n) = rw (away q n) (p.sound.bounded q)
      bounded q (yes e) = inl (rw e (omega (arith, there, low)))

      most : (q : ℕ) → Dec (q ≡ i) → (get_or (set to i (m + 1)) q 0 ≤ suc m) ⊎ (get_or (set to i (m + 1)) q 0 ≡ far)
      most q (no n) = rw (away q n) (p.most q)
      most q (yes e) = inl (rw e (omega (arith, there)))

      complete : (q k Y : ℕ) → LeadsTo B claim x (set to i (m + 1)) q k Y → (k < m) ⊎ ((k ≡ m) × (q < i + 1)) → Dec (q ≡ i) → get_or (set to i (m + 1)) q 0 ≤ suc k
      complete q k Y b h (yes e) =
          rw e
          (⊎_elim
          (λ l. absurd (omega (arith, low, p.complete i k Y (leads-before to i (m + 1) inside (omega arith) (rw e at b)) (inl l))))
          (λ (j, l). omega (arith, there))
          h)
      complete q k Y b h (no n) =
          rw (away q n)
          (⊎_elim
          (λ l. p.complete q k Y (leads-before to i (m + 1) inside (omega arith) b) (inl l))
          (λ (e, l). p.complete q k Y (leads-before to i (m + 1) inside (omega arith) b) (inr (e, omega arith)))
          h)

  round-turn : {m i r v : ℕ} {to to' : List ℕ} → i < B.states → Round B claim x m i r to → Turn B claim x m i to v to' → Round B claim x m (i + 1) (r + v) to'
  round-turn h p (kept f) = round-kept f p
  round-turn h p (given e a) = round-given h e a p

  round-next : {m i r : ℕ} {to : List ℕ} → m < 128 → B.states ≤ i → Round B claim x m i r to → Round B claim x (m + 1) 0 0 to
  round-next {m} {i} {r} {to} low all p = record {
    sound = p.sound;
    most = λ q. ⊎_elim (λ h. inl (omega arith)) inr (p.most q);
    idle = λ e q. ⊎_elim (λ h. inl (omega arith)) inr (p.most q);
    complete = λ q k X a. ⊎_elim (λ h. complete q k X a (dec_lt k m) h) (λ h. absurd (omega arith));
    count = λ q h e. count q e (ℕ_discrete r 0);
    grown = λ h. absurd (omega arith);
  }
    where
      complete : (q k X : ℕ) → LeadsTo B claim x to q k X → Dec (k < m) → k < m + 1 → get_or to q 0 ≤ suc k
      complete q k X a (yes l) h = p.complete q k X a (inl l)
      complete q k X a (no l) h = p.complete q k X a (inr (omega arith, omega (arith, (range.gotos q X a.target a.transition).0)))

      count : (q : ℕ) → get_or to q 0 ≡ m + 1 → Dec (r ≡ 0) → m + 1 + 0 < numbered to
      count q e (yes z) = absurd (⊎_elim (λ h. omega arith) (λ h. omega arith) (p.idle z q))
      count q e (no z) = omega (arith, p.grown (omega arith))

  -- a round that gave nothing is the last
  round-last : {m i r : ℕ} {to : List ℕ} → r ≡ 0 → B.states ≤ i → Round B claim x m i r to → Nearest B claim x to
  round-last {m} {i} {to} nothing all p = record { sound = p.sound; complete = λ q k X a h. complete q k X a h (dec_lt k m) }
    where
      complete : (q k X : ℕ) → LeadsTo B claim x to q k X → k < far → Dec (k < m) → get_or to q 0 ≤ suc k
      complete q k X a h (yes l) = p.complete q k X a (inl l)
      complete q k X a h (no l) =
          let e : k ≡ m = ⊎_elim (λ y. omega (arith, a.distance)) (λ y. absurd (omega (arith, a.distance))) (p.idle nothing a.target) in
          p.complete q k X a (inr (e, omega (arith, (range.gotos q X a.target a.transition).0)))

-- one that gave something is followed by a round below 128
round-low : {B : Tables} {claim : Claims} {x m i r : ℕ} {to : List ℕ} → Round B claim x m i r to → ¬ (r ≡ 0) → m + 1 < 128
round-low {to} p n = omega (arith, p.grown (omega arith), numbered-most to, p.sound.size)

-- ---- for the tables of a book
module _ {d : Sizes} {cells : List ℕ} (h : Holds d cells) where
  fit : (tables_of cells).states ≤ 128
  fit = omega (arith, states-are h, h.small.states)

  all : (tables_of cells).states ≤ d.s
  all = omega (arith, states-are h)

  pub round-more : {claim : Claims} {x m i r v : ℕ} {to to' : List ℕ} → i < d.s → Round (tables_of cells) claim x m i r to → Turn (tables_of cells) claim x m i to v to'
      → Round (tables_of cells) claim x m (i + 1) (r + v) to'
  round-more l p t = round-turn (in-range h) fit (omega (arith, states-are h)) p t

  pub rounds-none : {claim : Claims} {x : ℕ} {to : List ℕ} → Started (tables_of cells) x d.s to → Rounds (tables_of cells) claim x 0 1 to
  rounds-none s = record { round = round-first (in-range h) fit all s; low = λ n. omega arith; last = λ e. absurd (omega arith) }

  pub rounds-more : {claim : Claims} {x m r : ℕ} {to : List ℕ} → m < 128 → Round (tables_of cells) claim x m d.s r to → Rounds (tables_of cells) claim x (m + 1) r to
  rounds-more l p = record { round = round-next (in-range h) fit l all p; low = round-low p; last = λ e. round-last (in-range h) fit e all p }
