-- The lines marked ★ hold: the words up to the answer's length are run one by one, and no transition leads to an unreached pair. Assumes nothing.
use Rattle.std.specs.Prelude.{Ok, Err, Bool, not, ◌&&◌, ◌||◌, ◌⊎◌, ◌≢◌, ◌≡◌, ltb, leb, eqb}
use Rattle.std.proofs.Math.Bool.{true, false, false≢true}
use mathlib.Core.List.{List, [], ◌∷◌, ◌++◌}
use Rattle.std.proofs.Math.Logic.{inl, inr, ⊎_elim, by_cases}
use Rattle.std.proofs.Math.Path.{refl, sym}
use Rattle.std.proofs.Common.{ap₂}
use Prim.Native.Nat.{ℕ, zero, suc, ◌<◌}
use Rattle.std.proofs.Math.Decide.{dec_lt, ℕ_discrete}
use native.Mathlib.Omega.{arith}
use Rattle.std.proofs.Math.ListN.{length}
use borrow.Author.Tests.{ltb-true, leb-true, eqb-true, eq-eqb}
use Rattle.number.specs.Number.{Number, number_at, first, second, third, value, refusal}
use Rattle.number.specs.Cause.{number_of}
use Rattle.number.specs.CauseLaws.{number-one}
use Rattle.book.specs.Action.{action_of}
use Rattle.book.specs.Book.{book_in, row, parts_in, cell_at, of_bytes, of_cells, checked}
use Rattle.book.specs.Range.{fault, fault_cause, fits, allowed}
use Rattle.book.specs.Tables.{Tables, sizes_of, tables_of, rank_of}
use Rattle.book.proofs.TablesLaws.{act-range}
use Rattle.book.specs.declared.Action.{Action}
use Rattle.book.specs.declared.Action.TheVariants.{Error, Accept, Shift, Reduce}
use Rattle.book.specs.declared.Sizes.{Sizes}
use Rattle.machine.specs.Machine.{Move, accepts, fails, breaks, shifts, reduces, next, shift, reduce, Steps, done, then, Terminals, none, more, Reaches}
use Rattle.machine.specs.MachineLaws.{clash}
use Rattle.walk.specs.Walk.{Walk, here, shifted, crossed}
use Rattle.walk.proofs.WalkLaws.{reaches-walk}
use Rattle.walk.specs.Scale.{plain}
use Rattle.walk.specs.Answer.{Unreached, Long, Sentence, Answer}
use Rattle.walk.specs.Shortest.{Shorter, Shortest, Before, differs, agrees}
use Rattle.walk.proofs.ShortestLaws.{answer-shortest}
use Rattle.walk.specs.Stars.{Line, number, pair, bracket, double, double_ranked, stars, LineHolds, All}

both : (a b : Bool) → (a && b) ≡ true → (a ≡ true) × (b ≡ true)
both true b e = (refl, e)
both false b e = absurd (false≢true e)

either : (a b : Bool) → (a || b) ≡ true → (a ≡ true) ⊎ (b ≡ true)
either true b e = inl refl
either false b e = inr e

untrue : (a : Bool) → not a ≡ true → a ≢ true
untrue true e i = false≢true e
untrue false e i = false≢true i

-- ---- finite searches
-- P holds of every number below n
upto : ℕ → (ℕ → Bool) → Bool
upto zero P = true
upto (suc n) P = P n && upto n P

upto_all : (n : ℕ) (P : ℕ → Bool) → upto n P ≡ true → (a : ℕ) → a < n → P a ≡ true
unfolding upto
upto_all zero P e a h = absurd (omega arith)
upto_all (suc n) P e a h = by_cases (ℕ_discrete a n)
    (λ i. rw i (both (P n) (upto n P) e).0)
    (λ i. upto_all n P (both (P n) (upto n P) e).1 a (omega arith))

-- P holds of every word of n symbols below t
every : ℕ → ℕ → (List ℕ → Bool) → Bool
every t zero P = P []
every t (suc n) P = upto t (λ a. every t n (λ v. P (a ∷ v)))

every-all : {B : Tables} (n : ℕ) (P : List ℕ → Bool) → every B.terminals n P ≡ true → {v : List ℕ} → Terminals B v → length v ≡ n → P v ≡ true
unfolding every
every-all zero P e none l = e
every-all zero P e (more h i t) l = absurd (omega arith)
every-all (suc n) P e none l = absurd (omega arith)
every-all {B} (suc n) P e (more {a} h i t) l =
    every-all n (λ v. P (a ∷ v)) (upto_all B.terminals (λ a. every B.terminals n (λ v. P (a ∷ v))) e a i) t (omega arith)

-- v is not earlier than w
module _ (rank : ℕ → ℕ) where
  later : List ℕ → List ℕ → Bool
  later [] v = true
  later (a ∷ w) [] = false
  later (a ∷ w) (b ∷ v) = ltb (rank a) (rank b) || (eqb a b && later w v)

  later-before : (w v : List ℕ) → later w v ≡ true → length w ≡ length v → v ≢ w → Before rank w v
  unfolding later
  later-before [] [] e l n = absurd (n refl)
  later-before [] (b ∷ v) e l n = absurd (omega arith)
  later-before (a ∷ w) [] e l n = absurd (omega arith)
  later-before (a ∷ w) (b ∷ v) e l n = ⊎_elim
      (λ h. differs (ltb-true (rank a) (rank b) h) (omega arith))
      (λ h. let (i, j) = both (eqb a b) (later w v) h in
      let k : b ≡ a = sym (eqb-true a b i) in
      rw k (agrees (later-before w v j (omega arith) (λ m. n (cc)))))
      (either (ltb (rank a) (rank b)) (eqb a b && later w v) e)

-- ---- running the machine on one word
-- the run from a stack and an input comes to s on top with z alone to come
abbrev Hit : Tables → ℕ → ℕ → List ℕ → List ℕ → Type 0
Hit B s z st u = (below : List ℕ) × Steps B st u (s ∷ below) (z ∷ [])

module _ (s z : ℕ) where
  -- s is on top and z alone is to come
  meets : List ℕ → List ℕ → Bool
  meets [] u = false
  meets (q ∷ st) [] = false
  meets (q ∷ st) (a ∷ []) = eqb q s && eqb a z
  meets (q ∷ st) (a ∷ b ∷ u) = false

  meets-there : (below : List ℕ) → meets (s ∷ below) (z ∷ []) ≡ true
  unfolding meets
  meets-there below = rw (eq-eqb s s refl, eq-eqb z z refl)

  meets-hit : (B : Tables) (st u : List ℕ) → meets st u ≡ true → Hit B s z st u
  unfolding meets
  meets-hit B [] u e = absurd (false≢true e)
  meets-hit B (q ∷ st) [] e = absurd (false≢true e)
  meets-hit B (q ∷ st) (a ∷ []) e =
      let (i, j) = both (eqb q s) (eqb a z) e in
      let k : q ≡ s = eqb-true q s i in
      let l : a ≡ z = eqb-true a z j in
      (st, rw (k, l) done)
  meets-hit B (q ∷ st) (a ∷ b ∷ u) e = absurd (false≢true e)

-- k of the configuration after a move, or `ended` where the run has ended
after : Bool → (List ℕ → List ℕ → Bool) → List ℕ → ℕ → List ℕ → Move → Bool
after ended k st a u accepts = ended
after ended k st a u fails = ended
after ended k st a u breaks = ended
after ended k st a u (shifts q) = k (q ∷ st) u
after ended k st a u (reduces st') = k st' (a ∷ u)

module _ (B : Tables) (s z : ℕ) where
  follow : Bool → (List ℕ → List ℕ → Bool) → List ℕ → List ℕ → Bool
  follow ended k st [] = ended
  follow ended k st (a ∷ u) = after ended k st a u (next B st a)

  -- within n steps the run comes to s on top with z alone to come ..
  hits : ℕ → List ℕ → List ℕ → Bool
  hits zero st u = false
  hits (suc n) st u = meets s z st u || follow false (hits n) st u

  -- .. or ends without
  misses : ℕ → List ℕ → List ℕ → Bool
  misses zero st u = false
  misses (suc n) st u = not (meets s z st u) && follow true (misses n) st u

  after-hit : (k : List ℕ → List ℕ → Bool) → ((st u : List ℕ) → k st u ≡ true → Hit B s z st u) → (st : List ℕ) (a : ℕ) (u : List ℕ) (m : Move)
      → next B st a ≡ m → after false k st a u m ≡ true → Hit B s z st (a ∷ u)
  unfolding after
  after-hit k f st a u accepts i e = absurd (false≢true e)
  after-hit k f st a u fails i e = absurd (false≢true e)
  after-hit k f st a u breaks i e = absurd (false≢true e)
  after-hit k f st a u (shifts q) i e = let (below, r) = f (q ∷ st) u e in (below, then (shift i) r)
  after-hit k f st a u (reduces st') i e = let (below, r) = f st' (a ∷ u) e in (below, then (reduce i) r)

  follow-hit : (k : List ℕ → List ℕ → Bool) → ((st u : List ℕ) → k st u ≡ true → Hit B s z st u) → (st u : List ℕ) → follow false k st u ≡ true → Hit B s z st u
  unfolding follow
  follow-hit k f st [] e = absurd (false≢true e)
  follow-hit k f st (a ∷ u) e = after-hit k f st a u (next B st a) refl e

  hits-hit : (n : ℕ) (st u : List ℕ) → hits n st u ≡ true → Hit B s z st u
  unfolding hits
  hits-hit zero st u e = absurd (false≢true e)
  hits-hit (suc n) st u e = ⊎_elim
      (λ i. meets-hit s z B st u i)
      (λ i. follow-hit (hits n) (λ st' u' j. hits-hit n st' u' j) st u i)
      (either (meets s z st u) (follow false (hits n) st u) e)

  misses-hit : (n : ℕ) {st u below : List ℕ} → misses n st u ≡ true → ¬ Steps B st u (s ∷ below) (z ∷ [])
  unfolding misses follow after
  misses-hit zero e r = false≢true e
  misses-hit (suc n) {below} e done = untrue (meets s z (s ∷ below) (z ∷ [])) (both _ _ e).0 (meets-there s z below)
  misses-hit (suc n) e (then (shift {st} {u} {a} f) r) = misses-hit n (rw f at (both (not (meets s z st (a ∷ u))) (follow true (misses n) st (a ∷ u)) e).1) r
  misses-hit (suc n) e (then (reduce {st} {u} {a} f) r) = misses-hit n (rw f at (both (not (meets s z st (a ∷ u))) (follow true (misses n) st (a ∷ u)) e).1) r

-- ---- the two kinds of answer
terminals? : ℕ → List ℕ → Bool
terminals? t [] = true
terminals? t (a ∷ w) = leb 1 a && (ltb a t && terminals? t w)

terminals-all : {B : Tables} (w : List ℕ) → terminals? B.terminals w ≡ true → Terminals B w
unfolding terminals?
terminals-all [] e = none
terminals-all {B} (a ∷ w) e =
    let (i, f) = both (leb 1 a) (ltb a B.terminals && terminals? B.terminals w) e in
    let (j, g) = both (ltb a B.terminals) (terminals? B.terminals w) f in
    more (leb-true 1 a i) (ltb-true a B.terminals j) (terminals-all w g)

module _ (B : Tables) (s z : ℕ) where
  -- a run of the books below takes fewer than 64 steps on each of the words
  missed : List ℕ → Bool
  missed w = misses B s z 64 (0 ∷ []) (w ++ (z ∷ []))

  missed-unreached : {w : List ℕ} → missed w ≡ true → ¬ Reaches B w z s
  unfolding missed
  missed-unreached e r = misses-hit B s z 64 e r.run

  -- w reaches the pair, no shorter word does, and none of its length that is earlier
  sentence? : (ℕ → ℕ) → List ℕ → Bool
  sentence? rank w =
      terminals? B.terminals w && (leb (length w) 1000 && (hits B s z 64 (0 ∷ []) (w ++ (z ∷ []))
      && (upto (length w) (λ n. every B.terminals n missed) && every B.terminals (length w) (λ v. later rank w v || missed v))))

  sentence-answer : (rank : ℕ → ℕ) (w : List ℕ) → sentence? rank w ≡ true → Shortest rank (λ v. Reaches B v z s) (Sentence w)
  unfolding sentence?
  sentence-answer rank w e =
      let (a, e₁) = both _ _ e in
      let (b, e₂) = both _ _ e₁ in
      let (c, e₃) = both _ _ e₂ in
      let (d, f) = both _ _ e₃ in
      let (below, r) = hits-hit B s z 64 (0 ∷ []) (w ++ (z ∷ [])) c in
      (record { terminals = terminals-all w a; below = below; run = r }, leb-true (length w) 1000 b, λ v x n. best d f v x n (dec_lt (length v) (length w)) (dec_lt (length w) (length v)))
    where
      best : upto (length w) (λ n. every B.terminals n missed) ≡ true → every B.terminals (length w) (λ v. later rank w v || missed v) ≡ true
          → (v : List ℕ) → Reaches B v z s → v ≢ w → Dec (length v < length w) → Dec (length w < length v) → Shorter rank w v
      best d f v x n (yes h) i = absurd (missed-unreached (every-all (length v) missed (upto_all (length w) _ d (length v) h) x.terminals refl) x)
      best d f v x n (no h) (yes i) = inl i
      best d f v x n (no h) (no i) =
          let l : length w ≡ length v = omega arith in
          ⊎_elim
          (λ j. inr (later-before rank w v j l n))
          (λ j. absurd (missed-unreached j x))
          (either (later rank w v) (missed v) (every-all (length w) (λ v. later rank w v || missed v) f x.terminals (sym l)))

shifts-to : ℕ → Action → Bool
shifts-to s Error = false
shifts-to s Accept = false
shifts-to s (Shift q) = eqb q s
shifts-to s (Reduce p) = false

reduces? : Action → Bool
reduces? Error = false
reduces? Accept = false
reduces? (Shift q) = false
reduces? (Reduce p) = true

-- no state reduces under z
unreduced? : Tables → ℕ → Bool
unreduced? B z = upto B.states (λ q. not (reduces? (B.act q z)))

-- no state shifts to s
unshifted? : Tables → ℕ → Bool
unshifted? B s = upto B.states (λ q. upto B.terminals (λ t. not (shifts-to s (B.act q t))))

-- so, where s is not the start, no transition leads to (s, z)
unreached? : Tables → ℕ → ℕ → Bool
unreached? B s z = not (eqb s 0) && (unreduced? B z && unshifted? B s)

no_shift : (cells : List ℕ) (s : ℕ) → unshifted? (tables_of cells) s ≡ true → (q t : ℕ) → (tables_of cells).act q t ≢ Shift s
unfolding unshifted? shifts-to tables_of
no_shift cells s e q t f =
    let B = tables_of cells in
    let (h, i) = act-range cells q t (λ k. clash (cc)) in
    let x = upto_all B.terminals (λ t. not (shifts-to s (B.act q t))) (upto_all B.states _ e q h) t i in
    untrue (eqb s s) (rw f at x) (eq-eqb s s refl)

no-reduce : (cells : List ℕ) (z : ℕ) → unreduced? (tables_of cells) z ≡ true → (q p : ℕ) → (tables_of cells).act q z ≢ Reduce p
unfolding unreduced? reduces? tables_of
no-reduce cells z e q p f =
    let B = tables_of cells in
    let (h, i) = act-range cells q z (λ k. clash (cc)) in
    let x = upto_all B.states (λ q. not (reduces? (B.act q z))) e q h in
    false≢true (rw f at x)

no_walk : {q a z n s : ℕ} {w : List ℕ} (cells : List ℕ) → s ≢ q → unreduced? (tables_of cells) z ≡ true → unshifted? (tables_of cells) s ≡ true
    → ¬ Walk (tables_of cells) q a w z n s
no_walk cells h i j here = h refl
no_walk {s} cells h i j (shifted {t} {q₁} z r f) = no_shift cells s j q₁ t f
no_walk {z} cells h i j (crossed {q₂} {p} r r' f l g) = no-reduce cells z i q₂ p f

unreached-answer : (cells : List ℕ) (s z : ℕ) → unreached? (tables_of cells) s z ≡ true → Answer plain (rank_of cells) (tables_of cells) s z Unreached
unfolding unreached?
unreached-answer cells s z e w r =
    let B = tables_of cells in
    let (h, k) = both (not (eqb s 0)) (unreduced? B z && unshifted? B s) e in
    let (i, j) = both (unreduced? B z) (unshifted? B s) k in
    no_walk cells (λ n. untrue (eqb s 0) h (eq-eqb s 0 n)) i j (reaches-walk r).1

-- ---- numbers
same? : Number → Number → Bool
same? (Ok (n, c)) (Ok (m, d)) = eqb n m && eqb c.at d.at
same? (Ok (n, c)) (Err r) = false
same? (Err r) (Ok (m, d)) = false
same? (Err r) (Err q) = eqb (number_of r.cause) (number_of q.cause) && eqb r.place q.place

same : (x y : Number) → same? x y ≡ true → x ≡ y
unfolding same?
same (Ok (n, c)) (Ok (m, d)) e =
    let (i, j) = both (eqb n m) (eqb c.at d.at) e in
    ap₂ value (eqb-true n m i) (eqb-true c.at d.at j)
same (Ok (n, c)) (Err r) e = absurd (false≢true e)
same (Err r) (Ok (m, d)) e = absurd (false≢true e)
same (Err r) (Err q) e =
    let (i, j) = both (eqb (number_of r.cause) (number_of q.cause)) (eqb r.place q.place) e in
    ap₂ refusal (number-one r.cause q.cause (eqb-true (number_of r.cause) (number_of q.cause) i)) (eqb-true r.place q.place j)

-- ---- the table
right? : Line → Bool
right? (number bytes r) = same? (number_at bytes 0) r
right? (pair cells s z Unreached) = unreached? (tables_of cells) s z
right? (pair cells s z Long) = false
right? (pair cells s z (Sentence w)) = sentence? (tables_of cells) s z (rank_of cells) w

right-holds : (l : Line) → right? l ≡ true → LineHolds l
unfolding right?
right-holds (number bytes r) e = same (number_at bytes 0) r e
right-holds (pair cells s z Unreached) e = unreached-answer cells s z e
right-holds (pair cells s z Long) e = absurd (false≢true e)
right-holds (pair cells s z (Sentence w)) e = (answer-shortest (rank_of cells) (tables_of cells) s z (Sentence w)).1 (sentence-answer (tables_of cells) s z (rank_of cells) w e)

all-right? : List Line → Bool
all-right? [] = true
all-right? (l ∷ ls) = right? l && all-right? ls

all_right : (ls : List Line) → all-right? ls ≡ true → All ls
unfolding all-right?
all_right [] e = tt
all_right (l ∷ ls) e = let (i, j) = both (right? l) (all-right? ls) e in (right-holds l i, all_right ls j)

-- every line holds
pub stars-hold : All stars
unfolding stars bracket double double_ranked all-right? right? same? number_at first second third sentence? unreached? unreduced? unshifted? tables_of rank_of sizes_of action_of next missed hits misses follow after meets terminals? upto every later shifts-to reduces?
stars-hold = all_right stars refl

-- ---- the small books are books, in cells and, as each number is below 128, in bytes
abbrev pub Both : List ℕ → Sizes → Type 0
Both book d = (checked (of_cells book) ≡ Ok d) × (checked (of_bytes book) ≡ Ok d)

pub bracket-accepted : Both bracket (record { form = 1; t = 4; n = 1; s = 6; p = 2 }) × (length bracket ≡ 39)
unfolding bracket of_cells of_bytes book_in row parts_in cell_at number_at first fault fault_cause fits allowed action_of sizes_of
bracket-accepted = ((refl, refl), refl)

pub double-accepted : Both double (record { form = 1; t = 3; n = 2; s = 8; p = 4 }) × (length double ≡ 53)
unfolding double of_cells of_bytes book_in row parts_in cell_at number_at first fault fault_cause fits allowed action_of sizes_of
double-accepted = ((refl, refl), refl)

pub ranked-accepted : Both double_ranked (record { form = 2; t = 3; n = 2; s = 8; p = 4 }) × (length double_ranked ≡ 56)
unfolding double_ranked of_cells of_bytes book_in row parts_in cell_at number_at first fault fault_cause fits allowed action_of sizes_of
ranked-accepted = ((refl, refl), refl)
