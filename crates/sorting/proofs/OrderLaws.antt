-- Laws of state order: it keeps the entries, has no fault where they had none, and is the one order that has none. Assumes nothing.
use Rattle.std.specs.Prelude.{Bool, ◌||◌, ◌≡◌}
use Rattle.std.proofs.Math.Bool.{true, false, false≢true}
use mathlib.Core.List.{List, [], ◌∷◌, ◌++◌}
use Rattle.std.proofs.Math.Path.{refl, ap}
use Rattle.std.proofs.Common.{sym, ◌∙◌, arith, eq-eqb, eqb-true}
use Prim.Native.Nat.{ℕ, zero, suc, ◌+◌, ◌≤◌, ◌<◌}
use Rattle.std.proofs.Math.Decide.{ℕ_discrete}
use Rattle.std.proofs.Math.Dec.{eqb}
use Rattle.book.specs.Range.{among}
use Rattle.book.specs.Tables.{Tables}
use Rattle.book.specs.TablesLaws.{InRange}
use Rattle.machine.specs.AdmissionLaws.{sound-all}
use Rattle.machine.specs.MachineLaws.{clash}
use Rattle.machine.specs.RunLaws.{sound-terminals}
use Rattle.items.specs.Items.{Item}
use Rattle.items.specs.Rearranged.{Rearranged, none as empty, same, swapped, then}
use Rattle.items.specs.RearrangedLaws.{rearranged-refl, rearranged-append, rearranged-middle}
use Rattle.items.specs.Valid.{AllValid, none as no_item, more as valid-more}
use Rattle.course.specs.Course.{state_in, in_state, clean, course}
use Rattle.course.specs.CourseLaws.{Right, in-state-here, in-state-other}
use Rattle.course.proofs.CourseLaws.{course-passes, passes-course}
use Rattle.course.specs.EntryLaws.{item-below}
use Rattle.sorting.specs.Sorting.{statewise, by_state}
use Rattle.sorting.specs.StatewiseLaws.{Ascending, ended, above, Single, none as nothing, one}
use Rattle.sorting.proofs.StatewiseLaws.{statewise-same, ascending-past, clean-ascending, statewise-clean}
use Rattle.sorting.specs.OrderLaws.{AllBelow, none, more}

pub none-past : {B : Tables} {k : ℕ} {xs : List Item} (s : ℕ) → k ≤ s → AllBelow B k xs → in_state B s xs ≡ []
unfolding in_state
none-past s h none = refl
none-past {B} s h (more {x} {xs} l b) = in-state-other B s x xs (λ e. omega (arith, e)) ∙ none-past s h b

module _ (B : Tables) where
  -- ---- the same entries
  by-state-none : (k s : ℕ) → by_state B [] k s ≡ []
  unfolding statewise in_state
  by-state-none zero s = refl
  by-state-none (suc k) s = by-state-none k (suc s)

  -- an entry that fails in a lower state
  by-state-past : (x : Item) (xs : List Item) (k s : ℕ) → state_in B x < s → by_state B (x ∷ xs) k s ≡ by_state B xs k s
  by-state-past x xs k s h = statewise-same (λ q. in_state B q (x ∷ xs)) (λ q. in_state B q xs) k s (λ q l m. in-state-other B q x xs (λ e. omega (arith, e)))

  by-state-more : (x : Item) (xs : List Item) (k s : ℕ) → s ≤ state_in B x → state_in B x < s + k → Rearranged (x ∷ by_state B xs k s) (by_state B (x ∷ xs) k s)
  unfolding statewise
  by-state-more x xs zero s l h = absurd (omega arith)
  by-state-more x xs (suc k) s l h = go (ℕ_discrete (state_in B x) s) (λ m. by-state-more x xs k (suc s) m (omega arith))
    where
      go : Dec (state_in B x ≡ s) → (suc s ≤ state_in B x → Rearranged (x ∷ by_state B xs k (suc s)) (by_state B (x ∷ xs) k (suc s)))
          → Rearranged (x ∷ (in_state B s xs ++ by_state B xs k (suc s))) (in_state B s (x ∷ xs) ++ by_state B (x ∷ xs) k (suc s))
      go (yes e) r = rw (in-state-here B s x xs e, by-state-past x xs k (suc s) (omega (arith, e))) (rearranged-refl (x ∷ (in_state B s xs ++ by_state B xs k (suc s))))
      go (no n) r =
          rw (in-state-other B s x xs n)
          (then (rearranged-middle x (in_state B s xs) (by_state B xs k (suc s))) (rearranged-append (rearranged-refl (in_state B s xs)) (r (omega arith))))

pub by-state-rearranged : {B : Tables} {k : ℕ} {xs : List Item} → AllBelow B k xs → Rearranged xs (by_state B xs k 0)
by-state-rearranged {B} {k} none = rw (by-state-none B k 0) empty
by-state-rearranged {B} {k} (more {x} {xs} h a) = then (same (by-state-rearranged a)) (by-state-more B x xs k 0 (omega arith) (omega arith))

-- where order counts, no more is faultless
pub ordered-free : (B : Tables) (i : ℕ) (ss : List ℕ) (xs : List Item) {out : List ℕ} → course true B i ss xs ≡ clean out → course false B i ss xs ≡ clean out
unfolding course
ordered-free B i ss [] e = e
ordered-free B i ss (x ∷ xs) e =
    let (p, c) = course-passes true B i ss x xs e in
    passes-course false B i ss x xs (record { right = p.right; upward = refl; fresh = p.fresh }) ∙ ordered-free B (suc i) (state_in B x ∷ ss) xs c

-- ---- entries that are right, no two in one state
data Apart (B : Tables) : List Item → Type 0 where
  alone : Apart B []
  apart : {x : Item} {xs : List Item} → Right B x → in_state B (state_in B x) xs ≡ [] → Apart B xs → Apart B (x ∷ xs)

-- no entry fails in one of the states
abbrev Free : Tables → List ℕ → List Item → Type 0
Free B ss xs = (s : ℕ) → among s ss ≡ true → in_state B s xs ≡ []

among-here : (s : ℕ) (ss : List ℕ) → among s (s ∷ ss) ≡ true
among-here s ss = rw (eq-eqb s s refl)

among_later : (s t : ℕ) (ss : List ℕ) → among s ss ≡ true → among s (t ∷ ss) ≡ true
among_later s t ss h = go (eqb s t)
  where
    go : (b : Bool) → (b || among s ss) ≡ true
    go true = refl
    go false = h

module _ (B : Tables) where
  in-state-free : (s : ℕ) (x : Item) (xs : List Item) → in_state B s (x ∷ xs) ≡ [] → ¬ (state_in B x ≡ s) × (in_state B s xs ≡ [])
  in-state-free s x xs e = go (ℕ_discrete (state_in B x) s)
    where
      go : Dec (state_in B x ≡ s) → ¬ (state_in B x ≡ s) × (in_state B s xs ≡ [])
      go (yes h) = absurd (clash (cc (in-state-here B s x xs h)))
      go (no h) = (h, sym (in-state-other B s x xs h) ∙ e)

  course-apart : (i : ℕ) (ss : List ℕ) (xs : List Item) {out : List ℕ} → course false B i ss xs ≡ clean out → Apart B xs × Free B ss xs
  unfolding in_state
  course-apart i ss [] e = (alone, λ s h. refl)
  course-apart i ss (x ∷ xs) e =
      let (p, c) = course-passes false B i ss x xs e in
      let (a, f) = course-apart (suc i) (state_in B x ∷ ss) xs c in (
        apart p.right (f (state_in B x) (among-here (state_in B x) ss)) a,
        λ s h. in-state-other B s x xs (λ q. false≢true (sym p.fresh ∙ ap (λ (v : ℕ). among v ss) q ∙ h)) ∙ f s (among_later s (state_in B x) ss h),
      )

  apart-course : (i : ℕ) (ss : List ℕ) {xs : List Item} → Apart B xs → Free B ss xs → (out : List ℕ) × (course false B i ss xs ≡ clean out)
  unfolding course
  apart-course i ss alone f = (ss, refl)
  apart-course i ss (apart {x} {xs} r n a) f =
      let (out, c) = apart-course (suc i) (state_in B x ∷ ss) a (λ s h. go s (eqb s (state_in B x)) refl h) in
      (out, passes-course false B i ss x xs (record { right = r; upward = refl; fresh = fresh (among (state_in B x) ss) refl }) ∙ c)
    where
      go : (s : ℕ) (b : Bool) → eqb s (state_in B x) ≡ b → (b || among s ss) ≡ true → in_state B s xs ≡ []
      go s true e h = rw (eqb-true s (state_in B x) e) n
      go s false e h = (in-state-free s x xs (f s h)).1

      fresh : (b : Bool) → among (state_in B x) ss ≡ b → b ≡ false
      fresh true e = absurd ((in-state-free (state_in B x) x xs (f (state_in B x) e)).0 refl)
      fresh false e = refl

  -- entries of a list that are right fail in states of the book
  apart_below : {xs : List Item} → InRange B → AllValid B.terminals xs → Apart B xs → AllBelow B B.states xs
  apart_below i no_item alone = none
  apart_below i (valid-more {x} v vs) (apart r n a) =
      more (item-below x i (sound-terminals B x.symbols (sound-all B.terminals x.symbols v.symbol)) r) (apart_below i vs a)

  pub clean-below : {xs : List Item} {out : List ℕ} → InRange B → AllValid B.terminals xs → course false B 0 [] xs ≡ clean out → AllBelow B B.states xs
  clean-below {xs} i v c = apart_below i v (course-apart 0 [] xs c).0

  -- ---- in another order
  in-state-rearranged : (s : ℕ) {xs ys : List Item} → Rearranged xs ys → in_state B s xs ≡ [] → in_state B s ys ≡ []
  in-state-rearranged s empty e = e
  in-state-rearranged s (same {x} {xs} {ys} r) e =
      let (n, f) = in-state-free s x xs e in
      in-state-other B s x ys n ∙ in-state-rearranged s r f
  in-state-rearranged s (swapped {x} {y} {xs} {ys} r) e =
      let (n, f) = in-state-free s x (y ∷ xs) e in
      let (m, g) = in-state-free s y xs f in
      in-state-other B s y (x ∷ ys) m ∙ in-state-other B s x ys n ∙ in-state-rearranged s r g
  in-state-rearranged s (then p r) e = in-state-rearranged s r (in-state-rearranged s p e)

  rearranged-apart : {xs ys : List Item} → Rearranged xs ys → Apart B xs → Apart B ys
  rearranged-apart empty a = a
  rearranged-apart (same {x} {xs} {ys} r) (apart p n a) = apart p (in-state-rearranged (state_in B x) r n) (rearranged-apart r a)
  rearranged-apart (swapped {x} {y} {xs} {ys} r) (apart p n (apart q m a)) =
      let (d, f) = in-state-free (state_in B x) y xs n in
      apart q (in-state-other B (state_in B y) x ys (λ e. d (sym e)) ∙ in-state-rearranged (state_in B y) r m)
      (apart p (in-state-rearranged (state_in B x) r f) (rearranged-apart r a))
  rearranged-apart (then p r) a = rearranged-apart r (rearranged-apart p a)

  pub rearranged-clean : {xs ys : List Item} {out : List ℕ} → Rearranged xs ys → course false B 0 [] xs ≡ clean out → (more : List ℕ) × (course false B 0 [] ys ≡ clean more)
  rearranged-clean {xs} {ys} r c = apart-course 0 [] (rearranged-apart r (course-apart 0 [] xs c).0) (λ s h. absurd (false≢true h))

  in-state-same : (s : ℕ) {xs ys : List Item} → Rearranged xs ys → Apart B xs → in_state B s xs ≡ in_state B s ys
  in-state-same s empty a = refl
  in-state-same s (same {x} {xs} {ys} r) (apart p n a) = go (ℕ_discrete (state_in B x) s) (in-state-same s r a)
    where
      go : Dec (state_in B x ≡ s) → in_state B s xs ≡ in_state B s ys → in_state B s (x ∷ xs) ≡ in_state B s (x ∷ ys)
      go (yes e) f = rw (in-state-here B s x xs e, in-state-here B s x ys e, f)
      go (no d) f = rw (in-state-other B s x xs d, in-state-other B s x ys d, f)
  in-state-same s (swapped {x} {y} {xs} {ys} r) (apart p n (apart q m a)) = go (ℕ_discrete (state_in B x) s) (ℕ_discrete (state_in B y) s) (in-state-same s r a)
    where
      go : Dec (state_in B x ≡ s) → Dec (state_in B y ≡ s) → in_state B s xs ≡ in_state B s ys → in_state B s (x ∷ y ∷ xs) ≡ in_state B s (y ∷ x ∷ ys)
      go (yes e) (yes d) f = absurd ((in-state-free (state_in B x) y xs n).0 (d ∙ sym e))
      go (yes e) (no d) f = rw (in-state-here B s x (y ∷ xs) e, in-state-other B s y xs d, in-state-other B s y (x ∷ ys) d, in-state-here B s x ys e, f)
      go (no e) (yes d) f = rw (in-state-other B s x (y ∷ xs) e, in-state-here B s y xs d, in-state-here B s y (x ∷ ys) d, in-state-other B s x ys e, f)
      go (no e) (no d) f = rw (in-state-other B s x (y ∷ xs) e, in-state-other B s y xs d, in-state-other B s y (x ∷ ys) d, in-state-other B s x ys e, f)
  in-state-same s (then p r) a = in-state-same s p a ∙ in-state-same s r (rearranged-apart p a)

  pub rearranged-sorted : {xs ys : List Item} {out : List ℕ} → Rearranged xs ys → course false B 0 [] xs ≡ clean out → (k : ℕ) → by_state B xs k 0 ≡ by_state B ys k 0
  rearranged-sorted {xs} {ys} r c k =
      statewise-same (λ s. in_state B s xs) (λ s. in_state B s ys) k 0 (λ s l h. in-state-same s r (course-apart 0 [] xs c).0)

-- ---- entries without a fault have at most one for each state
module _ (B : Tables) where
  in-state-single : (s : ℕ) {xs : List Item} → Apart B xs → Single B s (in_state B s xs)
  unfolding in_state
  in-state-single s alone = nothing
  in-state-single s (apart {x} {xs} r n a) = go (ℕ_discrete (state_in B x) s) (in-state-single s a)
    where
      go : Dec (state_in B x ≡ s) → Single B s (in_state B s xs) → Single B s (in_state B s (x ∷ xs))
      go (yes e) f = rw (in-state-here B s x xs e, ← e, n) (one r refl)
      go (no d) f = rw (in-state-other B s x xs d) f

  pub clean-single : (xs : List Item) {states : List ℕ} → course false B 0 [] xs ≡ clean states → (s : ℕ) → Single B s (in_state B s xs)
  clean-single xs c s = in-state-single s (course-apart B 0 [] xs c).0

  -- and are without one too when they are brought into state order, where order counts
  pub sorted-clean : (xs : List Item) {states : List ℕ} (k : ℕ) → course false B 0 [] xs ≡ clean states → (out : List ℕ) × (course true B 0 [] (by_state B xs k 0) ≡ clean out)
  sorted-clean xs k c = statewise-clean B (λ s. in_state B s xs) (clean-single xs c) k

  -- ---- entries that ascend are in state order
  ascending-kept : (k : ℕ) {s n : ℕ} {xs : List Item} → n ≤ s + k → Ascending B s xs → AllBelow B n xs → by_state B xs k s ≡ xs
  unfolding statewise
  ascending-kept zero h ended none = refl
  ascending-kept zero h (above r l a) (more m b) = absurd (omega arith)
  ascending-kept (suc k) {s} h ended none = by-state-none B (suc k) s
  ascending-kept (suc k) {s} {n} h (above {x} {xs} r l a) (more m b) =
      go (ℕ_discrete (state_in B x) s) (λ (ys : List Item) f g. ascending-kept k {s = suc s} {n = n} {xs = ys} (omega arith) f g)
    where
      go : Dec (state_in B x ≡ s) → ((ys : List Item) → Ascending B (suc s) ys → AllBelow B n ys → by_state B ys k (suc s) ≡ ys)
          → in_state B s (x ∷ xs) ++ by_state B (x ∷ xs) k (suc s) ≡ x ∷ xs
      go (yes e) f =
          rw (in-state-here B s x xs e, ascending-past B s (omega (arith, e)) a, by-state-past B x xs k (suc s) (omega (arith, e)))
          (ap (λ (l : List Item). x ∷ l) (f xs (rw e at a) b))
      go (no d) f =
          let up : Ascending B (suc s) (x ∷ xs) = above {s = suc s} {x = x} r (omega (arith, d)) a in
          rw (ascending-past B s (omega arith) up) (f (x ∷ xs) up (more m b))

  -- entries that are in order stay as they are
  pub ordered-kept : {xs : List Item} {out : List ℕ} → AllBelow B B.states xs → course true B 0 [] xs ≡ clean out → by_state B xs B.states 0 ≡ xs
  ordered-kept {xs} b c = ascending-kept B.states (omega arith) (clean-ascending B c) b
