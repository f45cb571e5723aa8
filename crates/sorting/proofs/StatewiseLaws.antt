-- Laws of what is taken for each state: on what it depends, and that it is in state order where each state has at most one right entry. Assumes nothing.
use Rattle.std.specs.Prelude.{Bool, false, ◌||◌, ◌≡◌, length}
use Rattle.std.proofs.Math.Bool.{true}
use Rattle.std.proofs.lemmas.Bool.{false≢true}
use mathlib.Core.List.{List, [], ◌∷◌, ◌++◌, append_assoc, append-nil}
use Rattle.std.proofs.Math.Path.{refl, sym}
use Rattle.std.proofs.Common.{◌∙◌, ap, add-zero, le_trans, eq-eqb, ne_eqb, le-ltb, ltb-false}
use Prim.Native.Nat.{ℕ, zero, suc, ◌+◌, ◌≤◌, ◌<◌}
use Rattle.std.proofs.Math.Decide.{ℕ_discrete}
use native.Mathlib.Omega.{arith}
use Rattle.std.proofs.Math.ListN.{length-append}
use Rattle.book.specs.Range.{among}
use Rattle.book.specs.Tables.{Tables}
use Rattle.items.specs.Items.{Item}
use Rattle.items.specs.Valid.{AllValid, none as no_item, more as valid-more}
use Rattle.course.specs.Course.{state_in, in_state, clean, is_lower, course}
use Rattle.course.specs.CourseLaws.{in-state-append, in-state-here, in-state-other}
use Rattle.course.proofs.CourseLaws.{course-passes, passes-course}
use Rattle.sorting.specs.Sorting.{statewise}
use Rattle.sorting.specs.StatewiseLaws.{Ascending, ended, above, Single, none, one}

-- ---- it depends on the states in question alone
pub statewise-same : (f g : ℕ → List Item) (k s : ℕ) → ((q : ℕ) → s ≤ q → q < s + k → f q ≡ g q) → statewise f k s ≡ statewise g k s
unfolding statewise
statewise-same f g zero s e = refl
statewise-same f g (suc k) s e = rw (e s (omega arith) (omega arith), statewise-same f g k (suc s) (λ q l h. e q (omega arith) (omega arith)))

-- ---- what is taken for one state more
pub statewise-last : (f : ℕ → List Item) (k s : ℕ) → statewise f (suc k) s ≡ statewise f k s ++ f (s + k)
unfolding statewise
statewise-last f zero s = rw add-zero (append-nil (f s))
statewise-last f (suc k) s =
    let next : suc s + k ≡ s + suc k = omega arith in
    rw append_assoc (ap (λ (l : List Item). f s ++ l) (statewise-last f k (suc s) ∙ ap (λ (n : ℕ). statewise f k (suc s) ++ f n) next))

-- ---- a list can have it
valid-append : {t : ℕ} {xs ys : List Item} → AllValid t xs → AllValid t ys → AllValid t (xs ++ ys)
valid-append no_item v = v
valid-append (valid-more h u) v = valid-more h (valid-append u v)

pub statewise-valid : {t : ℕ} (f : ℕ → List Item) → ((s : ℕ) → AllValid t (f s)) → (k s : ℕ) → AllValid t (statewise f k s)
unfolding statewise
statewise-valid f v zero s = no_item
statewise-valid f v (suc k) s = valid-append (v s) (statewise-valid f v k (suc s))

pub in-state-valid : {t : ℕ} {xs : List Item} (B : Tables) (s : ℕ) → AllValid t xs → AllValid t (in_state B s xs)
unfolding in_state
in-state-valid B s no_item = no_item
in-state-valid {t} B s (valid-more {x} {xs} h v) = go (ℕ_discrete (state_in B x) s) (in-state-valid B s v)
  where
    go : Dec (state_in B x ≡ s) → AllValid t (in_state B s xs) → AllValid t (in_state B s (x ∷ xs))
    go (yes e) u = rw (in-state-here B s x xs e) (valid-more h u)
    go (no n) u = rw (in-state-other B s x xs n) u

ascending-from : {B : Tables} {s t : ℕ} {xs : List Item} → s ≤ t → Ascending B t xs → Ascending B s xs
ascending-from h ended = ended
ascending-from h (above r l a) = above r (le_trans h l) a

pub ascending-past : (B : Tables) (s : ℕ) {t : ℕ} {xs : List Item} → s < t → Ascending B t xs → in_state B s xs ≡ []
unfolding in_state
ascending-past B s h ended = refl
ascending-past B s h (above {x} {xs} r l a) = in-state-other B s x xs (λ e. omega (arith, e)) ∙ ascending-past B s (omega arith) a

-- after entries that fail in these states
abbrev least_after : List ℕ → ℕ
least_after [] = 0
least_after (s ∷ ss) = suc s

above-last : (s : ℕ) (ss : List ℕ) → is_lower s ss ≡ false → among s ss ≡ false → least_after ss ≤ s
above-last s [] l a = omega arith
above-last s (t ∷ ss) l a = go (ℕ_discrete s t)
  where
    go : Dec (s ≡ t) → suc t ≤ s
    go (yes e) = absurd (false≢true (sym a ∙ ap (λ (b : Bool). b || among s ss) (eq-eqb s t e)))
    go (no n) = omega (arith, ltb-false s t l)

-- no state from one on is among these, nor is one lower than the last
record Past (least : ℕ) (ss : List ℕ) : Type 0 where
  pub upward : (s : ℕ) → least ≤ s → is_lower s ss ≡ false
  pub fresh : (s : ℕ) → least ≤ s → among s ss ≡ false

past_more : {least : ℕ} {ss : List ℕ} (t : ℕ) → least ≤ t → Past least ss → Past (suc t) (t ∷ ss)
past_more t l p = record {
  upward = λ s h. le-ltb s t (omega arith);
  fresh = λ s h. rw (ne_eqb s t (λ e. omega (arith, e))) (p.fresh s (omega arith));
}

module _ (B : Tables) where
  course-ascending : (i : ℕ) (ss : List ℕ) (xs : List Item) {out : List ℕ} → course true B i ss xs ≡ clean out → Ascending B (least_after ss) xs
  course-ascending i ss [] e = ended
  course-ascending i ss (x ∷ xs) e =
      let (p, c) = course-passes true B i ss x xs e in
      above p.right (above-last (state_in B x) ss p.upward p.fresh) (course-ascending (suc i) (state_in B x ∷ ss) xs c)

  ascending-course : (i : ℕ) {least : ℕ} {ss : List ℕ} {xs : List Item} → Past least ss → Ascending B least xs → (out : List ℕ) × (course true B i ss xs ≡ clean out)
  unfolding course
  ascending-course i {least} {ss} p ended = (ss, refl)
  ascending-course i {least} {ss} p (above {s} {x} {xs} r l a) =
      let (out, c) = ascending-course (suc i) (past_more (state_in B x) l p) a in
      (out, passes-course true B i ss x xs (record { right = r; upward = p.upward (state_in B x) l; fresh = p.fresh (state_in B x) l }) ∙ c)

  -- they are those without a fault
  pub clean-ascending : {xs : List Item} {out : List ℕ} → course true B 0 [] xs ≡ clean out → Ascending B 0 xs
  clean-ascending {xs} c = course-ascending 0 [] xs c

  pub ascending-clean : {xs : List Item} → Ascending B 0 xs → (out : List ℕ) × (course true B 0 [] xs ≡ clean out)
  ascending-clean a = ascending-course 0 (record { upward = λ s h. refl; fresh = λ s h. refl }) a

module _ {B : Tables} {s : ℕ} where
  single-length : {xs : List Item} → Single B s xs → length xs ≤ 1
  single-length none = omega arith
  single-length (one r e) = omega arith

  single-here : {xs : List Item} → Single B s xs → in_state B s xs ≡ xs
  unfolding in_state
  single-here none = refl
  single-here (one {x} r e) = in-state-here B s x [] e

  single-other : (q : ℕ) {xs : List Item} → ¬ (s ≡ q) → Single B s xs → in_state B q xs ≡ []
  unfolding in_state
  single-other q n none = refl
  single-other q n (one {x} r e) = in-state-other B q x [] (λ f. n (sym e ∙ f))

  single-ascends : {xs ys : List Item} → Single B s xs → Ascending B (suc s) ys → Ascending B s (xs ++ ys)
  single-ascends none a = ascending-from (omega arith) a
  single-ascends (one {x} r e) a = above {s = s} {x = x} r (omega (arith, e)) (rw (← e) at a)

-- ---- where each state has at most one
module _ (B : Tables) (f : ℕ → List Item) (single : (s : ℕ) → Single B s (f s)) where
  statewise-ascends : (k s : ℕ) → Ascending B s (statewise f k s)
  unfolding statewise
  statewise-ascends zero s = ended
  statewise-ascends (suc k) s = single-ascends (single s) (statewise-ascends k (suc s))

  -- the order holds, and no state is there twice
  pub statewise-clean : (k : ℕ) → (out : List ℕ) × (course true B 0 [] (statewise f k 0) ≡ clean out)
  statewise-clean k = ascending-clean B (statewise-ascends k 0)

  pub statewise-length : (k s : ℕ) → length (statewise f k s) ≤ k
  unfolding statewise
  statewise-length zero s = omega arith
  statewise-length (suc k) s = rw length-append (omega (arith, single-length (single s), statewise-length k (suc s)))

  -- each state from s on has what was taken for it, if no more was taken after k states
  pub statewise-in-state : (k s q : ℕ) → s ≤ q → (s + k ≤ q → f q ≡ []) → in_state B q (statewise f k s) ≡ f q
  unfolding statewise in_state
  statewise-in-state zero s q l h = sym (h (omega arith))
  statewise-in-state (suc k) s q l h =
      in-state-append B q (f s) (statewise f k (suc s)) ∙ go (ℕ_discrete s q) (λ m. statewise-in-state k (suc s) q m (λ n. h (omega arith)))
    where
      go : Dec (s ≡ q) → (suc s ≤ q → in_state B q (statewise f k (suc s)) ≡ f q) → in_state B q (f s) ++ in_state B q (statewise f k (suc s)) ≡ f q
      go (yes e) r = rw (e, single-here (single q), ascending-past B q (omega arith) (statewise-ascends k (suc q)), append-nil)
      go (no n) r = rw (single-other q n (single s)) (r (omega arith))
