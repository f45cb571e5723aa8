-- Laws of the entries in turn: which have no fault, that a state has an entry only by a run, and those that fail in one. Assumes nothing.
use Rattle.std.specs.Prelude.{Bool, true, false, cond, ◌&&◌, ◌||◌, List, [], ◌∷◌, ◌⊎◌, ◌≡◌, refl, ℕ, suc, eqb, length}
use Rattle.std.proofs.Common.{inl, inr, ⊎_elim, eqb-true}
use Rattle.book.specs.Range.{among}
use Rattle.book.specs.Tables.{Tables}
use Rattle.machine.specs.MachineLaws.{clash}
use Rattle.items.specs.Items.{Item}
use Rattle.course.specs.Course.{run_of, is_right, state_in, Course, fault, clean, is_lower, course}
use Rattle.course.specs.CourseLaws.{right-ends, Right, Passes, Has, first, later}
use Rattle.course.specs.declared.Judgement.{Judgement}

tests-pass : (r l a : Bool) (h j k : Judgement) {c : Course} {out : List ℕ} → cond r (cond l (fault h) (cond a (fault j) c)) (fault k) ≡ clean out
    → (r ≡ true) × (l ≡ false) × (a ≡ false) × (c ≡ clean out)
tests-pass true false false h j k e = (refl, refl, refl, e)
tests-pass true false true h j k e = absurd (clash cc)
tests-pass true true a h j k e = absurd (clash cc)
tests-pass false l a h j k e = absurd (clash cc)

module _ (ordered : Bool) (B : Tables) (i : ℕ) (ss : List ℕ) (x : Item) (xs : List Item) where
  pub course-passes : {out : List ℕ} → course ordered B i ss (x ∷ xs) ≡ clean out → Passes ordered B ss x × (course ordered B (suc i) (state_in B x ∷ ss) xs ≡ clean out)
  unfolding course
  course-passes e =
      let (r, l, a, c) = tests-pass (is_right (length x.symbols) (run_of B x)) (ordered && is_lower (state_in B x) ss) (among (state_in B x) ss) _ _ _ e in
      (record { right = r; upward = l; fresh = a }, c)

  pub passes-course : Passes ordered B ss x → course ordered B i ss (x ∷ xs) ≡ course ordered B (suc i) (state_in B x ∷ ss) xs
  unfolding course
  passes-course p = rw (p.right, p.upward, p.fresh)

either : (a b : Bool) → (a || b) ≡ true → (a ≡ true) ⊎ (b ≡ true)
either true b e = inl refl
either false b e = inr e

pub clean-has : (ordered : Bool) (B : Tables) (s i : ℕ) (states : List ℕ) (xs : List Item) (out : List ℕ) → course ordered B i states xs ≡ clean out → among s out ≡ true
    → (among s states ≡ true) ⊎ Has B s xs
unfolding course
clean-has ordered B s i states [] out e h = let same : states ≡ out = cc in inl (rw same h)
clean-has ordered B s i states (x ∷ xs) out e h =
    let (p, c) = course-passes ordered B i states x xs e in
    ⊎_elim (λ y. here p.right (either (eqb s (state_in B x)) (among s states) y)) (λ y. inr (later y)) (clean-has ordered B s (suc i) (state_in B x ∷ states) xs out c h)
  where
    here : Right B x → (eqb s (state_in B x) ≡ true) ⊎ (among s states ≡ true) → (among s states ≡ true) ⊎ Has B s (x ∷ xs)
    here r (inl f) = let same : s ≡ state_in B x = eqb-true s (state_in B x) f in inr (first {x = x} (rw same (right-ends B x (run_of B x) refl r)))
    here r (inr f) = inl f
