-- Laws of the entries of two lists joined: one for each state that either list covers, in state order and without a fault. Assumes nothing.
use Rattle.std.specs.Prelude.{Bool, true, false, cond, ◌||◌, ◌≡◌, refl, ℕ, suc, ◌≤◌, ◌<◌, ltb, length}
use Rattle.std.proofs.Math.Bool.{or-true, or-false}
use mathlib.Core.List.{List, [], ◌∷◌}
use Rattle.std.proofs.Common.{sym, ◌∙◌, ap, ap₂, arith, eq-eqb, ne_eqb, le-ltb}
use Rattle.std.proofs.Math.Decide.{ℕ_discrete}
use Rattle.book.specs.Range.{among}
use Rattle.book.specs.Tables.{Tables}
use Rattle.items.specs.Items.{Item}
use Rattle.items.specs.Valid.{AllValid}
use Rattle.course.specs.Course.{state_in, in_state, clean, course}
use Rattle.course.specs.CourseLaws.{in-state-here, in-state-other}
use Rattle.course.proofs.CourseLaws.{course-passes}
use Rattle.sorting.specs.OrderLaws.{AllBelow}
use Rattle.sorting.proofs.OrderLaws.{none-past, ordered-free, clean-single}
use Rattle.sorting.specs.Sorting.{by_state}
use Rattle.sorting.specs.StatewiseLaws.{Single}
use Rattle.sorting.proofs.StatewiseLaws.{statewise-same, statewise-valid, in-state-valid, statewise-clean, statewise-length, statewise-in-state}
use Rattle.joining.specs.Joining.{shorter, joined}

-- ---- whether there is an entry
abbrev has : List Item → Bool
has [] = false
has (x ∷ xs) = true

-- entries without a fault cover the states in which they fail
course-covers : (ordered : Bool) (B : Tables) (s i : ℕ) (ss : List ℕ) (xs : List Item) {out : List ℕ} → course ordered B i ss xs ≡ clean out
    → among s out ≡ (among s ss || has (in_state B s xs))
unfolding course in_state
course-covers ordered B s i ss [] {out} e = let same : ss ≡ out = cc in rw (same, or-false)
course-covers ordered B s i ss (x ∷ xs) e =
    course-covers ordered B s (suc i) (state_in B x ∷ ss) xs (course-passes ordered B i ss x xs e).1 ∙ go (ℕ_discrete (state_in B x) s)
  where
    go : Dec (state_in B x ≡ s) → (among s (state_in B x ∷ ss) || has (in_state B s xs)) ≡ (among s ss || has (in_state B s (x ∷ xs)))
    go (yes f) = rw (in-state-here B s x xs f, eq-eqb s (state_in B x) (sym f), or-true)
    go (no n) = rw (in-state-other B s x xs n, ne_eqb s (state_in B x) (λ f. n (sym f)))

-- ---- of what two lists have for a state
shorter-keeps : (P : List Item → Type 0) (xs ys : List Item) → P xs → P ys → P (shorter xs ys)
shorter-keeps P xs [] p q = p
shorter-keeps P [] (y ∷ ys) p q = q
shorter-keeps P (x ∷ xs) (y ∷ ys) p q = go (ltb (length y.symbols) (length x.symbols))
  where
    go : (b : Bool) → P (cond b (y ∷ ys) (x ∷ xs))
    go true = q
    go false = p

shorter-has : (xs ys : List Item) → has (shorter xs ys) ≡ (has xs || has ys)
shorter-has xs [] = sym (or-false (has xs))
shorter-has [] (y ∷ ys) = refl
shorter-has (x ∷ xs) (y ∷ ys) = shorter-keeps (λ zs. has zs ≡ true) (x ∷ xs) (y ∷ ys) refl refl

shorter-same : (xs : List Item) → shorter xs xs ≡ xs
shorter-same [] = refl
shorter-same (x ∷ xs) = rw (le-ltb (length x.symbols) (length x.symbols) (omega arith))

none-shorter : (ys : List Item) → shorter [] ys ≡ ys
none-shorter [] = refl
none-shorter (y ∷ ys) = refl

-- ---- entries joined with themselves or with none are those entries in state order
module _ (B : Tables) (xs : List Item) (k : ℕ) where
  as-ordered : (ys zs : List Item) → ((s : ℕ) → shorter (in_state B s ys) (in_state B s zs) ≡ in_state B s xs) → joined B ys zs k 0 ≡ by_state B xs k 0
  as-ordered ys zs e = statewise-same (λ s. shorter (in_state B s ys) (in_state B s zs)) (λ s. in_state B s xs) k 0 (λ s l h. e s)

  pub joined-self : joined B xs xs k 0 ≡ by_state B xs k 0
  joined-self = as-ordered xs xs (λ s. shorter-same (in_state B s xs))

  pub joined-none : joined B xs [] k 0 ≡ by_state B xs k 0
  unfolding in_state
  joined-none = as-ordered xs [] (λ s. refl)

  pub none-joined : joined B [] xs k 0 ≡ by_state B xs k 0
  unfolding in_state
  none-joined = as-ordered [] xs (λ s. none-shorter (in_state B s xs))

-- ---- the entries of two lists
pub joined-valid : {t : ℕ} {xs ys : List Item} (B : Tables) (k : ℕ) → AllValid t xs → AllValid t ys → AllValid t (joined B xs ys k 0)
joined-valid {t} {xs} {ys} B k u v =
    statewise-valid (λ s. shorter (in_state B s xs) (in_state B s ys))
    (λ s. shorter-keeps (AllValid t) (in_state B s xs) (in_state B s ys) (in-state-valid B s u) (in-state-valid B s v))
    k
    0

module _ (B : Tables) (xs ys : List Item) {firsts seconds : List ℕ} (c : course true B 0 [] xs ≡ clean firsts) (e : course true B 0 [] ys ≡ clean seconds) (k : ℕ) where
  single : (s : ℕ) → Single B s (shorter (in_state B s xs) (in_state B s ys))
  single s =
      shorter-keeps (Single B s) (in_state B s xs) (in_state B s ys) (clean-single B xs (ordered-free B 0 [] xs c) s) (clean-single B ys (ordered-free B 0 [] ys e) s)

  pub joined-clean : (out : List ℕ) × (course true B 0 [] (joined B xs ys k 0) ≡ clean out)
  joined-clean = statewise-clean B (λ s. shorter (in_state B s xs) (in_state B s ys)) single k

  pub joined_length : length (joined B xs ys k 0) ≤ k
  joined_length = statewise-length B (λ s. shorter (in_state B s xs) (in_state B s ys)) single k 0

  in-each : (s : ℕ) → (k ≤ s → shorter (in_state B s xs) (in_state B s ys) ≡ []) → in_state B s (joined B xs ys k 0) ≡ shorter (in_state B s xs) (in_state B s ys)
  in-each s h = statewise-in-state B (λ q. shorter (in_state B q xs) (in_state B q ys)) single k 0 s (omega arith) (λ l. h (omega arith))

  pub joined-in-state : (s : ℕ) → s < k → in_state B s (joined B xs ys k 0) ≡ shorter (in_state B s xs) (in_state B s ys)
  joined-in-state s h = in-each s (λ l. absurd (omega arith))

  -- they cover the states that either list covers
  pub joined-covers : {out : List ℕ} → AllBelow B k xs → AllBelow B k ys → course true B 0 [] (joined B xs ys k 0) ≡ clean out
      → (s : ℕ) → among s out ≡ (among s firsts || among s seconds)
  joined-covers a b f s =
      course-covers true B s 0 [] (joined B xs ys k 0) f
      ∙ ap has (in-each s (λ l. rw (none-past s l a, none-past s l b)))
      ∙ shorter-has (in_state B s xs) (in_state B s ys)
      ∙ ap₂ ◌||◌ (sym (course-covers true B s 0 [] xs c)) (sym (course-covers true B s 0 [] ys e))
