-- Laws of the judgement of a joined list: it goes by the states that either list covers. Assumes nothing.
use Rattle.std.specs.Prelude.{Ok, Bool, true, false, not, ◌&&◌, ◌||◌, List, [], ◌∷◌, ◌++◌, ◌⊎◌, ◌≡◌, eqb, take}
use Rattle.std.proofs.Math.Bool.{or-true, or_assoc}
use Rattle.std.proofs.Common.{inl, inr, sym, ◌∙◌, ap₂, arith}
use Rattle.std.proofs.Math.Path.{refl}
use Prim.Native.Nat.{ℕ, zero, suc, ◌+◌, ◌≤◌, ◌<◌}
use Rattle.std.proofs.Math.Decide.{ℕ_discrete}
use Rattle.book.specs.Range.{among}
use Rattle.book.specs.Tables.{tables_of}
use Rattle.book.specs.TablesLaws.{Accepted}
use Rattle.book.specs.declared.Sizes.{Sizes}
use Rattle.lists.specs.List.{entries, list_in}
use Rattle.lists.specs.declared.Entry.{Entry}
use Rattle.items.specs.Items.{items}
use Rattle.course.specs.Course.{clean, course}
use Rattle.course.specs.declared.Judgement.TheVariants.{Uncovered, Complete}
use Rattle.judgement.specs.CoverageLaws.{lowest-same}
use Rattle.judgement.specs.Judgement.{Fails, DecidesFails, lowest_state, uncovered, faultless, JudgedIn}
use Rattle.joining.specs.Joining.{joins}
use Rattle.coverage.specs.JoiningLaws.{JoinedList, join-accepted}

among-append : (s : ℕ) (ss us : List ℕ) → among s (ss ++ us) ≡ (among s ss || among s us)
among-append s [] us = refl
among-append s (q ∷ ss) us = rw (among-append s ss us) (sym (or_assoc (eqb s q) (among s ss) (among s us)))

-- ---- the lowest state that lacks an entry
module _ (lacks : ℕ → Bool) where
  lowest-none : (k s : ℕ) → ((q : ℕ) → q < s + k → lacks q ≡ false) → lowest_state lacks k s ≡ Complete
  unfolding lowest_state
  lowest-none zero s e = refl
  lowest-none (suc k) s e = rw (e s (omega arith)) (lowest-none k (suc s) (λ q h. e q (omega arith)))

  lowest-found : (k s q : ℕ) → s ≤ q → q < s + k → lacks q ≡ true → ((i : ℕ) → i < q → lacks i ≡ false) → lowest_state lacks k s ≡ Uncovered q
  unfolding lowest_state
  lowest-found zero s q l h f e = absurd (omega arith)
  lowest-found (suc k) s q l h f e = go (ℕ_discrete s q) (λ m. lowest-found k (suc s) q m (omega arith) f e)
    where
      go : Dec (s ≡ q) → (suc s ≤ q → lowest_state lacks k (suc s) ≡ Uncovered q) → lowest_state lacks (suc k) s ≡ Uncovered q
      go (yes same) r = rw (same, f)
      go (no other) r = rw (e s (omega arith)) (r (omega arith))

-- ---- two lists, the states that each covers, and what joining them left
module _ (d : Sizes) (cells : List ℕ) (h : Accepted d cells) (first second : List ℕ) {es fs : List Entry} {end last : ℕ} (l : list_in cells first ≡ entries es end)
    (m : list_in cells second ≡ entries fs last) {firsts seconds : List ℕ} (c : course true (tables_of cells) 0 [] (items first es) ≡ clean firsts)
    (g : course true (tables_of cells) 0 [] (items second fs) ≡ clean seconds) (lent : List ℕ) {out : List ℕ} {n : ℕ} (e : joins cells first second lent ≡ (Ok n, out))
    (fails : ℕ → Bool) (x : DecidesFails (tables_of cells) fails) where
  result : JoinedList cells (items first es) (items second fs) (take n out)
  result = join-accepted d cells h first second l m lent e

  covers-either : (s : ℕ) → among s (firsts ++ seconds) ≡ among s result.states
  covers-either s =
      let same : result.firsts ≡ firsts = cc result.first-faultless in
      let other : result.seconds ≡ seconds = cc result.second-faultless in
      among-append s firsts seconds ∙ ap₂ (λ (us vs : List ℕ). among s us || among s vs) (sym same) (sym other) ∙ sym (result.covers s)

  -- 'The result .. covers what either covered'
  pub join-judged : JudgedIn cells (take n out) (lowest_state (uncovered fails (firsts ++ seconds)) (tables_of cells).states 0)
  join-judged = (
    result.es,
    result.end,
    result.list,
    rw (lowest-same (uncovered fails (firsts ++ seconds)) (uncovered fails result.states) (tables_of cells).states 0 (λ s k. rw (covers-either s)))
        (faultless result.states fails result.faultless x),
  )

  either-covers : (s : ℕ) → s < (tables_of cells).states → (Fails (tables_of cells) s → (among s firsts ≡ true) ⊎ (among s seconds ≡ true))
      → uncovered fails (firsts ++ seconds) s ≡ false
  either-covers s k f = go (fails s) refl
    where
      covered : (among s firsts ≡ true) ⊎ (among s seconds ≡ true) → (among s firsts || among s seconds) ≡ true
      covered (inl a) = rw a
      covered (inr a) = rw (a, or-true)

      go : (b : Bool) → fails s ≡ b → (b && not (among s (firsts ++ seconds))) ≡ false
      go true a = rw (among-append s firsts seconds, covered (f ((x s k).0 a)))
      go false a = refl

  -- '.. and is complete if no failing state is left over'
  pub join-complete : ((s : ℕ) → s < (tables_of cells).states → Fails (tables_of cells) s → (among s firsts ≡ true) ⊎ (among s seconds ≡ true))
      → JudgedIn cells (take n out) Complete
  join-complete f =
      let none : lowest_state (uncovered fails (firsts ++ seconds)) (tables_of cells).states 0 ≡ Complete =
      lowest-none (uncovered fails (firsts ++ seconds)) (tables_of cells).states 0 (λ q k. either-covers q (omega arith) (f q (omega arith))) in
      rw none at join-judged

  -- else uncovered, with the lowest that is left over
  pub join-uncovered : (s : ℕ) → s < (tables_of cells).states → Fails (tables_of cells) s → among s firsts ≡ false → among s seconds ≡ false
      → ((q : ℕ) → q < s → Fails (tables_of cells) q → (among q firsts ≡ true) ⊎ (among q seconds ≡ true)) → JudgedIn cells (take n out) (Uncovered s)
  join-uncovered s k p a b f =
      let lacks : uncovered fails (firsts ++ seconds) s ≡ true = rw ((x s k).1 p, among-append s firsts seconds, a, b) in
      let found : lowest_state (uncovered fails (firsts ++ seconds)) (tables_of cells).states 0 ≡ Uncovered s =
      lowest-found (uncovered fails (firsts ++ seconds)) (tables_of cells).states 0 s (omega arith) (omega arith) lacks (λ q i. either-covers q (omega arith) (f q i)) in
      rw found at join-judged
