-- Laws of the sentences of all pairs: they are what `find` answers, their lengths are the map, and at most one row of them is right. Assumes
-- nothing.
use Rattle.std.specs.Prelude.{Bool, false, List, [], ◌∷◌, map, ◌≡◌, refl, ℕ, zero, suc, ◌+◌, ◌*◌, ◌<◌, length, get_or}
use Rattle.std.proofs.Common.{sym, ◌∙◌, ap, not-suc-le-zero, arith, ext_get_or}
use Rattle.std.proofs.lemmas.List.{length-map}
use Rattle.book.specs.IndexLaws.{index_below, index-split}
use Rattle.book.specs.Tables.{Tables, tables_of}
use Rattle.book.specs.declared.Sizes.{Sizes}
use Rattle.walk.specs.Answer.{Outcome, Unreached, WordsOf, AnswerAs}
use Rattle.walk.proofs.AnswerLaws.{best-exact, best-one}
use Rattle.walk.specs.Map.{IsMap}
use Rattle.walk.specs.Scale.{plain}
use Rattle.sentences.proofs.PartsLaws.{cell-mapped}
use Rattle.sentences.specs.Sentences.{cell_of, Answers}

-- the answer that stands for a pair is the one that is right for it, which `find` or `find_break` answers
pub pair-answer : {breaks : Bool} {rank : ℕ → ℕ} {B : Tables} {states terminals s z : ℕ} {os : List Outcome} → Answers breaks rank B states terminals os → s < states → z < terminals
    → (o : Outcome) → AnswerAs breaks plain rank B s z o → get_or os (s * terminals + z) Unreached ≡ o
pair-answer {breaks} {rank} {B} {s = s} {z} x hs hz o a = best-one plain rank (WordsOf breaks B s z) _ o (x.right s z hs hz) a

cell_at : (os : List Outcome) (i : ℕ) → i < length os → get_or (map cell_of os) i 0 ≡ cell_of (get_or os i Unreached)
cell_at [] i h = absurd (not-suc-le-zero h)
cell_at (o ∷ os) zero h = refl
cell_at (o ∷ os) (suc i) h = cell_at os i (omega arith)

-- 'the map is the map'
pub sentences-map : {rank : ℕ → ℕ} {cells : List ℕ} {d : Sizes} {os : List Outcome} → Answers false rank (tables_of cells) d.s d.t os → IsMap cells d (map cell_of os)
sentences-map {rank} {cells} {d} {os} x = record {
  size = length-map os cell_of ∙ x.size;
  exact = λ s z hs hz.
      let i = s * d.t + z in
      let o = get_or os i Unreached in
      rw (cell_at os i (rw x.size (index_below d.s d.t s z hs hz)), cell-mapped o)
      (best-exact plain rank (WordsOf false (tables_of cells) s z) o (x.right s z hs hz));
}

-- at most one row of answers is right
pub answers_one : {breaks : Bool} {rank : ℕ → ℕ} {B : Tables} {states terminals : ℕ} {os os' : List Outcome} → Answers breaks rank B states terminals os
    → Answers breaks rank B states terminals os' → os ≡ os'
answers_one {states = states} {terminals} {os} {os'} x y = ext_get_or Unreached os os' (x.size ∙ sym y.size) (λ i l.
    let at = index-split states terminals i (omega (arith, x.size)) in
    let same = ap (λ (k : ℕ). get_or os k Unreached) at.same in
    let other = ap (λ (k : ℕ). get_or os' k Unreached) at.same in
    sym same ∙ pair-answer x at.high at.low _ (y.right _ _ at.high at.low) ∙ other)
