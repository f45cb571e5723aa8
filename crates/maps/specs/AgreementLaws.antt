-- Laws that tie the finder's calls together: for each pair the map, the sets and the answer agree. Assumes nothing.
use Rattle.std.specs.Prelude.{List, true, ◌↔◌, ◌≢◌, ◌≡◌, refl, ℕ, ◌+◌, ◌*◌, ◌<◌, get_or}
use Rattle.std.proofs.Common.{sym, ◌∙◌, ap, arith, ext_get_or}
use Rattle.std.specs.Int.Count.{ones}
use Rattle.book.specs.Tables.{Tables, tables_of}
use Rattle.book.specs.declared.Sizes.{Sizes}
use Rattle.sets.specs.Set.{set_of}
use Rattle.sets.specs.Bits.{member}
use Rattle.sets.specs.SetLaws.{both, set-member, set_same, set-count}
use Rattle.machine.specs.Machine.{Reaches}
use Rattle.machine.specs.MachineLaws.{clash}
use Rattle.walk.specs.Scale.{plain}
use Rattle.walk.proofs.CostLaws.{exact_one}
use Rattle.walk.specs.Answer.{Outcome, Unreached, Long, Sentence, Answer}
use Rattle.walk.specs.AnswerLaws.{mapped}
use Rattle.walk.proofs.AnswerLaws.{answer-exact}
use Rattle.maps.specs.Maps.{IsSets}
use Rattle.walk.specs.Map.{IsMap}

-- some sequence reaches the pair exactly if the answer is not unreached
answer-reached : (rank : ℕ → ℕ) (B : Tables) (s z : ℕ) (o : Outcome) → Answer plain rank B s z o → ((w : List ℕ) × Reaches B w z s) ↔ (o ≢ Unreached)
answer-reached rank B s z Unreached a = (λ (w, r). absurd (a w r), λ n. absurd (n refl))
answer-reached rank B s z Long a = (λ r e. clash cc, λ n. a.0)
answer-reached rank B s z (Sentence w) a = (λ r e. clash cc, λ n. (w, a.0))

module _ {cells : List ℕ} {d : Sizes} {s z : ℕ} (o : Outcome) (hs : s < d.s) (hz : z < d.t) (rank : ℕ → ℕ) (a : Answer plain rank (tables_of cells) s z o) where
  -- the map's cell is what the map has for the answer
  pub map-agrees : {map : List ℕ} → IsMap cells d map → get_or map (s * d.t + z) 0 ≡ mapped plain o
  map-agrees m = exact_one (m.exact s z hs hz) (answer-exact plain rank (tables_of cells) s z o a)

  -- a pair's bit is set exactly if its answer is not unreached
  pub sets-agree : {masks sizes : List ℕ} → IsSets cells d masks sizes → (member (get_or masks s 0) z ≡ true) ↔ (o ≢ Unreached)
  sets-agree {masks} x =
      let bit : member (get_or masks s 0) z ≡ x.reached s z = rw (x.mask s hs) (set-member (x.reached s) d.t z hz) in
      let (some, all) = x.decides s z hs hz in
      let (told, sure) = answer-reached rank (tables_of cells) s z o a in
      (λ e. told (some (sym bit ∙ e)), λ n. bit ∙ all (sure n))

-- ---- at most one answer of the sets is right
module _ {cells : List ℕ} {d : Sizes} {masks sizes masks' sizes' : List ℕ} (x : IsSets cells d masks sizes) (y : IsSets cells d masks' sizes') where
  same : (s : ℕ) → s < d.s → set_of (x.reached s) d.t ≡ set_of (y.reached s) d.t
  same s h = set_same (x.reached s) (y.reached s) d.t (λ z l.
      let (some, all) = x.decides s z h l in
      let (some', all') = y.decides s z h l in
      both (x.reached s z) (y.reached s z) (λ e. all' (some e)) (λ e. all (some' e)))

  pub masks-one : masks ≡ masks'
  masks-one = ext_get_or 0 masks masks' (x.many ∙ sym y.many) (λ s l.
      let h : s < d.s = omega (arith, x.many) in
      x.mask s h ∙ same s h ∙ sym (y.mask s h))

  pub sizes-one : sizes ≡ sizes'
  sizes-one = ext_get_or 0 sizes sizes' (x.beside ∙ sym y.beside) (λ s l.
      let h : s < d.s = omega (arith, x.beside) in
      x.size s h ∙ sym (set-count (x.reached s) d.t) ∙ ap ones (same s h) ∙ set-count (y.reached s) d.t ∙ sym (y.size s h))
