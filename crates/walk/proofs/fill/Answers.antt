-- `walk::fill` meets its contract. Assumes nothing.
use Rattle.std.proofs.Common.{◌≡◌, ◌∙◌, ◌+◌, ◌-◌, ◌≤◌, length, ℕ, zero, suc, List, [], ap, arith, sym, set, take, drop, replicate, add-one}
use lib.Seq.{paste}
use Rattle.std.proofs.lemmas.List.{length-replicate, length-take, length-drop}
use Rattle.std.proofs.lemmas.List.Edits.{paste_none, fill_from_more}
use Rattle.std.proofs.lemmas.Slice.{put_mid-paste}
use Rattle.walk.specs.Fill.{filled}
use Rattle.walk.proofs.fill.Goals as goal

module _ (l : List ℕ) (start : ℕ) where
  filled_paste : (n v : ℕ) → start + n ≤ length l → filled l start n v ≡ paste l start (replicate n v) n
  unfolding filled
  filled_paste zero v h = paste_none l start []
  filled_paste (suc n) v h =
      ap (λ xs. set xs (start + n) v) (filled_paste n v (omega arith))
      ∙ (fill_from_more l start n v (omega arith) ∙ ap (λ k. paste l start (replicate k v) k) (add-one n))

  length_mid : (n : ℕ) → start + n ≤ length l → length (take (start + n - start) (drop start l)) ≡ n
  length_mid n h = omega (arith, length-take (start + n - start) (drop start l), length-drop start l)

pub returns : goal.returns
returns c =
    let e = ap (λ k. replicate k c.args.v) (length_mid _ _ _ c.requires) in
    put_mid-paste _ _ _ _ _ _ (c.fill.ensures.after (λ y e. e) ∙ e) (omega arith) (sym (length-replicate _ _))
    ∙ sym (filled_paste _ _ _ _ c.requires)
