-- `machine::driver::clear` meets its contract. Assumes nothing.
use Rattle.std.proofs.Common.{◌≡◌, ◌≤◌, ◌∙◌, ◌+◌, ◌-◌, length, ℕ, List, ap, arith, sym, take, drop, replicate}
use Rattle.std.proofs.lemmas.List.{length-replicate, length-take, length-drop}
use Rattle.std.proofs.lemmas.Slice.{put_mid-paste}
use Rattle.machine.specs.StackLaws.{cleared-done, cleared-filled}
use Rattle.machine.proofs.driver.clear.Goals as goal

length_mid : (l : List ℕ) (start n : ℕ) → start + n ≤ length l → length (take n (drop start l)) ≡ n
length_mid l start n h = omega (arith, length-take n (drop start l), length-drop start l)

pub returns : goal.returns
returns c =
    let lent = c.args.stack.now in
    let depth = c.args.depth in
    let e = ap (λ k. replicate k 0) (length_mid lent depth (1024 - depth) (omega arith)) in
    cleared-done (cleared-filled _ c.requires.0 c.requires.1
    (put_mid-paste depth (1024 - depth) lent _ (replicate (1024 - depth) 0) (1024 - depth) (c.fill.ensures.after (λ y e. e) ∙ e) (omega arith) (sym (length-replicate _ _)))) (omega arith)
