-- `approach::near::put` meets its contract. Assumes nothing.
use mathlib.Core.Path.{◌≡◌, ◌∙◌, ap}
use mathlib.Core.List.{◌++◌}
use native.Mathlib.Omega.{arith}
use Prim.Native.Nat.{◌+◌}
use lib.ListN.{length, take, drop}
use lib.Seq.{take_all, length-take-le}
use Rattle.std.proofs.lemmas.Slice.{put_mid-paste}
use Rattle.approach.proofs.near.put.Goals as goal

pub returns : goal.returns
returns c =
    let due = c.args.due.now in
    let at = c.args.at in
    let n = c.args.n in
    let part = take n c.args.layer.now in
    let long : length part ≡ n = length-take-le n c.args.layer.now (omega arith) in
    put_mid-paste at _ due _ part n c.copy_from_slice.ensures.after (omega arith) (omega arith) ∙ ap (λ l. take at due ++ l ++ drop (at + n) due) (take_all n part (omega arith))
