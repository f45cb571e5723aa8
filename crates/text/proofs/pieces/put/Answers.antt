-- `text::pieces::put` meets its contract: all bytes at once. Assumes nothing.
use Prim.Native.Nat.{◌+◌, ◌-◌}
use mathlib.Core.Path.{◌≡◌, refl}
use mathlib.Core.List.{append_assoc}
use lib.ListN.{length}
use native.Mathlib.Omega.{arith}
use lib.Seq.{drop-drop}
use Rattle.std.proofs.lemmas.List.Edits.{sets-eq}
use Rattle.text.proofs.pieces.put.Goals as goal

pub returns : goal.returns
returns c =
    let n = length c.args.word.now in
    let back : c.args.at + n - c.args.at ≡ n = omega arith in
    record {
      stored = rw (c.copy_from_slice.ensures.after, back, drop-drop n c.args.at c.args.out.now, sets-eq c.args.word.now c.args.out.now c.args.at c.requires, append_assoc);
      after = refl;
    }
