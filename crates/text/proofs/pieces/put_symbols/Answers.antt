-- `text::pieces::put_symbols` meets its contract: one symbol after the other. Assumes nothing.
use Prim.Native.Nat.{ℕ, ◌<◌}
use mathlib.Core.List.{List}
use native.Mathlib.Omega.{arith}
use lib.ListN.{get_or, length, length-take, take}
use lib.Seq.{get_or-take}
use Rattle.text.specs.DecimalLaws.{decimal-byte}
use Rattle.text.specs.TextLaws.{spelt-more}
use Rattle.text.proofs.pieces.put_symbols.Goals as goal

-- a symbol of the first n is a byte
byte : (s : List ℕ) (n i : ℕ) → i < length (take n s) → get_or s i 0 < 256 → get_or (take n s) i 0 < 256
byte s n i h b = rw (get_or-take n s i 0 (omega (arith, h, length-take n s))) b

pub put_next-next-requires : goal.put_next-next-requires
put_next-next-requires c =
    let s = c.args.sentence.now in
    let i = c.loop-symbol.symbol-index in
    let small = byte s c.args.n i c.loop-symbol-test.true (omega (arith, c.type_inv.sentence i)) in
    omega (arith, decimal-byte _ small, length-take c.args.n s, c.loop-symbol-test.true, c.loop-symbol.invariant.near, c.loop-symbol.invariant.size, c.requires)

pub loop-symbol-preserved : goal.loop-symbol-preserved
loop-symbol-preserved c =
    let i = c.loop-symbol.symbol-index in
    let small = byte c.args.sentence.now c.args.n i c.loop-symbol-test.true (omega (arith, c.type_inv.sentence i)) in
    spelt-more c.loop-symbol.invariant c.loop-symbol-test.true small c.put_next-next.auto.out c.put_next-next.ensures
