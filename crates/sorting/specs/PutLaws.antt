-- Laws of bytes that are put into lent bytes piece by piece. Assumes nothing.
use borrow.Rule.Slice.PartMut.{put_mid}
use Rattle.std.specs.Prelude.{◌≡◌, refl, List, [], ◌∷◌, ◌++◌, ℕ, suc, ◌+◌, ◌≤◌, ◌<◌, length, get_or, take, drop, set}
use Rattle.std.proofs.Common.{sym, ◌∙◌, append_assoc, add-one, arith, length-drop, take-suc, get_or-drop, length-take-le}
use Rattle.std.proofs.lemmas.List.Edits.{sets, sets-eq, paste_all}
use Rattle.std.proofs.lemmas.Slice.{put_mid-paste}
use Rattle.number.specs.Lent.{over}
use Rattle.lists.specs.Entry.{part}

-- a piece more, after one that is there
pub put-more : (piece more lent : List ℕ) (at next : ℕ) → next ≡ at + length piece → sets (sets lent at piece) next more ≡ sets lent at (piece ++ more)
put-more [] more lent at next e = let k : next ≡ at = omega arith in rw k
put-more (v ∷ piece) more lent at next e = put-more piece more (set lent at v) (suc at) next (omega arith)

-- a byte more of a part that is copied
pub put_byte : (from lent : List ℕ) (start at i : ℕ) → start + i < length from
    → set (sets lent at (part from start i)) (at + i) (get_or from (start + i) 0) ≡ sets lent at (part from start (i + 1))
put_byte from lent start at i h =
    let short : i < length (drop start from) = rw length-drop (omega arith) in
    put-more (part from start i) (get_or from (start + i) 0 ∷ []) lent at (at + i) (rw (length-take-le i (drop start from) (omega arith)))
    ∙ rw (add-one, take-suc (drop start from) i 0, get_or-drop)

-- a piece over a part as long
pub put-part : (piece lent : List ℕ) (at n : ℕ) → length piece ≡ n → at + n ≤ length lent → put_mid at n lent piece ≡ sets lent at piece
put-part piece lent at n e h =
    let spelled : sets lent at piece ≡ take at lent ++ piece ++ drop (at + n) lent = rw (← e) (sets-eq piece lent at (omega arith)) in
    put_mid-paste at n lent piece piece n refl refl (sym e)
    ∙ paste_all lent at piece n (sym e)
    ∙ sym (append_assoc (take at lent) piece (drop (at + n) lent))
    ∙ sym spelled

-- at the front
pub put_front : (piece lent : List ℕ) → length piece ≤ length lent → sets lent 0 piece ≡ over piece lent
put_front piece lent h = let z : 0 + length piece ≡ length piece = omega arith in sets-eq piece lent 0 (omega arith) ∙ rw z

pub put_both : (front more lent between out : List ℕ) (next : ℕ) → next ≡ length front → length (front ++ more) ≤ length lent → between ≡ sets lent 0 front → out ≡ sets between next more
    → out ≡ over (front ++ more) lent
put_both front more lent between out next e h f g = rw f at g ∙ put-more front more lent 0 next (omega arith) ∙ put_front (front ++ more) lent h
