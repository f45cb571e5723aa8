-- Laws of entries in another order. Assumes nothing.
use Rattle.std.specs.Prelude.{List, [], ◌∷◌, ◌++◌, ◌≡◌, refl, ℕ, suc, length}
use Rattle.std.proofs.Common.{◌∙◌, ap, arith}
use Rattle.book.specs.Book.{bytes_of}
use Rattle.items.specs.Items.{Item, numbers_of}
use Rattle.items.specs.Rearranged.{Rearranged, none, same, swapped, then}
use Rattle.items.specs.Valid.{AllValid, more}
use Rattle.items.specs.WrittenLaws.{numbers-length}

pub rearranged-refl : (xs : List Item) → Rearranged xs xs
rearranged-refl [] = none
rearranged-refl (x ∷ xs) = same (rearranged-refl xs)

pub rearranged-sym : {xs ys : List Item} → Rearranged xs ys → Rearranged ys xs
rearranged-sym none = none
rearranged-sym (same r) = same (rearranged-sym r)
rearranged-sym (swapped r) = swapped (rearranged-sym r)
rearranged-sym (then r s) = then (rearranged-sym s) (rearranged-sym r)

-- ---- what does not go by the order
pub rearranged-length : {xs ys : List Item} → Rearranged xs ys → length xs ≡ length ys
rearranged-length none = refl
rearranged-length (same r) = ap suc (rearranged-length r)
rearranged-length (swapped r) = ap (λ (n : ℕ). suc (suc n)) (rearranged-length r)
rearranged-length (then r s) = rearranged-length r ∙ rearranged-length s

pub rearranged-bytes : {xs ys : List Item} → Rearranged xs ys → length (bytes_of (numbers_of xs)) ≡ length (bytes_of (numbers_of ys))
rearranged-bytes none = refl
rearranged-bytes (same {x} {xs} {ys} r) = omega (arith, numbers-length x xs, numbers-length x ys, rearranged-bytes r)
rearranged-bytes (swapped {x} {y} {xs} {ys} r) =
    omega (arith, numbers-length x (y ∷ xs), numbers-length y xs, numbers-length y (x ∷ ys), numbers-length x ys, rearranged-bytes r)
rearranged-bytes (then r s) = rearranged-bytes r ∙ rearranged-bytes s

pub rearranged-valid : {t : ℕ} {xs ys : List Item} → Rearranged xs ys → AllValid t xs → AllValid t ys
rearranged-valid none v = v
rearranged-valid (same r) (more h v) = more h (rearranged-valid r v)
rearranged-valid (swapped r) (more h (more i v)) = more i (more h (rearranged-valid r v))
rearranged-valid (then r s) v = rearranged-valid s (rearranged-valid r v)

-- ---- of rows one after the other
pub rearranged-append : {xs ys us vs : List Item} → Rearranged xs ys → Rearranged us vs → Rearranged (xs ++ us) (ys ++ vs)
rearranged-append none s = s
rearranged-append (same r) s = same (rearranged-append r s)
rearranged-append (swapped r) s = swapped (rearranged-append r s)
rearranged-append {us} (then q r) s = then (rearranged-append q (rearranged-refl us)) (rearranged-append r s)

-- the first entry moves in between
pub rearranged-middle : (x : Item) (xs ys : List Item) → Rearranged (x ∷ (xs ++ ys)) (xs ++ (x ∷ ys))
rearranged-middle x [] ys = rearranged-refl (x ∷ ys)
rearranged-middle x (y ∷ xs) ys = then (swapped (rearranged-refl (xs ++ ys))) (same (rearranged-middle x xs ys))
