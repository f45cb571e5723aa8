-- Laws of ranks: the set of those seen tells which are there already, and ranks by number suit. Assumes nothing.
use Rattle.number.specs.Number.{Number}
use Rattle.std.specs.Prelude.{Ok, Err, Bool, true, false, cond, ◌||◌, List, [], ◌∷◌, ◌++◌, ◌≡◌, refl, ℕ, zero, suc, ◌^◌, ◌≤◌, ◌<◌, eqb, ltb, length, take}
use Rattle.std.proofs.Common.{◌∙◌, arith, le-ltb, lt-ltb, ne_eqb, length-append, take_all}
use Rattle.std.proofs.Math.Decide.{dec_lt, ℕ_discrete}
use Rattle.std.specs.Int.Bits.{bit_or}
use Rattle.std.proofs.lemmas.List.{take-append-le}
use Rattle.number.specs.Lent.{firsts}
use Rattle.number.specs.LentLaws.{firsts-length, firsts-entry}
use Rattle.sets.specs.Bits.{member}
use Rattle.sets.specs.SetLaws.{member-put, member-none}
use Rattle.book.specs.Book.{admitted}
use Rattle.book.specs.CellsLaws.{Suits}
use Rattle.book.specs.Range.{part_length, among, fits, fault}
use Rattle.book.specs.RangeLaws.{fault_among}
use Rattle.book.specs.SeenLaws.{marked}
use Rattle.book.specs.declared.Part.{Part}
use Rattle.book.specs.declared.Part.TheVariants.{Head, Productions, Ranks, Actions, Gotos}
use Rattle.book.specs.declared.Sizes.{Sizes}

-- the set has the ranks that were seen
abbrev pub Marks : Part → ℕ → List ℕ → Type 0
Marks Head set seen = Unit {0}
Marks Productions set seen = Unit {0}
Marks Ranks set seen = (v : ℕ) → v < 32 → member set v ≡ among v seen
Marks Actions set seen = Unit {0}
Marks Gotos set seen = Unit {0}

pub marks-none : (part : Part) → Marks part 0 []
marks-none Head = tt
marks-none Productions = tt
marks-none Ranks = λ v h. member-none v
marks-none Actions = tt
marks-none Gotos = tt

among-more : (v w : ℕ) (seen : List ℕ) → among v (seen ++ (w ∷ [])) ≡ (eqb v w || among v seen)
among-more v w [] = refl
among-more v w (x ∷ seen) = rw (among-more v w seen) (go (eqb v x) (eqb v w))
  where
    go : (a b : Bool) → (a || (b || among v seen)) ≡ (b || (a || among v seen))
    go true true = refl
    go true false = refl
    go false b = refl

pub marks-more : (part : Part) (set : ℕ) (seen : List ℕ) (v : ℕ) → Marks part set seen → Marks part (marked part set v) (seen ++ (v ∷ []))
marks-more Head set seen v m = tt
marks-more Productions set seen v m = tt
marks-more Ranks set seen v m = λ w h. rw (among-more w v seen) (go w h (dec_lt v 32))
  where
    go : (w : ℕ) → w < 32 → Dec (v < 32) → member (cond (ltb v 32) (bit_or set (2 ^ v)) set) w ≡ (eqb w v || among w seen)
    go w h (yes l) = rw (lt-ltb v 32 l, member-put set v w, m w h)
    go w h (no l) = rw (le-ltb v 32 (omega arith), ne_eqb w v (λ e. omega (arith, e)), m w h)
marks-more Actions set seen v m = tt
marks-more Gotos set seen v m = tt

-- so what is refused by the set is refused by what was seen
marks-fits : (d : Sizes) (part : Part) (set : ℕ) (seen : List ℕ) (i v : ℕ) → d.t ≤ 32 → Marks part set seen → fits d part i (member set v) v ≡ fits d part i (among v seen) v
unfolding fits
marks-fits d Head set seen i v h m = refl
marks-fits d Productions set seen i v h m = refl
marks-fits d Ranks set seen i v h m = go (dec_lt v 32)
  where
    go : Dec (v < 32) → fits d Ranks i (member set v) v ≡ fits d Ranks i (among v seen) v
    go (yes l) = rw (m v l)
    go (no l) = rw (le-ltb v d.t (omega arith))
marks-fits d Actions set seen i v h m = refl
marks-fits d Gotos set seen i v h m = refl

pub marks-admitted : (d : Sizes) (part : Part) (set i : ℕ) (seen : List ℕ) (at : ℕ) (found : Number) → d.t ≤ 32 → Marks part set seen → length seen ≡ i
    → admitted (fault_among d part i (member set)) at found ≡ admitted (fault d part seen) at found
unfolding fault
marks-admitted d part set i seen at (Err r) h m e = refl
marks-admitted d part set i seen at (Ok (v, next)) h m e = rw (e, marks-fits d part set seen i v h m)

-- ---- ranks by number
among-firsts : (i n : ℕ) → n ≤ i → among i (firsts (λ k. k) n) ≡ false
unfolding firsts
among-firsts i zero h = refl
among-firsts i (suc n) h = rw (among-more i n (firsts (λ k. k) n), ne_eqb i n (λ e. omega (arith, e)), among-firsts i n (omega arith))

take-firsts : (f : ℕ → ℕ) (i n : ℕ) → i ≤ n → take i (firsts f n) ≡ firsts f i
unfolding firsts
take-firsts f i zero h = let e : i ≡ 0 = omega arith in rw e
take-firsts f i (suc n) h = go (ℕ_discrete i (suc n)) (λ l. take-firsts f i n l)
  where
    go : Dec (i ≡ suc n) → (i ≤ n → take i (firsts f n) ≡ firsts f i) → take i (firsts f n ++ (f n ∷ [])) ≡ firsts f i
    go (yes e) r = rw e (take_all (suc n) (firsts f n ++ (f n ∷ [])) (rw (length-append, firsts-length f n) (omega arith)))
    go (no k) r = take-append-le i (firsts f n) (f n ∷ []) (rw (firsts-length f n) (omega arith)) ∙ r (omega arith)

pub by-number-suit : (d : Sizes) (n : ℕ) → n ≡ part_length d Ranks → n ≤ d.t → Suits d Ranks (firsts (λ k. k) n)
unfolding fits
by-number-suit d n e h = (
  firsts-length (λ k. k) n ∙ e,
  λ i l.
      (let k : i < n = omega (arith, l, e) in
      rw (firsts-entry (λ k. k) n i k, take-firsts (λ k. k) i n (omega arith), among-firsts i i (omega arith), lt-ltb i d.t (omega arith))),
)
