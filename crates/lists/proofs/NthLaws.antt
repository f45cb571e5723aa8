-- Laws of a loop that passes entries up to one of a given index. Assumes nothing.
use Rattle.std.specs.Prelude.{Result, Option, Ok, Err, Some, None, ◌≡◌, refl, List, [], ◌∷◌, ℕ, suc, ◌+◌, ◌-◌, ◌≤◌, ◌<◌}
use Rattle.std.proofs.Common.{sym, ap, ◌∙◌, arith}
use Rattle.number.specs.PairLaws.{some-is}
use Rattle.number.specs.declared.cause.Refusal.{Refusal}
use Rattle.lists.specs.List.{Listed, entries, refused, list_in, listing, next_at, entry_of, nth_in}
use Rattle.lists.specs.ReadingLaws.{EntriesHeld}
use Rattle.lists.proofs.ReadingLaws.{holds-none, holds-next, listed-holds}
use Rattle.lists.specs.NthLaws.{EntryPicked}
use Rattle.lists.specs.declared.Entry.{Entry}
use Rattle.lists.specs.declared.Rest.{Rest}

-- what is left to pass: entry k of es is entry k - i of xs, which stand at the offset
pub record Ahead (bytes : List ℕ) (k i at left : ℕ) (es : List Entry) : Type 0 where
  pub xs : List Entry
  pub holds : EntriesHeld bytes (record { at = at; left = left }) xs
  pub same : entry_of es k ≡ entry_of xs (k - i)

-- i entries are passed, whichever the list holds
pub record Skipped (bytes : List ℕ) (first : Rest) (k i at left : ℕ) : Type 0 where
  pub ahead : (es : List Entry) → EntriesHeld bytes first es → Ahead bytes k i at left es

-- one more of those that stand there
more-ahead : (bytes : List ℕ) (k i at left : ℕ) (e : Entry) (rest : Rest) → i < k → next_at bytes at left ≡ Some (e, rest) → (es : List Entry) → Ahead bytes k i at left es
    → Ahead bytes k (i + 1) rest.at rest.left es
more-ahead bytes k i at left e rest l f es a = by_entries a.xs a.holds a.same
  where
    by_entries : (xs : List Entry) → EntriesHeld bytes (record { at = at; left = left }) xs → entry_of es k ≡ entry_of xs (k - i) → Ahead bytes k (i + 1) rest.at rest.left es
    by_entries [] h g = absurd (let n = holds-none bytes (record { at = at; left = left }) h in let z : ◌≡◌ {A = ℕ} 0 1 = cc in omega arith)
    by_entries (x ∷ xs) h g =
        let o = holds-next bytes (record { at = at; left = left }) x xs h in
        let same : o.more ≡ rest = (some-is (sym o.gives ∙ f)).1 in
        let step : k - i ≡ suc (k - (i + 1)) = omega arith in
        record { xs = xs; holds = rw same at o.holds; same = rw step at g }

module _ {bytes : List ℕ} {first : Rest} {k : ℕ} where
  pub skipped-none : Skipped bytes first k 0 first.at first.left
  skipped-none =
      let z : k - 0 ≡ k = omega arith in
      record { ahead = λ es h. record { xs = es; holds = h; same = rw z } }

  pub skipped-more : {i at left : ℕ} {e : Entry} {rest : Rest} → Skipped bytes first k i at left → i < k → next_at bytes at left ≡ Some (e, rest)
      → Skipped bytes first k (i + 1) rest.at rest.left
  skipped-more {i} {at} {left} {e} {rest} s l f = record { ahead = λ es h. more-ahead bytes k i at left e rest l f es (s.ahead es h) }

  pub skipped-stop : {i at left : ℕ} → Skipped bytes first k i at left → next_at bytes at left ≡ None
      → (es : List Entry) → EntriesHeld bytes first es → None ≡ entry_of es k
  skipped-stop {i} {at} {left} s f es h = let a = s.ahead es h in by_entries a.xs a.holds a.same
    where
      by_entries : (xs : List Entry) → EntriesHeld bytes (record { at = at; left = left }) xs → entry_of es k ≡ entry_of xs (k - i) → None ≡ entry_of es k
      by_entries [] g e = sym e
      by_entries (x ∷ xs) g e = absurd (let o = holds-next bytes (record { at = at; left = left }) x xs g in let z : ◌≡◌ {A = ℕ} 0 1 = cc o.gives in omega arith)

  pub skipped-done : {i at left : ℕ} {x : Entry} {rest : Rest} → Skipped bytes first k i at left → k ≤ i → next_at bytes at left ≡ Some (x, rest)
      → (es : List Entry) → EntriesHeld bytes first es → Some x ≡ entry_of es k
  skipped-done {i} {at} {left} {x} {rest} s l f es h = let a = s.ahead es h in by_entries a.xs a.holds a.same
    where
      by_entries : (xs : List Entry) → EntriesHeld bytes (record { at = at; left = left }) xs → entry_of es k ≡ entry_of xs (k - i) → Some x ≡ entry_of es k
      by_entries [] g e = absurd (let n = holds-none bytes (record { at = at; left = left }) g in let z : ◌≡◌ {A = ℕ} 0 1 = cc in omega arith)
      by_entries (y ∷ ys) g e =
          let o = holds-next bytes (record { at = at; left = left }) y ys g in
          let same : y ≡ x = (some-is (sym o.gives ∙ f)).0 in
          let z : k - i ≡ 0 = omega arith in
          sym (rw (z, same) at e)

-- ---- against a book
module _ (cells bytes : List ℕ) (k : ℕ) where
  pub nth-stop : (r : Refusal) → listing bytes (list_in cells bytes) ≡ Err r → Err r ≡ nth_in k (list_in cells bytes)
  nth-stop r e = by-list (list_in cells bytes) e
    where
      by-list : (l : Listed) → listing bytes l ≡ Err r → Err r ≡ nth_in k l
      by-list (refused q) f = cc
      by-list (entries es end) f = absurd (let z : ◌≡◌ {A = ℕ} 0 1 = cc in omega arith)

  pub nth_on : (rest : Rest) (r : Option Entry) → listing bytes (list_in cells bytes) ≡ Ok rest → EntryPicked bytes rest k r → Ok r ≡ nth_in k (list_in cells bytes)
  nth_on rest r e p = by-list (list_in cells bytes) refl
    where
      by-list : (l : Listed) → list_in cells bytes ≡ l → Ok r ≡ nth_in k l
      by-list (refused q) f = absurd (let g : Err q ≡ Ok rest = rw f at e in let z : ◌≡◌ {A = ℕ} 0 1 = cc in omega arith)
      by-list (entries es end) f =
          let (start, is, holds) = listed-holds bytes es end cells f in
          let same : start ≡ rest = cc in
          ap Ok (p.is es (rw same at holds))
