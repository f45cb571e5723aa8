-- Laws of the loops that decode a row into cells and encode cells into bytes. Assumes nothing.
use Rattle.std.specs.Prelude.{Ok, Err, ◌≡◌, refl, List, [], ◌∷◌, ◌++◌, ℕ, suc, ◌+◌, ◌*◌, ◌-◌, ◌≤◌, ◌<◌, length, get_or, take, drop, set}
use Rattle.std.proofs.Common.{sym, ◌∙◌, ap, append_assoc, append-nil, add-one, arith, length-append, take-append-drop, take-suc, take_all}
use Rattle.std.proofs.lemmas.List.Edits.{sets}
use Rattle.std.proofs.Math.Seq.{get_or-append_seam}
use Rattle.number.specs.Lent.{over}
use Rattle.number.specs.LentLaws.{over-more}
use Rattle.number.specs.Number.{Number, written}
use Rattle.number.specs.NumberLaws.{written-most, written_one}
use Rattle.number.specs.declared.Cursor.{Cursor}
use Rattle.number.specs.declared.cause.Refusal.{Refusal}
use Rattle.book.specs.Book.{bytes_of}
use Rattle.book.specs.RowLaws.{values, values-more, values-stop, values-done}

-- ---- decoding: i of n numbers stand at the front of the lent cells, and the next is at a place
pub record Decoded (source : ℕ → Number) (n : ℕ) (lent now : List ℕ) (i at : ℕ) : Type 0 where
  pub done : List ℕ
  pub count : length done ≡ i
  pub front : now ≡ over done lent
  pub left : values source n 0 ≡ done ++ values source (n - i) at

module _ {source : ℕ → Number} {n : ℕ} {lent : List ℕ} where
  pub decoded-none : Decoded source n lent lent 0 0
  decoded-none = let k : n - 0 ≡ n = omega arith in record { done = []; count = refl; front = refl; left = rw k }

  pub decoded-more : {now : List ℕ} {i at v : ℕ} {next : Cursor} → Decoded source n lent now i at → i < n → n ≤ length lent → source at ≡ Ok (v, next)
      → Decoded source n lent (set now i v) (i + 1) next.at
  decoded-more {now} {i} {at} {v} {next} d h l e = record {
    done = d.done ++ (v ∷ []);
    count = rw length-append (omega (arith, d.count));
    front = rw (d.front, ← d.count) (over-more d.done (v ∷ []) lent (omega (arith, d.count)));
    left = rw append_assoc (d.left ∙ ap (λ (r : List ℕ). d.done ++ r) (values-more source n i at v next h e));
  }

  -- the next number is one of those
  pub decoded-next : {now : List ℕ} {i at v : ℕ} {next : Cursor} → Decoded source n lent now i at → i < n → source at ≡ Ok (v, next) → get_or (values source n 0) i 0 ≡ v
  decoded-next {now} {i} {at} {v} {next} d h e =
      ap (λ (l : List ℕ). get_or l i 0) d.left
      ∙ rw (values-more source n i at v next h e) (ap (λ (k : ℕ). get_or (d.done ++ (v ∷ values source (n - (i + 1)) next.at)) k 0) (sym d.count) ∙ get_or-append_seam d.done v (values source (n - (i + 1)) next.at) 0)

  -- the numbers so far are all
  all : {now : List ℕ} {i at : ℕ} → (d : Decoded source n lent now i at) → values source (n - i) at ≡ [] → now ≡ over (values source n 0) lent
  all {now} d e =
      let whole : values source n 0 ≡ d.done = d.left ∙ ap (λ (r : List ℕ). d.done ++ r) e ∙ append-nil d.done in
      d.front ∙ ap (λ (out : List ℕ). over out lent) (sym whole)

  pub decoded-stop : {now : List ℕ} {i at : ℕ} {r : Refusal} → Decoded source n lent now i at → i < n → source at ≡ Err r → now ≡ over (values source n 0) lent
  decoded-stop {now} {i} {at} {r} d h e = all d (values-stop source n i at r h e)

  pub decoded-done : {now : List ℕ} {i at : ℕ} → Decoded source n lent now i at → n ≤ i → now ≡ over (values source n 0) lent
  decoded-done {now} {i} {at} d h = all d (values-done source n i at h)

-- ---- encoding
pub bytes-append : (a b : List ℕ) → bytes_of (a ++ b) ≡ bytes_of a ++ bytes_of b
bytes-append [] b = refl
bytes-append (n ∷ a) b = rw append_assoc (ap (λ (l : List ℕ). written n ++ l) (bytes-append a b))

-- numbers below 128 take one byte each
pub bytes-narrow : (w : List ℕ) → ((i : ℕ) → i < length w → get_or w i 0 < 128) → bytes_of w ≡ w
bytes-narrow [] h = refl
bytes-narrow (a ∷ w) h = rw (written_one a (h 0 (omega arith)), bytes-narrow w (λ i l. h (suc i) (omega arith)))

-- the bytes of one cell more
pub bytes_take : (cells : List ℕ) (i : ℕ) → i < length cells → bytes_of (take (i + 1) cells) ≡ bytes_of (take i cells) ++ written (get_or cells i 0)
bytes_take cells i h = rw (add-one, take-suc cells i 0 h, bytes-append, append-nil)

pub bytes_count : (cells : List ℕ) (i : ℕ) → i < length cells
    → length (bytes_of (take (i + 1) cells)) ≡ length (bytes_of (take i cells)) + length (written (get_or cells i 0))
bytes_count cells i h = rw (bytes_take cells i h, length-append)

-- those of the cells up to one are no more than all
pub bytes_fit : (cells : List ℕ) (i : ℕ) → i < length cells → length (bytes_of (take i cells)) + length (written (get_or cells i 0)) ≤ length (bytes_of cells)
bytes_fit cells i h =
    let whole = ap (λ (l : List ℕ). length (bytes_of l)) (take-append-drop (i + 1) cells) in
    let split : length (bytes_of (take (i + 1) cells ++ drop (i + 1) cells)) ≡ length (bytes_of (take (i + 1) cells)) + length (bytes_of (drop (i + 1) cells)) =
    rw (bytes-append, length-append) in
    omega (arith, bytes_count cells i h)

-- 'It takes one to three bytes'
pub bytes_most : (cells : List ℕ) → length (bytes_of cells) ≤ 3 * length cells
bytes_most [] = omega arith
bytes_most (n ∷ cells) = rw length-append (omega (arith, written-most n, bytes_most cells))

-- i cells stand encoded at the front of the lent bytes, up to a place
pub record Encoded (cells lent now : List ℕ) (i at : ℕ) : Type 0 where
  pub place : at ≡ length (bytes_of (take i cells))
  pub front : now ≡ over (bytes_of (take i cells)) lent

module _ {cells lent : List ℕ} where
  pub encoded-none : Encoded cells lent lent 0 0
  encoded-none = record { place = refl; front = refl }

  pub encoded-fits : {now : List ℕ} {i at : ℕ} → Encoded cells lent now i at → i < length cells → length (bytes_of cells) ≤ length lent
      → at + length (written (get_or cells i 0)) ≤ length lent
  encoded-fits {now} {i} {at} e h l = omega (arith, bytes_fit cells i h, e.place)

  pub encoded-more : {now new : List ℕ} {i at next : ℕ} → Encoded cells lent now i at → i < length cells → length (bytes_of cells) ≤ length lent
      → next ≡ at + length (written (get_or cells i 0)) → new ≡ sets now at (written (get_or cells i 0)) → Encoded cells lent new (i + 1) next
  encoded-more {now} {new} {i} {at} {next} e h l p q = record {
    place = omega (arith, bytes_count cells i h, p, e.place);
    front = rw (q, e.front, e.place, bytes_take cells i h) (over-more (bytes_of (take i cells)) (written (get_or cells i 0)) lent (omega (arith, bytes_fit cells i h)));
  }

  pub encoded-done : {now : List ℕ} {i at : ℕ} → Encoded cells lent now i at → length cells ≤ i → now ≡ over (bytes_of cells) lent
  encoded-done {now} {i} {at} e h = rw (take_all i cells h) at e.front
