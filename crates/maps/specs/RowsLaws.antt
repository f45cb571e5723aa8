-- Laws of rows. Assumes nothing.
use Rattle.std.specs.Prelude.{List, ◌++◌, ◌≡◌, set}
use Rattle.std.proofs.Math.Path.{refl, sym, ap, ap₂}
use Rattle.std.proofs.Common.{◌∙◌, zero-mul, not-suc-le-zero, add-one, length-append, length-take, length-drop, length-set}
use Prim.Native.Nat.{ℕ, zero, suc, ◌+◌, ◌*◌, ◌≤◌, ◌<◌}
use Rattle.std.proofs.Math.Decide.{ℕ_discrete}
use Rattle.std.proofs.Math.Nat.{suc-mul}
use native.Mathlib.Omega.{arith}
use Rattle.std.proofs.Math.ListN.{length, get_or, take, drop, get_or-append}
use Rattle.std.proofs.Math.Seq.{paste, get_or-append-add, get_or-take, get_or-drop, paste-zero, paste-suc}
use Rattle.std.proofs.lemmas.List.Edits.{sets-eq}
use Rattle.number.specs.Lent.{over}
use Rattle.number.specs.LentLaws.{length_over, over-more}
use Rattle.book.specs.IndexLaws.{index_below, row_below}
use Rattle.maps.specs.Rows.{row, rows}

module _ (from : List ℕ) (t : ℕ) (fits : length from ≡ 4096) (narrow : t ≤ 32) where
  pub row-of-length : (q : ℕ) → q < 128 → length (row from t q) ≡ t
  row-of-length q h = simp (length-take, length-drop) (omega arith)

  pub rows-length : (s : ℕ) → s ≤ 128 → length (rows from t s) ≡ s * t
  unfolding rows
  rows-length zero h = sym (zero-mul t)
  rows-length (suc s) h = rw (length-append, suc-mul, rows-length s (omega arith), row-of-length s h)

  -- the entry (q, z)
  pub rows-entry : (s q z : ℕ) → s ≤ 128 → q < s → z < t → get_or (rows from t s) (q * t + z) 0 ≡ get_or from (q * 32 + z) 0
  unfolding rows
  rows-entry zero q z hs hq hz = absurd (not-suc-le-zero hq)
  rows-entry (suc s) q z hs hq hz = go (ℕ_discrete q s) (λ l. rows-entry s q z (omega arith) l hz)
    where
      go : Dec (q ≡ s) → (q < s → get_or (rows from t s) (q * t + z) 0 ≡ get_or from (q * 32 + z) 0)
          → get_or (rows from t s ++ row from t s) (q * t + z) 0 ≡ get_or from (q * 32 + z) 0
      go (yes e) r =
          let at : q * t + z ≡ length (rows from t s) + z = omega (arith, rows-length s (omega arith), ap (λ (k : ℕ). k * t) e) in
          rw (at, get_or-append-add, get_or-take t (drop (s * 32) from) z 0 hz, get_or-drop, e)
      go (no n) r =
          let l : q < s = omega arith in
          get_or-append (rows from t s) (row from t s) 0 (q * t + z) (omega (arith, rows-length s (omega arith), index_below s t q z l hz)) ∙ r l

  -- one row more
  pub rows_more : (s : ℕ) (to : List ℕ) → s < 128 → suc s * t ≤ length to
      → paste (over (rows from t s) to) (s * t) (drop (s * 32) from) t ≡ over (rows from t (suc s)) to
  unfolding rows
  rows_more s to h room =
      let done = rows from t s in
      let last = row from t s in
      let now = over done to in
      let before = rows-length s (omega arith) in
      let long = row-of-length s h in
      let enough : length done + length last ≤ length to = omega (arith, suc-mul s t) in
      ap₂ (λ (a b : ℕ). take a now ++ last ++ drop (a + b) now) (sym before) (sym long)
      ∙ sym (sets-eq last now (length done) (rw (length_over done to (omega arith)) enough))
      ∙ over-more done last to enough

-- ---- copying: i entries from a place of one list stand at a place of another
pub record EntriesCopied (from : List ℕ) (start : ℕ) (lent : List ℕ) (at : ℕ) (now : List ℕ) (i : ℕ) : Type 0 where
  pub size : length now ≡ length lent
  pub same : now ≡ paste lent at (drop start from) i

module _ {from : List ℕ} {start : ℕ} {lent : List ℕ} {at : ℕ} where
  pub entries-copied-none : EntriesCopied from start lent at lent 0
  entries-copied-none = record { size = refl; same = paste-zero lent at (drop start from) }

  pub entries-copied-more : {now : List ℕ} {i : ℕ} → EntriesCopied from start lent at now i → at + i < length lent → start + i < length from
      → EntriesCopied from start lent at (set now (at + i) (get_or from (start + i) 0)) (i + 1)
  entries-copied-more {now} {i} c h l = record {
    size = length-set now (at + i) _ ∙ c.size;
    same = rw (c.same, ← get_or-drop, add-one) (paste-suc lent at (drop start from) i 0 h (rw length-drop (omega arith)));
  }

-- ---- copying rows: q of them stand at the front
pub record Rowed (from : List ℕ) (t : ℕ) (lent now : List ℕ) (q at : ℕ) : Type 0 where
  pub place : at ≡ q * t
  pub front : now ≡ over (rows from t q) lent

module _ {from : List ℕ} {t : ℕ} {lent : List ℕ} (fits : length from ≡ 4096) (narrow : t ≤ 32) where
  pub rowed-none : Rowed from t lent lent 0 0
  unfolding rows
  rowed-none = record { place = sym (zero-mul t); front = refl }

  pub rowed-more : {now new : List ℕ} {q at : ℕ} (s : ℕ) → Rowed from t lent now q at → q < s → s ≤ 128 → s * t ≤ length lent
      → new ≡ paste now at (drop (q * 32) from) t → Rowed from t lent new (q + 1) (at + t)
  rowed-more {now} {new} {q} {at} s r h k l e =
      let room = row_below s t q h in
      record {
        place = rw (add-one, suc-mul) (omega (arith, r.place));
        front = rw (e, r.front, r.place, add-one) (rows_more from t fits narrow q lent (omega arith) (omega (arith, suc-mul q t)));
      }
