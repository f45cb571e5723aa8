-- Laws of rows of numbers: number by number, and what holds of the numbers that were read. Assumes nothing.
use Rattle.number.specs.declared.cause.Cause.{Cause}
use Rattle.std.specs.Prelude.{Option, Some, None, Result, Ok, Err, ◌≡◌, List, [], ◌∷◌, ◌++◌, length, get_or, take}
use Rattle.std.proofs.Math.Path.{refl}
use Rattle.std.proofs.Common.{sym, ◌∙◌, ap, append_assoc, append-nil, zero-add, suc-add, le_of_suc-le-suc, not-suc-le-zero, eq-eqb, ne_eqb, length-append}
use Prim.Native.Nat.{ℕ, zero, suc, ◌+◌, ◌-◌, ◌≤◌, ◌<◌}
use Rattle.std.proofs.Math.Decide.{ℕ_discrete}
use native.Mathlib.Omega.{arith}
use Rattle.number.specs.Number.{Number, value}
use Rattle.number.specs.declared.Cursor.{Cursor}
use Rattle.number.specs.declared.cause.Refusal.{Refusal}
use Rattle.book.specs.Book.{Row, read, refused, before, admitted, row, joined}

-- where a row ends, or its refusal: what a loop that keeps no number knows of it
abbrev pub ends : Row → Result ℕ Refusal
ends (read vs at) = Ok at
ends (refused r) = Err r

-- what goes on where a row ended, or that row's refusal
abbrev pub after : Result ℕ Refusal → (ℕ → Result ℕ Refusal) → Result ℕ Refusal
after (Err r) rest = Err r
after (Ok at) rest = rest at

pub ends-before : (vs : List ℕ) (w : Row) → ends (before vs w) ≡ ends w
ends-before vs (read ws at) = refl
ends-before vs (refused r) = refl

pub ends-joined : (w : Row) (rest : ℕ → Row) → ends (joined w (λ vs next. rest next)) ≡ after (ends w) (λ at. ends (rest at))
ends-joined (read vs at) rest = ends-before vs (rest at)
ends-joined (refused r) rest = refl

-- ---- a row of n numbers after i of them, as a loop has it
module _ (source : ℕ → Number) (fault : List ℕ → ℕ → Option Cause) (n i at : ℕ) (seen : List ℕ) where
  pub row_more : (v : ℕ) (next : Cursor) → i < n → admitted (fault seen) at (source at) ≡ Ok (v, next)
      → row source fault (n - i) seen at ≡ before (v ∷ []) (row source fault (n - (i + 1)) (seen ++ (v ∷ [])) next.at)
  unfolding row
  row_more v next h e =
      let k : n - i ≡ suc (n - (i + 1)) = omega arith in
      rw (k, e)

  row-stop : (r : Refusal) → i < n → admitted (fault seen) at (source at) ≡ Err r → row source fault (n - i) seen at ≡ refused r
  unfolding row
  row-stop r h e =
      let k : n - i ≡ suc (n - (i + 1)) = omega arith in
      rw (k, e)

  row_done : n ≤ i → row source fault (n - i) seen at ≡ read [] at
  unfolding row
  row_done h = let k : n - i ≡ 0 = omega arith in rw k

-- a loop over the row that keeps no number: i of its n numbers were seen, and the next stands at a place
pub record Turns (source : ℕ → Number) (fault : List ℕ → ℕ → Option Cause) (n start i at : ℕ) : Type 0 where
  pub seen : List ℕ
  pub count : length seen ≡ i
  pub left : ends (row source fault n [] start) ≡ ends (row source fault (n - i) seen at)

module _ {source : ℕ → Number} {fault : List ℕ → ℕ → Option Cause} {n start : ℕ} where
  abbrev pub turns-none : Turns source fault n start 0 start
  turns-none = let k : n - 0 ≡ n = omega arith in record { seen = []; count = refl; left = rw k }

  abbrev pub turns_more : {i at v : ℕ} {next : Cursor} (t : Turns source fault n start i at) → i < n → admitted (fault t.seen) at (source at) ≡ Ok (v, next)
      → Turns source fault n start (i + 1) next.at
  turns_more {i} {at} {v} {next} t h e = record {
    seen = t.seen ++ (v ∷ []);
    count = rw length-append (omega (arith, t.count));
    left =
        t.left ∙ ap ends (row_more source fault n i at t.seen v next h e)
        ∙ ends-before (v ∷ []) (row source fault (n - (i + 1)) (t.seen ++ (v ∷ [])) next.at);
  }

  pub turns-stop : {i at : ℕ} {r : Refusal} (t : Turns source fault n start i at) → i < n → admitted (fault t.seen) at (source at) ≡ Err r
      → Err r ≡ ends (row source fault n [] start)
  turns-stop {i} {at} {r} t h e = sym (t.left ∙ ap ends (row-stop source fault n i at t.seen r h e))

  pub turns-done : {i at : ℕ} → Turns source fault n start i at → n ≤ i → Ok at ≡ ends (row source fault n [] start)
  turns-done {i} {at} t h = sym (t.left ∙ ap ends (row_done source fault n i at t.seen h))

-- ---- a row that was read
pub refused-not-read : (r : Refusal) (vs : List ℕ) (next : ℕ) → refused r ≡ read vs next → ⊥
refused-not-read r vs next e = let z : ◌≡◌ {A = ℕ} 0 1 = cc in omega arith

-- its first number, which has no fault, and the others
pub record RowFront (source : ℕ → Number) (fault : List ℕ → ℕ → Option Cause) (k : ℕ) (seen : List ℕ) (at : ℕ) (vs : List ℕ) (next : ℕ) : Type 0 where
  pub v : ℕ
  pub cursor : Cursor
  pub rest : List ℕ
  pub found : source at ≡ Ok (v, cursor)
  pub clean : fault seen v ≡ None
  pub split : vs ≡ v ∷ rest
  pub onward : row source fault k (seen ++ (v ∷ [])) cursor.at ≡ read rest next

module _ (source : ℕ → Number) (fault : List ℕ → ℕ → Option Cause) where
  pub row-front : (k : ℕ) (seen : List ℕ) (at : ℕ) (vs : List ℕ) (next : ℕ) → row source fault (suc k) seen at ≡ read vs next
      → RowFront source fault k seen at vs next
  unfolding row
  row-front k seen at vs next e = first (source at) refl
    where
      rest_of : (v : ℕ) (c : Cursor) → source at ≡ Ok (v, c) → fault seen v ≡ None → (w : Row) → row source fault k (seen ++ (v ∷ [])) c.at ≡ w
          → before (v ∷ []) w ≡ read vs next → RowFront source fault k seen at vs next
      rest_of v c f z (refused r) g h = absurd (refused-not-read r vs next h)
      rest_of v c f z (read ws end) g h = record { v = v; cursor = c; rest = ws; found = f; clean = z; split = cc; onward = let j : end ≡ next = cc in rw g (rw j) }

      second : (v : ℕ) (c : Cursor) → source at ≡ Ok (v, c) → (o : Option Cause) → fault seen v ≡ o → RowFront source fault k seen at vs next
      second v c f None z = rest_of v c f z (row source fault k (seen ++ (v ∷ [])) c.at) refl (rw (f, z) at e)
      second v c f (Some cause) z = absurd (refused-not-read _ vs next (rw (f, z) at e))

      first : (n : Number) → source at ≡ n → RowFront source fault k seen at vs next
      first (Ok (v, c)) f = second v c f (fault seen v) refl
      first (Err r) f = absurd (refused-not-read r vs next (rw f at e))

  pub row-empty : (seen : List ℕ) (at : ℕ) (vs : List ℕ) (next : ℕ) → row source fault 0 seen at ≡ read vs next → ([] ≡ vs) × (at ≡ next)
  unfolding row
  row-empty seen at vs next e = (cc, cc)

  pub row-length : (k : ℕ) (seen : List ℕ) (at : ℕ) (vs : List ℕ) (next : ℕ) → row source fault k seen at ≡ read vs next → length vs ≡ k
  row-length zero seen at vs next e = ap length (sym (row-empty seen at vs next e).0)
  row-length (suc k) seen at vs next e =
      let f = row-front k seen at vs next e in
      rw f.split (ap suc (row-length k (seen ++ (f.v ∷ [])) f.cursor.at f.rest next f.onward))

  -- no number has a fault
  pub row-clean : (k : ℕ) (seen : List ℕ) (at : ℕ) (vs : List ℕ) (next : ℕ) → row source fault k seen at ≡ read vs next → (j : ℕ) → j < k
      → fault (seen ++ take j vs) (get_or vs j 0) ≡ None
  row-clean zero seen at vs next e j h = absurd (not-suc-le-zero h)
  row-clean (suc k) seen at vs next e zero h = let f = row-front k seen at vs next e in rw (f.split, append-nil) f.clean
  row-clean (suc k) seen at vs next e (suc j) h =
      let f = row-front k seen at vs next e in
      rw f.split (rw append_assoc at (row-clean k (seen ++ (f.v ∷ [])) f.cursor.at f.rest next f.onward j (le_of_suc-le-suc h)))

-- ---- the numbers of a source, whatever their faults
abbrev pub onto : Number → (ℕ → List ℕ) → List ℕ
onto (Err r) rest = []
onto (Ok (v, next)) rest = v ∷ rest next.at

-- k numbers from a place on, or as many as stand there
unfoldable pub values : (ℕ → Number) → ℕ → ℕ → List ℕ
values source zero at = []
values source (suc k) at = onto (source at) (λ next. values source k next)

module _ (source : ℕ → Number) (n i at : ℕ) where
  pub values-more : (v : ℕ) (next : Cursor) → i < n → source at ≡ Ok (v, next) → values source (n - i) at ≡ v ∷ values source (n - (i + 1)) next.at
  unfolding values
  values-more v next h e =
      let k : n - i ≡ suc (n - (i + 1)) = omega arith in
      rw (k, e)

  pub values-stop : (r : Refusal) → i < n → source at ≡ Err r → values source (n - i) at ≡ []
  unfolding values
  values-stop r h e =
      let k : n - i ≡ suc (n - (i + 1)) = omega arith in
      rw (k, e)

  pub values-done : n ≤ i → values source (n - i) at ≡ []
  unfolding values
  values-done h = let k : n - i ≡ 0 = omega arith in rw k

-- those of a row that was read, and m after it
pub values-row : (source : ℕ → Number) (fault : List ℕ → ℕ → Option Cause) (k m : ℕ) (seen : List ℕ) (at : ℕ) (vs : List ℕ) (next : ℕ)
    → row source fault k seen at ≡ read vs next → values source (k + m) at ≡ vs ++ values source m next
unfolding values
values-row source fault zero m seen at vs next e = let (p, q) = row-empty source fault seen at vs next e in rw (zero-add, ← p, q)
values-row source fault (suc k) m seen at vs next e =
    let f = row-front source fault k seen at vs next e in
    rw (suc-add, f.found)
    (ap (λ (l : List ℕ). f.v ∷ l) (values-row source fault k m (seen ++ (f.v ∷ [])) f.cursor.at f.rest next f.onward)
    ∙ ap (λ (l : List ℕ). l ++ values source m next) (sym f.split))
