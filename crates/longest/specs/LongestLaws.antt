-- 'The longest book has 16,679 bytes': no book has more, nor more than 8,485 cells, and one has as many. Assumes nothing.
use Rattle.std.specs.Prelude.{Ok, Bool, List, [], ◌∷◌, ◌++◌, ◌≡◌, ltb, leb, eqb, length, get_or, take, drop, replicate}
use Rattle.std.proofs.Math.Bool.{true, cond}
use Rattle.std.proofs.Math.Path.{refl}
use Rattle.std.proofs.Common.{sym, ◌∙◌, ap, zero-mul, suc-mul, mul-suc, arith, length-append, length-take, length-drop, take-append-drop, get_or-drop, get_or-take}
use Prim.Native.Nat.{ℕ, zero, suc, ◌+◌, ◌*◌, ◌-◌, ◌/◌, ◌%◌, ◌≤◌, ◌<◌}
use Rattle.std.proofs.Math.Decide.{dec_lt, ℕ_discrete}
use borrow.Author.Tests.{lt-ltb, le-leb, eq-eqb, ne_eqb}
use Rattle.std.proofs.lemmas.List.{length-replicate, get_or-replicate}
use Rattle.number.specs.Lent.{firsts}
use Rattle.number.specs.Number.{written}
use Rattle.number.specs.NumberLaws.{Bytes, written_one, written-two}
use Rattle.book.specs.Action.{action_of}
use Rattle.book.specs.ActionLaws.{action-odd}
use Rattle.book.specs.Book.{read, body, of_bytes, of_cells, bytes_of, checked}
use Rattle.book.specs.BookLaws.{checked-valid}
use Rattle.book.specs.BytesLaws.{bytes-append}
use Rattle.book.specs.CellsLaws.{Suits, Composed}
use Rattle.book.specs.Range.{head_highest, part_length, allowed, among, fits}
use Rattle.book.specs.RangeLaws.{actions-few, gotos-few, ranks-few, Small, Few, few, head-range}
use Rattle.book.proofs.SeenLaws.{by-number-suit}
use Rattle.book.specs.RoundTripLaws.{below-append, read-written, written_read, numbers-bytes}
use Rattle.book.specs.Tables.{sizes_of}
use Rattle.book.specs.TablesLaws.{IsBook}
use Rattle.book.proofs.TablesLaws.{accepted-book, book-composed, composed-accepted}
use Rattle.book.specs.WidthLaws.{production-narrow, rank-narrow, highest-wide, fits-wide, suits-wide, composed-wide}
use Rattle.book.specs.declared.Action.TheVariants.{Reduce}
use Rattle.book.specs.declared.Part.{Part}
use Rattle.book.specs.declared.Part.TheVariants.{Head, Productions, Ranks, Actions, Gotos}
use Rattle.book.specs.declared.Sizes.{Sizes}

-- ---- at most so many cells
pub book-cells-most : (cells : List ℕ) (d : Sizes) → checked (of_cells cells) ≡ Ok d → length cells ≤ 8485
book-cells-most cells d e = let h = accepted-book cells d e in omega (arith, h.count, h.small.productions, h.small.terminals, ranks-few d, actions-few d h.small, gotos-few d h.small)

-- ---- the widths of numbers
narrow : (n : ℕ) → n < 128 → length (written n) ≤ 1
narrow n h = rw (written_one n h) (omega arith)

pub wide : (n : ℕ) → n < 16384 → length (written n) ≤ 2
wide n h = go (dec_lt n 128)
  where
    go : Dec (n < 128) → length (written n) ≤ 2
    go (yes l) = omega (arith, narrow n l)
    go (no l) = rw (written-two n (omega arith) h) (omega arith)

-- numbers of at most b bytes each
bytes-each : (b : ℕ) (vs : List ℕ) → ((j : ℕ) → j < length vs → length (written (get_or vs j 0)) ≤ b) → length (bytes_of vs) ≤ b * length vs
bytes-each b [] h = omega arith
bytes-each b (v ∷ vs) h = rw (length-append, mul-suc) (omega (arith, h 0 (omega arith), bytes-each b vs (λ j l. h (suc j) (omega arith))))

-- ---- the widths of a book's numbers
-- no number of a part is wider than so many bytes
abbrev width_of : Part → ℕ
width_of Head = 2
width_of Productions = 1
width_of Ranks = 1
width_of Actions = 2
width_of Gotos = 2

number-bytes : (d : Sizes) → Few d → (part : Part) (i : ℕ) (there : Bool) (v : ℕ) → fits d part i there v ≡ true → length (written v) ≤ width_of part
number-bytes d h Head i there v e = wide v (fits-wide d h Head i there v e)
number-bytes d h Productions i there v e = narrow v (production-narrow d h i there v e)
number-bytes d h Ranks i there v e = narrow v (rank-narrow d h i there v e)
number-bytes d h Actions i there v e = wide v (fits-wide d h Actions i there v e)
number-bytes d h Gotos i there v e = wide v (fits-wide d h Gotos i there v e)

-- ---- of parts
abbrev bytes_most : Sizes → List Part → ℕ
bytes_most d [] = 0
bytes_most d (part ∷ more) = width_of part * part_length d part + bytes_most d more

composed-bytes : (d : Sizes) → Few d → (parts : List Part) (vs : List ℕ) → Composed d parts vs → length (bytes_of vs) ≤ bytes_most d parts
composed-bytes d h [] vs c = rw c (omega arith)
composed-bytes d h (part ∷ more) vs (front, back, both, (count, suits), c) =
    let first = bytes-each (width_of part) front (λ j l. number-bytes d h part j _ _ (suits j (rw count at l))) in
    rw (both, bytes-append, length-append) (omega (arith, rw count at first, composed-bytes d h more back c))

-- ---- of a book
pub cell-wide : {d : Sizes} {cells : List ℕ} → IsBook d cells → (i : ℕ) → get_or cells i 0 < 16384
cell-wide {d} {cells} h i =
    let (head, rest, both, suits, c) = book-composed h in
    rw both (below-append 16384 head rest (suits-wide d (few h.small) Head head suits) (composed-wide d (few h.small) body rest c) i)

-- of the head the form, T and N take a byte each
highest-narrow : (j : ℕ) → j < 3 → get_or head_highest j 0 < 128
highest-narrow zero l = omega arith
highest-narrow (suc zero) l = omega arith
highest-narrow (suc (suc zero)) l = omega arith
highest-narrow (suc (suc (suc j))) l = absurd (omega arith)

head_bytes : (d : Sizes) (head : List ℕ) → Suits d Head head → length (bytes_of head) ≤ 7
head_bytes d head (count, suits) =
    let most : (j : ℕ) → j < 5 → get_or head j 0 ≤ get_or head_highest j 0 = λ j l. (head-range d j _ _ (suits j l)).1 in
    let a = bytes-each 1 (take 3 head) (λ j l.
    (let k : j < 3 = omega (arith, length-take 3 head) in
    rw (get_or-take 3 head j 0 k) (narrow _ (omega (arith, most j (omega arith), highest-narrow j k))))) in
    let b = bytes-each 2 (drop 3 head) (λ j l. rw get_or-drop (wide _ (omega (arith, most (3 + j) (omega (arith, length-drop 3 head)), highest-wide (3 + j))))) in
    let both : length (bytes_of head) ≡ length (bytes_of (take 3 head)) + length (bytes_of (drop 3 head)) =
    ap (λ (l : List ℕ). length (bytes_of l)) (sym (take-append-drop 3 head)) ∙ rw (bytes-append, length-append) in
    omega (arith, both, a, b, length-take 3 head, length-drop 3 head)

cells-bytes : {d : Sizes} {cells : List ℕ} → IsBook d cells → length (bytes_of cells) ≤ 16679
cells-bytes {d} {cells} h =
    let (head, rest, both, suits, c) = book-composed h in
    rw (both, bytes-append, length-append)
    (omega
    (arith, head_bytes d head suits, composed-bytes d (few h.small) body rest c, h.small.productions, h.small.terminals, ranks-few d, actions-few d h.small, gotos-few d h.small))

-- ---- at most so many bytes
pub book-bytes-most : (bytes : List ℕ) (d : Sizes) → Bytes bytes → checked (of_bytes bytes) ≡ Ok d → length bytes ≤ 16679
book-bytes-most bytes d b e =
    let (cells, next, is, sizes) = checked-valid (of_bytes bytes) d e in
    let (same, valid) = written_read bytes cells next b is in
    rw same at (cells-bytes (accepted-book cells (sizes_of cells) (ap checked valid)))

-- ---- several times one number
bytes-replicate : (n v : ℕ) → length (bytes_of (replicate n v)) ≡ n * length (written v)
bytes-replicate zero v = sym (zero-mul (length (written v)))
bytes-replicate (suc n) v = rw (length-append, suc-mul) (omega (arith, bytes-replicate n v))

-- ---- a book of given sizes in which each number after the head is as wide as it can be: the productions are the last nonterminal's, each
-- rank is its terminal's number, each action reduces by the last production, and each goto leads to the last state
abbrev widest : Sizes → Part → List ℕ
widest d Head = []
widest d Productions = replicate (2 * d.p) (d.n - 1)
widest d Ranks = firsts (λ i. i) (part_length d Ranks)
widest d Actions = replicate (d.s * d.t) (1 + 2 * d.p)
widest d Gotos = replicate (d.s * d.n) d.s

abbrev filled : Sizes → List Part → List ℕ
filled d [] = []
filled d (part ∷ more) = widest d part ++ filled d more

-- a number again and again, where what is there already does not count
replicate-suits : (d : Sizes) (part : Part) (n v : ℕ) → n ≡ part_length d part → ((i : ℕ) (there : Bool) → fits d part i there v ≡ true) → Suits d part (replicate n v)
replicate-suits d part n v e f = (length-replicate n v ∙ e, λ i l. rw (get_or-replicate n i v 0 (omega (arith, l, e))) (f i _))

abbrev head_of : Sizes → List ℕ
head_of d = d.form ∷ d.t ∷ d.n ∷ d.s ∷ d.p ∷ []

unfoldable pub full : Sizes → List ℕ
full d = head_of d ++ filled d body

full-sizes : (d : Sizes) → d ≡ sizes_of (full d)
unfolding full sizes_of
full-sizes d = refl

module _ (d : Sizes) (small : Small d) (some : 1 ≤ d.n) (one : 1 ≤ d.p) where
  full-head : Suits d Head (head_of d)
  unfolding fits
  full-head = (refl, λ i l. at i l)
    where
      at : (i : ℕ) → i < 5 → fits d Head i (among (get_or (head_of d) i 0) (take i (head_of d))) (get_or (head_of d) i 0) ≡ true
      at zero l = rw (le-leb 1 d.form small.some-form, le-leb d.form 2 small.forms)
      at (suc zero) l = rw (le-leb 1 d.t small.some-terminal, le-leb d.t 32 small.terminals)
      at (suc (suc zero)) l = rw (le-leb 0 d.n (omega arith), le-leb d.n 32 small.nonterminals)
      at (suc (suc (suc zero))) l = rw (le-leb 1 d.s small.some-state, le-leb d.s 128 small.states)
      at (suc (suc (suc (suc zero)))) l = rw (le-leb 0 d.p (omega arith), le-leb d.p 128 small.productions)
      at (suc (suc (suc (suc (suc i))))) l = absurd (omega arith)

  full_body : Composed d body (filled d body)
  unfolding fits allowed
  full_body = (
    widest d Productions,
    _,
    refl,
    replicate-suits d Productions _ _ refl (λ i there. by_turn i (ℕ_discrete (i % 2) 0)),
    (
      widest d Ranks,
      _,
      refl,
      by-number-suit d (part_length d Ranks) refl (ranks-few d),
      (
        widest d Actions,
        _,
        refl,
        replicate-suits d Actions _ _ refl (λ i there. rw (reduction, lt-ltb (d.p - 1) d.p (omega arith))),
        (widest d Gotos, _, refl, replicate-suits d Gotos _ _ refl (λ i there. le-leb d.s d.s (omega arith)), refl),
      ),
    ),
  )
    where
      by_turn : (i : ℕ) → Dec (i % 2 ≡ 0) → cond (eqb (i % 2) 0) (ltb (d.n - 1) d.n) (leb (d.n - 1) 32) ≡ true
      by_turn i (yes z) = rw (eq-eqb (i % 2) 0 z, lt-ltb (d.n - 1) d.n (omega arith))
      by_turn i (no z) = rw (ne_eqb (i % 2) 0 z, le-leb (d.n - 1) 32 (omega (arith, small.nonterminals)))

      reduction : action_of (1 + 2 * d.p) ≡ Reduce (d.p - 1)
      reduction =
          let half : (2 * d.p - 1) / 2 ≡ d.p - 1 = omega arith in
          rw half at (action-odd (1 + 2 * d.p) (2 * d.p - 1) (omega arith) (omega arith))

  full-accepted : of_cells (full d) ≡ read (full d) (length (full d))
  unfolding full
  full-accepted = composed-accepted d (head_of d) (filled d body) (full-sizes d) full-head full_body

-- ---- the longest book
abbrev pub largest : Sizes
largest = record { form = 2; t = 32; n = 32; s = 128; p = 128 }

unfoldable pub longest : List ℕ
longest = full largest

longest-accepted : of_cells longest ≡ read longest (length longest)
unfolding longest
longest-accepted =
    full-accepted largest
    (record { some-form = omega arith; forms = omega arith; some-terminal = omega arith; terminals = omega arith; nonterminals = omega arith; some-state = omega arith; states = omega arith; productions = omega arith })
    (omega arith)
    (omega arith)

longest-valid : checked (of_cells longest) ≡ Ok largest
unfolding longest
longest-valid = rw (longest-accepted, ← full-sizes largest)

pub longest-cells : (checked (of_cells longest) ≡ Ok largest) × (length longest ≡ 8485)
longest-cells = (longest-valid, (accepted-book longest largest longest-valid).count)

ranks-bytes : length (bytes_of (firsts (λ i. i) 32)) ≡ 32
unfolding firsts written
ranks-bytes = refl

pub longest-bytes : Bytes (bytes_of longest) × (checked (of_bytes (bytes_of longest)) ≡ Ok largest) × (length (bytes_of longest) ≡ 16679)
unfolding longest full written
longest-bytes =
    let wide = cell-wide (accepted-book longest largest longest-valid) in
    (numbers-bytes longest, rw (read-written longest (λ i. omega (arith, wide i)) longest-accepted, ← full-sizes largest), simp (bytes-append, length-append, bytes-replicate, ranks-bytes) refl)
