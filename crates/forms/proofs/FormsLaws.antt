-- Laws of the forms: a book in another form is a book with the same tables, and a book in its own form is itself. Assumes nothing.
use Rattle.std.proofs.Math.Bool.{true}
use Rattle.std.specs.Prelude.{cond, ◌&&◌, List, [], ◌∷◌, ◌++◌, ◌≡◌, ltb, length, get_or, take}
use Rattle.std.proofs.Common.{append_assoc, ◌∙◌, add_assoc, length-append, get_or-append-add}
use Rattle.std.proofs.Math.Path.{refl, sym, ap}
use std.Path.{fun_ext}
use Prim.Native.Nat.{ℕ, zero, suc, ◌+◌, ◌*◌, ◌%◌, ◌≤◌, ◌<◌}
use Rattle.std.proofs.Math.Decide.{dec_lt}
use native.Mathlib.Omega.{arith}
use borrow.Author.Tests.{lt-ltb, le-ltb, le-leb}
use Rattle.std.proofs.Math.ListN.{drop, length-drop, get_or-append}
use Rattle.std.proofs.Math.Seq.{get_or-drop, take-append_seam, drop-append_seam, drop-append-le}
use Rattle.book.specs.Action.{action_of}
use Rattle.book.specs.BookLaws.{sizes-append}
use Rattle.book.specs.CellsLaws.{Suits, Composed}
use Rattle.book.specs.Range.{part_length, allowed, among, fits}
use Rattle.book.specs.Tables.{Tables, sizes_of, tables_of}
use Rattle.book.specs.TablesLaws.{Accepted, Holds, IsBook}
use Rattle.book.proofs.TablesLaws.{accepted-book, book-composed, composed-accepted}
use Rattle.book.specs.declared.Action.{Action}
use Rattle.book.specs.declared.Action.TheVariants.{Error, Accept, Shift, Reduce}
use Rattle.book.specs.declared.Part.{Part}
use Rattle.book.specs.declared.Part.TheVariants.{Head, Productions, Ranks, Actions, Gotos}
use Rattle.book.specs.declared.Sizes.{Sizes}
use Rattle.forms.specs.Forms.{in_form, in_form_1}
use Rattle.forms.specs.FormsLaws.{with_form}

-- the parts after the ranks
abbrev pub behind : List Part
behind = Actions ∷ Gotos ∷ []

-- a book taken apart: what the ranks stand between
pub record Split (d : Sizes) (cells : List ℕ) : Type 0 where
  pub head : List ℕ
  pub productions : List ℕ
  pub ranks : List ℕ
  pub tail : List ℕ
  pub whole : cells ≡ head ++ (productions ++ (ranks ++ tail))
  pub sizes : d ≡ sizes_of cells
  pub head-suits : Suits d Head head
  pub productions-suit : Suits d Productions productions
  pub ranks-suit : Suits d Ranks ranks
  pub tail-composed : Composed d behind tail

pub book-split : {d : Sizes} {cells : List ℕ} → IsBook d cells → Split d cells
book-split {d} {cells} h =
    let (head, rest, both, suits, (productions, after, first, productions-suit, (ranks, tail, second, ranks-suit, c))) = book-composed h in
    record {
      head = head;
      productions = productions;
      ranks = ranks;
      tail = tail;
      whole = both ∙ ap (λ (l : List ℕ). head ++ l) (first ∙ ap (λ (l : List ℕ). productions ++ l) second);
      sizes = h.sizes;
      head-suits = suits;
      productions-suit = productions-suit;
      ranks-suit = ranks-suit;
      tail-composed = c;
    }

module _ {d : Sizes} {cells : List ℕ} (s : Split d cells) where
  pub split-accepted : Accepted d cells
  split-accepted =
      let sizes : d ≡ sizes_of (s.head ++ (s.productions ++ (s.ranks ++ s.tail))) = rw s.whole at s.sizes in
      let book = composed-accepted d s.head (s.productions ++ (s.ranks ++ s.tail)) sizes s.head-suits
      (s.productions, _, refl, s.productions-suit, (s.ranks, _, refl, s.ranks-suit, s.tail-composed)) in
      rw (s.whole, book, ← sizes)

  -- what stands before the ranks, and after them
  before-ranks : take (5 + 2 * d.p) cells ≡ s.head ++ s.productions
  before-ranks =
      let long : length (s.head ++ s.productions) ≡ 5 + 2 * d.p = rw (length-append, s.head-suits.0, s.productions-suit.0) in
      rw (s.whole, ← append_assoc, ← long) (take-append_seam (s.head ++ s.productions) (s.ranks ++ s.tail))

  after-ranks : drop (5 + 2 * d.p + part_length d Ranks) cells ≡ s.tail
  after-ranks =
      let long : length (s.head ++ (s.productions ++ s.ranks)) ≡ 5 + 2 * d.p + part_length d Ranks =
      rw (length-append, length-append, s.head-suits.0, s.productions-suit.0, s.ranks-suit.0) (omega arith) in
      let whole : cells ≡ (s.head ++ (s.productions ++ s.ranks)) ++ s.tail = rw (append_assoc, append_assoc) s.whole in
      rw (whole, ← long) (drop-append_seam (s.head ++ (s.productions ++ s.ranks)) s.tail)

  -- in another form
  pub in-form : (form : ℕ) (ranks : List ℕ) → in_form form ranks cells ≡ (form ∷ drop 1 s.head) ++ (s.productions ++ (ranks ++ s.tail))
  unfolding in_form
  in-form form ranks =
      let front : drop 1 (s.head ++ s.productions) ≡ drop 1 s.head ++ s.productions = drop-append-le 1 s.head s.productions (omega (arith, s.head-suits.0)) in
      rw (← s.sizes, before-ranks, after-ranks, front, append_assoc)

-- which no part looks at but the ranks
allowed_same : (form : ℕ) (d : Sizes) (t : ℕ) (x : Action) → allowed (with_form form d) t x ≡ allowed d t x
unfolding allowed
allowed_same form d t Error = refl
allowed_same form d t Accept = refl
allowed_same form d t (Shift s) = refl
allowed_same form d t (Reduce p) = refl

behind-same : (form : ℕ) (d : Sizes) (tail : List ℕ) → Composed d behind tail → Composed (with_form form d) behind tail
unfolding fits
behind-same form d tail (actions, rest, both, (count, suits), (gotos, none, last, gotos-suit, end)) =
    (actions, rest, both, (count, λ i l. rw (allowed_same form d (i % d.t) (action_of (get_or actions i 0))) (suits i l)), (gotos, none, last, gotos-suit, end))

module _ {d : Sizes} {cells : List ℕ} (s : Split d cells) (form : ℕ) (some : 1 ≤ form) (most : form ≤ 2) (ranks : List ℕ) (suit : Suits (with_form form d) Ranks ranks) where
  new-head : Suits (with_form form d) Head (form ∷ drop 1 s.head)
  unfolding fits
  new-head = (rw length-drop (omega (arith, s.head-suits.0)), λ i l. at i l)
    where
      at : (i : ℕ) → i < 5 → fits (with_form form d) Head i (among (get_or (form ∷ drop 1 s.head) i 0) (take i (form ∷ drop 1 s.head))) (get_or (form ∷ drop 1 s.head) i 0) ≡ true
      at zero l = rw (le-leb 1 form some, le-leb form 2 most)
      at (suc i) l =
          let k : 1 + i ≡ suc i = omega arith in
          rw (get_or-drop 1 s.head i 0, k) (s.head-suits.1 (suc i) l)

  new-sizes : with_form form d ≡ sizes_of ((form ∷ drop 1 s.head) ++ (s.productions ++ (ranks ++ s.tail)))
  unfolding sizes_of
  new-sizes =
      let old : d ≡ sizes_of s.head = s.sizes ∙ rw s.whole (sizes-append s.head (s.productions ++ (s.ranks ++ s.tail)) s.head-suits.0) in
      ap (with_form form) old ∙ headed ∙ sym (sizes-append (form ∷ drop 1 s.head) (s.productions ++ (ranks ++ s.tail)) new-head.0)
    where
      headed : with_form form (sizes_of s.head) ≡ sizes_of (form ∷ drop 1 s.head)
      headed = rw (get_or-drop 1 s.head 0 0, get_or-drop 1 s.head 1 0, get_or-drop 1 s.head 2 0, get_or-drop 1 s.head 3 0)

  -- the book in another form, taken apart
  pub reformed : Split (with_form form d) (in_form form ranks cells)
  unfolding fits
  reformed = record {
    head = form ∷ drop 1 s.head;
    productions = s.productions;
    ranks = ranks;
    tail = s.tail;
    whole = in-form s form ranks;
    sizes = new-sizes ∙ ap sizes_of (sym (in-form s form ranks));
    head-suits = new-head;
    productions-suit = s.productions-suit;
    ranks-suit = suit;
    tail-composed = behind-same form d s.tail s.tail-composed;
  }

-- ---- the tables are those of the parts before the ranks and after them
abbrev tables_from : Sizes → List ℕ → List ℕ → Tables
tables_from d productions tail = record {
  terminals = d.t;
  nonterminals = d.n;
  states = d.s;
  act = λ q a. cond (ltb q d.s && ltb a d.t) (action_of (get_or tail (q * d.t + a) 0)) Error;
  goto = λ q X. cond (ltb q d.s && ltb X d.n) (get_or tail (d.s * d.t + (q * d.n + X)) 0) 0;
  lhs = λ p. cond (ltb p d.p) (get_or productions (2 * p) 0) 0;
  len = λ p. cond (ltb p d.p) (get_or productions (2 * p + 1) 0) 0;
}

tables-same : (B C : Tables) → (B.terminals ≡ C.terminals) × (B.nonterminals ≡ C.nonterminals) × (B.states ≡ C.states)
    → B.act ≡ C.act → B.goto ≡ C.goto → B.lhs ≡ C.lhs → B.len ≡ C.len → B ≡ C
tables-same B C (t, n, s) act goto lhs len =
    let made : ℕ → ℕ → ℕ → (ℕ → ℕ → Action) → (ℕ → ℕ → ℕ) → (ℕ → ℕ) → (ℕ → ℕ) → Tables =
    λ t n s act goto lhs len. record { terminals = t; nonterminals = n; states = s; act = act; goto = goto; lhs = lhs; len = len } in
    let same : made B.terminals B.nonterminals B.states B.act B.goto B.lhs B.len ≡ made C.terminals C.nonterminals C.states C.act C.goto C.lhs C.len =
    rw (t, n, s, act, goto, lhs, len) in
    same

module _ {d : Sizes} {cells : List ℕ} (s : Split d cells) where
  tail-number : (i : ℕ) → get_or cells (5 + 2 * d.p + part_length d Ranks + i) 0 ≡ get_or s.tail i 0
  tail-number i = sym (get_or-drop (5 + 2 * d.p + part_length d Ranks) cells i 0) ∙ ap (λ (l : List ℕ). get_or l i 0) (after-ranks s)

  goto-number : (q X : ℕ) → get_or cells (5 + 2 * d.p + part_length d Ranks + d.s * d.t + (q * d.n + X)) 0 ≡ get_or s.tail (d.s * d.t + (q * d.n + X)) 0
  goto-number q X = rw (add_assoc (5 + 2 * d.p + part_length d Ranks) (d.s * d.t) (q * d.n + X)) (tail-number (d.s * d.t + (q * d.n + X)))

  pub rank-cell : (i : ℕ) → i < part_length d Ranks → get_or cells (5 + 2 * d.p + i) 0 ≡ get_or s.ranks i 0
  rank-cell i l =
      let long : length (s.head ++ s.productions) ≡ 5 + 2 * d.p = rw (length-append, s.head-suits.0, s.productions-suit.0) in
      rw (s.whole, ← append_assoc, ← long, get_or-append-add) (get_or-append s.ranks s.tail 0 i (omega (arith, s.ranks-suit.0)))

  production-number : (i : ℕ) → i < 2 * d.p → get_or cells (5 + i) 0 ≡ get_or s.productions i 0
  production-number i l =
      let five : length s.head ≡ 5 = s.head-suits.0 in
      rw (s.whole, ← five, get_or-append-add) (get_or-append s.productions (s.ranks ++ s.tail) 0 i (omega (arith, s.productions-suit.0)))

  guarded : (p i : ℕ) → (p < d.p → i < 2 * d.p) → cond (ltb p d.p) (get_or cells (5 + i) 0) 0 ≡ cond (ltb p d.p) (get_or s.productions i 0) 0
  guarded p i f = go (dec_lt p d.p)
    where
      go : Dec (p < d.p) → cond (ltb p d.p) (get_or cells (5 + i) 0) 0 ≡ cond (ltb p d.p) (get_or s.productions i 0) 0
      go (yes l) = rw (lt-ltb p d.p l) (production-number i (f l))
      go (no l) = rw (le-ltb p d.p (omega arith))

  sizes-same : ((tables_of cells).terminals ≡ d.t) × ((tables_of cells).nonterminals ≡ d.n) × ((tables_of cells).states ≡ d.s)
  unfolding tables_of
  sizes-same = rw (← s.sizes) (refl, refl, refl)

  acts : (q a : ℕ) → (tables_of cells).act q a ≡ (tables_from d s.productions s.tail).act q a
  unfolding tables_of
  acts q a = rw (← s.sizes, tail-number (q * d.t + a))

  gotos : (q X : ℕ) → (tables_of cells).goto q X ≡ (tables_from d s.productions s.tail).goto q X
  unfolding tables_of
  gotos q X = rw (← s.sizes, goto-number q X)

  lefts : (p : ℕ) → (tables_of cells).lhs p ≡ (tables_from d s.productions s.tail).lhs p
  unfolding tables_of
  lefts p = rw (← s.sizes) (guarded p (2 * p) (λ l. omega arith))

  lengths : (p : ℕ) → (tables_of cells).len p ≡ (tables_from d s.productions s.tail).len p
  unfolding tables_of
  lengths p = rw (← s.sizes) (guarded p (2 * p + 1) (λ l. omega arith))

  pub split-tables : tables_of cells ≡ tables_from d s.productions s.tail
  split-tables = tables-same (tables_of cells) (tables_from d s.productions s.tail) sizes-same (fun_ext (λ q. fun_ext (λ a. acts q a)))
      (fun_ext (λ q. fun_ext (λ X. gotos q X))) (fun_ext (λ p. lefts p)) (fun_ext (λ p. lengths p))

module _ {d : Sizes} {cells : List ℕ} (s : Split d cells) (form : ℕ) (some : 1 ≤ form) (most : form ≤ 2) (ranks : List ℕ) (suit : Suits (with_form form d) Ranks ranks) where
  -- so another form has the same tables ..
  pub reformed-tables : tables_of (in_form form ranks cells) ≡ tables_of cells
  unfolding reformed
  reformed-tables = split-tables (reformed s form some most ranks suit) ∙ sym (split-tables s)

  -- .. and the ranks that it was given
  pub reformed-rank : (i : ℕ) → i < part_length (with_form form d) Ranks → get_or (in_form form ranks cells) (5 + 2 * d.p + i) 0 ≡ get_or ranks i 0
  unfolding reformed
  reformed-rank i l = rank-cell (reformed s form some most ranks suit) i l

  -- of two forms the last counts
  pub last-form : (next : ℕ) (others : List ℕ) → in_form next others (in_form form ranks cells) ≡ in_form next others cells
  unfolding reformed
  last-form next others = in-form (reformed s form some most ranks suit) next others ∙ sym (in-form s next others)

-- ---- the plain cells hold the book in form 1, and have its tables
module _ (d : Sizes) (cells : List ℕ) (e : Accepted d cells) where
  split : Split d cells
  split = book-split (accepted-book cells d e)

  no-ranks : Suits (with_form 1 d) Ranks []
  no-ranks = (refl, λ i l. absurd (omega (arith, l)))

  pub plain-holds : Holds (with_form 1 d) (in_form_1 cells)
  plain-holds =
      let b = accepted-book (in_form_1 cells) (with_form 1 d) (split-accepted (reformed split 1 (omega arith) (omega arith) [] no-ranks)) in
      record { book = b.book; sizes = b.sizes; small = b.small; count = b.count; form = refl }

  pub plain-tables : tables_of (in_form_1 cells) ≡ tables_of cells
  plain-tables = reformed-tables split 1 (omega arith) (omega arith) [] no-ranks
