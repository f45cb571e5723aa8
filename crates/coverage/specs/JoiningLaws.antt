-- Laws of joining: what the joined list is, which lists it gives back, and on what it does not depend. Assumes nothing.
use Rattle.std.specs.Prelude.{Result, Ok, Err, true, ◌||◌, ◌≡◌, ℕ, ◌≤◌, ◌<◌, length, take}
use mathlib.Core.List.{List, [], ◌∷◌}
use Rattle.std.proofs.Math.Path.{refl, sym}
use Rattle.std.proofs.Common.{◌∙◌, ap, arith}
use Rattle.number.specs.Lent.{over}
use Rattle.number.specs.Number.{number_at, first as first_number}
use Rattle.number.specs.NumberLaws.{Bytes}
use Rattle.book.specs.Range.{among}
use Rattle.book.specs.Tables.{Tables, tables_of}
use Rattle.book.specs.TablesLaws.{Accepted}
use Rattle.book.proofs.TablesLaws.{accepted-book}
use Rattle.book.specs.declared.Sizes.{Sizes}
use Rattle.forms.specs.AlikeLaws.{Alike}
use Rattle.forms.proofs.AlikeLaws.{alike-tables, alike-sizes}
use Rattle.machine.specs.MachineLaws.{clash}
use Rattle.lists.specs.Entry.{outside}
use Rattle.lists.specs.List.{entries, entries_at, list_of, list_in}
use Rattle.lists.proofs.ListLaws.{against-on}
use Rattle.lists.specs.declared.Entry.{Entry}
use Rattle.items.specs.Items.{Item, items, list_bytes}
use Rattle.items.specs.WrittenLaws.{items-few}
use Rattle.course.specs.Course.{Course, fault, clean, in_state, course}
use Rattle.sorting.specs.FittedLaws.{Fits, fits-front, fits_told, told-fits-ok}
use Rattle.sorting.proofs.OrderLaws.{ordered-free}
use Rattle.sorting.specs.Sorting.{by_state}
use Rattle.sorting.proofs.SortingLaws.{list-of, read-so, list-valid, list-below, ordered-bytes}
use Rattle.joining.specs.Joining.{shorter, joined, joined_bytes, joined_by, joins}
use Rattle.coverage.specs.UnionLaws.{joined-self, joined-none, none-joined, joined-valid, joined-clean, joined_length, joined-in-state, joined-covers}
use Rattle.joining.specs.declared.Unjoined.{Unjoined}
use Rattle.joining.specs.declared.Unjoined.TheVariants.{Refused}

-- ---- entries that were joined into lent bytes
record IsJoined (B : Tables) (xs ys : List Item) (lent : List ℕ) (n : ℕ) (out : List ℕ) : Type 0 where
  pub firsts : List ℕ
  pub seconds : List ℕ
  pub first-faultless : course true B 0 [] xs ≡ clean firsts
  pub second-faultless : course true B 0 [] ys ≡ clean seconds
  pub fits : Fits (joined_bytes B xs ys) lent n out

joined_by_lem : {B : Tables} {xs ys : List Item} {lent out : List ℕ} {n : ℕ}
    → joined_by (joined_bytes B xs ys) (course true B 0 [] xs) (course true B 0 [] ys) lent ≡ (Ok n, out) → IsJoined B xs ys lent n out
joined_by_lem {B} {xs} {ys} {lent} {out} {n} e = go (course true B 0 [] xs) (course true B 0 [] ys) refl refl e
  where
    answer : {p q : Result ℕ Unjoined × List ℕ} → p ≡ q → p.0 ≡ q.0
    answer f = ap (λ (p : Result ℕ Unjoined × List ℕ). p.0) f

    go : (a b : Course) → course true B 0 [] xs ≡ a → course true B 0 [] ys ≡ b → joined_by (joined_bytes B xs ys) a b lent ≡ (Ok n, out) → IsJoined B xs ys lent n out
    go (fault j) b f g k = absurd (clash (cc (answer k)))
    go (clean firsts) (fault j) f g k = absurd (clash (cc (answer k)))
    go (clean firsts) (clean seconds) f g k = record {
      firsts = firsts;
      seconds = seconds;
      first-faultless = f;
      second-faultless = g;
      fits = told-fits-ok Refused (joined_bytes B xs ys) lent k;
    }

-- ---- the list that has the entries of two lists joined
pub record JoinedList (cells : List ℕ) (xs ys : List Item) (bytes : List ℕ) : Type 0 where
  pub es : List Entry
  pub end : ℕ
  pub list : list_in cells bytes ≡ entries es end
  pub few : length es ≤ 128
  pub same : items bytes es ≡ joined (tables_of cells) xs ys (tables_of cells).states 0
  -- the states that each of the two covers
  pub firsts : List ℕ
  pub seconds : List ℕ
  pub first-faultless : course true (tables_of cells) 0 [] xs ≡ clean firsts
  pub second-faultless : course true (tables_of cells) 0 [] ys ≡ clean seconds
  -- it is in state order and without a fault, and covers what either covers
  pub states : List ℕ
  pub faultless : course true (tables_of cells) 0 [] (items bytes es) ≡ clean states
  pub covers : (s : ℕ) → among s states ≡ (among s firsts || among s seconds)
  -- 'For each state take the entry with fewer symbols'
  pub each : (s : ℕ) → s < (tables_of cells).states → in_state (tables_of cells) s (items bytes es) ≡ shorter (in_state (tables_of cells) s xs) (in_state (tables_of cells) s ys)

module _ (d : Sizes) (cells : List ℕ) (h : Accepted d cells) where
  states-few : (tables_of cells).states ≤ 128
  unfolding tables_of
  states-few = rw (← (accepted-book cells d h).sizes) (accepted-book cells d h).small.states

  module _ (first second : List ℕ) {es fs : List Entry} {end last : ℕ} (l : list_in cells first ≡ entries es end) (m : list_in cells second ≡ entries fs last) where
    told-joined : {lent out : List ℕ} {n : ℕ} → joins cells first second lent ≡ (Ok n, out) → IsJoined (tables_of cells) (items first es) (items second fs) lent n out
    unfolding joins
    told-joined e = joined_by_lem (rw (h, read-so d cells h first l, read-so d cells h second m) at e)

    joined-told : {firsts seconds : List ℕ} (r lent : List ℕ) → course true (tables_of cells) 0 [] (items first es) ≡ clean firsts
        → course true (tables_of cells) 0 [] (items second fs) ≡ clean seconds → joined_bytes (tables_of cells) (items first es) (items second fs) ≡ r
        → length r ≤ length lent → joins cells first second lent ≡ (Ok (length r), over r lent)
    unfolding joins
    joined-told r lent c f e room = rw (h, read-so d cells h first l, read-so d cells h second m, c, f, e) (fits_told Ok (λ r. Err (Refused r)) r lent refl room)

    join-list : {firsts seconds : List ℕ} → course true (tables_of cells) 0 [] (items first es) ≡ clean firsts
        → course true (tables_of cells) 0 [] (items second fs) ≡ clean seconds
        → JoinedList cells (items first es) (items second fs) (joined_bytes (tables_of cells) (items first es) (items second fs))
    join-list {firsts} {seconds} c f =
        let B = tables_of cells in
        let xs = items first es in
        let ys = items second fs in
        let zs = joined B xs ys B.states 0 in
        let number : length zs ≤ 128 = omega (arith, joined_length B xs ys c f B.states, states-few) in
        let (gs, stop, list, says) = list-of d cells h (joined-valid B B.states (list-valid d cells h first l) (list-valid d cells h second m)) number in
        let (states, faultless) = joined-clean B xs ys c f B.states in
        let below = list-below d cells h first l (ordered-free B 0 [] xs c) in
        let others = list-below d cells h second m (ordered-free B 0 [] ys f) in
        record {
          es = gs;
          end = stop;
          list = list;
          few = items-few d.t (list_bytes zs) (read-so d cells h (list_bytes zs) list);
          same = says;
          firsts = firsts;
          seconds = seconds;
          first-faultless = c;
          second-faultless = f;
          states = states;
          faultless = rw says faultless;
          covers = joined-covers B xs ys c f B.states below others faultless;
          each = λ s k. ap (in_state B s) says ∙ joined-in-state B xs ys c f B.states s k;
        }

    module _ (lent : List ℕ) {out : List ℕ} {n : ℕ} (e : joins cells first second lent ≡ (Ok n, out)) where
      pub join-bytes : take n out ≡ joined_bytes (tables_of cells) (items first es) (items second fs)
      join-bytes = fits-front (told-joined e).fits

      -- 'The result is in state order, covers what either covered'
      pub join-accepted : JoinedList cells (items first es) (items second fs) (take n out)
      join-accepted = let j = told-joined e in rw join-bytes (join-list j.first-faultless j.second-faultless)

  -- ---- a list that is given back
  empty-list : list_in cells (0 ∷ []) ≡ entries [] 1
  unfolding list_of entries_at outside number_at first_number
  empty-list = sym (against-on cells (0 ∷ []) d h)

  -- one in state order without a fault, where there is room for it
  module _ (bytes : List ℕ) {es : List Entry} {end : ℕ} {states : List ℕ} (l : list_in cells bytes ≡ entries es end) (b : Bytes bytes)
      (c : course true (tables_of cells) 0 [] (items bytes es) ≡ clean states) (lent : List ℕ) (room : length bytes ≤ length lent) where
    kept : (xs ys : List Item) → joined (tables_of cells) xs ys (tables_of cells).states 0 ≡ by_state (tables_of cells) (items bytes es) (tables_of cells).states 0
        → joined_bytes (tables_of cells) xs ys ≡ bytes
    kept xs ys e = ap list_bytes e ∙ ordered-bytes d cells h bytes l b c

    -- joined with itself
    pub join-self : joins cells bytes bytes lent ≡ (Ok (length bytes), over bytes lent)
    join-self =
        joined-told bytes bytes l l bytes lent c c (kept (items bytes es) (items bytes es) (joined-self (tables_of cells) (items bytes es) (tables_of cells).states)) room

    -- joined with the empty list, on either side
    pub join-empty : joins cells bytes (0 ∷ []) lent ≡ (Ok (length bytes), over bytes lent)
    unfolding course
    join-empty =
        joined-told bytes (0 ∷ []) l empty-list bytes lent c refl (kept (items bytes es) [] (joined-none (tables_of cells) (items bytes es) (tables_of cells).states)) room

    pub empty-join : joins cells (0 ∷ []) bytes lent ≡ (Ok (length bytes), over bytes lent)
    unfolding course
    empty-join =
        joined-told (0 ∷ []) bytes empty-list l bytes lent refl c (kept [] (items bytes es) (none-joined (tables_of cells) (items bytes es) (tables_of cells).states)) room

-- ---- joining does not depend on form and ranks
pub join-alike : (d e : Sizes) (cells other : List ℕ) → Alike d e cells other → (first second lent : List ℕ)
    → joins cells first second lent ≡ joins other first second lent
unfolding joins
join-alike d e cells other a first second lent = rw (a.first, a.second, alike-tables d e cells other a, ap (λ (x : Sizes). x.t) (alike-sizes d e cells other a))
