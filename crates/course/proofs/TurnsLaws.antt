-- Laws of the entries in turn: one entry, and what a loop over them knows. Assumes nothing.
use Rattle.std.specs.Prelude.{Some, None, Bool, true, false, cond, not, ◌&&◌, ◌≡◌, refl, eqb, ltb, length, set, replicate, Result, Ok, Err}
use mathlib.Core.List.{List, [], ◌∷◌, ◌++◌, append_assoc, append-nil}
use Rattle.std.proofs.Math.Path.{sym, ap}
use Rattle.std.proofs.Common.{◌∙◌, ne_eqb, eqb-true, le-ltb}
use Prim.Native.Nat.{ℕ, zero, suc, ◌+◌, ◌-◌, ◌≤◌, ◌<◌}
use Rattle.std.proofs.Math.Numerals.{add-one}
use native.Mathlib.Omega.{arith}
use Rattle.std.proofs.Math.ListN.{get_or}
use Rattle.number.specs.PairLaws.{some-is}
use Rattle.number.specs.declared.Cursor.{Cursor}
use Rattle.book.specs.Range.{among}
use Rattle.book.specs.Tables.{Tables}
use Rattle.machine.specs.MachineLaws.{clash}
use Rattle.machine.specs.declared.Ending.{Ending}
use Rattle.lists.specs.Entry.{sentence, entry_at}
use Rattle.lists.specs.EntryLaws.{Spelled}
use Rattle.lists.proofs.EntryLaws.{entry-spelled, entry-wider}
use Rattle.lists.specs.List.{entries, entries_at, next_at}
use Rattle.lists.specs.ListLaws.{EntryFront}
use Rattle.lists.proofs.ListLaws.{entries-front, entries_none}
use Rattle.lists.proofs.ReadingLaws.{none_left}
use Rattle.lists.specs.declared.Entry.{Entry}
use Rattle.lists.specs.declared.Rest.{Rest}
use Rattle.items.specs.Items.{Item, item_of, items}
use Rattle.items.specs.SpanLaws.{entry-within}
use Rattle.course.specs.Course.{run_of, is_right, state_of, state_in, Course, fault, is_lower, entered, course}
use Rattle.course.specs.PlacesLaws.{marks-none, places-none, marks-more, places-more}
use Rattle.course.specs.Turns.{Marks, Places, weighed, EntriesStanding, items_at, Clean}
use Rattle.course.specs.declared.Judgement.{Judgement}
use Rattle.course.specs.declared.Judgement.TheVariants.{Wrong, OutOfOrder, Repeat}

-- ---- one entry
-- the lowest state in order after these, the last one's first
abbrev pub least_of : Bool → List ℕ → ℕ
least_of ordered [] = 0
least_of ordered (s ∷ states) = cond ordered s 0

lower-least : (ordered : Bool) (s : ℕ) (states : List ℕ) → (ordered && is_lower s states) ≡ ltb s (least_of ordered states)
lower-least true s [] = sym (le-ltb s 0 (omega arith))
lower-least false s [] = sym (le-ltb s 0 (omega arith))
lower-least true s (before ∷ states) = refl
lower-least false s (before ∷ states) = sym (le-ltb s 0 (omega arith))

abbrev told : (List ℕ → Course) → List ℕ → Result ℕ Judgement → Course
told onward states (Ok s) = onward (s ∷ states)
told onward states (Err j) = fault j

weighed-entered : (ordered : Bool) (i len : ℕ) {places states : List ℕ} (ending : Ending) (onward : List ℕ → Course) → Marks places states
    → (is_right len ending ≡ true → state_of ending < 128)
    → entered ordered i len states ending onward ≡ told onward states (weighed i len (least_of ordered states) places ending)
unfolding weighed
weighed-entered ordered i len {places} {states} ending onward m below = by-run (is_right len ending) refl
  where
    by_state : (lower had : Bool)
        → cond lower (fault (OutOfOrder i)) (cond had (fault (Repeat i)) (onward (state_of ending ∷ states)))
        ≡ told onward states (cond lower (Err (OutOfOrder i)) (cond (not had) (Ok (state_of ending)) (Err (Repeat i))))
    by_state true had = refl
    by_state false true = refl
    by_state false false = refl

    by-run : (b : Bool) → is_right len ending ≡ b
        → cond b (cond (ordered && is_lower (state_of ending) states) (fault (OutOfOrder i)) (cond (among (state_of ending) states) (fault (Repeat i)) (onward (state_of ending ∷ states)))) (fault (Wrong i ending))
        ≡ told onward states (cond b (cond (ltb (state_of ending) (least_of ordered states)) (Err (OutOfOrder i)) (cond (eqb (get_or places (state_of ending) 0) 0) (Ok (state_of ending)) (Err (Repeat i)))) (Err (Wrong i ending)))
    by-run true e = rw (m.flag (state_of ending) (below e), lower-least ordered (state_of ending) states) (by_state (ltb (state_of ending) (least_of ordered states)) (among (state_of ending) states))
    by-run false e = refl

-- a right verdict: the run is right and ends in this state, which has no place yet
record RightVerdict (len : ℕ) (places : List ℕ) (ending : Ending) (s : ℕ) : Type 0 where
  pub right : is_right len ending ≡ true
  pub state : s ≡ state_of ending
  pub free : get_or places s 0 ≡ 0

right-verdict : (i len least : ℕ) (places : List ℕ) (ending : Ending) (s : ℕ) → Ok s ≡ weighed i len least places ending → RightVerdict len places ending s
unfolding weighed
right-verdict i len least places ending s w =
    go (is_right len ending) refl (ltb (state_of ending) least) (eqb (get_or places (state_of ending) 0) 0) refl w
  where
    go : (a : Bool) → is_right len ending ≡ a → (b c : Bool) → eqb (get_or places (state_of ending) 0) 0 ≡ c
        → Ok s ≡ cond a (cond b (Err (OutOfOrder i)) (cond c (Ok (state_of ending)) (Err (Repeat i)))) (Err (Wrong i ending))
        → RightVerdict len places ending s
    go false e b c f g = absurd (clash cc)
    go true e true c f g = absurd (clash cc)
    go true e false false f g = absurd (clash cc)
    go true e false true f g = let same : s ≡ state_of ending = cc in record { right = e; state = same; free = rw same (eqb-true _ _ f) }

-- ---- the entries that stand from an offset on
-- the next, and those after it
record Following (t : ℕ) (bytes : List ℕ) (at left : ℕ) (es : List Entry) (end : ℕ) (e : Entry) (rest : Rest) : Type 0 where
  pub next : Cursor
  pub found : entry_at t bytes at ≡ Ok (e, next)
  pub others : List Entry
  pub split : es ≡ e ∷ others
  pub ahead : entries_at t bytes rest.left rest.at ≡ entries others end
  pub count : rest.left + 1 ≡ left
  pub after : 1 ≤ rest.at

module _ (t : ℕ) (bytes : List ℕ) (few : t ≤ 32) (at : ℕ) (es : List Entry) (end : ℕ) where
  next-first : (k : ℕ) (f : EntryFront t bytes k at es end) → next_at bytes at (suc k) ≡ Some (f.entry, (record { at = f.next.at; left = k }))
  unfolding next_at
  next-first k f =
      let wide = entry-wider t bytes at 32 few f.entry f.next f.found in
      let less : suc k - 1 ≡ k = omega arith in
      rw (ne_eqb (suc k) 0 (omega arith), wide, less)

  standing-next : (left : ℕ) → entries_at t bytes left at ≡ entries es end → (e : Entry) (rest : Rest) → next_at bytes at left ≡ Some (e, rest)
      → Following t bytes at left es end e rest
  standing-next zero a e rest g = absurd (clash (cc (none_left bytes at)))
  standing-next (suc k) a e rest g =
      let f = entries-front t bytes k at es end a in
      let (first, onward) = some-is (sym (next-first k f) ∙ g) in
      let place : f.next.at ≡ rest.at = ap (λ (r : Rest). r.at) onward in
      let number : k ≡ rest.left = ap (λ (r : Rest). r.left) onward in
      record {
        next = f.next;
        found = rw (← first) f.found;
        others = f.rest;
        split = rw (← first) f.split;
        ahead = rw (← place, ← number) f.onward;
        count = omega arith;
        after = rw (← place) (omega (arith, (entry-within bytes at few f.found).0));
      }

  standing-none : (left : ℕ) → entries_at t bytes left at ≡ entries es end → next_at bytes at left ≡ None → [] ≡ es
  standing-none zero a g = entries_none t bytes at es end a
  standing-none (suc k) a g = absurd (clash (cc (next-first k (entries-front t bytes k at es end a))))

-- ---- what the loop knows of all entries: those before index i are done, and from it on the course is as from the start
pub record Going (ordered : Bool) (B : Tables) (t : ℕ) (bytes : List ℕ) (xs : List Item) (count i at left least : ℕ) (places : List ℕ) : Type 0 where
  pub es : List Entry
  pub end : ℕ
  pub ahead : entries_at t bytes left at ≡ entries es end
  pub after : 1 ≤ at
  pub done : List Item
  pub whole : xs ≡ done ++ items bytes es
  pub states : List ℕ
  pub same : course ordered B 0 [] xs ≡ course ordered B i states (items bytes es)
  pub lowest : least ≡ least_of ordered states
  pub marks : Marks places states
  pub kept : Places B t bytes done places
  pub number : i + left ≡ count

pub going-none : {ordered : Bool} {B : Tables} {t : ℕ} {bytes : List ℕ} {first count : ℕ} {places : List ℕ} → EntriesStanding t bytes first count → places ≡ replicate 128 0
    → Going ordered B t bytes (items_at t bytes first count) count 0 first count 0 places
going-none s e = record {
  es = s.es;
  end = s.end;
  ahead = s.ahead;
  after = s.after;
  done = [];
  whole = rw s.ahead;
  states = [];
  same = rw s.ahead;
  lowest = refl;
  marks = marks-none e;
  kept = places-none _ e;
  number = omega arith;
}

module _ {ordered : Bool} {B : Tables} {t : ℕ} {bytes : List ℕ} {xs : List Item} {count i at left least : ℕ} {places : List ℕ} (few : t ≤ 32)
    (g : Going ordered B t bytes xs count i at left least places) where
  pub going_done : next_at bytes at left ≡ None → Clean B t bytes xs (course ordered B 0 [] xs) places
  unfolding course
  going_done n =
      let none_ahead : [] ≡ g.es = standing-none t bytes few at g.es g.end left g.ahead n in
      let all : xs ≡ g.done = g.whole ∙ rw (← none_ahead) (append-nil g.done) in
      record { states = g.states; same = g.same ∙ rw (← none_ahead); marks = g.marks; kept = rw all g.kept }

  module _ {e : Entry} {rest : Rest} (n : next_at bytes at left ≡ Some (e, rest)) where
    following : Following t bytes at left g.es g.end e rest
    following = standing-next t bytes few at g.es g.end left g.ahead e rest n

    pub going-spelled : Spelled t bytes e
    going-spelled = entry-spelled t bytes at e following.next (omega arith) following.found

    pub going-count : rest.left + 1 ≡ left
    going-count = following.count

    onward : List ℕ → Course
    onward more = course ordered B (suc i) more (items bytes following.others)

    -- the course goes by the verdict on this entry
    verdict : (is_right (length (sentence bytes e)) (run_of B (item_of bytes e)) ≡ true → state_in B (item_of bytes e) < 128)
        → (v : Result ℕ Judgement) → v ≡ weighed i (length (sentence bytes e)) least places (run_of B (item_of bytes e)) → course ordered B 0 [] xs ≡ told onward g.states v
    unfolding course onward
    verdict below v w =
        g.same
        ∙ ap (λ (es : List Entry). course ordered B i g.states (items bytes es)) following.split
        ∙ weighed-entered ordered i (length (sentence bytes e)) (run_of B (item_of bytes e)) onward g.marks below
        ∙ ap (λ (k : ℕ). told onward g.states (weighed i (length (sentence bytes e)) k places (run_of B (item_of bytes e)))) (sym g.lowest)
        ∙ ap (λ (x : Result ℕ Judgement). told onward g.states x) (sym w)

    pub going-fault : (is_right (length (sentence bytes e)) (run_of B (item_of bytes e)) ≡ true → state_in B (item_of bytes e) < 128)
        → (j : Judgement) → Err j ≡ weighed i (length (sentence bytes e)) least places (run_of B (item_of bytes e)) → course ordered B 0 [] xs ≡ fault j
    going-fault below j w = verdict below (Err j) w

    pub going_more : (is_right (length (sentence bytes e)) (run_of B (item_of bytes e)) ≡ true → state_in B (item_of bytes e) < 128)
        → (s : ℕ) → Ok s ≡ weighed i (length (sentence bytes e)) least places (run_of B (item_of bytes e))
        → Going ordered B t bytes xs count (i + 1) rest.at rest.left (cond ordered s 0) (set places s at)
    unfolding onward
    going_more below s w =
        let p = right-verdict i _ least places _ s w in
        let free : get_or places (state_in B (item_of bytes e)) 0 ≡ 0 = rw (← p.state) p.free in
        let kept = places-more B g.done places at e following.next g.marks.size g.after following.found free g.kept in
        record {
          es = following.others;
          end = g.end;
          ahead = following.ahead;
          after = following.after;
          done = g.done ++ (item_of bytes e ∷ []);
          whole = g.whole ∙ ap (λ (es : List Entry). g.done ++ items bytes es) following.split ∙ sym (append_assoc g.done (item_of bytes e ∷ []) (items bytes following.others));
          states = s ∷ g.states;
          same = rw add-one (verdict below (Ok s) w);
          lowest = refl;
          marks = marks-more s at g.after g.marks;
          kept = rw p.state kept;
          number = omega (arith, following.count, g.number);
        }

-- the state of a right verdict is below 128
pub right-below : (i len least : ℕ) (places : List ℕ) (ending : Ending) (s : ℕ) → (is_right len ending ≡ true → state_of ending < 128) → Ok s ≡ weighed i len least places ending → s < 128
right-below i len least places ending s below w = let p = right-verdict i len least places ending s w in rw p.state (below p.right)
