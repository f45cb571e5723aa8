-- Laws of one entry: its run is admitted, ends in a state of the book, and leaves the cells after the stack's. Assumes nothing.
use Rattle.std.specs.Prelude.{true, List, [], ◌∷◌, ◌++◌, reverse, ◌⊎◌, ◌≡◌, refl, ℕ, ◌+◌, ◌-◌, ◌≤◌, ◌<◌, length, take, drop, replicate, Result}
use Rattle.std.proofs.Common.{inl, inr, sym, ◌∙◌, ap₂, arith, length-append, length-drop, drop_at}
use Rattle.std.proofs.Math.Decide.{dec_le}
use Rattle.std.proofs.lemmas.List.{length-replicate, length-reverse}
use Rattle.book.specs.Tables.{Tables, tables_of}
use Rattle.book.specs.TablesLaws.{Holds, InRange}
use Rattle.book.proofs.TablesLaws.{in-range}
use Rattle.book.specs.declared.Sizes.{Sizes}
use Rattle.machine.specs.AdmissionLaws.{sound-all}
use Rattle.machine.specs.Machine.{Terminals, Reaches}
use Rattle.machine.specs.Run.{runs, sound_prefix}
use Rattle.machine.specs.RunLaws.{sound-terminals, run-error}
use Rattle.machine.specs.Stack.{RanTo}
use Rattle.machine.specs.declared.Ending.{Ending}
use Rattle.machine.specs.declared.Ending.TheVariants.{Error, Broken}
use Rattle.machine.specs.declared.Stop.{Stop}
use Rattle.breaks.specs.BreakingLaws.{run-broken}
use Rattle.walk.specs.Walk.{Walk, here, shifted, crossed}
use Rattle.walk.proofs.WalkLaws.{reaches-walk}
use Rattle.layers.specs.CrossingLaws.{terminals-are, states-are}
use Rattle.lists.specs.Entry.{sentence}
use Rattle.lists.specs.EntryLaws.{Spelled}
use Rattle.lists.proofs.EntryLaws.{part_length}
use Rattle.lists.specs.declared.Entry.{Entry}
use Rattle.items.specs.Items.{Item, item_of}
use Rattle.course.specs.Course.{run_of, is_right, state_of, state_in}
use Rattle.course.specs.CourseLaws.{right-ends}
use Rattle.course.specs.Turns.{weighed}
use Rattle.course.specs.declared.Judgement.{Judgement}

-- ---- the sentence
module _ {t : ℕ} {bytes : List ℕ} {e : Entry} (s : Spelled t bytes e) where
  pub spelled-length : length (sentence bytes e) ≡ e.len
  spelled-length = part_length bytes e.start e.len s.symbols.within

  pub spelled-sound : sound_prefix t (sentence bytes e) ≡ length (sentence bytes e)
  spelled-sound = sound-all t (sentence bytes e) (λ i h. s.symbols.symbol i (rw spelled-length at h))

pub spelled-terminals : {d : Sizes} {cells bytes : List ℕ} {e : Entry} → Holds d cells → Spelled d.t bytes e → Terminals (tables_of cells) (sentence bytes e)
spelled-terminals {d} {cells} {bytes} {e} h s = sound-terminals (tables_of cells) (sentence bytes e) (rw (terminals-are h) (spelled-sound s))

-- ---- the state in which a right entry's run ends
walk-state : {B : Tables} {q a z n s : ℕ} {w : List ℕ} → InRange B → q < B.states → Walk B q a w z n s → s < B.states
walk-state i h here = h
walk-state i h (shifted {t} {q₁} {q₂} z r e) = (i.shifts q₁ t q₂ e).3
walk-state i h (crossed {q₁} {p} {q₃} r v e l g) = (i.gotos q₁ _ q₃ g).2

pub right-reaches : {B : Tables} (x : Item) → Terminals B x.symbols → is_right (length x.symbols) (run_of B x) ≡ true
    → Reaches B x.symbols x.lookahead (state_in B x)
right-reaches {B} x t r = let n = right-ends B x (run_of B x) refl r in rw (← n.state) (go n.stop n.whole n.ending)
  where
    go : (stop : Stop) → stop.taken ≡ length x.symbols → (run_of B x ≡ Error stop) ⊎ (run_of B x ≡ Broken stop) → Reaches B x.symbols x.lookahead stop.state
    go stop whole (inl e) = (run-error B x.symbols x.lookahead stop e whole t).0
    go stop whole (inr e) =
        let b = run-broken B x.symbols x.lookahead stop e whole t in
        record { terminals = b.terminals; below = b.below; run = b.run }

pub item-below : {B : Tables} (x : Item) → InRange B → Terminals B x.symbols → is_right (length x.symbols) (run_of B x) ≡ true → state_in B x < B.states
item-below x i t r = walk-state i i.start (reaches-walk (right-reaches x t r)).1

pub entry-right : {d : Sizes} {cells bytes : List ℕ} {e : Entry} → Holds d cells → Spelled d.t bytes e
    → is_right (length (sentence bytes e)) (run_of (tables_of cells) (item_of bytes e)) ≡ true → state_in (tables_of cells) (item_of bytes e) < 128
entry-right {d} {cells} {bytes} {e} h s r =
    omega (arith, item-below (item_of bytes e) (in-range h) (spelled-terminals h s) r, states-are h, h.small.states)

-- ---- what a run leaves
ran-after : {r : Ending} {out : List ℕ} (lent : List ℕ) (o : Ending × List ℕ) → RanTo o lent r out → length out ≡ length lent → 1024 ≤ length lent
    → drop 1024 out ≡ drop 1024 lent
ran-after {r} {out} lent (e, st) f same room = go (dec_le (length st) 1024)
  where
    front : List ℕ
    front = reverse st ++ replicate (1024 - length st) 0

    front_length : length front ≡ length st + (1024 - length st)
    front_length = simp (length-append, length-reverse, length-replicate)

    is : out ≡ front ++ drop 1024 lent
    is = f.1

    size : length out ≡ length front + (length lent - 1024)
    size = rw is (simp (length-append, length-drop))

    go : Dec (length st ≤ 1024) → drop 1024 out ≡ drop 1024 lent
    go (no h) = absurd (omega (arith, size, front_length))
    go (yes h) = rw is (drop_at front (drop 1024 lent) 1024 (omega (arith, front_length)))

-- ---- the run of an entry, whose symbols stand in the list from its start up to its end
module _ {d : Sizes} {cells bytes : List ℕ} {e : Entry} (lent : List ℕ) (h : Holds d cells) (s : Spelled d.t bytes e) {y : Ending} {out : List ℕ}
    (f : RanTo (runs (tables_of cells) e.lookahead (take (e.start + e.len - e.start) (drop e.start bytes)) 0 (0 ∷ [])) lent y out) where
  ran : RanTo (runs (tables_of cells) e.lookahead (sentence bytes e) 0 (0 ∷ [])) lent y out
  ran = let size : e.start + e.len - e.start ≡ e.len = omega arith in rw size at f

  ending : y ≡ run_of (tables_of cells) (item_of bytes e)
  ending = ran.0

  pub ran-right : is_right e.len y ≡ true → state_of y < 128
  ran-right r =
      let right : is_right (length (sentence bytes e)) (run_of (tables_of cells) (item_of bytes e)) ≡ true = ap₂ is_right (spelled-length s) (sym ending) ∙ r in
      rw ending (entry-right h s right)

  pub ran-verdict : (i least : ℕ) (places : List ℕ) (v : Result ℕ Judgement) → v ≡ weighed i e.len least places y
      → v ≡ weighed i (length (sentence bytes e)) least places (run_of (tables_of cells) (item_of bytes e))
  ran-verdict i least places v w = w ∙ ap₂ (λ (n : ℕ) (z : Ending). weighed i n least places z) (sym (spelled-length s)) ending

  pub ran-rest : length out ≡ length lent → 1024 ≤ length lent → drop 1024 out ≡ drop 1024 lent
  ran-rest same room = ran-after lent (runs (tables_of cells) e.lookahead (sentence bytes e) 0 (0 ∷ [])) ran same room
