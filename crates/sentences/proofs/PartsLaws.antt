-- Laws of the sentences as they are put, one pair after the other. Assumes nothing.
use Rattle.number.specs.declared.cause.Refusal.{Refusal}
use Rattle.std.specs.Prelude.{Result, Ok, Bool, true, false, List, [], ◌∷◌, ◌++◌, map, ◌≡◌, refl, ℕ, ◌+◌, ◌*◌, ◌/◌, ◌%◌, ◌≤◌, ◌<◌, length, get_or, set}
use Rattle.std.proofs.Common.{append_assoc, append-nil, ⊎_elim, sym, ◌∙◌, ap, subst, not-suc-le-zero, suc-mul, arith, ltb-false, length-set, length-append}
use Rattle.std.proofs.Math.Decide.{ℕ_discrete}
use Rattle.std.proofs.lemmas.List.{length-map}
use Rattle.std.proofs.Math.ListN.{get_or-append}
use Rattle.std.proofs.Math.Seq.{take-append_seam, get_or-append_seam}
use Rattle.number.specs.Lent.{over}
use Rattle.number.specs.LentLaws.{over-more}
use Rattle.book.specs.BytesLaws.{bytes-narrow}
use Rattle.book.specs.Call.{steps, Tells}
use Rattle.book.specs.CallLaws.{steps-none}
use Rattle.book.specs.IndexLaws.{index_below, index-digits, index-split}
use Rattle.book.specs.RangeLaws.{Small}
use Rattle.book.specs.Tables.{Tables}
use Rattle.book.specs.declared.Sizes.{Sizes}
use Rattle.machine.specs.Machine.{Terminals}
use Rattle.machine.specs.MachineLaws.{terminal-at}
use Rattle.walk.specs.Answer.{Outcome, Unreached, Long, Sentence, Best, WordsOf, AnswerAs}
use Rattle.walk.specs.AnswerLaws.{mapped}
use Rattle.walk.proofs.AnswerLaws.{best-exact, best_none, best-long, words-terminals, answer-rank}
use Rattle.walk.specs.Cost.{Exact}
use Rattle.walk.proofs.CostLaws.{exact_one}
use Rattle.walk.specs.OrderLaws.{RankAlike}
use Rattle.walk.specs.Scale.{plain, long, unreached}
use Rattle.walk.proofs.ShortestLaws.{cost-length}
use Rattle.distances.specs.Distances.{StartTable}
use Rattle.lengths.specs.Lengths.{BreakTable}
use Rattle.finder.specs.Finder.{Answered, found, sentence_of}
use Rattle.finder.specs.FittingLaws.{told-as}
use Rattle.finder.specs.declared.Found.{Found}
use Rattle.text.specs.Put.{Put}
use Rattle.text.specs.PutLaws.{put_then}
use Rattle.work.specs.Work.{work_cells, cleared}
use Rattle.sentences.specs.Parts.{bytes_in, CostTable, PairPut, PairsPut, AllPut}
use Rattle.sentences.specs.Sentences.{sentences_refusals, cell_of, bytes_for, sentence_bytes, Answers}

-- ---- the costs
pub start-costs : {d : Sizes} {cells dist : List ℕ} → StartTable plain d cells dist → CostTable false d cells dist
start-costs x = record { size = x.size; exact = x.exact }

pub break-costs : {d : Sizes} {cells dist : List ℕ} → BreakTable plain d cells dist → CostTable true d cells dist
break-costs x = record { size = x.size; exact = x.exact }

-- ---- what is admitted
pub sentences-admitted : (work lent bytes : ℕ) (d : Sizes) {x : Sizes} → steps (Ok d) (sentences_refusals work lent bytes d) ≡ Ok x
    → (work_cells d ≤ work) × (d.s * d.t ≤ lent) × (d.s * d.t * 1002 ≤ bytes)
unfolding sentences_refusals
sentences-admitted work lent bytes d e =
    let (same, (room, (cells, (enough, end)))) = steps-none (sentences_refusals work lent bytes d) e in
    (ltb-false _ _ room, ltb-false _ _ cells, ltb-false _ _ enough)

-- ---- one pair
-- the map's cell is the cost
pub cell-mapped : (o : Outcome) → cell_of o ≡ mapped plain o
cell-mapped Unreached = refl
cell-mapped Long = refl
cell-mapped (Sentence w) = sym (cost-length w)

-- a symbol takes one byte
outcome-bytes : {P : List ℕ → Type 0} (rank : ℕ → ℕ) (B : Tables) → B.terminals ≤ 128 → ((w : List ℕ) → P w → Terminals B w) → (o : Outcome) (buffer : List ℕ) → Best plain rank P o
    → bytes_in (found o) (over (sentence_of o) buffer) ≡ bytes_for o
outcome-bytes rank B few terminals Unreached buffer a = refl
outcome-bytes rank B few terminals Long buffer a = refl
outcome-bytes rank B few terminals (Sentence w) buffer a = rw (take-append_seam, bytes-narrow w (λ i l. omega (arith, few, (terminal-at (terminals w a.0) i l).1)))

nothing_put : {lent : List ℕ} {at : ℕ} → Put [] lent at lent at
nothing_put = record { stored = refl; after = omega arith }

module _ (breaks : Bool) (rank : ℕ → ℕ) (B : Tables) (s z : ℕ) {n : ℕ} (e : Exact plain (WordsOf breaks B s z) n) where
  -- a right answer has the exact cost for cell
  cell-told : (o : Outcome) → AnswerAs breaks plain rank B s z o → n ≡ cell_of o
  cell-told o a = exact_one e (best-exact plain rank (WordsOf breaks B s z) o a) ∙ sym (cell-mapped o)

  -- without a sentence
  pub pair-none : {lent : List ℕ} {at : ℕ} → long plain ≤ n → PairPut breaks rank B s z n lent at lent at
  pair-none {lent} {at} h = go (ℕ_discrete n (long plain))
    where
      go : Dec (n ≡ long plain) → PairPut breaks rank B s z n lent at lent at
      go (yes f) = record { outcome = Long; right = best-long plain rank (WordsOf breaks B s z) (rw f at e); told = f; put = nothing_put }
      go (no f) =
          let g : n ≡ unreached plain = ⊎_elim (λ u. u) (λ (w, p, u). absurd (f (omega (arith, u)))) e.attained in
          record { outcome = Unreached; right = best_none plain rank (WordsOf breaks B s z) (rw g at e); told = g; put = nothing_put }

  pub pair_found : {buffer filled lent left : List ℕ} {r : Found} {at next : ℕ} → B.terminals ≤ 128 → Answered breaks rank B s z buffer r filled → Put (bytes_in r filled) lent at left next
      → PairPut breaks rank B s z n lent at left next
  pair_found {buffer} {filled} {lent} {left} {r} {at} {next} few a p =
      let same : bytes_in r filled ≡ bytes_for a.thing = rw ((told-as breaks B s z a).0, (told-as breaks B s z a).1) (outcome-bytes rank B few (words-terminals breaks B s z) a.thing buffer a.right) in
      record { outcome = a.thing; right = a.right; told = cell-told a.thing a.right; put = subst (λ (l : List ℕ). Put l lent at left next) same p }

-- ---- one pair after the other
-- the pair at an index of the map
pub record PairAt (d : Sizes) (i : ℕ) : Type 0 where
  pub some : 0 < d.t
  pub state : i / d.t < d.s
  pub terminal : i % d.t < d.t
  pub entry : i / d.t * 32 + i % d.t < 4096

pub pair-at : {d : Sizes} {i : ℕ} → Small d → i < d.s * d.t → PairAt d i
pair-at {d} {i} h l =
    let x = index-split d.s d.t i l in
    record { some = omega (arith, x.low); state = x.high; terminal = x.low; entry = omega (arith, x.high, x.low, h.states, h.terminals) }

bytes-append : (os : List Outcome) (o : Outcome) → sentence_bytes (os ++ o ∷ []) ≡ sentence_bytes os ++ bytes_for o
unfolding sentence_bytes
bytes-append [] o = rw append-nil
bytes-append (x ∷ os) o = rw (bytes-append os o, append_assoc)

cells-append : (os : List Outcome) (o : Outcome) → map cell_of (os ++ o ∷ []) ≡ map cell_of os ++ (cell_of o ∷ [])
cells-append [] o = refl
cells-append (x ∷ os) o = rw (cells-append os o)

-- the first i pairs have been put
pub record Pairs (breaks : Bool) (rank : ℕ → ℕ) (B : Tables) (t : ℕ) (lent bytes filled left : List ℕ) (next i : ℕ) : Type 0 where
  pub cells-size : length filled ≡ length lent
  pub bytes-size : length left ≡ length bytes
  pub put : PairsPut breaks rank B t i lent bytes filled left next
  pub near : next ≤ i * 1002

module _ {breaks : Bool} {rank : ℕ → ℕ} {B : Tables} {t : ℕ} {lent bytes : List ℕ} where
  pub pairs-none : Pairs breaks rank B t lent bytes lent bytes 0 0
  unfolding sentence_bytes
  pairs-none = record {
    cells-size = refl;
    bytes-size = refl;
    put = record { outcomes = []; size = refl; right = λ i h. absurd (not-suc-le-zero h); cells = nothing_put; put = nothing_put };
    near = omega arith;
  }

  pub pairs-more : {filled left now : List ℕ} {next end i n : ℕ} → Pairs breaks rank B t lent bytes filled left next i → length now ≡ length left
      → PairPut breaks rank B (i / t) (i % t) n left next now end → end ≤ next + 1002 → Pairs breaks rank B t lent bytes (set filled i n) now end (i + 1)
  pairs-more {filled} {left} {now} {next} {end} {i} {n} p e q h = record {
    cells-size = length-set filled i n ∙ p.cells-size;
    bytes-size = e ∙ p.bytes-size;
    put = record {
      outcomes = os ++ o ∷ [];
      size = rw (length-append, size) (omega arith);
      right = λ j l. right j l (ℕ_discrete j i);
      cells = rw (cells-append os o, ← q.told) (put_then p.put.cells (record { stored = refl; after = omega arith }));
      put = rw (bytes-append os o) (put_then p.put.put q.put);
    };
    near = omega (arith, p.near, suc-mul i 1002);
  }
    where
      os : List Outcome
      os = p.put.outcomes

      o : Outcome
      o = q.outcome

      size : length os ≡ i
      size = p.put.size

      right : (j : ℕ) → j < i + 1 → Dec (j ≡ i) → AnswerAs breaks plain rank B (j / t) (j % t) (get_or (os ++ o ∷ []) j Unreached)
      right j l (yes f) = rw (f ∙ sym size, get_or-append_seam os o [] Unreached) (rw (← size) at q.right)
      right j l (no f) = rw (get_or-append os (o ∷ []) Unreached j (rw size (omega arith))) (p.put.right j (omega arith))

-- ---- all pairs
put_front : {xs lent left : List ℕ} {next : ℕ} → Put xs lent 0 left next → length xs ≤ length lent → left ≡ over xs lent
put_front {xs} {lent} p h = p.stored ∙ over-more [] xs lent (omega (arith, h))

module _ {breaks : Bool} {rank : ℕ → ℕ} {B : Tables} {states terminals : ℕ} (lent bytes : List ℕ) where
  pub pairs-all : {filled left : List ℕ} {next : ℕ} → PairsPut breaks rank B terminals (states * terminals) lent bytes filled left next → states * terminals ≤ length lent
      → next ≤ length bytes → AllPut breaks rank B states terminals lent bytes next (filled, left)
  pairs-all {filled} {left} {next} p cells room =
      let os = p.outcomes in
      let front = put_front p.cells (rw (length-map, p.size) cells) in
      let spelled = put_front p.put (omega (arith, p.put.after)) in
      let count : next ≡ length (sentence_bytes os) = omega (arith, p.put.after) in
      record {
        thing = os;
        right = record { size = p.size; right = λ s z hs hz. rw ((index-digits terminals s z hz).0, (index-digits terminals s z hz).1) at (p.right (s * terminals + z) (index_below states terminals s z hs hz)) };
        same = rw (front, spelled, count);
      }

  -- other ranks that agree on the terminals
  pub all-rank : {rank' : ℕ → ℕ} {count : ℕ} {left : List ℕ × List ℕ} → RankAlike rank rank' B → AllPut breaks rank B states terminals lent bytes count left
      → AllPut breaks rank' B states terminals lent bytes count left
  all-rank f a = record {
    thing = a.thing;
    right = record { size = a.right.size; right = λ s z hs hz. answer-rank breaks plain B f s z (get_or a.thing (s * terminals + z) Unreached) (a.right.right s z hs hz) };
    same = a.same;
  }

  -- what the call tells of them, with the work cells cleared
  pub all_told : {count : ℕ} {filled left worked : List ℕ} (d : Sizes) (work : List ℕ) → AllPut breaks rank B states terminals lent bytes count (filled, left) → worked ≡ cleared d work
      → Tells {Told = Result ℕ Refusal × (List ℕ × (List ℕ × List ℕ))} (Answers breaks rank B states terminals)
      (λ os. (Ok (length (sentence_bytes os)), (cleared d work, (over (map cell_of os) lent, over (sentence_bytes os) bytes))))
      (Ok count, (worked, (filled, left)))
  all_told d work a e = record { thing = a.thing; right = a.right; same = rw e (ap (λ (p : ℕ × (List ℕ × List ℕ)). (Ok p.0, (cleared d work, p.1))) a.same) }
