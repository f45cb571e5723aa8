-- The verdict as a function: each condition is searched for its lowest fault. `VerdictLaws` says that it is the one right verdict. Assumes nothing.
use Rattle.std.specs.Prelude.{Result, Ok, Err, Bool, cond, not, ◌&&◌, List, ℕ, zero, suc, ◌+◌, min, ltb, leb, eqb}
use Rattle.number.specs.declared.cause.Refusal.{Refusal}
use Rattle.book.specs.{Tables.Tables, Tables.tables_of, declared.Action.Action}
use Rattle.walk.specs.{Scale.plain, Scale.long, Scale.unreached, Sum.plus, Claims.Claims}
use Rattle.certificate.specs.Certificate.{Certificate, crossing_at, crossing_count, pair_at, claim_count, certificate_in, is_right}
use Rattle.certificate.specs.Search.{least_below, told}
use Rattle.certificate.specs.Sentences.{Spelled, spelled, refused}
use Rattle.certificate.specs.Checks.{sentences_of}
use Rattle.certificate.specs.declared.{Condition.Condition, Verdict.Verdict}

-- ---- the least cost of a road
-- one transition more, to the state q: by a shift, which 'counts 1', or by a goto that counts its claim
abbrev pub by_shift : ℕ → ℕ → Action → ℕ
by_shift v q Action.Error = unreached plain
by_shift v q Action.Accept = unreached plain
by_shift v q (Action.Shift s) = cond (eqb s q) (plus plain v 1) (unreached plain)
by_shift v q (Action.Reduce p) = unreached plain

abbrev pub by_goto : ℕ → ℕ → ℕ → ℕ → ℕ
by_goto v claim q g = cond (eqb g (suc q)) (plus plain v claim) (unreached plain)

-- .. from where L has a cost
unfoldable pub lengthened : Tables → Claims → (ℕ → ℕ → ℕ) → ℕ → ℕ → ℕ
lengthened B claim L q z =
    least_below (unreached plain) B.states
    (λ q₁. least_below (unreached plain) B.terminals
    (λ b. min (by_shift (L q₁ b) q (B.act q₁ b)) (least_below (unreached plain) B.nonterminals (λ X. by_goto (L q₁ b) (claim q₁ X b z) q (B.goto q₁ X)))))

-- n transitions from q with the first terminal a
unfoldable pub layered : Tables → Claims → ℕ → ℕ → ℕ → ℕ → ℕ → ℕ
layered B claim q a zero q' z = cond (eqb q q' && eqb a z) 0 (unreached plain)
layered B claim q a (suc n) q' z = lengthened B claim (layered B claim q a n) q' z

-- where a production of X is reduced
abbrev pub by_reduction : Tables → ℕ → (ℕ → ℕ) → Action → ℕ
by_reduction B X cost Action.Error = unreached plain
by_reduction B X cost Action.Accept = unreached plain
by_reduction B X cost (Action.Shift s) = unreached plain
by_reduction B X cost (Action.Reduce p) = cond (eqb (B.lhs p) X) (cost (B.len p)) (unreached plain)

unfoldable pub road_cost : Tables → Claims → ℕ → ℕ → ℕ → ℕ → ℕ
road_cost B claim q X a z = least_below (unreached plain) B.states (λ last. by_reduction B X (λ n. layered B claim q a n last z) (B.act last z))

-- ---- the lowest index of a crossing, or of a pair, that a test finds
unfoldable pub lowest_crossing : Tables → (ℕ → ℕ → ℕ → ℕ → Bool) → ℕ
lowest_crossing B test =
    least_below (claim_count B) B.states
    (λ q. least_below (claim_count B) B.nonterminals
    (λ X. least_below (claim_count B) B.terminals
    (λ a. least_below (claim_count B) B.terminals (λ z. cond (test q X a z) (crossing_at B q X a z) (claim_count B)))))

unfoldable pub lowest_pair : Tables → (ℕ → ℕ → Bool) → ℕ
lowest_pair B test =
    least_below (claim_count B) B.states
    (λ s. least_below (claim_count B) B.terminals (λ z. cond (test s z) (crossing_count B + pair_at B s z) (claim_count B)))

-- ---- the conditions
abbrev pub lowest_fault : Tables → Certificate → Condition → ℕ
lowest_fault B c Condition.Range = min (lowest_crossing B (λ q X a z. ltb (unreached plain) (c.crossing q X a z))) (lowest_pair B (λ s z. ltb (unreached plain) (c.pair s z)))
lowest_fault B c Condition.Roads = lowest_crossing B (λ q X a z. ltb (road_cost B c.crossing q X a z) (c.crossing q X a z))
lowest_fault B c Condition.Start = lowest_pair B (λ s z. eqb s 0 && not (eqb (c.pair s z) 0))
lowest_fault B c Condition.Transitions = lowest_pair B (λ s z. ltb (lengthened B c.crossing c.pair s z) (c.pair s z))
lowest_fault B c Condition.Short = lowest_pair B (λ s z. eqb (c.pair s z) (long plain))
lowest_fault B c Condition.Sentences = lowest_pair B (λ s z. leb (c.pair s z) plain.limit && not (is_right B (c.sentence s z) z s (c.pair s z)))

unfoldable pub verdict : Tables → Certificate → Verdict
verdict B c = told (claim_count B) (lowest_fault B c)

-- what `check_certificate` answers
abbrev pub answer : Tables → List ℕ → List ℕ → Spelled → Result Verdict Refusal
answer B crossings pairs (refused r) = Err r
answer B crossings pairs (spelled sentences end) = Ok (verdict B (certificate_in B crossings pairs sentences))

unfoldable pub checking : List ℕ → List ℕ → List ℕ → List ℕ → Result Verdict Refusal
checking cells crossings pairs bytes = answer (tables_of cells) crossings pairs (sentences_of cells crossings pairs bytes)
