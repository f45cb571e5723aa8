-- Small certificates and their verdicts, as one table. Assumes nothing.
use Rattle.number.specs.declared.cause.Cause.{Cause}
use Rattle.number.specs.{Number.refused_at, declared.cause.Refusal.Refusal}
use Rattle.std.specs.Prelude.{Result, Ok, Err, List, [], ◌∷◌, ℕ}
use Rattle.certificate.specs.declared.{Condition.Condition, Verdict.Verdict}

pub record Case : Type 0 where
  pub cells : List ℕ
  pub crossings : List ℕ
  pub pairs : List ℕ
  pub bytes : List ℕ
  pub answer : Result Verdict Refusal

abbrev pub is : List ℕ → List ℕ → List ℕ → List ℕ → Result Verdict Refusal → Case
is cells crossings pairs bytes answer = record { cells = cells; crossings = crossings; pairs = pairs; bytes = bytes; answer = answer }

abbrev pub refuses : Cause → ℕ → Result Verdict Refusal
refuses cause place = Err (refused_at cause place)

abbrev pub fault : Condition → ℕ → Result Verdict Refusal
fault k i = Ok (Verdict.Fault k i)

-- 'the empty run spins, and (1, 0) has the empty sentence': crossings of (0, 0) and (1, 0), the second of a goto that is none; pairs (0, 0) and (1, 0)
unfoldable pub spinning : List ℕ
spinning = 1 ∷ 1 ∷ 1 ∷ 2 ∷ 2 ∷ 0 ∷ 0 ∷ 0 ∷ 1 ∷ 3 ∷ 5 ∷ 2 ∷ 0 ∷ []

-- 'the empty run is deep'
unfoldable pub deep : List ℕ
deep = 1 ∷ 1 ∷ 1 ∷ 1 ∷ 1 ∷ 0 ∷ 0 ∷ 3 ∷ 1 ∷ []

-- state 0 accepts under the end mark; state 1 is unreached
unfoldable pub apart : List ℕ
apart = 1 ∷ 1 ∷ 0 ∷ 2 ∷ 0 ∷ 1 ∷ 0 ∷ []

-- state 0 shifts terminal 1 to state 1
unfoldable pub single : List ℕ
single = 1 ∷ 2 ∷ 0 ∷ 2 ∷ 0 ∷ 0 ∷ 4 ∷ 1 ∷ 0 ∷ []

unfoldable pub cases : List Case
cases =
    is spinning (0 ∷ 1002 ∷ []) (0 ∷ 0 ∷ []) (0 ∷ 0 ∷ []) (Ok Verdict.Accepted)
    -- a claim of a crossing may be too low
    ∷ is spinning (0 ∷ 7 ∷ []) (0 ∷ 0 ∷ []) (0 ∷ 0 ∷ []) (Ok Verdict.Accepted)
    -- each condition, and the first of two
    ∷ is spinning (0 ∷ 1003 ∷ []) (0 ∷ 0 ∷ []) (0 ∷ 0 ∷ []) (fault Condition.Range 1)
    ∷ is spinning (0 ∷ 1002 ∷ []) (0 ∷ 1003 ∷ []) (0 ∷ []) (fault Condition.Range 3)
    ∷ is spinning (1 ∷ 1002 ∷ []) (0 ∷ 0 ∷ []) (0 ∷ 0 ∷ []) (fault Condition.Roads 0)
    ∷ is spinning (1 ∷ 1002 ∷ []) (1 ∷ 1003 ∷ []) (0 ∷ []) (fault Condition.Range 3)
    ∷ is spinning (0 ∷ 1002 ∷ []) (1 ∷ 0 ∷ []) (0 ∷ 0 ∷ []) (fault Condition.Start 2)
    ∷ is spinning (0 ∷ 1002 ∷ []) (0 ∷ 1 ∷ []) (0 ∷ 0 ∷ []) (fault Condition.Transitions 3)
    ∷ is spinning (0 ∷ 1002 ∷ []) (0 ∷ 1001 ∷ []) (0 ∷ []) (fault Condition.Transitions 3)
    ∷ is apart [] (0 ∷ 1002 ∷ []) (0 ∷ []) (Ok Verdict.Accepted)
    ∷ is apart [] (0 ∷ 1001 ∷ []) (0 ∷ []) (fault Condition.Short 1)
    ∷ is apart [] (0 ∷ 0 ∷ []) (0 ∷ 0 ∷ []) (fault Condition.Sentences 1)
    ∷ is deep (0 ∷ []) (0 ∷ []) (0 ∷ []) (Ok Verdict.Accepted)
    ∷ is single [] (0 ∷ 0 ∷ 1 ∷ 1 ∷ []) (0 ∷ 0 ∷ 1 ∷ 1 ∷ 1 ∷ 1 ∷ []) (Ok Verdict.Accepted)
    ∷ is single [] (0 ∷ 0 ∷ 0 ∷ 1 ∷ []) (0 ∷ 0 ∷ 1 ∷ 1 ∷ 1 ∷ 1 ∷ []) (fault Condition.Sentences 2)
    ∷ is single [] (0 ∷ 0 ∷ 1 ∷ 2 ∷ []) (0 ∷ 0 ∷ 1 ∷ 1 ∷ 2 ∷ 1 ∷ 1 ∷ []) (fault Condition.Transitions 3)
    -- refusals: the book's, the rows', the sentences'
    ∷ is [] [] [] [] (refuses Cause.Incomplete 0)
    ∷ is spinning (0 ∷ []) (0 ∷ []) [] (refuses Cause.Incomplete 1)
    ∷ is spinning (0 ∷ 0 ∷ 0 ∷ []) (0 ∷ []) [] (refuses Cause.Surplus 2)
    ∷ is spinning (0 ∷ 1003 ∷ []) (0 ∷ []) [] (refuses Cause.Incomplete 1)
    ∷ is spinning (0 ∷ 1003 ∷ []) (0 ∷ 0 ∷ 0 ∷ []) [] (refuses Cause.Surplus 2)
    ∷ is spinning (0 ∷ 1003 ∷ []) (0 ∷ 0 ∷ []) (0 ∷ []) (refuses Cause.Incomplete 1)
    ∷ is spinning (0 ∷ 1003 ∷ []) (0 ∷ 0 ∷ []) (0 ∷ 128 ∷ 0 ∷ []) (refuses Cause.Malformed 1)
    ∷ is spinning (0 ∷ 1003 ∷ []) (0 ∷ 0 ∷ []) (0 ∷ 233 ∷ 7 ∷ []) (refuses Cause.Length 1)
    ∷ is spinning (0 ∷ 1003 ∷ []) (0 ∷ 0 ∷ []) (0 ∷ 1 ∷ 1 ∷ []) (refuses Cause.Symbol 2)
    ∷ is spinning (0 ∷ 1003 ∷ []) (0 ∷ 0 ∷ []) (0 ∷ 0 ∷ 0 ∷ []) (refuses Cause.Surplus 2)
    ∷ []
