-- What a form of book fixes about costs: what each symbol costs, how much a sentence may cost, and the two marks above that. Assumes nothing.
use Rattle.std.specs.Prelude.{ℕ, suc, min}

-- any numbers make a scale: what a terminal costs beyond 1, and the most that a sentence may cost
pub record Scale : Type 0 where
  pub extra : ℕ → ℕ
  pub limit : ℕ

-- what it costs to take in a terminal: at least 1
abbrev pub weight : Scale → ℕ → ℕ
weight σ t = suc (σ.extra t)

-- the two marks: for every word above the limit, and where there is no word
abbrev pub long : Scale → ℕ
long σ = suc σ.limit

abbrev pub unreached : Scale → ℕ
unreached σ = suc (long σ)

-- a cost as a table holds it: every one above the limit is long
abbrev pub cap : Scale → ℕ → ℕ
cap σ n = min n (long σ)

-- forms 1 and 2: every symbol costs 1, 'a sentence w is up to 1,000 symbols', '1,001 for long, 1,002 for unreached'
abbrev pub plain : Scale
plain = record { extra = λ t. 0; limit = 1000 }
