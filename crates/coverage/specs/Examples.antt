-- The lines on Bracket's list, as one table. Assumes nothing.
use Rattle.std.specs.Prelude.{List, [], ◌∷◌, ℕ}
use Rattle.walk.specs.Stars.{bracket}
use Rattle.course.specs.declared.Judgement.{Judgement}
use Rattle.judgement.specs.Judgement.{JudgedIn}

-- 'Bracket's list 6 | 0 0 | 1 1 1 | 1 2 0 | 1 1 3 | 2 2 1 0 | 3 2 1 3 1', by request 8 'tried with article 0 in each entry'
unfoldable pub bracket_list : List ℕ
bracket_list = 6 ∷ 0 ∷ 0 ∷ 0 ∷ 1 ∷ 1 ∷ 1 ∷ 0 ∷ 1 ∷ 2 ∷ 0 ∷ 0 ∷ 1 ∷ 1 ∷ 3 ∷ 0 ∷ 2 ∷ 2 ∷ 1 ∷ 0 ∷ 0 ∷ 3 ∷ 2 ∷ 1 ∷ 3 ∷ 1 ∷ 0 ∷ []

-- 'without its third entry, and with count 5'
unfoldable pub shortened : List ℕ
shortened = 5 ∷ 0 ∷ 0 ∷ 0 ∷ 1 ∷ 1 ∷ 1 ∷ 0 ∷ 1 ∷ 1 ∷ 3 ∷ 0 ∷ 2 ∷ 2 ∷ 1 ∷ 0 ∷ 0 ∷ 3 ∷ 2 ∷ 1 ∷ 3 ∷ 1 ∷ 0 ∷ []

-- a line: a list, and its judgement against Bracket: 'is complete'; 'state 2 is uncovered'
unfoldable pub list_lines : List (List ℕ × Judgement)
list_lines = (bracket_list, Judgement.Complete) ∷ (shortened, Judgement.Uncovered 2) ∷ []

abbrev pub AllJudged : List (List ℕ × Judgement) → Type 0
AllJudged [] = Unit
AllJudged (line ∷ lines) = JudgedIn bracket line.0 line.1 × AllJudged lines
