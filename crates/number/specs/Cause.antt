-- The causes of refusals, and the number that each has. Assumes nothing.
use Rattle.std.specs.Prelude.{ℕ}
use Rattle.number.specs.declared.cause.Cause.{Cause}

-- 'The maker of a book or list', 'The maker of a sentence or list', 'The caller', and by request 1 and 2
abbrev pub number_of : Cause → ℕ
number_of Cause.Incomplete = 1
number_of Cause.Malformed = 2
number_of Cause.Form = 3
number_of Cause.Count = 4
number_of Cause.Production = 5
number_of Cause.Surplus = 6
number_of Cause.Symbol = 7
number_of Cause.Length = 8
number_of Cause.Entries = 9
number_of Cause.State = 10
number_of Cause.Lookahead = 11
number_of Cause.Output = 12
number_of Cause.Room = 13
number_of Cause.Action = 14
number_of Cause.Goto = 15
number_of Cause.Rank = 16
number_of Cause.Order = 17
