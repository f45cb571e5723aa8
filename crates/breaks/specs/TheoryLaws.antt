-- The statements of `Theory` hold. Assumes nothing.
use Rattle.book.specs.Tables.{Tables}
use Rattle.book.specs.TablesLaws.{InRange}
use Rattle.walk.specs.Scale.{Scale}
use Rattle.breaks.specs.BreakingLaws.{breaks-reduce, run-broken, breaks-brings, break-start, break-stack}
use Rattle.breaks.specs.BreakClaimsLaws.{far-matches, arrival-matches, arrival-exact, break-matches, break-guides, start-exact-break}
use Rattle.breaks.specs.AnswerBreakLaws.{answer-break-one, answer-break-exact, no-break}
use Rattle.breaks.specs.Theory.{BreakTheory}

pub break-theory : (σ : Scale) {B : Tables} → InRange B → BreakTheory σ B
break-theory σ {B} i = record {
  reduces = λ b. breaks-reduce b;
  runs-broken = λ w z stop e all t. run-broken B w z stop e all t;
  goal = λ w. breaks-brings i w;
  from_start = λ e w. break-start i e w;
  from-stack = λ e w. break-stack i e w;
  fars = λ c k h. far-matches i c k h;
  arrivals = λ c k h e. arrival-matches i c k h e;
  lengths = λ c k h e l. arrival-exact i c k h e l;
  stacks = λ c k h. break-matches i c k h;
  guides = λ c k h e t. break-guides i c k h e t;
  start = λ c k h e t m low top. start-exact-break i c k h e t m low top;
  one_answer = λ rank s z o o' a b. answer-break-one σ rank B s z o o' a b;
  answer-length = λ rank s z o a. answer-break-exact σ rank B s z o a;
  no_answer = λ none w b. no-break none w b;
}
