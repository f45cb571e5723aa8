-- Laws of causes: every one has a number. Assumes nothing.
use Rattle.std.specs.Prelude.{cond, eqb, ◌≡◌, ℕ, ◌≤◌}
use Rattle.std.proofs.Common.{arith, refl, sym, ◌∙◌, ap}
use Rattle.number.specs.Cause.{number_of}
use Rattle.number.specs.declared.cause.Cause.{Cause}

pub number-some : (cause : Cause) → 1 ≤ number_of cause
number-some Cause.Incomplete = omega arith
number-some Cause.Malformed = omega arith
number-some Cause.Form = omega arith
number-some Cause.Count = omega arith
number-some Cause.Production = omega arith
number-some Cause.Surplus = omega arith
number-some Cause.Symbol = omega arith
number-some Cause.Length = omega arith
number-some Cause.Entries = omega arith
number-some Cause.State = omega arith
number-some Cause.Lookahead = omega arith
number-some Cause.Output = omega arith
number-some Cause.Room = omega arith
number-some Cause.Action = omega arith
number-some Cause.Goto = omega arith
number-some Cause.Rank = omega arith
number-some Cause.Order = omega arith

-- .. and no two the same
abbrev numbered : ℕ → Cause
numbered n = cond (eqb n 1) Cause.Incomplete (cond (eqb n 2) Cause.Malformed (cond (eqb n 3) Cause.Form (cond (eqb n 4) Cause.Count (cond (eqb n 5) Cause.Production (cond (eqb n 6) Cause.Surplus (cond (eqb n 7) Cause.Symbol (cond (eqb n 8) Cause.Length (cond (eqb n 9) Cause.Entries (cond (eqb n 10) Cause.State (cond (eqb n 11) Cause.Lookahead (cond (eqb n 12) Cause.Output (cond (eqb n 13) Cause.Room (cond (eqb n 14) Cause.Action (cond (eqb n 15) Cause.Goto (cond (eqb n 16) Cause.Rank Cause.Order)))))))))))))))

back : (cause : Cause) → numbered (number_of cause) ≡ cause
back Cause.Incomplete = refl
back Cause.Malformed = refl
back Cause.Form = refl
back Cause.Count = refl
back Cause.Production = refl
back Cause.Surplus = refl
back Cause.Symbol = refl
back Cause.Length = refl
back Cause.Entries = refl
back Cause.State = refl
back Cause.Lookahead = refl
back Cause.Output = refl
back Cause.Room = refl
back Cause.Action = refl
back Cause.Goto = refl
back Cause.Rank = refl
back Cause.Order = refl

pub number-one : (c d : Cause) → number_of c ≡ number_of d → c ≡ d
number-one c d e = sym (back c) ∙ ap numbered e ∙ back d
