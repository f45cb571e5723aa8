-- Every refusal of a book or a list has a number of its own. Assumes nothing.
use Rattle.std.specs.Prelude.{List, ◌≡◌, ℕ, ◌≤◌}
use Rattle.number.specs.Cause.{number_of}
use Rattle.number.specs.CauseLaws.{number-some}
use Rattle.number.specs.declared.cause.Refusal.{Refusal}
use Rattle.lists.specs.List.{refused, list_in}

pub refusal-numbered : (cells bytes : List ℕ) (r : Refusal) → list_in cells bytes ≡ refused r → 1 ≤ number_of r.cause
refusal-numbered cells bytes r e = number-some r.cause
