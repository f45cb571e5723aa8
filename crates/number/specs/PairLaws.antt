-- Two answers of a pair that are the same have the same parts. Assumes nothing.
use Rattle.std.specs.Prelude.{Option, Some, Result, Ok, ◌≡◌}
use Rattle.std.proofs.Common.{ap}

pair-is : {A B : Type 0} {a c : A} {b d : B} → ◌≡◌ {A = A × B} (a, b) (c, d) → (a ≡ c) × (b ≡ d)
pair-is p = (ap (λ r. r.0) p, ap (λ r. r.1) p)

pub ok-is : {A B E : Type 0} {a c : A} {b d : B} → ◌≡◌ {A = Result (A × B) E} (Ok (a, b)) (Ok (c, d)) → (a ≡ c) × (b ≡ d)
ok-is {A} {B} {E} {a} {c} {b} {d} e = let p : ◌≡◌ {A = A × B} (a, b) (c, d) = cc in pair-is p

pub some-is : {A B : Type 0} {a c : A} {b d : B} → ◌≡◌ {A = Option (A × B)} (Some (a, b)) (Some (c, d)) → (a ≡ c) × (b ≡ d)
some-is {A} {B} {a} {c} {b} {d} e = let p : ◌≡◌ {A = A × B} (a, b) (c, d) = cc in pair-is p
