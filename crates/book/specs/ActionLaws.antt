-- Laws of action cells. Assumes nothing.
use Rattle.std.specs.Prelude.{◌≡◌, refl, ℕ, zero, suc, ◌+◌, ◌*◌, ◌/◌, ◌%◌}
use Rattle.std.proofs.Common.{arith, ne_eqb}
use Rattle.book.specs.Action.{action_of}
use Rattle.book.specs.declared.Action.{Action}
use Rattle.book.specs.declared.Action.TheVariants.{Error, Accept, Shift, Reduce}

pub action-even : (n k : ℕ) → n ≡ suc (suc k) → k % 2 ≡ 0 → action_of n ≡ Shift (k / 2)
unfolding action_of
action-even n k e h = rw (e, h)

pub action-odd : (n k : ℕ) → n ≡ suc (suc k) → k % 2 ≡ 1 → action_of n ≡ Reduce (k / 2)
unfolding action_of
action-odd n k e h = rw (e, h)

-- 'an action: 0 error, 1 accept, 2 + 2 × s shift to state s, 3 + 2 × p reduce production p': the code of each
unfoldable pub code_of : Action → ℕ
code_of Error = 0
code_of Accept = 1
code_of (Shift s) = 2 + 2 * s
code_of (Reduce p) = 3 + 2 * p

-- decoding gives the action that the cell is the code of
pub code-action : (n : ℕ) → code_of (action_of n) ≡ n
unfolding action_of code_of
code-action zero = refl
code-action (suc zero) = refl
code-action (suc (suc k)) = go (k % 2) refl
  where
    go : (r : ℕ) → k % 2 ≡ r → code_of (action_of (suc (suc k))) ≡ suc (suc k)
    go zero e = rw e (omega arith)
    go (suc r) e =
        let n : ¬ (k % 2 ≡ 0) = omega arith in
        rw (ne_eqb (k % 2) 0 n) (omega arith)
