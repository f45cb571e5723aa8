-- What makes an entry right shows that its pair fails. Assumes nothing.
use Rattle.std.specs.Prelude.{true, ◌⊎◌, ◌≡◌, refl, length}
use Rattle.std.proofs.Common.{inl, inr}
use Rattle.book.specs.Tables.{Tables}
use Rattle.machine.specs.Machine.{Terminals}
use Rattle.machine.specs.RunLaws.{run-error}
use Rattle.machine.specs.declared.Ending.TheVariants.{Error, Broken}
use Rattle.machine.specs.declared.Stop.{Stop}
use Rattle.breaks.specs.BreakingLaws.{run-broken}
use Rattle.failing.specs.Failing.{FailsAt, errs, breaks}
use Rattle.items.specs.Items.{Item}
use Rattle.course.specs.Course.{run_of, is_right, state_in}
use Rattle.course.specs.CourseLaws.{right-ends}

pub right-fails : {B : Tables} (x : Item) → Terminals B x.symbols → is_right (length x.symbols) (run_of B x) ≡ true
    → FailsAt B (state_in B x) x.lookahead x.symbols
right-fails {B} x t r = let n = right-ends B x (run_of B x) refl r in rw (← n.state) (go n.stop n.whole n.ending)
  where
    go : (stop : Stop) → stop.taken ≡ length x.symbols → (run_of B x ≡ Error stop) ⊎ (run_of B x ≡ Broken stop) → FailsAt B stop.state x.lookahead x.symbols
    go stop whole (inl e) = let (reached, error) = run-error B x.symbols x.lookahead stop e whole t in errs reached error
    go stop whole (inr e) = breaks (run-broken B x.symbols x.lookahead stop e whole t)
