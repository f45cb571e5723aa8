-- `advance::distance::leads` meets its contract. Assumes nothing.
use mathlib.Core.Bool.{false≢true}
use mathlib.Core.Path.{◌≡◌, ap, sym, ◌∙◌}
use Prim.Native.Nat.{ℕ, ◌+◌, ◌-◌}
use native.Mathlib.Omega.{arith}
use borrow.Author.Tests.{eqb-true, eqb-false}
use lib.ListN.{get_or}
use Rattle.layers.specs.Crossing.{claim_in}
use Rattle.layers.specs.CrossingLaws.{row_fits, goto-least}
use Rattle.advance.proofs.distance.leads.Goals as goal

pub returns-then-target-eq0 : goal.returns-then-target-eq0
returns-then-target-eq0 c =
    record {
      leads_to = λ e. absurd (false≢true e);
      not_leads_to = λ e a. omega (arith, a.transition, c.goto_at-target.ensures, c.if-target-eq0.true);
    }

pub returns-then-table-row-ne0 : goal.returns-then-table-row-ne0
unfolding claim_in
returns-then-table-row-ne0 c =
    record {
      leads_to = λ e. absurd (false≢true e);
      not_leads_to = λ e a. c.if-table-row-ne0.true (ap (λ (i : ℕ). get_or c.args.table.now (i + c.args.a) 0) c.crossing_row-row.ensures ∙ a.claimed);
    }

pub bounds-to-target : goal.bounds-to-target
bounds-to-target c = omega (arith, goto-least c.requires.fitted.holds _ _ c.goto_at-target.ensures)

pub returns : goal.returns
unfolding claim_in
returns c =
    record {
      leads_to = λ e. record {
        target = c.goto_at-target.result - 1;
        transition = omega (arith, c.goto_at-target.ensures, c.if-target-eq0.false);
        claimed = ap (λ (i : ℕ). get_or c.args.table.now (i + c.args.a) 0) (sym c.crossing_row-row.ensures) ∙ c.if-table-row-ne0.false;
        distance = eqb-true _ _ e;
      };
      not_leads_to = λ e a. eqb-false _ _ e (let same : c.goto_at-target.result - 1 ≡ a.target = omega (arith, a.transition, c.goto_at-target.ensures) in ap (λ (i : ℕ). get_or c.args.to.now i 0) same ∙ a.distance);
    }

pub overflow_add-row : goal.overflow_add-row
overflow_add-row c =
    omega (arith, row_fits c.requires.fitted c.requires.a_lt_t.1 c.requires.a_lt_t.2 c.requires.a_lt_t.0 c.crossing_row-row.ensures, c.requires.a_lt_t.0)

pub offset_bounds-table-row : goal.offset_bounds-table-row
offset_bounds-table-row c =
    omega (arith, row_fits c.requires.fitted c.requires.a_lt_t.1 c.requires.a_lt_t.2 c.requires.a_lt_t.0 c.crossing_row-row.ensures, c.requires.a_lt_t.0)

pub bounds-table-row : goal.bounds-table-row
bounds-table-row c =
    omega (arith, row_fits c.requires.fitted c.requires.a_lt_t.1 c.requires.a_lt_t.2 c.requires.a_lt_t.0 c.crossing_row-row.ensures, c.requires.a_lt_t.0)
