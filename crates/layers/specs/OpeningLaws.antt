-- Laws of the flags: one cell more, and that rows where no walk begins can be passed over with claims that are witnessed. Assumes nothing.
use Rattle.std.specs.Prelude.{List, ◌≡◌, ℕ, ◌+◌, ◌*◌, ◌/◌, ◌%◌, ◌≤◌, ◌<◌, length, get_or, set}
use Rattle.std.proofs.Common.{sym, ◌∙◌, arith, length-set, get_or-set_same, get_or-set_other}
use Rattle.std.proofs.Math.Decide.{ℕ_discrete}
use Rattle.book.specs.Tables.{Tables, tables_of}
use Rattle.book.specs.TablesLaws.{Holds}
use Rattle.book.proofs.TablesLaws.{act-some, goto-some}
use Rattle.book.specs.declared.Action.TheVariants.{Shift}
use Rattle.book.specs.declared.Sizes.{Sizes}
use Rattle.book.specs.RangeLaws.{Small}
use Rattle.machine.specs.MachineLaws.{clash}
use Rattle.walk.specs.Scale.{Scale}
use Rattle.walk.specs.Claims.{Claims, Witnessed}
use Rattle.walk.proofs.ClaimsLaws.{unopened-unreached}
use Rattle.walk.specs.WalkLaws.{Opens, shifts}
use Rattle.layers.specs.CrossingLaws.{within}
use Rattle.layers.specs.Opening.{row_in, Unopened, OpenRows, Skips}

-- the flags of the first k cells
pub record FirstRows (d : Sizes) (B : Tables) (k : ℕ) (rows : List ℕ) : Type 0 where
  pub size : length rows ≡ 4096
  pub unopened : (j : ℕ) → j < k → get_or rows j 0 ≡ 0 → Unopened d B j

pub first_more : {d : Sizes} {B : Tables} {k v : ℕ} {rows : List ℕ} → k < 4096 → FirstRows d B k rows → (v ≡ 0 → Unopened d B k) → FirstRows d B (k + 1) (set rows k v)
first_more {d} {B} {k} {v} {rows} h f last = record { size = length-set rows k v ∙ f.size; unopened = λ j l e. unopened j l e (ℕ_discrete j k) }
  where
    unopened : (j : ℕ) → j < k + 1 → get_or (set rows k v) j 0 ≡ 0 → Dec (j ≡ k) → Unopened d B j
    unopened j l e (yes i) = rw i (last (sym (get_or-set_same rows k v 0 (omega (arith, f.size))) ∙ rw i at e))
    unopened j l e (no i) = f.unopened j (omega arith) (sym (get_or-set_other rows k j v 0 i) ∙ e)

-- every cell of a state of the book is done
pub all-rows : {d : Sizes} {B : Tables} {k : ℕ} {rows : List ℕ} → Small d → d.s * 32 ≤ k → FirstRows d B k rows → OpenRows d B rows
all-rows {d} {B} {k} {rows} s l f = record { unopened = λ {q} {a} hq ha e. unopened q a hq ha e }
  where
    unopened : (q a : ℕ) → q < d.s → a < d.t → row_in rows q a ≡ 0 → ¬ Opens B q a
    unopened q a hq ha e =
        let state : (q * 32 + a) / 32 ≡ q = omega (arith, s.terminals) in
        let terminal : (q * 32 + a) % 32 ≡ a = omega (arith, s.terminals) in
        rw (state, terminal) at ((f.unopened (q * 32 + a) (omega (arith, s.states, s.terminals)) e).none (rw state hq) (rw terminal ha))

-- where no walk begins there is no shift, and witnessed claims are unreached
pub witnessed-skips : {σ : Scale} {d : Sizes} {cells rows : List ℕ} {claim : Claims} → Holds d cells → OpenRows d (tables_of cells) rows → Witnessed σ (tables_of cells) claim → Skips σ (tables_of cells) claim rows
witnessed-skips {cells} h o w = record {
  shiftless = λ {q} {a} {s} f e. let (lq, la, ok) = act-some h q a (Shift s) e (λ z. clash cc) in o.unopened lq la f (shifts e);
  unclaimed = λ {q} {X} {a} {z} {g} f ha hz e. unopened-unreached w (o.unopened (goto-some h q X g e).0 (within h ha) f) ha hz e;
}
