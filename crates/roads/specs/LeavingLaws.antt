-- Laws of the flags by claims: one cell more, and that all of them say which rows can be passed over. Assumes nothing.
use Rattle.std.specs.Prelude.{List, ◌≡◌, ℕ, suc, ◌+◌, ◌*◌, ◌/◌, ◌%◌, ◌≤◌, ◌<◌, length, get_or, set}
use Rattle.std.proofs.Common.{sym, ◌∙◌, le_antisymm, le_trans, arith, length-set, get_or-set_same, get_or-set_other}
use Rattle.std.proofs.Math.Decide.{ℕ_discrete}
use Rattle.book.specs.Tables.{Tables, tables_of}
use Rattle.book.specs.TablesLaws.{Holds}
use Rattle.book.proofs.TablesLaws.{act-some, goto-some}
use Rattle.book.specs.declared.Action.TheVariants.{Shift}
use Rattle.book.specs.declared.Sizes.{Sizes}
use Rattle.machine.specs.MachineLaws.{clash}
use Rattle.walk.specs.Scale.{plain, unreached}
use Rattle.walk.specs.Claims.{Claims}
use Rattle.layers.specs.Crossing.{crossing_row, claim_in, Usable}
use Rattle.layers.specs.CrossingLaws.{within}
use Rattle.layers.specs.Opening.{row_in}
use Rattle.roads.specs.Roads.{Marked, Unclaimed, LeftNowhere}
use Rattle.roads.specs.RoadLaws.{claim-most}

-- every cell of a row of claims is unreached at least
pub unclaimed-row : {d : Sizes} {B : Tables} {q a X row v : ℕ} (table : List ℕ) → row ≡ crossing_row d q X a → ((z : ℕ) → z < d.t → v ≤ get_or table (row + z) 0) → unreached plain ≤ v
    → Unclaimed d B (claim_in d table) q a X
unfolding claim_in
unclaimed-row table i least h = record { far = λ {g} {z} e lz. le_trans h (rw i at (least z lz)) }

-- the flags of the first k cells
pub record FlagsTo (d : Sizes) (B : Tables) (claim : Claims) (k : ℕ) (rows : List ℕ) : Type 0 where
  pub size : length rows ≡ 4096
  pub nowhere : (j : ℕ) → j < k → get_or rows j 0 ≡ 0 → LeftNowhere d B claim j

pub flags-more : {d : Sizes} {B : Tables} {claim : Claims} {k v : ℕ} {rows : List ℕ} → k < 4096 → FlagsTo d B claim k rows → (v ≡ 0 → LeftNowhere d B claim k) → FlagsTo d B claim (k + 1) (set rows k v)
flags-more {d} {B} {claim} {k} {v} {rows} h f last = record { size = length-set rows k v ∙ f.size; nowhere = λ j l e. nowhere j l e (ℕ_discrete j k) }
  where
    nowhere : (j : ℕ) → j < k + 1 → get_or (set rows k v) j 0 ≡ 0 → Dec (j ≡ k) → LeftNowhere d B claim j
    nowhere j l e (yes i) = rw i (last (sym (get_or-set_same rows k v 0 (omega (arith, f.size))) ∙ rw i at e))
    nowhere j l e (no i) = f.nowhere j (omega arith) (sym (get_or-set_other rows k j v 0 i) ∙ e)

-- every cell of a state of the book is done
module _ {d : Sizes} {cells table rows : List ℕ} {k : ℕ} (m : Marked d cells table) (l : d.s * 32 ≤ k) (f : FlagsTo d (tables_of cells) (claim_in d table) k rows) where
  h : Holds d cells
  h = m.fitted.holds

  shiftless : (q a s : ℕ) → row_in rows q a ≡ 0 → ¬ ((tables_of cells).act q a ≡ Shift s)
  shiftless q a s i e =
      let (lq, la, ok) = act-some h q a (Shift s) e (λ z. clash cc) in
      let state : (q * 32 + a) / 32 ≡ q = omega (arith, h.small.terminals) in
      let terminal : (q * 32 + a) % 32 ≡ a = omega (arith, h.small.terminals) in
      (f.nowhere (q * 32 + a) (omega (arith, h.small.states, h.small.terminals)) i).shiftless (rw state lq) (rw terminal la) s (rw (state, terminal) e)

  unclaimed : (q X a z g : ℕ) → row_in rows q a ≡ 0 → a < d.t → z < d.t → (tables_of cells).goto q X ≡ suc g → claim_in d table q X a z ≡ unreached plain
  unclaimed q X a z g i la lz e =
      let (lq, lX, lg) = goto-some h q X g e in
      let state : (q * 32 + a) / 32 ≡ q = omega (arith, h.small.terminals) in
      let terminal : (q * 32 + a) % 32 ≡ a = omega (arith, h.small.terminals) in
      le_antisymm
      (claim-most m q X a z)
      (rw (state, terminal) at (((f.nowhere (q * 32 + a) (omega (arith, h.small.states, h.small.terminals)) i).unclaimed (rw state lq) (rw terminal la) X lX).far {g = g} {z = z} (rw state e) lz))

  pub flags-usable : Usable plain d cells table rows
  flags-usable = record {
    fitted = m.fitted;
    skips = record {
      shiftless = λ {q} {a} {s} i e. shiftless q a s i e;
      unclaimed = λ {q} {X} {a} {z} {g} i ha hz e. unclaimed q X a z g i (within h ha) (within h hz) e;
    };
  }
