-- The tables that a book's cells hold: what all higher crates speak about. Assumes nothing.
use Rattle.std.specs.Prelude.{cond, ◌&&◌, List, get_or, ℕ, ◌+◌, ◌*◌, ltb, eqb}
use Rattle.book.specs.Action.{action_of}
use Rattle.book.specs.Range.{part_length}
use Rattle.book.specs.declared.{Action.Action, Part.Part, Sizes.Sizes}

-- the form, 'T terminals, N nonterminals, S states, P productions' stand in cells 0 to 4
unfoldable pub sizes_of : List ℕ → Sizes
sizes_of cells = record { form = get_or cells 0 0; t = get_or cells 1 0; n = get_or cells 2 0; s = get_or cells 3 0; p = get_or cells 4 0 }

-- the action of a state under a terminal; its goto under a nonterminal, '0 none, else state + 1'; a production's left side and length
pub record Tables : Type 0 where
  pub terminals : ℕ
  pub nonterminals : ℕ
  pub states : ℕ
  pub act : ℕ → ℕ → Action
  pub goto : ℕ → ℕ → ℕ
  pub lhs : ℕ → ℕ
  pub len : ℕ → ℕ

-- where a part begins: each where the one before it ends
abbrev pub part_start : Sizes → Part → ℕ
part_start d Part.Head = 0
part_start d Part.Productions = 5
part_start d Part.Ranks = 5 + 2 * d.p
part_start d Part.Actions = 5 + 2 * d.p + part_length d Part.Ranks
part_start d Part.Gotos = 5 + 2 * d.p + part_length d Part.Ranks + d.s * d.t

-- number i of a part
abbrev pub number_in : List ℕ → Part → ℕ → ℕ
number_in cells part i = get_or cells (part_start (sizes_of cells) part + i) 0

-- the tables of a valid list of cells; outside the ranges the action is error, the goto none, and left side and length are 0
unfoldable pub tables_of : List ℕ → Tables
tables_of cells =
    let d = sizes_of cells in
    record {
      terminals = d.t;
      nonterminals = d.n;
      states = d.s;
      act = λ q a. cond (ltb q d.s && ltb a d.t) (action_of (number_in cells Part.Actions (q * d.t + a))) Action.Error;
      goto = λ q X. cond (ltb q d.s && ltb X d.n) (number_in cells Part.Gotos (q * d.n + X)) 0;
      lhs = λ p. cond (ltb p d.p) (number_in cells Part.Productions (2 * p)) 0;
      len = λ p. cond (ltb p d.p) (number_in cells Part.Productions (2 * p + 1)) 0;
    }

-- 'in form 1 a terminal's rank is its number'
unfoldable pub rank_of : List ℕ → ℕ → ℕ
rank_of cells a = cond (eqb (sizes_of cells).form 2) (number_in cells Part.Ranks a) a
