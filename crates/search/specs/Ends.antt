-- What the cost to go over a stack is taken from. Assumes nothing.
use Rattle.std.specs.Prelude.{List, ℕ, ◌*◌, ◌≤◌, ◌<◌, length}
use Rattle.book.specs.declared.Sizes.{Sizes}
use Rattle.search.specs.Search.{Stack}

-- the first `kept` states of a stack are kept
pub record Kept (s : ℕ) (stack : List ℕ) (kept : ℕ) : Type 0 where
  pub states : Stack s stack
  pub inside : kept ≤ length stack

-- `len` layers lie one after the other; if there is one, the left side of the reduction that they lead to is a nonterminal
pub record Layered (d : Sizes) (due : List ℕ) (len left : ℕ) : Type 0 where
  pub cells : len * 4096 ≤ length due
  pub nonterminal : 1 ≤ len → left < d.n
