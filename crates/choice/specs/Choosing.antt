-- A sentence of a set of words, chosen symbol by symbol. Assumes nothing.
use Rattle.std.specs.Prelude.{List, reverse, ◌≡◌, ℕ, ◌+◌, ◌*◌, ◌≤◌, length, take}
use Rattle.number.specs.Lent.{over}
use Rattle.book.specs.Tables.{Tables}
use Rattle.walk.specs.Scale.{Scale}
use Rattle.walk.specs.Cost.{cost}
use Rattle.walk.specs.Answer.{Sentence, Best}
use Rattle.walk.specs.Choice.{Chosen, AfterFrom}
use Rattle.choice.specs.Taking.{Stacked}

-- i symbols of a sentence of P of cost n are chosen and stand at the front of the buffer, with the cost `left` to come; the first depth cells hold
-- the machine's stack after them, where it began with another
pub record Choosing (σ : Scale) (rank : ℕ → ℕ) (B : Tables) (P : List ℕ → Type 0) (begun : List ℕ) (n : ℕ) (lent buffer stack : List ℕ) (depth i left : ℕ) : Type 0 where
  pub word : List ℕ
  pub count : length word ≡ i
  pub paid : cost σ word + left ≡ n
  pub front : buffer ≡ over word lent
  pub chosen : Chosen σ rank P word left
  pub after : AfterFrom B begun word (reverse (take depth stack))
  pub stacked : Stacked B.states stack depth
  pub low : depth ≤ length begun + 128 * i

-- the sentence of cost n that is right for P stands at the front of the buffer
pub record Chose (σ : Scale) (rank : ℕ → ℕ) (P : List ℕ → Type 0) (n : ℕ) (lent buffer : List ℕ) : Type 0 where
  pub word : List ℕ
  pub paid : cost σ word ≡ n
  pub front : buffer ≡ over word lent
  pub answer : Best σ rank P (Sentence word)
