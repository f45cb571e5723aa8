-- What the entries of a list say, wherever they stand in it, and how a list is written. Assumes nothing.
use Rattle.std.specs.Prelude.{List, [], ◌∷◌, ◌++◌, length, map, ℕ}
use Rattle.book.specs.Book.{bytes_of}
use Rattle.lists.specs.Entry.{sentence}
use Rattle.lists.specs.declared.Entry.{Entry}

-- an entry by what it says: its sentence, its lookahead and its article number
pub record Item : Type 0 where
  pub symbols : List ℕ
  pub lookahead : ℕ
  pub article : ℕ

abbrev pub item_of : List ℕ → Entry → Item
item_of bytes e = record { symbols = sentence bytes e; lookahead = e.lookahead; article = e.article }

-- what the entries of a list say, in the list's order
abbrev pub items : List ℕ → List Entry → List Item
items bytes es = map (item_of bytes) es

-- 'for each its length, symbols and lookahead', and by request 8 its 'article number after its lookahead'
abbrev pub item_numbers : Item → List ℕ
item_numbers x = (length x.symbols ∷ x.symbols) ++ (x.lookahead ∷ x.article ∷ [])

unfoldable pub numbers_of : List Item → List ℕ
numbers_of [] = []
numbers_of (x ∷ xs) = item_numbers x ++ numbers_of xs

-- 'A list is numbers as in a book: the count of entries ..; for each its length, symbols and lookahead; nothing after': the bytes of the list
-- that has these entries
abbrev pub list_bytes : List Item → List ℕ
list_bytes xs = bytes_of (length xs ∷ numbers_of xs)
