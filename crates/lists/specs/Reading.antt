-- A reader over a list: what starting it gives, and what one turn of it gives and leaves. Assumes nothing.
use Rattle.std.specs.Borrow.{Bor}
use Rattle.std.specs.Prelude.{Option, Some, None, Result, Ok, Err, List, ℕ}
use Rattle.number.specs.declared.cause.Refusal.{Refusal}
use Rattle.lists.specs.List.{list_in, listing, next_at}
use Rattle.lists.specs.declared.{Entry.Entry, Rest.Rest, Reader.Reader}

-- 'A reader over a list' that is 'checked whole when it starts': it stands before the first entry; or there is none, and it has the refusal
abbrev pub opened : Bor (List ℕ) → Result Rest Refusal → Reader
opened list (Ok rest) = record { list = list; rest = rest; refusal = None }
opened list (Err r) = record { list = list; rest = record { at = 0; left = 0 }; refusal = Some r }

-- the reader that `start` answers, over a list against the book in the cells
abbrev pub start_of : List ℕ → Bor (List ℕ) → Reader
start_of cells list = opened list (listing list.now (list_in cells list.now))

-- 'gives its entries one after another and says how many remain; after the last it gives none', and stays where it is: what it gives
abbrev pub given_of : Option (Entry × Rest) → Option Entry
given_of None = None
given_of (Some (e, rest)) = Some e

-- .. and where it stands then
abbrev pub onward : Reader → Option (Entry × Rest) → Reader
onward r None = r
onward r (Some (e, rest)) = record { list = r.list; rest = rest; refusal = r.refusal }

-- what one turn gives
abbrev pub turn_of : Reader → Option Entry
turn_of r = given_of (next_at r.list.now r.rest.at r.rest.left)

-- the reader after one turn
abbrev pub moved : Reader → Reader
moved r = onward r (next_at r.list.now r.rest.at r.rest.left)
