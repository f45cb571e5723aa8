-- One entry of a list of sentences: which numbers are in range where, and what reading it at an offset gives. Assumes nothing.
use Rattle.std.specs.Prelude.{Option, Result, Ok, Err, ◌&&◌, List, [], take, drop, ℕ, ltb, leb}
use Rattle.number.specs.{Number.Number, Number.number_at, declared.Cursor.Cursor, declared.cause.Cause.Cause, declared.cause.Refusal.Refusal}
use Rattle.book.specs.{Book.Row, Book.admitted, Book.row, Range.fault_unless}
use Rattle.lists.specs.declared.Entry.{Entry}

-- the cause where v is below least, or at the limit or above; or none
unfoldable pub outside : ℕ → ℕ → Cause → ℕ → Option Cause
outside least limit cause v = fault_unless (leb least v && ltb v limit) cause

-- '8 a sentence has over 1,000 symbols'
abbrev pub length_fault : ℕ → Option Cause
length_fault = outside 0 1001 Cause.Length

-- '7 a symbol is 0, or T or more': the same for each symbol of a sentence
abbrev pub symbol_fault : ℕ → List ℕ → ℕ → Option Cause
symbol_fault t seen = outside 1 t Cause.Symbol

-- the symbols of a sentence, each a number of the list, from the offset where they begin
abbrev pub symbol_row : ℕ → List ℕ → ℕ → ℕ → Row
symbol_row t bytes start len = row (number_at bytes) (symbol_fault t) len [] start

-- '11 lookahead T or more (also in a list, with its place)'
abbrev pub lookahead_fault : ℕ → ℕ → Option Cause
lookahead_fault t = outside 0 t Cause.Lookahead

-- 'for each its length, symbols and lookahead', each number by 1, 2, its range, and so '8 before 7'. By request 8 'Each list entry gains the
-- message's article number after its lookahead, 0 to 2,097,151': any number, and it ends the entry
abbrev pub entry_ended : ℕ → ℕ → ℕ → Number → Result (Entry × Cursor) Refusal
entry_ended start len z (Err r) = Err r
entry_ended start len z (Ok (article, next)) = Ok (record { start = start; len = len; lookahead = z; article = article }, next)

-- the lookahead was read
abbrev pub after_lookahead : List ℕ → ℕ → ℕ → Number → Result (Entry × Cursor) Refusal
after_lookahead bytes start len (Err r) = Err r
after_lookahead bytes start len (Ok (z, next)) = entry_ended start len z (number_at bytes next.at)

-- the symbols were read
abbrev pub after_symbols : ℕ → List ℕ → ℕ → ℕ → Row → Result (Entry × Cursor) Refusal
after_symbols t bytes start len (Row.refused r) = Err r
after_symbols t bytes start len (Row.read symbols at) = after_lookahead bytes start len (admitted (lookahead_fault t) at (number_at bytes at))

-- the length was read
abbrev pub after_length : ℕ → List ℕ → Number → Result (Entry × Cursor) Refusal
after_length t bytes (Err r) = Err r
after_length t bytes (Ok (len, next)) = after_symbols t bytes next.at len (symbol_row t bytes next.at len)

-- the entry at an offset of the bytes: where its symbols begin, how many, its lookahead, its article number, and the offset after it; or the
-- refusal
unfoldable pub entry_at : ℕ → List ℕ → ℕ → Result (Entry × Cursor) Refusal
entry_at t bytes at = after_length t bytes (admitted length_fault at (number_at bytes at))

-- 'The sentence of an entry is handed back as that part of the list's own bytes'
abbrev pub part : List ℕ → ℕ → ℕ → List ℕ
part bytes start len = take len (drop start bytes)

abbrev pub sentence : List ℕ → Entry → List ℕ
sentence bytes e = part bytes e.start e.len
