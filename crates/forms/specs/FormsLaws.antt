-- Definitions for the laws of the forms: a book in another form is a book with the same tables, and a book in its own form is itself. Assumes nothing.
use Prim.Native.Nat.{ℕ}
use Rattle.book.specs.declared.Sizes.{Sizes}

-- the sizes in another form
abbrev pub with_form : ℕ → Sizes → Sizes
with_form form d = record { form = form; t = d.t; n = d.n; s = d.s; p = d.p }
