-- The verdict on a certificate does not depend on the book's form and ranks. Assumes nothing.
use Rattle.std.specs.Prelude.{List, ◌≡◌, ℕ, length}
use Rattle.std.proofs.Common.{ap}
use Rattle.book.specs.CallLaws.{steps_alike}
use Rattle.book.specs.Tables.{tables_of}
use Rattle.book.specs.declared.Sizes.{Sizes}
use Rattle.forms.specs.AlikeLaws.{Alike}
use Rattle.forms.proofs.AlikeLaws.{alike-tables, alike-sizes}
use Rattle.certificate.specs.Checks.{certificate_refusals, spelled_in, sentences_of}
use Rattle.certificate.specs.Sentences.{sentences_in}
use Rattle.certificate.specs.Verdict.{answer, checking}

pub checking-alike : (d e : Sizes) (cells other : List ℕ) → Alike d e cells other → (crossings pairs bytes : List ℕ) → checking cells crossings pairs bytes ≡ checking other crossings pairs bytes
unfolding checking sentences_of
checking-alike d e cells other a crossings pairs bytes =
    rw (a.first, a.second, alike-tables d e cells other a)
    (steps_alike (certificate_refusals (tables_of other) (length crossings) (length pairs)) d e (λ x. answer (tables_of other) crossings pairs (spelled_in x pairs bytes))
    (ap (answer (tables_of other) crossings pairs) (ap (λ (t : ℕ). sentences_in t bytes pairs) (ap (λ (x : Sizes). x.t) (alike-sizes d e cells other a)))))
