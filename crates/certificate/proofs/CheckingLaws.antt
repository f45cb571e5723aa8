-- Laws of the call, refusal by refusal, and of what is admitted. Assumes nothing.
use Rattle.std.specs.Prelude.{Ok, Err, List, [], ◌≡◌, ℕ, ◌*◌, length}
use Rattle.std.proofs.Common.{sym, ◌∙◌, arith, ltb-false}
use Rattle.number.specs.declared.cause.Refusal.{Refusal}
use Rattle.book.specs.Book.{of_cells, checked}
use Rattle.book.specs.Call.{steps}
use Rattle.book.specs.CallLaws.{steps-none}
use Rattle.book.specs.Tables.{tables_of}
use Rattle.book.specs.TablesLaws.{Accepted}
use Rattle.book.proofs.TablesLaws.{accepted-book}
use Rattle.book.specs.declared.Sizes.{Sizes}
use Rattle.forms.specs.Forms.{in_form_1}
use Rattle.forms.specs.FormsLaws.{with_form}
use Rattle.forms.proofs.FormsLaws.{plain-holds, plain-tables}
use Rattle.layers.specs.Crossing.{room}
use Rattle.certificate.specs.Certificate.{crossing_count, pair_count, Fails, Judged}
use Rattle.certificate.specs.Checks.{row_refusals, certificate_refusals, sentences_of, refuses, judges}
use Rattle.certificate.proofs.ChecksLaws.{rows-admitted}
use Rattle.certificate.specs.Faults.{words_of, lent_in, Lent}
use Rattle.certificate.specs.Sentences.{sentences_in}
use Rattle.certificate.specs.SentencesLaws.{spelled_end, spelled-refused}
use Rattle.certificate.specs.Verdict.{checking}
use Rattle.certificate.proofs.VerdictLaws.{checks-iff}
use Rattle.certificate.specs.Wrong.{Admitted}
use Rattle.certificate.specs.CheckingLaws.{RowsFit}
use Rattle.certificate.specs.declared.Verdict.{Verdict}

pub rows_fit : {d x : Sizes} (crossings pairs : ℕ) → steps (Ok d) (row_refusals crossings (room d) (row_refusals pairs (d.s * d.t) [])) ≡ Ok x → RowsFit d crossings pairs
rows_fit {d} crossings pairs e =
    let (same, (a, (b, (g, (h, end))))) = steps-none (row_refusals crossings (room d) (row_refusals pairs (d.s * d.t) [])) e in
    record {
      crossing-cells = omega (arith, ltb-false crossings (room d) a, ltb-false (room d) crossings b);
      pair-cells = omega (arith, ltb-false pairs (d.s * d.t) g, ltb-false (d.s * d.t) pairs h);
    }

module _ (d : Sizes) (cells crossings pairs bytes : List ℕ) (e : Accepted d cells) where
  crossings-are : crossing_count (tables_of cells) ≡ room d
  unfolding tables_of
  crossings-are = rw (← (accepted-book cells d e).sizes)

  pairs-are : pair_count (tables_of cells) ≡ d.s * d.t
  unfolding tables_of
  pairs-are = rw (← (accepted-book cells d e).sizes)

  pub rows-refused : (r : Refusal) → steps (Ok d) (row_refusals (length crossings) (room d) (row_refusals (length pairs) (d.s * d.t) [])) ≡ Err r
      → Err r ≡ checking cells crossings pairs bytes
  unfolding sentences_of certificate_refusals
  rows-refused r f = (checks-iff cells crossings pairs bytes (Err r)).0 (refuses r (rw (e, crossings-are, pairs-are, f)))

  module _ (fit : RowsFit d (length crossings) (length pairs)) where
    -- ---- the sentences
    admitted-rows : sentences_of cells crossings pairs bytes ≡ sentences_in d.t bytes pairs
    admitted-rows = rows-admitted cells crossings pairs bytes d e (fit.crossing-cells ∙ sym crossings-are) (fit.pair-cells ∙ sym pairs-are)

    pub sentences-refused : (r : Refusal) → spelled_end (sentences_in d.t bytes pairs) ≡ Err r → Err r ≡ checking cells crossings pairs bytes
    sentences-refused r f = (checks-iff cells crossings pairs bytes (Err r)).0 (refuses r (admitted-rows ∙ spelled-refused (sentences_in d.t bytes pairs) r f))

    -- ---- the conditions, on plain cells
    module _ (a : Admitted d.t bytes pairs) where
      pub lent-plain : Lent (with_form 1 d) (in_form_1 cells) crossings pairs bytes
      lent-plain = record { holds = plain-holds d cells e; crossing-cells = fit.crossing-cells; pair-cells = fit.pair-cells; written = a }

      pub claims-checked : {v : Verdict} → Judged (Fails (tables_of (in_form_1 cells)) (lent_in (with_form 1 d) (in_form_1 cells) crossings pairs bytes)) v → Ok v ≡ checking cells crossings pairs bytes
      claims-checked {v} j =
          let words : words_of (sentences_in d.t bytes pairs) ≡ a.ws = rw a.whole in
          (checks-iff cells crossings pairs bytes (Ok v)).0 (judges a.ws a.end v (admitted-rows ∙ a.whole) (rw (plain-tables d cells e, words) at j))

-- ---- the book
pub book-refused : (cells crossings pairs bytes : List ℕ) (r : Refusal) → checked (of_cells cells) ≡ Err r → Err r ≡ checking cells crossings pairs bytes
unfolding sentences_of
book-refused cells crossings pairs bytes r e = (checks-iff cells crossings pairs bytes (Err r)).0 (refuses r (rw e))
