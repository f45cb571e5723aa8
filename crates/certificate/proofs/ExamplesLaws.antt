-- The table of small certificates, proved by computation; and what an acceptance that was computed says of the machine. Assumes nothing.
use Rattle.std.specs.Prelude.{Result, Ok, List, [], ◌∷◌, ◌≡◌, refl}
use Rattle.std.proofs.Common.{not-suc-le-zero}
use Rattle.number.specs.Number.{number_at, first, second, third}
use Rattle.number.specs.declared.cause.Refusal.{Refusal}
use Rattle.book.specs.Action.{action_of}
use Rattle.book.specs.Book.{book_in, cell_at, row, parts_in, of_cells}
use Rattle.book.specs.Range.{allowed, fits, fault, fault_cause}
use Rattle.book.specs.Tables.{sizes_of, tables_of}
use Rattle.machine.specs.Machine.{next}
use Rattle.machine.specs.Run.{reducing}
use Rattle.within.specs.Within.{comes, brings}
use Rattle.lists.specs.Entry.{outside}
use Rattle.walk.specs.Sum.{plus}
use Rattle.certificate.specs.Certificate.{certificate_in}
use Rattle.certificate.specs.Checks.{certificate_refusals, sentences_of, Checks, Mapped, Certified}
use Rattle.certificate.proofs.ChecksLaws.{accepted-mapped, accepted-certified}
use Rattle.certificate.specs.Examples.{Case, cases, spinning, deep, apart, single}
use Rattle.certificate.specs.Search.{told}
use Rattle.certificate.specs.Sentences.{sentence_at, sentences_at, sentences_in}
use Rattle.certificate.specs.Verdict.{lengthened, layered, road_cost, lowest_crossing, lowest_pair, verdict, checking}
use Rattle.certificate.proofs.VerdictLaws.{checks-iff}
use Rattle.certificate.specs.declared.Verdict.{Verdict}
use Rattle.certificate.specs.declared.Verdict.TheVariants.{Accepted}

-- what the definition gives, and what is expected
abbrev given : List Case → List (Result Verdict Refusal)
given [] = []
given (c ∷ cs) = checking c.cells c.crossings c.pairs c.bytes ∷ given cs

abbrev expected : List Case → List (Result Verdict Refusal)
expected [] = []
expected (c ∷ cs) = c.answer ∷ expected cs

pub examples : given cases ≡ expected cases
unfolding cases spinning deep apart single number_at first second third action_of book_in cell_at row parts_in of_cells allowed fits fault fault_cause sizes_of tables_of next reducing outside plus comes brings certificate_in certificate_refusals sentences_of told sentence_at sentences_at sentences_in lengthened layered road_cost lowest_crossing lowest_pair verdict checking
examples = refl

-- an acceptance that was computed is a theorem about the machine, without limits
single-accepted : Ok Accepted ≡ checking single [] (0 ∷ 0 ∷ 1 ∷ 1 ∷ []) (0 ∷ 0 ∷ 1 ∷ 1 ∷ 1 ∷ 1 ∷ [])
unfolding cases spinning deep apart single number_at first second third action_of book_in cell_at row parts_in of_cells allowed fits fault fault_cause sizes_of tables_of next reducing outside plus comes brings certificate_in certificate_refusals sentences_of told sentence_at sentences_at sentences_in lengthened layered road_cost lowest_crossing lowest_pair verdict checking
single-accepted = refl

single-checks : Checks single [] (0 ∷ 0 ∷ 1 ∷ 1 ∷ []) (0 ∷ 0 ∷ 1 ∷ 1 ∷ 1 ∷ 1 ∷ []) (Ok Accepted)
single-checks = (checks-iff single [] (0 ∷ 0 ∷ 1 ∷ 1 ∷ []) (0 ∷ 0 ∷ 1 ∷ 1 ∷ 1 ∷ 1 ∷ []) (Ok Accepted)).1 single-accepted

pub single-mapped : Mapped single (0 ∷ 0 ∷ 1 ∷ 1 ∷ [])
single-mapped = accepted-mapped single-checks

-- and what the completeness asks for can be met: this book has no nonterminals
pub single-certified : Certified single [] (0 ∷ 0 ∷ 1 ∷ 1 ∷ []) (0 ∷ 0 ∷ 1 ∷ 1 ∷ 1 ∷ 1 ∷ [])
unfolding single tables_of sizes_of
single-certified = accepted-certified single-checks (λ q X a z lq lX la lz. absurd (not-suc-le-zero lX))
