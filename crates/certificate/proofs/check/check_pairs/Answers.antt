-- `certificate::check::check_pairs` meets its contract: condition by condition. Assumes nothing.
use mathlib.Core.Path.{refl}
use native.Mathlib.Omega.{arith}
use Rattle.certificate.proofs.FaultLaws.{searched-fault, searched-none, start-searched, transitions-searched, short-searched, sentences-searched, after-start, after-transitions, after-short, range-pairs}
use Rattle.certificate.specs.SearchLaws.{judged-accepted}
use Rattle.certificate.specs.declared.Condition.TheVariants.{Start, Transitions, Short, Sentences}
use Rattle.certificate.proofs.check.check_pairs.Goals as goal

pub returns-then-i-d : goal.returns-then-i-d
returns-then-i-d c =
    let p = c.requires in searched-fault Start p.hold_to (start-searched p.lent c.first_alone-i.ensures) refl c.if-i-d.true

pub lowest_pair-j-requires-clause-pairs_len : goal.lowest_pair-j-requires-clause-pairs_len
lowest_pair-j-requires-clause-pairs_len c =
    (c.requires.lent.pair-cells, range-pairs c.requires.lent (λ k i h x. c.requires.hold_to k i (omega arith) x))

pub returns-then-j-pairs : goal.returns-then-j-pairs
returns-then-j-pairs c =
    let p = c.requires in
    let held = after-start p.lent p.hold_to c.first_alone-i.ensures c.if-i-d.false in
    searched-fault Transitions held (transitions-searched p.lent c.lowest_pair-j.ensures) refl c.if-j-pairs.true

pub returns-then-k-pairs : goal.returns-then-k-pairs
returns-then-k-pairs c =
    let p = c.requires in
    let held = after-transitions p.lent p.hold_to c.first_alone-i.ensures c.if-i-d.false c.lowest_pair-j.ensures c.if-j-pairs.false in
    searched-fault Short held (short-searched p.lent c.first_alone-k.ensures) refl c.if-k-pairs.true

pub returns-then-n-pairs : goal.returns-then-n-pairs
returns-then-n-pairs c =
    let p = c.requires in
    let held = after-short p.lent p.hold_to c.first_alone-i.ensures c.if-i-d.false c.lowest_pair-j.ensures c.if-j-pairs.false c.first_alone-k.ensures c.if-k-pairs.false in
    searched-fault Sentences held (sentences-searched p.lent c.lowest_sentence-n.ensures) refl c.if-n-pairs.true

pub returns : goal.returns
returns c =
    let p = c.requires in
    let held = after-short p.lent p.hold_to c.first_alone-i.ensures c.if-i-d.false c.lowest_pair-j.ensures c.if-j-pairs.false c.first_alone-k.ensures c.if-k-pairs.false in
    judged-accepted (searched-none Sentences held (sentences-searched p.lent c.lowest_sentence-n.ensures) c.if-n-pairs.false)
