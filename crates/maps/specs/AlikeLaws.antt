-- The map and the sets of books that differ in no more than form and ranks are the same. Assumes nothing.
use Rattle.number.specs.declared.cause.Refusal.{Refusal}
use Rattle.std.specs.Prelude.{Result, Ok, Err, List, ◌≡◌, ℕ, ◌*◌, length}
use Rattle.std.proofs.Common.{◌∙◌}
use Rattle.std.proofs.Math.Path.{ap}
use Rattle.number.specs.Lent.{over}
use Rattle.book.specs.CallLaws.{concludes-alike}
use Rattle.book.specs.Tables.{tables_of}
use Rattle.book.specs.TablesLaws.{Accepted}
use Rattle.book.specs.declared.Sizes.{Sizes}
use Rattle.forms.specs.AlikeLaws.{Alike}
use Rattle.forms.proofs.AlikeLaws.{alike-tables, alike-sizes}
use Rattle.forms.specs.Forms.{in_form_1}
use Rattle.forms.specs.FormsLaws.{with_form}
use Rattle.forms.proofs.FormsLaws.{plain-tables}
use Rattle.walk.specs.Map.{IsMap}
use Rattle.walk.specs.Scale.{plain}
use Rattle.distances.specs.Distances.{StartTable}
use Rattle.work.specs.Work.{cleared}
use Rattle.maps.specs.Maps.{map_refusals, sets_refusals, IsSets, Maps, Gathers}

-- what the plain cells' distances say of the book
pub start_plain : (d : Sizes) (cells : List ℕ) {dist : List ℕ} → Accepted d cells → StartTable plain (with_form 1 d) (in_form_1 cells) dist → StartTable plain d cells dist
start_plain d cells e x = record { size = x.size; exact = λ s z hs hz. rw (plain-tables d cells e) at (x.exact s z hs hz) }

module _ (d e : Sizes) (cells other : List ℕ) (a : Alike d e cells other) where
  terminals : d.t ≡ e.t
  terminals = ap (λ (x : Sizes). x.t) (alike-sizes d e cells other a)

  states : d.s ≡ e.s
  states = ap (λ (x : Sizes). x.s) (alike-sizes d e cells other a)

  tables : tables_of cells ≡ tables_of other
  tables = alike-tables d e cells other a

  map-refusals : (work lent : ℕ) → map_refusals work lent d ≡ map_refusals work lent e
  unfolding map_refusals
  map-refusals work lent = ap (map_refusals work lent) (alike-sizes d e cells other a)

  sets-refusals : (work masks sizes : ℕ) → sets_refusals work masks sizes d ≡ sets_refusals work masks sizes e
  unfolding sets_refusals
  sets-refusals work masks sizes = ap (sets_refusals work masks sizes) (alike-sizes d e cells other a)

  map-alike : (m : List ℕ) → IsMap cells d m → IsMap other e m
  map-alike m x = record { size = rw (terminals, states) at x.size; exact = λ s z hs hz. rw (tables, terminals) at (x.exact s z (rw states hs) (rw terminals hz)) }

  -- the map does not depend on form and ranks ..
  pub maps-alike : (work lent : List ℕ) (end : Result ℕ Refusal × (List ℕ × List ℕ)) → Maps cells work lent end → Maps other work lent end
  maps-alike work lent end c =
      let refusals = map-refusals (length work) (length lent) in
      let told : (m : List ℕ) → ◌≡◌ {A = Result ℕ Refusal × (List ℕ × List ℕ)} (Ok (d.s * d.t), (cleared d work, over m lent)) (Ok (e.s * e.t), (cleared e work, over m lent)) =
      λ m. ap (λ (x : Sizes). (Ok (x.s * x.t), (cleared x work, over m lent))) (alike-sizes d e cells other a) in
      rw a.second
      (concludes-alike (map_refusals (length work) (length lent) e) d e Err (work, lent) (IsMap cells) (IsMap other) _ _ end map-alike told (rw (a.first, refusals) at c))

  sets-alike : (masks sizes : List ℕ) → IsSets cells d masks sizes → IsSets other e masks sizes
  sets-alike masks sizes x = record {
    reached = x.reached;
    decides = λ s z hs hz. rw tables at (x.decides s z (rw states hs) (rw terminals hz));
    many = x.many ∙ states;
    mask = λ s h. rw terminals at (x.mask s (rw states h));
    beside = x.beside ∙ states;
    size = λ s h. rw terminals at (x.size s (rw states h));
  }

  -- .. nor do the sets
  pub gathers-alike : (work masks sizes : List ℕ) (end : Result ℕ Refusal × (List ℕ × (List ℕ × List ℕ))) → Gathers cells work masks sizes end → Gathers other work masks sizes end
  gathers-alike work masks sizes end c =
      let refusals = sets-refusals (length work) (length masks) (length sizes) in
      let told : (x : List ℕ × List ℕ) → ◌≡◌ {A = Result ℕ Refusal × (List ℕ × (List ℕ × List ℕ))} (Ok d.s, (cleared d work, (over x.0 masks, over x.1 sizes))) (Ok e.s, (cleared e work, (over x.0 masks, over x.1 sizes))) =
      λ x. ap (λ (y : Sizes). (Ok y.s, (cleared y work, (over x.0 masks, over x.1 sizes)))) (alike-sizes d e cells other a) in
      rw a.second
      (concludes-alike (sets_refusals (length work) (length masks) (length sizes) e) d e Err (work, (masks, sizes)) _ _ _ _ end (λ x r. sets-alike x.0 x.1 r) told (rw (a.first, refusals) at c))
