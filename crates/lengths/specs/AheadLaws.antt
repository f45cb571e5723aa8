-- Laws of reductions that break for want of something, and of the masks of those that are ahead. Assumes nothing.
use Rattle.std.specs.Prelude.{Bool, true, false, List, ◌≡◌, refl, ℕ, suc, ◌+◌, ◌/◌, ◌%◌, ◌^◌, ◌≤◌, ◌<◌, max, eqb, get_or, set, replicate}
use Rattle.std.proofs.lemmas.Bool.{false≢true, eqb-false}
use Rattle.std.proofs.Common.{sym, ◌∙◌, add-one, arith, eq-eqb, ne_eqb, length-set, get_or-set_same, get_or-set_other}
use Rattle.std.proofs.Math.Decide.{ℕ_discrete}
use Rattle.std.specs.Int.Bits.{bit_or, or_step}
use Rattle.std.proofs.lemmas.Nat.{or_shr}
use Rattle.std.proofs.lemmas.List.{length-replicate}
use Rattle.sets.specs.Bits.{member}
use Rattle.sets.specs.SetLaws.{member-put}
use Rattle.book.specs.Tables.{Tables, tables_of}
use Rattle.book.specs.TablesLaws.{Holds}
use Rattle.book.proofs.TablesLaws.{in-range, goto-some}
use Rattle.book.specs.declared.Action.{Action}
use Rattle.book.specs.declared.Action.TheVariants.{Error, Accept, Shift, Reduce}
use Rattle.book.specs.declared.Sizes.{Sizes}
use Rattle.machine.specs.MachineLaws.{clash}
use Rattle.walk.specs.Layers.{by-shift, by-goto}
use Rattle.layers.specs.ActionLaws.{reduce-below, error-shiftless, accept-shiftless, reduce-shiftless}
use Rattle.layers.specs.CrossingLaws.{within, states-are}
use Rattle.positions.specs.Position.{LongestOf}
use Rattle.positions.specs.PositionLaws.{each_more}
use Rattle.lengths.specs.declared.Missing.{Missing}
use Rattle.lengths.specs.declared.Missing.TheVariants.{Goto}
use Rattle.lengths.specs.Ahead.{Grown, NoneByAction, NoneByGoto}
use Rattle.lengths.specs.Lengths.{LastFailing, AheadMasks}
use Rattle.lengths.specs.Starts.{Fails, Reduces, Ahead, ends, goes}

-- ---- only a reduction reduces
module _ {missing : Missing} {B : Tables} {m q z : ℕ} {x : Action} (same : x ≡ B.act q z) where
  pub error-unreduced : x ≡ Error → ¬ Reduces missing B m q z
  error-unreduced e r = let f = r.action in clash cc

  pub accept-unreduced : x ≡ Accept → ¬ Reduces missing B m q z
  accept-unreduced e r = let f = r.action in clash cc

  pub shift-unreduced : {s : ℕ} → x ≡ Shift s → ¬ Reduces missing B m q z
  shift-unreduced e r = let f = r.action in clash cc

  pub reduce-unreduced : {p : ℕ} → x ≡ Reduce p → ¬ Fails missing B m p → ¬ Reduces missing B m q z
  reduce-unreduced {p} e n r = let f = r.action in let i : r.production ≡ p = cc in n (rw i at r.fails)

-- one production more
pub last_more : {missing : Missing} {B : Tables} {p r l n : ℕ} → LastFailing missing B p r → (l ≤ 32) × ((m : ℕ) → Fails missing B m p → m ≤ l) → n ≡ max r l
    → LastFailing missing B (p + 1) n
last_more {missing} {B} {p} {r} {l} {n} f (h, g) e = record { bound = λ p' m k x. go p' m k x (ℕ_discrete p' p); most = omega (arith, f.most) }
  where
    go : (p' m : ℕ) → p' < p + 1 → Fails missing B m p' → Dec (p' ≡ p) → m ≤ n
    go p' m k x (yes i) = omega (arith, g m (rw i at x))
    go p' m k x (no i) = omega (arith, f.bound p' m (omega arith) x)

-- ---- masks that grow: by nothing, by another mask, by one nonterminal, and one turn more
pub grown-same : {P : ℕ → Type 0} {mask : ℕ} → ((X : ℕ) → P X) → Grown P mask mask
grown-same f = record { kept = λ X e. e; rest = λ X e. f X }

pub grown-or : (mask other : ℕ) → Grown (λ X. member other X ≡ false) mask (bit_or mask other)
grown-or mask other = record { kept = λ X e. kept X e; rest = λ X e. rest X e }
  where
    bit : (X : ℕ) → bit_or mask other / 2 ^ X % 2 ≡ max (mask / 2 ^ X % 2) (other / 2 ^ X % 2)
    bit X =
        let odd : (a b : ℕ) → bit_or a b % 2 ≡ max (a % 2) (b % 2) = λ a b. rw (or_step a b) (omega arith) in
        rw (or_shr mask other X, odd)

    none : (X : ℕ) → member (bit_or mask other) X ≡ false → ¬ (max (mask / 2 ^ X % 2) (other / 2 ^ X % 2) ≡ 1)
    none X e f = eqb-false (bit_or mask other / 2 ^ X % 2) 1 e (bit X ∙ f)

    kept : (X : ℕ) → member (bit_or mask other) X ≡ false → member mask X ≡ false
    kept X e = ne_eqb (mask / 2 ^ X % 2) 1 (λ f. none X e (omega arith))

    rest : (X : ℕ) → member (bit_or mask other) X ≡ false → member other X ≡ false
    rest X e = ne_eqb (other / 2 ^ X % 2) 1 (λ f. none X e (omega arith))

pub grown-map : {P Q : ℕ → Type 0} {mask r : ℕ} → ((X : ℕ) → P X → Q X) → Grown P mask r → Grown Q mask r
grown-map f g = record { kept = g.kept; rest = λ X e. f X (g.rest X e) }

pub grown-more : (P : ℕ → ℕ → Type 0) (i : ℕ) {a b c : ℕ} → Grown (λ X. (j : ℕ) → j < i → P j X) a b → Grown (P i) b c → Grown (λ X. (j : ℕ) → j < i + 1 → P j X) a c
grown-more P i f g = record {
  kept = λ X e. f.kept X (g.kept X e);
  rest = λ X e. each_more (f.rest X (g.kept X e)) (g.rest X e);
}

-- ---- what is ahead by a production of another length, and by one that ends there, ..
module _ {left len m : ℕ} (mask : ℕ) where
  pub unlike-length : ¬ (len ≡ m) → Grown (λ X. ¬ ((left ≡ X) × (len ≡ m))) mask mask
  unlike-length n = grown-same (λ X (l, k). n k)

  pub with-left-side : {r x : ℕ} → x ≡ left → r ≡ bit_or mask (2 ^ x) → Grown (λ X. ¬ ((left ≡ X) × (len ≡ m))) mask r
  with-left-side {r} {x} i e = rw e (record { kept = λ X f. kept X f (eqb X x) refl; rest = λ X f (l, k). out X f (eq-eqb X x (sym l ∙ sym i)) })
    where
      out : (X : ℕ) → member (bit_or mask (2 ^ x)) X ≡ false → eqb X x ≡ true → ⊥
      out X f t = false≢true (sym f ∙ member-put mask x X ∙ rw t)

      kept : (X : ℕ) → member (bit_or mask (2 ^ x)) X ≡ false → (b : Bool) → eqb X x ≡ b → member mask X ≡ false
      kept X f true t = absurd (out X f t)
      kept X f false t = rw t at (sym (member-put mask x X) ∙ f)

-- .. by an action, ..
module _ {B : Tables} {m q z : ℕ} {x : Action} (same : x ≡ B.act q z) where
  pub none-by-error : (after : List ℕ) (mask : ℕ) → x ≡ Error → Grown (NoneByAction B m after q z) mask mask
  none-by-error after mask e = grown-same (λ X. record { reduces = error-unreduced same e; shifts = λ g f. absurd (error-shiftless same e g f) })

  pub none-by-accept : (after : List ℕ) (mask : ℕ) → x ≡ Accept → Grown (NoneByAction B m after q z) mask mask
  none-by-accept after mask e = grown-same (λ X. record { reduces = accept-unreduced same e; shifts = λ g f. absurd (accept-shiftless same e g f) })

  pub none-by-shift : (after : List ℕ) (mask : ℕ) {s : ℕ} → x ≡ Shift s → Grown (NoneByAction B m after q z) mask (bit_or mask (get_or after s 0))
  none-by-shift after mask {s} e =
      grown-map (λ X n. record { reduces = shift-unreduced same e; shifts = λ g f. let i : g ≡ s = cc in rw i n }) (grown-or mask (get_or after s 0))

  pub none-by-reduce : (after : List ℕ) {mask r p : ℕ} → x ≡ Reduce p → Grown (λ X. ¬ Fails (Goto X) B m p) mask r → Grown (NoneByAction B m after q z) mask r
  none-by-reduce after e = grown-map (λ X n. record { reduces = reduce-unreduced same e n; shifts = λ g f. absurd (reduce-shiftless same e g f) })

-- .. by a goto
module _ {B : Tables} {q Y : ℕ} (after : List ℕ) (mask : ℕ) where
  pub none-by-no-goto : B.goto q Y ≡ 0 → Grown (NoneByGoto B after q Y) mask mask
  none-by-no-goto e = grown-same (λ X. record { gotos = λ g f. absurd (omega (arith, f)) })

  pub none-by-goto : {s : ℕ} → B.goto q Y ≡ suc s → Grown (NoneByGoto B after q Y) mask (bit_or mask (get_or after s 0))
  none-by-goto {s} e = grown-map (λ X n. record { gotos = λ g f. let i : g ≡ s = omega (arith, f) in rw i n }) (grown-or mask (get_or after s 0))

-- ---- the masks of all states
module _ {d : Sizes} {cells : List ℕ} (h : Holds d cells) where
  -- one state more
  pub masks-more : {m i mask v : ℕ} {after masks : List ℕ} → i < 128 → AheadMasks (tables_of cells) (m + 1) d.s after → AheadMasks (tables_of cells) m i masks
      → Grown (λ X. (z : ℕ) → z < d.t → NoneByAction (tables_of cells) m after i z X) 0 mask → Grown (λ X. (Y : ℕ) → Y < d.n → NoneByGoto (tables_of cells) after i Y X) mask v
      → AheadMasks (tables_of cells) m (i + 1) (set masks i v)
  masks-more {m} {i} {mask} {v} {after} {masks} hi l f a b = record { size = length-set masks i v ∙ f.size; none = λ q X k e. none q X k e (ℕ_discrete q i) }
    where
      here : (X : ℕ) → member v X ≡ false → ¬ Ahead (tables_of cells) X m i
      here X e (ends z r) = (a.rest X (b.kept X e) z (within h ((in-range h).reduces i z r.production r.action).1)).reduces r
      here X e (goes {g} (by-shift {t} s) x) =
          let k = (in-range h).shifts i t g s in
          l.none g X (rw (states-are h) at k.3) ((a.rest X (b.kept X e) t (within h k.2)).shifts g s) (rw add-one x)
      here X e (goes {g} (by-goto {X = Y} s) x) =
          let (lq, lY, lg) = goto-some h i Y g s in
          l.none g X lg ((b.rest X e Y lY).gotos g s) (rw add-one x)

      none : (q X : ℕ) → q < i + 1 → member (get_or (set masks i v) q 0) X ≡ false → Dec (q ≡ i) → ¬ Ahead (tables_of cells) X m q
      none q X k e (yes j) = rw j (here X (rw (j, get_or-set_same masks i v 0 (omega (arith, f.size))) at e))
      none q X k e (no j) = f.none q X (omega arith) (rw (get_or-set_other masks i q v 0 j) at e)

  -- nothing is ahead after more transitions than any production has symbols
  ahead-most : {last X m q : ℕ} → LongestOf (tables_of cells) d.p last → Ahead (tables_of cells) X m q → m ≤ last
  ahead-most {q} l (ends z r) = omega (arith, l.bound r.production (reduce-below q z h refl r.action), r.fails.1)
  ahead-most l (goes g x) = omega (arith, ahead-most l x)

  pub masks-last : {last : ℕ} → LongestOf (tables_of cells) d.p last → AheadMasks (tables_of cells) (last + 1) d.s (replicate 128 0)
  masks-last l = record { size = length-replicate {A = ℕ} 128 0; none = λ q X k e x. omega (arith, ahead-most l x) }
