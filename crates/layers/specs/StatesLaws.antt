-- Laws of the list of states that are on: none, one more, and how many there can be. Assumes nothing.
use Rattle.std.specs.Prelude.{List, ◌≡◌, refl, ℕ, ◌+◌, ◌≤◌, ◌<◌, length, get_or, set, drop, replicate}
use Rattle.std.proofs.Common.{sym, ◌∙◌, le_refl, arith, length-set, length-drop, get_or-set_same, get_or-set_other, get_or-drop, drop-set-lt}
use Rattle.std.proofs.Math.Decide.{ℕ_discrete, dec_lt}
use Rattle.std.proofs.lemmas.List.{length-replicate, get_or-replicate, drop-set-add}
use Rattle.std.proofs.Math.ListN.{get_or-eq_default}
use Rattle.layers.specs.States.{flag_in, listed_in, ListedAt, Listed, AllOn}
use Rattle.layers.specs.Total.{total}
use Rattle.layers.specs.TotalLaws.{total-set, total-most, total-none}

-- cells that were cleared
pub cleared-cell : (n k : ℕ) → get_or {A = ℕ} (replicate n 0) k 0 ≡ 0
cleared-cell n k = go (dec_lt k n)
  where
    go : Dec (k < n) → get_or {A = ℕ} (replicate n 0) k 0 ≡ 0
    go (yes h) = get_or-replicate {A = ℕ} n k 0 0 h
    go (no h) = let out : length {A = ℕ} (replicate n 0) ≤ k = omega (arith, length-replicate {A = ℕ} n 0) in get_or-eq_default {A = ℕ} (replicate n 0) 0 out

pub listed-none : {s : ℕ} → Listed s (replicate 257 0)
listed-none = record {
  size = length-replicate {A = ℕ} 257 0;
  bits = λ q. omega (arith, cleared-cell 257 (129 + q));
  count = total-none (drop 129 (replicate 257 0)) (λ k. get_or-drop 129 (replicate 257 0) k 0 ∙ cleared-cell 257 (129 + k)) ∙ sym (cleared-cell 257 0);
  below = λ i h. omega (arith, cleared-cell 257 0);
  on = λ i h. omega (arith, cleared-cell 257 0);
  every = λ q n. absurd (n (cleared-cell 257 (129 + q)));
}

-- what is on below s is on below more
pub listed-most : {s m : ℕ} {flags : List ℕ} → s ≤ m → Listed s flags → Listed m flags
listed-most {s} {m} {flags} h l = record {
  size = l.size;
  bits = l.bits;
  count = l.count;
  below = λ i k. omega (arith, l.below i k);
  on = l.on;
  every = l.every;
}

-- a state above them all is off
pub listed-off : {s : ℕ} {flags : List ℕ} (q : ℕ) → Listed s flags → s ≤ q → flag_in flags q ≡ 0
listed-off {s} {flags} q l h = go (ℕ_discrete (flag_in flags q) 0)
  where
    go : Dec (flag_in flags q ≡ 0) → flag_in flags q ≡ 0
    go (yes e) = e
    go (no n) = let at = l.every q n in absurd (omega (arith, at.same, l.below at.index at.before))

-- and all are, where the list is empty
pub listed-empty : {s : ℕ} {flags : List ℕ} → Listed s flags → get_or flags 0 0 ≡ 0 → (q : ℕ) → flag_in flags q ≡ 0
listed-empty {s} {flags} l h q = go (ℕ_discrete (flag_in flags q) 0)
  where
    go : Dec (flag_in flags q ≡ 0) → flag_in flags q ≡ 0
    go (yes e) = e
    go (no n) = absurd (omega (arith, (l.every q n).before))

-- state g is put at the end of the list: its number, how many there are, its flag
abbrev named : List ℕ → ℕ → List ℕ
named flags g = set flags (1 + get_or flags 0 0) g

abbrev counted : List ℕ → ℕ → List ℕ
counted flags g = set (named flags g) 0 (get_or flags 0 0 + 1)

abbrev pub added : List ℕ → ℕ → List ℕ
added flags g = set (counted flags g) (129 + g) 1

module _ {s : ℕ} {flags : List ℕ} (l : Listed s flags) {g : ℕ} (hg : g < 128) (off : flag_in flags g ≡ 0) where
  flags-length : length (drop 129 flags) ≡ 128
  flags-length = length-drop 129 flags ∙ rw l.size refl

  -- while a flag is off there is room in the list
  pub room-left : get_or flags 0 0 < 128
  room-left =
      let flag : get_or (drop 129 flags) g 0 ≡ 0 = get_or-drop 129 flags g 0 ∙ off in
      let more : total (set (drop 129 flags) g 1) ≤ length (set (drop 129 flags) g 1) = total-most (set (drop 129 flags) g 1) (bit (drop 129 flags) (λ k. rw (get_or-drop 129 flags k 0) (l.bits k)) g) in
      omega (arith, l.count, flag, flags-length, length-set (drop 129 flags) g 1, total-set (drop 129 flags) g 1 (omega (arith, flags-length)), more)
    where
      bit : (xs : List ℕ) → ((k : ℕ) → get_or xs k 0 ≤ 1) → (j k : ℕ) → get_or (set xs j 1) k 0 ≤ 1
      bit xs h j k = go (ℕ_discrete k j) (dec_lt j (length xs))
        where
          go : Dec (k ≡ j) → Dec (j < length xs) → get_or (set xs j 1) k 0 ≤ 1
          go (no n) y = rw (get_or-set_other xs j k 1 0 n) (h k)
          go (yes e) (yes y) = rw e (omega (arith, get_or-set_same xs j 1 0 y))
          go (yes e) (no y) = let out : length (set xs j 1) ≤ k = omega (arith, length-set xs j 1) in omega (arith, get_or-eq_default (set xs j 1) 0 out)

  named-size : length (named flags g) ≡ 257
  named-size = length-set flags (1 + get_or flags 0 0) g ∙ l.size

  counted-size : length (counted flags g) ≡ 257
  counted-size = length-set (named flags g) 0 (get_or flags 0 0 + 1) ∙ named-size

  added-count : get_or (added flags g) 0 0 ≡ get_or flags 0 0 + 1
  added-count = get_or-set_other (counted flags g) (129 + g) 0 1 0 (λ e. omega (arith, e)) ∙ get_or-set_same (named flags g) 0 (get_or flags 0 0 + 1) 0 (omega (arith, named-size))

  -- other cells are as they were
  added-other : (k : ℕ) → ¬ (k ≡ 0) → ¬ (k ≡ 1 + get_or flags 0 0) → ¬ (k ≡ 129 + g) → get_or (added flags g) k 0 ≡ get_or flags k 0
  added-other k x y z = get_or-set_other (counted flags g) (129 + g) k 1 0 z ∙ get_or-set_other (named flags g) 0 k (get_or flags 0 0 + 1) 0 x ∙ get_or-set_other flags (1 + get_or flags 0 0) k g 0 y

  added-listed : listed_in (added flags g) (get_or flags 0 0) ≡ g
  added-listed = get_or-set_other (counted flags g) (129 + g) (1 + get_or flags 0 0) 1 0 (λ e. omega (arith, room-left, e)) ∙ get_or-set_other (named flags g) 0 (1 + get_or flags 0 0) (get_or flags 0 0 + 1) 0 (λ e. omega (arith, e)) ∙ get_or-set_same flags (1 + get_or flags 0 0) g 0 (omega (arith, room-left, l.size))

  pub added-flag : flag_in (added flags g) g ≡ 1
  added-flag = get_or-set_same (counted flags g) (129 + g) 1 0 (omega (arith, counted-size))

  pub added-flag-other : (q : ℕ) → ¬ (q ≡ g) → flag_in (added flags g) q ≡ flag_in flags q
  added-flag-other q n = added-other (129 + q) (λ e. omega (arith, e)) (λ e. omega (arith, room-left, e)) (λ e. n (omega (arith, e)))

  old : (i : ℕ) → i < get_or flags 0 0 → listed_in (added flags g) i ≡ listed_in flags i
  old i h = added-other (1 + i) (λ e. omega (arith, e)) (λ e. omega (arith, h, e)) (λ e. omega (arith, h, room-left, e))

  pub added-on : (q : ℕ) → ¬ (flag_in flags q ≡ 0) → ¬ (flag_in (added flags g) q ≡ 0)
  added-on q n e = go (ℕ_discrete q g)
    where
      go : Dec (q ≡ g) → ⊥
      go (yes i) = n (rw i off)
      go (no i) = n (sym (added-flag-other q i) ∙ e)

  pub listed_more : {m : ℕ} → s ≤ m → g < m → Listed m (added flags g)
  listed_more {m} hs hm = record {
    size = length-set (counted flags g) (129 + g) 1 ∙ counted-size;
    bits = λ q. bits q (ℕ_discrete q g);
    count = count;
    below = λ i h. below i (ℕ_discrete i (get_or flags 0 0)) (rw added-count at h);
    on = λ i h. on i (ℕ_discrete i (get_or flags 0 0)) (rw added-count at h);
    every = λ q n. every q n (ℕ_discrete q g);
  }
    where
      bits : (q : ℕ) → Dec (q ≡ g) → flag_in (added flags g) q ≤ 1
      bits q (yes e) = rw e (omega (arith, added-flag))
      bits q (no n) = rw (added-flag-other q n) (l.bits q)

      count : total (drop 129 (added flags g)) ≡ get_or (added flags g) 0 0
      count =
          let flag : get_or (drop 129 flags) g 0 ≡ 0 = get_or-drop 129 flags g 0 ∙ off in
          rw (drop-set-add 129 (counted flags g) g 1, drop-set-lt 129 (named flags g) 0 (get_or flags 0 0 + 1) (omega arith), drop-set-lt 129 flags (1 + get_or flags 0 0) g (omega (arith, room-left)), added-count)
          (omega (arith, l.count, flag, total-set (drop 129 flags) g 1 (omega (arith, flags-length))))

      below : (i : ℕ) → Dec (i ≡ get_or flags 0 0) → i < get_or flags 0 0 + 1 → listed_in (added flags g) i < m
      below i (yes e) h = rw (e, added-listed) hm
      below i (no n) h = let k : i < get_or flags 0 0 = omega arith in omega (arith, old i k, l.below i k)

      on : (i : ℕ) → Dec (i ≡ get_or flags 0 0) → i < get_or flags 0 0 + 1 → ¬ (flag_in (added flags g) (listed_in (added flags g) i) ≡ 0)
      on i (yes e) h f = omega (arith, added-flag, rw (e, added-listed) at f)
      on i (no n) h f = let k : i < get_or flags 0 0 = omega arith in added-on (listed_in flags i) (l.on i k) (rw (old i k) at f)

      every : (q : ℕ) → ¬ (flag_in (added flags g) q ≡ 0) → Dec (q ≡ g) → ListedAt (added flags g) q
      every q n (yes e) = record { index = get_or flags 0 0; before = omega (arith, added-count); same = added-listed ∙ sym e }
      every q n (no i) =
          let at = l.every q (λ e. n (added-flag-other q i ∙ e)) in
          record { index = at.index; before = omega (arith, added-count, at.before); same = old at.index at.before ∙ at.same }

-- one state more, where all below it are on
pub all_more : {q : ℕ} {flags : List ℕ} → AllOn q flags → q < 128 → AllOn (q + 1) (added flags q)
all_more {q} {flags} a h = record {
  listed = listed_more a.listed h (listed-off q a.listed (le_refl q)) (omega arith) (omega arith);
  all = λ k l. all k l (ℕ_discrete k q);
}
  where
    all : (k : ℕ) → k < q + 1 → Dec (k ≡ q) → ¬ (flag_in (added flags q) k ≡ 0)
    all k l (yes e) f = omega (arith, added-flag a.listed h (listed-off q a.listed (le_refl q)), rw e at f)
    all k l (no n) f = added-on a.listed h (listed-off q a.listed (le_refl q)) k (a.all k (omega arith)) f
