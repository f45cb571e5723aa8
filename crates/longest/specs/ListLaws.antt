-- The longest list has 128,770 bytes: no list has more, and one has as many. Assumes nothing.
use Rattle.std.specs.Prelude.{List, [], ◌∷◌, ◌≡◌, refl, ℕ, zero, suc, ◌+◌, ◌*◌, ◌≤◌, ◌<◌, length, get_or, replicate}
use Rattle.std.proofs.Common.{subst, zero-mul, suc-mul, arith, length-append}
use Rattle.std.proofs.lemmas.List.{length-replicate, get_or-replicate, length-map}
use Rattle.number.specs.Number.{written}
use Rattle.number.specs.NumberLaws.{Bytes, written-most, written-two}
use Rattle.book.specs.Book.{bytes_of}
use Rattle.lists.specs.List.{entries, list_of}
use Rattle.lists.specs.declared.Entry.{Entry}
use Rattle.items.specs.EntryLaws.{item-bytes}
use Rattle.items.specs.Items.{Item, items, item_numbers, numbers_of, list_bytes}
use Rattle.items.specs.Valid.{ValidItem, AllValid, none, more}
use Rattle.items.specs.WrittenLaws.{list_written, list-bytes, items-few, items-valid, numbers-length, written_listed}
use Rattle.longest.specs.LongestLaws.{wide}

-- ---- at most so many bytes
entry-most : {t : ℕ} {x : Item} → t ≤ 32 → ValidItem t x → length (bytes_of (item_numbers x)) ≤ 1006
entry-most {t} {x} few v =
    rw (item-bytes few v, length-append, length-append)
    (omega (arith, wide (length x.symbols) (omega (arith, v.short)), v.short, written-most x.article))

entries-most : {t : ℕ} {xs : List Item} → t ≤ 32 → AllValid t xs → length (bytes_of (numbers_of xs)) ≤ 1006 * length xs
unfolding numbers_of
entries-most few none = omega arith
entries-most few (more {x} {xs} v vs) = rw (numbers-length x xs) (omega (arith, entry-most few v, entries-most few vs))

list-most : {t : ℕ} {xs : List Item} → t ≤ 32 → AllValid t xs → length xs ≤ 128 → length (list_bytes xs) ≤ 128770
list-most {t} {xs} few v h = rw length-append (omega (arith, wide (length xs) (omega arith), entries-most few v))

pub list-bytes-most : (t : ℕ) (bytes : List ℕ) {es : List Entry} {end : ℕ} → Bytes bytes → t ≤ 32 → list_of t bytes ≡ entries es end → length bytes ≤ 128770
list-bytes-most t bytes {es} b few e =
    subst (λ (s : List ℕ). length s ≤ 128770) (list_written t bytes b few e) (list-most few (items-valid t bytes few e) (rw length-map (items-few t bytes e)))

-- ---- one that has as many: 128 entries with the longest sentence and the largest article number
abbrev longest_entry : Item
longest_entry = record { symbols = replicate 1000 1; lookahead = 0; article = 2097151 }

entry-valid : ValidItem 2 longest_entry
entry-valid = record {
  short = rw length-replicate (omega arith);
  symbol = λ i l. rw (get_or-replicate {A = ℕ} 1000 i 1 0 (rw length-replicate at l)) (omega arith, omega arith);
  below = omega arith;
  article = omega arith;
}

entry-long : length (bytes_of (item_numbers longest_entry)) ≡ 1006
unfolding written
entry-long = refl

all_valid : {t : ℕ} {x : Item} → ValidItem t x → (n : ℕ) → AllValid t (replicate n x)
all_valid v zero = none
all_valid v (suc n) = more v (all_valid v n)

all-long : (x : Item) (n : ℕ) → length (bytes_of (numbers_of (replicate n x))) ≡ n * length (bytes_of (item_numbers x))
unfolding numbers_of
all-long x zero = rw zero-mul
all-long x (suc n) = rw (numbers-length x (replicate n x), suc-mul, all-long x n) (omega arith)

unfoldable pub longest_list : List ℕ
longest_list = list_bytes (replicate 128 longest_entry)

pub longest-list : Bytes longest_list × (length longest_list ≡ 128770) × ((es : List Entry) × (end : ℕ) × (list_of 2 longest_list ≡ entries es end))
unfolding longest_list
longest-list =
    let xs : List Item = replicate 128 longest_entry in
    let count : length (written 128) ≡ 2 = rw (written-two 128 (omega arith) (omega arith)) in
    let (es, end, found, says) = written_listed (omega arith) (all_valid entry-valid 128) (rw length-replicate (omega arith)) in
    (list-bytes xs, rw (length-append, length-replicate, all-long longest_entry 128, entry-long, count) (omega arith), (es, end, found))
