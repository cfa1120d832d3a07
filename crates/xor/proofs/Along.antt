-- Emptying a list in one go along it equals popping its front until nothing is left, where the cells hold the list.
use mathlib.Core.Path.{◌≡◌, refl, sym, ap, subst, ◌∙◌}
use mathlib.Core.Logic.{◌≢◌}
use mathlib.Core.Bool.{Bool, true, false, ◌&&◌}
use mathlib.Core.List.{List, [], ◌∷◌}
use Prim.Native.Nat.{ℕ, zero, suc, ◌+◌, ◌-◌, ◌<◌}
use native.Mathlib.Omega.{arith}
use lib.Bits.{bit_xor, xor_zero_r}
use lib.Dec.{ltb}
use lib.ListN.{length, set, length-set}
use lib.Seq.{get_or-set_same, set-get_or}
use borrow.Author.Tests.{ne_eqb, lt-ltb}
use Rattle.books.specs.declared.Free.{Free}
use Rattle.books.specs.declared.Entry.{Entry}
use Rattle.books.specs.Book.{null_slot, wipe_word, entry_at, AnyBook}
use Rattle.books.specs.Outcome.{Outcome, outcome}
use Rattle.chains.specs.Count.{hit}
use Rattle.chains.specs.Chain.{cell, first_or}
use Rattle.chains.proofs.Count.{hit_same, count-append}
use Rattle.chains.proofs.Chain.{linked_iff}
use Rattle.shapes.specs.declared.End.TheVariants.{Front}
use Rattle.shapes.specs.Records.{PopStep}
use Rattle.shapes.specs.Shape.{chain_at}
use Rattle.shapes.specs.Ends.{near_of, with_near, emptied}
use Rattle.shapes.specs.Counts.{with_length, with_count, word_sum}
use Rattle.shapes.proofs.Counts.{word_sum_lem}
use Rattle.engines.specs.Sound.{Held}
use Rattle.engines.specs.Reads.{clear_on}
use Rattle.engines.specs.Calls.{on_list_of}
use Rattle.engines.proofs.Found.{stored-length, stored_free, some_slots}
use Rattle.engines.proofs.Counted.{leaves_counted, pop_counted_lem}
use Rattle.engines.proofs.Steps.{book_held}
use Rattle.engines.proofs.Popping.{set_set}
use Rattle.engines.proofs.Looking.{on_list_sound}
use Rattle.xor.specs.Slot.{in_pool}
use Rattle.xor.specs.Slots.{release_of}
use Rattle.xor.specs.Steps.{is_beside, pop_of}
use Rattle.xor.specs.Engine.{xor}
use Rattle.xor.specs.Along.{clear_along, cleared}
use Rattle.xor.proofs.Slot.{in_pool_lem}
use Rattle.xor.proofs.Lawful.{xor_lawful}

-- the links as the pops so far leave them, where those of `clear_along` are `links`: a pop XORs the neighbour's link with the slot that left, `before`
abbrev pops_leave : List ℕ → ℕ → List ℕ → List ℕ
pops_leave links before [] = links
pops_leave links before (x ∷ xs) = set links x (bit_xor (cell links x) before)

-- the list's entry once its first slot has left
abbrev one_less : Entry → List ℕ → Entry
one_less list [] = emptied list
one_less list (y ∷ ys) = record { head = y; tail = list.tail; share = list.share; limit = list.limit; length = list.length }

-- a list's first slot leaves
module _ (links values : List ℕ) (list : Entry) (free : Free) (before x : ℕ) where
  abbrev gone : List ℕ → Outcome PopStep
  gone xs =
      outcome (record { done = true; value = cell values x; entry = one_less list xs; free = record { head = x; count = free.count } })
      (pops_leave (set links x free.head) x xs) (set values x wipe_word)

  module _ (xs fs : List ℕ) (H : Held xor (pops_leave links before (x ∷ xs)) values list free (x ∷ xs) fs) where
    inside : (0 < x) × (x < length links) × (x < length values)
    inside =
        let (p, q) = H.slots x (omega (arith, count-append x (x ∷ xs) fs, hit_same x)) in
        (p, omega (arith, length-set links x (bit_xor (cell links x) before)), omega (arith, H.same))

    first_in : in_pool (pops_leave links before (x ∷ xs)) values x ≡ true
    first_in =
        let (p, q) = H.slots x (omega (arith, count-append x (x ∷ xs) fs, hit_same x)) in
        (in_pool_lem (pops_leave links before (x ∷ xs)) values x).1 (record { not_null = p; has_link = q; has_value = omega (arith, H.same) })

    -- its link in what the pops leave is the slot after it
    next_is : cell (pops_leave links before (x ∷ xs)) x ≡ first_or 0 xs
    next_is = ((linked_iff bit_xor (cell (pops_leave links before (x ∷ xs))) (x ∷ xs)).0 H.live).0

    onto : bit_xor (cell links x) before ≡ first_or 0 xs
    onto = sym (get_or-set_same links x (bit_xor (cell links x) before) 0 inside.1) ∙ next_is

  -- the pop that takes it out
  pop_is : (xs fs : List ℕ) → Held xor (pops_leave links before (x ∷ xs)) values list free (x ∷ xs) fs → pop_of Front (pops_leave links before (x ∷ xs)) values list free ≡ gone xs
  unfolding pop_of near_of with_near is_beside release_of
  pop_is [] fs H = simp (H.entry.head, first_in [] fs H, next_is [] fs H, set_set)
  pop_is (y ∷ ys) fs H =
      let (p, q) = H.slots y (omega (arith, count-append y (x ∷ y ∷ ys) fs, hit_same y)) in
      let second : in_pool (pops_leave links before (x ∷ y ∷ ys)) values y ≡ true = (in_pool_lem (pops_leave links before (x ∷ y ∷ ys)) values y).1 (record { not_null = p; has_link = q; has_value = omega (arith, H.same) }) in
      let apart : y ≢ x = λ e. omega (arith, H.once x, count-append x (x ∷ y ∷ ys) fs, hit_same x, ap (hit x) e) in
      simp (H.entry.head, first_in (y ∷ ys) fs H, next_is (y ∷ ys) fs H, ne_eqb y null_slot (λ e. omega arith), ne_eqb y x apart, second, set_set)

-- the stored count of the free slots goes along unchanged
abbrev recounted : ℕ → Outcome Free → Outcome Free
recounted m r = outcome (with_count m r.answer) r.links r.values

along_count : (n m : ℕ) (links values : List ℕ) (before slot : ℕ) (free : Free) → clear_along n links values before slot (with_count m free) ≡ recounted m (clear_along n links values before slot free)
unfolding clear_along
along_count zero m links values before slot free = refl
along_count (suc n) m links values before slot free =
    go (ltb slot (length links) && ltb slot (length values)) refl (along_count n m (set links slot free.head) (set values slot wipe_word) slot (bit_xor (cell links slot) before) (record { head = slot; count = free.count }))
  where
    on : ℕ → Outcome Free
    on c = clear_along n (set links slot free.head) (set values slot wipe_word) slot (bit_xor (cell links slot) before) (record { head = slot; count = c })

    go : (t : Bool) → ltb slot (length links) && ltb slot (length values) ≡ t → on m ≡ recounted m (on free.count) → clear_along (suc n) links values before slot (with_count m free) ≡ recounted m (clear_along (suc n) links values before slot free)
    go true e more = rw e more
    go false e more = rw e

-- what is left of the list is emptied, with the links as the pops so far leave them
along_left : (xs : List ℕ) {fs : List ℕ} (links values : List ℕ) (list : Entry) (free : Free) (before : ℕ) → Held xor (pops_leave links before xs) values list free xs fs → list.length ≡ length xs
    → clear_on xor (length xs) (pops_leave links before xs) values list free ≡ cleared list (free.count + length xs) (clear_along (length xs) links values before (first_or 0 xs) free)
unfolding clear_on clear_along
along_left [] links values list free before H c =
    let none : free.count ≡ free.count + 0 = omega arith in
    λ i. record {
      done = true;
      value = 0;
      entry = record { head = H.entry.head i; tail = H.entry.tail i; share = list.share; limit = list.limit; length = c i };
      free = record { head = free.head; count = none i };
      links = links;
      values = values;
    }
along_left (x ∷ xs) {fs} links values list free before H c =
    let (k, p, q) = inside links values list free before x xs fs H in
    let e = pop_is links values list free before x xs fs H in
    let counted = pop_counted_lem xor_lawful Front (pops_leave links before (x ∷ xs)) values list free x xs fs H in
    let links' = set links x free.head in
    let values' = set values x wipe_word in
    let list' = with_length (list.length - 1) (one_less list xs) in
    let free' : Free = record { head = x; count = free.count + 1 } in
    let rest : Held xor (pops_leave links' x xs) values' list' free' xs (x ∷ fs) =
    subst (λ (r : Outcome PopStep). Held xor r.links r.values (with_length (list.length - 1) r.answer.entry) (with_count (free.count + 1) r.answer.free) xs (x ∷ fs)) e
    (leaves_counted xor_lawful Front (pops_leave links before (x ∷ xs)) values list free x xs fs H).held in
    let more = along_left xs links' values' list' free' x rest (omega (arith, c)) in
    let r = clear_along (length xs) links' values' x (first_or 0 xs) (record { head = x; count = free.count }) in
    let shift : free.count + 1 + length xs ≡ free.count + suc (length xs) = omega arith in
    rw (counted, e, lt-ltb x (length links) p, lt-ltb x (length values) q, onto links values list free before x xs fs H)
    (more ∙ ap (cleared list' (free.count + 1 + length xs)) (along_count (length xs) (free.count + 1) links' values' x (first_or 0 xs) (record { head = x; count = free.count })) ∙ same xs (list.length - 1) (free.count + 1 + length xs) (free.count + 1) r ∙ ap (λ (c : ℕ). cleared list c r) shift)
  where
    same : (xs : List ℕ) (n c m : ℕ) (r : Outcome Free) → cleared (with_length n (one_less list xs)) c (recounted m r) ≡ cleared list c r
    same [] n c m r = refl
    same (y ∷ ys) n c m r = refl

-- 01: "Clear: equals popping the front until the list is empty"
pub clear_along_lem : {links values : List ℕ} {list : Entry} {free : Free} (xs : List ℕ) {fs : List ℕ} → Held xor links values list free xs fs → list.length ≡ length xs
    → clear_on xor (length xs) links values list free ≡ cleared list (free.count + length xs) (clear_along (length xs) links values null_slot list.head free)
clear_along_lem {links} {values} {list} {free} xs {fs} H c =
    ap (λ ls. clear_on xor (length xs) ls values list free) (begins xs)
    ∙ along_left xs links values list free null_slot (subst (λ ls. Held xor ls values list free xs fs) (begins xs) H) c
    ∙ ap (λ x. cleared list (free.count + length xs) (clear_along (length xs) links values null_slot x free)) (sym H.entry.head)
  where
    -- before the first slot there is none
    begins : (xs : List ℕ) → links ≡ pops_leave links null_slot xs
    begins [] = refl
    begins (x ∷ xs) = sym (ap (set links x) (xor_zero_r (cell links x)) ∙ set-get_or links x 0)

-- and so on a list of a pool in which the check found no fault
pub clear_found : (links values : List ℕ) (b : AnyBook) (l : ℕ) → (on_list_of xor links values b l).refusal.number ≡ 0
    → let e = entry_at b.entries l in
    (clear_on xor e.length links values e b.free ≡ cleared e (b.free.count + e.length) (clear_along e.length links values null_slot e.head b.free))
    × (word_sum b.free.count e.length ≡ b.free.count + e.length)
clear_found links values b l z =
    let (s, S, below) = on_list_sound xor links values b l xor_lawful z in
    let many = stored-length S l below in
    (rw many (clear_along_lem (chain_at s l) (book_held S l below) many), word_sum_lem b.free.count (entry_at b.entries l).length (omega (arith, many, stored_free S, some_slots S l, S.pool.fit.size.most)))
