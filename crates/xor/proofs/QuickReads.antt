-- 02 d) of the XOR list: a quick call's answer and book hang on the book, on how long the slices are, and on no cell but those of the slots from 1 to N-1 that it touches.
use mathlib.Core.Path.{◌≡◌, refl, sym, ap, ◌∙◌}
use mathlib.Core.Logic.{◌≢◌}
use mathlib.Core.Bool.{Bool, true, false, cond, not, ◌&&◌}
use mathlib.Core.List.{List, [], ◌∷◌, ◌++◌}
use Prim.Native.Nat.{ℕ, ◌+◌, ◌-◌, ◌<◌}
use native.Mathlib.Decide.{ℕ_discrete}
use native.Mathlib.Omega.{arith}
use lib.Dec.{eqb, ltb, leb}
use lib.ListN.{length, take}
use borrow.Author.Tests.{eqb-true, eqb-false, ne_eqb}
use Rattle.books.specs.declared.Free.{Free}
use Rattle.books.specs.declared.Entry.{Entry}
use Rattle.books.specs.Book.{null_slot, entry_at, AnyBook}
use Rattle.books.specs.Test.{size_fits}
use Rattle.chains.specs.Count.{count}
use Rattle.chains.specs.Chain.{cell}
use Rattle.chains.proofs.Count.{hit_same}
use Rattle.shapes.specs.declared.End.{End}
use Rattle.shapes.specs.Records.{PushStep}
use Rattle.shapes.specs.Records.{PopStep}
use Rattle.shapes.specs.Ends.{near_of}
use Rattle.shapes.specs.Counts.{with_length, with_count}
use Rattle.shapes.specs.Changes.{with_list}
use Rattle.shapes.specs.Shape.{stored_lacks}
use Rattle.shapes.specs.Tests.{push_own_tests, pop_own_tests}
use Rattle.shapes.specs.Quick.{lists_inside, counts_fit, push_counts_fit, pop_counts_fit}
use Rattle.shapes.specs.Numbers.{Test, test, first_that, decided}
use Rattle.shapes.proofs.Numbers.{decided_done, decided_refused}
use Rattle.engines.specs.Calls.{Called, after_push, after_pop}
use Rattle.engines.specs.Check.{sizes_fit}
use Rattle.engines.specs.Engine.{Step}
use Rattle.engines.specs.Counted.{if_made, counted_push, counted_pop}
use Rattle.engines.specs.Quick.{quick_push_tests, quick_pop_tests, not_quick, quick_push, quick_pop}
use Rattle.xor.specs.Engine.{xor}
use Rattle.xor.specs.Slot.{InPool, in_pool}
use Rattle.xor.specs.Slots.{take_of, release_of}
use Rattle.xor.specs.Steps.{is_beside, push_empty_of, push_beside_of, push_of, pop_of}
use Rattle.xor.specs.Quick.{push_slots, pop_slots, SameLinks, SameValue, SameAnswer}
use Rattle.xor.proofs.Slot.{in_pool_lem}

-- ---- the steps

-- which numbers are slots hangs on the lengths alone
pool_alike : (links links' values values' : List ℕ) (slot : ℕ) → length links' ≡ length links → length values' ≡ length values → in_pool links' values' slot ≡ in_pool links values slot
unfolding in_pool
pool_alike links links' values values' slot e f = λ i. not (eqb slot null_slot) && (ltb slot (e i) && ltb slot (f i))

beside_alike : (links links' values values' : List ℕ) (near slot : ℕ) → length links' ≡ length links → length values' ≡ length values → is_beside links' values' near slot ≡ is_beside links values near slot
unfolding is_beside
beside_alike links links' values values' near slot e f = λ i. not (eqb near slot) && pool_alike links links' values values' near e f i

module _ (end : End) (links links' values values' : List ℕ) (list : Entry) (free : Free) (same : length links' ≡ length links) (many : length values' ≡ length values) where
  -- a push reads the link of the free head: what the old end's link holds goes into that cell alone
  push_alike : (value : ℕ) → (InPool links values free.head → cell links' free.head ≡ cell links free.head) → (push_of end links' values' list free value).answer ≡ (push_of end links values list free value).answer
  unfolding push_of push_empty_of push_beside_of take_of
  push_alike value read = go (eqb list.tail null_slot) (in_pool links values free.head) (is_beside links values (near_of end list) free.head) refl refl refl
    where
      go : (a b c : Bool) → eqb list.tail null_slot ≡ a → in_pool links values free.head ≡ b → is_beside links values (near_of end list) free.head ≡ c
          → (push_of end links' values' list free value).answer ≡ (push_of end links values list free value).answer
      go true true c ea eb ec = rw (ea, pool_alike links links' values values' free.head same many, eb, read ((in_pool_lem links values free.head).0 eb))
      go true false c ea eb ec = rw (ea, pool_alike links links' values values' free.head same many, eb)
      go false true true ea eb ec = rw (ea, pool_alike links links' values values' free.head same many, eb, beside_alike links links' values values' (near_of end list) free.head same many, ec, read ((in_pool_lem links values free.head).0 eb))
      go false true false ea eb ec = rw (ea, pool_alike links links' values values' free.head same many, eb, beside_alike links links' values values' (near_of end list) free.head same many, ec)
      go false false c ea eb ec = rw (ea, pool_alike links links' values values' free.head same many, eb)

  -- a pop reads the link and the value of the end slot
  pop_alike : (InPool links values (near_of end list) → (cell links' (near_of end list) ≡ cell links (near_of end list)) × (cell values' (near_of end list) ≡ cell values (near_of end list)))
      → (pop_of end links' values' list free).answer ≡ (pop_of end links values list free).answer
  unfolding pop_of release_of
  pop_alike read = go (in_pool links values slot) refl
    where
      slot : ℕ
      slot = near_of end list

      near : ℕ
      near = cell links slot

      inner : in_pool links values slot ≡ true → (b c : Bool) → eqb near null_slot ≡ b → is_beside links values near slot ≡ c → (pop_of end links' values' list free).answer ≡ (pop_of end links values list free).answer
      inner ea true c eb ec = let (p, q) = read ((in_pool_lem links values slot).0 ea) in rw (pool_alike links links' values values' slot same many, ea, p, q, eb)
      inner ea false true eb ec = let (p, q) = read ((in_pool_lem links values slot).0 ea) in rw (pool_alike links links' values values' slot same many, ea, p, q, eb, beside_alike links links' values values' near slot same many, ec)
      inner ea false false eb ec = let (p, q) = read ((in_pool_lem links values slot).0 ea) in rw (pool_alike links links' values values' slot same many, ea, p, q, eb, beside_alike links links' values values' near slot same many, ec)

      go : (a : Bool) → in_pool links values slot ≡ a → (pop_of end links' values' list free).answer ≡ (pop_of end links values list free).answer
      go true ea = inner ea (eqb near null_slot) (is_beside links values near slot) refl refl
      go false ea = rw (pool_alike links links' values values' slot same many, ea)

-- ---- the calls

-- two decisions by the same number
answers_alike : (done done' : Called xor) (refused refused' : ℕ → Called xor) (ts ts' : List Test) → first_that ts' ≡ first_that ts → (done'.number ≡ done.number) × (done'.value ≡ done.value) × (done'.book ≡ done.book)
    → ((n : ℕ) → ((refused' n).number ≡ (refused n).number) × ((refused' n).value ≡ (refused n).value) × ((refused' n).book ≡ (refused n).book))
    → ((decided ts' done' refused').number ≡ (decided ts done refused).number) × ((decided ts' done' refused').value ≡ (decided ts done refused).value) × ((decided ts' done' refused').book ≡ (decided ts done refused).book)
answers_alike done done' refused refused' ts ts' e d r = go (ℕ_discrete (first_that ts) 0)
  where
    go : Dec (first_that ts ≡ 0)
        → ((decided ts' done' refused').number ≡ (decided ts done refused).number) × ((decided ts' done' refused').value ≡ (decided ts done refused).value) × ((decided ts' done' refused').book ≡ (decided ts done refused).book)
    go (yes z) = rw (decided_done done refused ts z, decided_done done' refused' ts' (e ∙ z)) d
    go (no k) = rw (decided_refused done refused ts k, decided_refused done' refused' ts' (λ z. k (sym e ∙ z)), e) (r (first_that ts))

-- the counted step's value, entry and free record are told from the step's
module _ {Links : Type 0} (n m : ℕ) (r r' : Step Links) where
  counted_alike : r'.done ≡ r.done → r'.value ≡ r.value → r'.entry ≡ r.entry → r'.free ≡ r.free
      → ((if_made n m r').value ≡ (if_made n m r).value) × ((if_made n m r').entry ≡ (if_made n m r).entry) × ((if_made n m r').free ≡ (if_made n m r).free)
  counted_alike d v e f = go r.done refl
    where
      go : (x : Bool) → r.done ≡ x → ((if_made n m r').value ≡ (if_made n m r).value) × ((if_made n m r').entry ≡ (if_made n m r).entry) × ((if_made n m r').free ≡ (if_made n m r).free)
      go true h = rw (d, h) (v, ap (with_length n) e, ap (with_count m) f)
      go false h = rw (d, h) (v, e, f)

module _ (links links' values values' : List ℕ) (b : AnyBook) (l : ℕ) (end : End) where
  abbrev list : Entry
  list = entry_at b.entries l

  -- the tests by what they hang on: the two lengths, and whether the step is done
  abbrev early : ℕ → ℕ → List Test
  early n m =
      test 1 (not (true && (eqb n m && size_fits n)))
      ∷ test 17 (not (lists_inside b))
      ∷ test 4 (leb b.lists l)
      ∷ test 17 (not (counts_fit n b))
      ∷ []

  abbrev push_tests_of : ℕ → ℕ → Bool → List Test
  push_tests_of n m done = early n m ++ push_own_tests list list.length (stored_lacks (take b.lists b.entries)) b.free.count ++ test 17 (not (push_counts_fit n list.length b.free.count && done)) ∷ []

  abbrev pop_tests_of : ℕ → ℕ → Bool → List Test
  pop_tests_of n m done = early n m ++ pop_own_tests list.length ++ test 17 (not (pop_counts_fit n b.free.count && done)) ∷ []

  pub quick_push_reads : (value : ℕ) → SameLinks links values b l end links' (push_slots links values b l end) → length values' ≡ length values
      → SameAnswer links values b l end (quick_push xor links values b l end value) (quick_push xor links' values' b l end value)
  unfolding quick_push counted_push sizes_fit
  quick_push_reads value (same, read) many =
      let a = push_alike end links links' values values' list b.free same many value (λ p. read b.free.head (omega (arith, hit_same b.free.head)) p.not_null p.has_link) in
      let (w, x, f) = counted_alike (list.length + 1) (b.free.count - 1) (xor.push end links values list b.free value) (xor.push end links' values' list b.free value) (λ i. (a i).done) refl (λ i. (a i).entry) (λ i. (a i).free) in
      let (n, v, k) = answers_alike (after_push xor links values b l end value) (after_push xor links' values' b l end value) (not_quick xor links values b l) (not_quick xor links' values' b l)
      (quick_push_tests xor links values b l end value) (quick_push_tests xor links' values' b l end value)
      (λ i. first_that (push_tests_of (same i) (many i) (a i).done))
      (refl, refl, λ i. with_list b l (x i) (f i))
      (λ n. (refl, refl, refl)) in
      record { number = n; value = v; book = k }

  pub quick_pop_reads : SameLinks links values b l end links' (pop_slots links values b l end) → SameValue links values b l end values'
      → SameAnswer links values b l end (quick_pop xor links values b l end) (quick_pop xor links' values' b l end)
  unfolding quick_pop counted_pop sizes_fit
  quick_pop_reads (same, read) (many, held) =
      let a = pop_alike end links links' values values' list b.free same many (λ p. (read (near_of end list) (omega (arith, hit_same (near_of end list))) p.not_null p.has_link, held p.not_null p.has_value)) in
      let (w, x, f) = counted_alike (list.length - 1) (b.free.count + 1) (xor.pop end links values list b.free) (xor.pop end links' values' list b.free) (λ i. (a i).done) (λ i. (a i).value) (λ i. (a i).entry) (λ i. (a i).free) in
      let (n, v, k) = answers_alike (after_pop xor links values b l end) (after_pop xor links' values' b l end) (not_quick xor links values b l) (not_quick xor links' values' b l)
      (quick_pop_tests xor links values b l end) (quick_pop_tests xor links' values' b l end)
      (λ i. first_that (pop_tests_of (same i) (many i) (a i).done))
      (refl, w, λ i. with_list b l (x i) (f i))
      (λ n. (refl, refl, refl)) in
      record { number = n; value = v; book = k }
