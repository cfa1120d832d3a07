-- The first tests of a quick call as the code takes them: the lists one by one, and 17 for the free count before 17 for a length.
use mathlib.Core.Path.{◌≡◌, refl, sym, ap, ◌∙◌}
use mathlib.Core.Logic.{◌≢◌}
use mathlib.Core.Bool.{Bool, true, false, cond, not}
use mathlib.Core.List.{List, [], ◌∷◌}
use Prim.Native.Nat.{ℕ, ◌+◌, ◌-◌, ◌≤◌, ◌<◌}
use native.Mathlib.Numerals.{add-one}
use native.Mathlib.Omega.{arith}
use Rattle.std.specs.Prelude.{Result, Ok, Err, IsErrAnd}
use lib.Dec.{ltb, leb}
use lib.ListN.{length, take, drop, drop_of_length-le}
use lib.Seq.{drop-cons}
use borrow.Author.Tests.{lt-ltb, le-ltb}
use Rattle.books.specs.declared.Entry.{Entry}
use Rattle.books.specs.declared.Number.{Number}
use Rattle.books.specs.Errors.{error_number}
use Rattle.books.specs.Book.{most_lists, zero_entry, AnyBook}
use Rattle.books.specs.Tabulate.{tabulate}
use Rattle.books.proofs.Errors.{number_positive}
use Rattle.books.proofs.Eight.{used_many, used_at}
use Rattle.shapes.specs.Shape.{stored_lacks}
use Rattle.shapes.specs.Numbers.{first_that}
use Rattle.shapes.specs.Quick.{lists_inside, lengths_fit}
use Rattle.engines.specs.Check.{sizes_fit}
use Rattle.engines.specs.Quick.{quick_list_tests}
use Rattle.xor.specs.Engine.{xor}
use Rattle.pools.specs.Quick.{counted_tests, early_number}

-- ---- one list at a time

module _ (f : ℕ → Entry) (count : ℕ) (b : count ≤ 8) where
  abbrev used : List Entry
  used = take count (tabulate most_lists f)

  next : (k : ℕ) → k < count → drop k used ≡ f k ∷ drop (k + 1) used
  next k h = drop-cons used k zero_entry (omega (arith, h, used_many f count b)) ∙ (λ i. used_at f count b k h i ∷ drop (sym (add-one k) i) used)

  past : (k : ℕ) → count ≤ k → drop k used ≡ []
  past k h = drop_of_length-le used {i = k} (omega (arith, h, used_many f count b))

  module _ (size k : ℕ) where
    -- a length that does not fit
    pub length_stops : k < count → size ≤ (f k).length → lengths_fit size (drop k used) ≡ false
    unfolding lengths_fit
    length_stops h g = rw (next k h, le-ltb (f k).length size g)

    -- one that does
    pub length_goes : k < count → (f k).length < size → lengths_fit size (drop k used) ≡ lengths_fit size (drop (k + 1) used)
    unfolding lengths_fit
    length_goes h g = rw (next k h, lt-ltb (f k).length size g)

    -- there is no more
    pub lengths_end : count ≤ k → lengths_fit size (drop k used) ≡ true
    unfolding lengths_fit
    lengths_end h = rw (past k h)

    -- what the lists lack
    pub lacks_go : (sum lack : ℕ) → k < count → lack ≡ (f k).share - (f k).length → sum + lack + stored_lacks (drop (k + 1) used) ≡ sum + stored_lacks (drop k used)
    lacks_go sum lack h e = omega (arith, e, ap stored_lacks (next k h))

    pub lacks_end : (sum : ℕ) → count ≤ k → sum + stored_lacks (drop k used) ≡ sum
    lacks_end sum h = omega (arith, ap stored_lacks (past k h))

-- ---- the tests in turn

module _ (links values : List ℕ) (b : AnyBook) (l : ℕ) where
  -- where one of those before the lengths applies, it decides
  pub counted_stops : first_that (counted_tests xor links values b l) ≢ 0 → first_that (counted_tests xor links values b l) ≡ first_that (quick_list_tests xor links values b l)
  counted_stops d = go (sizes_fit xor links values) (lists_inside b) (leb b.lists l) (ltb b.free.count (length links)) refl refl refl refl
    where
      go : (w x y u : Bool) → sizes_fit xor links values ≡ w → lists_inside b ≡ x → leb b.lists l ≡ y → ltb b.free.count (length links) ≡ u
          → first_that (counted_tests xor links values b l) ≡ first_that (quick_list_tests xor links values b l)
      go true true false true ew ex ey eu = absurd (d (rw (ew, ex, ey, eu)))
      go true true false false ew ex ey eu = rw (ew, ex, ey, eu)
      go true true true u ew ex ey eu = rw (ew, ex, ey)
      go true false y u ew ex ey eu = rw (ew, ex)
      go false x y u ew ex ey eu = rw ew

  -- where none applies, the lengths do. They are asked of the first `n` lists
  module _ (z : first_that (counted_tests xor links values b l) ≡ 0) where
    counted_passes : first_that (quick_list_tests xor links values b l) ≡ cond (lengths_fit (length links) (take b.lists b.entries)) 0 17
    counted_passes = go (sizes_fit xor links values) (lists_inside b) (leb b.lists l) (ltb b.free.count (length links)) refl refl refl refl
      where
        turned : (t : Bool) → cond (not t) 17 0 ≡ cond {A = ℕ} t 0 17
        turned true = refl
        turned false = refl

        go : (w x y u : Bool) → sizes_fit xor links values ≡ w → lists_inside b ≡ x → leb b.lists l ≡ y → ltb b.free.count (length links) ≡ u
            → first_that (quick_list_tests xor links values b l) ≡ cond (lengths_fit (length links) (take b.lists b.entries)) 0 17
        go true true false true ew ex ey eu = rw (ew, ex, ey, eu) (turned (lengths_fit (length links) (take b.lists b.entries)))
        go true true false false ew ex ey eu = let k : ◌≡◌ {A = ℕ} 17 0 = rw (ew, ex, ey, eu) at z in absurd (omega arith)
        go true true true u ew ex ey eu = let k : ◌≡◌ {A = ℕ} 4 0 = rw (ew, ex, ey) at z in absurd (omega arith)
        go true false y u ew ex ey eu = let k : ◌≡◌ {A = ℕ} 17 0 = rw (ew, ex) at z in absurd (omega arith)
        go false x y u ew ex ey eu = let k : ◌≡◌ {A = ℕ} 1 0 = rw ew at z in absurd (omega arith)

    pub lengths_decide : {n : ℕ} → n ≡ b.lists → first_that (quick_list_tests xor links values b l) ≡ cond (lengths_fit (length links) (take n b.entries)) 0 17
    lengths_decide e = counted_passes ∙ ap (λ (m : ℕ). cond (lengths_fit (length links) (take m b.entries)) 0 17) (sym e)

  -- as the code says it: the number of a test before the lengths, handed on
  pub early_stops : (r : Result ℕ Number) (n : Number) → IsErrAnd r (λ m. m ≡ n) → error_number n ≡ first_that (counted_tests xor links values b l) → early_number r ≡ first_that (quick_list_tests xor links values b l)
  early_stops (Ok lacks) n h e = absurd h
  early_stops (Err m) n h e =
      let f : error_number m ≡ first_that (counted_tests xor links values b l) = ap error_number h ∙ e in
      f ∙ counted_stops (λ z. omega (arith, number_positive m, f, z))
