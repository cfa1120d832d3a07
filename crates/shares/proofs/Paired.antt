-- Shares and limits in pairs, as setup reads them: what each pair adds to the test of all.
use Rattle.std.specs.Prelude.{◌≡◌, ℕ, zero, suc, ◌+◌, ◌-◌, ◌<◌, ◌≤◌, ◌⊎◌, true, false, List, [], ◌∷◌, length, get_or, take, drop, Bool, ◌&&◌, ◌==◌, eqb, ltb}
use Rattle.std.specs.List.{list_all}
use mathlib.Core.Path.{refl, sym, ap, ◌∙◌}
use mathlib.Core.Logic.{inl, inr}
use native.Mathlib.Omega.{arith}
use Rattle.std.proofs.Common.{length-drop}
use Rattle.std.proofs.Math.Seq.{take-length}
use borrow.Author.Tests.{le-leb, lt-leb, lt-ltb, le-ltb}
use Rattle.books.specs.declared.Entry.{Entry}
use Rattle.books.specs.Book.{most_lists}
use Rattle.books.specs.Test.{is_fair, is_zero, gather, all_zero, keeps_rules}
use Rattle.books.specs.Tabulate.{tabulate}
use Rattle.books.proofs.Tabulate.{tabulate-length}
use Rattle.engines.specs.Calls.{fresh_book_of}
use Rattle.shapes.specs.Ends.{new_of}
use Rattle.shapes.specs.Setup.{fresh_entry}

-- an empty list with each share and its limit, as far as there are both
unfoldable pub paired : List ℕ → List ℕ → List Entry
paired [] limits = []
paired (share ∷ shares) [] = []
paired (share ∷ shares) (limit ∷ limits) = new_of share limit ∷ paired shares limits

pub paired_first : (count n : ℕ) (shares limits : List ℕ) → length shares ≡ n → length limits ≡ n → paired (take count shares) (take count limits) ≡ take count (tabulate n (fresh_entry shares limits))
unfolding paired tabulate
paired_first zero n shares limits e f = refl
paired_first (suc count) zero [] limits e f = refl
paired_first (suc count) zero (s ∷ shares) limits e f = absurd (omega arith)
paired_first (suc count) (suc n) [] limits e f = absurd (omega arith)
paired_first (suc count) (suc n) (s ∷ shares) [] e f = absurd (omega arith)
paired_first (suc count) (suc n) (s ∷ shares) (l ∷ limits) e f = λ i. new_of s l ∷ paired_first count n shares limits (omega arith) (omega arith) i

-- a pair is fair, or it is not by its share or by its limit
module _ (size share limit : ℕ) where
  pub over_limit : limit < share → is_fair size (new_of share limit) ≡ false
  unfolding is_fair
  over_limit h = rw (lt-leb _ _ h)

  pub over_size : size ≤ limit → share ≤ limit → is_fair size (new_of share limit) ≡ false
  unfolding is_fair
  over_size h g = rw (le-leb _ _ g, le-ltb _ _ h)

  pub fair : limit < size → share ≤ limit → is_fair size (new_of share limit) ≡ true
  unfolding is_fair
  fair h g = rw (le-leb _ _ g, lt-ltb _ _ h)

none : (size sum : ℕ) (ss ls : List ℕ) → (length ss ≡ 0) ⊎ (length ls ≡ 0) → ltb sum size ≡ gather size (paired ss ls) sum
unfolding paired gather
none size sum [] ls z = refl
none size sum (s ∷ ss) [] z = refl
none size sum (s ∷ ss) (l ∷ ls) (inl z) = absurd (omega arith)
none size sum (s ∷ ss) (l ∷ ls) (inr z) = absurd (omega arith)

module _ (size sum : ℕ) {shares limits : List ℕ} where
  module _ {share limit : ℕ} {shares' limits' : List ℕ} (e : shares ≡ share ∷ shares') (f : limits ≡ limit ∷ limits') where
    -- one that is not fair decides
    pub pair_stops : is_fair size (new_of share limit) ≡ false → false ≡ gather size (paired shares limits) sum
    unfolding paired gather
    pair_stops h = rw (e, f, h)

    pub pair_adds : is_fair size (new_of share limit) ≡ true → {more : ℕ} → more ≡ share → gather size (paired shares' limits') (sum + more) ≡ gather size (paired shares limits) sum
    unfolding paired gather
    pair_adds h m = rw (e, f, h, m)

-- after the last pair
pub pairs_end : (size sum : ℕ) (shares limits : List ℕ) {X Y : Type 0} {P : X → Type 0} {Q : Y → Type 0}
    → ((x : X) × ((length shares ≡ 0) × P x)) ⊎ ((y : Y) × ((length limits ≡ 0) × Q y)) → ltb sum size ≡ gather size (paired shares limits) sum
pairs_end size sum shares limits (inl (x, (z, p))) = none size sum shares limits (inl z)
pairs_end size sum shares limits (inr (y, (z, q))) = none size sum shares limits (inr z)

-- the first so many words are words
pub taken_fits : (count : ℕ) (xs : List ℕ) → ((k : ℕ) → get_or xs k 0 < 65536) → (k : ℕ) → get_or (take count xs) k 0 < 65536
taken_fits zero xs h k = omega arith
taken_fits (suc count) [] h k = omega arith
taken_fits (suc count) (x ∷ xs) h zero = h 0
taken_fits (suc count) (x ∷ xs) h (suc k) = taken_fits count xs (λ j. h (suc j)) k

-- ---- the rest

pub paired_rest : (from n : ℕ) (shares limits : List ℕ) → length shares ≡ n → length limits ≡ n → paired (drop from shares) (drop from limits) ≡ drop from (tabulate n (fresh_entry shares limits))
unfolding paired tabulate
paired_rest zero zero [] [] e f = refl
paired_rest (suc from) zero [] [] e f = refl
paired_rest from zero [] (l ∷ limits) e f = absurd (omega arith)
paired_rest from zero (s ∷ shares) limits e f = absurd (omega arith)
paired_rest from (suc n) [] limits e f = absurd (omega arith)
paired_rest from (suc n) (s ∷ shares) [] e f = absurd (omega arith)
paired_rest zero (suc n) (s ∷ shares) (l ∷ limits) e f = λ i. new_of s l ∷ paired_rest zero n shares limits (omega arith) (omega arith) i
paired_rest (suc from) (suc n) (s ∷ shares) (l ∷ limits) e f = paired_rest from n shares limits (omega arith) (omega arith)

in_turn : (a b x y : Bool) → (a && (b && true)) && (x && y) ≡ (a && x) && (b && y)
in_turn true true x y = refl
in_turn true false true y = refl
in_turn true false false y = refl
in_turn false b x y = refl

-- pairs are zero where all shares and all limits are
pub pairs_zero : (shares limits : List ℕ) → length shares ≡ length limits → list_all (λ x. x == 0) shares && list_all (λ x. x == 0) limits ≡ all_zero (paired shares limits)
unfolding paired all_zero is_zero
pairs_zero [] [] e = refl
pairs_zero [] (l ∷ limits) e = absurd (omega arith)
pairs_zero (s ∷ shares) [] e = absurd (omega arith)
pairs_zero (s ∷ shares) (l ∷ limits) e = sym (in_turn (eqb s 0) (eqb l 0) _ _) ∙ ap (λ (b : Bool). (eqb s 0 && (eqb l 0 && true)) && b) (pairs_zero shares limits (omega arith))

-- told from what the code asks of the shares and of the limits, each as the part from there on
abbrev part : ℕ → List ℕ → List ℕ
part from xs = take (8 - from) (drop from xs)

whole : (from : ℕ) (xs : List ℕ) → length xs ≡ 8 → part from xs ≡ drop from xs
whole from xs e = ap (λ (n : ℕ). take n (drop from xs)) (omega (arith, length-drop from xs)) ∙ take-length (drop from xs)

module _ (from : ℕ) (shares limits : List ℕ) (e : length shares ≡ 8) (f : length limits ≡ 8) {a : Bool} (p : a ≡ list_all (λ x. x == 0) (part from shares)) where
  all_told : list_all (λ x. x == 0) (part from shares) && list_all (λ x. x == 0) (part from limits) ≡ all_zero (drop from (tabulate 8 (fresh_entry shares limits)))
  all_told =
      rw (whole from shares e, whole from limits f)
      (pairs_zero (drop from shares) (drop from limits) (omega (arith, length-drop from shares, length-drop from limits)) ∙ ap all_zero (paired_rest from 8 shares limits e f))

  pub rest_told : a ≡ true → {b : Bool} → b ≡ list_all (λ x. x == 0) (part from limits) → b ≡ all_zero (drop from (tabulate 8 (fresh_entry shares limits)))
  rest_told t q = q ∙ (rw (sym p ∙ t) at all_told)

  pub rest_stops : a ≡ false → a ≡ all_zero (drop from (tabulate 8 (fresh_entry shares limits)))
  rest_stops t = t ∙ (rw (sym p ∙ t) at all_told)

-- from 1 to 8 lists the pairs decide
pub rules_decide : (size lists : ℕ) (shares limits : List ℕ) {count : ℕ} → count ≡ lists → 1 ≤ lists → lists ≤ 8
    → keeps_rules size (fresh_book_of (size - 1) most_lists lists shares limits) ≡ gather size (take count (tabulate most_lists (fresh_entry shares limits))) 0 && all_zero (drop count (tabulate most_lists (fresh_entry shares limits)))
unfolding keeps_rules
rules_decide size lists shares limits e h g = rw (e, le-leb 1 lists h, le-leb lists 8 g, le-leb lists (length (tabulate 8 (fresh_entry shares limits))) (omega (arith, g, tabulate-length 8 (fresh_entry shares limits))))
