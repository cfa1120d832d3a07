-- The table of the code is 01's, by one computed test.
use mathlib.Core.Path.{◌≡◌, refl, ap, ◌∙◌}
use mathlib.Core.Bool.{Bool, true, false, ◌&&◌}
use mathlib.Core.List.{List, [], ◌∷◌}
use Prim.Native.Nat.{ℕ, zero, suc, ◌≤◌, ◌<◌}
use native.Mathlib.Omega.{arith}
use lib.Dec.{ltb}
use lib.ListN.{get_or, get_or-eq_default}
use borrow.Author.Tests.{ltb-true, ne_eqb}
use Rattle.books.specs.Tabulate.{tabulate}
use Rattle.books.specs.Table.{rows, among, may_give}
use Rattle.books.proofs.Tests.{and_both}
use Rattle.books.proofs.Tabulate.{tabulate_at}

-- a table of m rows and n columns that computes to what f says has f's word at each place
pub table_at : (f : ℕ → ℕ → Bool) (m n : ℕ) (table : List (List Bool)) → table ≡ tabulate m (λ i. tabulate n (f i)) → (i j : ℕ) → i < m → j < n → get_or (get_or table i []) j false ≡ f i j
table_at f m n table e i j p q =
    ap (λ (t : List (List Bool)). get_or (get_or t i []) j false) e ∙ ap (λ (r : List Bool). get_or r j false) (tabulate_at [] m (λ k. tabulate n (f k)) i p) ∙ tabulate_at false n (f i) j q

-- of each row the last number that its call gives, and one that it does not
pub rows_tried : (may_give 0 2 ≡ true) × (may_give 0 3 ≡ false) × (may_give 1 1 ≡ true) × (may_give 1 2 ≡ false) × (may_give 2 4 ≡ true) × (may_give 2 5 ≡ false)
    × (may_give 3 7 ≡ true) × (may_give 3 5 ≡ false) × (may_give 4 7 ≡ true) × (may_give 4 5 ≡ false) × (may_give 5 5 ≡ true) × (may_give 5 6 ≡ false)
    × (may_give 6 5 ≡ true) × (may_give 6 6 ≡ false) × (may_give 7 8 ≡ true) × (may_give 7 5 ≡ false) × (may_give 8 8 ≡ true) × (may_give 8 5 ≡ false)
    × (may_give 9 4 ≡ true) × (may_give 9 5 ≡ false) × (may_give 10 17 ≡ true) × (may_give 10 5 ≡ false) × (may_give 11 17 ≡ true) × (may_give 11 5 ≡ false)
    × (may_give 12 17 ≡ true) × (may_give 12 6 ≡ false) × (may_give 13 17 ≡ true) × (may_give 13 6 ≡ false)
unfolding may_give
rows_tried = (refl, refl, refl, refl, refl, refl, refl, refl, refl, refl, refl, refl, refl, refl, refl, refl, refl, refl, refl, refl, refl, refl, refl, refl, refl, refl, refl, refl)

-- of each of these numbers who gives it: 3 nobody; 9 and 16 the nine calls that check the pool first; 17 the four quick calls, which give neither of the two
pub columns_tried : (tabulate 14 (λ call. may_give call 3) ≡ false ∷ false ∷ false ∷ false ∷ false ∷ false ∷ false ∷ false ∷ false ∷ false ∷ false ∷ false ∷ false ∷ false ∷ [])
    × (tabulate 14 (λ call. may_give call 9) ≡ false ∷ true ∷ true ∷ true ∷ true ∷ true ∷ true ∷ true ∷ true ∷ true ∷ false ∷ false ∷ false ∷ false ∷ [])
    × (tabulate 14 (λ call. may_give call 16) ≡ false ∷ true ∷ true ∷ true ∷ true ∷ true ∷ true ∷ true ∷ true ∷ true ∷ false ∷ false ∷ false ∷ false ∷ [])
    × (tabulate 14 (λ call. may_give call 17) ≡ false ∷ false ∷ false ∷ false ∷ false ∷ false ∷ false ∷ false ∷ false ∷ false ∷ true ∷ true ∷ true ∷ true ∷ [])
unfolding may_give tabulate
columns_tried = (refl, refl, refl, refl)

-- ---- past the table

abbrev all_below : ℕ → List ℕ → Bool
all_below n [] = true
all_below n (k ∷ ks) = ltb k n && all_below n ks

not_among : (n : ℕ) (ks : List ℕ) (m : ℕ) → all_below n ks ≡ true → n ≤ m → among m ks ≡ false
not_among n [] m h p = refl
not_among n (k ∷ ks) m h p =
    let (a, b) = and_both (ltb k n) (all_below n ks) h in
    let d : m ≡ k → ⊥ = λ e. omega (arith, ltb-true k n a) in
    rw (ne_eqb m k d) (not_among n ks m b p)

abbrev rows_below : ℕ → List (List ℕ) → Bool
rows_below n [] = true
rows_below n (r ∷ rs) = all_below n r && rows_below n rs

row_below : (n : ℕ) (rs : List (List ℕ)) (i : ℕ) → rows_below n rs ≡ true → all_below n (get_or rs i []) ≡ true
row_below n [] i h = refl
row_below n (r ∷ rs) zero h = (and_both (all_below n r) (rows_below n rs) h).0
row_below n (r ∷ rs) (suc i) h = row_below n rs i (and_both (all_below n r) (rows_below n rs) h).1

-- no call gives 18 or more
pub no_number : (call number : ℕ) → 18 ≤ number → may_give call number ≡ false
unfolding may_give
no_number call number p = not_among 18 (get_or rows call []) number (row_below 18 rows call refl) p

-- there is no call number 14 or more
pub no_call : (call number : ℕ) → 14 ≤ call → may_give call number ≡ false
unfolding may_give
no_call call number p = rw (get_or-eq_default rows [] p)
