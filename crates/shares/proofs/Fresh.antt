-- The cells of a fresh pool, slot by slot, as setup stores them.
use Rattle.std.specs.Prelude.{◌≡◌, ℕ, zero, suc, ◌+◌, ◌-◌, ◌<◌, ◌≤◌, List, ◌∷◌, length, set, replicate}
use mathlib.Core.Path.{refl}
use native.Mathlib.Omega.{arith}
use lib.ListN.{length-set}
use borrow.Author.Tests.{lt-ltb, le-ltb, ne_eqb}
use Rattle.books.specs.Book.{wipe_word}
use Rattle.books.specs.Tabulate.{tabulate}
use Rattle.books.proofs.Fill.{Filling, fill_none, fill_more, fill_all}
use Rattle.shapes.specs.Setup.{fresh_value}
use Rattle.xor.specs.Engine.{fresh_link}

-- the null slot, a slot that has another after it, and the last
pub link_null : (size : ℕ) → 0 ≡ fresh_link size 0
unfolding fresh_link
link_null size = refl

pub link_inner : (size slot : ℕ) → 0 < slot → slot + 1 < size → slot + 1 ≡ fresh_link size slot
unfolding fresh_link
link_inner size slot p q = rw (lt-ltb 0 slot p, lt-ltb (slot + 1) size q)

pub link_last : (size slot : ℕ) → 0 < slot → size ≤ slot + 1 → 0 ≡ fresh_link size slot
unfolding fresh_link
link_last size slot p q = rw (lt-ltb 0 slot p, le-ltb (slot + 1) size q)

pub value_null : 0 ≡ fresh_value 0
unfolding fresh_value
value_null = refl

pub value_other : (slot : ℕ) → 0 < slot → wipe_word ≡ fresh_value slot
unfolding fresh_value
value_other slot p = rw (ne_eqb slot 0 (omega (arith, p)))

-- the first place is filled, before the loop
pub fill_first : (f : ℕ → ℕ) (xs : List ℕ) → 0 < length xs → 0 ≡ f 0 → Filling 0 f (set xs 0 0) (set xs 0 0) 1
fill_first f xs h e = record { size = refl; filled = (fill_more 0 f xs xs 0 0 (fill_none 0 f xs) h e).filled }

-- the last place is filled, after the loop
pub fill_last : (xs now : List ℕ) (k : ℕ) → Filling 0 (fresh_link (length xs)) (set xs 0 0) now k → 2 ≤ length xs → length xs - 1 ≤ k
    → set now (length xs - 1) 0 ≡ tabulate (length xs) (fresh_link (length xs))
fill_last xs now k F h g =
    let n = length xs in
    let size : length (set xs 0 0) ≡ length xs = length-set xs 0 0 in
    let sooner : Filling 0 (fresh_link n) (set xs 0 0) now (n - 1) = record { size = F.size; filled = λ y q. F.filled y (omega arith) } in
    fill_all 0 (fresh_link n) (set xs 0 0) _ (n - 1 + 1) n
    (fill_more 0 (fresh_link n) (set xs 0 0) now (n - 1) 0 sooner (omega (arith, F.size)) (link_last n (n - 1) (omega arith) (omega arith)))
    size
    (omega arith)

-- the same number at every place
replicated : (v : ℕ) (f : ℕ → ℕ) (n : ℕ) → ((y : ℕ) → v ≡ f y) → replicate n v ≡ tabulate n f
unfolding tabulate
replicated v f zero h = refl
replicated v f (suc n) h = λ i. h zero i ∷ replicated v (λ y. f (suc y)) n (λ y. h (suc y)) i

-- every value is wiped, and then the null slot's is stored
pub values_laid : (n : ℕ) → 0 < n → set (replicate n wipe_word) 0 0 ≡ tabulate n fresh_value
unfolding tabulate
values_laid zero h = absurd (omega arith)
values_laid (suc n) h = λ i. value_null i ∷ replicated wipe_word (λ y. fresh_value (suc y)) n (λ y. value_other (suc y) (omega arith)) i
