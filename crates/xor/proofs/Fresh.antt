-- The links that setup writes: every slot from 1 on is free, in order, and slot 0's link is 0.
use mathlib.Core.Path.{◌≡◌, refl, ◌∙◌}
use mathlib.Core.Bool.{Bool, true, false, cond, ◌&&◌}
use mathlib.Core.List.{List}
use Prim.Native.Nat.{ℕ, zero, suc, ◌+◌, ◌-◌, ◌≤◌, ◌<◌}
use native.Mathlib.Omega.{arith}
use lib.Dec.{ltb}
use lib.ListN.{length}
use borrow.Author.Tests.{lt-ltb, le-ltb}
use Rattle.books.specs.Tabulate.{tabulate}
use Rattle.books.proofs.Tabulate.{tabulate-length, tabulate_at}
use Rattle.chains.specs.Chain.{cell, following}
use Rattle.chains.proofs.Chain.{Chain, linked_iff}
use Rattle.shapes.specs.Setup.{slots_from}
use Rattle.engines.specs.Laws.{FreshLinks}
use Rattle.xor.specs.Engine.{fresh_link, xor}

from_chain : (at : ℕ → ℕ) (n a p : ℕ) → ((y : ℕ) → a ≤ y → suc y < a + n → at y ≡ suc y) → ((y : ℕ) → a ≤ y → suc y ≡ a + n → at y ≡ 0) → Chain following at p (slots_from a n) 0
from_chain at zero a p h z = tt
from_chain at (suc zero) a p h z = (z a (omega arith) (omega arith), tt)
from_chain at (suc (suc n)) a p h z =
    (h a (omega arith) (omega arith), from_chain at (suc n) (suc a) a (λ y b c. h y (omega arith) (omega arith)) (λ y b c. z y (omega arith) (omega arith)))

fresh_up : (size y : ℕ) → 0 < y → suc y < size → fresh_link size y ≡ suc y
unfolding fresh_link
fresh_up size y p q = simp (lt-ltb 0 y p, lt-ltb (y + 1) size (omega arith)) (omega arith)

fresh_last : (size y : ℕ) → size ≤ suc y → fresh_link size y ≡ 0
unfolding fresh_link
fresh_last size y h = go (ltb 0 y)
  where
    go : (b : Bool) → cond (b && ltb (y + 1) size) (y + 1) 0 ≡ 0
    go true = simp (le-ltb (y + 1) size (omega arith))
    go false = refl

-- slot 0's link is 0, in a pool of any size
fresh_null : (size : ℕ) → cell (tabulate size (fresh_link size)) 0 ≡ 0
unfolding fresh_link tabulate
fresh_null zero = refl
fresh_null (suc n) = refl

pub fresh_links : (links : List ℕ) → FreshLinks xor links
fresh_links links =
    record {
      even = refl;
      size = tabulate-length (length links) (fresh_link (length links));
      idle = (linked_iff following (cell (xor.fresh links)) (slots_from 1 (length links - 1))).1
          (from_chain (cell (xor.fresh links)) (length links - 1) 1 0
          (λ y a b. link_at y (omega arith) ∙ fresh_up (length links) y a (omega arith))
          (λ y a b. link_at y (omega arith) ∙ fresh_last (length links) y (omega arith)));
      null = fresh_null (length links);
    }
  where
    link_at : (y : ℕ) → y < length links → cell (xor.fresh links) y ≡ fresh_link (length links) y
    link_at y h = tabulate_at 0 (length links) (fresh_link (length links)) y h
