-- What a look tells, stage by stage: 1, 9, 10, and what is found in the pool.
use mathlib.Core.Path.{◌≡◌, refl, ap, ◌∙◌}
use mathlib.Core.Bool.{Bool, true, false}
use mathlib.Core.List.{List}
use Prim.Native.Nat.{ℕ}
use lib.ListN.{length, take}
use Rattle.std.specs.Prelude.{Result, Err}
use Rattle.books.specs.declared.Refused.{Refused}
use Rattle.books.specs.declared.Number.TheVariants.{Sizes, BookRules, NullSlot}
use Rattle.books.specs.Errors.{refused_by_number}
use Rattle.books.specs.Book.{AnyBook}
use Rattle.books.specs.Test.{keeps_rules}
use Rattle.shapes.specs.Records.{Looked}
use Rattle.shapes.specs.Faults.{looked_by}
use Rattle.engines.specs.Sound.{Fit}
use Rattle.engines.specs.Check.{sizes_fit, null_slot_zero, pool_found, check_found, look_of}
use Rattle.engines.proofs.Checked.{fits_exactly}
use Rattle.xor.specs.Engine.{xor}
use Rattle.pools.specs.Found.{look_found}
use Rattle.pools.specs.Word.{told_in, told_by, NoMore}

module _ (links values : List ℕ) (b : AnyBook) (fit : Fit xor links values) where
  -- a book that does not keep the rules, and a null slot that is not zero
  pub look_nine : (r : Refused) → r ≡ refused_by_number BookRules → keeps_rules (length links) b ≡ false → looked_by (Err r) ≡ look_of xor links values b
  unfolding look_of check_found
  look_nine r n e = rw (n, (fits_exactly xor links values).1 fit, e)

  module _ (kept : keeps_rules (length links) b ≡ true) where
    pub look_ten : (r : Refused) → r ≡ refused_by_number NullSlot → null_slot_zero xor links values ≡ false → looked_by (Err r) ≡ look_of xor links values b
    unfolding look_of check_found pool_found
    look_ten r n e = rw (n, (fits_exactly xor links values).1 fit, kept, e)

    -- past both the look tells what is found in the pool
    pub look_past : (r : Result ℕ Refused) → looked_by r ≡ look_found (pool_found xor links values (take b.lists b.entries) b.free) → looked_by r ≡ look_of xor links values b
    unfolding look_of check_found
    look_past r e = e ∙ rw ((fits_exactly xor links values).1 fit, kept)

-- where the sizes do not fit, it tells 1
pub look_unfit : (links values : List ℕ) (b : AnyBook) (r : Refused) → r ≡ refused_by_number Sizes → (Fit xor links values → ⊥) → looked_by (Err r) ≡ look_of xor links values b
unfolding look_of
look_unfit links values b r n d = go (sizes_fit xor links values) refl
  where
    go : (x : Bool) → sizes_fit xor links values ≡ x → looked_by (Err r) ≡ look_of xor links values b
    go true e = absurd (d ((fits_exactly xor links values).0 e))
    go false e = rw (n, e)

-- a word that an answer was put into tells what that answer says, as the code tells it and as the definitions do
pub told_whole : {word : ℕ} {r : Result ℕ Refused} {o : Looked} → told_in word ≡ r → (told_by word ≡ looked_by r) × NoMore word → looked_by r ≡ o
    → (looked_by (told_in word) ≡ o) × ((told_by word ≡ o) × NoMore word)
told_whole e (p, q) f = (ap looked_by e ∙ f, (p ∙ f, q))
