-- The numbers as errors of the code: each has a number of its own, and none has 0, which is done.
use Rattle.std.specs.Prelude.{◌≡◌, ℕ, ◌<◌, Option, Some, unwrap_or}
use mathlib.Core.Path.{refl, sym, ap, ◌∙◌}
use native.Mathlib.Omega.{arith}
use Rattle.books.specs.declared.Number.{Number}
use Rattle.books.specs.declared.Number.TheVariants.{Sizes, Setup, NoList, Empty, AtLimit, NoSlot, Buffer, BookRules, NullSlot, LiveChain, IdleChain, NoChain, NotWiped, Limits, Counts, Untrusted}
use Rattle.books.specs.declared.Refused.{Refused}
use Rattle.books.specs.declared.Refusal.{Refusal}
use Rattle.books.specs.Errors.{error_number, number_from, refusal_by}

-- the error is told from its number
pub number_again : (n : Number) → number_from (error_number n) ≡ Some n
unfolding number_from
number_again Sizes = refl
number_again Setup = refl
number_again NoList = refl
number_again Empty = refl
number_again AtLimit = refl
number_again NoSlot = refl
number_again Buffer = refl
number_again BookRules = refl
number_again NullSlot = refl
number_again LiveChain = refl
number_again IdleChain = refl
number_again NoChain = refl
number_again NotWiped = refl
number_again Limits = refl
number_again Counts = refl
number_again Untrusted = refl

-- so two errors that have one number are one
pub number_one : (n m : Number) → error_number n ≡ error_number m → n ≡ m
number_one n m e = some_one (sym (number_again n) ∙ ap number_from e ∙ number_again m)
  where
    some_one : {n m : Number} → Some n ≡ Some m → n ≡ m
    some_one {n} e = ap (λ (x : Option Number). unwrap_or x n) e

-- a number that refuses is not 0
pub number_positive : (n : Number) → 0 < error_number n
number_positive Sizes = omega arith
number_positive Setup = omega arith
number_positive NoList = omega arith
number_positive Empty = omega arith
number_positive AtLimit = omega arith
number_positive NoSlot = omega arith
number_positive Buffer = omega arith
number_positive BookRules = omega arith
number_positive NullSlot = omega arith
number_positive LiveChain = omega arith
number_positive IdleChain = omega arith
number_positive NoChain = omega arith
number_positive NotWiped = omega arith
number_positive Limits = omega arith
number_positive Counts = omega arith
number_positive Untrusted = omega arith

-- what a refusal says to C leaves no choice of the error
pub refusal_one : (r r' : Refused) → refusal_by r ≡ refusal_by r' → r ≡ r'
refusal_one r r' e =
    let n = number_one r.number r'.number (ap (λ (x : Refusal). x.number) e) in
    λ i. record { number = n i; list = (e i).list; position = (e i).position }
