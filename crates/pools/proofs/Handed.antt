-- What a look hands over as one number is found again in it by the code that takes it apart.
use Rattle.std.specs.Prelude.{◌≡◌, ℕ, true, ◌+◌, ◌-◌, ◌*◌, ◌/◌, ◌%◌, ◌<◌, List, length, None, Result, Ok, Err, IfOk}
use mathlib.Core.Path.{refl, sym, ap, ◌∙◌}
use native.Mathlib.Decide.{ℕ_discrete}
use native.Mathlib.Omega.{arith, div_fact, mod_fact}
use borrow.Author.Tests.{eq-eqb, ne_eqb}
use Rattle.books.specs.declared.Number.{Number}
use Rattle.books.specs.Errors.{error_number, number_from}
use Rattle.books.proofs.Errors.{number_again}
use Rattle.books.specs.declared.Refused.{Refused}
use Rattle.books.specs.Book.{AnyBook}
use lib.ListN.{length-append}
use Rattle.chains.proofs.Cover.{once_full}
use Rattle.shapes.specs.Shape.{joined_up, every_slot}
use Rattle.shapes.specs.Records.{Looked}
use Rattle.shapes.specs.Faults.{looked_by}
use Rattle.shapes.specs.Shape.{Shape}
use Rattle.engines.specs.Sound.{Fit, SoundBook}
use Rattle.engines.specs.Check.{sizes_fit, check_found, look_of}
use Rattle.engines.proofs.Checked.{fits_exactly, found_exactly}
use Rattle.engines.proofs.Found.{found_lacks}
use Rattle.xor.specs.Engine.{xor}
use Rattle.xor.proofs.Lawful.{xor_lawful}
use Rattle.pools.specs.Word.{told_as, told_in}

low : (a b : ℕ) → a < 65536 → (a + 65536 * b) % 65536 ≡ a
low a b h = omega (arith, h, div_fact (a + 65536 * b) 65535, mod_fact (a + 65536 * b) 65535)

high : (a b : ℕ) → a < 65536 → (a + 65536 * b) / 65536 ≡ b
high a b h = omega (arith, h, div_fact (a + 65536 * b) 65535, mod_fact (a + 65536 * b) 65535)

small : (a : ℕ) → a < 65536 → a % 65536 ≡ a
small a h = omega (arith, h, div_fact a 65535, mod_fact a 65535)

none_at_zero : number_from 0 ≡ None
unfolding number_from
none_at_zero = refl

pub lacks_handed : (lacks : ℕ) → told_in (65536 * lacks) ≡ Ok lacks
lacks_handed lacks =
    let a : 65536 * lacks % 65536 ≡ 0 = omega (arith, div_fact (65536 * lacks) 65535, mod_fact (65536 * lacks) 65535) in
    let b : 65536 * lacks / 65536 ≡ lacks = omega (arith, div_fact (65536 * lacks) 65535, mod_fact (65536 * lacks) 65535) in
    rw (a, b, none_at_zero) refl

pub place_handed : (number : Number) (list place : ℕ) → error_number number < 65536 → list < 65536 → place < 65536
    → told_in (error_number number + 65536 * (list + 65536 * place)) ≡ Err (record { number = number; list = list; position = place })
place_handed number list place p q r =
    let rest = list + 65536 * place in
    rw (low (error_number number) rest p, high (error_number number) rest p, number_again number, low list place q, high list place q, small place r) refl

-- ---- what the lists lack in a pool that the check accepts has its place in the number

module _ {links values : List ℕ} {b : AnyBook} {s : Shape} (S : SoundBook xor links values b s) where
  -- the free slots are some of the N-1
  idle_below : length s.idle < 4096
  idle_below =
      omega (
        arith,
        S.pool.fit.size.least,
        S.pool.fit.size.most,
        once_full (length links - 1) (every_slot s) (λ z k. let o = S.pool.only z k in (o.0, omega (arith, o.1))) (λ y p q. S.pool.once y p (omega (arith, S.pool.fit.size.least))),
        length-append (joined_up s.chains) s.idle,
      )

  lacks_below : (check_found xor links values b).lacks < 4096
  lacks_below = omega (arith, found_lacks xor_lawful S, S.pool.spare, idle_below)

module _ (links values : List ℕ) (b : AnyBook) (fit : Fit xor links values) where
  found_below : (check_found xor links values b).fault.rule ≡ 0 → (check_found xor links values b).lacks < 65536
  found_below z = let (s, S) = (found_exactly xor_lawful links values b fit).0 z in omega (arith, lacks_below S)

  pub lacks_fit : (r : Result ℕ Refused) → looked_by r ≡ look_of xor links values b → IfOk r (λ lacks. lacks < 524288)
  unfolding look_of
  lacks_fit (Err x) e = tt
  lacks_fit (Ok lacks) e = go (ℕ_discrete (check_found xor links values b).fault.rule 0)
    where
      fits : sizes_fit xor links values ≡ true
      fits = (fits_exactly xor links values).1 fit

      go : Dec ((check_found xor links values b).fault.rule ≡ 0) → lacks < 524288
      go (yes z) = omega (arith, found_below z, ap (λ (x : Looked). x.found.lacks) (rw (fits, eq-eqb _ _ z) at e))
      go (no d) = absurd (d (sym (ap (λ (x : Looked). x.refusal.number) (rw (fits, ne_eqb _ _ d) at e))))
