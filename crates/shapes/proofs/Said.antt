-- How the code's `Option` and `Result` say what a step and the check answer leaves no choice: two answers that say the same are one.
use Rattle.std.specs.Prelude.{◌≡◌, ◌≢◌, ℕ, Option, Some, None, Result, Ok, Err}
use mathlib.Core.Path.{refl, sym, ap}
use mathlib.Core.Bool.{true≢false}
use native.Mathlib.Omega.{arith}
use Rattle.books.specs.declared.Free.{Free}
use Rattle.books.specs.declared.Number.{Number}
use Rattle.books.specs.declared.Refused.{Refused}
use Rattle.books.specs.Errors.{error_number}
use Rattle.books.proofs.Errors.{number_one, number_positive, refusal_one}
use Rattle.shapes.specs.declared.Chains.{Chains}
use Rattle.shapes.specs.Records.{Released, PushStep, PopStep, ListChange, Looked, released_by, push_step_by, pop_step_by, list_change_by}
use Rattle.shapes.specs.Faults.{looked_by}

pub released_one : (before : Free) (r r' : Option Free) → released_by before r ≡ released_by before r' → r ≡ r'
released_one before (Some rest) (Some rest') e = ap (λ (x : Released). Some x.free) e
released_one before (Some rest) None e = absurd (true≢false (ap (λ (x : Released). x.done) e))
released_one before None (Some rest) e = absurd (true≢false (ap (λ (x : Released). x.done) (sym e)))
released_one before None None e = refl

pub pushed_one : (before : Chains) (r r' : Option Chains) → push_step_by before r ≡ push_step_by before r' → r ≡ r'
pushed_one before (Some after) (Some after') e = λ i. Some (record { list = (e i).entry; idle = (e i).free })
pushed_one before (Some after) None e = absurd (true≢false (ap (λ (x : PushStep). x.done) e))
pushed_one before None (Some after) e = absurd (true≢false (ap (λ (x : PushStep). x.done) (sym e)))
pushed_one before None None e = refl

pub popped_one : (before : Chains) (r r' : Option (ℕ × Chains)) → pop_step_by before r ≡ pop_step_by before r' → r ≡ r'
popped_one before (Some (value, after)) (Some (value', after')) e = λ i. Some ((e i).value, record { list = (e i).entry; idle = (e i).free })
popped_one before (Some (value, after)) None e = absurd (true≢false (ap (λ (x : PopStep). x.done) e))
popped_one before None (Some (value, after)) e = absurd (true≢false (ap (λ (x : PopStep). x.done) (sym e)))
popped_one before None None e = refl

-- a number that refuses is not 0, which is done
not_zero : (n : Number) → error_number n ≢ 0
not_zero n e = omega (arith, number_positive n, e)

pub changed_one : (before : Chains) (r r' : Result Chains Number) → list_change_by before r ≡ list_change_by before r' → r ≡ r'
changed_one before (Ok after) (Ok after') e = λ i. Ok (record { list = (e i).entry; idle = (e i).free })
changed_one before (Ok after) (Err n) e = absurd (not_zero n (ap (λ (x : ListChange). x.number) (sym e)))
changed_one before (Err n) (Ok after) e = absurd (not_zero n (ap (λ (x : ListChange). x.number) e))
changed_one before (Err n) (Err m) e = ap (λ (k : Number). Err k) (number_one n m (ap (λ (x : ListChange). x.number) e))

pub looked_one : (r r' : Result ℕ Refused) → looked_by r ≡ looked_by r' → r ≡ r'
looked_one (Ok lacks) (Ok lacks') e = ap (λ (x : Looked). Ok x.found.lacks) e
looked_one (Ok lacks) (Err s) e = absurd (not_zero s.number (ap (λ (x : Looked). x.refusal.number) (sym e)))
looked_one (Err r) (Ok lacks) e = absurd (not_zero r.number (ap (λ (x : Looked). x.refusal.number) e))
looked_one (Err r) (Err s) e = ap (λ (x : Refused). Err x) (refusal_one r s (ap (λ (x : Looked). x.refusal) e))
