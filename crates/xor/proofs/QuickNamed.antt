-- 02 d) of the four quick calls by name. On a pool that the page calls sound each is the checked call: "the answer, book and memory". On any pool: when each number is given, and two results that a promise allows are equal.
use mathlib.Core.Path.{◌≡◌, ap}
use mathlib.Core.List.{List}
use Prim.Native.Nat.{ℕ}
use Rattle.books.specs.declared.Book.{Book}
use Rattle.books.specs.declared.Answer.{Answer}
use Rattle.books.specs.declared.Popped.{Popped}
use Rattle.books.specs.Book.{eight}
use Rattle.books.specs.Outcome.{outcome}
use Rattle.books.proofs.OneResult.{one_outcome}
use Rattle.shapes.specs.declared.End.TheVariants.{Front, Back}
use Rattle.shapes.specs.Shape.{Shape}
use Rattle.shapes.specs.Numbers.{Given}
use Rattle.engines.proofs.QuickSound.{quick_push_checked, quick_pop_checked}
use Rattle.xor.specs.Sound.{XorBook}
use Rattle.xor.specs.Ten.{as_answer, as_popped, push_back_of, push_front_of, pop_back_of, pop_front_of}
use Rattle.xor.specs.Four.{quick_push_back_of, quick_push_front_of, quick_pop_back_of, quick_pop_front_of}
use Rattle.xor.specs.Quick.{xor_push_conditions, xor_pop_conditions}
use Rattle.xor.proofs.Page.{page_told}
use Rattle.xor.proofs.Lawful.{xor_lawful}
use Rattle.xor.proofs.Quick.{xor_push_given, xor_pop_given}

-- ---- on a sound pool

module _ (links values : List ℕ) (b : Book) {s : Shape} (X : XorBook links values b s) (l : ℕ) where
  pub sound_quick_push_back : (value : ℕ) → quick_push_back_of links values b l value ≡ push_back_of links values b l value
  sound_quick_push_back value = ap as_answer (quick_push_checked xor_lawful ((page_told links values b s).1 X) l Back value)

  pub sound_quick_push_front : (value : ℕ) → quick_push_front_of links values b l value ≡ push_front_of links values b l value
  sound_quick_push_front value = ap as_answer (quick_push_checked xor_lawful ((page_told links values b s).1 X) l Front value)

  pub sound_quick_pop_back : quick_pop_back_of links values b l ≡ pop_back_of links values b l
  sound_quick_pop_back = ap as_popped (quick_pop_checked xor_lawful ((page_told links values b s).1 X) l Back)

  pub sound_quick_pop_front : quick_pop_front_of links values b l ≡ pop_front_of links values b l
  sound_quick_pop_front = ap as_popped (quick_pop_checked xor_lawful ((page_told links values b s).1 X) l Front)

-- ---- on any pool

module _ (links values : List ℕ) (b : Book) (l : ℕ) where
  pub quick_push_back_given : (value : ℕ) → Given (xor_push_conditions links values (eight b) l Back) (quick_push_back_of links values b l value).answer.refusal.number
  quick_push_back_given value = xor_push_given links values (eight b) l Back value

  pub quick_push_front_given : (value : ℕ) → Given (xor_push_conditions links values (eight b) l Front) (quick_push_front_of links values b l value).answer.refusal.number
  quick_push_front_given value = xor_push_given links values (eight b) l Front value

  pub quick_pop_back_given : Given (xor_pop_conditions links values (eight b) l Back) (quick_pop_back_of links values b l).answer.given.refusal.number
  quick_pop_back_given = xor_pop_given links values (eight b) l Back

  pub quick_pop_front_given : Given (xor_pop_conditions links values (eight b) l Front) (quick_pop_front_of links values b l).answer.given.refusal.number
  quick_pop_front_given = xor_pop_given links values (eight b) l Front

  pub quick_push_back_one : (value : ℕ) {r r' : Answer} {after after' left left' : List ℕ} → outcome r after left ≡ quick_push_back_of links values b l value → outcome r' after' left' ≡ quick_push_back_of links values b l value
      → (r ≡ r') × (after ≡ after') × (left ≡ left')
  quick_push_back_one value e f = one_outcome e f

  pub quick_push_front_one : (value : ℕ) {r r' : Answer} {after after' left left' : List ℕ} → outcome r after left ≡ quick_push_front_of links values b l value → outcome r' after' left' ≡ quick_push_front_of links values b l value
      → (r ≡ r') × (after ≡ after') × (left ≡ left')
  quick_push_front_one value e f = one_outcome e f

  pub quick_pop_back_one : {r r' : Popped} {after after' left left' : List ℕ} → outcome r after left ≡ quick_pop_back_of links values b l → outcome r' after' left' ≡ quick_pop_back_of links values b l
      → (r ≡ r') × (after ≡ after') × (left ≡ left')
  quick_pop_back_one e f = one_outcome e f

  pub quick_pop_front_one : {r r' : Popped} {after after' left left' : List ℕ} → outcome r after left ≡ quick_pop_front_of links values b l → outcome r' after' left' ≡ quick_pop_front_of links values b l
      → (r ≡ r') × (after ≡ after') × (left ≡ left')
  quick_pop_front_one e f = one_outcome e f
