-- What a quick call answers at each of its returns, told from what the functions that it calls promise.
use Rattle.std.specs.Prelude.{◌≡◌, ℕ, List, Result, Ok, Err, IsErrAnd, take}
use mathlib.Core.Path.{refl}
use Rattle.books.specs.declared.Book.{Book}
use Rattle.books.specs.declared.Number.{Number}
use Rattle.books.specs.declared.Refused.{Refused}
use Rattle.books.specs.Book.{eight}
use Rattle.books.specs.Errors.{error_number, refused_by_number}
use Rattle.books.specs.Outcome.{outcome}
use Rattle.shapes.specs.declared.Chains.{Chains}
use Rattle.shapes.specs.declared.End.{End}
use Rattle.shapes.specs.Numbers.{first_that}
use Rattle.shapes.specs.Records.{list_change_by}
use Rattle.shapes.specs.Shape.{stored_lacks}
use Rattle.engines.specs.OnList.{on_list}
use Rattle.engines.specs.Quick.{quick_list_tests, quick_push_on, quick_pop_on, quick_push, quick_pop}
use Rattle.xor.specs.Engine.{xor}
use Rattle.xor.specs.Ten.{as_answer, as_popped}
use Rattle.pools.proofs.Found.{handed_on}
use Rattle.shares.specs.Answers.{answer_by, popped_answer_by}
use Rattle.shares.proofs.Listed.{chains_in, put_back_same, refused_there}
use Rattle.shares.proofs.QuickReached.{quick_push_early, quick_push_put, quick_pop_early, quick_pop_put}

-- ---- one of the first tests applies

module _ (links values : List ℕ) (book : Book) (l : ℕ) (number : Number) (e : error_number number ≡ first_that (quick_list_tests xor links values (eight book) l)) (r : Result Chains Refused) (h : IsErrAnd r (λ x. x ≡ refused_by_number number)) where
  pub quick_push_listed_stops : (end : End) (value : ℕ) → outcome (answer_by book l r) links values ≡ as_answer (quick_push xor links values (eight book) l end value)
  quick_push_listed_stops end value = rw (handed_on r _ h) (quick_push_early links values (eight book) l e (refused_there (refused_by_number number)) end refl value)

  pub quick_pop_listed_stops : (end : End) → outcome (popped_answer_by book l r 0) links values ≡ as_popped (quick_pop xor links values (eight book) l end)
  quick_pop_listed_stops end = rw (handed_on r _ h) (quick_pop_early links values (eight book) l e (refused_there (refused_by_number number)) end refl refl)

-- ---- none of them does

module _ (links values : List ℕ) (book : Book) (l : ℕ) {chains : Chains} (e : 0 ≡ first_that (quick_list_tests xor links values (eight book) l)) (h : chains ≡ chains_in book l) {new_links new_values : List ℕ} where
  module _ (end : End) (value : ℕ) {lacks : ℕ} (a : lacks ≡ stored_lacks (take book.lists book.entries)) where
    pub quick_push_listed_refused : (number : Number) (r : Result Chains Refused) → IsErrAnd r (λ x. x ≡ refused_by_number number)
        → on_list (list_change_by chains (Err number)) 0 new_links new_values ≡ quick_push_on xor end links values chains.list chains.idle lacks value
        → outcome (answer_by book l r) new_links new_values ≡ as_answer (quick_push xor links values (eight book) l end value)
    quick_push_listed_refused number r g q =
        rw (handed_on r _ g)
        (quick_push_put links values (eight book) l e refl refl {r = list_change_by (chains_in book l) (Err number)} (put_back_same book l) end refl value a (rw h at q))

    pub quick_push_listed_done : {after : Chains} → on_list (list_change_by chains (Ok after)) 0 new_links new_values ≡ quick_push_on xor end links values chains.list chains.idle lacks value
        → outcome (answer_by book l (Ok after)) new_links new_values ≡ as_answer (quick_push xor links values (eight book) l end value)
    quick_push_listed_done {after} q = quick_push_put links values (eight book) l e refl refl {r = list_change_by chains (Ok after)} refl end refl value a (rw h at q)

  module _ (end : End) {value : ℕ} where
    pub quick_pop_listed_refused : (number : Number) (r : Result Chains Refused) → IsErrAnd r (λ x. x ≡ refused_by_number number)
        → on_list (list_change_by chains (Err number)) value new_links new_values ≡ quick_pop_on xor end links values chains.list chains.idle
        → outcome (popped_answer_by book l r value) new_links new_values ≡ as_popped (quick_pop xor links values (eight book) l end)
    quick_pop_listed_refused number r g q =
        rw (handed_on r _ g)
        (quick_pop_put links values (eight book) l e refl refl {r = list_change_by (chains_in book l) (Err number)} (put_back_same book l) end refl refl (rw h at q))

    pub quick_pop_listed_done : {after : Chains} → on_list (list_change_by chains (Ok after)) value new_links new_values ≡ quick_pop_on xor end links values chains.list chains.idle
        → outcome (popped_answer_by book l (Ok after) value) new_links new_values ≡ as_popped (quick_pop xor links values (eight book) l end)
    quick_pop_listed_done {after} q = quick_pop_put links values (eight book) l e refl refl {r = list_change_by chains (Ok after)} refl end refl refl (rw h at q)
