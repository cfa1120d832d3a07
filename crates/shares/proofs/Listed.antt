-- What the check and the test of the list tell in the code's results, and what a call on a list answers at each of its returns.
use Rattle.std.specs.Prelude.{◌≡◌, ℕ, ◌<◌, ◌≤◌, ◌≢◌, ◌⊎◌, List, Result, Ok, Err, IsErrAnd}
use mathlib.Core.Path.{refl, sym, ap}
use mathlib.Core.Logic.{inl, inr}
use native.Mathlib.Decide.{dec_le}
use native.Mathlib.Omega.{arith}
use lib.Seq.{set-get_or}
use borrow.Author.Tests.{le-leb, lt-leb, ne_eqb}
use Rattle.books.specs.declared.Book.{Book}
use Rattle.books.specs.declared.Entry.{Entry}
use Rattle.books.specs.declared.Number.{Number}
use Rattle.books.specs.declared.Number.TheVariants.{NoList}
use Rattle.books.specs.declared.Refused.{Refused}
use Rattle.books.specs.Book.{zero_entry, entry_at, eight, book_of}
use Rattle.books.specs.Errors.{error_number, refused_by_number, refusal_by}
use Rattle.books.specs.Outcome.{outcome}
use Rattle.books.proofs.Errors.{number_positive}
use Rattle.shapes.specs.declared.Chains.{Chains}
use Rattle.shapes.specs.declared.End.{End}
use Rattle.shapes.specs.Records.{Looked, list_change_by}
use Rattle.shapes.specs.Changes.{with_list}
use Rattle.shapes.specs.Faults.{looked_by}
use Rattle.engines.specs.Check.{look_of}
use Rattle.engines.specs.Calls.{on_list_of, push_call, pop_call, clear_call}
use Rattle.engines.specs.OnList.{on_list, push_on, pop_on}
use Rattle.engines.proofs.Looking.{on_list_below}
use Rattle.xor.specs.Along.{clear_on_list}
use Rattle.xor.specs.Engine.{xor}
use Rattle.xor.specs.Ten.{as_answer, as_popped}
use Rattle.xor.proofs.Lawful.{xor_lawful}
use Rattle.pools.proofs.Found.{handed_on}
use Rattle.shares.specs.Answers.{answer_by, popped_answer_by}
use Rattle.shares.proofs.Reached.{push_early, push_put, pop_early, pop_put, clear_early, clear_put}

-- a number that refuses is not 0
pub refused_there : (r : Refused) → (refusal_by r).number ≢ 0
refused_there r z = omega (arith, number_positive r.number, z)

-- the book with the chains of a list that it has
abbrev pub chains_in : Book → ℕ → Chains
chains_in book l = record { list = entry_at book.entries l; idle = book.free }

pub put_back_same : (book : Book) (l : ℕ) → book ≡ book_of (with_list (eight book) l (entry_at book.entries l) book.free)
put_back_same book l = ap (λ (es : List Entry). book_of (record { places = 8; lists = book.lists; entries = es; free = book.free })) (sym (set-get_or book.entries l zero_entry))

-- ---- the check, and then the test of the list

module _ (links values : List ℕ) (book : Book) (l : ℕ) where
  pub look_stops : (refused : Refused) → looked_by (Err refused) ≡ look_of xor links values (eight book) → looked_by (Err refused) ≡ on_list_of xor links values (eight book) l
  unfolding on_list_of
  look_stops refused e = rw (← e, ne_eqb (error_number refused.number) 0 (refused_there refused))

  module _ {lacks : ℕ} (e : looked_by (Ok lacks) ≡ look_of xor links values (eight book)) where
    pub list_passes : l < book.lists → looked_by (Ok lacks) ≡ on_list_of xor links values (eight book) l
    unfolding on_list_of
    list_passes h = rw (← e, lt-leb book.lists l h)

    past : book.lists ≤ l → looked_by (Err (refused_by_number NoList)) ≡ on_list_of xor links values (eight book) l
    unfolding on_list_of
    past h = rw (← e, le-leb book.lists l h)

    -- a list past the eighth is past L
    pub list_stops : (book.lists ≤ l) ⊎ (8 ≤ l) → looked_by (Err (refused_by_number NoList)) ≡ on_list_of xor links values (eight book) l
    list_stops (inl h) = past h
    list_stops (inr h) = go (dec_le book.lists l)
      where
        go : Dec (book.lists ≤ l) → looked_by (Err (refused_by_number NoList)) ≡ on_list_of xor links values (eight book) l
        go (yes k) = past k
        go (no n) =
            let below = on_list_below xor links values (eight book) l xor_lawful (ap (λ (x : Looked). x.refusal.number) (sym (list_passes (omega arith)))) in
            absurd (omega (arith, below.0))

-- ---- 1, 9 to 16 or 4 applies

module _ (links values : List ℕ) (book : Book) (l : ℕ) (refused : Refused) (e : looked_by (Err refused) ≡ on_list_of xor links values (eight book) l) (r : Result Chains Refused) (h : IsErrAnd r (λ x. x ≡ refused)) where
  pub push_listed_stops : (end : End) (value : ℕ) → outcome (answer_by book l r) links values ≡ as_answer (push_call xor links values (eight book) l end value)
  push_listed_stops end value = rw (handed_on r refused h) (push_early links values (eight book) l _ e (refused_there refused) end value)

  pub pop_listed_stops : (end : End) → outcome (popped_answer_by book l r 0) links values ≡ as_popped (pop_call xor links values (eight book) l end)
  pop_listed_stops end = rw (handed_on r refused h) (pop_early links values (eight book) l _ e (refused_there refused) end refl)

  pub clear_stops : outcome (answer_by book l r) links values ≡ as_answer (clear_call xor links values (eight book) l)
  clear_stops = rw (handed_on r refused h) (clear_early links values (eight book) l _ e (refused_there refused))

-- ---- none of them applies

module _ (links values : List ℕ) (book : Book) (l : ℕ) {lacks : ℕ} {chains : Chains} (e : looked_by (Ok lacks) ≡ on_list_of xor links values (eight book) l) (h : chains ≡ chains_in book l) {new_links new_values : List ℕ} where
  module _ (end : End) (value : ℕ) where
    pub push_listed_refused : (number : Number) (r : Result Chains Refused) → IsErrAnd r (λ x. x ≡ refused_by_number number)
        → on_list (list_change_by chains (Err number)) 0 new_links new_values ≡ push_on xor links values chains.list chains.idle lacks end value
        → outcome (answer_by book l r) new_links new_values ≡ as_answer (push_call xor links values (eight book) l end value)
    push_listed_refused number r g q =
        rw (handed_on r _ g)
        (push_put links values (eight book) l _ e refl refl {r = list_change_by (chains_in book l) (Err number)} (put_back_same book l) end value (rw h at q))

    pub push_listed_done : {after : Chains} → on_list (list_change_by chains (Ok after)) 0 new_links new_values ≡ push_on xor links values chains.list chains.idle lacks end value
        → outcome (answer_by book l (Ok after)) new_links new_values ≡ as_answer (push_call xor links values (eight book) l end value)
    push_listed_done {after} q = push_put links values (eight book) l _ e refl refl {r = list_change_by chains (Ok after)} refl end value (rw h at q)

  module _ (end : End) {value : ℕ} where
    pub pop_listed_refused : (number : Number) (r : Result Chains Refused) → IsErrAnd r (λ x. x ≡ refused_by_number number)
        → on_list (list_change_by chains (Err number)) value new_links new_values ≡ pop_on xor links values chains.list chains.idle end
        → outcome (popped_answer_by book l r value) new_links new_values ≡ as_popped (pop_call xor links values (eight book) l end)
    pop_listed_refused number r g q =
        rw (handed_on r _ g)
        (pop_put links values (eight book) l _ e refl refl {r = list_change_by (chains_in book l) (Err number)} (put_back_same book l) end refl (rw h at q))

    pub pop_listed_done : {after : Chains} → on_list (list_change_by chains (Ok after)) value new_links new_values ≡ pop_on xor links values chains.list chains.idle end
        → outcome (popped_answer_by book l (Ok after) value) new_links new_values ≡ as_popped (pop_call xor links values (eight book) l end)
    pop_listed_done {after} q = pop_put links values (eight book) l _ e refl refl {r = list_change_by chains (Ok after)} refl end refl (rw h at q)

  pub clear_listed_done : {after : Chains} → on_list (list_change_by chains (Ok after)) 0 new_links new_values ≡ clear_on_list links values chains.list chains.idle
      → outcome (answer_by book l (Ok after)) new_links new_values ≡ as_answer (clear_call xor links values (eight book) l)
  clear_listed_done {after} q = clear_put links values (eight book) l _ e refl refl {r = list_change_by chains (Ok after)} refl (rw h at q)
