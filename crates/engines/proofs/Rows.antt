-- Every answer of every call agrees with its row of the table, on any engine.
use mathlib.Core.Path.{◌≡◌, refl, ap, ◌∙◌}
use mathlib.Core.Bool.{Bool, true, not, ◌&&◌}
use mathlib.Core.List.{List, [], ◌∷◌, ◌++◌}
use Prim.Native.Nat.{ℕ}
use lib.Dec.{leb, eqb}
use lib.ListN.{length, take}
use Rattle.books.specs.Book.{entry_at}
use Rattle.books.specs.Table.{may_give}
use Rattle.books.proofs.Tests.{and_both, cond_ind}
use Rattle.shapes.specs.declared.End.TheVariants.{Front, Back}
use Rattle.shapes.specs.Records.{Fault}
use Rattle.shapes.specs.Shape.{stored_lacks}
use Rattle.shapes.specs.Numbers.{Test, test, first_that}
use Rattle.shapes.specs.Tests.{push_own_tests, pop_own_tests, read_own_tests}
use Rattle.shapes.specs.Moves.{Move, check, ask_length, push_back, push_front, pop_back, pop_front, read_forward, read_backward, clear, QuickMove, quick_push_back, quick_push_front, quick_pop_back, quick_pop_front}
use Rattle.engines.specs.Engine.{Engine}
use Rattle.engines.specs.Check.{sizes_fit, check_found}
use Rattle.engines.specs.Calls.{setup_tests, check_tests, found_of}
use Rattle.engines.specs.Moves.{State, number_of, quick_called}
use Rattle.engines.specs.Quick.{quick_push_tests, quick_pop_tests}
use Rattle.engines.specs.Rows.{row_of, quick_row_of, EveryRow}
use Rattle.engines.proofs.Fresh.{setup_number}
use Rattle.engines.proofs.Ruled.{KnownFault, known_0, known_9, known_10, known_11, known_12, known_13, known_14, known_15, known_16, known_fault}
use Rattle.engines.proofs.When.{check_number, length_number, push_number, pop_number_lem, clear_number, read_number}
use Rattle.engines.proofs.QuickGiven.{quick_push_number, quick_pop_number}

-- the row has the number of each test, and 0
abbrev all_give_lem : ℕ → List Test → Bool
all_give_lem call [] = may_give call 0
all_give_lem call (t ∷ ts) = may_give call t.number && all_give_lem call ts

-- then it has the number of the first that applies
in_row : (call : ℕ) (ts : List Test) → all_give_lem call ts ≡ true → may_give call (first_that ts) ≡ true
in_row call [] h = h
in_row call (t ∷ ts) h =
    let (p, q) = and_both (may_give call t.number) (all_give_lem call ts) h in
    cond_ind (λ n. may_give call n ≡ true) t.applies (λ e. p) (λ e. in_row call ts q)

numbered : (call : ℕ) (ts : List Test) {number : ℕ} → number ≡ first_that ts → all_give_lem call ts ≡ true → may_give call number ≡ true
numbered call ts e h = ap (may_give call) e ∙ in_row call ts h

-- the rows of the nine calls have 0 and 9 to 16
rule_in : {f : Fault} → KnownFault f
    → (may_give 1 f.rule ≡ true) × (may_give 2 f.rule ≡ true) × (may_give 3 f.rule ≡ true) × (may_give 4 f.rule ≡ true) × (may_give 5 f.rule ≡ true) × (may_give 6 f.rule ≡ true) × (may_give 7 f.rule ≡ true) × (may_give 8 f.rule ≡ true) × (may_give 9 f.rule ≡ true)
unfolding may_give
rule_in known_0 = (refl, refl, refl, refl, refl, refl, refl, refl, refl)
rule_in known_9 = (refl, refl, refl, refl, refl, refl, refl, refl, refl)
rule_in known_10 = (refl, refl, refl, refl, refl, refl, refl, refl, refl)
rule_in (known_11 l p) = (refl, refl, refl, refl, refl, refl, refl, refl, refl)
rule_in (known_12 p) = (refl, refl, refl, refl, refl, refl, refl, refl, refl)
rule_in (known_13 p) = (refl, refl, refl, refl, refl, refl, refl, refl, refl)
rule_in (known_14 p) = (refl, refl, refl, refl, refl, refl, refl, refl, refl)
rule_in (known_15 l) = (refl, refl, refl, refl, refl, refl, refl, refl, refl)
rule_in (known_16 l) = (refl, refl, refl, refl, refl, refl, refl, refl, refl)

-- the tests of the check, and then others
checked : (call : ℕ) (E : Engine) (st : State E) (us : List Test) {number : ℕ} → number ≡ first_that (check_tests E st.links st.values st.book ++ us)
    → may_give call 1 ≡ true → may_give call (check_found E st.links st.values st.book).fault.rule ≡ true → all_give_lem call us ≡ true → may_give call number ≡ true
checked call E st us e one broken own =
    ap (may_give call) e
    ∙ cond_ind (λ n. may_give call n ≡ true) (not (sizes_fit E st.links st.values)) (λ h. one)
    (λ h. cond_ind (λ n. may_give call n ≡ true) (not (eqb (check_found E st.links st.values st.book).fault.rule 0)) (λ i. broken) (λ i. in_row call us own))

module _ (E : Engine) (st : State E) (l : ℕ) where
  -- then 4, and what the call itself tests
  abbrev four_then : List Test → List Test
  four_then us = test 4 (leb st.book.lists l) ∷ us

  abbrev many : ℕ
  many = (entry_at st.book.entries l).length

  abbrev own_push_lem : List Test
  own_push_lem = four_then (push_own_tests (entry_at st.book.entries l) many (stored_lacks (take st.book.lists st.book.entries)) st.book.free.count)

  abbrev own_pop_lem : List Test
  own_pop_lem = four_then (pop_own_tests (many))

  abbrev own_read : List ℕ → ℕ → List Test
  own_read buffer at = four_then (read_own_tests (many) (length buffer) at)

-- each of the nine calls
nine_rows : (E : Engine) (st : State E) (m : Move) → may_give (row_of m) (number_of E st m) ≡ true
unfolding may_give
nine_rows E st check = checked 1 E st [] (check_number E st.links st.values st.book) refl (rule_in (known_fault E st.links st.values st.book)).0 refl
nine_rows E st (ask_length l) = checked 2 E st (four_then E st l []) (length_number E st.links st.values st.book l) refl (rule_in (known_fault E st.links st.values st.book)).1 refl
nine_rows E st (push_back l value) = checked 3 E st (own_push_lem E st l) (push_number E st.links st.values st.book l Back value) refl (rule_in (known_fault E st.links st.values st.book)).2 refl
nine_rows E st (push_front l value) = checked 4 E st (own_push_lem E st l) (push_number E st.links st.values st.book l Front value) refl (rule_in (known_fault E st.links st.values st.book)).3 refl
nine_rows E st (pop_back l) = checked 5 E st (own_pop_lem E st l) (pop_number_lem E st.links st.values st.book l Back) refl (rule_in (known_fault E st.links st.values st.book)).4 refl
nine_rows E st (pop_front l) = checked 6 E st (own_pop_lem E st l) (pop_number_lem E st.links st.values st.book l Front) refl (rule_in (known_fault E st.links st.values st.book)).5 refl
nine_rows E st (read_forward l buffer at) = checked 7 E st (own_read E st l buffer at) (read_number E st.links st.values st.book l Front buffer at) refl (rule_in (known_fault E st.links st.values st.book)).6 refl
nine_rows E st (read_backward l buffer at) = checked 8 E st (own_read E st l buffer at) (read_number E st.links st.values st.book l Back buffer at) refl (rule_in (known_fault E st.links st.values st.book)).7 refl
nine_rows E st (clear l) = checked 9 E st (four_then E st l []) (clear_number E st.links st.values st.book l) refl (rule_in (known_fault E st.links st.values st.book)).8 refl

-- each of the four quick ones
four_rows : (E : Engine) (st : State E) (q : QuickMove) → may_give (quick_row_of q) (quick_called E st q).number ≡ true
unfolding may_give
four_rows E st (quick_push_back l value) = numbered 10 (quick_push_tests E st.links st.values st.book l Back value) (quick_push_number E st.links st.values st.book l Back value) refl
four_rows E st (quick_push_front l value) = numbered 11 (quick_push_tests E st.links st.values st.book l Front value) (quick_push_number E st.links st.values st.book l Front value) refl
four_rows E st (quick_pop_back l) = numbered 12 (quick_pop_tests E st.links st.values st.book l Back) (quick_pop_number E st.links st.values st.book l Back) refl
four_rows E st (quick_pop_front l) = numbered 13 (quick_pop_tests E st.links st.values st.book l Front) (quick_pop_number E st.links st.values st.book l Front) refl

pub every_row : (E : Engine) → EveryRow E
unfolding may_give
every_row E =
    record {
      setup = λ places links values lists shares limits. numbered 0 (setup_tests E places links values lists shares limits) (setup_number E places links values lists shares limits) refl;
      nine = nine_rows E;
      four = four_rows E;
    }
