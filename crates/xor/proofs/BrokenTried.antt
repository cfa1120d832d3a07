-- The pools of `Edges` that break a rule break it on the reader's page too, at their list and position; and so does 01's P9, as 02 b) has it.
use mathlib.Core.Path.{◌≡◌, refl, sym, ap, subst, ◌∙◌}
use mathlib.Core.Logic.{◌≢◌}
use mathlib.Core.Bool.{Bool, true, not, ◌&&◌}
use mathlib.Core.List.{List, [], ◌∷◌}
use Prim.Native.Nat.{ℕ}
use native.Mathlib.Omega.{arith}
use lib.Dec.{eqb}
use lib.ListN.{replicate}
use borrow.Author.Tests.{eqb-true, eqb-false, not-true}
use Rattle.books.specs.declared.Book.{Book}
use Rattle.books.specs.declared.Refusal.{Refusal}
use Rattle.books.specs.Book.{zero_entry, most_lists, book_of, eight, AnyBook}
use Rattle.books.specs.Test.{is_fair, is_zero, gather, all_zero, keeps_rules}
use Rattle.books.proofs.Tests.{and_both}
use Rattle.shapes.specs.Records.{Fault}
use Rattle.shapes.specs.Met.{is_met_of, mark_of, unmet}
use Rattle.shapes.specs.Walk.{walk_on, walkable}
use Rattle.shapes.specs.Faults.{fault, nothing_met, count_fault, spare_fault, idle_fault}
use Rattle.engines.specs.Edges.{same_refusal}
use Rattle.engines.specs.FirstFault.{Breaks}
use Rattle.engines.specs.Check.{idle_path, gather_all, null_slot_zero, pool_found, check_found}
use Rattle.engines.proofs.Tells.{look_tells}
use Rattle.xor.specs.Engine.{xor}
use Rattle.xor.specs.Broken.{XorBroken}
use Rattle.xor.specs.Edges.{Edge, look_answer, edges_pass, broken_pools}
use Rattle.xor.proofs.Lawful.{xor_lawful}
use Rattle.xor.proofs.BrokenPage.{broken_page_told, broken_page_found}
use Rattle.xor.proofs.Edges.{first_fault_tried}

-- the fault that an answer names
abbrev fault_in : Refusal → Fault
fault_in r = fault r.number r.list r.position

same_answer_lem : (r q : Refusal) → same_refusal r q ≡ true → r ≡ q
same_answer_lem r q h =
    let (n, lp) = and_both (eqb r.number q.number) (eqb r.list q.list && eqb r.position q.position) h in
    let (l, p) = and_both (eqb r.list q.list) (eqb r.position q.position) lp in
    go (eqb-true r.number q.number n) (eqb-true r.list q.list l) (eqb-true r.position q.position p)
  where
    go : r.number ≡ q.number → r.list ≡ q.list → r.position ≡ q.position → r ≡ q
    go a b c = λ i. record { number = a i; list = b i; position = c i }

-- a pool with a book of eight places, of which a rule is named
abbrev told_test : Edge → Bool
told_test e = eqb e.book.places most_lists && (not (eqb e.answer.number 0) && not (eqb e.answer.number 1))

told : (e : Edge) → told_test e ≡ true → same_refusal (look_answer e) e.answer ≡ true → XorBroken e.links e.values (book_of e.book) (fault_in e.answer)
told e h a =
    let (d, st) = and_both (eqb e.book.places most_lists) _ h in
    let (s, t) = and_both (not (eqb e.answer.number 0)) _ st in
    let some : e.answer.number ≢ 0 = eqb-false _ _ (not-true _ s) in
    let fits : e.answer.number ≢ 1 = eqb-false _ _ (not-true _ t) in
    let broken = (((look_tells xor_lawful e.links e.values e.book).named (fault_in e.answer) some fits).0 (same_answer_lem (look_answer e) e.answer a)).1 in
    (broken_page_told e.links e.values (book_of e.book) (fault_in e.answer)).0 (subst (λ (b : AnyBook). Breaks xor e.links e.values b (fault_in e.answer)) (book (eqb-true _ _ d)) broken)
  where
    book : e.book.places ≡ most_lists → e.book ≡ eight (book_of e.book)
    book p = λ i. record { places = p i; lists = e.book.lists; entries = e.book.entries; free = e.book.free }

abbrev all_told : List Edge → Bool
all_told [] = true
all_told (e ∷ es) = told_test e && all_told es

abbrev pub OnThePage : List Edge → Type 0
OnThePage [] = Unit
OnThePage (e ∷ es) = XorBroken e.links e.values (book_of e.book) (fault_in e.answer) × OnThePage es

on_the_page : (es : List Edge) → all_told es ≡ true → edges_pass es ≡ true → OnThePage es
on_the_page [] h k = tt
on_the_page (e ∷ es) h k =
    let (t, ts) = and_both (told_test e) (all_told es) h in
    let (f, fs) = and_both (same_refusal (look_answer e) e.answer) (edges_pass es) k in
    (told e t f, on_the_page es ts fs)

pub broken_pools_told : OnThePage broken_pools
broken_pools_told = on_the_page broken_pools refl first_fault_tried

-- 01's P9: "N = 4, one list, share 0, limit 3, head and tail 1, free head 0, links 0,2,0,0, values 0", with any counts
abbrev ninth : ℕ → ℕ → Book
ninth length count = record { lists = 1; entries = record { head = 1; tail = 1; share = 0; limit = 3; length = length } ∷ replicate 7 zero_entry; free = record { head = 0; count = count } }

-- list 0 is broken at position 2
pub ninth_told : (length count : ℕ) → XorBroken (0 ∷ 2 ∷ 0 ∷ 0 ∷ []) (0 ∷ 0 ∷ 0 ∷ 0 ∷ []) (ninth length count) (fault 11 0 2)
unfolding is_fair is_zero gather all_zero keeps_rules nothing_met gather_all count_fault spare_fault idle_fault null_slot_zero pool_found check_found is_met_of mark_of unmet walk_on walkable idle_path
ninth_told length count = (broken_page_found (0 ∷ 2 ∷ 0 ∷ 0 ∷ []) (0 ∷ 0 ∷ 0 ∷ 0 ∷ []) (ninth length count) refl (record { least = omega arith; most = omega arith }) (fault 11 0 2) (λ e. omega arith)).0 refl
