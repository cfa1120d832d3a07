-- Each of the nine calls names the first rule that is broken, with its place, on any engine and any pool.
use mathlib.Core.Path.{◌≡◌, refl, sym, ap, subst, ◌∙◌}
use mathlib.Core.Logic.{◌↔◌, ◌≢◌, ◌⊎◌, inl, inr}
use mathlib.Core.Bool.{Bool, true, false, cond, not}
use mathlib.Core.List.{List, [], ◌∷◌, ◌++◌}
use Prim.Native.Nat.{ℕ, ◌≤◌, ◌<◌}
use native.Mathlib.Omega.{arith}
use native.Mathlib.Decide.{ℕ_discrete, dec_lt}
use lib.Dec.{leb, eqb}
use lib.ListN.{length, take}
use borrow.Author.Tests.{eqb-true, eqb-false, eq-eqb, ne_eqb}
use Rattle.books.specs.declared.Length.{Length}
use Rattle.books.specs.Place.{Place, no_place, place_in}
use Rattle.books.specs.declared.Refusal.{Refusal}
use Rattle.books.specs.Book.{entry_at, AnyBook}
use Rattle.books.proofs.Tests.{cond_ind, not_both}
use Rattle.shapes.specs.declared.End.{End}
use Rattle.shapes.specs.declared.End.TheVariants.{Front, Back}
use Rattle.shapes.specs.Records.{Fault}
use Rattle.shapes.specs.Records.{Found}
use Rattle.shapes.specs.Faults.{fault, no_fault, place_of, place_for}
use Rattle.shapes.specs.Moves.{Move, check, ask_length, push_back, push_front, pop_back, pop_front, read_forward, read_backward, clear}
use Rattle.shapes.specs.Numbers.{Test, test, first_that, decided}
use Rattle.shapes.specs.Shape.{Shape, stored_lacks}
use Rattle.shapes.specs.Tests.{ReadLeft, push_own_tests, pop_own_tests, read_own_tests}
use Rattle.shapes.proofs.Numbers.{decided_refused, decided_done}
use Rattle.engines.specs.Engine.{Engine}
use Rattle.engines.specs.Sound.{Fit, SoundBook}
use Rattle.engines.specs.Laws.{Lawful}
use Rattle.engines.specs.FirstFault.{Breaks}
use Rattle.engines.specs.Check.{sizes_fit, check_found}
use Rattle.engines.specs.Calls.{Called, check_tests, found_of, check_call, length_call, push_call, pop_call, clear_call, read_call}
use Rattle.engines.specs.Moves.{State, number_of, place_given}
use Rattle.engines.specs.Named.{NamesFault}
use Rattle.engines.proofs.Checked.{fits_exactly, found_exactly}
use Rattle.engines.proofs.FirstFault.{breaks_found, fault_exactly, only_fault}
use Rattle.engines.proofs.When.{check_number, length_number, push_number, pop_number_lem, clear_number, read_number}
use Rattle.engines.proofs.Ruled.{known_fault, rule_range, not_rule, list_unset_lem, position_unset_lem, no_place_lem}

-- ---- numbers of a call's own

-- each is one of 2 to 8
abbrev OwnTests : List Test → Type 0
OwnTests [] = Unit
OwnTests (t ∷ ts) = (0 < t.number) × (t.number < 9) × OwnTests ts

own_below : (ts : List Test) → OwnTests ts → first_that ts < 9
own_below [] p = omega arith
own_below (t ∷ ts) p = cond_ind (λ n. n < 9) t.applies (λ e. p.1) (λ e. own_below ts p.2)

-- ---- what every call does: 1, the rule that is first broken, or a number of its own

module _ {E : Engine} (L : Lawful E) (links : E.Links) (values : List ℕ) (b : AnyBook) (us : List Test) (own : OwnTests us) where
  abbrev first : Fault
  first = (check_found E links values b).fault

  abbrev number : ℕ
  number = first_that (check_tests E links values b ++ us)

  -- the three ways that a call can go
  data Way : Type 0 where
    unfit : (Fit E links values → ⊥) → number ≡ 1 → Way
    broken : Fit E links values → number ≡ first.rule → first.rule ≢ 0 → Way
    whole : Fit E links values → first.rule ≡ 0 → number < 9 → Way

  way : Way
  way = go (sizes_fit E links values) (eqb first.rule 0) refl refl
    where
      go : (x y : Bool) → sizes_fit E links values ≡ x → eqb (check_found E links values b).fault.rule 0 ≡ y → Way
      go true true ex ey = whole ((fits_exactly E links values).0 ex) (eqb-true _ _ ey) (rw (ex, ey) (own_below us own))
      go true false ex ey = broken ((fits_exactly E links values).0 ex) (rw (ex, ey)) (eqb-false (check_found E links values b).fault.rule 0 ey)
      go false y ex ey = unfit (λ f. not_both (sizes_fit E links values) ((fits_exactly E links values).1 f) ex) (rw ex)

  -- `n` and `place` are what the call answers
  module _ (n : ℕ) (place : Place) (given : n ≡ number) (refused : n ≢ 0 → place ≡ place_for first n) (done : n ≡ 0 → place ≡ no_place) where
    abbrev at : ℕ → ℕ → Place
    at list position = record { list = list; position = position }

    -- where the rule is named, the place is the fault's
    named : n ≡ first.rule → first.rule ≢ 0 → place ≡ place_of first
    named e d = refused (λ z. d (sym e ∙ z)) ∙ rw (eq-eqb (check_found E links values b).fault.rule n (sym e))

    -- with a number that is not its rule, none is
    elsewhere : n ≢ first.rule → place ≡ no_place
    elsewhere d = go (ℕ_discrete n 0)
      where
        go : Dec (n ≡ 0) → place ≡ no_place
        go (yes z) = done z
        go (no k) = refused k ∙ no_place_lem (check_found E links values b).fault n (λ e. d (sym e))

    small : (n < 9) → place ≡ no_place
    small h = go way
      where
        go : Way → place ≡ no_place
        go (unfit x e) = elsewhere (λ k. not_rule (known_fault E links values b) 1 (λ z. omega arith) (omega arith) (sym k ∙ given ∙ e))
        go (broken x e d) = absurd (omega (arith, given, rule_range (known_fault E links values b) d))
        go (whole x z l) = go_zero (ℕ_discrete n 0)
          where
            go_zero : Dec (n ≡ 0) → place ≡ no_place
            go_zero (yes k) = done k
            go_zero (no k) = elsewhere (λ e. k (e ∙ z))

    names : NamesFault E (record { links = links; values = values; book = b }) n place
    names =
        record {
          exactly = λ k list position lo hi. (λ (e, q). found_at k list position lo e q way, λ (fit, B). given_at k list position lo fit B);
          unsound = (λ (lo, hi). broken_at_lem lo way, λ (fit, empty). unsound_at fit empty way);
          unplaced = out_of;
          list_unset = λ d e i. list_of d e i way;
          position_unset = λ h. position_of h way;
        }
      where
        found_at : (k list position : ℕ) → 9 ≤ k → n ≡ k → place ≡ at list position → Way → Fit E links values × Breaks E links values b (fault k list position)
        found_at k list position lo e q (unfit x y) = absurd (omega (arith, given))
        found_at k list position lo e q (broken fit y d) =
            let r : (check_found E links values b).fault.rule ≡ k = sym y ∙ sym given ∙ e in
            let p : place_of (check_found E links values b).fault ≡ at list position = sym (named (given ∙ y) d) ∙ q in
            let whole-fault : (check_found E links values b).fault ≡ fault k list position = λ i. fault (r i) (p i).list (p i).position in
            (fit, (fault_exactly L links values b fit (fault k list position) (λ z. omega arith)).0 whole-fault)
        found_at k list position lo e q (whole x y z) = absurd (omega (arith, given))

        given_at : (k list position : ℕ) → 9 ≤ k → Fit E links values → Breaks E links values b (fault k list position) → (n ≡ k) × (place ≡ at list position)
        given_at k list position lo fit B = go way
          where
            f : (check_found E links values b).fault ≡ fault k list position
            f = breaks_found L links values b fit B

            r : (check_found E links values b).fault.rule ≡ k
            r = ap (λ (x : Fault). x.rule) f

            go : Way → (n ≡ k) × (place ≡ at list position)
            go (unfit x y) = absurd (x fit)
            go (broken x y d) = (given ∙ y ∙ r, named (given ∙ y) d ∙ ap place_of f)
            go (whole x y z) = absurd (omega (arith, r))

        broken_at_lem : 9 ≤ n → Way → Fit E links values × (((s : Shape) × SoundBook E links values b s) → ⊥)
        broken_at_lem lo (unfit x y) = absurd (omega (arith, given))
        broken_at_lem lo (broken fit y d) = (fit, λ S. d ((found_exactly L links values b fit).1 S))
        broken_at_lem lo (whole x y z) = absurd (omega (arith, given))

        unsound_at : Fit E links values → (((s : Shape) × SoundBook E links values b s) → ⊥) → Way → (9 ≤ n) × (n ≤ 16)
        unsound_at fit empty (unfit x y) = absurd (x fit)
        unsound_at fit empty (broken x y d) = let r = rule_range (known_fault E links values b) d in (omega (arith, given), omega (arith, given))
        unsound_at fit empty (whole x y z) = absurd (empty ((found_exactly L links values b fit).0 y))

        out_of : (n < 9) ⊎ (16 < n) → place ≡ no_place
        out_of (inl h) = small h
        out_of (inr h) = far way
          where
            far : Way → place ≡ no_place
            far (unfit x y) = absurd (omega (arith, given))
            far (broken x y d) = absurd (omega (arith, given, rule_range (known_fault E links values b) d))
            far (whole x y z) = absurd (omega (arith, given))

        list_of : n ≢ 11 → n ≢ 15 → n ≢ 16 → Way → place.list ≡ 0
        list_of d e i (unfit x y) = ap (λ (p : Place). p.list) (small (omega (arith, given)))
        list_of d e i (broken x y k) =
            ap (λ (p : Place). p.list) (named (given ∙ y) k) ∙ list_unset_lem (known_fault E links values b) (λ r. d (given ∙ y ∙ r)) (λ r. e (given ∙ y ∙ r)) (λ r. i (given ∙ y ∙ r))
        list_of d e i (whole x y z) = ap (λ (p : Place). p.list) (small (omega (arith, given)))

        position_of : (n < 11) ⊎ (14 < n) → Way → place.position ≡ 0
        position_of h (unfit x y) = ap (λ (p : Place). p.position) (small (omega (arith, given)))
        position_of h (broken x y k) = ap (λ (p : Place). p.position) (named (given ∙ y) k) ∙ position_unset_lem (known_fault E links values b) (of_rule h)
          where
            of_rule : (n < 11) ⊎ (14 < n) → ((check_found E links values b).fault.rule < 11) ⊎ (14 < (check_found E links values b).fault.rule)
            of_rule (inl i) = inl (omega (arith, given, y))
            of_rule (inr i) = inr (omega (arith, given, y))
        position_of h (whole x y z) = ap (λ (p : Place). p.position) (small (omega (arith, given)))

-- ---- the place of what was decided

decided_place : {A : Type 0} (done : A) (refused : ℕ → A) (place : A → Place) (f : Fault) → ((k : ℕ) → place (refused k) ≡ place_for f k) → place done ≡ no_place → (ts : List Test)
    → (first_that ts ≢ 0 → place (decided ts done refused) ≡ place_for f (first_that ts)) × (first_that ts ≡ 0 → place (decided ts done refused) ≡ no_place)
decided_place done refused place f r z ts = (λ d. ap place (decided_refused done refused ts d) ∙ r (first_that ts), λ e. ap place (decided_done done refused ts e) ∙ z)

-- ---- the nine calls

module _ {E : Engine} (L : Lawful E) (st : State E) where
  -- then 4, and what the call itself tests
  abbrev four_then : ℕ → List Test → List Test
  four_then l us = test 4 (leb st.book.lists l) ∷ us

  abbrev found : Found
  found = found_of E st.links st.values st.book

  told : (us : List Test) → OwnTests us → {n : ℕ} {place : Place} → n ≡ first_that (check_tests E st.links st.values st.book ++ us)
      → (first_that (check_tests E st.links st.values st.book ++ us) ≢ 0 → place ≡ place_for found.fault (first_that (check_tests E st.links st.values st.book ++ us)))
      × (first_that (check_tests E st.links st.values st.book ++ us) ≡ 0 → place ≡ no_place)
      → NamesFault E st n place
  told us own {n} {place} e (r, z) = subst (λ (k : ℕ). NamesFault E st k place) (sym e) (names L st.links st.values st.book us own _ place refl r z)

  pub push_names : (l : ℕ) (end : End) (value : ℕ) → NamesFault E st (push_call E st.links st.values st.book l end value).number (push_call E st.links st.values st.book l end value).place
  unfolding push_call
  push_names l end value =
      told (four_then l (push_own_tests (entry_at st.book.entries l) (entry_at st.book.entries l).length (stored_lacks (take st.book.lists st.book.entries)) st.book.free.count)) (omega arith)
      (push_number E st.links st.values st.book l end value)
      (decided_place _ _ (λ (r : Called E). r.place) found.fault (λ k. refl) refl _)

  pub pop_names : (l : ℕ) (end : End) → NamesFault E st (pop_call E st.links st.values st.book l end).number (pop_call E st.links st.values st.book l end).place
  unfolding pop_call
  pop_names l end =
      told (four_then l (pop_own_tests (entry_at st.book.entries l).length)) (omega arith) (pop_number_lem E st.links st.values st.book l end)
      (decided_place _ _ (λ (r : Called E). r.place) found.fault (λ k. refl) refl _)

  pub read_names : (l : ℕ) (end : End) (buffer : List ℕ) (at : ℕ)
      → NamesFault E st (read_call E st.links st.values st.book l end buffer at).answer.refusal.number (place_in (read_call E st.links st.values st.book l end buffer at).answer.refusal)
  unfolding read_call
  read_names l end buffer at =
      told (four_then l (read_own_tests (entry_at st.book.entries l).length (length buffer) at)) (omega arith) (read_number E st.links st.values st.book l end buffer at)
      (decided_place _ _ (λ (r : ReadLeft). place_in r.answer.refusal) found.fault (λ k. refl) refl _)

  -- 02 b) and c): every call but setup names the first rule broken, with its place
  pub names_fault : (m : Move) → NamesFault E st (number_of E st m) (place_given E st m)
  unfolding check_call length_call clear_call
  names_fault check = told [] tt (check_number E st.links st.values st.book) (decided_place _ _ place_in found.fault (λ k. refl) refl _)
  names_fault (ask_length l) =
      told (four_then l []) (omega arith) (length_number E st.links st.values st.book l) (decided_place _ _ (λ (r : Length). place_in r.refusal) found.fault (λ k. refl) refl _)
  names_fault (push_back l value) = push_names l Back value
  names_fault (push_front l value) = push_names l Front value
  names_fault (pop_back l) = pop_names l Back
  names_fault (pop_front l) = pop_names l Front
  names_fault (read_forward l buffer at) = read_names l Front buffer at
  names_fault (read_backward l buffer at) = read_names l Back buffer at
  names_fault (clear l) =
      told (four_then l []) (omega arith) (clear_number E st.links st.values st.book l) (decided_place _ _ (λ (r : Called E). r.place) found.fault (λ k. refl) refl _)

-- on a pool that is not sound, two numbers with their places that are both so are the same
pub names_one : {E : Engine} (L : Lawful E) {st : State E} {n n' : ℕ} {place place' : Place} → Fit E st.links st.values → (((s : Shape) × SoundBook E st.links st.values st.book s) → ⊥)
    → NamesFault E st n place → NamesFault E st n' place' → (n ≡ n') × (place ≡ place')
names_one L {st} {n} {n'} {place} {place'} fit empty P Q =
    let (lo, hi) = P.unsound.1 (fit, empty) in
    let (lo', hi') = Q.unsound.1 (fit, empty) in
    let B = ((P.exactly n place.list place.position lo hi).0 (refl, refl)).1 in
    let C = ((Q.exactly n' place'.list place'.position lo' hi').0 (refl, refl)).1 in
    let e = only_fault L st.links st.values st.book fit B C in
    (ap (λ (f : Fault). f.rule) e, ap place_of e)

-- on a sound pool no place is named
pub names_none : {E : Engine} {st : State E} {n : ℕ} {place : Place} {s : Shape} → SoundBook E st.links st.values st.book s → NamesFault E st n place → place ≡ no_place
names_none {E} {st} {n} {place} {s} S P = go (dec_lt n 9) (dec_lt 16 n)
  where
    go : Dec (n < 9) → Dec (16 < n) → place ≡ no_place
    go (yes h) k = P.unplaced (inl h)
    go (no h) (yes k) = P.unplaced (inr k)
    go (no h) (no k) = absurd ((P.unsound.0 (omega arith, omega arith)).1 (s, S))
