-- When each number is given, on any engine: for each of the nine calls, the number is the first whose condition in 01 holds, said of the sound shape.
use mathlib.Core.Path.{◌≡◌, refl, sym, ap, subst, ◌∙◌}
use mathlib.Core.Logic.{◌↔◌, ◌≢◌, ◌⊎◌, inl, inr}
use mathlib.Core.Bool.{Bool, true, false, not, ◌&&◌}
use mathlib.Core.List.{List, [], ◌∷◌, ◌++◌}
use Prim.Native.Nat.{ℕ, ◌+◌, ◌-◌, ◌≤◌, ◌<◌}
use native.Mathlib.Decide.{ℕ_discrete}
use native.Mathlib.Omega.{arith}
use lib.Dec.{leb, ltb, eqb}
use lib.ListN.{length, take}
use borrow.Author.Tests.{eqb-true, eq-eqb, ne_eqb, leb-true, leb-false, le-leb, lt-leb, ltb-true, lt-ltb}
use Rattle.books.specs.declared.Entry.{Entry}
use Rattle.books.specs.declared.Refusal.{Refusal}
use Rattle.books.specs.Book.{entry_at, AnyBook}
use Rattle.books.specs.Table.{fault_rules, among}
use Rattle.books.proofs.Tests.{and_both, both_and, not_both}
use Rattle.shapes.specs.declared.End.{End}
use Rattle.shapes.specs.Records.{Fault}
use Rattle.shapes.specs.Faults.{fault, no_fault}
use Rattle.shapes.specs.Shape.{Shape, chain_at, lacks, stored_lacks}
use Rattle.books.specs.declared.Length.{Length}
use Rattle.shapes.specs.Numbers.{Test, first_that, Condition, numbers_of, Given}
use Rattle.shapes.specs.Tests.{ReadLeft}
use Rattle.shapes.proofs.Numbers.{Matches, given, decided_number}
use Rattle.shapes.proofs.Numbers as N
use Rattle.shapes.specs.Numbers as G
use Rattle.engines.specs.Engine.{Engine}
use Rattle.engines.specs.Sound.{Fit, SoundBook}
use Rattle.engines.specs.Laws.{Lawful}
use Rattle.engines.specs.FirstFault.{Breaks}
use Rattle.engines.specs.Check.{sizes_fit, check_found}
use Rattle.engines.specs.Conditions.{setup_conditions, OfShape, FirstBroken, rules_broken, check_conditions, list_conditions, push_conditions, pop_conditions, read_conditions}
use Rattle.engines.specs.Calls.{Called, check_tests, found_of, list_tests, push_tests, pop_tests, read_tests, check_call, length_call, push_call, pop_call, clear_call, read_call}
use Rattle.engines.proofs.Checked.{fits_exactly}
use Rattle.engines.proofs.Found.{stored-length, stored_lacks_lem, stored_free}
use Rattle.engines.proofs.FirstFault.{breaks_rule, first_fault, only_fault, sound_unbroken}
use Rattle.engines.proofs.Ruled.{rule_among, known_fault}

no_slots : (xs : List ℕ) → length xs ≡ 0 → xs ≡ []
no_slots [] e = refl
no_slots (x ∷ xs) e = absurd (omega arith)

-- ---- the number of each call is that of the first test that applies

pub check_number : (E : Engine) (links : E.Links) (values : List ℕ) (b : AnyBook) → (check_call E links values b).number ≡ first_that (check_tests E links values b)
unfolding check_call
check_number E links values b = decided_number _ _ (λ (r : Refusal). r.number) (λ n. refl) refl (check_tests E links values b)

module _ (E : Engine) (links : E.Links) (values : List ℕ) (b : AnyBook) (l : ℕ) where
  pub length_number : (length_call E links values b l).refusal.number ≡ first_that (list_tests E links values b l)
  unfolding length_call
  length_number = decided_number _ _ (λ (r : Length). r.refusal.number) (λ n. refl) refl (list_tests E links values b l)

  pub push_number : (end : End) (value : ℕ) → (push_call E links values b l end value).number ≡ first_that (push_tests E links values b l)
  unfolding push_call
  push_number end value = decided_number _ _ (λ (r : Called E). r.number) (λ n. refl) refl (push_tests E links values b l)

  pub pop_number_lem : (end : End) → (pop_call E links values b l end).number ≡ first_that (pop_tests E links values b l)
  unfolding pop_call
  pop_number_lem end = decided_number _ _ (λ (r : Called E). r.number) (λ n. refl) refl (pop_tests E links values b l)

  pub clear_number : (clear_call E links values b l).number ≡ first_that (list_tests E links values b l)
  unfolding clear_call
  clear_number = decided_number _ _ (λ (r : Called E). r.number) (λ n. refl) refl (list_tests E links values b l)

  pub read_number : (end : End) (buffer : List ℕ) (at : ℕ) → (read_call E links values b l end buffer at).answer.refusal.number ≡ first_that (read_tests E links values b l (length buffer) at)
  unfolding read_call
  read_number end buffer at = decided_number _ _ (λ (r : ReadLeft). r.answer.refusal.number) (λ n. refl) refl (read_tests E links values b l (length buffer) at)

-- what the reads test of a list with so many slots
pub no_room_left : (at room many : ℕ) → not (leb at room && leb many (room - at)) ≡ true ↔ ((room < at) ⊎ (room < at + many))
no_room_left at room many = (to (leb at room) (leb many (room - at)) refl refl, from)
  where
    to : (x y : Bool) → leb at room ≡ x → leb many (room - at) ≡ y → not (leb at room && leb many (room - at)) ≡ true → (room < at) ⊎ (room < at + many)
    to true true ex ey h = absurd (not_both true refl (sym (rw (ex, ey) at h)))
    to true false ex ey h = inr (omega (arith, leb-true at room ex, leb-false many (room - at) ey))
    to false y ex ey h = inl (leb-false _ _ ex)

    short : (x : Bool) → leb at room ≡ x → room < at + many → not (leb at room && leb many (room - at)) ≡ true
    short true ex k = rw (ex, lt-leb many (room - at) (omega (arith, leb-true at room ex)))
    short false ex k = rw ex

    from : (room < at) ⊎ (room < at + many) → not (leb at room && leb many (room - at)) ≡ true
    from (inl k) = rw (lt-leb _ _ k)
    from (inr k) = short (leb at room) refl k

-- ---- the tests are the conditions, and so the number is the first whose condition holds

module _ {E : Engine} (L : Lawful E) (links : E.Links) (values : List ℕ) (b : AnyBook) where
  -- the rule that is first broken is given, whatever comes after
  rule_given : Fit E links values → {f : Fault} → Breaks E links values b f → (cs : List Condition) (ks : List ℕ) → among f.rule ks ≡ true → Given (rules_broken E links values b ks ++ cs) f.rule
  rule_given fit B cs [] h = absurd (not_both true refl (sym h))
  rule_given fit {f} B cs (k ∷ ks) h = go (ℕ_discrete k f.rule) (λ i. rule_given fit B cs ks i)
    where
      other : k ≢ f.rule → FirstBroken E links values b k → ⊥
      other d (l, p, C) = d (ap (λ (g : Fault). g.rule) (only_fault L links values b fit C B))

      go : Dec (k ≡ f.rule) → (among f.rule ks ≡ true → Given (rules_broken E links values b ks ++ cs) f.rule) → Given (rules_broken E links values b (k ∷ ks) ++ cs) f.rule
      go (yes e) more = subst (Given (rules_broken E links values b (k ∷ ks) ++ cs)) e (G.this (f.list, f.place, subst (λ n. Breaks E links values b (fault n f.list f.place)) (sym e) B))
      go (no d) more = G.later (other d) (more (rw (ne_eqb f.rule k (λ e. d (sym e))) at h))

  -- in a sound pool none is broken, and what comes after decides
  pub none_broken : {s : Shape} → SoundBook E links values b s → (ks : List ℕ) {cs : List Condition} {n : ℕ} → Given cs n → Given (rules_broken E links values b ks ++ cs) n
  none_broken S [] g = g
  none_broken S (k ∷ ks) g = G.later whole (none_broken S ks g)
    where
      whole : FirstBroken E links values b k → ⊥
      whole (l, p, B) = sound_unbroken L links values b S.pool.fit S B

  -- 1, and 9 to 16; what comes after them may rest on a sound shape
  check_gives : {us : List Test} {cs : List Condition} → ((s : Shape) → SoundBook E links values b s → Matches us cs)
      → Given (check_conditions E links values b ++ cs) (first_that (check_tests E links values b ++ us))
  check_gives {us} {cs} more = go (sizes_fit E links values) refl
    where
      sized : sizes_fit E links values ≡ true → (fit : Fit E links values)
          → (((check_found E links values b).fault ≡ no_fault) × ((s : Shape) × SoundBook E links values b s)) ⊎ Breaks E links values b (check_found E links values b).fault
          → Given (check_conditions E links values b ++ cs) (first_that (check_tests E links values b ++ us))
      sized e fit (inl (z, (s, S))) = rw (e, z) (G.later (λ (n : Fit E links values → ⊥). n fit) (none_broken S fault_rules (given (more s S))))
      sized e fit (inr B) =
          let d : (check_found E links values b).fault.rule ≢ 0 = breaks_rule B in
          rw (e, ne_eqb (check_found E links values b).fault.rule 0 d) (G.later (λ (n : Fit E links values → ⊥). n fit) (rule_given fit B cs fault_rules (rule_among (known_fault E links values b) d)))

      go : (x : Bool) → sizes_fit E links values ≡ x → Given (check_conditions E links values b ++ cs) (first_that (check_tests E links values b ++ us))
      go true e = let fit = (fits_exactly E links values).0 e in sized e fit (first_fault L links values b fit)
      go false e = let unfit : Fit E links values → ⊥ = λ f. not_both (sizes_fit E links values) ((fits_exactly E links values).1 f) e in rw e (G.this unfit)

  pub check_given : Given (check_conditions E links values b) (check_call E links values b).number
  check_given = subst (Given (check_conditions E links values b)) (sym (check_number E links values b)) (check_gives (λ s S. N.none))

  module _ (l : ℕ) where
    -- 1, 9 to 16 and 4; what comes after them may rest on a sound shape with the list in it
    pub list_gives : {us : List Test} {cs : List Condition} → ((s : Shape) → SoundBook E links values b s → l < b.lists → Matches us cs)
        → Given (list_conditions E links values b l ++ cs) (first_that (list_tests E links values b l ++ us))
    list_gives more = check_gives (λ s S. N.one refl (leb-true _ _, le-leb _ _) (λ e. more s S (leb-false _ _ e)))

    -- a test of what was found is a fact of the sound shape
    of_found : (s : Shape) → SoundBook E links values b s → {test : Bool} {Fact : Shape → Type 0} → ((t : Shape) → SoundBook E links values b t → test ≡ true ↔ Fact t) → test ≡ true ↔ OfShape E links values b Fact
    of_found s S i = (λ e. (s, S, (i s S).0 e), λ (t, T, f). (i t T).1 f)

    push_gives : Given (push_conditions E links values b l) (first_that (push_tests E links values b l))
    push_gives =
        list_gives (λ s S below.
        N.one refl (of_found s S (λ t T. at_limit_lem t T below)) (λ e.
        N.one refl (of_found s S (λ t T. no_room t T below)) (λ f. N.none)))
      where
        e : Entry
        e = entry_at b.entries l

        many : ℕ
        many = (entry_at b.entries l).length

        lacking : ℕ
        lacking = stored_lacks (take b.lists b.entries)

        free : ℕ
        free = b.free.count

        at_limit_lem : (t : Shape) → SoundBook E links values b t → l < b.lists → eqb many e.limit ≡ true ↔ (length (chain_at t l) ≡ e.limit)
        at_limit_lem t T below = (λ h. sym (stored-length T l below) ∙ eqb-true _ _ h, λ h. eq-eqb _ _ (stored-length T l below ∙ h))

        no_room : (t : Shape) → SoundBook E links values b t → l < b.lists
            → (ltb many e.limit && (leb e.share many && leb free lacking)) ≡ true
            ↔ ((length (chain_at t l) < e.limit) × (e.share ≤ length (chain_at t l)) × (length t.idle ≤ lacks (take b.lists b.entries) t.chains))
        no_room t T below = (
          λ h. let (x, yz) = and_both (ltb many e.limit) (leb e.share many && leb free lacking) h in
              let (y, z) = and_both (leb e.share many) (leb free lacking) yz in
              (omega (arith, ltb-true many e.limit x, stored-length T l below), omega (arith, leb-true e.share many y, stored-length T l below), omega (arith, leb-true free lacking z, stored_free T, stored_lacks_lem T)),
          λ (x, y, z). both_and _ _ (lt-ltb many e.limit (omega (arith, stored-length T l below)))
              (both_and _ _ (le-leb e.share many (omega (arith, stored-length T l below))) (le-leb free lacking (omega (arith, stored_free T, stored_lacks_lem T)))),
        )

    pop_gives : Given (pop_conditions E links values b l) (first_that (pop_tests E links values b l))
    pop_gives = list_gives (λ s S below. N.one refl (of_found s S (λ t T. is_empty t T below)) (λ e. N.none))
      where
        is_empty : (t : Shape) → SoundBook E links values b t → l < b.lists → eqb (entry_at b.entries l).length 0 ≡ true ↔ (chain_at t l ≡ [])
        is_empty t T below = (λ h. no_slots (chain_at t l) (sym (stored-length T l below) ∙ eqb-true _ _ h), λ h. eq-eqb _ _ (stored-length T l below ∙ ap length h))

    read_gives : (room at : ℕ) → Given (read_conditions E links values b l room at) (first_that (read_tests E links values b l room at))
    read_gives room at =
        list_gives (λ s S below.
        N.one refl (of_found s S (λ t T. subst (λ (n : ℕ). not (leb at room && leb (entry_at b.entries l).length (room - at)) ≡ true ↔ ((room < at) ⊎ (room < at + n))) (stored-length T l below) (no_room_left at room _))) (λ e. N.none))

    -- ---- the number of each call

    pub length_given : Given (list_conditions E links values b l) (length_call E links values b l).refusal.number
    length_given = subst (Given (list_conditions E links values b l)) (sym (length_number E links values b l)) (list_gives (λ s S below. N.none))

    pub push_given : (end : End) (value : ℕ) → Given (push_conditions E links values b l) (push_call E links values b l end value).number
    push_given end value = subst (Given (push_conditions E links values b l)) (sym (push_number E links values b l end value)) push_gives

    pub pop_given : (end : End) → Given (pop_conditions E links values b l) (pop_call E links values b l end).number
    pop_given end = subst (Given (pop_conditions E links values b l)) (sym (pop_number_lem E links values b l end)) pop_gives

    pub clear_given : Given (list_conditions E links values b l) (clear_call E links values b l).number
    clear_given = subst (Given (list_conditions E links values b l)) (sym (clear_number E links values b l)) (list_gives (λ s S below. N.none))

    pub read_given : (end : End) (buffer : List ℕ) (at : ℕ) → Given (read_conditions E links values b l (length buffer) at) (read_call E links values b l end buffer at).answer.refusal.number
    read_given end buffer at = subst (Given (read_conditions E links values b l (length buffer) at)) (sym (read_number E links values b l end buffer at)) (read_gives (length buffer) at)

-- 01: "Tests run in the order 1 to 8", with 9 to 16 in the place of 3. Which numbers a call can give besides 0, in the order in which their conditions are asked
module _ (E : Engine) (links : E.Links) (values : List ℕ) (b : AnyBook) (l room at places lists : ℕ) (shares limits : List ℕ) where
  pub numbers_in_order : (numbers_of (setup_conditions E links values places lists shares limits) ≡ 1 ∷ 2 ∷ [])
      × (numbers_of (check_conditions E links values b) ≡ 1 ∷ 9 ∷ 10 ∷ 11 ∷ 12 ∷ 13 ∷ 14 ∷ 15 ∷ 16 ∷ [])
      × (numbers_of (list_conditions E links values b l) ≡ 1 ∷ 9 ∷ 10 ∷ 11 ∷ 12 ∷ 13 ∷ 14 ∷ 15 ∷ 16 ∷ 4 ∷ [])
      × (numbers_of (push_conditions E links values b l) ≡ 1 ∷ 9 ∷ 10 ∷ 11 ∷ 12 ∷ 13 ∷ 14 ∷ 15 ∷ 16 ∷ 4 ∷ 6 ∷ 7 ∷ [])
      × (numbers_of (pop_conditions E links values b l) ≡ 1 ∷ 9 ∷ 10 ∷ 11 ∷ 12 ∷ 13 ∷ 14 ∷ 15 ∷ 16 ∷ 4 ∷ 5 ∷ [])
      × (numbers_of (read_conditions E links values b l room at) ≡ 1 ∷ 9 ∷ 10 ∷ 11 ∷ 12 ∷ 13 ∷ 14 ∷ 15 ∷ 16 ∷ 4 ∷ 8 ∷ [])
  numbers_in_order = (refl, refl, refl, refl, refl, refl)
