-- 02 d) on a sound pool, over any engine: each quick call "gives the answer, book and memory of the checked call", refusals too.
use mathlib.Core.Path.{◌≡◌, refl, sym, ap, ◌∙◌}
use mathlib.Core.Logic.{◌≢◌}
use mathlib.Core.Bool.{Bool, true, false, cond, not, ◌&&◌}
use mathlib.Core.List.{List, [], ◌∷◌, ◌++◌}
use Prim.Native.Nat.{ℕ, ◌+◌, ◌≤◌, ◌<◌}
use native.Mathlib.Nat.{not-suc-le-zero}
use native.Mathlib.Decide.{ℕ_discrete}
use native.Mathlib.Omega.{arith}
use lib.Dec.{leb, ltb, eqb}
use lib.ListN.{length, take}
use borrow.Author.Tests.{leb-false, le-leb, lt-ltb}
use Rattle.books.specs.declared.Entry.{Entry}
use Rattle.books.specs.Book.{entry_at, AnyBook}
use Rattle.books.specs.Place.{no_place}
use Rattle.books.proofs.Tests.{both_and}
use Rattle.shapes.specs.declared.End.{End}
use Rattle.shapes.specs.Ends.{joined}
use Rattle.shapes.specs.Records.{Fault}
use Rattle.shapes.specs.Shape.{Shape, chain_at, stored_lacks}
use Rattle.shapes.specs.Moves.{Move, check, QuickMove, quick_push_back, quick_push_front, quick_pop_back, quick_pop_front, checked_of, Call, checked, quick, move_of}
use Rattle.shapes.specs.Numbers.{Test, test, first_that, decided}
use Rattle.shapes.specs.Tests.{push_own_tests, pop_own_tests}
use Rattle.shapes.proofs.Numbers.{first_first, first_then, Numbered, nil, cons, decided_done, decided_refused}
use Rattle.shapes.specs.Quick.{lists_inside, counts_fit}
use Rattle.shapes.proofs.Quick.{all_below}
use Rattle.shapes.specs.declared.End.TheVariants.{Front, Back}
use Rattle.engines.specs.Engine.{Engine}
use Rattle.engines.specs.Sound.{Fit, SoundBook, Held}
use Rattle.engines.specs.Laws.{Lawful}
use Rattle.engines.specs.Check.{sizes_fit, check_found}
use Rattle.engines.specs.Calls.{Called, not_called, found_of, list_tests, push_tests, pop_tests, after_push, after_pop, push_call, pop_call}
use Rattle.engines.specs.Quick.{push_goes, pop_goes, quick_push_own, quick_pop_own, quick_list_tests, quick_push_tests, quick_pop_tests, not_quick, quick_push, quick_pop}
use Rattle.engines.specs.Moves.{State, left, number_of, after, quick_called, number_of_call, after_call}
use Rattle.engines.proofs.Checked.{fits_exactly}
use Rattle.engines.proofs.Ruled.{no_place_lem}
use Rattle.engines.proofs.QuickGiven.{some_number, quick_push_number, quick_pop_number}
use Rattle.engines.proofs.When.{push_given, pop_given}
use Rattle.engines.proofs.Exactly.{not_broken}
use Rattle.engines.proofs.Named.{names_fault}
use Rattle.engines.proofs.Found.{found_fine, stored-length, stored_free, shorter, some_slots}
use Rattle.engines.proofs.Steps.{book_held, end_of, room_slot}
use Rattle.engines.proofs.Outcomes.{filled, has_room}

-- what two lists of tests decide alike
decided_alike : {A : Type 0} (done : A) (refused refused' : ℕ → A) (ts us : List Test) → first_that ts ≡ first_that us → ((n : ℕ) → n ≢ 0 → refused n ≡ refused' n) → decided ts done refused ≡ decided us done refused'
decided_alike done refused refused' ts us e same = go (ℕ_discrete (first_that us) 0)
  where
    go : Dec (first_that us ≡ 0) → decided ts done refused ≡ decided us done refused'
    go (yes z) = decided_done done refused ts (e ∙ z) ∙ sym (decided_done done refused' us z)
    go (no d) = decided_refused done refused ts (λ k. d (sym e ∙ k)) ∙ ap refused e ∙ same (first_that us) d ∙ sym (decided_refused done refused' us d)

-- a last test that does not apply where none before it does changes no number
last_needless : (ts : List Test) (number : ℕ) (applies : Bool) → Numbered ts → (first_that ts ≡ 0 → applies ≡ false) → first_that (ts ++ test number applies ∷ []) ≡ first_that ts
last_needless ts number applies n h = go (ℕ_discrete (first_that ts) 0)
  where
    go : Dec (first_that ts ≡ 0) → first_that (ts ++ test number applies ∷ []) ≡ first_that ts
    go (yes z) = first_then (test number applies ∷ []) n z ∙ rw (h z) (sym z)
    go (no d) = first_first ts (test number applies ∷ []) d

module _ {E : Engine} (L : Lawful E) {links : E.Links} {values : List ℕ} {b : AnyBook} {s : Shape} (S : SoundBook E links values b s) (l : ℕ) where
  abbrev e : Entry
  e = entry_at b.entries l

  abbrev lacking : ℕ
  lacking = stored_lacks (take b.lists b.entries)

  sized : sizes_fit E links values ≡ true
  sized = (fits_exactly E links values).1 S.pool.fit

  inside : lists_inside b ≡ true
  inside = both_and _ _ (lt-ltb 0 b.lists (omega (arith, S.rules.least))) (le-leb b.lists b.places S.rules.most)

  counted : counts_fit (E.size links) b ≡ true
  counted =
      both_and _ _ (lt-ltb b.free.count (E.size links) (omega (arith, stored_free S, some_slots S 0)))
      (all_below (E.size links) b.lists b.entries (omega (arith, S.pool.fit.size.least)) (λ k below. omega (arith, stored-length S k below, some_slots S k)))

  -- the tests before the call's own give the same
  past_early : (us vs : List Test) → (l < b.lists → first_that us ≡ first_that vs) → first_that (quick_list_tests E links values b l ++ us) ≡ first_that (list_tests E links values b l ++ vs)
  past_early us vs h = rw (sized, inside, counted, found_fine L S) (go (leb b.lists l) refl)
    where
      go : (x : Bool) → leb b.lists l ≡ x → cond (leb b.lists l) 4 (first_that us) ≡ cond (leb b.lists l) 4 (first_that vs)
      go true ex = rw ex
      go false ex = rw ex (h (leb-false _ _ ex))

  -- no place goes with a number that is not 0
  no_place_named : (n : ℕ) → n ≢ 0 → not_quick E links values b l n ≡ not_called E links values b (found_of E links values b).fault n
  no_place_named n d = rw (no_place_lem (check_found E links values b).fault n (λ z. d (sym z ∙ ap (λ (f : Fault). f.rule) (found_fine L S))))

  module _ (end : End) (below : l < b.lists) where
    -- where neither 6 nor 7 is given the engine makes its step, and no count leaves 0 to N-1
    push_goes_lem : (value : ℕ) → first_that (push_own_tests e e.length lacking b.free.count) ≡ 0 → push_goes E end links values e b.free value ≡ true
    push_goes_lem value y = go s.idle refl (room_slot S l below (has_room L links values b l s S below y))
      where
        go : (fs : List ℕ) → s.idle ≡ fs → 0 < length fs → push_goes E end links values (entry_at b.entries l) b.free value ≡ true
        go [] i h = absurd (not-suc-le-zero h)
        go (f ∷ fs) i h =
            let fits : (entry_at b.entries l).length + 1 < E.size links = omega (arith, stored-length S l below, some_slots S l, ap length i) in
            let some : 0 < b.free.count = omega (arith, stored_free S, ap length i) in
            both_and _ _ (both_and _ _ (lt-ltb _ _ fits) (lt-ltb _ _ some)) (L.push end links values (entry_at b.entries l) b.free f value (chain_at s l) fs (rw i at (book_held S l below))).done

    pop_goes_lem : first_that (pop_own_tests e.length) ≡ 0 → pop_goes E end links values e b.free ≡ true
    pop_goes_lem y =
        let h : 0 < length (chain_at s l) = omega (arith, stored-length S l below, filled (entry_at b.entries l).length y) in
        let (x, xs, at) = end_of end (chain_at s l) h in
        let fits : b.free.count + 1 < E.size links = omega (arith, stored_free S, some_slots S l) in
        both_and _ _ (lt-ltb _ _ fits) (L.pop end links values (entry_at b.entries l) b.free x xs s.idle (rw at at (book_held S l below))).done

  pub quick_push_checked : (end : End) (value : ℕ) → quick_push E links values b l end value ≡ push_call E links values b l end value
  unfolding quick_push push_call
  quick_push_checked end value =
      decided_alike (after_push E links values b l end value) _ _ (quick_push_tests E links values b l end value) (push_tests E links values b l)
      (past_early (quick_push_own E end links values e b.free lacking value) (push_own_tests e e.length lacking b.free.count)
      (λ below. last_needless (push_own_tests e e.length lacking b.free.count) 17 (not (push_goes E end links values e b.free value)) (cons (λ h. some_number 5) (cons (λ h. some_number 6) nil)) (λ y. rw (push_goes_lem end below value y))))
      no_place_named

  pub quick_pop_checked : (end : End) → quick_pop E links values b l end ≡ pop_call E links values b l end
  unfolding quick_pop pop_call
  quick_pop_checked end =
      decided_alike (after_pop E links values b l end) _ _ (quick_pop_tests E links values b l end) (pop_tests E links values b l)
      (past_early (quick_pop_own E end links values e b.free) (pop_own_tests e.length)
      (λ below. last_needless (pop_own_tests e.length) 17 (not (pop_goes E end links values e b.free)) (cons (λ h. some_number 4) nil) (λ y. rw (pop_goes_lem end below y))))
      no_place_named

-- ---- as moves

module _ {E : Engine} (L : Lawful E) {st : State E} {s : Shape} (S : SoundBook E st.links st.values st.book s) where
  -- the checked call of the same name
  pub quick_as_checked : (q : QuickMove) → ((quick_called E st q).number ≡ number_of E st (checked_of q)) × (left (quick_called E st q) ≡ after E st (checked_of q))
  quick_as_checked (quick_push_back l value) = let e = quick_push_checked L S l Back value in (ap (λ (r : Called E). r.number) e, ap left e)
  quick_as_checked (quick_push_front l value) = let e = quick_push_checked L S l Front value in (ap (λ (r : Called E). r.number) e, ap left e)
  quick_as_checked (quick_pop_back l) = let e = quick_pop_checked L S l Back in (ap (λ (r : Called E). r.number) e, ap left e)
  quick_as_checked (quick_pop_front l) = let e = quick_pop_checked L S l Front in (ap (λ (r : Called E). r.number) e, ap left e)

  -- any call gives the number of what it asks for, and leaves what that leaves
  pub call_as_move : (c : Call) → (number_of_call E st c ≡ number_of E st (move_of c)) × (after_call E st c ≡ after E st (move_of c))
  call_as_move (checked m) = (refl, refl)
  call_as_move (quick q) = quick_as_checked q

-- ---- 17 is given where the pool is not sound, and there alone

module _ {E : Engine} (L : Lawful E) (st : State E) where
  -- a call that tests the slices first, and gives another number than 1
  fits_past : (l : ℕ) (us : List Test) → first_that (quick_list_tests E st.links st.values st.book l ++ us) ≡ 17 → Fit E st.links st.values
  fits_past l us n = go (sizes_fit E st.links st.values) refl
    where
      go : (x : Bool) → sizes_fit E st.links st.values ≡ x → Fit E st.links st.values
      go true e = (fits_exactly E st.links st.values).0 e
      go false e = let k : ◌≡◌ {A = ℕ} 1 17 = rw e at n in absurd (omega arith)

  abbrev own_push : End → ℕ → ℕ → List Test
  own_push end l value = quick_push_own E end st.links st.values (entry_at st.book.entries l) st.book.free (stored_lacks (take st.book.lists st.book.entries)) value

  abbrev own_pop : End → ℕ → List Test
  own_pop end l = quick_pop_own E end st.links st.values (entry_at st.book.entries l) st.book.free

  quick_fit : (q : QuickMove) → (quick_called E st q).number ≡ 17 → Fit E st.links st.values
  quick_fit (quick_push_back l value) n = fits_past l (own_push Back l value) (sym (quick_push_number E st.links st.values st.book l Back value) ∙ n)
  quick_fit (quick_push_front l value) n = fits_past l (own_push Front l value) (sym (quick_push_number E st.links st.values st.book l Front value) ∙ n)
  quick_fit (quick_pop_back l) n = fits_past l (own_pop Back l) (sym (quick_pop_number E st.links st.values st.book l Back) ∙ n)
  quick_fit (quick_pop_front l) n = fits_past l (own_pop Front l) (sym (quick_pop_number E st.links st.values st.book l Front) ∙ n)

  -- the checked call of a sound pool gives no number above 8
  small : {s : Shape} → SoundBook E st.links st.values st.book s → (q : QuickMove) → number_of E st (checked_of q) < 9
  small S (quick_push_back l value) = (not_broken L S (omega arith) (push_given L st.links st.values st.book l Back value)).1
  small S (quick_push_front l value) = (not_broken L S (omega arith) (push_given L st.links st.values st.book l Front value)).1
  small S (quick_pop_back l) = (not_broken L S (omega arith) (pop_given L st.links st.values st.book l Back)).1
  small S (quick_pop_front l) = (not_broken L S (omega arith) (pop_given L st.links st.values st.book l Front)).1

  -- so that the check then says which rule is broken
  pub seventeen_broken : (q : QuickMove) → (quick_called E st q).number ≡ 17 → (9 ≤ number_of E st check) × (number_of E st check ≤ 16)
  seventeen_broken q n = (names_fault L st check).unsound.1 (quick_fit q n, λ (s, S). omega (arith, small S q, (quick_as_checked L S q).0))
