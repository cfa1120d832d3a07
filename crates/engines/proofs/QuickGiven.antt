-- 02 d) on any pool, over any engine: a quick call's number is that of the first of its conditions that holds; refused it leaves all as it was; and it is what runs on one list, put back into the book.
use mathlib.Core.Path.{◌≡◌, refl, sym, ap, subst, ◌∙◌}
use mathlib.Core.Logic.{◌↔◌, ◌≢◌}
use mathlib.Core.Bool.{Bool, true, false, cond, not, ◌&&◌}
use mathlib.Core.List.{List, [], ◌∷◌, ◌++◌}
use Prim.Native.Nat.{ℕ, suc, ◌+◌, ◌-◌, ◌≤◌, ◌<◌}
use native.Mathlib.Decide.{ℕ_discrete, dec_lt}
use native.Mathlib.Omega.{arith}
use lib.Dec.{leb, ltb, eqb}
use lib.ListN.{length, take, get_or-eq_default}
use lib.Seq.{set-get_or}
use borrow.Author.Tests.{eqb-true, eqb-false, eq-eqb, leb-true, leb-false, le-leb, ltb-true, lt-ltb}
use Rattle.books.specs.declared.Entry.{Entry}
use Rattle.books.specs.Book.{zero_entry, entry_at, AnyBook}
use Rattle.books.specs.Place.{no_place}
use Rattle.books.proofs.Tests.{and_both, not_both}
use Rattle.shapes.specs.declared.End.{End}
use Rattle.shapes.specs.Shape.{stored_lacks}
use Rattle.shapes.specs.Counts.{word_up, word_down}
use Rattle.shapes.proofs.Counts.{word_up_lem, word_down_lem}
use Rattle.shapes.specs.Numbers.{Test, first_that, Condition, Given, decided}
use Rattle.shapes.specs.Tests.{push_own_tests, pop_own_tests}
use Rattle.shapes.proofs.Numbers.{Matches, Numbered, nil, cons, refuted, given, first_then, first_first, decided_ind, decided_number, decided_refused, decided_done}
use Rattle.shapes.proofs.Numbers as N
use Rattle.shapes.specs.Quick.{lists_inside, lengths_fit, counts_fit, push_counts_fit, pop_counts_fit}
use Rattle.shapes.proofs.Quick.{one_fails, lists_inside_lem, counts_fit_lem, lengths_below, push_counts, pop_counts}
use Rattle.engines.specs.Engine.{Engine}
use Rattle.engines.specs.Sound.{Fit}
use Rattle.engines.specs.Check.{sizes_fit}
use Rattle.engines.specs.Counted.{with_counts, if_made, counted_push, counted_pop}
use Rattle.engines.specs.Calls.{Called, stepped, after_push, after_pop}
use Rattle.engines.specs.OnList.{OnList, not_on_list, stepped_on_list, put_back}
use Rattle.engines.specs.Done.{Refused}
use Rattle.engines.specs.Quick.{push_goes, pop_goes, quick_push_own, quick_pop_own, quick_push_on, quick_pop_on, quick_list_tests, quick_push_tests, quick_pop_tests, not_quick, quick_push, quick_pop}
use Rattle.engines.specs.QuickConditions.{quick_conditions, quick_push_conditions, quick_pop_conditions}
use Rattle.engines.proofs.Checked.{fits_exactly}
use Rattle.engines.proofs.Stored.{all_three}
use Rattle.engines.proofs.Outcomes.{filled}

-- a test that does not fail holds
pub holds : (b : Bool) → not b ≡ false → b ≡ true
holds true h = refl
holds false h = sym h

-- a number that is not 0
pub some_number : (n : ℕ) → suc n ≢ 0
some_number n e = omega arith

module _ (E : Engine) (links : E.Links) (values : List ℕ) (b : AnyBook) (l : ℕ) where
  abbrev e : Entry
  e = entry_at b.entries l

  abbrev lacking : ℕ
  lacking = stored_lacks (take b.lists b.entries)

  -- ---- the number is that of the first test that applies

  pub quick_push_number : (end : End) (value : ℕ) → (quick_push E links values b l end value).number ≡ first_that (quick_push_tests E links values b l end value)
  unfolding quick_push
  quick_push_number end value = decided_number _ _ (λ (r : Called E). r.number) (λ n. refl) refl (quick_push_tests E links values b l end value)

  pub quick_pop_number : (end : End) → (quick_pop E links values b l end).number ≡ first_that (quick_pop_tests E links values b l end)
  unfolding quick_pop
  quick_pop_number end = decided_number _ _ (λ (r : Called E). r.number) (λ n. refl) refl (quick_pop_tests E links values b l end)

  -- ---- and of the first condition that holds

  -- 1, 17, 4 and 17; what comes after them may rest on the slices being of one length, and of a right one
  list_matches : {us : List Test} {cs : List Condition} → (Fit E links values → Matches us cs) → Matches (quick_list_tests E links values b l ++ us) (quick_conditions E links values b l ++ cs)
  list_matches more =
      N.one refl (refuted (sizes_fit E links values) (fits_exactly E links values)) (λ h.
      let fit = (fits_exactly E links values).0 (holds (sizes_fit E links values) h) in
      let some : 0 < E.size links = omega (arith, fit.size.least) in
      N.one refl (lists_inside_lem b) (λ i.
      N.one refl (leb-true _ _, le-leb _ _) (λ j.
      N.one refl (counts_fit_lem (E.size links) b some) (λ k. more fit))))

  -- `Slots` is what the engine refuses of the slots that it would touch
  pub quick_push_given : (end : End) (value : ℕ) (Slots : Type 0) → (Fit E links values → (E.push end links values e b.free value).done ≡ false ↔ Slots)
      → Given (quick_push_conditions E links values b l Slots) (quick_push E links values b l end value).number
  quick_push_given end value Slots i =
      subst (Given (quick_push_conditions E links values b l Slots)) (sym (quick_push_number end value))
      (given (list_matches (λ fit.
      N.one refl (eqb-true _ _, eq-eqb _ _) (λ n.
      N.one refl (all_three (ltb e.length e.limit) (leb e.share e.length) (leb b.free.count lacking) (ltb-true _ _, lt-ltb _ _) (leb-true _ _, le-leb _ _) (leb-true _ _, le-leb _ _)) (λ m.
      N.one refl (one_fails (push_counts_fit (E.size links) e.length b.free.count) (E.push end links values e b.free value).done (push_counts (E.size links) e.length b.free.count (omega (arith, fit.size.least))) (i fit)) (λ k. N.none))))))

  pub quick_pop_given : (end : End) (Slots : Type 0) → (Fit E links values → (E.pop end links values e b.free).done ≡ false ↔ Slots)
      → Given (quick_pop_conditions E links values b l Slots) (quick_pop E links values b l end).number
  quick_pop_given end Slots i =
      subst (Given (quick_pop_conditions E links values b l Slots)) (sym (quick_pop_number end))
      (given (list_matches (λ fit.
      N.one refl (eqb-true _ _, eq-eqb _ _) (λ n.
      N.one refl (one_fails (pop_counts_fit (E.size links) b.free.count) (E.pop end links values e b.free).done (pop_counts (E.size links) b.free.count (omega (arith, fit.size.least))) (i fit)) (λ k. N.none)))))

  -- ---- what it leaves

  pub quick_push_refused : (end : End) (value : ℕ) → (quick_push E links values b l end value).number ≢ 0 → Refused E links values b (quick_push E links values b l end value)
  unfolding quick_push
  quick_push_refused end value =
      decided_ind _ _ (λ (r : Called E). r.number ≢ 0 → Refused E links values b r) (quick_push_tests E links values b l end value)
      (λ k d. record { no_value = refl; same_book = refl; same_links = refl; same_values = refl })
      (λ k d. absurd (d refl))

  pub quick_pop_refused : (end : End) → (quick_pop E links values b l end).number ≢ 0 → Refused E links values b (quick_pop E links values b l end)
  unfolding quick_pop
  quick_pop_refused end =
      decided_ind _ _ (λ (r : Called E). r.number ≢ 0 → Refused E links values b r) (quick_pop_tests E links values b l end)
      (λ k d. record { no_value = refl; same_book = refl; same_links = refl; same_values = refl })
      (λ k d. absurd (d refl))

  -- no place goes with any number
  pub quick_unplaced : (end : End) (value : ℕ) → ((quick_push E links values b l end value).place ≡ no_place) × ((quick_pop E links values b l end).place ≡ no_place)
  unfolding quick_push quick_pop
  quick_unplaced end value = (
    decided_ind _ _ (λ (r : Called E). r.place ≡ no_place) (quick_push_tests E links values b l end value) (λ k. refl) (λ k. refl),
    decided_ind _ _ (λ (r : Called E). r.place ≡ no_place) (quick_pop_tests E links values b l end) (λ k. refl) (λ k. refl),
  )

  -- ---- what holds where none of the four tests applies

  pub record QuickPassed : Type 0 where
    pub fit : Fit E links values
    pub inside : (0 < b.lists) × (b.lists ≤ b.places)
    pub listed : l < b.lists
    pub free_fits : b.free.count < E.size links
    pub fits : (k : ℕ) → k < b.lists → (entry_at b.entries k).length < E.size links

  quick_numbered : Numbered (quick_list_tests E links values b l)
  quick_numbered = cons (λ h. some_number 0) (cons (λ h. some_number 16) (cons (λ h. some_number 3) (cons (λ h. some_number 16) nil)))

  pub quick_passed : first_that (quick_list_tests E links values b l) ≡ 0 → QuickPassed
  quick_passed z = go (sizes_fit E links values) (lists_inside b) (leb b.lists l) (counts_fit (E.size links) b) refl refl refl refl
    where
      go : (w x y u : Bool) → sizes_fit E links values ≡ w → lists_inside b ≡ x → leb b.lists l ≡ y → counts_fit (E.size links) b ≡ u → QuickPassed
      go true true false true ew ex ey eu =
          let fit = (fits_exactly E links values).0 ew in
          let (p, q) = and_both (ltb 0 b.lists) (leb b.lists b.places) ex in
          let (r, s) = and_both (ltb b.free.count (E.size links)) (lengths_fit (E.size links) (take b.lists b.entries)) eu in
          record {
            fit = fit;
            inside = (ltb-true _ _ p, leb-true _ _ q);
            listed = leb-false _ _ ey;
            free_fits = ltb-true _ _ r;
            fits = lengths_below (E.size links) b.lists b.entries (omega (arith, fit.size.least)) s;
          }
      go true true false false ew ex ey eu = let k : ◌≡◌ {A = ℕ} 17 0 = rw (ew, ex, ey, eu) at z in absurd (omega arith)
      go true true true u ew ex ey eu = let k : ◌≡◌ {A = ℕ} 4 0 = rw (ew, ex, ey) at z in absurd (omega arith)
      go true false y u ew ex ey eu = let k : ◌≡◌ {A = ℕ} 17 0 = rw (ew, ex) at z in absurd (omega arith)
      go false x y u ew ex ey eu = let k : ◌≡◌ {A = ℕ} 1 0 = rw ew at z in absurd (omega arith)

  -- ---- what holds where none of the call's own tests applies either

  -- of a push
  pub record PushGoing (end : End) (value : ℕ) : Type 0 where
    pub not_full : e.length ≢ e.limit
    pub longer : e.length + 1 < E.size links
    pub some : 0 < b.free.count
    pub made : (E.push end links values e b.free value).done ≡ true

  pub push_going : (end : End) (value : ℕ) → first_that (quick_push_own E end links values e b.free lacking value) ≡ 0 → PushGoing end value
  push_going end value y = go (eqb e.length e.limit) (ltb e.length e.limit && (leb e.share e.length && leb b.free.count lacking)) (push_goes E end links values e b.free value) refl refl refl
    where
      go : (u v w : Bool) → eqb (entry_at b.entries l).length (entry_at b.entries l).limit ≡ u
          → (ltb (entry_at b.entries l).length (entry_at b.entries l).limit && (leb (entry_at b.entries l).share (entry_at b.entries l).length && leb b.free.count (stored_lacks (take b.lists b.entries)))) ≡ v
          → push_goes E end links values (entry_at b.entries l) b.free value ≡ w → PushGoing end value
      go true v w eu ev ew = let k : ◌≡◌ {A = ℕ} 6 0 = rw eu at y in absurd (omega arith)
      go false true w eu ev ew = let k : ◌≡◌ {A = ℕ} 7 0 = rw (eu, ev) at y in absurd (omega arith)
      go false false true eu ev ew =
          let (p, q) = and_both (push_counts_fit (E.size links) (entry_at b.entries l).length b.free.count) (E.push end links values (entry_at b.entries l) b.free value).done ew in
          let (r, s) = and_both (ltb ((entry_at b.entries l).length + 1) (E.size links)) (ltb 0 b.free.count) p in
          record { not_full = eqb-false _ _ eu; longer = ltb-true _ _ r; some = ltb-true _ _ s; made = q }
      go false false false eu ev ew = let k : ◌≡◌ {A = ℕ} 17 0 = rw (eu, ev, ew) at y in absurd (omega arith)

  -- of a pop
  pub record PopGoing (end : End) : Type 0 where
    pub filled : 0 < e.length
    pub more : b.free.count + 1 < E.size links
    pub made : (E.pop end links values e b.free).done ≡ true

  pub pop_going : (end : End) → first_that (quick_pop_own E end links values e b.free) ≡ 0 → PopGoing end
  pop_going end y = go (eqb e.length 0) (pop_goes E end links values e b.free) refl refl
    where
      go : (u w : Bool) → eqb (entry_at b.entries l).length 0 ≡ u → pop_goes E end links values (entry_at b.entries l) b.free ≡ w → PopGoing end
      go true w eu ew = let k : ◌≡◌ {A = ℕ} 5 0 = rw eu at y in absurd (omega arith)
      go false true eu ew =
          let (p, q) = and_both (pop_counts_fit (E.size links) b.free.count) (E.pop end links values (entry_at b.entries l) b.free).done ew in
          record { filled = filled (entry_at b.entries l).length (rw eu); more = ltb-true _ _ p; made = q }
      go false false eu ew = let k : ◌≡◌ {A = ℕ} 17 0 = rw (eu, ew) at y in absurd (omega arith)

  -- ---- the call is what runs on one list, put back into the book

  -- one of the four tests decides
  pub quick_early : (us : List Test) (done : Called E) → first_that (quick_list_tests E links values b l) ≢ 0
      → decided (quick_list_tests E links values b l ++ us) done (not_quick E links values b l) ≡ not_quick E links values b l (first_that (quick_list_tests E links values b l))
  quick_early us done d =
      let e = first_first (quick_list_tests E links values b l) us d in
      decided_refused done _ (quick_list_tests E links values b l ++ us) (λ k. d (sym e ∙ k)) ∙ ap (not_quick E links values b l) e

  module _ (z : first_that (quick_list_tests E links values b l) ≡ 0) where
    back : (number : ℕ) → not_quick E links values b l number ≡ put_back b l (not_on_list E links values e b.free number)
    back number = ap (λ (es : List Entry). record { number = number; place = no_place; value = 0; book = record { places = b.places; lists = b.lists; entries = es; free = b.free }; links = links; values = values }) (sym (set-get_or b.entries l zero_entry))

    -- the call's own tests decide, in the call as on the list; what is done there may be told from their not applying
    by_own : (own : List Test) (done done' : OnList E) → (first_that own ≡ 0 → done ≡ done')
        → decided (quick_list_tests E links values b l ++ own) (put_back b l done) (not_quick E links values b l) ≡ put_back b l (decided own done' (not_on_list E links values e b.free))
    by_own own done done' h = go (ℕ_discrete (first_that own) 0)
      where
        same : first_that (quick_list_tests E links values b l ++ own) ≡ first_that own
        same = first_then own quick_numbered z

        go : Dec (first_that own ≡ 0) → decided (quick_list_tests E links values b l ++ own) (put_back b l done) (not_quick E links values b l) ≡ put_back b l (decided own done' (not_on_list E links values (entry_at b.entries l) b.free))
        go (yes y) = decided_done (put_back b l done) _ _ (same ∙ y) ∙ ap (put_back b l) (h y ∙ sym (decided_done done' _ own y))
        go (no d) =
            decided_refused (put_back b l done) _ (quick_list_tests E links values b l ++ own) (λ k. d (sym same ∙ k))
            ∙ ap (not_quick E links values b l) same
            ∙ back (first_that own)
            ∙ ap (put_back b l) (sym (decided_refused done' _ own d))

    -- no count leaves its word
    pub quick_push_on_list : (end : End) (value : ℕ) → quick_push E links values b l end value ≡ put_back b l (quick_push_on E end links values e b.free lacking value)
    unfolding quick_push quick_push_on counted_push
    quick_push_on_list end value =
        let r = E.push end links values e b.free value in
        let P = quick_passed z in
        by_own (quick_push_own E end links values e b.free lacking value) (stepped_on_list E links values e b.free 0 (if_made (e.length + 1) (b.free.count - 1) r)) _
        (λ y. let G = push_going end value y in
        λ i. stepped_on_list E links values e b.free 0 (if_made (sym (word_up_lem e.length (omega (arith, G.longer, P.fit.size.most))) i) (sym (word_down_lem b.free.count G.some (omega (arith, P.free_fits, P.fit.size.most))) i) r))

    pub quick_pop_on_list : (end : End) → quick_pop E links values b l end ≡ put_back b l (quick_pop_on E end links values e b.free)
    unfolding quick_pop quick_pop_on counted_pop
    quick_pop_on_list end =
        let r = E.pop end links values e b.free in
        let P = quick_passed z in
        let counted = if_made (e.length - 1) (b.free.count + 1) r in
        by_own (quick_pop_own E end links values e b.free) (stepped_on_list E links values e b.free counted.value counted) _
        (λ y. let G = pop_going end y in
        λ i. let o = if_made (sym (word_down_lem e.length G.filled (omega (arith, P.fits l P.listed, P.fit.size.most))) i) (sym (word_up_lem b.free.count (omega (arith, P.fit.size.most))) i) r in
        stepped_on_list E links values e b.free o.value o)

  -- ---- what a done call leaves: the engine's step, and the stored counts one up and one down

  -- the list is there in the book: past the book's entries each has length and limit 0
  past_entries : length b.entries ≤ l → (e.length ≡ 0) × (e.limit ≡ 0)
  past_entries h = let z : entry_at b.entries l ≡ zero_entry = get_or-eq_default b.entries zero_entry h in (ap (λ (x : Entry). x.length) z, ap (λ (x : Entry). x.limit) z)

  there : ((length b.entries ≤ l) → ⊥) → l < length b.entries
  there d = go (dec_lt l (length b.entries))
    where
      go : Dec (l < length b.entries) → l < length b.entries
      go (yes h) = h
      go (no h) = absurd (d (omega arith))

  -- where no test applies none of the first does
  none_first : (us : List Test) → first_that (quick_list_tests E links values b l ++ us) ≡ 0 → first_that (quick_list_tests E links values b l) ≡ 0
  none_first us k = go (ℕ_discrete (first_that (quick_list_tests E links values b l)) 0)
    where
      go : Dec (first_that (quick_list_tests E links values b l) ≡ 0) → first_that (quick_list_tests E links values b l) ≡ 0
      go (yes z) = z
      go (no d) = absurd (d (sym (first_first (quick_list_tests E links values b l) us d) ∙ k))

  pub quick_push_left : (end : End) (value : ℕ) → (quick_push E links values b l end value).number ≡ 0
      → QuickPassed × PushGoing end value × (l < length b.entries)
      × (quick_push E links values b l end value ≡ stepped E links values b l 0 (with_counts (e.length + 1) (b.free.count - 1) (E.push end links values e b.free value)))
  unfolding quick_push counted_push
  quick_push_left end value n =
      let k = sym (quick_push_number end value) ∙ n in
      let z = none_first (quick_push_own E end links values e b.free lacking value) k in
      let G = push_going end value (sym (first_then (quick_push_own E end links values e b.free lacking value) quick_numbered z) ∙ k) in
      (quick_passed z, G, there (λ h. let (p, q) = past_entries h in G.not_full (p ∙ sym q)), decided_done _ _ (quick_push_tests E links values b l end value) k ∙ ap (λ (m : Bool). stepped E links values b l 0 (cond m (with_counts (e.length + 1) (b.free.count - 1) (E.push end links values e b.free value)) (E.push end links values e b.free value))) G.made)

  pub quick_pop_left : (end : End) → (quick_pop E links values b l end).number ≡ 0
      → QuickPassed × PopGoing end × (l < length b.entries)
      × (quick_pop E links values b l end ≡ (let r = with_counts (e.length - 1) (b.free.count + 1) (E.pop end links values e b.free) in stepped E links values b l r.value r))
  unfolding quick_pop counted_pop
  quick_pop_left end n =
      let k = sym (quick_pop_number end) ∙ n in
      let z = none_first (quick_pop_own E end links values e b.free) k in
      let G = pop_going end (sym (first_then (quick_pop_own E end links values e b.free) quick_numbered z) ∙ k) in
      (quick_passed z, G, there (λ h. let (p, q) = past_entries h in omega (arith, G.filled)), decided_done _ _ (quick_pop_tests E links values b l end) k ∙ ap (λ (m : Bool). let r = cond m (with_counts (e.length - 1) (b.free.count + 1) (E.pop end links values e b.free)) (E.pop end links values e b.free) in stepped E links values b l r.value r) G.made)
