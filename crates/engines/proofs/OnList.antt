-- A call at an end of a list is the check, the test of the list, and then the push or pop on that list, put back into the book.
use mathlib.Core.Path.{◌≡◌, sym, ap, ◌∙◌}
use mathlib.Core.Logic.{◌≢◌}
use mathlib.Core.List.{List, ◌++◌}
use Prim.Native.Nat.{ℕ, ◌+◌, ◌-◌}
use native.Mathlib.Decide.{ℕ_discrete}
use native.Mathlib.Omega.{arith}
use lib.ListN.{take}
use lib.Seq.{set-get_or}
use Rattle.books.specs.declared.Entry.{Entry}
use Rattle.books.specs.Book.{zero_entry, entry_at, AnyBook}
use Rattle.books.specs.Place.{no_place}
use Rattle.shapes.specs.declared.End.{End}
use Rattle.shapes.specs.Tests.{push_own_tests, pop_own_tests}
use Rattle.shapes.specs.Shape.{stored_lacks}
use Rattle.shapes.specs.Counts.{word_up, word_down}
use Rattle.shapes.proofs.Counts.{word_up_lem, word_down_lem}
use Rattle.shapes.specs.Numbers.{Test, first_that, decided}
use Rattle.shapes.proofs.Numbers.{decided_refused, decided_done}
use Rattle.engines.specs.Engine.{Engine}
use Rattle.engines.specs.Laws.{Lawful}
use Rattle.engines.specs.Counted.{if_made, counted_push, counted_pop}
use Rattle.engines.specs.Calls.{found_of, not_called, on_list_of, list_tests, push_call, pop_call}
use Rattle.engines.specs.OnList.{OnList, not_on_list, stepped_on_list, push_on, pop_on, put_back}
use Rattle.engines.proofs.Looking.{on_list_sound, own_place, by_call, goes}
use Rattle.engines.proofs.Found.{found_stored, stored-length, stored_free, shorter, some_slots}
use Rattle.engines.proofs.Steps.{room_slot}
use Rattle.engines.proofs.Outcomes.{filled, has_room}

module _ (E : Engine) (links : E.Links) (values : List ℕ) (b : AnyBook) (l : ℕ) (z : (on_list_of E links values b l).refusal.number ≡ 0) where
  -- an entry that is put back as it was changes no entry
  back : (number : ℕ) → number ≢ 0 → not_called E links values b (found_of E links values b).fault number ≡ put_back b l (not_on_list E links values (entry_at b.entries l) b.free number)
  back number d =
      rw (own_place E links values b l number d z)
      (ap (λ (es : List Entry). record { number = number; place = no_place; value = 0; book = record { places = b.places; lists = b.lists; entries = es; free = b.free }; links = links; values = values }) (sym (set-get_or b.entries l zero_entry)))

  -- the call's own tests decide, in the call as on the list
  module _ (own : List Test) (done : OnList E) where
    by_own : decided (list_tests E links values b l ++ own) (put_back b l done) (not_called E links values b (found_of E links values b).fault)
        ≡ put_back b l (decided own done (not_on_list E links values (entry_at b.entries l) b.free))
    by_own = go (ℕ_discrete (first_that own) 0)
      where
        go : Dec (first_that own ≡ 0) → decided (list_tests E links values b l ++ own) (put_back b l done) (not_called E links values b (found_of E links values b).fault)
            ≡ put_back b l (decided own done (not_on_list E links values (entry_at b.entries l) b.free))
        go (yes e) = goes E links values b l own (put_back b l done) (not_called E links values b (found_of E links values b).fault) z e ∙ ap (put_back b l) (sym (decided_done done _ own e))
        go (no d) =
            by_call E links values b l own (put_back b l done) (not_called E links values b (found_of E links values b).fault) z d
            ∙ back (first_that own) d
            ∙ ap (put_back b l) (sym (decided_refused done (not_on_list E links values (entry_at b.entries l) b.free) own d))

  -- what is done where no test applies may be told from that
  decided_told : (own : List Test) {done done' : OnList E} → (first_that own ≡ 0 → done ≡ done') → decided own done (not_on_list E links values (entry_at b.entries l) b.free) ≡ decided own done' (not_on_list E links values (entry_at b.entries l) b.free)
  decided_told own {done} {done'} h = go (ℕ_discrete (first_that own) 0)
    where
      go : Dec (first_that own ≡ 0) → decided own done (not_on_list E links values (entry_at b.entries l) b.free) ≡ decided own done' (not_on_list E links values (entry_at b.entries l) b.free)
      go (yes e) = decided_done done _ own e ∙ h e ∙ sym (decided_done done' _ own e)
      go (no d) = decided_refused done _ own d ∙ sym (decided_refused done' _ own d)

  -- the counts of a sound pool are the same in their words. 7 asks for what the lists lack: by their stored lengths in the call, as the check found it on the list
  pub push_on_list : Lawful E → (end : End) (value : ℕ) → push_call E links values b l end value ≡ put_back b l (push_on E links values (entry_at b.entries l) b.free (found_of E links values b).lacks end value)
  unfolding push_call push_on counted_push
  push_on_list L end value =
      let (s, S, below) = on_list_sound E links values b l L z in
      let e = entry_at b.entries l in
      let r = E.push end links values e b.free value in
      let own = push_own_tests e e.length (stored_lacks (take b.lists b.entries)) b.free.count in
      let many = stored-length S l below in
      let free = stored_free S in
      by_own own (stepped_on_list E links values e b.free 0 (if_made (e.length + 1) (b.free.count - 1) r))
      ∙ ap (put_back b l) (decided_told own (λ (n : first_that own ≡ 0). λ i. stepped_on_list E links values e b.free 0 (if_made (sym (word_up_lem e.length (omega (arith, many, shorter S l below))) i)
      (sym (word_down_lem b.free.count (omega (arith, free, room_slot S l below (has_room L links values b l s S below n))) (omega (arith, free, some_slots S l, S.pool.fit.size.most))) i) r)))
      ∙ ap (λ (n : ℕ). put_back b l (decided (push_own_tests e e.length n b.free.count) (stepped_on_list E links values e b.free 0 (if_made (word_up e.length) (word_down b.free.count) r)) (not_on_list E links values e b.free))) (sym (found_stored L S))

  pub pop_on_list : Lawful E → (end : End) → pop_call E links values b l end ≡ put_back b l (pop_on E links values (entry_at b.entries l) b.free end)
  unfolding pop_call pop_on counted_pop
  pop_on_list L end =
      let (s, S, below) = on_list_sound E links values b l L z in
      let e = entry_at b.entries l in
      let r = E.pop end links values e b.free in
      let own = pop_own_tests e.length in
      let many = stored-length S l below in
      let free = stored_free S in
      let counted = if_made (e.length - 1) (b.free.count + 1) r in
      by_own own (stepped_on_list E links values e b.free counted.value counted)
      ∙ ap (put_back b l) (decided_told own (λ (n : first_that own ≡ 0). λ i. let o = if_made (sym (word_down_lem e.length (filled e.length n) (omega (arith, many, shorter S l below))) i) (sym (word_up_lem b.free.count (omega (arith, free, some_slots S l, S.pool.fit.size.most))) i) r in
      stepped_on_list E links values e b.free o.value o))
