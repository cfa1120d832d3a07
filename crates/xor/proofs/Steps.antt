-- On any cells: when a step is done, exactly; that a refused one changes nothing; and all that a done one leaves.
use mathlib.Core.Path.{◌≡◌, refl, sym}
use mathlib.Core.Logic.{◌↔◌, ◌≢◌}
use mathlib.Core.Bool.{true, false}
use mathlib.Core.List.{List, ◌∷◌}
use Prim.Native.Nat.{ℕ, ◌+◌, ◌<◌}
use native.Mathlib.Omega.{arith}
use lib.ListN.{length, length-set}
use lib.Seq.{get_or-set_same, get_or-set_other, lt-length-set}
use borrow.Author.Tests.{eq-eqb, ne_eqb}
use Rattle.books.specs.declared.Free.{Free}
use Rattle.books.specs.declared.Entry.{Entry}
use Rattle.books.specs.Book.{null_slot}
use Rattle.books.specs.Outcome.{Outcome}
use Rattle.books.proofs.Tests.{not_both}
use Rattle.chains.specs.Count.{hit, count}
use Rattle.chains.specs.Chain.{cell}
use Rattle.chains.proofs.Count.{one_other, other_one}
use Rattle.xor.specs.Slot.{InPool}
use Rattle.xor.specs.Slots.{release_of}
use Rattle.xor.specs.SlotDone.{Wipes}
use Rattle.xor.proofs.Slots.{release_wipes}
use Rattle.shapes.specs.declared.End.{End}
use Rattle.shapes.specs.declared.End.TheVariants.{Front, Back}
use Rattle.shapes.specs.Records.{PushStep}
use Rattle.shapes.specs.Records.{PopStep}
use Rattle.shapes.specs.Ends.{near_of, with_near, opposite}
use Rattle.shapes.proofs.Ends.{near_set}
use Rattle.xor.specs.Steps.{push_empty_of, push_of, pop_of}
use Rattle.xor.specs.StepDone.{Apart, unless_null, touched_by_push, touched_by_pop, NotCounted, PushRefused, PushDone, PopRefused, PopDone}
use Rattle.xor.proofs.Ways.{one_apart, two_apart, PushWay, push_way, PopWay, pop_way}
use Rattle.xor.proofs.Ways as W

-- ---- an entry with another slot at an end

with_share : (end : End) (slot : ℕ) (list : Entry) → (with_near end slot list).share ≡ list.share
unfolding with_near
with_share Front slot list = refl
with_share Back slot list = refl

with_limit : (end : End) (slot : ℕ) (list : Entry) → (with_near end slot list).limit ≡ list.limit
unfolding with_near
with_limit Front slot list = refl
with_limit Back slot list = refl

with_near_lem : (end : End) (slot : ℕ) (list : Entry) → near_of end (with_near end slot list) ≡ slot
unfolding near_of with_near
with_near_lem Front slot list = refl
with_near_lem Back slot list = refl

with_far : (end : End) (slot : ℕ) (list : Entry) → near_of (opposite end) (with_near end slot list) ≡ near_of (opposite end) list
unfolding near_of with_near
with_far Front slot list = refl
with_far Back slot list = refl

-- a slot that is neither of two
neither : (s lead slot y : ℕ) → lead ≢ null_slot → count y (s ∷ unless_null lead slot) ≡ 0 → (y ≢ s) × (y ≢ slot)
neither s lead slot y d h₀ =
    let h : hit y s + (hit y slot + 0) ≡ 0 = rw (ne_eqb lead null_slot d) at h₀ in
    (other_one s y (omega arith), other_one slot y (omega arith))

-- a slot that is not the first
not_first : (s lead slot y : ℕ) → count y (s ∷ unless_null lead slot) ≡ 0 → y ≢ s
not_first s lead slot y h = other_one s y (omega arith)

-- ---- push

module _ (end : End) (links values : List ℕ) (list : Entry) (free : Free) (value : ℕ) where
  -- a push is done exactly where each slot that it touches is from 1 to N-1 and no two are the same
  pub push_step_exactly : (push_of end links values list free value).answer.done ≡ true ↔ Apart links values (touched_by_push end list free)
  push_step_exactly = (to (push_way end links values list free value), from (push_way end links values list free value))
    where
      to : {r : Outcome PushStep} → PushWay end links values list free value r → r.answer.done ≡ true → Apart links values (touched_by_push end list free)
      to (W.alone e p) h = one_apart free.head list.tail (near_of end list) e p
      to (W.beside e p d q) h = two_apart free.head list.tail (near_of end list) e p d q
      to (W.none n) h = not_both true refl (sym h)

      from : {r : Outcome PushStep} → PushWay end links values list free value r → Apart links values (touched_by_push end list free) → r.answer.done ≡ true
      from (W.alone e p) a = refl
      from (W.beside e p d q) a = refl
      from (W.none n) a = absurd (n a)

  pub push_step_refused : (push_of end links values list free value).answer.done ≡ false → PushRefused links values list free (push_of end links values list free value)
  push_step_refused = go (push_way end links values list free value)
    where
      go : {r : Outcome PushStep} → PushWay end links values list free value r → r.answer.done ≡ false → PushRefused links values list free r
      go (W.alone e p) h = not_both true refl h
      go (W.beside e p d q) h = not_both true refl h
      go (W.none n) h = record { done = refl; same_entry = refl; same_free = refl; same_links = refl; same_values = refl }

  -- done or refused, it counts nothing
  pub push_not_counted : let r = (push_of end links values list free value).answer in NotCounted list free r.entry r.free
  push_not_counted = go (push_way end links values list free value)
    where
      go : {r : Outcome PushStep} → PushWay end links values list free value r → NotCounted list free r.answer.entry r.answer.free
      go (W.alone e p) = record { same_length = refl; same_count = refl }
      go (W.beside e p n q) = record { same_length = (near_set end free.head list).4; same_count = refl }
      go (W.none n) = record { same_length = refl; same_count = refl }

  pub push_step_done : (push_of end links values list free value).answer.done ≡ true → PushDone end links values list free value (push_of end links values list free value)
  push_step_done = go (push_way end links values list free value)
    where
      go : {r : Outcome PushStep} → PushWay end links values list free value r → r.answer.done ≡ true → PushDone end links values list free value r
      go (W.alone e p) h =
          record {
            done = refl;
            rest = refl;
            stored = let b = p.has_value in simp get_or-set_same;
            first = λ k. (refl, refl, let b = p.has_link in simp get_or-set_same);
            next = λ k. absurd (k e);
            share = refl;
            limit = refl;
            frame = record {
              other_links = λ y c. let d = not_first free.head list.tail (near_of end list) y c in simp get_or-set_other;
              other_values = λ y c. let d = other_one free.head y c in simp get_or-set_other;
              same_links = simp length-set;
              same_values = simp length-set;
            };
          }
      go (W.beside e p n q) h =
          record {
            done = refl;
            rest = refl;
            stored = let b = p.has_value in simp get_or-set_same;
            first = λ k. absurd (e k);
            next = λ k. (
              with_near_lem end free.head list,
              with_far end free.head list,
              let b = p.has_link in simp (get_or-set_same, lt-length-set),
              let b = q.has_link in simp (get_or-set_other, get_or-set_same),
            );
            share = with_share end free.head list;
            limit = with_limit end free.head list;
            frame = record {
              other_links = λ y c. let (d, k) = neither free.head list.tail (near_of end list) y e c in simp get_or-set_other;
              other_values = λ y c. let d = other_one free.head y c in simp get_or-set_other;
              same_links = simp length-set;
              same_values = simp length-set;
            };
          }
      go (W.none n) h = not_both true refl (sym h)

-- ---- the first value of an empty list

module _ (links values : List ℕ) (list : Entry) (free : Free) (value : ℕ) where
  -- on an empty list it is a push at either end, on any other it is refused
  pub empty_push : (end : End) → list.tail ≡ null_slot → push_empty_of links values list free value ≡ push_of end links values list free value
  unfolding push_of
  empty_push end e = rw (eq-eqb list.tail null_slot e)

  pub empty_refused : list.tail ≢ null_slot → PushRefused links values list free (push_empty_of links values list free value)
  unfolding push_empty_of
  empty_refused d = rw (ne_eqb list.tail null_slot d) (record { done = refl; same_entry = refl; same_free = refl; same_links = refl; same_values = refl })

-- ---- pop

module _ (end : End) (links values : List ℕ) (list : Entry) (free : Free) where
  slot : ℕ
  slot = near_of end list

  near : ℕ
  near = cell links slot

  -- a slot that is in the pool is released, so its pop is done
  freed : InPool links values slot → Wipes links values slot free (release_of links values slot free)
  freed p = release_wipes links values slot free p

  -- a pop is done exactly where each slot that it touches is from 1 to N-1 and no two are the same
  pub pop_step_exactly : (pop_of end links values list free).answer.done ≡ true ↔ Apart links values (touched_by_pop end links list)
  unfolding slot near
  pop_step_exactly = (to (pop_way end links values list free), from (pop_way end links values list free))
    where
      to : {r : Outcome PopStep} → PopWay end links values list free slot near r → r.answer.done ≡ true → Apart links values (touched_by_pop end links list)
      to (W.only p e) h = one_apart slot near near e p
      to (W.beside p e d q) h = two_apart slot near near e p d q
      to (W.none n) h = not_both true refl (sym h)

      from : {r : Outcome PopStep} → PopWay end links values list free slot near r → Apart links values (touched_by_pop end links list) → r.answer.done ≡ true
      from (W.only p e) a = (freed p).done
      from (W.beside p e d q) a = (freed p).done
      from (W.none n) a = absurd (n a)

  pub pop_step_refused : (pop_of end links values list free).answer.done ≡ false → PopRefused links values list free (pop_of end links values list free)
  unfolding slot near
  pop_step_refused = go (pop_way end links values list free)
    where
      go : {r : Outcome PopStep} → PopWay end links values list free slot near r → r.answer.done ≡ false → PopRefused links values list free r
      go (W.only p e) h = not_both _ (freed p).done h
      go (W.beside p e d q) h = not_both _ (freed p).done h
      go (W.none n) h = record { done = refl; no_value = refl; same_entry = refl; same_free = refl; same_links = refl; same_values = refl }

  pub pop_not_counted : let r = (pop_of end links values list free).answer in NotCounted list free r.entry r.free
  unfolding slot near
  pop_not_counted = go (pop_way end links values list free)
    where
      go : {r : Outcome PopStep} → PopWay end links values list free slot near r → NotCounted list free r.answer.entry r.answer.free
      go (W.only p e) = record { same_length = refl; same_count = (freed p).same_count }
      go (W.beside p e n q) = record { same_length = (near_set end near list).4; same_count = (freed p).same_count }
      go (W.none n) = record { same_length = refl; same_count = refl }

  pub pop_step_done : (pop_of end links values list free).answer.done ≡ true → PopDone end links values list free (pop_of end links values list free)
  unfolding slot near
  pop_step_done = go (pop_way end links values list free)
    where
      go : {r : Outcome PopStep} → PopWay end links values list free slot near r → r.answer.done ≡ true → PopDone end links values list free r
      go (W.only p e) h =
          let w = freed p in
          record {
            done = w.done;
            value = refl;
            wiped = w.wiped;
            freed = w.head;
            link = w.link;
            last = λ k. (refl, refl);
            next = λ k. absurd (k e);
            share = refl;
            limit = refl;
            frame = record {
              other_links = λ y c. w.frame.other_links y (one_other slot y (not_first slot near near y c));
              other_values = w.frame.other_values;
              same_links = w.frame.same_links;
              same_values = w.frame.same_values;
            };
          }
      go (W.beside p e n q) h =
          let w = freed p in
          let b = q.has_link in
          record {
            done = w.done;
            value = refl;
            wiped = w.wiped;
            freed = w.head;
            link = let k : slot ≢ near = λ i. n (sym i) in simp get_or-set_other w.link;
            last = λ k. absurd (e k);
            next = λ k. (
              with_near_lem end near list,
              with_far end near list,
              let i : near < length (release_of links values slot free).links = omega (arith, w.frame.same_links) in
                  simp (get_or-set_same, w.frame.other_links near (one_other slot near n)),
            );
            share = with_share end near list;
            limit = with_limit end near list;
            frame = record {
              other_links = λ y c. let (d, k) = neither slot near near y e c in simp get_or-set_other (w.frame.other_links y (one_other slot y d));
              other_values = w.frame.other_values;
              same_links = simp length-set w.frame.same_links;
              same_values = w.frame.same_values;
            };
          }
      go (W.none n) h = not_both true refl (sym h)
