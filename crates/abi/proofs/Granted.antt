-- A push, a pop and a clear, and a quick push and pop, leave the list's share and limit, whatever the cells hold. So the C face need not store them.
use Rattle.std.specs.Prelude.{◌≡◌, ℕ, Bool, true, false, eqb, List}
use mathlib.Core.Path.{refl, sym, ap, ◌∙◌}
use Rattle.books.specs.declared.Free.{Free}
use Rattle.books.specs.declared.Entry.{Entry}
use Rattle.books.specs.Book.{null_slot}
use Rattle.chains.specs.Chain.{cell}
use Rattle.shapes.specs.declared.End.{End}
use Rattle.shapes.specs.Ends.{near_of}
use Rattle.shapes.specs.Counts.{word_up, word_down}
use Rattle.shapes.specs.Tests.{push_own_tests, pop_own_tests}
use Rattle.shapes.proofs.Ends.{near_set}
use Rattle.shapes.proofs.Numbers.{decided_ind}
use Rattle.engines.specs.Engine.{Step}
use Rattle.engines.proofs.Counted.{CountedWay, refused, counted, counted_way}
use Rattle.engines.specs.OnList.{OnList, push_on, pop_on}
use Rattle.engines.specs.Quick.{quick_push_own, quick_pop_own, quick_push_on, quick_pop_on}
use Rattle.pools.specs.Kept.{with_ends}
use Rattle.xor.specs.Along.{clear_on_list}
use Rattle.xor.specs.Engine.{xor}
use Rattle.xor.specs.Slot.{in_pool}
use Rattle.xor.specs.Slots.{take_of}
use Rattle.xor.specs.Steps.{is_beside, push_empty_of, push_beside_of, push_of, pop_of}

-- the entry has the share and the limit of the list
abbrev pub Granted : Entry → Entry → Type 0
Granted list e = (e.share ≡ list.share) × (e.limit ≡ list.limit)

-- an entry with the ends and the length of another that is granted the same is that other
pub ends_again : (e old : Entry) → Granted old e → with_ends e.head e.tail e.length old ≡ e
ends_again e old (p, q) = λ i. record { head = e.head; tail = e.tail; share = sym p i; limit = sym q i; length = e.length }

module _ (end : End) (links values : List ℕ) (list : Entry) (free : Free) where
  pushed : (value : ℕ) → Granted list (push_of end links values list free value).answer.entry
  unfolding push_of push_empty_of push_beside_of
  pushed value = go (eqb list.tail null_slot) (take_of links values free).done (is_beside links values (near_of end list) (take_of links values free).slot) refl refl refl
    where
      go : (x y z : Bool) → eqb list.tail null_slot ≡ x → (take_of links values free).done ≡ y → is_beside links values (near_of end list) (take_of links values free).slot ≡ z
          → Granted list (push_of end links values list free value).answer.entry
      go true true z p q r = rw (p, q) (refl, refl)
      go true false z p q r = rw (p, q) (refl, refl)
      go false true true p q r = rw (p, q, r) ((near_set end (take_of links values free).slot list).2, (near_set end (take_of links values free).slot list).3)
      go false true false p q r = rw (p, q, r) (refl, refl)
      go false false z p q r = rw (p, q) (refl, refl)

  popped : Granted list (pop_of end links values list free).answer.entry
  unfolding pop_of
  popped = go (in_pool links values (near_of end list)) (eqb (cell links (near_of end list)) null_slot) (is_beside links values (cell links (near_of end list)) (near_of end list)) refl refl refl
    where
      go : (x y z : Bool) → in_pool links values (near_of end list) ≡ x → eqb (cell links (near_of end list)) null_slot ≡ y → is_beside links values (cell links (near_of end list)) (near_of end list) ≡ z
          → Granted list (pop_of end links values list free).answer.entry
      go true true z p q r = rw (p, q) (refl, refl)
      go true false true p q r = rw (p, q, r) ((near_set end (cell links (near_of end list)) list).2, (near_set end (cell links (near_of end list)) list).3)
      go true false false p q r = rw (p, q, r) (refl, refl)
      go false y z p q r = rw p (refl, refl)

  -- the counts change neither
  counted_granted : {made o : Step (List ℕ)} {n m : ℕ} → Granted list made.entry → CountedWay made n m o → Granted list o.entry
  counted_granted g (refused h) = g
  counted_granted g (counted h) = g

  push_granted : (lacks value : ℕ) → Granted list (push_on xor links values list free lacks end value).entry
  unfolding push_on
  push_granted lacks value =
      decided_ind _ _ (λ (r : OnList xor). Granted list r.entry) (push_own_tests list list.length lacks free.count) (λ k. (refl, refl))
      (λ k. counted_granted (pushed value) (counted_way (xor.push end links values list free value) (word_up list.length) (word_down free.count)))

  pop_granted : Granted list (pop_on xor links values list free end).entry
  unfolding pop_on
  pop_granted =
      decided_ind _ _ (λ (r : OnList xor). Granted list r.entry) (pop_own_tests list.length) (λ k. (refl, refl))
      (λ k. counted_granted popped (counted_way (xor.pop end links values list free) (word_down list.length) (word_up free.count)))

  quick_push_granted : (lacks value : ℕ) → Granted list (quick_push_on xor end links values list free lacks value).entry
  unfolding quick_push_on
  quick_push_granted lacks value =
      decided_ind _ _ (λ (r : OnList xor). Granted list r.entry) (quick_push_own xor end links values list free lacks value) (λ k. (refl, refl))
      (λ k. counted_granted (pushed value) (counted_way (xor.push end links values list free value) (word_up list.length) (word_down free.count)))

  quick_pop_granted : Granted list (quick_pop_on xor end links values list free).entry
  unfolding quick_pop_on
  quick_pop_granted =
      decided_ind _ _ (λ (r : OnList xor). Granted list r.entry) (quick_pop_own xor end links values list free) (λ k. (refl, refl))
      (λ k. counted_granted popped (counted_way (xor.pop end links values list free) (word_down list.length) (word_up free.count)))

clear_granted : (links values : List ℕ) (list : Entry) (free : Free) → Granted list (clear_on_list links values list free).entry
unfolding clear_on_list
clear_granted links values list free = (refl, refl)

-- of what a function gave back, with the entry as it stands in the book
through : {o r : OnList xor} {list at : Entry} → o ≡ r → Granted list r.entry → list ≡ at → Granted at o.entry
through q g e = (ap (λ (x : OnList xor). x.entry.share) q ∙ g.0 ∙ ap (λ (x : Entry). x.share) e, ap (λ (x : OnList xor). x.entry.limit) q ∙ g.1 ∙ ap (λ (x : Entry). x.limit) e)

module _ (links values : List ℕ) (list : Entry) (free : Free) {o : OnList xor} {at : Entry} where
  pub push_grants : (lacks : ℕ) (end : End) (value : ℕ) → o ≡ push_on xor links values list free lacks end value → list ≡ at → Granted at o.entry
  push_grants lacks end value q e = through q (push_granted end links values list free lacks value) e

  pub pop_grants : (end : End) → o ≡ pop_on xor links values list free end → list ≡ at → Granted at o.entry
  pop_grants end q e = through q (pop_granted end links values list free) e

  pub quick_push_grants : (lacks : ℕ) (end : End) (value : ℕ) → o ≡ quick_push_on xor end links values list free lacks value → list ≡ at → Granted at o.entry
  quick_push_grants lacks end value q e = through q (quick_push_granted end links values list free lacks value) e

  pub quick_pop_grants : (end : End) → o ≡ quick_pop_on xor end links values list free → list ≡ at → Granted at o.entry
  quick_pop_grants end q e = through q (quick_pop_granted end links values list free) e

  pub clear_grants : o ≡ clear_on_list links values list free → list ≡ at → Granted at o.entry
  clear_grants q e = through q (clear_granted links values list free) e
