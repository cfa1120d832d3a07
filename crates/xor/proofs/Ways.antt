-- The ways that a push and a pop can go, with what is known on each: every law of a step goes by these cases.
use mathlib.Core.Path.{◌≡◌, refl, sym, ap}
use mathlib.Core.Logic.{◌≢◌}
use mathlib.Core.Bool.{Bool, true, false, cond}
use mathlib.Core.List.{List, [], ◌∷◌}
use Prim.Native.Nat.{ℕ, ◌+◌, ◌≤◌, ◌<◌}
use native.Mathlib.Decide.{ℕ_discrete}
use native.Mathlib.Omega.{arith}
use lib.Dec.{eqb}
use borrow.Author.Tests.{eqb-true, eqb-false, eq-eqb, ne_eqb}
use Rattle.books.specs.declared.Free.{Free}
use Rattle.books.specs.declared.Entry.{Entry}
use Rattle.books.specs.Book.{null_slot}
use Rattle.books.specs.Outcome.{Outcome}
use Rattle.books.proofs.Tests.{not_both}
use Rattle.chains.specs.Count.{hit}
use Rattle.chains.specs.Chain.{cell}
use Rattle.chains.proofs.Count.{hit_same, hit_other}
use Rattle.xor.specs.Slot.{InPool, in_pool}
use Rattle.xor.specs.Slots.{take_of}
use Rattle.xor.proofs.Slot.{in_pool_lem, not_in_pool}
use Rattle.shapes.specs.declared.End.{End}
use Rattle.shapes.specs.Records.{PushStep}
use Rattle.shapes.specs.Records.{PopStep}
use Rattle.shapes.specs.Ends.{near_of}
use Rattle.xor.specs.Steps.{is_beside, not_pushed, pushed_alone, pushed_beside, push_empty_of, push_beside_of, push_of, not_popped, last_leaves, end_leaves, pop_of}
use Rattle.xor.specs.StepDone.{Apart, unless_null, touched_by_push}
use Rattle.xor.proofs.Beside.{beside_iff}

-- ---- one slot or two

-- a slot by itself, and a slot with another
module _ {links values : List ℕ} (s : ℕ) where
  pub one_apart : (lead slot : ℕ) → lead ≡ null_slot → InPool links values s → Apart links values (s ∷ unless_null lead slot)
  one_apart lead slot e p = rw (eq-eqb lead null_slot e) (record { slots = λ y h. here y h (ℕ_discrete y s); once = λ y. most y (ℕ_discrete y s) })
    where
      here : (y : ℕ) → 0 < hit y s + 0 → Dec (y ≡ s) → InPool links values y
      here y h (yes d) = rw d p
      here y h (no d) = absurd (omega (arith, hit_other y s d))

      most : (y : ℕ) → Dec (y ≡ s) → hit y s + 0 ≤ 1
      most y (yes d) = omega (arith, ap (λ z. hit z s) d, hit_same s)
      most y (no d) = omega (arith, hit_other y s d)

  pub two_apart : (lead slot : ℕ) → lead ≢ null_slot → InPool links values s → slot ≢ s → InPool links values slot → Apart links values (s ∷ unless_null lead slot)
  two_apart lead slot e p d q = rw (ne_eqb lead null_slot e) (record { slots = λ y h. here y h (ℕ_discrete y s) (ℕ_discrete y slot); once = λ y. most y (ℕ_discrete y s) (ℕ_discrete y slot) })
    where
      here : (y : ℕ) → 0 < hit y s + (hit y slot + 0) → Dec (y ≡ s) → Dec (y ≡ slot) → InPool links values y
      here y h (yes d) k = rw d p
      here y h (no d) (yes k) = rw k q
      here y h (no d) (no k) = absurd (omega (arith, hit_other y s d, hit_other y slot k))

      most : (y : ℕ) → Dec (y ≡ s) → Dec (y ≡ slot) → hit y s + (hit y slot + 0) ≤ 1
      most y (yes j) k = omega (arith, ap (λ z. hit z s + hit z slot) j, hit_same s, hit_other s slot (λ i. d (sym i)))
      most y (no j) (yes k) = omega (arith, ap (λ z. hit z slot) k, hit_same slot, hit_other y s j)
      most y (no j) (no k) = omega (arith, hit_other y s j, hit_other y slot k)

  pub apart_first : (ys : List ℕ) → Apart links values (s ∷ ys) → InPool links values s
  apart_first ys a = a.slots s (omega (arith, hit_same s))

  pub apart_second : (lead slot : ℕ) → lead ≢ null_slot → Apart links values (s ∷ unless_null lead slot) → (slot ≢ s) × InPool links values slot
  apart_second lead slot e a₀ =
      let a : Apart links values (s ∷ slot ∷ []) = rw (ne_eqb lead null_slot e) at a₀ in
      (λ d. omega (arith, a.once s, hit_same s, ap (hit s) d), a.slots slot (omega (arith, hit_same slot)))

-- ---- push

module _ (end : End) (links values : List ℕ) (list : Entry) (free : Free) (value : ℕ) where
  pub data PushWay : Outcome PushStep → Type 0 where
    alone : list.tail ≡ null_slot → InPool links values free.head
        → PushWay (pushed_alone links values list free value free.head (record { head = cell links free.head; count = free.count }))
    beside : list.tail ≢ null_slot → InPool links values free.head → near_of end list ≢ free.head → InPool links values (near_of end list)
        → PushWay (pushed_beside end links values list free value (near_of end list) free.head (record { head = cell links free.head; count = free.count }))
    none : (Apart links values (touched_by_push end list free) → ⊥) → PushWay (not_pushed links values list free value)

  pub push_way : PushWay (push_of end links values list free value)
  unfolding push_of push_empty_of push_beside_of take_of
  push_way =
      go (eqb list.tail null_slot) (in_pool links values free.head) (is_beside links values (near_of end list) free.head) refl refl refl
    where
      go : (a b c : Bool) → eqb list.tail null_slot ≡ a → in_pool links values free.head ≡ b → is_beside links values (near_of end list) free.head ≡ c
          → PushWay (cond (eqb list.tail null_slot) (push_empty_of links values list free value) (push_beside_of end links values list free value))
      go true true c ea eb ec = rw (ea, eb) (alone (eqb-true _ _ ea) ((in_pool_lem links values free.head).0 eb))
      go true false c ea eb ec = rw (ea, eb) (none (λ h. not_in_pool links values free.head eb (apart_first free.head _ h)))
      go false true true ea eb ec =
          let q = (beside_iff links values (near_of end list) free.head).0 ec in
          rw (ea, eb, ec) (beside (eqb-false _ _ ea) ((in_pool_lem links values free.head).0 eb) q.0 q.1)
      go false true false ea eb ec =
          rw (ea, eb, ec)
          (none (λ h. not_both (is_beside links values (near_of end list) free.head) ((beside_iff links values (near_of end list) free.head).1 (apart_second free.head list.tail _ (eqb-false _ _ ea) h)) ec))
      go false false c ea eb ec = rw (ea, eb) (none (λ h. not_in_pool links values free.head eb (apart_first free.head _ h)))

-- ---- pop

module _ (end : End) (links values : List ℕ) (list : Entry) (free : Free) where
  pub data PopWay (slot near : ℕ) : Outcome PopStep → Type 0 where
    only : InPool links values slot → near ≡ null_slot → PopWay slot near (last_leaves end links values list free slot)
    beside : InPool links values slot → near ≢ null_slot → near ≢ slot → InPool links values near → PopWay slot near (end_leaves end links values list free slot near)
    none : (Apart links values (slot ∷ unless_null near near) → ⊥) → PopWay slot near (not_popped end links values list free)

  pub pop_way : PopWay (near_of end list) (cell links (near_of end list)) (pop_of end links values list free)
  unfolding pop_of
  pop_way = go (in_pool links values slot) (eqb near null_slot) (is_beside links values near slot) refl refl refl
    where
      slot : ℕ
      slot = near_of end list

      near : ℕ
      near = cell links slot

      go : (a b c : Bool) → in_pool links values slot ≡ a → eqb near null_slot ≡ b → is_beside links values near slot ≡ c → PopWay slot near (pop_of end links values list free)
      go true true c ea eb ec = rw (ea, eb) (only ((in_pool_lem links values slot).0 ea) (eqb-true _ _ eb))
      go true false true ea eb ec =
          let q = (beside_iff links values near slot).0 ec in
          rw (ea, eb, ec) (beside ((in_pool_lem links values slot).0 ea) (eqb-false _ _ eb) q.0 q.1)
      go true false false ea eb ec =
          rw (ea, eb, ec) (none (λ h. not_both (is_beside links values near slot) ((beside_iff links values near slot).1 (apart_second slot near near (eqb-false _ _ eb) h)) ec))
      go false b c ea eb ec = rw ea (none (λ h. not_in_pool links values slot ea (apart_first slot _ h)))
