-- When a slot is taken or released, exactly, and what is so then.
use mathlib.Core.Path.{◌≡◌, refl, sym, ap, ◌∙◌}
use mathlib.Core.Logic.{◌↔◌}
use mathlib.Core.Bool.{Bool, true, false}
use mathlib.Core.List.{List, ◌∷◌}
use Prim.Native.Nat.{ℕ}
use lib.ListN.{length-set}
use lib.Seq.{get_or-set_same, get_or-set_other}
use Rattle.books.specs.declared.Free.{Free}
use Rattle.books.proofs.Tests.{not_both}
use Rattle.chains.specs.Count.{count}
use Rattle.chains.specs.Chain.{cell, first_or, following, IdleChain}
use Rattle.chains.proofs.Count.{count_apart, one_other, other_one}
use Rattle.chains.proofs.Chain.{linked_iff, chain_frame}
use Rattle.chains.proofs.Ends.{idle_any}
use Rattle.std.specs.Prelude.{Some, None}
use Rattle.xor.specs.Slot.{InPool, in_pool}
use Rattle.xor.specs.Slots.{Said, said_by, take_of, release_of}
use Rattle.xor.specs.SlotDone.{Takes, TakesNone, TakesFirst, Wipes, NotReleased}
use Rattle.xor.proofs.Slot.{in_pool_lem, not_in_pool}

-- ---- take

-- each case of the code's `Option` says what it holds
pub said_slot : (free : Free) (s : ℕ) (rest : Free) → ((said_by free (Some (s, rest))).done ≡ true) × ((said_by free (Some (s, rest))).slot ≡ s) × ((said_by free (Some (s, rest))).free ≡ rest)
said_slot free s rest = (refl, refl, refl)

pub said_none : (free : Free) → TakesNone free (said_by free None)
said_none free = record { done = refl; slot = refl; rest = refl }

module _ (links values : List ℕ) (free : Free) where
  pub take_done : InPool links values free.head → Takes links free (take_of links values free)
  unfolding take_of
  take_done p = rw ((in_pool_lem links values free.head).1 p) (record { done = refl; slot = refl; rest = refl; same_count = refl })

  pub take_none : (InPool links values free.head → ⊥) → TakesNone free (take_of links values free)
  unfolding take_of
  take_none n = go (in_pool links values free.head) refl
    where
      go : (b : Bool) → in_pool links values free.head ≡ b → TakesNone free (take_of links values free)
      go true e = absurd (n ((in_pool_lem links values free.head).0 e))
      go false e = rw e (record { done = refl; slot = refl; rest = refl })

  -- a slot is taken exactly where the free head is one
  pub take-exactly : (take_of links values free).done ≡ true ↔ InPool links values free.head
  take-exactly = (λ h. go (in_pool links values free.head) refl h, λ p. (take_done p).done)
    where
      go : (b : Bool) → in_pool links values free.head ≡ b → (take_of links values free).done ≡ true → InPool links values free.head
      go true e h = (in_pool_lem links values free.head).0 e
      go false e h = not_both (take_of links values free).done h (take_none (not_in_pool links values free.head e)).done

  -- a slot that was answered is one, and was the free head
  pub take-slot : (s : ℕ) (rest : Free) → said_by free (Some (s, rest)) ≡ take_of links values free
      → (s ≡ free.head) × (rest.head ≡ cell links free.head) × InPool links values s
  take-slot s rest h =
      let p = take-exactly.0 (sym (ap (λ a. a.done) h)) in
      let t = take_done p in
      let e : s ≡ free.head = ap (λ a. a.slot) h ∙ t.slot in
      (e, ap (λ (a : Said). a.free.head) h ∙ t.rest, rw e p)

  -- of an idle chain the first slot is taken
  pub take-first : (s : ℕ) (fs : List ℕ) → InPool links values s → free.head ≡ s → IdleChain links (s ∷ fs) → TakesFirst links s fs (take_of links values free)
  take-first s fs p h chain =
      let c = (linked_iff following (cell links) (s ∷ fs)).0 chain in
      let t = take_done (rw h p) in
      record { done = t.done; slot = t.slot ∙ h; head = t.rest ∙ ap (cell links) h ∙ c.0; idle = (linked_iff following (cell links) fs).1 (idle_any (cell links) s 0 fs c.1) }

-- ---- release

module _ (links values : List ℕ) (slot : ℕ) (free : Free) where
  pub release_wipes : InPool links values slot → Wipes links values slot free (release_of links values slot free)
  unfolding release_of
  release_wipes p =
      rw ((in_pool_lem links values slot).1 p)
      (record {
        done = refl;
        head = refl;
        same_count = refl;
        link = let b = p.has_link in simp get_or-set_same;
        wiped = let b = p.has_value in simp get_or-set_same;
        frame = record {
          other_links = λ y h. let d = other_one slot y h in simp get_or-set_other;
          other_values = λ y h. let d = other_one slot y h in simp get_or-set_other;
          same_links = simp length-set;
          same_values = simp length-set;
        };
      })

  -- a number that is no slot is refused, and nothing changes
  pub release_refused : (InPool links values slot → ⊥) → NotReleased links values free (release_of links values slot free)
  unfolding release_of
  release_refused n = go (in_pool links values slot) refl
    where
      go : (b : Bool) → in_pool links values slot ≡ b → NotReleased links values free (release_of links values slot free)
      go true e = absurd (n ((in_pool_lem links values slot).0 e))
      go false e = rw e (record { done = refl; same_free = refl; same_links = refl; same_values = refl })

  -- a slot is released exactly where it is one
  pub release_exactly : (release_of links values slot free).answer.done ≡ true ↔ InPool links values slot
  release_exactly = (λ h. go (in_pool links values slot) refl h, λ p. (release_wipes p).done)
    where
      go : (b : Bool) → in_pool links values slot ≡ b → (release_of links values slot free).answer.done ≡ true → InPool links values slot
      go true e h = (in_pool_lem links values slot).0 e
      go false e h = not_both (release_of links values slot free).answer.done h (release_refused (not_in_pool links values slot e)).done

  -- the slot stands in front of the idle chain then
  pub release_first : (fs : List ℕ) → InPool links values slot → free.head ≡ first_or 0 fs → count slot fs ≡ 0 → IdleChain links fs
      → IdleChain (release_of links values slot free).links (slot ∷ fs)
  release_first fs p h absent chain =
      let w = release_wipes p in
      (linked_iff following (cell (release_of links values slot free).links) (slot ∷ fs)).1 (
        w.link ∙ h,
        chain_frame following (cell links) (cell (release_of links values slot free).links) slot fs 0
            (λ y k. w.frame.other_links y (one_other slot y (count_apart fs k absent)))
            (idle_any (cell links) 0 slot fs ((linked_iff following (cell links) fs).0 chain)),
      )
