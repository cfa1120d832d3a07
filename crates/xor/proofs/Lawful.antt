-- The XOR list keeps the laws of an engine: from the laws of its chains and of its steps.
use mathlib.Core.Path.{◌≡◌, refl, sym, ap, ◌∙◌}
use mathlib.Core.Logic.{◌↔◌, ◌≢◌}
use mathlib.Core.Bool.{true}
use mathlib.Core.List.{List, [], ◌∷◌, reverse}
use Prim.Native.Nat.{ℕ, suc, ◌-◌, ◌<◌, suc-le-suc}
use native.Mathlib.Nat.{not-suc-le-zero, zero-lt-suc}
use native.Mathlib.Decide.{ℕ_discrete, dec_lt}
use native.Mathlib.Omega.{arith}
use lib.Bits.{bit_xor, xor_comm}
use lib.ListN.{length, get_or, set, replicate, length-set, length-replicate}
use lib.Seq.{ext_get_or, get_or-set_same, get_or-set_other}
use borrow.Author.Tests.{eqb-true, eq-eqb, ne_eqb}
use Rattle.books.specs.declared.Free.{Free}
use Rattle.books.specs.declared.Entry.{Entry}
use Rattle.books.specs.Book.{null_slot, wipe_word}
use Rattle.books.specs.Outcome.{Outcome}
use Rattle.chains.specs.Count.{count}
use Rattle.chains.specs.Chain.{cell, first_or, Linked, following, LiveChain, IdleChain}
use Rattle.chains.proofs.Count.{hit_same, hit_other, count-append, one_other}
use Rattle.chains.proofs.Chain.{Chain, linked_iff, linked_frame, live-reverse}
use Rattle.chains.proofs.Xor.{xor_cancel_l, xor_cancel_out}
use Rattle.shapes.specs.declared.End.{End}
use Rattle.shapes.specs.declared.End.TheVariants.{Front, Back}
use Rattle.shapes.specs.Records.{PushStep}
use Rattle.shapes.specs.Records.{PopStep}
use Rattle.shapes.specs.Shape.{Shape, chain_at, joined_up}
use Rattle.shapes.specs.Ends.{near_of, joined, end_slot}
use Rattle.shapes.specs.Walk.{Tied}
use Rattle.shapes.proofs.Ends.{count_joined}
use Rattle.engines.specs.Sound.{Sound, Held}
use Rattle.engines.specs.Laws.{Joins, Leaves, Lawful}
use Rattle.xor.specs.Steps.{push_of, pop_of}
use Rattle.xor.specs.StepDone.{touched_by_push, touched_by_pop, CellsHold, CellsJoin, CellsLeave, PushDone, PopDone}
use Rattle.xor.specs.Engine.{xor}
use Rattle.xor.proofs.Steps.{push_step_done, pop_step_done}
use Rattle.xor.proofs.Ends.{push_held, pop_held}
use Rattle.xor.proofs.Fresh.{fresh_links}

-- ---- the walks

live_tied_lem : (at : ℕ → ℕ) (p : ℕ) (xs : List ℕ) → Chain bit_xor at p xs 0 ↔ Tied (λ p x. bit_xor (at x) p) (λ p x. true) p xs
live_tied_lem at p [] = (λ c. tt, λ c. tt)
live_tied_lem at p (x ∷ xs) = (
  λ c. (refl, ap (λ v. bit_xor v p) c.0 ∙ xor_cancel_out p (first_or 0 xs), (live_tied_lem at x xs).0 c.1),
  λ c. (sym (xor_cancel_l p (at x)) ∙ ap (bit_xor p) (xor_comm p (at x) ∙ c.1), (live_tied_lem at x xs).1 c.2),
)

live_walk : (links xs : List ℕ) → LiveChain links xs ↔ Tied (λ p x. bit_xor (cell links x) p) (λ p x. true) 0 xs
live_walk links xs = (λ l. (live_tied_lem (cell links) 0 xs).0 ((linked_iff bit_xor (cell links) xs).0 l), λ h. (linked_iff bit_xor (cell links) xs).1 ((live_tied_lem (cell links) 0 xs).1 h))

idle_tied_lem : (at : ℕ → ℕ) (p : ℕ) (xs : List ℕ) → Chain following at p xs 0 ↔ Tied (λ p x. at x) (λ p x. true) p xs
idle_tied_lem at p [] = (λ c. tt, λ c. tt)
idle_tied_lem at p (x ∷ xs) = (λ c. (refl, c.0, (idle_tied_lem at x xs).0 c.1), λ c. (c.1, (idle_tied_lem at x xs).1 c.2))

idle_walk : (links xs : List ℕ) → IdleChain links xs ↔ Tied (λ p x. cell links x) (λ p x. true) 0 xs
idle_walk links xs = (λ l. (idle_tied_lem (cell links) 0 xs).0 ((linked_iff following (cell links) xs).0 l), λ h. (linked_iff following (cell links) xs).1 ((idle_tied_lem (cell links) 0 xs).1 h))

-- ---- held, here and there

module _ {links values : List ℕ} {list : Entry} {free : Free} {xs fs : List ℕ} where
  to_cells : Held xor links values list free xs fs → CellsHold links values list free xs fs
  to_cells H =
      record {
        apart = record { slots = λ y h. let (p, q) = H.slots y h in record { not_null = p; has_link = q; has_value = omega (arith, H.same) }; once = H.once };
        head = H.entry.head;
        tail = H.entry.tail;
        live = H.live;
        free_head = H.free_record.head;
        idle = H.idle;
      }

  of_cells : length links ≡ length values → CellsHold links values list free xs fs → Held xor links values list free xs fs
  of_cells e H =
      record {
        even = refl;
        same = e;
        slots = λ y h. ((H.apart.slots y h).not_null, (H.apart.slots y h).has_link);
        once = H.apart.once;
        entry = record { head = H.head; tail = H.tail };
        live = H.live;
        free_record = record { head = H.free_head };
        idle = H.idle;
      }

-- ---- the slots that a step touches

-- the slot at an end, if there is one, is the list's
end_slot_lem : {links values : List ℕ} {list : Entry} {free : Free} (xs : List ℕ) {fs : List ℕ} → CellsHold links values list free xs fs → (end : End) → near_of end list ≢ null_slot → end_slot end xs ≡ near_of end list ∷ []
unfolding near_of
end_slot_lem [] H Front d = absurd (d H.head)
end_slot_lem [] H Back d = absurd (d H.tail)
end_slot_lem (x ∷ xs) H Front d = λ i. sym H.head i ∷ []
end_slot_lem (x ∷ xs) H Back d = λ i. sym H.tail i ∷ []

-- a list with a tail has a slot at either end
near_live : {links values : List ℕ} {list : Entry} {free : Free} {fs : List ℕ} (xs : List ℕ) → CellsHold links values list free xs fs → (end : End) → list.tail ≢ null_slot → near_of end list ≢ null_slot
unfolding near_of
near_live [] H Front d = λ e. d H.tail
near_live {fs = fs} (x ∷ xs) H Front d = λ e. omega (arith, H.head, (H.apart.slots x (omega (arith, hit_same x))).not_null)
near_live xs H Back d = d

-- a store in one cell, told by its cells
one_store : (values values' : List ℕ) (x v : ℕ) → x < length values → length values' ≡ length values → cell values' x ≡ v → ((y : ℕ) → y ≢ x → cell values' y ≡ cell values y) → values' ≡ set values x v
one_store values values' x v b n here other = ext_get_or 0 values' (set values x v) (n ∙ sym (length-set values x v)) (λ y h. go y (ℕ_discrete y x))
  where
    go : (y : ℕ) → Dec (y ≡ x) → cell values' y ≡ cell (set values x v) y
    go y (yes d) = rw (d, get_or-set_same values x v 0 b) here
    go y (no d) = other y d ∙ sym (get_or-set_other values x y v 0 d)

-- ---- the steps

module _ (end : End) (links values : List ℕ) (list : Entry) (free : Free) (s value : ℕ) (xs fs : List ℕ) (H : Held xor links values list free xs (s ∷ fs)) where
  push_joins : Joins xor end s links values list xs fs (xor.push end links values list free value) value
  push_joins =
      record {
        done = J.done;
        no_value = refl;
        held = of_cells (D.frame.same_links ∙ H.same ∙ sym D.frame.same_values) J.held;
        cells = one_store values r.values s value (omega (arith, s_in.1, H.same)) D.frame.same_values (ap (cell r.values) (sym H.free_record.head) ∙ D.stored)
            (λ y d. D.frame.other_values y (one_other free.head y (λ k. d (k ∙ H.free_record.head))));
        share = D.share;
        limit = D.limit;
        size = D.frame.same_links;
        frame = λ y c. D.frame.other_links y (apart y c (ℕ_discrete list.tail null_slot));
      }
    where
      r : Outcome PushStep
      r = push_of end links values list free value

      J : CellsJoin end s value values xs fs r
      J = push_held value end (to_cells H)

      D : PushDone end links values list free value r
      D = push_step_done end links values list free value J.done

      s_in : (0 < s) × (s < length links)
      s_in = H.slots s (omega (arith, count-append s xs (s ∷ fs), hit_same s))

      apart : (y : ℕ) → count y (s ∷ end_slot end xs) ≡ 0 → Dec (list.tail ≡ null_slot) → count y (touched_by_push end list free) ≡ 0
      apart y c (yes e) = rw (eq-eqb list.tail null_slot e, H.free_record.head) (omega arith)
      apart y c (no e) =
          let n = end_slot_lem xs (to_cells H) end (near_live xs (to_cells H) end e) in
          rw (ne_eqb list.tail null_slot e, H.free_record.head) (rw n at c)

module _ (end : End) (links values : List ℕ) (list : Entry) (free : Free) (s : ℕ) (xs fs : List ℕ) (H : Held xor links values list free (joined end s xs) fs) where
  pop_leaves : Leaves xor end s links values list xs fs (xor.pop end links values list free)
  pop_leaves =
      record {
        value = D.value ∙ ap (cell values) end_is;
        done = L.done;
        held = of_cells (D.frame.same_links ∙ H.same ∙ sym D.frame.same_values) L.held;
        cells = one_store values r.values s wipe_word (omega (arith, s_in.1, H.same)) D.frame.same_values L.wiped
            (λ y d. D.frame.other_values y (one_other (near_of end list) y (λ k. d (k ∙ end_is))));
        share = D.share;
        limit = D.limit;
        size = D.frame.same_links;
        frame = λ y c. D.frame.other_links y (apart y c (ℕ_discrete (cell links (near_of end list)) null_slot));
      }
    where
      r : Outcome PopStep
      r = pop_of end links values list free

      L : CellsLeave end s values xs fs r
      L = pop_held {xs = xs} end (to_cells H)

      D : PopDone end links values list free r
      D = pop_step_done end links values list free L.done

      s_in : (0 < s) × (s < length links)
      s_in = H.slots s (omega (arith, count-append s (joined end s xs) fs, count_joined end s xs s, hit_same s))

      -- the slot at the end is s: it is the free head afterwards
      end_is : near_of end list ≡ s
      end_is = sym D.freed ∙ L.held.free_head

      apart : (y : ℕ) → count y (s ∷ end_slot end xs) ≡ 0 → Dec (cell links (near_of end list) ≡ null_slot) → count y (touched_by_pop end links list) ≡ 0
      apart y c (yes e) = rw (eq-eqb (cell links (near_of end list)) null_slot e, end_is) (omega arith)
      apart y c (no e) =
          let n = end_slot_lem xs L.held end (λ k. e (sym (D.next e).0 ∙ k)) in
          rw (ne_eqb (cell links (near_of end list)) null_slot e, ← (D.next e).0, end_is) (rw n at c)

-- ---- the shape says every link

-- a slot of a sequence has a place in it
place_of : (y : ℕ) (xs : List ℕ) → 0 < count y xs → (i : ℕ) × (i < length xs) × (get_or xs i 0 ≡ y)
place_of y [] h = absurd (not-suc-le-zero h)
place_of y (x ∷ xs) h = go (ℕ_discrete y x) (λ k. place_of y xs k)
  where
    go : Dec (y ≡ x) → (0 < count y xs → (i : ℕ) × (i < length xs) × (get_or xs i 0 ≡ y)) → (i : ℕ) × (i < length (x ∷ xs)) × (get_or (x ∷ xs) i 0 ≡ y)
    go (yes e) f = (0, zero-lt-suc (length xs), sym e)
    go (no d) f = let (i, b, e) = f (omega (arith, hit_other y x d)) in (suc i, suc-le-suc b, e)

-- and so has one of several
list_of : (y : ℕ) (cs : List (List ℕ)) → 0 < count y (joined_up cs) → (l : ℕ) × (l < length cs) × (0 < count y (get_or cs l []))
list_of y [] h = absurd (not-suc-le-zero h)
list_of y (xs ∷ cs) h = go (dec_lt 0 (count y xs)) (λ k. list_of y cs k)
  where
    go : Dec (0 < count y xs) → (0 < count y (joined_up cs) → (l : ℕ) × (l < length cs) × (0 < count y (get_or cs l []))) → (l : ℕ) × (l < length (xs ∷ cs)) × (0 < count y (get_or (xs ∷ cs) l []))
    go (yes p) f = (0, zero-lt-suc (length cs), p)
    go (no p) f = let (l, b, q) = f (omega (arith, count-append y xs (joined_up cs))) in (suc l, suc-le-suc b, q)

links_one_lem : (links links' values values' : List ℕ) (es es' : List Entry) (free free' : Free) (s : Shape) → length links ≡ length links' → Sound xor links values es free s → Sound xor links' values' es' free' s → links ≡ links'
links_one_lem links links' values values' es es' free free' s n S T = ext_get_or 0 links links' n (λ y h. at y h (ℕ_discrete y 0))
  where
    linked : (op : ℕ → ℕ → ℕ) (xs : List ℕ) (y : ℕ) → Linked op (cell links) xs → Linked op (cell links') xs → 0 < count y xs → cell links y ≡ cell links' y
    linked op xs y c d h = let (i, b, e) = place_of y xs h in ap (cell links) (sym e) ∙ c i b ∙ sym (d i b) ∙ ap (cell links') e

    at : (y : ℕ) → y < length links → Dec (y ≡ 0) → cell links y ≡ cell links' y
    at y h (yes e) = rw e (S.null_link ∙ sym T.null_link)
    at y h (no d) = go (dec_lt 0 (count y s.idle))
      where
        go : Dec (0 < count y s.idle) → cell links y ≡ cell links' y
        go (yes p) = linked following s.idle y S.idle T.idle p
        go (no p) =
            let (l, b, q) = list_of y s.chains (omega (arith, S.once y (omega arith) h, count-append y (joined_up s.chains) s.idle)) in
            linked bit_xor (chain_at s l) y (S.live l (omega (arith, S.lists))) (T.live l (omega (arith, T.lists))) q

pub xor_lawful : Lawful xor
xor_lawful =
    record {
      some = λ n h. (replicate n 0, refl, length-replicate n 0);
      live_tied = live_walk;
      back_tied = λ links xs l. (live_walk links (reverse xs)).0 (live-reverse links xs l);
      idle_tied = idle_walk;
      null_told = λ links. (eqb-true _ _, eq-eqb _ _);
      live_same = λ links links' xs h c. linked_frame bit_xor (cell links) (cell links') xs h c;
      null_same = λ links links' e n. e ∙ n;
      same_twice = λ links links' links'' y e d. d ∙ e;
      same_self = λ links y. refl;
      links_one = links_one_lem;
      fresh = fresh_links;
      push = push_joins;
      pop = pop_leaves;
    }
