-- At the front: a push moves the first idle slot to the front of the chain, and a pop moves it back.
use mathlib.Core.Path.{◌≡◌, refl, sym, ap, subst, ◌∙◌}
use mathlib.Core.Logic.{◌≢◌}
use mathlib.Core.List.{List, [], ◌∷◌}
use Prim.Native.Nat.{ℕ, ◌+◌, ◌≤◌, ◌<◌}
use native.Mathlib.Nat.{not-suc-le-zero}
use native.Mathlib.Decide.{ℕ_discrete}
use native.Mathlib.Omega.{arith}
use lib.Bits.{bit_xor}
use lib.ListN.{length, set, length-set}
use lib.Seq.{get_or-set_same, get_or-set_other, lt-length-set}
use Rattle.books.specs.declared.Free.{Free}
use Rattle.books.specs.declared.Entry.{Entry}
use Rattle.books.specs.Book.{null_slot}
use Rattle.books.specs.Outcome.{Outcome}
use Rattle.chains.specs.Count.{hit, count}
use Rattle.chains.specs.Chain.{cell, first_or, last_or, following}
use Rattle.chains.proofs.Count.{hit_same, count-append, count_first, count_apart, count_moved, one_other}
use Rattle.chains.proofs.Chain.{Chain, linked_iff, chain_frame}
use Rattle.chains.proofs.Ends.{first_apart, last_not_null, push_chain, pop_chain, idle_any}
use Rattle.xor.specs.Slot.{InPool}
use Rattle.xor.specs.Slots.{release_of}
use Rattle.xor.proofs.Slots.{release_wipes}
use Rattle.shapes.specs.declared.End.TheVariants.{Front}
use Rattle.shapes.specs.Records.{PushStep}
use Rattle.shapes.specs.Records.{PopStep}
use Rattle.shapes.specs.Ends.{near_of, with_near}
use Rattle.xor.specs.StepDone.{CellsHold, CellsJoin, CellsLeave}
use Rattle.xor.proofs.Ways.{one_apart, two_apart, PushWay, PopWay}
use Rattle.xor.proofs.Ways as W
use Rattle.shapes.proofs.Ends.{contents_same}

-- ---- what the held cells say of their slots

module _ {links values : List ℕ} {list : Entry} {free : Free} {xs fs : List ℕ} (H : CellsHold links values list free xs fs) where
  pub in_list : (y : ℕ) → 0 < count y xs → InPool links values y
  in_list y h = H.apart.slots y (omega (arith, count-append y xs fs))

  pub in_idle : (y : ℕ) → 0 < count y fs → InPool links values y
  in_idle y h = H.apart.slots y (omega (arith, count-append y xs fs))

  pub held_once : (y : ℕ) → count y xs + count y fs ≤ 1
  held_once y = omega (arith, count-append y xs fs, H.apart.once y)

  pub held_null : count 0 xs + count 0 fs ≡ 0
  held_null = go (ℕ_discrete (count 0 xs + count 0 fs) 0)
    where
      go : Dec (count 0 xs + count 0 fs ≡ 0) → count 0 xs + count 0 fs ≡ 0
      go (yes e) = e
      go (no d) = absurd (not-suc-le-zero (H.apart.slots 0 (omega (arith, count-append 0 xs fs))).not_null)

-- slots stay in a pool whose sizes stay
pub pool_kept : {links links' values values' : List ℕ} {y : ℕ} → length links' ≡ length links → length values' ≡ length values → InPool links values y → InPool links' values' y
pool_kept e d p = record { not_null = p.not_null; has_link = omega (arith, p.has_link); has_value = omega (arith, p.has_value) }

-- ---- push

-- what the cells hold once they are as a push at the front leaves them
module _ {links values : List ℕ} {list : Entry} {free : Free} {s : ℕ} {xs fs : List ℕ} (H : CellsHold links values list free xs (s ∷ fs))
    (links' values' : List ℕ) (list' : Entry) (rest : Free) where
  front_held : length links' ≡ length links → length values' ≡ length values
      → cell links' s ≡ first_or 0 xs
      → (0 < first_or 0 xs → cell links' (first_or 0 xs) ≡ bit_xor (cell links (first_or 0 xs)) s)
      → ((y : ℕ) → y ≢ s → y ≢ first_or 0 xs → cell links' y ≡ cell links y)
      → list'.head ≡ s → list'.tail ≡ last_or s xs → rest.head ≡ cell links s
      → CellsHold links' values' list' rest (s ∷ xs) fs
  front_held nl nv new side other h t r =
      record {
        apart = record {
          slots = λ y k. pool_kept nl nv (H.apart.slots y (omega (arith, count_moved y s xs fs)));
          once = λ y. omega (arith, count_moved y s xs fs, H.apart.once y);
        };
        head = h;
        tail = t;
        live = (linked_iff bit_xor (cell links') (s ∷ xs)).1
            (push_chain (cell links) (cell links') s xs (λ y. omega (arith, held_once H y)) (omega (arith, held_null H)) new side
            (λ y p d. other y (count_apart xs p (omega (arith, held_once H s, hit_same s))) d) ((linked_iff bit_xor (cell links) xs).0 H.live));
        free_head = r ∙ chain.0;
        idle = (linked_iff following (cell links') fs).1
            (chain_frame following (cell links) (cell links') 0 fs 0 (λ y p. other y (count_apart fs p (omega (arith, held_once H s, hit_same s))) (not_first y p))
            (idle_any (cell links) s 0 fs chain.1));
      }
    where
      chain : Chain following (cell links) 0 (s ∷ fs) 0
      chain = (linked_iff following (cell links) (s ∷ fs)).0 H.idle

      not_first : (y : ℕ) → 0 < count y fs → y ≢ first_or 0 xs
      not_first y p = first_apart xs y (in_idle H y (omega arith)).not_null (omega (arith, held_once H y))

-- a list with a slot has a last one
pub cells_tail_not_null : {links values : List ℕ} {list : Entry} {free : Free} {x : ℕ} {xs fs : List ℕ} → CellsHold links values list free (x ∷ xs) fs → list.tail ≢ null_slot
cells_tail_not_null {x = x} {xs = xs} H e = omega (arith, H.tail, last_not_null x xs (in_list H x (count_first x xs)).not_null (omega (arith, held_null H)))

module _ {links values : List ℕ} {list : Entry} {free : Free} {value s : ℕ} {fs : List ℕ} where
  -- a push at the front that may go its way puts the first idle slot in front
  pub push_front_lem : (xs : List ℕ) {r : Outcome PushStep} → CellsHold links values list free xs (s ∷ fs) → PushWay Front links values list free value r → CellsJoin Front s value values xs fs r
  unfolding near_of with_near
  push_front_lem [] H (W.alone e p) =
      let q = in_idle H s (count_first s fs) in
      rw H.free_head
      (record {
        done = refl;
        held = front_held H _ _ _ _ (simp length-set) (simp length-set) (let b = q.has_link in simp get_or-set_same) (λ h. absurd (not-suc-le-zero h))
            (λ y d k. simp get_or-set_other) refl refl refl;
        holds = let b = q.has_value in simp get_or-set_same;
      })
  push_front_lem [] H (W.beside e p d q) = absurd (e H.tail)
  push_front_lem [] H (W.none n) = absurd (n (one_apart free.head list.tail list.head H.tail (rw H.free_head (in_idle H s (count_first s fs)))))
  push_front_lem (x ∷ xs) H (W.alone e p) = absurd (cells_tail_not_null H e)
  push_front_lem (x ∷ xs) H (W.beside e p d q) =
      let a = in_idle H s (count_first s fs) in
      let b = in_list H x (count_first x xs) in
      let n : x ≢ s = λ k. omega (arith, held_once H s, hit_same s, ap (hit s) k) in
      rw (H.head, H.free_head)
      (record {
        done = refl;
        held = front_held H _ _ _ _ (simp length-set) (simp length-set) (let i = a.has_link in simp (get_or-set_same, lt-length-set))
            (λ h. let i = b.has_link in simp (get_or-set_other, get_or-set_same)) (λ y i k. simp get_or-set_other) refl H.tail refl;
        holds = λ i. get_or-set_same values s value 0 a.has_value i ∷ contents_same values (set values s value) (x ∷ xs)
            (λ y k. get_or-set_other values s y value 0 (count_apart (x ∷ xs) k (omega (arith, held_once H s, hit_same s)))) i;
      })
  push_front_lem (x ∷ xs) H (W.none n) =
      absurd (n (two_apart free.head list.tail list.head (cells_tail_not_null H) (rw H.free_head (in_idle H s (count_first s fs)))
      (λ k. omega (arith, held_once H s, hit_same s, ap (hit s) (sym H.head ∙ k ∙ H.free_head)))
      (rw H.head (in_list H x (count_first x xs)))))

-- ---- pop

-- what the cells hold once they are as a pop at the front leaves them
module _ {links values : List ℕ} {list : Entry} {free : Free} {s : ℕ} {xs fs : List ℕ} (H : CellsHold links values list free (s ∷ xs) fs)
    (links' values' : List ℕ) (list' : Entry) (rest : Free) where
  front_left : length links' ≡ length links → length values' ≡ length values
      → cell links' s ≡ free.head
      → (0 < first_or 0 xs → cell links' (first_or 0 xs) ≡ bit_xor (cell links (first_or 0 xs)) s)
      → ((y : ℕ) → y ≢ s → y ≢ first_or 0 xs → cell links' y ≡ cell links y)
      → list'.head ≡ first_or 0 xs → list'.tail ≡ last_or 0 xs → rest.head ≡ s
      → CellsHold links' values' list' rest xs (s ∷ fs)
  front_left nl nv gone side other h t r =
      record {
        apart = record {
          slots = λ y k. pool_kept nl nv (H.apart.slots y (omega (arith, count_moved y s xs fs)));
          once = λ y. omega (arith, count_moved y s xs fs, H.apart.once y);
        };
        head = h;
        tail = t;
        live = (linked_iff bit_xor (cell links') xs).1
            (pop_chain (cell links) (cell links') s xs (λ y. omega (arith, held_once H y)) (omega (arith, held_null H)) side
            (λ y p d. other y (count_apart xs p (omega (arith, held_once H s, hit_same s))) d) ((linked_iff bit_xor (cell links) (s ∷ xs)).0 H.live));
        free_head = r;
        idle = (linked_iff following (cell links') (s ∷ fs)).1 (
          gone ∙ H.free_head,
          chain_frame following (cell links) (cell links') s fs 0 (λ y p. other y (count_apart fs p (omega (arith, held_once H s, hit_same s))) (not_first y p))
              (idle_any (cell links) 0 s fs ((linked_iff following (cell links) fs).0 H.idle)),
        );
      }
    where
      not_first : (y : ℕ) → 0 < count y fs → y ≢ first_or 0 xs
      not_first y p = first_apart xs y (in_idle H y (omega arith)).not_null (omega (arith, held_once H y))

module _ {links values : List ℕ} {list : Entry} {free : Free} {s : ℕ} {fs : List ℕ} where
  front_way : (xs : List ℕ) {r : Outcome PopStep} → CellsHold links values list free (s ∷ xs) fs → PopWay Front links values list free s (first_or 0 xs) r → CellsLeave Front s values xs fs r
  unfolding with_near
  front_way [] H (W.only p e) =
      let w = release_wipes links values s free p in
      record {
        done = w.done;
        held = front_left H (release_of links values s free).links (release_of links values s free).values _ _ w.frame.same_links w.frame.same_values w.link
            (λ h. absurd (not-suc-le-zero h)) (λ y d k. w.frame.other_links y (one_other s y d)) refl refl w.head;
        holds = refl;
        wiped = w.wiped;
      }
  front_way [] H (W.beside p e d q) = absurd (e refl)
  front_way [] H (W.none n) = absurd (n (one_apart s 0 0 refl (in_list H s (count_first s []))))
  front_way (x ∷ xs) H (W.only p e) = absurd (omega (arith, (in_list H x (omega (arith, hit_same x))).not_null))
  front_way (x ∷ xs) H (W.beside p e d q) =
      let w = release_wipes links values s free p in
      let l = (release_of links values s free).links in
      record {
        done = w.done;
        held = front_left H (set l x (bit_xor (cell l x) s)) (release_of links values s free).values _ _ (length-set l x (bit_xor (cell l x) s) ∙ w.frame.same_links) w.frame.same_values
            (get_or-set_other l x s (bit_xor (cell l x) s) 0 (λ k. d (sym k)) ∙ w.link)
            (λ h. get_or-set_same l x (bit_xor (cell l x) s) 0 (omega (arith, w.frame.same_links, q.has_link)) ∙ ap (λ z. bit_xor z s) (w.frame.other_links x (one_other s x d)))
            (λ y i k. get_or-set_other l x y (bit_xor (cell l x) s) 0 k ∙ w.frame.other_links y (one_other s y i)) refl H.tail w.head;
        holds = ap (λ zs. cell values s ∷ zs) (contents_same values (release_of links values s free).values (x ∷ xs)
            (λ y k. w.frame.other_values y (one_other s y (count_apart (x ∷ xs) k (omega (arith, held_once H s, hit_same s))))));
        wiped = w.wiped;
      }
  front_way (x ∷ xs) H (W.none n) =
      let p = in_list H x (omega (arith, hit_same x)) in
      absurd (n (two_apart s x x (λ e. omega (arith, p.not_null)) (in_list H s (count_first s (x ∷ xs))) (λ k. omega (arith, held_once H s, hit_same s, ap (hit s) k)) p))

  -- a pop at the front that may go its way takes the first slot, wiped, to the front of the idle chain
  pub pop_front_lem : (xs : List ℕ) {r : Outcome PopStep} → CellsHold links values list free (s ∷ xs) fs
      → PopWay Front links values list free (near_of Front list) (cell links (near_of Front list)) r → CellsLeave Front s values xs fs r
  unfolding near_of
  pop_front_lem xs {r} H way =
      front_way xs H
      (subst (λ (n : ℕ). PopWay Front links values list free s n r) ((linked_iff bit_xor (cell links) (s ∷ xs)).0 H.live).0
      (subst (λ (z : ℕ). PopWay Front links values list free z (cell links z) r) H.head way))
