-- At either end: what a push and a pop leave of the cells that hold a chain. The back comes from the front by reversal.
use mathlib.Core.Path.{◌≡◌, refl, sym, ap, subst, ◌∙◌}
use mathlib.Core.List.{List, [], ◌∷◌, ◌++◌, reverse, reverse-cons, reverse-append, reverse-reverse}
use Prim.Native.Nat.{ℕ}
use native.Mathlib.Nat.{not-suc-le-zero}
use native.Mathlib.Omega.{arith}
use lib.Dec.{eqb}
use borrow.Author.Tests.{eq-eqb, ne_eqb, eqb-true}
use Rattle.books.specs.declared.Free.{Free}
use Rattle.books.specs.declared.Entry.{Entry}
use Rattle.books.specs.Book.{null_slot}
use Rattle.books.specs.Outcome.{Outcome, outcome}
use Rattle.chains.specs.Count.{count}
use Rattle.chains.specs.Chain.{first_or, IdleChain}
use Rattle.chains.proofs.Count.{count-append, count-reverse, count_first}
use Rattle.chains.proofs.Chain.{first-reverse, last-reverse, live-reverse}
use Rattle.shapes.specs.declared.End.{End}
use Rattle.shapes.specs.declared.End.TheVariants.{Front, Back}
use Rattle.shapes.specs.Records.{PushStep}
use Rattle.shapes.specs.Records.{PopStep}
use Rattle.shapes.specs.Ends.{new_of, near_of, with_near, joined, contents}
use Rattle.xor.specs.Steps.{push_empty_of, push_of, pop_of}
use Rattle.xor.specs.StepDone.{Apart, CellsHold, CellsJoin, CellsLeave}
use Rattle.xor.proofs.Ways.{PushWay, push_way, PopWay, pop_way}
use Rattle.xor.proofs.Ways as W
use Rattle.xor.proofs.Steps.{empty_push}
use Rattle.xor.proofs.Front.{in_list, cells_tail_not_null, push_front_lem, pop_front_lem}
use Rattle.shapes.proofs.Ends.{contents-reverse}

-- ---- the list read from its other end

abbrev flip : Entry → Entry
flip list = record { head = list.tail; tail = list.head; share = list.share; limit = list.limit; length = list.length }

abbrev flip_pushed : Outcome PushStep → Outcome PushStep
flip_pushed r = outcome (record { done = r.answer.done; entry = flip r.answer.entry; free = r.answer.free }) r.links r.values

abbrev flip_popped : Outcome PopStep → Outcome PopStep
flip_popped r = outcome (record { done = r.answer.done; value = r.answer.value; entry = flip r.answer.entry; free = r.answer.free }) r.links r.values

mirror : {links values : List ℕ} {list : Entry} {free : Free} {xs fs : List ℕ} → CellsHold links values list free xs fs → CellsHold links values (flip list) free (reverse xs) fs
mirror {links} {values} {list} {free} {xs} {fs} H =
    record {
      apart = record { slots = λ y h. H.apart.slots y (omega (arith, turned y)); once = λ y. omega (arith, turned y, H.apart.once y) };
      head = H.tail ∙ sym (first-reverse 0 xs);
      tail = H.head ∙ sym (last-reverse 0 xs);
      live = live-reverse links xs H.live;
      free_head = H.free_head;
      idle = H.idle;
    }
  where
    turned : (y : ℕ) → count y (reverse xs ++ fs) ≡ count y (xs ++ fs)
    turned y = omega (arith, count-append y (reverse xs) fs, count-append y xs fs, count-reverse y xs)

-- a slot, or a value, in front of the reversal stands at the back
turned_back : (x : ℕ) (xs : List ℕ) → reverse (x ∷ reverse xs) ≡ xs ++ x ∷ []
turned_back x xs = reverse-cons x (reverse xs) ∙ ap (λ zs. zs ++ x ∷ []) (reverse-reverse xs)

-- ---- push

-- a held list has no head exactly where it has no tail
same_null : {links values : List ℕ} {list : Entry} {free : Free} (xs : List ℕ) {fs : List ℕ} → CellsHold links values list free xs fs → eqb list.head null_slot ≡ eqb list.tail null_slot
same_null [] H = rw (H.head, H.tail)
same_null {list = list} (x ∷ xs) H =
    ne_eqb list.head null_slot (λ e. omega (arith, H.head, (in_list H x (count_first x xs)).not_null)) ∙ sym (ne_eqb list.tail null_slot (cells_tail_not_null H))

module _ {links values : List ℕ} {list : Entry} {free : Free} {value : ℕ} (same : eqb list.head null_slot ≡ eqb list.tail null_slot) where
  flip_push : {r : Outcome PushStep} → PushWay Back links values list free value r → PushWay Front links values (flip list) free value (flip_pushed r)
  unfolding near_of with_near
  flip_push (W.alone e p) = W.alone (eqb-true _ _ (same ∙ eq-eqb _ _ e)) p
  flip_push (W.beside e p d q) = W.beside (λ k. e (eqb-true _ _ (sym same ∙ eq-eqb _ _ k))) p d q
  flip_push (W.none n) = W.none (λ a. n (rw same at a))

module _ {links values : List ℕ} {list : Entry} {free : Free} {s : ℕ} {xs fs : List ℕ} (value : ℕ) where
  -- where the cells hold `xs` and the idle chain starts with s, a push at an end leaves cells that hold s at that end and the rest of the idle chain
  pub push_held : (end : End) → CellsHold links values list free xs (s ∷ fs) → CellsJoin end s value values xs fs (push_of end links values list free value)
  push_held Front H = push_front_lem xs H (push_way Front links values list free value)
  push_held Back H =
      let r = push_of Back links values list free value in
      let J = push_front_lem (reverse xs) (mirror H) (flip_push (same_null xs H) (push_way Back links values list free value)) in
      record {
        done = J.done;
        held = subst (λ (zs : List ℕ). CellsHold r.links r.values r.answer.entry r.answer.free zs fs) (turned_back s xs) (mirror J.held);
        holds = ap (contents r.values) (sym (turned_back s xs)) ∙ contents-reverse r.values (s ∷ reverse xs) ∙ ap reverse J.holds
            ∙ ap (λ zs. reverse (value ∷ zs)) (contents-reverse values xs) ∙ turned_back value (contents values xs);
      }

-- the first value of an empty list is a push at either end
pub empty_held : {links values : List ℕ} {list : Entry} {free : Free} {s : ℕ} {fs : List ℕ} (value : ℕ) (end : End) → CellsHold links values list free [] (s ∷ fs)
    → CellsJoin end s value values [] fs (push_empty_of links values list free value)
empty_held {links} {values} {list} {free} value end H = rw (empty_push links values list free value end H.tail) (push_held value end H)

-- ---- pop

flip_pop : {links values : List ℕ} {list : Entry} {free : Free} {slot near : ℕ} {r : Outcome PopStep} → PopWay Back links values list free slot near r
    → PopWay Front links values (flip list) free slot near (flip_popped r)
unfolding with_near
flip_pop (W.only p e) = W.only p e
flip_pop (W.beside p e d q) = W.beside p e d q
flip_pop (W.none n) = W.none n

module _ {links values : List ℕ} {list : Entry} {free : Free} {s : ℕ} {xs fs : List ℕ} where
  -- where the cells hold a chain with s at an end, a pop there leaves cells that hold the rest, and s in front of the idle chain
  pub pop_held : (end : End) → CellsHold links values list free (joined end s xs) fs → CellsLeave end s values xs fs (pop_of end links values list free)
  unfolding near_of
  pop_held Front H = pop_front_lem xs H (pop_way Front links values list free)
  pop_held Back H =
      let r = pop_of Back links values list free in
      let M : CellsHold links values (flip list) free (s ∷ reverse xs) fs = subst (λ (zs : List ℕ). CellsHold links values (flip list) free zs fs) (reverse-append xs (s ∷ [])) (mirror H) in
      let L = pop_front_lem (reverse xs) M (flip_pop (pop_way Back links values list free)) in
      record {
        done = L.done;
        held = subst (λ (zs : List ℕ). CellsHold r.links r.values r.answer.entry r.answer.free zs (s ∷ fs)) (reverse-reverse xs) (mirror L.held);
        holds = sym (turned_back r.answer.value (contents r.values xs)) ∙ ap (λ zs. reverse (r.answer.value ∷ zs)) (sym (contents-reverse r.values xs))
            ∙ ap reverse L.holds ∙ sym (contents-reverse values (s ∷ reverse xs)) ∙ ap (contents values) (turned_back s xs);
        wiped = L.wiped;
      }

-- ---- new

-- 000's `new`: the list holds nothing, whatever the pool is
pub new_held : {links values : List ℕ} {free : Free} {fs : List ℕ} (share limit : ℕ) → Apart links values fs → free.head ≡ first_or 0 fs → IdleChain links fs
    → CellsHold links values (new_of share limit) free [] fs
new_held share limit a h c = record { apart = a; head = refl; tail = refl; live = λ i b. absurd (not-suc-le-zero b); free_head = h; idle = c }
