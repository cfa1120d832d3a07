-- Where the walk along the idle chain stands and ends, for the invariant of its loop.
use mathlib.Core.Path.{◌≡◌, sym, ap, ◌∙◌}
use mathlib.Core.Logic.{◌≢◌}
use mathlib.Core.Bool.{true, false, not}
use mathlib.Core.List.{List, [], ◌∷◌, ◌++◌, append_assoc}
use Prim.Native.Nat.{ℕ, suc, ◌+◌}
use native.Mathlib.Nat.{zero-add}
use native.Mathlib.Omega.{arith}
use lib.ListN.{length}
use borrow.Author.Tests.{eq-eqb, ne_eqb}
use Rattle.books.specs.declared.Free.{Free}
use Rattle.books.specs.Book.{null_slot}
use Rattle.chains.specs.Chain.{cell}
use Rattle.shapes.specs.declared.IdleWalk.{IdleWalk}
use Rattle.shapes.specs.Met.{is_met_of, unmarked, mark_all}
use Rattle.shapes.specs.Walk.{no_path, walkable, walk_from, unwiped_from}
use Rattle.shapes.proofs.Going.{Guarded, guarded_stops, guarded_back, guarded_null}
use Rattle.engines.specs.Check.{idle_path}
use Rattle.engines.specs.Walked.{IdleWalked}
use Rattle.xor.specs.Engine.{xor}
use Rattle.walks.specs.Idle.{idle_first}

-- so many slots from the head on are those passed, and then those from here on
abbrev pub Firsts : (links : List ℕ) (head : ℕ) (passed : List ℕ) (slot many : ℕ) → Type 0
Firsts links head passed slot many = (k : ℕ) → idle_first links (many + k) head ≡ passed ++ idle_first links k slot

pub firsts_start : (links : List ℕ) (head : ℕ) → Firsts links head [] head 0
firsts_start links head k = ap (λ n. idle_first links n head) (zero-add k)

pub firsts_on : (links : List ℕ) (head : ℕ) (passed : List ℕ) (slot many : ℕ) {slot' : ℕ} → Firsts links head passed slot many → slot' ≡ cell links slot → Firsts links head (passed ++ slot ∷ []) slot' (many + 1)
firsts_on links head passed slot many f e k =
    let n : many + 1 + k ≡ many + suc k = omega arith in
    ap (λ m. idle_first links m head) n ∙ f (suc k) ∙ rw (e, append_assoc passed (slot ∷ []) (idle_first links k (cell links slot)))

idle_is : (links values met : List ℕ) (free : Free) → length links ≡ length values → idle_path xor links values met free ≡ walk_from (xor.idle_onward links) (xor.idle_fits links) (length links) met free.head
unfolding idle_path
idle_is links values met free s = rw (eq-eqb _ _ s)

-- where the walk along the idle chain ends, what was gathered on the way is the answer
pub idle_walked : {links values met : List ℕ} {free : Free} {passed real met' : List ℕ} {slot many : ℕ} {r : IdleWalk}
    → length links ≡ length values → Guarded (xor.idle_onward links) (xor.idle_fits links) (length links) met free.head passed real slot many → idle_first links many free.head ≡ passed
    → is_met_of real slot ≡ true → met' ≡ unmarked real
    → r ≡ record { ok = not (is_met_of (unmarked real) slot); length = many; unwiped = unwiped_from values (idle_first links many free.head) null_slot }
    → IdleWalked xor links values met free r met'
idle_walked {links} {values} {met} {free} s g f m d e =
    let p = idle_is links values met free s ∙ guarded_stops g m in
    record {
      ok = ap (λ w. w.ok) e ∙ guarded_null g m ∙ sym (ap (λ q. q.ok) p);
      counted = ap (λ w. w.length) e ∙ g.going.counted ∙ sym (ap (λ q. length q.slots) p);
      unwiped = ap (λ w. w.unwiped) e ∙ ap (λ xs. unwiped_from values xs null_slot) f ∙ sym (ap (λ q. unwiped_from values q.slots null_slot) p);
      marked = d ∙ guarded_back g ∙ sym (ap (λ q. mark_all met q.slots) p);
    }

-- a walk that is refused passes nothing
module _ {links values met : List ℕ} {free : Free} {r : IdleWalk} (e : r ≡ record { ok = false; length = 0; unwiped = null_slot }) where
  none : idle_path xor links values met free ≡ no_path → IdleWalked xor links values met free r met
  none p =
      record {
        ok = ap (λ w. w.ok) e ∙ sym (ap (λ q. q.ok) p);
        counted = ap (λ w. w.length) e ∙ sym (ap (λ q. length q.slots) p);
        unwiped = ap (λ w. w.unwiped) e ∙ sym (ap (λ q. unwiped_from values q.slots null_slot) p);
        marked = sym (ap (λ q. mark_all met q.slots) p);
      }

  pub idle_unvalued : length links ≢ length values → IdleWalked xor links values met free r met
  unfolding idle_path
  idle_unvalued n = none (rw (ne_eqb _ _ n))

  pub idle_unwalkable : length links ≡ length values → walkable (length links) met ≡ false → IdleWalked xor links values met free r met
  idle_unwalkable s w = none (idle_is links values met free s ∙ rw w)
