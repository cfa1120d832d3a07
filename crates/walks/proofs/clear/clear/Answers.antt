-- `walks::clear::clear`: a turn brings what is to come one slot further, and where none is left, or a slot lacks a cell, it has come.
use mathlib.Core.Path.{◌≡◌, ap, ◌∙◌}
use mathlib.Core.Logic.{◌⊎◌, inl, inr}
use mathlib.Core.List.{List}
use Prim.Native.Nat.{ℕ, ◌-◌, ◌≤◌, ◌<◌}
use native.Mathlib.Omega.{arith}
use lib.Bits.{bit_xor, xor_lt}
use lib.ListN.{length, set, length-set}
use Rattle.books.specs.Book.{null_slot, wipe_word}
use Rattle.books.specs.Outcome.{Outcome}
use Rattle.books.specs.declared.Free.{Free}
use Rattle.xor.specs.Along.{clear_along}
use Rattle.walks.proofs.Turns.{Emptying, along_none, along_turn, along_stops}
use Rattle.walks.proofs.clear.clear.Goals as goal

-- what was to come from the widened start and free head is what the call is to give
begun : (links values : List ℕ) (count : ℕ) (free : Free) {start slot head : ℕ} → slot ≡ start → head ≡ free.head
    → clear_along count links values null_slot slot (record { head = head; count = free.count }) ≡ clear_along count links values null_slot start free
begun links values count free {start} {slot} {head} s h =
    ap (λ k. clear_along count links values null_slot k (record { head = head; count = free.count })) s
    ∙ ap (λ k. clear_along count links values null_slot start (record { head = k; count = free.count })) h

-- a slot that is not below the lesser length lacks a cell
one_lacks : {links₀ values₀ links values : List ℕ} {slot last head stored left size : ℕ} {whole : Outcome Free} → Emptying links₀ values₀ links values slot last head stored left whole
    → (size ≡ length links₀) ⊎ (size ≡ length values₀) → size ≤ slot → (length links ≤ slot) ⊎ (length values ≤ slot)
one_lacks e (inl q) h = inl (omega (arith, e.same_links))
one_lacks e (inr q) h = inr (omega (arith, e.same_values))

pub returns-then-size-slot : goal.returns-then-size-slot
returns-then-size-slot c =
    let lacks : (length c.loop-left.links ≤ c.loop-left.slot) ⊎ (length c.loop-left.values ≤ c.loop-left.slot) = one_lacks c.loop-left.invariant c.least-size.ensures.2 c.if-size-slot.true in
    along_stops _ _ c.loop-left.slot c.loop-left.last _ _ c.loop-left.left lacks
    ∙ c.loop-left.invariant.comes
    ∙ begun _ _ c.args.count c.args.free c.wide-slot.ensures.0 c.wide-head.ensures.0

pub loop-left-preserved : goal.loop-left-preserved
loop-left-preserved c =
    let at = c.loop-left in
    let p : at.slot < length at.links = omega (arith, at.invariant.same_links, c.least-size.ensures.0) in
    let q : at.slot < length at.values = omega (arith, at.invariant.same_values, c.least-size.ensures.1) in
    record {
      same_links = length-set at.links at.slot at.head ∙ at.invariant.same_links;
      same_values = length-set at.values at.slot wipe_word ∙ at.invariant.same_values;
      small = (xor_lt 16 c.wide.result at.last c.wide.ensures.1 at.invariant.small.1, at.invariant.small.0, at.invariant.small.0);
      comes = ap (λ v. clear_along (at.left - 1) (set at.links at.slot at.head) (set at.values at.slot wipe_word) at.slot (bit_xor v at.last) (record { head = at.slot; count = c.args.free.count })) c.wide.ensures.0
          ∙ along_turn at.links at.values at.slot at.last at.head c.args.free.count at.left c.loop-left-test.true p q
          ∙ at.invariant.comes;
    }

pub returns : goal.returns
returns c =
    along_none _ _ c.loop-left.slot c.loop-left.last _ _ c.loop-left.left c.loop-left-test.false
    ∙ c.loop-left.invariant.comes
    ∙ begun _ _ c.args.count c.args.free c.wide-slot.ensures.0 c.wide-head.ensures.0
