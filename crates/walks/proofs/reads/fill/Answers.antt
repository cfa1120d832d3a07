-- `walks::reads::fill`: a value is stored in a turn, and a second where there is one; the places end or the chain ends.
use mathlib.Core.Path.{◌≡◌, sym}
use mathlib.Core.List.{List}
use Prim.Native.Nat.{ℕ, ◌+◌, ◌<◌}
use native.Mathlib.Omega.{arith}
use lib.Bits.{bit_xor}
use lib.ListN.{length, set}
use Rattle.chains.specs.Chain.{cell}
use Rattle.xor.specs.Slot.{InPool}
use Rattle.walks.proofs.Fill.{small_slot, FillingPart, fill_full, fill_stops, fill_goes_on, fill_counted}
use Rattle.walks.proofs.reads.fill.Goals as goal

-- a value is stored, and the chain leads on
stored : {links values : List ℕ} {start : ℕ} {buffer out out' : List ℕ} {before slot next n : ℕ} → FillingPart links values start buffer out before slot n → n < length out → InPool links values slot
    → (next ≡ bit_xor (cell links slot) before) × (out' ≡ set out n (cell values slot)) → FillingPart links values start buffer out' slot next (n + 1)
stored F h p (e, d) = rw (e, d) (fill_goes_on F h p)

pub returns-then-not-is_slot : goal.returns-then-not-is_slot
returns-then-not-is_slot c = fill_stops c.loop-count.invariant c.least-size.ensures (sym c.if-not-is_slot.ensures)

pub copy_value-next-requires : goal.copy_value-next-requires
copy_value-next-requires c =
    let p = small_slot _ _ c.least-size.ensures _ (sym c.if-not-is_slot.ensures) in
    (p.has_link, p.has_value, omega arith)

pub returns-then-not-is_slot-2 : goal.returns-then-not-is_slot-2
returns-then-not-is_slot-2 c =
    let p = small_slot _ _ c.least-size.ensures _ (sym c.if-not-is_slot.ensures) in
    let F = stored c.loop-count.invariant (omega arith) p c.copy_value-next.ensures in
    fill_stops F c.least-size.ensures (sym c.if-not-is_slot-2.ensures)

pub copy_value-slot-requires : goal.copy_value-slot-requires
copy_value-slot-requires c =
    let p = small_slot _ _ c.least-size.ensures _ (sym c.if-not-is_slot.ensures) in
    let q = small_slot _ _ c.least-size.ensures _ (sym c.if-not-is_slot-2.ensures) in
    let F = stored c.loop-count.invariant (omega arith) p c.copy_value-next.ensures in
    (q.has_link, q.has_value, omega (arith, F.size, c.loop-count.invariant.size))

pub loop-count-preserved : goal.loop-count-preserved
loop-count-preserved c =
    let p = small_slot _ _ c.least-size.ensures _ (sym c.if-not-is_slot.ensures) in
    let q = small_slot _ _ c.least-size.ensures _ (sym c.if-not-is_slot-2.ensures) in
    let F = stored c.loop-count.invariant (omega arith) p c.copy_value-next.ensures in
    fill_counted (omega arith) (stored F (omega (arith, F.size, c.loop-count.invariant.size)) q c.copy_value-slot.ensures)

pub offset_bounds-values-slot : goal.offset_bounds-values-slot
offset_bounds-values-slot c = let p = small_slot _ _ c.least-size.ensures _ (sym c.if-is_slot.ensures) in omega (arith, p.has_value)

pub bounds-values-slot : goal.bounds-values-slot
bounds-values-slot c = (small_slot _ _ c.least-size.ensures _ (sym c.if-is_slot.ensures)).has_value

pub returns-then-is_slot : goal.returns-then-is_slot
returns-then-is_slot c =
    let F = fill_goes_on c.loop-count.invariant c.if-count-out.true (small_slot _ _ c.least-size.ensures _ (sym c.if-is_slot.ensures)) in
    fill_full F (omega (arith, F.size, c.loop-count.invariant.size))

pub returns-else-is_slot : goal.returns-else-is_slot
returns-else-is_slot c = fill_stops c.loop-count.invariant c.least-size.ensures (sym c.if-is_slot.ensures)

pub returns-else-count-out : goal.returns-else-count-out
returns-else-count-out c = fill_full c.loop-count.invariant c.if-count-out.false
