-- Which slots of the pool are missing from a sequence of distinct ones: none exactly where it has N-1 of them, and else the lowest that the record of slots met does not know.
use mathlib.Core.Path.{◌≡◌}
use mathlib.Core.Logic.{◌≢◌}
use mathlib.Core.Bool.{true, false}
use mathlib.Core.List.{List}
use Prim.Native.Nat.{ℕ, zero, suc, ◌+◌, ◌-◌, ◌≤◌, ◌<◌}
use native.Mathlib.Decide.{dec_lt, ℕ_discrete}
use native.Mathlib.Omega.{arith}
use lib.ListN.{length}
use Rattle.books.specs.declared.Entry.{Entry}
use Rattle.books.proofs.Tests.{cond_ind}
use Rattle.chains.specs.Count.{count}
use Rattle.chains.proofs.Cover.{full_once, once_full}
use Rattle.shapes.specs.Met.{is_met_of, seen}
use Rattle.shapes.specs.Walk.{Lowest}
use Rattle.shapes.specs.Faults.{lowest_unmet}
use Rattle.engines.specs.FirstFault.{Distinct, LowestOver, LowestMiscounted}
use Rattle.engines.proofs.Leads.{Knows}

module _ {size : ℕ} {slots : List ℕ} (d : Distinct size slots) (some : 0 < size) where
  -- with N-1 slots none is missing
  pub full_covers : length slots + 1 ≡ size → (y : ℕ) → 0 < y → y < size → count y slots ≡ 1
  full_covers e y p q = full_once (size - 1) slots (λ z h. let o = d.inside z h in (o.0, omega arith)) d.once (omega arith) y p (omega arith)

  pub covers_full : ((y : ℕ) → 0 < y → y < size → count y slots ≡ 1) → length slots + 1 ≡ size
  covers_full h = omega (arith, once_full (size - 1) slots (λ z k. let o = d.inside z k in (o.0, omega arith)) (λ y p q. h y p (omega arith)))

-- ---- the lowest slot that was not met

-- y is the first of n slots from `slot` on that was not met, or the one after them
record Scanned (met : List ℕ) (slot n y : ℕ) : Type 0 where
  from : slot ≤ y
  to : y ≤ slot + n
  before : (z : ℕ) → slot ≤ z → z < y → is_met_of met z ≡ true
  here : y < slot + n → is_met_of met y ≡ false

scanned : (met : List ℕ) (n slot : ℕ) → Scanned met slot n (lowest_unmet met slot n)
scanned met zero slot = record { from = omega arith; to = omega arith; before = λ z p q. absurd (omega arith); here = λ h. absurd (omega arith) }
scanned met (suc n) slot =
    cond_ind (Scanned met slot (suc n)) (is_met_of met slot)
    (λ m. let S = scanned met n (suc slot) in
    record { from = omega (arith, S.from); to = omega (arith, S.to); before = λ z p q. at m S z p q (ℕ_discrete z slot); here = λ h. S.here (omega arith) })
    (λ m. record { from = omega arith; to = omega arith; before = λ z p q. absurd (omega arith); here = λ h. m })
  where
    at : {y : ℕ} → is_met_of met slot ≡ true → Scanned met (suc slot) n y → (z : ℕ) → slot ≤ z → z < y → Dec (z ≡ slot) → is_met_of met z ≡ true
    at m S z p q (yes e) = rw e m
    at m S z p q (no e) = S.before z (omega arith) q

module _ (size : ℕ) (met slots : List ℕ) (known : Knows size met slots) (some : 0 < size) where
  abbrev low : ℕ
  low = lowest_unmet met 1 (size - 1)

  scan : Scanned met 1 (size - 1) low
  scan = scanned met (size - 1) 1

  met_counts : (y : ℕ) → y < size → is_met_of met y ≡ true → 0 < count y slots
  met_counts y h m = let s : seen met y ≡ 1 = rw m in omega (arith, known y h)

  unmet_counts : (y : ℕ) → y < size → is_met_of met y ≡ false → count y slots ≡ 0
  unmet_counts y h m = let s : seen met y ≡ 0 = rw m in omega (arith, known y h)

  -- with fewer than N-1 slots one is missing, and the lowest is found
  pub missing_lowest : Distinct size slots → length slots + 1 ≢ size
      → ((0 < low) × (low < size)) × (count low slots ≡ 0) × ((y : ℕ) → 0 < y → y < low → 0 < count y slots)
  missing_lowest d n = go (dec_lt low size)
    where
      go : Dec (low < size) → ((0 < low) × (low < size)) × (count low slots ≡ 0) × ((y : ℕ) → 0 < y → y < low → 0 < count y slots)
      go (yes h) = (
        (omega (arith, scan.from), h),
        unmet_counts low h (scan.here (omega arith)),
        λ y p q. met_counts y (omega arith) (scan.before y (omega arith) q),
      )
      go (no h) =
          absurd (n (covers_full d some (λ y p q. omega (arith, d.once y, met_counts y q (scan.before y (omega arith) (omega arith))))))

  -- and it is the only one that is so
  pub lowest_missing : (y : ℕ) → 0 < y → y < size → count y slots ≡ 0 → ((z : ℕ) → 0 < z → z < y → 0 < count z slots) → low ≡ y
  lowest_missing y p q e l = go (dec_lt low y) (dec_lt y low)
    where
      go : Dec (low < y) → Dec (y < low) → low ≡ y
      go (yes h) k = absurd (omega (arith, l low (omega (arith, scan.from)) h, unmet_counts low (omega arith) (scan.here (omega arith))))
      go (no h) (yes k) = absurd (omega (arith, met_counts y q (scan.before y (omega arith) k)))
      go (no h) (no k) = omega arith

-- ---- there is one lowest

pub lowest_one : {values xs : List ℕ} {a b : ℕ} → Lowest values xs a → Lowest values xs b → a ≡ b
lowest_one {a = a} {b = b} A B = omega (arith, A.lowest b B.inside B.not_wiped, B.lowest a A.inside A.not_wiped)

pub over_one : {es : List Entry} {cs : List (List ℕ)} {a b : ℕ} → LowestOver es cs a → LowestOver es cs b → a ≡ b
over_one {a = a} {b = b} A B = go (dec_lt a b) (dec_lt b a)
  where
    go : Dec (a < b) → Dec (b < a) → a ≡ b
    go (yes h) k = absurd (omega (arith, B.lowest a h, A.over))
    go (no h) (yes k) = absurd (omega (arith, A.lowest b k, B.over))
    go (no h) (no k) = omega arith

pub miscounted_one : {es : List Entry} {cs : List (List ℕ)} {a b : ℕ} → LowestMiscounted es cs a → LowestMiscounted es cs b → a ≡ b
miscounted_one {a = a} {b = b} A B = go (dec_lt a b) (dec_lt b a)
  where
    go : Dec (a < b) → Dec (b < a) → a ≡ b
    go (yes h) k = absurd (A.wrong (B.lowest a h))
    go (no h) (yes k) = absurd (B.wrong (A.lowest b k))
    go (no h) (no k) = omega arith
