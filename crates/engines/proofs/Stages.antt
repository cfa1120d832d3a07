-- The stages of the check one by one, as code takes them: the lowest slot not met, one list at a time, how many slots are live, and what the whole pool gives.
use mathlib.Core.Path.{◌≡◌, refl, sym, subst, ap, ◌∙◌}
use mathlib.Core.Logic.{◌≢◌}
use mathlib.Core.Bool.{Bool, true, false, ◌&&◌}
use mathlib.Core.List.{List, [], ◌∷◌}
use Prim.Native.Nat.{ℕ, zero, suc, ◌+◌, ◌-◌, ◌≤◌, ◌<◌}
use native.Mathlib.Numerals.{add-one}
use native.Mathlib.Nat.{not-suc-le-zero}
use native.Mathlib.Omega.{arith}
use lib.Dec.{eqb}
use lib.ListN.{length, take, drop, length-replicate, drop_of_length-le}
use lib.Seq.{drop-cons}
use borrow.Author.Tests.{eq-eqb, ne_eqb}
use Rattle.books.specs.declared.Entry.{Entry}
use Rattle.books.specs.declared.Free.{Free}
use Rattle.books.specs.Book.{zero_entry, entry_at}
use Rattle.books.proofs.Tests.{cond_ind}
use Rattle.shapes.specs.declared.LiveWalk.{LiveWalk}
use Rattle.shapes.specs.Records.{Gathered}
use Rattle.shapes.specs.Records.{Found}
use Rattle.shapes.specs.Met.{is_met_of, unmarked, mark_all, unmet}
use Rattle.shapes.specs.Faults.{fault, nothing_met, gathered_none, gather_one, gather_fault, Round, round, lowest_unmet, faulty}
use Rattle.shapes.proofs.Seen.{unmet_le}
use Rattle.shapes.proofs.Walks.{pass_unmet}
use Rattle.engines.specs.Engine.{Engine}
use Rattle.engines.specs.Check.{head_path, live_path, ends_well, idle_path, gather_all, null_slot_zero, idle_found, pool_found}
use Rattle.engines.specs.Walked.{LiveWalked}
use Rattle.engines.proofs.Gather.{head_fresh, live_fresh, gather_goes}
use Rattle.engines.proofs.Idle.{idle_fresh}

-- ---- one list at a time, as a loop takes them

module _ (E : Engine) (lists : ℕ) (links : E.Links) (met : List ℕ) (es : List Entry) (k : ℕ) (g : Gathered) where
  pub gather_done : length es ≤ k → round g met ≡ gather_all E lists links k (drop k es) met g
  unfolding gather_all
  gather_done h = rw (drop_of_length-le es h)

  -- `t` is what the caller tests of the walk: that it came to its end, and at the list's tail
  module _ {w : LiveWalk} {met' : List ℕ} {t : Bool} (W : LiveWalked E links met (entry_at es k).head w met') (told : t ≡ (w.ok && eqb w.last (entry_at es k).tail)) (b : k < length es) where
    walk_told : ends_well (live_path E links met (entry_at es k)) (entry_at es k) ≡ t
    walk_told = rw (told, W.ok, W.last)

    pub gather_next : t ≡ true
        → gather_all E lists links (k + 1) (drop (k + 1) es) met' (gather_one lists k (entry_at es k) w.length g) ≡ gather_all E lists links k (drop k es) met g
    gather_next h =
        rw (drop-cons es k zero_entry b, W.marked, W.counted, add-one)
        (sym (gather_goes E lists links k (entry_at es k) (drop (suc k) es) met g (walk_told ∙ h)))

    pub gather_halt : t ≡ false → round (gather_fault k w.length g) met' ≡ gather_all E lists links k (drop k es) met g
    unfolding gather_all
    gather_halt h = rw (drop-cons es k zero_entry b, W.marked, W.counted, walk_told ∙ h)

-- the slots that a list's walk passes are no longer to be met
pub live_unmet : {E : Engine} {links : E.Links} {met : List ℕ} {head : ℕ} {w : LiveWalk} {met' : List ℕ} → LiveWalked E links met head w met' → w.length + unmet met' ≡ unmet met
live_unmet {E} {links} {met} {head} W = rw (W.counted, W.marked) (pass_unmet met (head_path E links met head).slots (head_fresh E links met head).once)

-- ---- the lowest slot that was not met, one slot at a time

module _ (met : List ℕ) (slot size : ℕ) where
  pub lowest_end : size ≤ slot → slot ≡ lowest_unmet met slot (size - slot)
  lowest_end h = let e : size - slot ≡ 0 = omega arith in rw e

  module _ (below : slot < size) where
    pub lowest_here : is_met_of met slot ≡ false → slot ≡ lowest_unmet met slot (size - slot)
    lowest_here h = let e : size - slot ≡ suc (size - (slot + 1)) = omega arith in rw (e, h)

    pub lowest_next : is_met_of met slot ≡ true → lowest_unmet met (slot + 1) (size - (slot + 1)) ≡ lowest_unmet met slot (size - slot)
    lowest_next h = let e : size - slot ≡ suc (size - (slot + 1)) = omega arith in rw (e, h, add-one)

-- ---- a part of a record in which nothing is met

pub met_none : (size room : ℕ) → size ≤ room → take size (nothing_met room) ≡ nothing_met size
unfolding nothing_met
met_none zero room h = refl
met_none (suc size) zero h = absurd (not-suc-le-zero h)
met_none (suc size) (suc room) h = ap (zero ∷◌) (met_none size room (omega arith))

-- ---- how many slots are live, and how many are left to meet

nothing_unmet : (size : ℕ) → unmet (nothing_met size) ≤ size
unfolding nothing_met
nothing_unmet size = omega (arith, unmet_le (nothing_met size), length-replicate size zero)

cleared : (size : ℕ) → unmarked (nothing_met size) ≡ nothing_met size
unfolding nothing_met
cleared zero = refl
cleared (suc size) = refl

-- in the record of a pool there is a place for the null slot, and to clear it changes nothing
pub nothing_place : (size : ℕ) {met : List ℕ} → met ≡ nothing_met size → 0 < size → 0 < length met
unfolding nothing_met
nothing_place size e h = omega (arith, ap length e, length-replicate size zero)

pub nothing_again : (size : ℕ) {met : List ℕ} → met ≡ nothing_met size → unmarked met ≡ nothing_met size
nothing_again size e = ap unmarked e ∙ cleared size

module _ (E : Engine) (lists : ℕ) (links : E.Links) where
  gather_live : (list : ℕ) (es : List Entry) (met : List ℕ) (g : Gathered)
      → (gather_all E lists links list es met g).gathered.live + unmet (gather_all E lists links list es met g).met ≤ g.live + unmet met
  unfolding gather_all
  gather_live list [] met g = omega arith
  gather_live list (e ∷ es) met g =
      let path = live_path E links met e in
      let fewer = pass_unmet met path.slots (live_fresh E links met e).once in
      cond_ind (λ (r : Round). r.gathered.live + unmet r.met ≤ g.live + unmet met) (ends_well path e)
      (λ h. omega (arith, gather_live (suc list) es (mark_all met path.slots) (gather_one lists list e (length path.slots) g)))
      (λ h. omega arith)

-- the idle chain's slots are among those that were left
pub idle_at_most : (E : Engine) (links : E.Links) (values met : List ℕ) (free : Free) → length (idle_path E links values met free).slots ≤ unmet met
idle_at_most E links values met free = omega (arith, pass_unmet met (idle_path E links values met free).slots (idle_fresh E links values met free).once)

-- ---- what the whole pool gives, from what its stages give

pub pool_null : (E : Engine) (links : E.Links) (values : List ℕ) (es : List Entry) (free : Free) → null_slot_zero E links values ≡ false → faulty (fault 10 0 0) ≡ pool_found E links values es free
unfolding pool_found
pool_null E links values es free z = rw z

module _ (E : Engine) (links : E.Links) (es : List Entry) {lists : ℕ} {met met' : List ℕ} {g : Gathered} (many : length es ≡ lists) (none : met ≡ nothing_met (E.size links)) (got : round g met' ≡ gather_all E lists links 0 es met (gathered_none lists)) where
  all_got : round g met' ≡ gather_all E (length es) links 0 es (nothing_met (E.size links)) (gathered_none (length es))
  all_got = rw (many, ← none) got

  pub pool_live : g.live + unmet met' ≤ E.size links
  pool_live =
      subst (λ (r : Round). r.gathered.live + unmet r.met ≤ E.size links) (sym all_got) (omega (arith, gather_live E (length es) links 0 es (nothing_met (E.size links)) (gathered_none (length es)), nothing_unmet (E.size links)))

  module _ (values : List ℕ) (free : Free) (zero-slot : null_slot_zero E links values ≡ true) where
    pub pool_fault : g.fault.rule ≢ 0 → faulty g.fault ≡ pool_found E links values es free
    unfolding pool_found
    pool_fault h = rw (zero-slot, ← all_got, ne_eqb g.fault.rule 0 h)

    pub pool_idle_found : {found : Found} → g.fault.rule ≡ 0 → found ≡ idle_found (E.size links) values free lists (round g met') (idle_path E links values met' free) → found ≡ pool_found E links values es free
    unfolding pool_found
    pool_idle_found h e = rw (zero-slot, ← all_got, eq-eqb g.fault.rule 0 h, many) e
