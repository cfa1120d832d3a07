-- What the stages of the check answer in the code's words is what the definitions give.
use mathlib.Core.Path.{◌≡◌, refl, ap, ◌∙◌}
use mathlib.Core.Logic.{◌≢◌}
use mathlib.Core.Bool.{Bool, true, false, not, ◌&&◌}
use mathlib.Core.List.{List}
use Prim.Native.Nat.{ℕ, zero, suc, ◌+◌, ◌-◌, ◌≤◌, ◌<◌}
use native.Mathlib.Decide.{dec_le}
use native.Mathlib.Numerals.{add-one}
use native.Mathlib.Omega.{arith}
use lib.Dec.{ltb, leb, eqb}
use lib.ListN.{length, length-replicate}
use borrow.Author.Tests.{eq-eqb, ne_eqb, le-leb, lt-leb, lt-ltb, le-ltb}
use Rattle.std.specs.Prelude.{Option, Some, None, is_none, IfSome, find, Result, Ok, Err, IsErrAnd}
use Rattle.std.specs.List.{range_with_len}
use Rattle.std.specs.Option.{option_or, unwrap_or}
use Rattle.std.specs.Bool.{then_some}
use Rattle.books.specs.declared.Free.{Free}
use Rattle.books.specs.declared.Entry.{Entry}
use Rattle.books.specs.declared.Refused.{Refused}
use Rattle.books.specs.declared.Number.TheVariants.{Limits, Counts}
use Rattle.books.specs.Errors.{error_number}
use Rattle.books.specs.Book.{null_slot}
use Rattle.books.proofs.Errors.{number_positive}
use Rattle.books.proofs.Tests.{and_both}
use Rattle.shapes.specs.declared.IdleWalk.{IdleWalk}
use Rattle.shapes.specs.Records.{Fault}
use Rattle.shapes.specs.Met.{is_met_of}
use Rattle.shapes.specs.Faults.{no_fault, lowest_unmet, lowest_so, nothing_met, round, gather_one, idle_fault, spare_fault, count_fault, looked_by}
use Rattle.engines.specs.Check.{idle_path, idle_found}
use Rattle.engines.specs.Walked.{IdleWalked}
use Rattle.xor.specs.Engine.{xor}
use Rattle.pools.specs.declared.gather.Counts.{Counts as Gained}
use Rattle.pools.specs.Found.{fault_by, fault_or, rule_broken_at, lowest_by, gathered_by, ListsBelow, count_one, no_rule_broken, look_found}

-- an error that is handed on
pub handed_on : {A E : Type 0} (r : Result A E) (e : E) → IsErrAnd r (λ x. x ≡ e) → r ≡ Err e
handed_on (Ok a) e h = absurd h
handed_on (Err x) e h = ap (λ y. Err y) h

-- a number that refuses is not 0
pub rule_there : (r : Refused) → (fault_by r).rule ≢ 0
rule_there r z = omega (arith, number_positive r.number, z)

-- ---- the lowest slot that was not met, asked one by one

module _ (met : List ℕ) (size : ℕ) where
  abbrev first_unmet : ℕ → ℕ → ℕ
  first_unmet slot n = unwrap_or (find (λ (s : ℕ). not (is_met_of met s)) (range_with_len slot n)) size

  pub lowest_found : (slot n : ℕ) → slot + n ≡ size → (first_unmet slot n ≡ lowest_unmet met slot n) × (first_unmet slot n ≤ size)
  lowest_found slot zero e = (omega arith, omega arith)
  lowest_found slot (suc n) e = go (is_met_of met slot) refl (lowest_found (slot + 1) n (omega arith))
    where
      go : (b : Bool) → is_met_of met slot ≡ b → (first_unmet (slot + 1) n ≡ lowest_unmet met (slot + 1) n) × (first_unmet (slot + 1) n ≤ size)
          → (first_unmet slot (suc n) ≡ lowest_unmet met slot (suc n)) × (first_unmet slot (suc n) ≤ size)
      go true h r = rw h (r.0 ∙ ap (λ (k : ℕ). lowest_unmet met k n) (add-one slot), r.1)
      go false h r = rw h (refl, omega arith)

-- ---- a list of which something is so

-- one below L is not L
below_only : {lists list : ℕ} → list < lists → eqb list lists ≡ false
below_only {lists} {list} h = ne_eqb list lists (λ e. omega arith)

module _ (lists : ℕ) where
  lowest_adds : (list : ℕ) (so : Bool) (o : Option ℕ) → IfSome o (λ l. l < lists) → lowest_by lists (option_or o (then_some so list)) ≡ lowest_so lists list so (lowest_by lists o)
  lowest_adds list true None h = rw (eq-eqb lists lists refl)
  lowest_adds list false None h = rw (eq-eqb lists lists refl)
  lowest_adds list so (Some l) h = rw (below_only h)

  still_below : (list : ℕ) (so : Bool) (o : Option ℕ) → list < lists → IfSome o (λ l. l < lists) → IfSome (option_or o (then_some so list)) (λ l. l < lists)
  still_below list true None b h = b
  still_below list false None b h = tt
  still_below list so (Some l) b h = h

  -- one list more, in both words
  pub one_list_more : (list : ℕ) (e : Entry) (many : ℕ) (c : Gained) → ListsBelow lists c → gathered_by lists (count_one list e many c) ≡ gather_one lists list e many (gathered_by lists c)
  one_list_more list e many c P =
      λ i. record {
        fault = no_fault;
        live = c.live + many;
        lacks = c.lacks + (e.share - many);
        over = lowest_adds list (ltb e.limit many) c.over P.over i;
        wrong = lowest_adds list (not (eqb e.length many)) c.wrong P.wrong i;
      }

  pub still_in : (list : ℕ) (e : Entry) (many : ℕ) (c : Gained) → list < lists → ListsBelow lists c → ListsBelow lists (count_one list e many c)
  still_in list e many c b P =
      record {
        over = still_below list (ltb e.limit many) c.over b P.over;
        wrong = still_below list (not (eqb e.length many)) c.wrong b P.wrong;
      }

  -- ---- rules 15 and 16

  pub spare_said : (over : Option ℕ) (lacks free : ℕ) → IfSome over (λ l. l < lists) → (later : Fault)
      → fault_or (rule_broken_at Limits (option_or over (then_some (ltb free lacks) lists))) later ≡ spare_fault lists (lowest_by lists over) lacks free later
  unfolding spare_fault
  spare_said (Some l) lacks free h later = rw (below_only h)
  spare_said None lacks free h later = go (dec_le lacks free)
    where
      go : Dec (lacks ≤ free) → fault_or (rule_broken_at Limits (then_some (ltb free lacks) lists)) later ≡ spare_fault lists lists lacks free later
      go (yes p) = rw (eq-eqb lists lists refl, le-leb lacks free p, le-ltb free lacks p)
      go (no d) = let p : free < lacks = omega (arith, d) in rw (eq-eqb lists lists refl, lt-leb lacks free p, lt-ltb free lacks p)

  pub count_said : (wrong : Option ℕ) (stored free : ℕ) → IfSome wrong (λ l. l < lists)
      → fault_or (rule_broken_at Counts (option_or wrong (then_some (not (eqb stored free)) lists))) no_fault ≡ count_fault lists (lowest_by lists wrong) stored free
  unfolding count_fault
  count_said (Some l) stored free h = rw (below_only h)
  count_said None stored free h = go (eqb stored free) refl
    where
      go : (x : Bool) → eqb stored free ≡ x → fault_or (rule_broken_at Counts (then_some (not (eqb stored free)) lists)) no_fault ≡ count_fault lists lists stored free
      go true e = rw (eq-eqb lists lists refl, e)
      go false e = rw (eq-eqb lists lists refl, e)

  -- ---- none of the rules 12 to 16

  in_turn : (a b c d e f g : Bool) → a && b && c && d && e && f && g ≡ true → (a ≡ true) × (b ≡ true) × (c ≡ true) × (d ≡ true) × (e ≡ true) × (f ≡ true) × (g ≡ true)
  in_turn a b c d e f g h =
      let p = and_both (a && b && c && d && e && f) g h in
      let q = and_both (a && b && c && d && e) f p.0 in
      let r = and_both (a && b && c && d) e q.0 in
      let s = and_both (a && b && c) d r.0 in
      let t = and_both (a && b) c s.0 in
      let u = and_both a b t.0 in
      (u.0, u.1, t.1, s.1, r.1, q.1, p.1)

  no_list : (o : Option ℕ) → is_none o ≡ true → eqb (lowest_by lists o) lists ≡ true
  no_list None h = eq-eqb lists lists refl
  no_list (Some l) h = absurd (let z : ◌≡◌ {A = ℕ} 0 1 = cc in omega arith)

  pub none_said : (size : ℕ) (c : Gained) (idle : IdleWalk) (stored : ℕ) (met : List ℕ) → no_rule_broken size c idle stored ≡ true
      → idle_fault met size lists (gathered_by lists c) idle.ok idle.length idle.unwiped stored ≡ no_fault
  unfolding count_fault spare_fault idle_fault
  none_said size c idle stored met h =
      let t = in_turn (eqb idle.unwiped null_slot) idle.ok (eqb (c.live + idle.length + 1) size) (is_none c.over) (is_none c.wrong) (eqb stored idle.length) (leb c.lacks idle.length) h in
      rw (t.1, t.2, t.0, no_list c.over t.3, t.6, no_list c.wrong t.4, t.5)

-- ---- what a look tells where the check found this

-- no fault, and what the lists lack
pub found_none : (f : Fault) (lacks : ℕ) → f ≡ no_fault → looked_by (Ok lacks) ≡ look_found (record { fault = f; lacks = lacks })
found_none f lacks e = rw e

-- a fault, which the error names
pub found_one : (f : Fault) (lacks : ℕ) (r : Refused) → fault_by r ≡ f → looked_by (Err r) ≡ look_found (record { fault = f; lacks = lacks })
found_one f lacks r e = rw (← e, ne_eqb (error_number r.number) 0 (rule_there r))

-- what is found in the idle stages, as the walk along the idle chain has it
module _ {links values met met' : List ℕ} {free : Free} {idle : IdleWalk} (W : IdleWalked xor links values met free idle met') (lists : ℕ) (c : Gained) where
  pub idle_as : record { fault = idle_fault met' (length links) lists (gathered_by lists c) idle.ok idle.length idle.unwiped free.count; lacks = c.lacks }
      ≡ idle_found (length links) values free lists (round (gathered_by lists c) met) (idle_path xor links values met free)
  idle_as = rw (W.marked, W.ok, W.counted, W.unwiped) refl

-- the record of a pool in which nothing is met has a place for each slot
pub nothing_length : (size : ℕ) {met : List ℕ} → met ≡ nothing_met size → length met ≡ size
unfolding nothing_met
nothing_length size e = ap length e ∙ length-replicate size 0
