-- What stands at the positions of a chain whose first slots are known, over any engine: which positions are reached, and which are wrong.
use mathlib.Core.Path.{◌≡◌, refl, sym, ap, subst, ◌∙◌}
use mathlib.Core.Logic.{◌↔◌, ◌≢◌, ◌⊎◌, inl, inr}
use mathlib.Core.Bool.{Bool, true, false}
use mathlib.Core.List.{List, [], ◌∷◌, ◌++◌}
use Prim.Native.Nat.{ℕ, zero, suc, ◌≤◌, ◌<◌, suc-le-suc}
use native.Mathlib.Nat.{le_of_suc-le-suc, not-suc-le-zero, zero-lt-suc}
use native.Mathlib.Decide.{dec_lt, ℕ_discrete}
use native.Mathlib.Omega.{arith}
use lib.ListN.{length, get_or}
use Rattle.books.specs.Book.{null_slot}
use Rattle.books.proofs.Tests.{not_both}
use Rattle.chains.specs.Count.{hit, count}
use Rattle.chains.specs.Chain.{first_or, last_or}
use Rattle.chains.proofs.Count.{hit_same, hit_other, count-append}
use Rattle.shapes.specs.Walk.{Tied}
use Rattle.engines.specs.Positions.{Stand, stand_at, Reached, StandsIn, MetBefore, WrongSlot}
use Rattle.engines.specs.FirstFault.{Distinct}
use Rattle.engines.proofs.Leads.{Leads, BadSlot}

-- ---- a sequence, place by place

-- what stands at a place is in the sequence
at_in : (xs : List ℕ) (j : ℕ) → j < length xs → 0 < count (get_or xs j 0) xs
at_in [] j h = absurd (not-suc-le-zero h)
at_in (x ∷ xs) zero h = omega (arith, hit_same x)
at_in (x ∷ xs) (suc j) h = omega (arith, at_in xs j (le_of_suc-le-suc h))

-- and what is in it stands at a place
in_at : (y : ℕ) (xs : List ℕ) → 0 < count y xs → (j : ℕ) × (j < length xs) × (get_or xs j 0 ≡ y)
in_at y [] h = absurd (not-suc-le-zero h)
in_at y (x ∷ xs) h = go (ℕ_discrete y x) (in_at y xs)
  where
    go : Dec (y ≡ x) → (0 < count y xs → (j : ℕ) × (j < length xs) × (get_or xs j 0 ≡ y)) → (j : ℕ) × (j < length (x ∷ xs)) × (get_or (x ∷ xs) j 0 ≡ y)
    go (yes e) r = (0, zero-lt-suc (length xs), sym e)
    go (no d) r = let (j, b, e) = r (omega (arith, hit_other y x d)) in (suc j, suc-le-suc b, e)

-- what stands at two places is in it twice
at_two : (xs : List ℕ) (m j : ℕ) → m < j → j < length xs → get_or xs m 0 ≡ get_or xs j 0 → 1 < count (get_or xs j 0) xs
at_two [] m j h b e = absurd (not-suc-le-zero b)
at_two (x ∷ xs) zero zero h b e = absurd (not-suc-le-zero h)
at_two (x ∷ xs) (suc m) zero h b e = absurd (not-suc-le-zero h)
at_two (x ∷ xs) zero (suc j) h b e = omega (arith, at_in xs j (le_of_suc-le-suc b), hit_same x, ap (λ z. hit z x) e)
at_two (x ∷ xs) (suc m) (suc j) h b e = omega (arith, at_two xs m j (le_of_suc-le-suc h) (le_of_suc-le-suc b) e)

-- ---- a chain whose first slots are `xs`, and `next` after them

pub record Runs (chain : ℕ → Stand) (fits : ℕ → ℕ → Bool) (xs : List ℕ) (next : ℕ) : Type 0 where
  pub slots : (j : ℕ) → j < length xs → (chain j).slot ≡ get_or xs j 0
  pub fit : (j : ℕ) → j < length xs → fits (chain j).before (chain j).slot ≡ true
  pub after : (chain (length xs)).slot ≡ next
  pub last : (chain (length xs)).before ≡ last_or null_slot xs

module _ (onward : ℕ → ℕ → ℕ) (fits : ℕ → ℕ → Bool) where
  abbrev stand : ℕ → ℕ → Stand
  stand p slot = record { before = p; slot = slot }

  abbrev step : Stand → Stand
  step s = stand s.slot (onward s.before s.slot)

  -- the positions from any slot on
  abbrev from : Stand → ℕ → Stand
  from s zero = s
  from s (suc i) = step (from s i)

  from_step : (s : Stand) (i : ℕ) → from s (suc i) ≡ from (step s) i
  from_step s zero = refl
  from_step s (suc i) = ap step (from_step s i)

  from_next : (p slot x i : ℕ) → slot ≡ x → from (stand p slot) (suc i) ≡ from (stand x (onward p x)) i
  from_next p slot x i e = from_step (stand p slot) i ∙ ap (λ (z : ℕ). from (stand z (onward p z)) i) e

  pub from_head : (head i : ℕ) → from (stand 0 head) i ≡ stand_at onward head i
  from_head head zero = refl
  from_head head (suc i) = ap step (from_head head i)

  -- slots that lead on stand at the positions
  leads_slots : (p slot : ℕ) (xs : List ℕ) (next : ℕ) → Leads onward fits p slot xs next → (j : ℕ) → j < length xs
      → ((from (stand p slot) j).slot ≡ get_or xs j 0) × (fits (from (stand p slot) j).before (from (stand p slot) j).slot ≡ true)
  leads_slots p slot [] next l j h = absurd (not-suc-le-zero h)
  leads_slots p slot (x ∷ xs) next l zero h = (l.0, rw l.0 l.1)
  leads_slots p slot (x ∷ xs) next l (suc j) h =
      subst (λ (s : Stand). (s.slot ≡ get_or xs j 0) × (fits s.before s.slot ≡ true)) (sym (from_next p slot x j l.0))
      (leads_slots x (onward p x) xs next l.2 j (le_of_suc-le-suc h))

  leads_after : (p slot : ℕ) (xs : List ℕ) (next : ℕ) → Leads onward fits p slot xs next
      → ((from (stand p slot) (length xs)).slot ≡ next) × ((from (stand p slot) (length xs)).before ≡ last_or p xs)
  leads_after p slot [] next l = (l, refl)
  leads_after p slot (x ∷ xs) next l =
      subst (λ (s : Stand). (s.slot ≡ next) × (s.before ≡ last_or x xs)) (sym (from_next p slot x (length xs) l.0)) (leads_after x (onward p x) xs next l.2)

  pub leads_runs : (head : ℕ) (xs : List ℕ) (next : ℕ) → Leads onward fits null_slot head xs next → Runs (stand_at onward head) fits xs next
  leads_runs head xs next l =
      record {
        slots = λ j h. rw (from_head head j) at (leads_slots 0 head xs next l j h).0;
        fit = λ j h. rw (from_head head j) at (leads_slots 0 head xs next l j h).1;
        after = rw (from_head head (length xs)) at (leads_after 0 head xs next l).0;
        last = rw (from_head head (length xs)) at (leads_after 0 head xs next l).1;
      }

  -- a tied sequence leads to 0
  tied_leads : (p : ℕ) (xs : List ℕ) → Tied onward fits p xs → Leads onward fits p (first_or 0 xs) xs 0
  tied_leads p [] t = refl
  tied_leads p (x ∷ xs) t = (refl, t.0, rw t.1 (tied_leads x xs t.2))

  pub tied_runs : (head : ℕ) (xs : List ℕ) → head ≡ first_or 0 xs → Tied onward fits 0 xs → Runs (stand_at onward head) fits xs 0
  tied_runs head xs e t = rw e (leads_runs (first_or 0 xs) xs 0 (tied_leads 0 xs t))

-- ---- which positions are reached and which are wrong, where `taken` are the slots of the chains before

module _ {chain : ℕ → Stand} {fits : ℕ → ℕ → Bool} {xs : List ℕ} {next : ℕ} (R : Runs chain fits xs next) {size : ℕ} (taken : List ℕ) (D : Distinct size (taken ++ xs)) where
  pub runs_inside : (j : ℕ) → j < length xs → (0 < (chain j).slot) × ((chain j).slot < size)
  runs_inside j h = rw (R.slots j h) (D.inside (get_or xs j 0) (omega (arith, at_in xs j h, count-append (get_or xs j 0) taken xs)))

  pub runs_reached : (i : ℕ) → i ≤ length xs → Reached chain i
  runs_reached i h j b z = omega (arith, runs_inside j (omega arith))

  -- the chain ends behind them, so no position is reached there
  pub runs_short : next ≡ null_slot → (i : ℕ) → Reached chain i → i ≤ length xs
  runs_short z i r = go (dec_lt (length xs) i)
    where
      go : Dec (length xs < i) → i ≤ length xs
      go (yes h) = absurd (r (length xs) h (R.after ∙ z))
      go (no h) = omega arith

  pub runs_some : next ≡ null_slot → (i : ℕ) → Reached chain i → (chain i).slot ≢ null_slot → i < length xs
  runs_some z i r n = go (ℕ_discrete i (length xs)) (runs_short z i r)
    where
      go : Dec (i ≡ length xs) → i ≤ length xs → i < length xs
      go (yes e) h = absurd (n (ap (λ k. (chain k).slot) e ∙ R.after ∙ z))
      go (no d) h = omega arith

  -- it ends just behind them
  pub runs_end : next ≡ null_slot → (i : ℕ) → Reached chain i → (chain i).slot ≡ null_slot → i ≡ length xs
  runs_end z i r e = go (dec_lt i (length xs)) (runs_short z i r)
    where
      go : Dec (i < length xs) → i ≤ length xs → i ≡ length xs
      go (yes h) k = absurd (omega (arith, runs_inside i h))
      go (no h) k = omega arith

  -- its slots are just these
  pub runs_stands : next ≡ null_slot → (y : ℕ) → StandsIn chain y ↔ 0 < count y xs
  runs_stands z y = (to, of)
    where
      to : StandsIn chain y → 0 < count y xs
      to S = let h = runs_some z S.place S.reached (λ k. S.some (sym S.there ∙ k)) in rw (sym (R.slots S.place h) ∙ S.there) at (at_in xs S.place h)

      of : 0 < count y xs → StandsIn chain y
      of h =
          let (j, b, e) = in_at y xs h in
          record {
            some = λ k. omega (arith, runs_inside j b, R.slots j b);
            place = j;
            reached = runs_reached j (omega arith);
            there = R.slots j b ∙ e;
          }

  module _ {Earlier : ℕ → Type 0} (known : (y : ℕ) → Earlier y ↔ 0 < count y taken) where
    -- none of them is wrong
    pub runs_right : (i : ℕ) → i < length xs → WrongSlot chain fits size Earlier i → ⊥
    runs_right i h W = elim W.wrong [ inl k ↦ omega (arith, runs_inside i h) | inr (inl (inl k)) ↦ own k.0 k.1 k.2 | inr (inl (inr k)) ↦ before k | inr (inr k) ↦ not_both _ (R.fit i h) k ]
      where
        own : (j : ℕ) → j < i → (chain j).slot ≡ (chain i).slot → ⊥
        own j b e =
            omega (arith, at_two xs j i b h (sym (R.slots j (omega arith)) ∙ e ∙ R.slots i h), count-append (get_or xs i 0) taken xs, D.once (get_or xs i 0))

        before : Earlier (chain i).slot → ⊥
        before e =
            let k : 0 < count (get_or xs i 0) taken = rw (R.slots i h) at ((known (chain i).slot).0 e) in
            omega (arith, at_in xs i h, count-append (get_or xs i 0) taken xs, D.once (get_or xs i 0))

    -- and the one after them is, where it is bad
    pub runs_wrong : BadSlot fits size (taken ++ xs) (last_or null_slot xs) next → WrongSlot chain fits size Earlier (length xs)
    runs_wrong b =
        record {
          some = λ k. b.some (sym R.after ∙ k);
          wrong = elim b.bad [ inl k ↦ inl (omega (arith, R.after)) | inr (inl k) ↦ inr (inl (met (dec_lt 0 (count next xs)) k)) | inr (inr k) ↦ inr (inr (rw (R.last, R.after) k)) ];
        }
      where
        met : Dec (0 < count next xs) → 0 < count next (taken ++ xs) → MetBefore chain Earlier (length xs) (chain (length xs)).slot
        met (yes h) k = let (j, c, e) = in_at next xs h in inl (j, c, R.slots j c ∙ e ∙ sym R.after)
        met (no h) k = inr (subst Earlier (sym R.after) ((known next).1 (omega (arith, count-append next taken xs))))
