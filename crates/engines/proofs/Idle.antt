-- The walk along the idle chain over any engine: where it comes to its end, and where it stops; and the stages of the check after it.
use mathlib.Core.Path.{◌≡◌, refl, sym, ap, ◌∙◌}
use mathlib.Core.Logic.{◌≢◌, ◌⊎◌, inl, inr}
use mathlib.Core.Bool.{true, false}
use mathlib.Core.List.{List, ◌++◌}
use Prim.Native.Nat.{ℕ, ◌+◌, ◌-◌, ◌≤◌, ◌<◌}
use lib.Dec.{eqb}
use lib.ListN.{length}
use borrow.Author.Tests.{eq-eqb, ne_eqb, le-leb, lt-leb}
use Rattle.books.specs.declared.Free.{Free}
use Rattle.books.specs.Book.{null_slot}
use Rattle.books.proofs.Tests.{not_both, cond_ind}
use Rattle.chains.specs.Count.{count}
use Rattle.chains.specs.Chain.{first_or, last_or}
use Rattle.shapes.specs.Met.{seen}
use Rattle.shapes.specs.Walk.{Path, walkable, walk_from, Passes}
use Rattle.shapes.specs.Records.{Gathered}
use Rattle.shapes.specs.Faults.{fault, no_fault, lowest_unmet, count_fault, spare_fault, idle_fault}
use Rattle.engines.specs.Engine.{Engine}
use Rattle.engines.specs.Laws.{Lawful}
use Rattle.engines.specs.FirstFault.{Distinct}
use Rattle.engines.specs.Check.{idle_path}
use Rattle.shapes.proofs.Walks.{fresh_passes, walk_fresh, walk_only, walk_finds}
use Rattle.engines.proofs.Leads.{Leads, BadSlot, Knows, walk_stands, walk_stops}

module _ (E : Engine) (links : E.Links) (values met : List ℕ) (free : Free) where
  pub idle_fresh : Passes (E.size links) met (idle_path E links values met free).slots
  unfolding idle_path
  idle_fresh =
      cond_ind (λ (p : Path). Passes (E.size links) met p.slots) (eqb (E.size links) (length values))
      (λ s. walk_fresh (E.idle_onward links) (E.idle_fits links) (E.size links) met free.head)
      (λ s. fresh_passes (E.size links) met _ tt)

  pub idle_only : Lawful E → (idle_path E links values met free).ok ≡ true → (free.head ≡ first_or 0 (idle_path E links values met free).slots) × E.Idle links (idle_path E links values met free).slots
  unfolding idle_path
  idle_only L =
      cond_ind (λ (p : Path). p.ok ≡ true → (free.head ≡ first_or 0 p.slots) × E.Idle links p.slots) (eqb (E.size links) (length values))
      (λ s h. let (e, t) = walk_only (E.idle_onward links) (E.idle_fits links) (E.size links) met free.head h in (e, (L.idle_tied links _).1 t))
      (λ s h. not_both true refl (sym h))

  module _ (same : E.size links ≡ length values) (walks : walkable (E.size links) met ≡ true) where
    pub idle_finds : Lawful E → (xs : List ℕ) → free.head ≡ first_or 0 xs → E.Idle links xs
        → ((y : ℕ) → 0 < count y xs → (0 < y) × (y < E.size links)) → ((y : ℕ) → seen met y + count y xs ≤ 1)
        → idle_path E links values met free ≡ record { ok = true; slots = xs }
    unfolding idle_path
    idle_finds L xs e l r u =
        rw (eq-eqb _ _ same)
        (ap (walk_from (E.idle_onward links) (E.idle_fits links) (E.size links) met) e
        ∙ walk_finds (E.idle_onward links) (E.idle_fits links) (E.size links) met xs walks ((L.idle_tied links xs).0 l) r u)

    module _ (taken : List ℕ) (known : Knows (E.size links) met taken) where
      -- one that does not come to its end stands before a bad slot
      pub idle_stands : (idle_path E links values met free).ok ≡ false
          → (next : ℕ) × Leads (E.idle_onward links) (E.idle_fits links) 0 free.head (idle_path E links values met free).slots next
          × BadSlot (E.idle_fits links) (E.size links) (taken ++ (idle_path E links values met free).slots) (last_or null_slot (idle_path E links values met free).slots) next
      unfolding idle_path
      idle_stands = rw (eq-eqb _ _ same) (λ h. go h (walk_stands (E.idle_onward links) (E.idle_fits links) (E.size links) met taken known walks free.head))
        where
          path : Path
          path = walk_from (E.idle_onward links) (E.idle_fits links) (E.size links) met free.head

          go : path.ok ≡ false
              → (next : ℕ) × Leads (E.idle_onward links) (E.idle_fits links) 0 free.head path.slots next
              × (((path.ok ≡ true) × (next ≡ null_slot)) ⊎ ((path.ok ≡ false) × BadSlot (E.idle_fits links) (E.size links) (taken ++ path.slots) (last_or null_slot path.slots) next))
              → (next : ℕ) × Leads (E.idle_onward links) (E.idle_fits links) 0 free.head path.slots next
              × BadSlot (E.idle_fits links) (E.size links) (taken ++ path.slots) (last_or null_slot path.slots) next
          go h (next, l, inl (o, z)) = not_both _ o h
          go h (next, l, inr (o, b)) = (next, l, b)

      -- and the slots before a bad one are passed
      pub idle_stops : (xs : List ℕ) → Distinct (E.size links) (taken ++ xs) → (next : ℕ) → Leads (E.idle_onward links) (E.idle_fits links) 0 free.head xs next
          → BadSlot (E.idle_fits links) (E.size links) (taken ++ xs) (last_or null_slot xs) next → idle_path E links values met free ≡ record { ok = false; slots = xs }
      unfolding idle_path
      idle_stops xs d next l b = rw (eq-eqb _ _ same) (walk_stops (E.idle_onward links) (E.idle_fits links) (E.size links) met taken known walks free.head xs d next l b)

-- ---- the stages after it

module _ (met : List ℕ) (size lists : ℕ) (g : Gathered) (free unwiped stored : ℕ) where
  pub stage_12 : idle_fault met size lists g false free unwiped stored ≡ fault 12 0 free
  unfolding idle_fault
  stage_12 = refl

  pub stage_13 : g.live + free + 1 ≢ size → idle_fault met size lists g true free unwiped stored ≡ fault 13 0 (lowest_unmet met 1 (size - 1))
  unfolding idle_fault
  stage_13 n = rw (ne_eqb _ _ n)

  module _ (all : g.live + free + 1 ≡ size) where
    pub stage_14 : unwiped ≢ null_slot → idle_fault met size lists g true free unwiped stored ≡ fault 14 0 unwiped
    unfolding idle_fault
    stage_14 n = rw (eq-eqb _ _ all, ne_eqb _ _ n)

    module _ (clean : unwiped ≡ null_slot) where
      pub stage_over : g.over ≢ lists → idle_fault met size lists g true free unwiped stored ≡ fault 15 g.over 0
      unfolding idle_fault spare_fault
      stage_over n = rw (eq-eqb _ _ all, eq-eqb _ _ clean, ne_eqb _ _ n)

      module _ (short : g.over ≡ lists) where
        pub stage_short : free < g.lacks → idle_fault met size lists g true free unwiped stored ≡ fault 15 lists 0
        unfolding idle_fault spare_fault
        stage_short h = rw (eq-eqb _ _ all, eq-eqb _ _ clean, eq-eqb _ _ short, lt-leb _ _ h)

        module _ (enough : g.lacks ≤ free) where
          counted : idle_fault met size lists g true free unwiped stored ≡ count_fault lists g.wrong stored free
          unfolding idle_fault spare_fault
          counted = rw (eq-eqb _ _ all, eq-eqb _ _ clean, eq-eqb _ _ short, le-leb _ _ enough)

          pub stage_wrong : g.wrong ≢ lists → idle_fault met size lists g true free unwiped stored ≡ fault 16 g.wrong 0
          unfolding count_fault
          stage_wrong n = counted ∙ rw (ne_eqb _ _ n)

          module _ (right : g.wrong ≡ lists) where
            pub stage_free : stored ≢ free → idle_fault met size lists g true free unwiped stored ≡ fault 16 lists 0
            unfolding count_fault
            stage_free n = counted ∙ rw (eq-eqb _ _ right, ne_eqb _ _ n)

            pub stage_fine : stored ≡ free → idle_fault met size lists g true free unwiped stored ≡ no_fault
            unfolding count_fault
            stage_fine e = counted ∙ rw (eq-eqb _ _ right, eq-eqb _ _ e)
