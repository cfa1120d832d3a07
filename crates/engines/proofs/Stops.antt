-- Rule 11 over any engine: the walks along the lists stop exactly where a live chain is first broken, and give its list and position.
use mathlib.Core.Path.{◌≡◌, refl, sym, ap, subst, ◌∙◌}
use mathlib.Core.Logic.{◌≢◌, ◌⊎◌, inl, inr}
use mathlib.Core.Bool.{Bool, true, false, ◌&&◌}
use mathlib.Core.List.{List, [], ◌∷◌, ◌++◌, append_assoc}
use Prim.Native.Nat.{ℕ, zero, suc, ◌+◌, ◌<◌, suc-le-suc}
use native.Mathlib.Nat.{le_of_suc-le-suc, not-suc-le-zero, zero-lt-suc}
use native.Mathlib.Omega.{arith}
use lib.Dec.{eqb}
use lib.ListN.{length, take}
use borrow.Author.Tests.{eqb-true, eq-eqb, ne_eqb}
use Rattle.books.specs.declared.Entry.{Entry}
use Rattle.books.specs.Book.{null_slot, entry_at}
use Rattle.books.proofs.Tests.{and_both, not_both}
use Rattle.chains.specs.Chain.{last_or}
use Rattle.chains.proofs.Count.{count-append}
use Rattle.shapes.specs.declared.End.TheVariants.{Front}
use Rattle.shapes.specs.Met.{mark_all}
use Rattle.shapes.specs.Walk.{Path, walkable, Passes}
use Rattle.shapes.specs.Records.{Gathered}
use Rattle.shapes.specs.Shape.{joined_up}
use Rattle.shapes.specs.Faults.{fault, gather_one, Round}
use Rattle.engines.specs.Engine.{Engine}
use Rattle.engines.specs.Sound.{EntryHolds}
use Rattle.engines.specs.Laws.{Lawful}
use Rattle.engines.specs.FirstFault.{Distinct, Chained}
use Rattle.engines.specs.Check.{live_path, ends_well, gather_all}
use Rattle.shapes.proofs.Walks.{walkable_passed}
use Rattle.engines.proofs.Leads.{Leads, BadSlot, Knows, passes_known, distinct_room, distinct_inside, passes_distinct, distinct_part, walk_stands, walk_stops, walk_arrives}
use Rattle.engines.proofs.Gather.{no_chains, chained_more, chained_less, live_fresh, live_only, live_finds, no_lists, gather_goes, gather_stops}

regroup : (taken c : List ℕ) (cs : List (List ℕ)) (xs : List ℕ) → (taken ++ c) ++ (joined_up cs ++ xs) ≡ taken ++ ((c ++ joined_up cs) ++ xs)
regroup taken c cs xs = simp append_assoc

module _ (E : Engine) (links : E.Links) where
  -- the first l of these lists have their sequences; from the head of list l the slots lead to one that may not come, or to an end that is not the tail. The slots `taken` were met before the first list
  pub record Halts (taken : List ℕ) (es : List Entry) (l : ℕ) (chains : List (List ℕ)) (slots : List ℕ) (next : ℕ) : Type 0 where
    pub below : l < length es
    pub chained : Chained E links (take l es) chains
    pub leads : Leads (E.onward Front links) (E.fits links) null_slot (entry_at es l).head slots next
    pub distinct : Distinct (E.size links) (taken ++ (joined_up chains ++ slots))
    pub broken : BadSlot (E.fits links) (E.size links) (taken ++ (joined_up chains ++ slots)) (last_or null_slot slots) next
        ⊎ (next ≡ null_slot) × (last_or null_slot slots ≢ (entry_at es l).tail)

  module _ {taken : List ℕ} {e : Entry} {es : List Entry} {l : ℕ} {c : List ℕ} {cs : List (List ℕ)} {slots : List ℕ} {next : ℕ} where
    halts_more : EntryHolds e c → E.Live links c → Halts (taken ++ c) es l cs slots next → Halts taken (e ∷ es) (suc l) (c ∷ cs) slots next
    halts_more h v H =
        record {
          below = suc-le-suc H.below;
          chained = chained_more h v H.chained;
          leads = H.leads;
          distinct = subst (Distinct (E.size links)) (regroup taken c cs slots) H.distinct;
          broken = subst (λ used. BadSlot (E.fits links) (E.size links) used (last_or null_slot slots) next ⊎ (next ≡ null_slot) × (last_or null_slot slots ≢ (entry_at es l).tail)) (regroup taken c cs slots) H.broken;
        }

    halts_less : Halts taken (e ∷ es) (suc l) (c ∷ cs) slots next → Halts (taken ++ c) es l cs slots next
    halts_less H =
        record {
          below = le_of_suc-le-suc H.below;
          chained = (chained_less H.chained).2;
          leads = H.leads;
          distinct = subst (Distinct (E.size links)) (sym (regroup taken c cs slots)) H.distinct;
          broken = subst (λ used. BadSlot (E.fits links) (E.size links) used (last_or null_slot slots) next ⊎ (next ≡ null_slot) × (last_or null_slot slots ≢ (entry_at es l).tail)) (sym (regroup taken c cs slots)) H.broken;
        }

    -- the first chain is distinct from what was met before
    first_distinct : Halts taken (e ∷ es) (suc l) (c ∷ cs) slots next → Distinct (E.size links) (taken ++ c)
    first_distinct H =
        distinct_part (taken ++ c) ((taken ++ c) ++ (joined_up cs ++ slots)) (λ y. omega (arith, count-append y (taken ++ c) (joined_up cs ++ slots))) (halts_less H).distinct

module _ (E : Engine) (L : Lawful E) (lists : ℕ) (links : E.Links) where
  abbrev Stopped : List Entry → List ℕ → Type 0
  Stopped es taken =
      (l : ℕ) × (cs : List (List ℕ)) × (xs : List ℕ) × (next : ℕ) × Halts E links taken es l cs xs next

  -- where the walks give a fault a chain is broken
  pub gather_halts : (list : ℕ) (es : List Entry) (met : List ℕ) (g : Gathered) (taken : List ℕ) → Knows (E.size links) met taken → Distinct (E.size links) taken
      → walkable (E.size links) met ≡ true → g.fault.rule ≡ 0 → (gather_all E lists links list es met g).gathered.fault.rule ≢ 0
      → (l : ℕ) × (cs : List (List ℕ)) × (xs : List ℕ) × (next : ℕ) × Halts E links taken es l cs xs next
  gather_halts list [] met g taken kn d w z n = absurd (n (ap (λ f. f.rule) (no_lists E lists list links met g).fault ∙ z))
  gather_halts list (e ∷ es) met g taken kn d w z n =
      go (ends_well (live_path E links met e) e) refl
      (λ a b c m. gather_halts (suc list) es (mark_all met (live_path E links met e).slots) (gather_one lists list e (length (live_path E links met e).slots) g) (taken ++ (live_path E links met e).slots) a b c z m)
    where
      c : List ℕ
      c = (live_path E links met e).slots

      F : Passes (E.size links) met c
      F = live_fresh E links met e

      apart : Distinct (E.size links) (taken ++ c)
      apart = passes_distinct (E.size links) met taken kn c d F

      more : ends_well (live_path E links met e) e ≡ true → Stopped es (taken ++ c) → Stopped (e ∷ es) taken
      more q (l, cs, xs, next, H) =
          let (o, t) = and_both (live_path E links met e).ok (eqb (last_or null_slot c) e.tail) q in
          let (hd, lv) = live_only E links met e L o in (
            suc l,
            c ∷ cs,
            xs,
            next,
            halts_more E links (record { head = hd; tail = sym (eqb-true (last_or null_slot c) e.tail t) }) lv H,
          )

      stop : ends_well (live_path E links met e) e ≡ false
          → (next : ℕ) × Leads (E.onward Front links) (E.fits links) 0 e.head c next
          × ((((live_path E links met e).ok ≡ true) × (next ≡ null_slot))
          ⊎ (((live_path E links met e).ok ≡ false) × BadSlot (E.fits links) (E.size links) (taken ++ c) (last_or null_slot c) next))
          → Stopped (e ∷ es) taken
      stop q (next, l, s) = (
        0,
        [],
        c,
        next,
        record { below = zero-lt-suc (length es); chained = no_chains E links; leads = l; distinct = apart; broken = broken s },
      )
        where
          broken : (((live_path E links met e).ok ≡ true) × (next ≡ null_slot))
              ⊎ (((live_path E links met e).ok ≡ false) × BadSlot (E.fits links) (E.size links) (taken ++ c) (last_or null_slot c) next)
              → BadSlot (E.fits links) (E.size links) (taken ++ c) (last_or null_slot c) next ⊎ (next ≡ null_slot) × (last_or null_slot c ≢ e.tail)
          broken (inr (o, b)) = inl b
          broken (inl (o, k)) = inr (k, λ i. not_both _ (rw (o, eq-eqb (last_or null_slot c) e.tail i)) q)

      go : (a : Bool) → ends_well (live_path E links met e) e ≡ a
          → (Knows (E.size links) (mark_all met c) (taken ++ c) → Distinct (E.size links) (taken ++ c) → walkable (E.size links) (mark_all met c) ≡ true
          → (gather_all E lists links (suc list) es (mark_all met c) (gather_one lists list e (length c) g)).gathered.fault.rule ≢ 0
          → Stopped es (taken ++ c))
          → Stopped (e ∷ es) taken
      go false q r = stop q (walk_stands (E.onward Front links) (E.fits links) (E.size links) met taken kn w e.head)
      go true q r =
          more q (r (passes_known (E.size links) met taken kn c F) apart (walkable_passed (E.size links) met c F w)
          (λ k. n (ap (λ (z : Round). z.gathered.fault.rule) (gather_goes E lists links list e es met g q) ∙ k)))

  -- where a chain is broken the walks give that fault
  pub gather_halted : (list : ℕ) (es : List Entry) (met : List ℕ) (g : Gathered) (taken : List ℕ) (l : ℕ) (cs : List (List ℕ)) (xs : List ℕ) (next : ℕ) → Knows (E.size links) met taken
      → walkable (E.size links) met ≡ true → Halts E links taken es l cs xs next
      → (gather_all E lists links list es met g).gathered.fault ≡ fault 11 (list + l) (length xs)
  gather_halted list [] met g taken l cs xs next kn w H = absurd (not-suc-le-zero H.below)
  gather_halted list (e ∷ es) met g taken zero (c ∷ cs) xs next kn w H = absurd (omega (arith, H.chained.lists))
  gather_halted list (e ∷ es) met g taken (suc l) [] xs next kn w H = absurd (omega (arith, H.chained.lists))
  gather_halted list (e ∷ es) met g taken zero [] xs next kn w H = go H.broken
    where
      stops : (ok : Bool) → live_path E links met e ≡ record { ok = ok; slots = xs } → ok && eqb (last_or null_slot xs) e.tail ≡ false
          → (gather_all E lists links list (e ∷ es) met g).gathered.fault ≡ fault 11 (list + 0) (length xs)
      stops ok path q =
          gather_stops E lists links list e es met g (ap (λ (p : Path). ends_well p e) path ∙ q)
          ∙ ap (λ (p : Path). fault 11 list (length p.slots)) path ∙ ap (λ k. fault 11 k (length xs)) (omega arith)

      go : BadSlot (E.fits links) (E.size links) (taken ++ xs) (last_or null_slot xs) next ⊎ (next ≡ null_slot) × (last_or null_slot xs ≢ e.tail)
          → (gather_all E lists links list (e ∷ es) met g).gathered.fault ≡ fault 11 (list + 0) (length xs)
      go (inl b) = stops false (walk_stops (E.onward Front links) (E.fits links) (E.size links) met taken kn w e.head xs H.distinct next H.leads b) refl
      go (inr (z, t)) =
          stops true (walk_arrives (E.onward Front links) (E.fits links) (E.size links) met taken kn w e.head xs H.distinct (rw z at H.leads))
          (ne_eqb (last_or null_slot xs) e.tail t)
  gather_halted list (e ∷ es) met g taken (suc l) (c ∷ cs) xs next kn w H =
      let (holds, lv, rest) = chained_less H.chained in
      let d = first_distinct E links H in
      let path : live_path E links met e ≡ record { ok = true; slots = c } =
      live_finds E links met e L w c holds.head lv
      (distinct_inside (E.size links) met taken kn c d) (distinct_room (E.size links) met taken kn c d) in
      let F : Passes (E.size links) met c = subst (λ (z : Path). Passes (E.size links) met z.slots) path (live_fresh E links met e) in
      let q : ends_well (live_path E links met e) e ≡ true = rw path (eq-eqb (last_or 0 c) e.tail (sym holds.tail)) in
      ap (λ (r : Round). r.gathered.fault) (gather_goes E lists links list e es met g q)
      ∙ ap (λ (z : Path). (gather_all E lists links (suc list) es (mark_all met z.slots) (gather_one lists list e (length z.slots) g)).gathered.fault) path
      ∙ gather_halted (suc list) es (mark_all met c) (gather_one lists list e (length c) g) (taken ++ c) l cs xs next (passes_known (E.size links) met taken kn c F) (walkable_passed (E.size links) met c F w) (halts_less E links H)
      ∙ ap (λ k. fault 11 k (length xs)) (omega arith)
