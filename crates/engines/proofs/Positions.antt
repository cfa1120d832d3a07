-- Rules 11 and 12 over any engine: the first position that is wrong is where slots that lead on from the head come to one that may not come, or to an end that is not the tail.
use mathlib.Core.Path.{◌≡◌, refl, sym, ap, subst, ◌∙◌}
use mathlib.Core.Logic.{◌↔◌, ◌≢◌, ◌⊎◌, inl, inr}
use mathlib.Core.Bool.{Bool, true, false}
use mathlib.Core.List.{List, [], ◌∷◌, ◌++◌}
use Prim.Native.Nat.{ℕ, zero, suc, ◌≤◌, ◌<◌, suc-le-suc}
use native.Mathlib.Nat.{not-suc-le-zero, zero-lt-suc}
use native.Mathlib.Decide.{dec_lt, ℕ_discrete}
use native.Mathlib.Omega.{arith}
use lib.ListN.{length, get_or, take}
use lib.Seq.{length-take-le, take-length, get_or-take}
use Rattle.books.specs.declared.Free.{Free}
use Rattle.books.specs.declared.Entry.{Entry}
use Rattle.books.specs.Book.{null_slot, zero_entry, entry_at}
use Rattle.chains.specs.Count.{count}
use Rattle.chains.specs.Chain.{last_or}
use Rattle.chains.proofs.Count.{count-append}
use Rattle.shapes.specs.declared.End.TheVariants.{Front}
use Rattle.shapes.specs.Walk.{walk_from}
use Rattle.shapes.proofs.Walks.{walk_fresh}
use Rattle.shapes.specs.Shape.{joined_up}
use Rattle.shapes.proofs.Shape.{joined_part}
use Rattle.shapes.specs.Faults.{nothing_met, gathered_none}
use Rattle.engines.specs.Engine.{Engine}
use Rattle.engines.specs.Sound.{EntryHolds}
use Rattle.engines.specs.Laws.{Lawful}
use Rattle.engines.specs.Positions.{live_stand, InListBefore, WrongSlot, WrongTail, WrongLive, FirstWrongLive, idle_stand, WrongIdle, FirstWrongIdle}
use Rattle.engines.specs.FirstFault.{Distinct, Chained}
use Rattle.engines.proofs.Leads.{Leads, BadSlot, distinct_part, passes_distinct, walk_stands}
use Rattle.engines.proofs.Standing.{Runs, leads_runs, tied_runs, runs_inside, runs_reached, runs_some, runs_end, runs_stands, runs_right, runs_wrong}
use Rattle.engines.proofs.Stops.{Halts, gather_halts}
use Rattle.engines.proofs.Chains.{nothing_seen, nothing_walkable, round_of, round_walkable, round_told, chained_known}

-- ---- sequences one after the other

-- what is in all of them together is in one
in_list : (y : ℕ) (cs : List (List ℕ)) → 0 < count y (joined_up cs) → (k : ℕ) × (k < length cs) × (0 < count y (get_or cs k []))
in_list y [] h = absurd (not-suc-le-zero h)
in_list y (xs ∷ cs) h = go (dec_lt 0 (count y xs)) (in_list y cs)
  where
    go : Dec (0 < count y xs) → (0 < count y (joined_up cs) → (k : ℕ) × (k < length cs) × (0 < count y (get_or cs k [])))
        → (k : ℕ) × (k < length (xs ∷ cs)) × (0 < count y (get_or (xs ∷ cs) k []))
    go (yes p) r = (0, zero-lt-suc (length cs), p)
    go (no n) r = let (k, b, c) = r (omega (arith, count-append y xs (joined_up cs))) in (suc k, suc-le-suc b, c)

-- the first k of them and the next one are a part
first_part : (cs : List (List ℕ)) (k y : ℕ) → count y (joined_up (take k cs) ++ get_or cs k []) ≤ count y (joined_up cs)
first_part [] zero y = omega arith
first_part [] (suc k) y = omega arith
first_part (xs ∷ cs) zero y = omega (arith, count-append y xs (joined_up cs))
first_part (xs ∷ cs) (suc k) y =
    omega (arith, first_part cs k y, count-append y xs (joined_up cs), count-append y (xs ++ joined_up (take k cs)) (get_or cs k []), count-append y xs (joined_up (take k cs)), count-append y (joined_up (take k cs)) (get_or cs k []))

-- as `Halts`, for the free chain: all lists have their sequences
pub record IdleHalts (E : Engine) (links : E.Links) (es : List Entry) (free : Free) (cs : List (List ℕ)) (xs : List ℕ) (next : ℕ) : Type 0 where
  pub chained : Chained E links es cs
  pub leads : Leads (E.idle_onward links) (E.idle_fits links) null_slot free.head xs next
  pub distinct : Distinct (E.size links) (joined_up cs ++ xs)
  pub broken : BadSlot (E.idle_fits links) (E.size links) (joined_up cs ++ xs) (last_or null_slot xs) next

-- ---- where lists have sequences

module _ {E : Engine} (L : Lawful E) (links : E.Links) (es : List Entry) where
  module _ (l : ℕ) (few : l ≤ length es) (cs : List (List ℕ)) (C : Chained E links (take l es) cs) (D : Distinct (E.size links) (joined_up cs)) where
    as_many_lem : length cs ≡ l
    as_many_lem = C.lists ∙ length-take-le l es few

    module _ (k : ℕ) (below : k < l) where
      inside : k < length (take l es)
      inside = omega (arith, length-take-le l es few)

      same_entry_lem : entry_at (take l es) k ≡ entry_at es k
      same_entry_lem = get_or-take l es k zero_entry below

      list_runs : Runs (live_stand E links es k) (E.fits links) (get_or cs k []) 0
      list_runs =
          tied_runs (E.onward Front links) (E.fits links) (entry_at es k).head (get_or cs k [])
          (ap (λ (e : Entry). e.head) (sym same_entry_lem) ∙ (C.entry k inside).head) ((L.live_tied links (get_or cs k [])).0 (C.live k inside))

      list_tail : (entry_at es k).tail ≡ last_or 0 (get_or cs k [])
      list_tail = ap (λ (e : Entry). e.tail) (sym same_entry_lem) ∙ (C.entry k inside).tail

      list_distinct : Distinct (E.size links) (get_or cs k [])
      list_distinct = distinct_part (get_or cs k []) (joined_up cs) (joined_part cs k) D

      chained_first : Chained E links (take k es) (take k cs)
      chained_first =
          record {
            lists = length-take-le k cs (omega (arith, as_many_lem)) ∙ sym (length-take-le k es (omega arith));
            entry = λ m b. let c : m < k = omega (arith, length-take-le k es (omega arith)) in
                subst (λ (e : Entry). EntryHolds e (get_or (take k cs) m [])) (get_or-take l es m zero_entry (omega arith) ∙ sym (get_or-take k es m zero_entry c))
                (rw (get_or-take k cs m [] c) (C.entry m (omega (arith, length-take-le l es few))));
            live = λ m b. let c : m < k = omega (arith, length-take-le k es (omega arith)) in rw (get_or-take k cs m [] c) (C.live m (omega (arith, length-take-le l es few)));
          }

    -- the slots of these lists are those of the sequences
    pub earlier_known : (y : ℕ) → InListBefore E links es l y ↔ 0 < count y (joined_up cs)
    earlier_known y = (
      λ (k, b, S). omega (arith, (runs_stands (list_runs k b) [] (list_distinct k b) refl y).0 S, joined_part cs k y),
      λ h. let (k, c, p) = in_list y cs h in let b : k < l = omega (arith, as_many_lem) in (k, b, (runs_stands (list_runs k b) [] (list_distinct k b) refl y).1 p),
    )

  -- and no position of them is wrong
  pub none_wrong : (l : ℕ) → l ≤ length es → (cs : List (List ℕ)) → Chained E links (take l es) cs → Distinct (E.size links) (joined_up cs) → (k : ℕ) → k < l → (j : ℕ) → WrongLive E links es k j → ⊥
  none_wrong l few cs C D k b j W = go W.wrong
    where
      taken : List ℕ
      taken = joined_up (take k cs)

      R : Runs (live_stand E links es k) (E.fits links) (get_or cs k []) 0
      R = list_runs l few cs C D k b

      A : Distinct (E.size links) (taken ++ get_or cs k [])
      A = distinct_part (taken ++ get_or cs k []) (joined_up cs) (first_part cs k) D

      known : (y : ℕ) → InListBefore E links es k y ↔ 0 < count y taken
      known =
          earlier_known k (omega arith) (take k cs) (chained_first l few cs C D k b)
          (distinct_part taken (taken ++ get_or cs k []) (λ y. omega (arith, count-append y taken (get_or cs k []))) A)

      go : WrongSlot (live_stand E links es k) (E.fits links) (E.size links) (InListBefore E links es k) j ⊎ WrongTail E links es k j → ⊥
      go (inl w) = runs_right R taken A known j (runs_some R taken A refl j W.reached w.some) w
      go (inr t) =
          let e = runs_end R taken A refl j W.reached t.ended in
          t.other (ap (λ i. (live_stand E links es k i).before) e ∙ R.last ∙ sym (list_tail l few cs C D k b))

  -- ---- where a chain is broken

  -- a list that halts is wrong there, and nowhere before
  pub halts_first : {l : ℕ} {cs : List (List ℕ)} {xs : List ℕ} {next : ℕ} → Halts E links [] es l cs xs next → FirstWrongLive E links es l (length xs)
  halts_first {l} {cs} {xs} {next} H =
      record {
        below = H.below;
        here = record { reached = runs_reached R (joined_up cs) H.distinct (length xs) (omega arith); wrong = here H.broken };
        sooner = λ j b W. sooner j (omega arith) W.wrong;
        lists_before = λ k b. none_wrong l (omega (arith, H.below)) cs H.chained D k (omega arith);
      }
    where
      R : Runs (live_stand E links es l) (E.fits links) xs next
      R = leads_runs (E.onward Front links) (E.fits links) (entry_at es l).head xs next H.leads

      D : Distinct (E.size links) (joined_up cs)
      D = distinct_part (joined_up cs) (joined_up cs ++ xs) (λ y. omega (arith, count-append y (joined_up cs) xs)) H.distinct

      known : (y : ℕ) → InListBefore E links es l y ↔ 0 < count y (joined_up cs)
      known = earlier_known l (omega (arith, H.below)) cs H.chained D

      here : BadSlot (E.fits links) (E.size links) (joined_up cs ++ xs) (last_or null_slot xs) next ⊎ (next ≡ null_slot) × (last_or null_slot xs ≢ (entry_at es l).tail)
          → WrongSlot (live_stand E links es l) (E.fits links) (E.size links) (InListBefore E links es l) (length xs) ⊎ WrongTail E links es l (length xs)
      here (inl b) = inl (runs_wrong R (joined_up cs) H.distinct known b)
      here (inr (z, t)) = inr (record { ended = R.after ∙ z; other = λ e. t (sym R.last ∙ e) })

      sooner : (j : ℕ) → j < length xs → WrongSlot (live_stand E links es l) (E.fits links) (E.size links) (InListBefore E links es l) j ⊎ WrongTail E links es l j → ⊥
      sooner j b (inl w) = runs_right R (joined_up cs) H.distinct known j b w
      sooner j b (inr t) = omega (arith, runs_inside R (joined_up cs) H.distinct j b, t.ended)

  module _ (cs : List (List ℕ)) (C : Chained E links es cs) where
    all_of : Chained E links (take (length es) es) cs
    all_of = rw (take-length es) C

    module _ (D : Distinct (E.size links) (joined_up cs)) where
      pub lists_known : (y : ℕ) → InListBefore E links es (length es) y ↔ 0 < count y (joined_up cs)
      lists_known = earlier_known (length es) (omega arith) cs all_of D

      pub lists_right : (l : ℕ) → l < length es → (j : ℕ) → WrongLive E links es l j → ⊥
      lists_right = none_wrong (length es) (omega arith) cs all_of D

  module _ (free : Free) where
    pub halts_idle : {cs : List (List ℕ)} {xs : List ℕ} {next : ℕ} → IdleHalts E links es free cs xs next → FirstWrongIdle E links es free (length xs)
    halts_idle {cs} {xs} {next} H =
        record {
          lists = λ l b. lists_right cs H.chained D l (omega arith);
          here = record {
            reached = runs_reached R (joined_up cs) H.distinct (length xs) (omega arith);
            wrong = runs_wrong R (joined_up cs) H.distinct (lists_known cs H.chained D) H.broken;
          };
          sooner = λ j b W. runs_right R (joined_up cs) H.distinct (lists_known cs H.chained D) j (omega arith) W.wrong;
        }
      where
        R : Runs (idle_stand E links free) (E.idle_fits links) xs next
        R = leads_runs (E.idle_onward links) (E.idle_fits links) free.head xs next H.leads

        D : Distinct (E.size links) (joined_up cs)
        D = distinct_part (joined_up cs) (joined_up cs ++ xs) (λ y. omega (arith, count-append y (joined_up cs) xs)) H.distinct

    -- slots that lead to the end of the free chain: no position of it is wrong
    pub idle_right : (cs : List (List ℕ)) → Chained E links es cs → (xs : List ℕ) → Distinct (E.size links) (joined_up cs ++ xs)
        → Leads (E.idle_onward links) (E.idle_fits links) null_slot free.head xs 0 → (j : ℕ) → WrongIdle E links es free j → ⊥
    idle_right cs C xs A l j W =
        runs_right R (joined_up cs) A (lists_known cs C D) j (runs_some R (joined_up cs) A refl j W.reached W.wrong.some) W.wrong
      where
        R : Runs (idle_stand E links free) (E.idle_fits links) xs 0
        R = leads_runs (E.idle_onward links) (E.idle_fits links) free.head xs 0 l

        D : Distinct (E.size links) (joined_up cs)
        D = distinct_part (joined_up cs) (joined_up cs ++ xs) (λ y. omega (arith, count-append y (joined_up cs) xs)) A

  -- ---- one position only is the first

  pub live_first_one : {l i k j : ℕ} → FirstWrongLive E links es l i → FirstWrongLive E links es k j → (l ≡ k) × (i ≡ j)
  live_first_one {l} {i} {k} {j} F G = go (dec_lt l k) (dec_lt k l)
    where
      place : l ≡ k → Dec (i < j) → Dec (j < i) → i ≡ j
      place e (yes h) q = absurd (G.sooner i h (rw e at F.here))
      place e (no h) (yes q) = absurd (F.sooner j q (rw e G.here))
      place e (no h) (no q) = omega arith

      go : Dec (l < k) → Dec (k < l) → (l ≡ k) × (i ≡ j)
      go (yes h) q = absurd (G.lists_before l h i F.here)
      go (no h) (yes q) = absurd (F.lists_before k q j G.here)
      go (no h) (no q) = let e : l ≡ k = omega arith in (e, place e (dec_lt i j) (dec_lt j i))

  pub idle_first_one : (free : Free) {i j : ℕ} → FirstWrongIdle E links es free i → FirstWrongIdle E links es free j → i ≡ j
  idle_first_one free {i} {j} F G = go (dec_lt i j) (dec_lt j i)
    where
      go : Dec (i < j) → Dec (j < i) → i ≡ j
      go (yes h) q = absurd (G.sooner i h F.here)
      go (no h) (yes q) = absurd (F.sooner j q G.here)
      go (no h) (no q) = omega arith

  -- ---- the walks find it

  module _ (some : 0 < E.size links) where
    -- where they give a fault a list halts
    pub round_halts : (round_of E links es).gathered.fault.rule ≢ 0 → (l : ℕ) × (cs : List (List ℕ)) × (xs : List ℕ) × (next : ℕ) × Halts E links [] es l cs xs next
    round_halts n =
        gather_halts E L (length es) links 0 es (nothing_met (E.size links)) (gathered_none (length es)) [] (nothing_seen (E.size links))
        (record { inside = λ y h. absurd (not-suc-le-zero h); once = λ y. omega arith }) (nothing_walkable (E.size links) some) refl n

    pub first_halts : {l i : ℕ} → FirstWrongLive E links es l i → (cs : List (List ℕ)) × (xs : List ℕ) × (next : ℕ) × Halts E links [] es l cs xs next × (i ≡ length xs)
    first_halts {l} {i} F = go (ℕ_discrete (round_of E links es).gathered.fault.rule 0)
      where
        at : (k : ℕ) (cs : List (List ℕ)) (xs : List ℕ) (next : ℕ) → Halts E links [] es k cs xs next → (cs : List (List ℕ)) × (xs : List ℕ) × (next : ℕ) × Halts E links [] es l cs xs next × (i ≡ length xs)
        at k cs xs next H = let (e, p) = live_first_one F (halts_first H) in (cs, xs, next, rw e H, p)

        go : Dec ((round_of E links es).gathered.fault.rule ≡ 0) → (cs : List (List ℕ)) × (xs : List ℕ) × (next : ℕ) × Halts E links [] es l cs xs next × (i ≡ length xs)
        go (yes e) = let (cs, C, D) = round_told L links es some e in absurd (lists_right cs C D l F.below i F.here)
        go (no n) =
            let (k, cs, xs, next, H) = round_halts n in at k cs xs next H

    -- rule 11: the two say the same
    pub live_positions : (l i : ℕ) → FirstWrongLive E links es l i ↔ ((cs : List (List ℕ)) × (xs : List ℕ) × (next : ℕ) × Halts E links [] es l cs xs next × (i ≡ length xs))
    live_positions l i = (first_halts, λ (cs, xs, next, H, e). rw e (halts_first H))

    module _ (free : Free) where
      pub first_idle_halts : {i : ℕ} → FirstWrongIdle E links es free i → (cs : List (List ℕ)) × (xs : List ℕ) × (next : ℕ) × IdleHalts E links es free cs xs next × (i ≡ length xs)
      first_idle_halts {i} F = go (ℕ_discrete (round_of E links es).gathered.fault.rule 0)
        where
          met : List ℕ
          met = (round_of E links es).met

          xs : List ℕ
          xs = (walk_from (E.idle_onward links) (E.idle_fits links) (E.size links) met free.head).slots

          ok : Bool
          ok = (walk_from (E.idle_onward links) (E.idle_fits links) (E.size links) met free.head).ok

          at : (cs : List (List ℕ)) → Chained E links es cs → Distinct (E.size links) (joined_up cs ++ xs)
              → (next : ℕ) × Leads (E.idle_onward links) (E.idle_fits links) null_slot free.head xs next
              × (((ok ≡ true) × (next ≡ null_slot)) ⊎ ((ok ≡ false) × BadSlot (E.idle_fits links) (E.size links) (joined_up cs ++ xs) (last_or null_slot xs) next))
              → (cs : List (List ℕ)) × (xs : List ℕ) × (next : ℕ) × IdleHalts E links es free cs xs next × (i ≡ length xs)
          at cs C A (next, l, inl (o, z)) = absurd (idle_right free cs C xs A (rw z at l) i F.here)
          at cs C A (next, l, inr (o, b)) =
              let H : IdleHalts E links es free cs xs next = record { chained = C; leads = l; distinct = A; broken = b } in
              (cs, xs, next, H, idle_first_one free F (halts_idle free H))

          go : Dec ((round_of E links es).gathered.fault.rule ≡ 0) → (cs : List (List ℕ)) × (xs : List ℕ) × (next : ℕ) × IdleHalts E links es free cs xs next × (i ≡ length xs)
          go (no n) = let (k, cs, ys, next, H) = round_halts n in absurd (F.lists k H.below (length ys) (halts_first H).here)
          go (yes e) =
              let (cs, C, D) = round_told L links es some e in
              let K = chained_known L links es some C D in
              at cs C (passes_distinct (E.size links) met (joined_up cs) K xs D (walk_fresh (E.idle_onward links) (E.idle_fits links) (E.size links) met free.head))
              (walk_stands (E.idle_onward links) (E.idle_fits links) (E.size links) met (joined_up cs) K (round_walkable L links es some) free.head)

      -- rule 12: the two say the same
      pub idle_positions : (i : ℕ) → FirstWrongIdle E links es free i ↔ ((cs : List (List ℕ)) × (xs : List ℕ) × (next : ℕ) × IdleHalts E links es free cs xs next × (i ≡ length xs))
      idle_positions i = (first_idle_halts, λ (cs, xs, next, H, e). rw e (halts_idle free H))
