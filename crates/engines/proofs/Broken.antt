-- Rules 10 to 16 over any engine: a pool is sound or breaks one of them first, and then the check gives that one, with its list and position.
use mathlib.Core.Path.{◌≡◌, refl, sym, ap, ◌∙◌}
use mathlib.Core.Logic.{◌↔◌, ◌≢◌, ◌⊎◌, inl, inr}
use mathlib.Core.Bool.{Bool, true, false}
use mathlib.Core.List.{List, [], ◌++◌}
use Prim.Native.Nat.{ℕ, ◌+◌, ◌≤◌, ◌<◌}
use native.Mathlib.Nat.{not-suc-le-zero, zero-add}
use native.Mathlib.Decide.{ℕ_discrete, dec_lt}
use native.Mathlib.Omega.{arith}
use lib.Dec.{eqb}
use lib.ListN.{length}
use borrow.Author.Tests.{eqb-true, eq-eqb, ne_eqb}
use Rattle.books.specs.declared.Free.{Free}
use Rattle.books.specs.declared.Entry.{Entry}
use Rattle.books.specs.Book.{null_slot, entry_at}
use Rattle.books.proofs.Tests.{and_both, both_and, not_both}
use Rattle.chains.specs.Count.{count}
use Rattle.chains.specs.Chain.{cell}
use Rattle.chains.proofs.Count.{count-append}
use Rattle.shapes.specs.Met.{mark_all}
use Rattle.shapes.specs.Walk.{Path, unwiped_from, Lowest}
use Rattle.shapes.proofs.Unwiped.{unwiped_none, unwiped_lowest}
use Rattle.shapes.specs.Records.{Fault}
use Rattle.shapes.specs.Records.{Found}
use Rattle.shapes.specs.Shape.{Shape, chain_at, joined_up, every_slot, lacks}
use Rattle.shapes.specs.Faults.{fault, no_fault, nothing_met, gathered_none, idle_fault}
use Rattle.engines.specs.Engine.{Engine}
use Rattle.engines.specs.Sound.{Fit, Sound}
use Rattle.engines.specs.Laws.{Lawful}
use Rattle.engines.specs.FirstFault.{Distinct, NullZero, Chained, AllChained, LowestMissing, NoneMissing, AllWiped, LowestOver, SharesUncovered, Covered, LowestMiscounted, FreeMiscounted, PoolBreaks}
use Rattle.engines.specs.FirstFault.PoolBreaks.{ten, eleven, twelve, thirteen, fourteen, fifteen, sixteen}
use Rattle.engines.specs.Check.{null_slot_zero, idle_found, pool_found}
use Rattle.engines.proofs.Leads.{passes_distinct, distinct_part}
use Rattle.engines.proofs.Missing.{full_covers, covers_full, missing_lowest, lowest_missing, lowest_one, over_one, miscounted_one}
use Rattle.engines.proofs.Stops.{gather_halted}
use Rattle.engines.proofs.Idle.{idle_fresh, idle_stands, idle_stops, stage_12, stage_13, stage_14, stage_over, stage_short, stage_wrong, stage_free, stage_fine}
use Rattle.engines.proofs.Positions.{IdleHalts, halts_first, halts_idle, round_halts, first_halts, first_idle_halts}
use Rattle.engines.proofs.Chains.{nothing_seen, nothing_walkable, round_of, round_walkable, chained_sums, chained_known, round_told, path_of, path_chained, all_sums, all_path, all_known, all_counted}

-- the test of slot 0 is true exactly where its links and its value are 0
pub null_exactly : {E : Engine} → Lawful E → (links : E.Links) (values : List ℕ) → null_slot_zero E links values ≡ true ↔ NullZero E links values
unfolding null_slot_zero
null_exactly {E} L links values = (
  λ h. let (a, b) = and_both (E.null_test links) (eqb (cell values null_slot) 0) h in record { link = (L.null_told links).0 a; value = eqb-true _ _ b },
  λ z. both_and _ _ ((L.null_told links).1 z.link) (eq-eqb _ _ z.value),
)

-- two numbers that cannot differ are the same
same : {a b : ℕ} → Dec (a ≡ b) → (a ≢ b → ⊥) → a ≡ b
same (yes e) r = e
same (no d) r = absurd (r d)

-- ---- the pool, stage by stage

module _ (E : Engine) (links : E.Links) (values : List ℕ) (es : List Entry) (free : Free) where
  pool_null : null_slot_zero E links values ≡ false → (pool_found E links values es free).fault ≡ fault 10 0 0
  unfolding pool_found
  pool_null z = rw z

  pool_fault : null_slot_zero E links values ≡ true → (round_of E links es).gathered.fault.rule ≢ 0
      → (pool_found E links values es free).fault ≡ (round_of E links es).gathered.fault
  unfolding pool_found
  pool_fault z n = rw (z, ne_eqb _ _ n)

  pub pool_idle : null_slot_zero E links values ≡ true → (round_of E links es).gathered.fault.rule ≡ 0
      → pool_found E links values es free ≡ idle_found (E.size links) values free (length es) (round_of E links es) (path_of E links values es free)
  unfolding pool_found
  pool_idle z h = rw (z, eq-eqb _ _ h)

  -- the fault that the idle stages give after the walk along the idle chain
  abbrev stages_of : Path → Fault
  stages_of path =
      idle_fault (mark_all (round_of E links es).met path.slots) (E.size links) (length es) (round_of E links es).gathered path.ok (length path.slots) (unwiped_from values path.slots null_slot) free.count

module _ {E : Engine} (L : Lawful E) (links : E.Links) (values : List ℕ) (es : List Entry) (free : Free) (fit : Fit E links values) where
  some : 0 < E.size links
  some = omega (arith, fit.size.least)

  abbrev given : Fault
  given = (pool_found E links values es free).fault

  -- ---- the lowest lists that the walks gather

  module _ {s : Shape} (A : AllChained E links es free s) where
    none_over : ((l : ℕ) → l < length es → length (chain_at s l) ≤ (entry_at es l).limit) → (round_of E links es).gathered.over ≡ length es
    none_over short = ((all_sums L links values es free fit A).over.none refl).1 (λ l b o. omega (arith, short l b))

    short_over : (round_of E links es).gathered.over ≡ length es → (l : ℕ) → l < length es → length (chain_at s l) ≤ (entry_at es l).limit
    short_over e l b = go (dec_lt (entry_at es l).limit (length (chain_at s l)))
      where
        go : Dec ((entry_at es l).limit < length (chain_at s l)) → length (chain_at s l) ≤ (entry_at es l).limit
        go (yes h) = absurd (((all_sums L links values es free fit A).over.none refl).0 e l b h)
        go (no h) = omega arith

    lowest_over : (round_of E links es).gathered.over ≢ length es → (l : ℕ) × ((round_of E links es).gathered.over ≡ l) × LowestOver es s.chains l
    lowest_over n =
        let (l, e, b, o, r) = (all_sums L links values es free fit A).over.lowest refl n in
        (l, omega arith, record { below = b; over = o; lowest = λ k h. lower k (r k h) (dec_lt (entry_at es k).limit (length (chain_at s k))) })
      where
        lower : (k : ℕ) → ((entry_at es k).limit < length (chain_at s k) → ⊥) → Dec ((entry_at es k).limit < length (chain_at s k)) → length (chain_at s k) ≤ (entry_at es k).limit
        lower k r (yes h) = absurd (r h)
        lower k r (no h) = omega arith

    none_wrong : ((l : ℕ) → l < length es → (entry_at es l).length ≡ length (chain_at s l)) → (round_of E links es).gathered.wrong ≡ length es
    none_wrong right = ((all_sums L links values es free fit A).wrong.none refl).1 (λ l b o. o (right l b))

    right_wrong : (round_of E links es).gathered.wrong ≡ length es → (l : ℕ) → l < length es → (entry_at es l).length ≡ length (chain_at s l)
    right_wrong e l b = same (ℕ_discrete _ _) (((all_sums L links values es free fit A).wrong.none refl).0 e l b)

    lowest_wrong : (round_of E links es).gathered.wrong ≢ length es → (l : ℕ) × ((round_of E links es).gathered.wrong ≡ l) × LowestMiscounted es s.chains l
    lowest_wrong n =
        let (l, e, b, o, r) = (all_sums L links values es free fit A).wrong.lowest refl n in
        (l, omega arith, record { below = b; wrong = o; lowest = λ k h. same (ℕ_discrete _ _) (r k h) })

  -- ---- all chains are there

  module _ (z : NullZero E links values) {s : Shape} (A : AllChained E links es free s) where
    stages : given ≡ stages_of E links values es free (record { ok = true; slots = s.idle })
    stages =
        ap (λ (f : Found). f.fault) (pool_idle E links values es free ((null_exactly L links values).1 z) (ap (λ f. f.rule) (all_sums L links values es free fit A).fault))
        ∙ ap (stages_of E links values es free) (all_path L links values es free fit A)

    no_null_idle : count 0 s.idle ≡ 0
    no_null_idle = go (dec_lt 0 (count 0 s.idle))
      where
        go : Dec (0 < count 0 s.idle) → count 0 s.idle ≡ 0
        go (yes h) = absurd (not-suc-le-zero (A.distinct.inside 0 (omega (arith, count-append 0 (joined_up s.chains) s.idle))).0)
        go (no h) = omega arith

    gives_13 : {slot : ℕ} → LowestMissing (E.size links) s slot → given ≡ fault 13 0 slot
    gives_13 {slot} u =
        stages
        ∙ stage_13 _ (E.size links) (length es) _ (length s.idle) _ _
        (λ e. omega (arith, full_covers A.distinct some (omega (arith, all_counted L links values es free fit A)) slot u.inside.0 u.inside.1, u.none))
        ∙ ap (fault 13 0) (lowest_missing (E.size links) _ (every_slot s) (all_known L links values es free fit A) some slot u.inside.0 u.inside.1 u.none u.lowest)

    module _ (c : NoneMissing (E.size links) s) where
      all : (round_of E links es).gathered.live + length s.idle + 1 ≡ E.size links
      all = omega (arith, covers_full A.distinct some c, all_counted L links values es free fit A)

      gives_14 : {slot : ℕ} → Lowest values s.idle slot → given ≡ fault 14 0 slot
      gives_14 {slot} low =
          let n : unwiped_from values s.idle null_slot ≢ null_slot = λ e. low.not_wiped ((unwiped_none values s.idle no_null_idle).0 e slot low.inside) in
          stages ∙ stage_14 _ (E.size links) (length es) _ (length s.idle) _ _ all n ∙ ap (fault 14 0) (lowest_one (unwiped_lowest values s.idle no_null_idle n) low)

      module _ (w : AllWiped values s) where
        clean : unwiped_from values s.idle null_slot ≡ null_slot
        clean = (unwiped_none values s.idle no_null_idle).1 w

        gives_15 : {l : ℕ} → LowestOver es s.chains l ⊎ SharesUncovered es s l → given ≡ fault 15 l 0
        gives_15 {l} (inl o) =
            let n : (round_of E links es).gathered.over ≢ length es = λ e. ((all_sums L links values es free fit A).over.none refl).0 e l o.below o.over in
            let (k, e, p) = lowest_over A n in
            stages ∙ stage_over _ (E.size links) (length es) _ (length s.idle) _ _ all clean n ∙ ap (λ i. fault 15 i 0) (e ∙ over_one p o)
        gives_15 {l} (inr u) =
            stages
            ∙ stage_short _ (E.size links) (length es) _ (length s.idle) _ _ all clean (none_over A u.short)
            (omega (arith, u.few, (all_sums L links values es free fit A).lacking))
            ∙ ap (λ i. fault 15 i 0) (sym u.all)

        module _ (v : Covered es s) where
          enough : (round_of E links es).gathered.lacks ≤ length s.idle
          enough = omega (arith, (all_sums L links values es free fit A).lacking, v.spare)

          gives_16 : {l : ℕ} → LowestMiscounted es s.chains l ⊎ FreeMiscounted es free s l → given ≡ fault 16 l 0
          gives_16 {l} (inl o) =
              let n : (round_of E links es).gathered.wrong ≢ length es = λ e. ((all_sums L links values es free fit A).wrong.none refl).0 e l o.below o.wrong in
              let (k, e, p) = lowest_wrong A n in
              stages ∙ stage_wrong _ (E.size links) (length es) _ (length s.idle) _ _ all clean (none_over A v.short) enough n ∙ ap (λ i. fault 16 i 0) (e ∙ miscounted_one p o)
          gives_16 {l} (inr u) =
              stages
              ∙ stage_free _ (E.size links) (length es) _ (length s.idle) _ _ all clean (none_over A v.short) enough (none_wrong A u.right) u.wrong
              ∙ ap (λ i. fault 16 i 0) (sym u.all)

          pub gives_none : ((l : ℕ) → l < length es → (entry_at es l).length ≡ length (chain_at s l)) → free.count ≡ length s.idle → given ≡ no_fault
          gives_none right same =
              stages ∙ stage_fine _ (E.size links) (length es) _ (length s.idle) _ _ all clean (none_over A v.short) enough (none_wrong A right) same

  -- ---- all lists are there, and the free chain is broken

  gives_12 : NullZero E links values → (cs : List (List ℕ)) (xs : List ℕ) (next : ℕ) → IdleHalts E links es free cs xs next → given ≡ fault 12 0 (length xs)
  gives_12 z cs xs next H =
      ap (λ (f : Found). f.fault) (pool_idle E links values es free ((null_exactly L links values).1 z) (ap (λ f. f.rule) (chained_sums L links es some H.chained D).fault))
      ∙ ap (stages_of E links values es free) path ∙ stage_12 _ (E.size links) (length es) _ (length xs) _ _
    where
      D : Distinct (E.size links) (joined_up cs)
      D = distinct_part (joined_up cs) (joined_up cs ++ xs) (λ y. omega (arith, count-append y (joined_up cs) xs)) H.distinct

      path : path_of E links values es free ≡ record { ok = false; slots = xs }
      path =
          idle_stops E links values _ free fit.same (round_walkable L links es some) (joined_up cs) (chained_known L links es some H.chained D) xs H.distinct next H.leads H.broken

  -- ---- the check gives the rule that is first broken

  pub pool_breaks : {f : Fault} → PoolBreaks E links values es free f → given ≡ f
  pool_breaks (ten e n) = pool_null E links values es free (go (null_slot_zero E links values) refl) ∙ sym e
    where
      go : (b : Bool) → null_slot_zero E links values ≡ b → b ≡ false
      go true k = absurd (n ((null_exactly L links values).0 k))
      go false k = refl
  pool_breaks (eleven {l} {place} e z B) =
      let (cs, xs, next, H, p) = first_halts L links es some B in
      let halted : (round_of E links es).gathered.fault ≡ fault 11 l (length xs) =
      gather_halted E L (length es) links 0 es (nothing_met (E.size links)) (gathered_none (length es)) [] l cs xs next (nothing_seen (E.size links)) (nothing_walkable (E.size links) some) H
      ∙ ap (λ i. fault 11 i (length xs)) (zero-add l) in
      pool_fault E links values es free ((null_exactly L links values).1 z) (λ k. omega (arith, sym (ap (λ f. f.rule) halted) ∙ k)) ∙ halted ∙ ap (fault 11 l) (sym p) ∙ sym e
  pool_breaks (twelve {place} e z B) = let (cs, xs, next, H, p) = first_idle_halts L links es some free B in gives_12 z cs xs next H ∙ ap (fault 12 0) (sym p) ∙ sym e
  pool_breaks (thirteen e z A u) = gives_13 z A u ∙ sym e
  pool_breaks (fourteen e z A c low) = gives_14 z A c low ∙ sym e
  pool_breaks (fifteen e z A c w o) = gives_15 z A c w o ∙ sym e
  pool_breaks (sixteen e z A c w v o) = gives_16 z A c w v o ∙ sym e

  -- ---- a pool breaks a rule or is sound

  abbrev Broken : Type 0
  Broken = (f : Fault) × PoolBreaks E links values es free f

  abbrev Fine : Type 0
  Fine = (s : Shape) × Sound E links values es free s

  pub pool_some : ((f : Fault) × PoolBreaks E links values es free f) ⊎ ((s : Shape) × Sound E links values es free s)
  pool_some = start (null_slot_zero E links values) refl
    where
      r_over : ℕ
      r_over = (round_of E links es).gathered.over

      r_wrong : ℕ
      r_wrong = (round_of E links es).gathered.wrong

      frees : NullZero E links values → (s : Shape) → AllChained E links es free s → NoneMissing (E.size links) s → AllWiped values s → Covered es s
          → ((l : ℕ) → l < length es → (entry_at es l).length ≡ length (chain_at s l)) → Dec (free.count ≡ length s.idle) → Broken ⊎ Fine
      frees z s A c w v right (no n) = inl (fault 16 (length es) 0, sixteen refl z A c w v (inr (record { all = refl; right = right; wrong = n })))
      frees z s A c w v right (yes e) =
          inr (
            s,
            record {
              fit = fit;
              lists = A.chained.lists;
              once = c;
              only = A.distinct.inside;
              entry = A.chained.entry;
              live = A.chained.live;
              free_record = A.free_record;
              idle = A.idle;
              wiped = w;
              null_link = z.link;
              null_value = z.value;
              short = v.short;
              spare = v.spare;
              counted = right;
              free_counted = e;
            },
          )

      counts : NullZero E links values → (s : Shape) → AllChained E links es free s → NoneMissing (E.size links) s → AllWiped values s → Covered es s → Dec (r_wrong ≡ length es) → Broken ⊎ Fine
      counts z s A c w v (yes e) = frees z s A c w v (right_wrong A e) (ℕ_discrete free.count (length s.idle))
      counts z s A c w v (no n) = let (l, e, o) = lowest_wrong A n in inl (fault 16 l 0, sixteen refl z A c w v (inl o))

      spare : NullZero E links values → (s : Shape) → AllChained E links es free s → NoneMissing (E.size links) s → AllWiped values s
          → ((l : ℕ) → l < length es → length (chain_at s l) ≤ (entry_at es l).limit) → Dec (length s.idle < lacks es s.chains) → Broken ⊎ Fine
      spare z s A c w short (yes h) = inl (fault 15 (length es) 0, fifteen refl z A c w (inr (record { all = refl; short = short; few = h })))
      spare z s A c w short (no h) = counts z s A c w (record { short = short; spare = omega arith }) (ℕ_discrete r_wrong (length es))

      limits : NullZero E links values → (s : Shape) → AllChained E links es free s → NoneMissing (E.size links) s → AllWiped values s → Dec (r_over ≡ length es) → Broken ⊎ Fine
      limits z s A c w (yes e) = spare z s A c w (short_over A e) (dec_lt (length s.idle) (lacks es s.chains))
      limits z s A c w (no n) = let (l, e, o) = lowest_over A n in inl (fault 15 l 0, fifteen refl z A c w (inl o))

      wiped : NullZero E links values → (s : Shape) → AllChained E links es free s → NoneMissing (E.size links) s → Dec (unwiped_from values s.idle null_slot ≡ null_slot) → Broken ⊎ Fine
      wiped z s A c (yes e) = limits z s A c ((unwiped_none values s.idle (no_null_idle z A)).0 e) (ℕ_discrete r_over (length es))
      wiped z s A c (no n) = inl (fault 14 0 (unwiped_from values s.idle null_slot), fourteen refl z A c (unwiped_lowest values s.idle (no_null_idle z A) n))

      covered : NullZero E links values → (s : Shape) → AllChained E links es free s → Dec (length (every_slot s) + 1 ≡ E.size links) → Broken ⊎ Fine
      covered z s A (yes e) = wiped z s A (full_covers A.distinct some e) (ℕ_discrete (unwiped_from values s.idle null_slot) null_slot)
      covered z s A (no n) =
          let (i, k, l) = missing_lowest (E.size links) _ (every_slot s) (all_known L links values es free fit A) some A.distinct n in
          inl (_, thirteen refl z A (record { inside = i; none = k; lowest = l }))

      idles : NullZero E links values → (cs : List (List ℕ)) → Chained E links es cs → Distinct (E.size links) (joined_up cs) → (ok : Bool) → (path_of E links values es free).ok ≡ ok → Broken ⊎ Fine
      idles z cs C D true e =
          let s : Shape = record { chains = cs; idle = (path_of E links values es free).slots } in
          covered z s (path_chained L links values es free fit cs C D e) (ℕ_discrete (length (every_slot s) + 1) (E.size links))
      idles z cs C D false e =
          let K = chained_known L links es some C D in
          let (next, l, b) = idle_stands E links values _ free fit.same (round_walkable L links es some) (joined_up cs) K e in
          inl (
            fault 12 0 (length (path_of E links values es free).slots),
            twelve refl z (halts_idle L links es free {cs = cs} (record {
              chained = C;
              leads = l;
              distinct = passes_distinct (E.size links) _ (joined_up cs) K _ D (idle_fresh E links values _ free);
              broken = b;
            })),
          )

      lives : NullZero E links values → Dec ((round_of E links es).gathered.fault.rule ≡ 0) → Broken ⊎ Fine
      lives z (yes e) = let (cs, C, D) = round_told L links es some e in idles z cs C D (path_of E links values es free).ok refl
      lives z (no n) = let (l, cs, xs, next, H) = round_halts L links es some n in inl (fault 11 l (length xs), eleven refl z (halts_first L links es H))

      start : (b : Bool) → null_slot_zero E links values ≡ b → Broken ⊎ Fine
      start true e = lives ((null_exactly L links values).0 e) (ℕ_discrete (round_of E links es).gathered.fault.rule 0)
      start false e = inl (fault 10 0 0, ten refl (λ z. not_both _ ((null_exactly L links values).1 z) e))
