-- The walks along the lists over any engine: they find no fault exactly where there is a chain for each list, and what they gather is said of those chains.
use mathlib.Core.Path.{◌≡◌, refl, sym, ap, subst, ◌∙◌}
use mathlib.Core.Logic.{◌↔◌, ◌≢◌}
use mathlib.Core.Bool.{Bool, true, false, not, ◌&&◌}
use mathlib.Core.List.{List, [], ◌∷◌, ◌++◌}
use Prim.Native.Nat.{ℕ, zero, suc, ◌+◌, ◌≤◌, ◌<◌, suc-le-suc}
use native.Mathlib.Nat.{suc_inj, le_of_suc-le-suc, not-suc-le-zero, zero-lt-suc}
use native.Mathlib.Decide.{dec_lt}
use native.Mathlib.Omega.{arith}
use lib.Dec.{ltb, eqb}
use lib.ListN.{length, get_or, length-append}
use borrow.Author.Tests.{eqb-true, eq-eqb, ne_eqb, ltb-true, lt-ltb}
use Rattle.books.specs.declared.Entry.{Entry}
use Rattle.books.specs.Book.{null_slot, entry_at}
use Rattle.books.proofs.Tests.{and_both, cond_ind, not_both}
use Rattle.chains.specs.Count.{count}
use Rattle.chains.specs.Chain.{first_or, last_or}
use Rattle.chains.proofs.Count.{count-append}
use Rattle.shapes.specs.declared.End.TheVariants.{Front}
use Rattle.shapes.specs.Met.{seen, mark_all}
use Rattle.shapes.specs.Walk.{Path, walkable, walk_from, Passes}
use Rattle.shapes.specs.Records.{Gathered}
use Rattle.shapes.specs.Shape.{joined_up, lacks}
use Rattle.shapes.specs.Faults.{fault, gather_one, Round}
use Rattle.engines.specs.Engine.{Engine}
use Rattle.engines.specs.Sound.{EntryHolds}
use Rattle.engines.specs.Laws.{Lawful}
use Rattle.engines.specs.FirstFault.{Chained}
use Rattle.engines.specs.Check.{head_path, live_path, ends_well, gather_all}
use Rattle.shapes.proofs.Lowest.{LowestTold, lowest_none, lowest_more}
use Rattle.shapes.proofs.Walks.{walk_fresh, walk_only, walk_finds, walkable_passed}

-- the chains `cs` of the lists `es`, with no slot twice and none that was met
pub record Walked (E : Engine) (links : E.Links) (met : List ℕ) (es : List Entry) (cs : List (List ℕ)) : Type 0 where
  pub chained : Chained E links es cs
  pub inside : (y : ℕ) → 0 < count y (joined_up cs) → (0 < y) × (y < E.size links)
  pub once : (y : ℕ) → seen met y + count y (joined_up cs) ≤ 1

-- what was gathered from `g` on, along those chains; `list` is the number of the first
pub record Sums (lists list : ℕ) (met : List ℕ) (es : List Entry) (cs : List (List ℕ)) (g : Gathered) (r : Round) : Type 0 where
  pub fault : r.gathered.fault ≡ g.fault
  pub marks : (y : ℕ) → seen r.met y ≡ seen met y + count y (joined_up cs)
  pub live : r.gathered.live ≡ g.live + length (joined_up cs)
  pub lacking : r.gathered.lacks ≡ g.lacks + lacks es cs
  -- the lowest list that is over its limit, and the lowest whose stored length is wrong
  pub over : LowestTold lists list (length es) (λ l. (entry_at es l).limit < length (get_or cs l [])) g.over r.gathered.over
  pub wrong : LowestTold lists list (length es) (λ l. (entry_at es l).length ≢ length (get_or cs l [])) g.wrong r.gathered.wrong

-- ---- one list more

each : (P : Entry → List ℕ → Type 0) (e : Entry) (es : List Entry) (xs : List ℕ) (cs : List (List ℕ)) → P e xs → ((l : ℕ) → l < length es → P (entry_at es l) (get_or cs l []))
    → (l : ℕ) → l < length (e ∷ es) → P (entry_at (e ∷ es) l) (get_or (xs ∷ cs) l [])
each P e es xs cs h r zero b = h
each P e es xs cs h r (suc l) b = r l (le_of_suc-le-suc b)

pub no_chains : (E : Engine) (links : E.Links) → Chained E links [] []
no_chains E links = record { lists = refl; entry = λ l c. absurd (not-suc-le-zero c); live = λ l c. absurd (not-suc-le-zero c) }

module _ {E : Engine} {links : E.Links} {e : Entry} {es : List Entry} {xs : List ℕ} {cs : List (List ℕ)} where
  pub chained_more : EntryHolds e xs → E.Live links xs → Chained E links es cs → Chained E links (e ∷ es) (xs ∷ cs)
  chained_more h v C =
      record { lists = ap suc C.lists; entry = each EntryHolds e es xs cs h C.entry; live = each (λ d zs. E.Live links zs) e es xs cs v C.live }

  pub chained_less : Chained E links (e ∷ es) (xs ∷ cs) → EntryHolds e xs × E.Live links xs × Chained E links es cs
  chained_less C = (
    C.entry zero (zero-lt-suc (length es)),
    C.live zero (zero-lt-suc (length es)),
    record { lists = suc_inj C.lists; entry = λ l b. C.entry (suc l) (suc-le-suc b); live = λ l b. C.live (suc l) (suc-le-suc b) },
  )

-- the test that two numbers are not the same
not_same : (a b : ℕ) → not (eqb a b) ≡ true ↔ (a ≢ b)
not_same a b = (λ h e. not_both true refl (sym (rw (eq-eqb a b e) at h)), λ d. rw (ne_eqb a b d))

module _ (lists list : ℕ) (met : List ℕ) (e : Entry) (es : List Entry) (xs : List ℕ) (cs : List (List ℕ)) (g : Gathered) (r : Round) (met' : List ℕ)
    (below : list < lists) (marked : (y : ℕ) → seen met' y ≡ seen met y + count y xs) where
  sums_more : Sums lists (suc list) met' es cs (gather_one lists list e (length xs) g) r → Sums lists list met (e ∷ es) (xs ∷ cs) g r
  sums_more S =
      record {
        fault = S.fault;
        marks = λ y. omega (arith, S.marks y, marked y, count-append y xs (joined_up cs));
        live = omega (arith, S.live, length-append xs (joined_up cs));
        lacking = omega (arith, S.lacking);
        over = lowest_more lists list (length es) _ g.over _ below (ltb e.limit (length xs)) (ltb-true _ _, lt-ltb _ _) S.over;
        wrong = lowest_more lists list (length es) _ g.wrong _ below (not (eqb e.length (length xs))) (not_same e.length (length xs)) S.wrong;
      }

module _ (E : Engine) (links : E.Links) (met met' : List ℕ) (e : Entry) (es : List Entry) (xs : List ℕ) (cs : List (List ℕ)) (marked : (y : ℕ) → seen met' y ≡ seen met y + count y xs) where
  walked_more : EntryHolds e xs → E.Live links xs → ((y : ℕ) → 0 < count y xs → (0 < y) × (y < E.size links)) → Walked E links met' es cs → Walked E links met (e ∷ es) (xs ∷ cs)
  walked_more h v i W =
      record {
        chained = chained_more h v W.chained;
        inside = λ y p. go y (count-append y xs (joined_up cs)) p (dec_lt 0 (count y xs));
        once = λ y. omega (arith, W.once y, marked y, count-append y xs (joined_up cs));
      }
    where
      go : (y : ℕ) → count y (xs ++ joined_up cs) ≡ count y xs + count y (joined_up cs) → 0 < count y (xs ++ joined_up cs) → Dec (0 < count y xs) → (0 < y) × (y < E.size links)
      go y e p (yes k) = i y k
      go y e p (no k) = W.inside y (omega arith)

  walked_less : Walked E links met (e ∷ es) (xs ∷ cs) → Walked E links met' es cs
  walked_less W =
      record {
        chained = (chained_less W.chained).2;
        inside = λ y p. W.inside y (omega (arith, count-append y xs (joined_up cs)));
        once = λ y. omega (arith, W.once y, marked y, count-append y xs (joined_up cs));
      }

-- ---- the walk along one list

pub head_fresh : (E : Engine) (links : E.Links) (met : List ℕ) (head : ℕ) → Passes (E.size links) met (head_path E links met head).slots
head_fresh E links met head = walk_fresh (E.onward Front links) (E.fits links) (E.size links) met head

module _ (E : Engine) (links : E.Links) (met : List ℕ) (list : Entry) where
  pub live_fresh : Passes (E.size links) met (live_path E links met list).slots
  live_fresh = head_fresh E links met list.head

  pub live_only : Lawful E → (live_path E links met list).ok ≡ true → (list.head ≡ first_or 0 (live_path E links met list).slots) × E.Live links (live_path E links met list).slots
  live_only L h = let (e, t) = walk_only (E.onward Front links) (E.fits links) (E.size links) met list.head h in (e, (L.live_tied links _).1 t)

  pub live_finds : Lawful E → walkable (E.size links) met ≡ true → (xs : List ℕ) → list.head ≡ first_or 0 xs → E.Live links xs
      → ((y : ℕ) → 0 < count y xs → (0 < y) × (y < E.size links)) → ((y : ℕ) → seen met y + count y xs ≤ 1)
      → live_path E links met list ≡ record { ok = true; slots = xs }
  live_finds L w xs e l r u =
      ap (walk_from (E.onward Front links) (E.fits links) (E.size links) met) e
      ∙ walk_finds (E.onward Front links) (E.fits links) (E.size links) met xs w ((L.live_tied links xs).0 l) r u

-- ---- all lists

pub no_lists : (E : Engine) (lists list : ℕ) (links : E.Links) (met : List ℕ) (g : Gathered) → Sums lists list met [] [] g (gather_all E lists links list [] met g)
unfolding gather_all
no_lists E lists list links met g =
    record {
      fault = refl;
      marks = λ y. omega arith;
      live = omega arith;
      lacking = omega arith;
      over = lowest_none lists list _ g.over;
      wrong = lowest_none lists list _ g.wrong;
    }

module _ (E : Engine) (lists : ℕ) (links : E.Links) where
  -- a walk that ends well goes on to the next list, and any other is a fault
  pub gather_goes : (list : ℕ) (e : Entry) (es : List Entry) (met : List ℕ) (g : Gathered) → ends_well (live_path E links met e) e ≡ true
      → gather_all E lists links list (e ∷ es) met g
      ≡ gather_all E lists links (suc list) es (mark_all met (live_path E links met e).slots) (gather_one lists list e (length (live_path E links met e).slots) g)
  unfolding gather_all
  gather_goes list e es met g h = rw h

  pub gather_stops : (list : ℕ) (e : Entry) (es : List Entry) (met : List ℕ) (g : Gathered) → ends_well (live_path E links met e) e ≡ false
      → (gather_all E lists links list (e ∷ es) met g).gathered.fault ≡ fault 11 list (length (live_path E links met e).slots)
  unfolding gather_all
  gather_stops list e es met g h = rw h

  -- the walks leave a record that may be walked over
  pub gather_walkable : (list : ℕ) (es : List Entry) (met : List ℕ) (g : Gathered) → walkable (E.size links) met ≡ true
      → walkable (E.size links) (gather_all E lists links list es met g).met ≡ true
  unfolding gather_all
  gather_walkable list [] met g f = f
  gather_walkable list (e ∷ es) met g f =
      let path = live_path E links met e in
      let again = walkable_passed (E.size links) met path.slots (live_fresh E links met e) f in
      cond_ind (λ (r : Round). walkable (E.size links) r.met ≡ true) (ends_well path e)
      (λ h. gather_walkable (suc list) es (mark_all met path.slots) (gather_one lists list e (length path.slots) g) again)
      (λ h. again)

  abbrev Told : ℕ → List Entry → List ℕ → Gathered → Type 0
  Told list es met g = (cs : List (List ℕ)) × Walked E links met es cs × Sums lists list met es cs g (gather_all E lists links list es met g)

  module _ (L : Lawful E) where
    -- where no fault is found there are chains
    pub gather_told : (list : ℕ) (es : List Entry) (met : List ℕ) (g : Gathered) → list + length es ≤ lists → ((y : ℕ) → seen met y ≤ 1)
        → (gather_all E lists links list es met g).gathered.fault.rule ≡ 0
        → (cs : List (List ℕ)) × Walked E links met es cs × Sums lists list met es cs g (gather_all E lists links list es met g)
    gather_told list [] met g b u h = (
      [],
      record {
        chained = no_chains E links;
        inside = λ y p. absurd (not-suc-le-zero p);
        once = λ y. omega (arith, u y);
      },
      no_lists E lists list links met g,
    )
    gather_told list (e ∷ es) met g b u h =
        go (ends_well (live_path E links met e) e) refl
        (λ v k. gather_told (suc list) es (mark_all met (live_path E links met e).slots) (gather_one lists list e (length (live_path E links met e).slots) g) (omega arith) v k)
      where
        xs : List ℕ
        xs = (live_path E links met e).slots

        go : (w : Bool) → ends_well (live_path E links met e) e ≡ w
            → (((y : ℕ) → seen (mark_all met xs) y ≤ 1) → (gather_all E lists links (suc list) es (mark_all met xs) (gather_one lists list e (length xs) g)).gathered.fault.rule ≡ 0
            → Told (suc list) es (mark_all met xs) (gather_one lists list e (length xs) g))
            → Told list (e ∷ es) met g
        go false q r = absurd (omega (arith, ap (λ f. f.rule) (gather_stops list e es met g q)))
        go true q r =
            more q (r (λ y. omega (arith, (live_fresh E links met e).marks y, (live_fresh E links met e).once y)) (sym (ap (λ (z : Round). z.gathered.fault.rule) (gather_goes list e es met g q)) ∙ h))
          where
            more : ends_well (live_path E links met e) e ≡ true → Told (suc list) es (mark_all met xs) (gather_one lists list e (length xs) g) → Told list (e ∷ es) met g
            more q (cs, W, S) =
                let (o, t) = and_both (live_path E links met e).ok (eqb (last_or null_slot xs) e.tail) q in
                let F = live_fresh E links met e in
                let (hd, lv) = live_only E links met e L o in (
                  xs ∷ cs,
                  walked_more E links met (mark_all met xs) e es xs cs F.marks (record { head = hd; tail = sym (eqb-true (last_or null_slot xs) e.tail t) }) lv F.inside W,
                  subst (λ (z : Round). Sums lists list met (e ∷ es) (xs ∷ cs) g z) (sym (gather_goes list e es met g q))
                      (sums_more lists list met e es xs cs g _ (mark_all met xs) (omega arith) F.marks S),
                )

    -- where there are chains no fault is found
    pub gather_tells : (list : ℕ) (es : List Entry) (cs : List (List ℕ)) (met : List ℕ) (g : Gathered) → list + length es ≤ lists → walkable (E.size links) met ≡ true → Walked E links met es cs
        → Sums lists list met es cs g (gather_all E lists links list es met g)
    gather_tells list [] [] met g b f W = no_lists E lists list links met g
    gather_tells list [] (xs ∷ cs) met g b f W = absurd (omega (arith, W.chained.lists))
    gather_tells list (e ∷ es) [] met g b f W = absurd (omega (arith, W.chained.lists))
    gather_tells list (e ∷ es) (xs ∷ cs) met g b f W =
        let (holds, lv, rest) = chained_less W.chained in
        let path : live_path E links met e ≡ record { ok = true; slots = xs } =
        live_finds E links met e L f xs holds.head lv
        (λ y p. W.inside y (omega (arith, count-append y xs (joined_up cs)))) (λ y. omega (arith, W.once y, count-append y xs (joined_up cs))) in
        let marked : (y : ℕ) → seen (mark_all met xs) y ≡ seen met y + count y xs = λ y.
        ap (λ (z : Path). seen (mark_all met z.slots) y) (sym path) ∙ (live_fresh E links met e).marks y ∙ ap (λ (z : Path). seen met y + count y z.slots) path in
        let q : ends_well (live_path E links met e) e ≡ true = rw path (eq-eqb (last_or 0 xs) e.tail (sym holds.tail)) in
        let again : walkable (E.size links) (mark_all met xs) ≡ true =
        walkable_passed (E.size links) met xs (subst (λ (z : Path). Passes (E.size links) met z.slots) path (live_fresh E links met e)) f in
        let S = gather_tells (suc list) es cs (mark_all met xs) (gather_one lists list e (length xs) g) (omega arith) again (walked_less E links met (mark_all met xs) e es xs cs marked W) in
        let goes = gather_goes list e es met g q
        ∙ ap (λ (z : Path). gather_all E lists links (suc list) es (mark_all met z.slots) (gather_one lists list e (length z.slots) g)) path in
        subst (λ (z : Round). Sums lists list met (e ∷ es) (xs ∷ cs) g z) (sym goes)
        (sums_more lists list met e es xs cs g _ (mark_all met xs) (omega arith) marked S)
