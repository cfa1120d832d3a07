-- The walks of the check where the chains are there, over any engine: what they give then, and that the chains are there where the walks come to their ends.
use mathlib.Core.Path.{◌≡◌, sym, subst}
use mathlib.Core.Bool.{true}
use mathlib.Core.List.{List, []}
use Prim.Native.Nat.{ℕ, zero, ◌+◌, ◌<◌}
use native.Mathlib.Omega.{arith}
use lib.ListN.{length, length-append, length-replicate}
use Rattle.books.specs.declared.Free.{Free}
use Rattle.books.specs.declared.Entry.{Entry}
use Rattle.books.specs.Book.{null_slot}
use Rattle.chains.proofs.Count.{count-append}
use Rattle.shapes.specs.Met.{seen, mark_all}
use Rattle.shapes.specs.Walk.{Path, walkable, Passes}
use Rattle.shapes.proofs.Seen.{seen_le, seen_none}
use Rattle.shapes.specs.Shape.{Shape, joined_up, every_slot}
use Rattle.shapes.specs.Faults.{nothing_met, gathered_none, Round}
use Rattle.engines.specs.Engine.{Engine}
use Rattle.engines.specs.Sound.{Fit}
use Rattle.engines.specs.Laws.{Lawful}
use Rattle.engines.specs.FirstFault.{Distinct, Chained, AllChained}
use Rattle.engines.specs.Check.{idle_path, gather_all}
use Rattle.shapes.proofs.Walks.{walkable_where}
use Rattle.engines.proofs.Leads.{Knows, passes_known, distinct_room, distinct_inside, passes_distinct, distinct_part}
use Rattle.engines.proofs.Gather.{Walked, Sums, gather_told, gather_tells, gather_walkable}
use Rattle.engines.proofs.Idle.{idle_fresh, idle_only, idle_finds}

-- ---- before the first list

-- no slot of the pool was met
pub nothing_seen : (size y : ℕ) → y < size → seen (nothing_met size) y ≡ 0
unfolding nothing_met
nothing_seen size y h = seen_none size y h

-- and a walk may go over that record
pub nothing_walkable : (size : ℕ) → 0 < size → walkable size (nothing_met size) ≡ true
unfolding nothing_met
nothing_walkable size h = walkable_where size (nothing_met size) (sym (length-replicate size zero)) (nothing_seen size null_slot h)

-- ---- after the last

-- what the walks along the lists gather
abbrev pub round_of : (E : Engine) → E.Links → List Entry → Round
round_of E links es = gather_all E (length es) links 0 es (nothing_met (E.size links)) (gathered_none (length es))

module _ {E : Engine} (L : Lawful E) (links : E.Links) (es : List Entry) (some : 0 < E.size links) where
  pub round_walkable : walkable (E.size links) (round_of E links es).met ≡ true
  round_walkable = gather_walkable E (length es) links 0 es (nothing_met (E.size links)) (gathered_none (length es)) (nothing_walkable (E.size links) some)

  module _ {cs : List (List ℕ)} (C : Chained E links es cs) (D : Distinct (E.size links) (joined_up cs)) where
    pub chained_sums : Sums (length es) 0 (nothing_met (E.size links)) es cs (gathered_none (length es)) (round_of E links es)
    chained_sums =
        gather_tells E (length es) links L 0 es cs (nothing_met (E.size links)) (gathered_none (length es)) (omega arith) (nothing_walkable (E.size links) some)
        (record { chained = C; inside = D.inside; once = distinct_room (E.size links) (nothing_met (E.size links)) [] (nothing_seen (E.size links)) (joined_up cs) D })

    pub chained_known : Knows (E.size links) (round_of E links es).met (joined_up cs)
    chained_known y h = omega (arith, chained_sums.marks y, nothing_seen (E.size links) y h)

  -- where the walks give no fault there are chains
  pub round_told : (round_of E links es).gathered.fault.rule ≡ 0 → (cs : List (List ℕ)) × Chained E links es cs × Distinct (E.size links) (joined_up cs)
  round_told h = go (gather_told E (length es) links L 0 es (nothing_met (E.size links)) (gathered_none (length es)) (omega arith) (seen_le (nothing_met (E.size links))) h)
    where
      go : (cs : List (List ℕ)) × Walked E links (nothing_met (E.size links)) es cs × Sums (length es) 0 (nothing_met (E.size links)) es cs (gathered_none (length es)) (round_of E links es)
          → (cs : List (List ℕ)) × Chained E links es cs × Distinct (E.size links) (joined_up cs)
      go (cs, W, S) = (cs, W.chained, record { inside = W.inside; once = λ y. omega (arith, W.once y) })

-- ---- with the idle chain

-- the walk along it
abbrev pub path_of : (E : Engine) → E.Links → List ℕ → List Entry → Free → Path
path_of E links values es free = idle_path E links values (round_of E links es).met free

module _ {E : Engine} (L : Lawful E) (links : E.Links) (values : List ℕ) (es : List Entry) (free : Free) (fit : Fit E links values) where
  pub fit_some : 0 < E.size links
  fit_some = omega (arith, fit.size.least)

  -- a walk that comes to its end completes the chains
  pub path_chained : (cs : List (List ℕ)) → Chained E links es cs → Distinct (E.size links) (joined_up cs) → (path_of E links values es free).ok ≡ true
      → AllChained E links es free (record { chains = cs; idle = (path_of E links values es free).slots })
  path_chained cs C D o =
      let (h, i) = idle_only E links values (round_of E links es).met free L o in
      record {
        chained = C;
        free_record = record { head = h };
        idle = i;
        distinct = passes_distinct (E.size links) (round_of E links es).met (joined_up cs) (chained_known L links es fit_some C D) _ D (idle_fresh E links values (round_of E links es).met free);
      }

  module _ {s : Shape} (A : AllChained E links es free s) where
    pub all_lists : Distinct (E.size links) (joined_up s.chains)
    all_lists = distinct_part (joined_up s.chains) (every_slot s) (λ y. omega (arith, count-append y (joined_up s.chains) s.idle)) A.distinct

    pub all_sums : Sums (length es) 0 (nothing_met (E.size links)) es s.chains (gathered_none (length es)) (round_of E links es)
    all_sums = chained_sums L links es fit_some A.chained all_lists

    lists_known : Knows (E.size links) (round_of E links es).met (joined_up s.chains)
    lists_known = chained_known L links es fit_some A.chained all_lists

    pub all_path : path_of E links values es free ≡ record { ok = true; slots = s.idle }
    all_path =
        idle_finds E links values (round_of E links es).met free fit.same (round_walkable L links es fit_some) L s.idle A.free_record.head A.idle
        (distinct_inside (E.size links) (round_of E links es).met (joined_up s.chains) lists_known s.idle A.distinct)
        (distinct_room (E.size links) (round_of E links es).met (joined_up s.chains) lists_known s.idle A.distinct)

    -- the slots met are those of all chains
    pub all_known : Knows (E.size links) (mark_all (round_of E links es).met s.idle) (every_slot s)
    all_known =
        passes_known (E.size links) (round_of E links es).met (joined_up s.chains) lists_known s.idle
        (subst (λ (p : Path). Passes (E.size links) (round_of E links es).met p.slots) all_path (idle_fresh E links values (round_of E links es).met free))

    -- and as many were counted
    pub all_counted : (round_of E links es).gathered.live + length s.idle ≡ length (every_slot s)
    all_counted = omega (arith, all_sums.live, length-append (joined_up s.chains) s.idle)
