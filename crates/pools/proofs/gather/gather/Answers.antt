-- `pools::gather::gather`: a walk that ends well adds its list to what was gathered, and one that does not ends it all.
use mathlib.Core.Path.{◌≡◌, sym, ap, subst, ◌∙◌}
use mathlib.Core.Bool.{Bool, true, false, ◌&&◌}
use mathlib.Core.List.{List}
use Prim.Native.Nat.{ℕ, ◌+◌, ◌≤◌, ◌<◌}
use native.Mathlib.Omega.{arith}
use lib.Dec.{eqb}
use lib.ListN.{length, take, drop}
use Rattle.books.specs.declared.Entry.{Entry}
use Rattle.books.specs.Book.{entry_at}
use Rattle.books.specs.Words.{entry_from, entries_from}
use Rattle.books.proofs.Eight.{used_many, used_at}
use Rattle.shapes.specs.Records.{Gathered}
use Rattle.shapes.specs.declared.LiveWalk.{LiveWalk}
use Rattle.shapes.specs.Faults.{Round, round, gather_fault, gather_one}
use Rattle.shapes.proofs.Seen.{unmet_le}
use Rattle.engines.specs.Check.{gather_all}
use Rattle.engines.specs.Walked.{LiveWalked}
use Rattle.engines.proofs.Stages.{gather_done, gather_next, gather_halt, live_unmet}
use Rattle.xor.specs.Engine.{xor}
use Rattle.pools.specs.declared.gather.Counts.{Counts}
use Rattle.pools.specs.Found.{gathered_by}
use Rattle.pools.proofs.Found.{one_list_more, still_in}
use Rattle.pools.proofs.gather.gather.Goals as goal

-- the lists of the book that there are, in a book of at most eight
module _ (words : List ℕ) (lists : ℕ) (most : lists ≤ 8) where
  abbrev used : List Entry
  used = take lists (entries_from words)

  as_many : length used ≡ lists
  as_many = used_many (entry_from words) lists most

  -- one list's turn: its walk, the entry `k` that is read for it, and what the test tells of the walk
  module _ {links met met' : List ℕ} {k list head : ℕ} {e : Entry} {w : LiveWalk} {t : Bool} (g : Gathered) (same : k ≡ list) (below : list < lists) (read : head ≡ (entry_from words k).head)
      (W : LiveWalked xor links met head w met') (again : e ≡ entry_from words k) (test : t ≡ (w.ok && eqb w.last e.tail)) where
    inside : list < length used
    inside = omega (arith, as_many)

    -- the entry that is read is the list's own
    same_lem : entry_from words k ≡ entry_at used list
    same_lem = ap (entry_from words) same ∙ sym (used_at (entry_from words) lists most list below)

    pub own_lem : e ≡ entry_at used list
    own_lem = again ∙ same_lem

    walked : LiveWalked xor links met (entry_at used list).head w met'
    walked = subst (λ (x : ℕ). LiveWalked xor links met x w met') (read ∙ ap (λ (x : Entry). x.head) same_lem) W

    told : t ≡ (w.ok && eqb w.last (entry_at used list).tail)
    told = test ∙ ap (λ (x : Entry). w.ok && eqb w.last x.tail) own_lem

    halts : t ≡ false → round (gather_fault list w.length g) met' ≡ gather_all xor lists links list (drop list used) met g
    halts f = gather_halt xor lists links met used list g walked told inside f

    goes : t ≡ true → gather_all xor lists links (list + 1) (drop (list + 1) used) met' (gather_one lists list e w.length g) ≡ gather_all xor lists links list (drop list used) met g
    goes f =
        ap (λ (x : Entry). gather_all xor lists links (list + 1) (drop (list + 1) used) met' (gather_one lists list x w.length g)) own_lem
        ∙ gather_next xor lists links met used list g walked told inside f

pub overflow_cast-result : goal.overflow_cast-result
overflow_cast-result c = omega (arith, live_unmet c.walk_live-walk.ensures, c.loop-list.invariant.live, unmet_le c.args.met.now, c.requires.1)

pub returns-then-not-ends_well : goal.returns-then-not-ends_well
returns-then-not-ends_well c =
    let a = c.args in
    let at = c.loop-list in
    let h =
    halts a.words.now a.lists c.requires.0 (gathered_by a.lists at.counts) c.from-k.ensures c.loop-list-test.true (ap (λ (e : Entry). e.head) c.entry_at.ensures)
    c.walk_live-walk.ensures c.entry_at-entry.ensures c.ends_well.ensures c.if-not-ends_well.true
    ∙ at.invariant.same in
    record { gathered = ap (λ (r : Round). r.gathered.fault) h; met = ap (λ (r : Round). r.met) h }

pub gather_one-counts-requires : goal.gather_one-counts-requires
gather_one-counts-requires c = (
  omega (arith, live_unmet c.walk_live-walk.ensures, c.loop-list.invariant.live, unmet_le c.args.met.now),
  omega (arith, c.loop-list.invariant.small),
)

pub loop-list-preserved : goal.loop-list-preserved
loop-list-preserved c =
    let a = c.args in
    let at = c.loop-list in
    let many = c.walk_live-walk.result.length in
    let entry = c.entry_at-entry.result in
    let one = c.gather_one-counts.ensures.0 in
    let moved = one_list_more a.lists at.list entry many at.counts at.invariant.below in
    record {
      same =
          rw (one, moved)
          (goes a.words.now a.lists c.requires.0 (gathered_by a.lists at.counts) c.from-k.ensures c.loop-list-test.true (ap (λ (e : Entry). e.head) c.entry_at.ensures)
          c.walk_live-walk.ensures c.entry_at-entry.ensures c.ends_well.ensures c.if-not-ends_well.false
          ∙ at.invariant.same);
      live = omega (arith, live_unmet c.walk_live-walk.ensures, at.invariant.live, ap (λ (k : Counts). k.live) one);
      small = omega (arith, at.invariant.small, c.gather_one-counts.ensures.1);
      below = rw one (still_in a.lists at.list entry many at.counts c.loop-list-test.true at.invariant.below);
    }

pub returns : goal.returns
returns c =
    let a = c.args in
    let at = c.loop-list in
    let all : length (used a.words.now a.lists c.requires.0) ≤ at.list = omega (arith, as_many a.words.now a.lists c.requires.0) in
    let h = gather_done xor _ _ _ (used a.words.now a.lists c.requires.0) at.list (gathered_by a.lists at.counts) all ∙ at.invariant.same in
    record { gathered = (at.invariant.below, ap (λ (r : Round). r.gathered) h); met = ap (λ (r : Round). r.met) h }
