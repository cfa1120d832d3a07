-- `pools::check::find_over`: each answer follows from the tests on the way and from what the stages give.
use mathlib.Core.Path.{◌≡◌, refl, ap, ◌∙◌}
use mathlib.Core.List.{List}
use Prim.Native.Nat.{ℕ, ◌≤◌}
use native.Mathlib.Omega.{arith}
use lib.ListN.{length, take, set}
use Rattle.books.specs.declared.Free.{Free}
use Rattle.books.specs.declared.Entry.{Entry}
use Rattle.books.specs.Words.{entry_from, entries_from, book_from}
use Rattle.books.proofs.Eight.{used_many}
use Rattle.shapes.specs.Records.{Gathered, Fault}
use Rattle.shapes.specs.Faults.{round, gathered_none, looked_by}
use Rattle.engines.specs.Check.{gather_all, idle_path, idle_found}
use Rattle.engines.proofs.Stages.{nothing_place, nothing_again, pool_live, pool_fault, pool_idle_found}
use Rattle.xor.specs.Engine.{xor}
use Rattle.pools.specs.Found.{gathered_by, look_found}
use Rattle.pools.proofs.Found.{handed_on, rule_there, found_one, nothing_length}
use Rattle.pools.proofs.check.find_over.Goals as goal

-- the lists of a book
abbrev used : List ℕ → List Entry
used words = take (book_from words).lists (entries_from words)

as_many : (words : List ℕ) → (book_from words).lists ≤ 8 → length (used words) ≡ (book_from words).lists
as_many words h = used_many (entry_from words) (book_from words).lists h

-- what the walks along the lists gave, in one record
gathered : (links met words : List ℕ) {g : Gathered} {met' : List ℕ} {lists : ℕ} → lists ≡ (book_from words).lists
    → g ≡ (gather_all xor lists links 0 (take lists (entries_from words)) met (gathered_none lists)).gathered
    → met' ≡ (gather_all xor lists links 0 (take lists (entries_from words)) met (gathered_none lists)).met
    → round g met' ≡ gather_all xor (book_from words).lists links 0 (used words) met (gathered_none (book_from words).lists)
gathered links met words e h k = (λ i. record { gathered = h i; met = k i }) ∙ ap (λ (n : ℕ). gather_all xor n links 0 (take n (entries_from words)) met (gathered_none n)) e

pub bounds-met-0 : goal.bounds-met-0
bounds-met-0 c = nothing_place _ c.requires.1 (omega (arith, c.requires.0.size.least))

pub gather-requires : goal.gather-requires
gather-requires c = (omega (arith, c.lists_of-lists.ensures, c.requires.2), omega (arith, nothing_length _ (nothing_again _ c.requires.1), c.requires.0.size.most))

pub returns-in_err-counts : goal.returns-in_err-counts
returns-in_err-counts c =
    let a = c.args in
    let words = a.words.now in
    let all = gather_all xor c.lists_of-lists.result a.links.now 0 (take c.lists_of-lists.result (entries_from words)) (set a.met.now 0 0) (gathered_none c.lists_of-lists.result) in
    let got = gathered a.links.now (set a.met.now 0 0) words {g = all.gathered} {met' = all.met} c.lists_of-lists.ensures refl refl in
    let refused = c.in_err-counts.field-0.0 in
    let named = c.in_err-counts.ensures.gathered in
    ap looked_by (handed_on c.from_residual.result _ c.from_residual.ensures.1)
    ∙ found_one all.gathered.fault 0 refused named
    ∙ ap look_found (pool_fault xor _ (used words) (as_many words c.requires.2) (nothing_again _ c.requires.1) got _ _ c.requires.3 (λ z. rule_there refused (ap (λ (f : Fault). f.rule) named ∙ z)))

pub find_idle-requires : goal.find_idle-requires
find_idle-requires c =
    let words = c.args.words.now in
    let got = gathered c.args.links.now (set c.args.met.now 0 0) words c.lists_of-lists.ensures c.in_ok-counts.ensures.gathered.1 c.in_ok-counts.ensures.met in
    (c.requires.0.size, pool_live xor _ (used words) (as_many words c.requires.2) (nothing_again _ c.requires.1) got, c.in_ok-counts.ensures.gathered.0)

pub returns : goal.returns
returns c =
    let a = c.args in
    let words = a.words.now in
    let counts = c.in_ok-counts.counts in
    let met' = c.gather.new.met in
    let got = gathered a.links.now (set a.met.now 0 0) words c.lists_of-lists.ensures c.in_ok-counts.ensures.gathered.1 c.in_ok-counts.ensures.met in
    c.find_idle.ensures
    ∙ ap look_found (
    ap (λ (f : Free). idle_found (length a.links.now) a.values.now f c.lists_of-lists.result (round (gathered_by c.lists_of-lists.result counts) met') (idle_path xor a.links.now a.values.now met' f)) c.free_of.ensures
    ∙ pool_idle_found xor _ (used words) (as_many words c.requires.2) (nothing_again _ c.requires.1) got _ _ c.requires.3 refl
    (ap (λ (n : ℕ). idle_found (length a.links.now) a.values.now (book_from words).free n (round (gathered_by c.lists_of-lists.result counts) met') (idle_path xor a.links.now a.values.now met' (book_from words).free)) c.lists_of-lists.ensures)
    )
