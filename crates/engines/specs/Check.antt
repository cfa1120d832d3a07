-- The check as a test that runs, in stages, in the order of 02 b)'s rules 9 to 15 and of 02 c)'s 16, over any engine. What it means is `Sound`, and for the first fault `Breaks`.
use Rattle.std.specs.Prelude.{Bool, cond, ◌&&◌, List, [], ◌∷◌, ℕ, suc, eqb, length, take}
use Rattle.books.specs.declared.Free.{Free}
use Rattle.books.specs.declared.Entry.{Entry}
use Rattle.books.specs.Book.{null_slot, AnyBook}
use Rattle.books.specs.Place.{numbered}
use Rattle.books.specs.Test.{size_fits, keeps_rules}
use Rattle.chains.specs.Chain.{cell, last_or}
use Rattle.shapes.specs.declared.End.TheVariants.{Front}
use Rattle.shapes.specs.Met.{mark_all}
use Rattle.shapes.specs.Walk.{Path, no_path, unwiped_from, walk_from}
use Rattle.shapes.specs.Records.{Gathered}
use Rattle.shapes.specs.Records.{Found}
use Rattle.shapes.specs.Records.{Looked}
use Rattle.shapes.specs.Faults.{fault, naming, looked_fine, nothing_met, gathered_none, gather_one, gather_fault, Round, round, idle_fault, faulty, refused_by}
use Rattle.engines.specs.Engine.{Engine}

-- what 1 refuses, as a test; the law `fits_exactly` says that it is true exactly where `Fit` holds
unfoldable pub sizes_fit : (E : Engine) → E.Links → List ℕ → Bool
sizes_fit E links values = E.even links && (eqb (E.size links) (length values) && size_fits (E.size links))

-- the walk along a chain from its first slot, with none before it
abbrev pub head_path : (E : Engine) → E.Links → List ℕ → ℕ → Path
head_path E links met head = walk_from (E.onward Front links) (E.fits links) (E.size links) met head

-- the walk along a list's chain, from its head
abbrev pub live_path : (E : Engine) → E.Links → List ℕ → Entry → Path
live_path E links met list = head_path E links met list.head

-- the walk came to its end, at the list's tail
abbrev pub ends_well : Path → Entry → Bool
ends_well path list = path.ok && eqb (last_or null_slot path.slots) list.tail

-- the walk along the idle chain, where the slices are of one length
unfoldable pub idle_path : (E : Engine) → E.Links → List ℕ → List ℕ → Free → Path
idle_path E links values met free = cond (eqb (E.size links) (length values)) (walk_from (E.idle_onward links) (E.idle_fits links) (E.size links) met free.head) no_path

-- the walk along the idle chain came to its end. The free record says nothing yet of where that is (02 i)
abbrev pub idle_ends_well : Path → Free → Bool
idle_ends_well path free = path.ok

-- the lists in number order, from `list` on
unfoldable pub gather_all : (E : Engine) (lists : ℕ) (links : E.Links) → ℕ → List Entry → List ℕ → Gathered → Round
gather_all E lists links list [] met g = round g met
gather_all E lists links list (e ∷ es) met g =
    let path = live_path E links met e in
    cond (ends_well path e)
    (gather_all E lists links (suc list) es (mark_all met path.slots) (gather_one lists list e (length path.slots) g))
    (round (gather_fault list (length path.slots) g) (mark_all met path.slots))

-- rule 10: slot 0 has link 0 and value 0
unfoldable pub null_slot_zero : (E : Engine) → E.Links → List ℕ → Bool
null_slot_zero E links values = E.null_test links && eqb (cell values null_slot) 0

-- what the check finds once every list was walked: the fault, and what the lists lack of their shares, which means something where there is none
abbrev pub idle_found : ℕ → List ℕ → Free → ℕ → Round → Path → Found
idle_found size values free lists r path =
    record {
      fault = idle_fault (mark_all r.met path.slots) size lists r.gathered (idle_ends_well path free) (length path.slots) (unwiped_from values path.slots null_slot) free.count;
      lacks = r.gathered.lacks;
    }

-- the pool over the entries of its L lists: rules 10 to 16
unfoldable pub pool_found : (E : Engine) → E.Links → List ℕ → List Entry → Free → Found
pool_found E links values es free =
    let lists = length es in
    let r = gather_all E lists links 0 es (nothing_met (E.size links)) (gathered_none lists) in
    cond (null_slot_zero E links values)
    (cond (eqb r.gathered.fault.rule 0)
    (idle_found (E.size links) values free lists r (idle_path E links values r.met free))
    (faulty r.gathered.fault))
    (faulty (fault 10 0 0))

-- the whole check, rule 9 first
unfoldable pub check_found : (E : Engine) → E.Links → List ℕ → AnyBook → Found
check_found E links values b =
    cond (keeps_rules (E.size links) b)
    (pool_found E links values (take b.lists b.entries) b.free)
    (faulty (fault 9 0 0))

-- 1, or the fault with its place, with nothing found, or else 0 and what the check found
unfoldable pub look_of : (E : Engine) → E.Links → List ℕ → AnyBook → Looked
look_of E links values b =
    let found = check_found E links values b in
    cond (sizes_fit E links values)
    (cond (eqb found.fault.rule 0) (looked_fine found) (refused_by (naming found.fault)))
    (refused_by (numbered 1))
