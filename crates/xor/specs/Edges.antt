-- Small pools that break one clause each of 01's "sound" (the sum of the shares can only be broken together with the free slots that cover the lacks), pools at the edge that are sound all the same, and two that are no pools, each with the number and the place that a look must give.
use Rattle.std.specs.Prelude.{Bool, true, ◌&&◌, List, [], ◌∷◌, ◌++◌, ℕ, ◌+◌, ◌-◌, length}
use Rattle.books.specs.declared.Entry.{Entry}
use Rattle.books.specs.declared.Refusal.{Refusal}
use Rattle.books.specs.Book.{most_lists, AnyBook}
use Rattle.books.specs.Place.{numbered}
use Rattle.books.specs.Tried.{entry, none}
use Rattle.engines.specs.Check.{look_of}
use Rattle.engines.specs.Edges.{sound, broken, same_refusal}
use Rattle.xor.specs.Engine.{xor}

-- a pool with its book, and the number with its place that a look must give
pub record Edge : Type 0 where
  pub answer : Refusal
  pub links : List ℕ
  pub values : List ℕ
  pub book : AnyBook

-- with the stored count of the free slots
abbrev pub counted : Refusal → List ℕ → List ℕ → ℕ → List Entry → ℕ → ℕ → Edge
counted answer links values lists entries free count =
    record { answer = answer; links = links; values = values; book = record { places = most_lists; lists = lists; entries = entries; free = record { head = free; count = count } } }

-- what the stored lengths add up to
abbrev lengths_of : List Entry → ℕ
lengths_of [] = 0
lengths_of (e ∷ es) = e.length + lengths_of es

-- with the free count that is left of N-1 by the stored lengths: it is right where they are
abbrev pub edge : Refusal → List ℕ → List ℕ → ℕ → List Entry → ℕ → Edge
edge answer links values lists entries free = counted answer links values lists entries free (length links - 1 - lengths_of entries)

abbrev pub edges : List Edge
edges =
    -- sound: one slot in a list, its value 0, share and limit N - 1; the same slot free, share and limit 0
    edge sound (0 ∷ 0 ∷ []) (0 ∷ 0 ∷ []) 1 (entry 1 1 1 1 1 ∷ none 7) 0
    ∷ edge sound (0 ∷ 0 ∷ []) (0 ∷ 0 ∷ []) 1 (entry 0 0 0 0 0 ∷ none 7) 1
    -- sound: eight lists that may hold nothing; eight lists, and the last has the slot
    ∷ edge sound (0 ∷ 0 ∷ []) (0 ∷ 0 ∷ []) 8 (none 8) 1
    ∷ edge sound (0 ∷ 0 ∷ []) (0 ∷ 5 ∷ []) 8 (none 7 ++ entry 1 1 0 1 1 ∷ []) 0
    -- sound: a list from slot 2 to slot 1; slots free in rising and in falling order; the one free slot is what list 1 lacks
    ∷ edge sound (0 ∷ 2 ∷ 1 ∷ []) (0 ∷ 8 ∷ 9 ∷ []) 1 (entry 2 1 0 2 2 ∷ none 7) 0
    ∷ edge sound (0 ∷ 2 ∷ 0 ∷ []) (0 ∷ 0 ∷ 0 ∷ []) 1 (entry 0 0 0 2 0 ∷ none 7) 1
    ∷ edge sound (0 ∷ 0 ∷ 1 ∷ []) (0 ∷ 0 ∷ 0 ∷ []) 1 (entry 0 0 0 2 0 ∷ none 7) 2
    ∷ edge sound (0 ∷ 0 ∷ 0 ∷ []) (0 ∷ 8 ∷ 0 ∷ []) 2 (entry 1 1 0 2 1 ∷ entry 0 0 1 1 0 ∷ none 6) 2
    -- "every slot from 1 to N-1 stands exactly once": in none, in two lists, in a list and free
    ∷ edge (broken 13 0 1) (0 ∷ 0 ∷ []) (0 ∷ 0 ∷ []) 1 (entry 0 0 0 1 0 ∷ none 7) 0
    ∷ edge (broken 11 1 0) (0 ∷ 0 ∷ []) (0 ∷ 0 ∷ []) 2 (entry 1 1 0 1 1 ∷ entry 1 1 0 1 1 ∷ none 6) 0
    ∷ edge (broken 12 0 0) (0 ∷ 0 ∷ []) (0 ∷ 0 ∷ []) 1 (entry 1 1 0 1 1 ∷ none 7) 1
    -- "both 0 when it is empty"; "the first and last slot of its sequence"
    ∷ edge (broken 11 0 0) (0 ∷ 0 ∷ []) (0 ∷ 0 ∷ []) 1 (entry 0 1 0 1 0 ∷ none 7) 1
    ∷ edge (broken 11 0 1) (0 ∷ 0 ∷ []) (0 ∷ 0 ∷ []) 1 (entry 1 0 0 1 1 ∷ none 7) 1
    ∷ edge (broken 11 0 0) (0 ∷ 0 ∷ []) (0 ∷ 0 ∷ []) 1 (entry 0 1 0 1 0 ∷ none 7) 0
    ∷ edge (broken 11 0 1) (0 ∷ 0 ∷ []) (0 ∷ 0 ∷ []) 1 (entry 1 0 0 1 1 ∷ none 7) 0
    -- "a live slot's link"; "the free head is the first free slot or 0"; "a free slot's link .. 0 at the last"
    ∷ edge (broken 11 0 1) (0 ∷ 1 ∷ []) (0 ∷ 5 ∷ []) 1 (entry 1 1 0 1 1 ∷ none 7) 0
    ∷ edge (broken 11 0 2) (0 ∷ 2 ∷ 0 ∷ []) (0 ∷ 8 ∷ 9 ∷ []) 1 (entry 1 2 0 2 2 ∷ none 7) 0
    ∷ edge (broken 12 0 0) (0 ∷ 0 ∷ []) (0 ∷ 0 ∷ []) 1 (entry 0 0 0 1 0 ∷ none 7) 2
    ∷ edge (broken 12 0 1) (0 ∷ 1 ∷ []) (0 ∷ 0 ∷ []) 1 (entry 0 0 0 1 0 ∷ none 7) 1
    ∷ edge (broken 12 0 1) (0 ∷ 2 ∷ []) (0 ∷ 0 ∷ []) 1 (entry 0 0 0 1 0 ∷ none 7) 1
    ∷ edge (broken 13 0 2) (0 ∷ 0 ∷ 0 ∷ []) (0 ∷ 0 ∷ 0 ∷ []) 1 (entry 0 0 0 2 0 ∷ none 7) 1
    -- "every free slot's value is 0; slot 0 has link 0 and value 0"
    ∷ edge (broken 14 0 1) (0 ∷ 0 ∷ []) (0 ∷ 1 ∷ []) 1 (entry 0 0 0 1 0 ∷ none 7) 1
    ∷ edge (broken 10 0 0) (1 ∷ 0 ∷ []) (0 ∷ 0 ∷ []) 1 (entry 0 0 0 1 0 ∷ none 7) 1
    ∷ edge (broken 10 0 0) (0 ∷ 0 ∷ []) (1 ∷ 0 ∷ []) 1 (entry 0 0 0 1 0 ∷ none 7) 1
    -- "L is 1 to 8; share ≤ limit ≤ N-1 for each list; the shares add up to at most N-1"
    ∷ edge (broken 9 0 0) (0 ∷ 0 ∷ []) (0 ∷ 0 ∷ []) 0 (none 8) 1
    ∷ edge (broken 9 0 0) (0 ∷ 0 ∷ []) (0 ∷ 0 ∷ []) 9 (none 8) 1
    ∷ edge (broken 9 0 0) (0 ∷ 0 ∷ []) (0 ∷ 0 ∷ []) 1 (entry 0 0 1 0 0 ∷ none 7) 1
    ∷ edge (broken 9 0 0) (0 ∷ 0 ∷ []) (0 ∷ 0 ∷ []) 2 (entry 0 0 0 1 0 ∷ entry 0 0 1 0 0 ∷ none 6) 1
    ∷ edge (broken 9 0 0) (0 ∷ 0 ∷ []) (0 ∷ 0 ∷ []) 1 (entry 0 0 0 2 0 ∷ none 7) 1
    ∷ edge (broken 9 0 0) (0 ∷ 2 ∷ 0 ∷ []) (0 ∷ 0 ∷ 0 ∷ []) 2 (entry 0 0 2 2 0 ∷ entry 0 0 1 2 0 ∷ none 6) 1
    -- "entries from L on are all 0": a head, a tail, a share, a limit
    ∷ edge (broken 9 0 0) (0 ∷ 0 ∷ []) (0 ∷ 0 ∷ []) 1 (entry 0 0 0 1 0 ∷ entry 1 0 0 0 0 ∷ none 6) 1
    ∷ edge (broken 9 0 0) (0 ∷ 0 ∷ []) (0 ∷ 0 ∷ []) 1 (entry 0 0 0 1 0 ∷ entry 0 1 0 0 0 ∷ none 6) 1
    ∷ edge (broken 9 0 0) (0 ∷ 0 ∷ []) (0 ∷ 0 ∷ []) 1 (entry 0 0 0 1 0 ∷ entry 0 0 1 0 0 ∷ none 6) 1
    ∷ edge (broken 9 0 0) (0 ∷ 0 ∷ []) (0 ∷ 0 ∷ []) 1 (entry 0 0 0 1 0 ∷ none 6 ++ entry 0 0 0 1 0 ∷ []) 1
    -- "no list is longer than its limit, and the free slots are at least the sum of what each list lacks of its share"
    ∷ edge (broken 15 0 0) (0 ∷ 0 ∷ []) (0 ∷ 5 ∷ []) 1 (entry 1 1 0 0 1 ∷ none 7) 0
    ∷ edge (broken 15 1 0) (0 ∷ 0 ∷ 0 ∷ []) (0 ∷ 8 ∷ 9 ∷ []) 2 (entry 1 1 0 1 1 ∷ entry 2 2 0 0 1 ∷ none 6) 0
    ∷ edge (broken 15 2 0) (0 ∷ 2 ∷ 1 ∷ []) (0 ∷ 8 ∷ 8 ∷ []) 2 (entry 1 2 0 2 2 ∷ entry 0 0 1 1 0 ∷ none 6) 0
    -- 02 c): each stored length, and the free count, "equals its sequence's length": one too few and one too many; a length in an entry from L on
    ∷ counted sound (0 ∷ 0 ∷ 0 ∷ []) (0 ∷ 8 ∷ 0 ∷ []) 2 (entry 1 1 0 2 1 ∷ entry 0 0 1 1 0 ∷ none 6) 2 1
    ∷ counted (broken 16 0 0) (0 ∷ 0 ∷ 0 ∷ []) (0 ∷ 8 ∷ 0 ∷ []) 2 (entry 1 1 0 2 0 ∷ entry 0 0 1 1 0 ∷ none 6) 2 1
    ∷ counted (broken 16 0 0) (0 ∷ 0 ∷ 0 ∷ []) (0 ∷ 8 ∷ 0 ∷ []) 2 (entry 1 1 0 2 2 ∷ entry 0 0 1 1 0 ∷ none 6) 2 1
    ∷ counted (broken 16 1 0) (0 ∷ 0 ∷ 0 ∷ []) (0 ∷ 8 ∷ 0 ∷ []) 2 (entry 1 1 0 2 1 ∷ entry 0 0 1 1 1 ∷ none 6) 2 1
    ∷ counted (broken 16 2 0) (0 ∷ 0 ∷ 0 ∷ []) (0 ∷ 8 ∷ 0 ∷ []) 2 (entry 1 1 0 2 1 ∷ entry 0 0 1 1 0 ∷ none 6) 2 0
    ∷ counted (broken 16 2 0) (0 ∷ 0 ∷ 0 ∷ []) (0 ∷ 8 ∷ 0 ∷ []) 2 (entry 1 1 0 2 1 ∷ entry 0 0 1 1 0 ∷ none 6) 2 2
    ∷ counted (broken 16 0 0) (0 ∷ 0 ∷ 0 ∷ []) (0 ∷ 8 ∷ 9 ∷ []) 2 (entry 1 1 0 2 2 ∷ entry 2 2 0 2 0 ∷ none 6) 0 0
    ∷ counted (broken 16 0 0) (0 ∷ 0 ∷ []) (0 ∷ 0 ∷ []) 1 (entry 0 0 0 0 5 ∷ none 7) 1 1
    ∷ counted (broken 9 0 0) (0 ∷ 0 ∷ []) (0 ∷ 0 ∷ []) 1 (entry 0 0 0 1 0 ∷ entry 0 0 0 0 1 ∷ none 6) 1 1
    ∷ counted (broken 9 0 0) (0 ∷ 0 ∷ []) (0 ∷ 0 ∷ []) 1 (entry 0 0 0 1 0 ∷ none 6 ++ entry 0 0 0 0 1 ∷ []) 1 1
    -- no pool at all: N is 1; the lengths differ
    ∷ edge (numbered 1) (0 ∷ []) (0 ∷ []) 1 (none 8) 0
    ∷ edge (numbered 1) (0 ∷ 0 ∷ []) (0 ∷ 0 ∷ 0 ∷ []) 1 (none 8) 1
    ∷ []

-- what a look answers
abbrev pub look_answer : Edge → Refusal
look_answer e = (look_of xor e.links e.values e.book).refusal

-- does a look give each its number and place?
abbrev pub edges_pass : List Edge → Bool
edges_pass [] = true
edges_pass (e ∷ es) = same_refusal (look_answer e) e.answer && edges_pass es

-- which rule goes before which, and at which list and place
abbrev pub broken_pools : List Edge
broken_pools =
    -- rule 9 goes before rule 10, and rule 10 before rule 11
    edge (broken 9 0 0) (1 ∷ 0 ∷ []) (0 ∷ 0 ∷ []) 1 (entry 0 0 1 0 0 ∷ none 7) 1
    ∷ edge (broken 10 0 0) (1 ∷ 0 ∷ []) (0 ∷ 0 ∷ []) 1 (entry 0 1 0 1 0 ∷ none 7) 1
    -- rule 11: a tail without a head; a head without a tail; a slot past the pool, at the head and behind it
    ∷ edge (broken 11 0 0) (0 ∷ 0 ∷ []) (0 ∷ 0 ∷ []) 1 (entry 0 1 0 1 0 ∷ none 7) 1
    ∷ edge (broken 11 0 1) (0 ∷ 0 ∷ []) (0 ∷ 0 ∷ []) 1 (entry 1 0 0 1 1 ∷ none 7) 0
    ∷ edge (broken 11 0 0) (0 ∷ 0 ∷ []) (0 ∷ 0 ∷ []) 1 (entry 2 1 0 1 2 ∷ none 7) 0
    ∷ edge (broken 11 0 1) (0 ∷ 2 ∷ []) (0 ∷ 5 ∷ []) 1 (entry 1 1 0 1 1 ∷ none 7) 0
    -- the chain comes back to a slot; it goes on behind the tail; it ends before the tail
    ∷ edge (broken 11 0 2) (0 ∷ 2 ∷ 0 ∷ []) (0 ∷ 8 ∷ 9 ∷ []) 1 (entry 1 2 0 2 2 ∷ none 7) 0
    ∷ edge (broken 11 0 2) (0 ∷ 2 ∷ 1 ∷ []) (0 ∷ 8 ∷ 9 ∷ []) 1 (entry 1 1 0 2 1 ∷ none 7) 0
    ∷ edge (broken 11 0 1) (0 ∷ 0 ∷ 0 ∷ []) (0 ∷ 8 ∷ 0 ∷ []) 1 (entry 1 2 0 2 2 ∷ none 7) 2
    -- a slot of list 0 in list 1: at its head, and behind it. List 0's fault goes before list 1's
    ∷ edge (broken 11 1 0) (0 ∷ 0 ∷ []) (0 ∷ 5 ∷ []) 2 (entry 1 1 0 1 1 ∷ entry 1 1 0 1 1 ∷ none 6) 0
    ∷ edge (broken 11 1 1) (0 ∷ 0 ∷ 1 ∷ []) (0 ∷ 8 ∷ 9 ∷ []) 2 (entry 1 1 0 2 1 ∷ entry 2 1 0 2 2 ∷ none 6) 0
    ∷ edge (broken 11 0 1) (0 ∷ 0 ∷ []) (0 ∷ 5 ∷ []) 2 (entry 1 0 0 1 1 ∷ entry 1 1 0 1 1 ∷ none 6) 0
    -- rule 12: a free head past the pool; a free chain that comes back; one that leaves the pool; one that goes into a list
    ∷ edge (broken 12 0 0) (0 ∷ 0 ∷ []) (0 ∷ 0 ∷ []) 1 (entry 0 0 0 1 0 ∷ none 7) 7
    ∷ edge (broken 12 0 1) (0 ∷ 1 ∷ []) (0 ∷ 0 ∷ []) 1 (entry 0 0 0 1 0 ∷ none 7) 1
    ∷ edge (broken 12 0 1) (0 ∷ 2 ∷ []) (0 ∷ 0 ∷ []) 1 (entry 0 0 0 1 0 ∷ none 7) 1
    ∷ edge (broken 12 0 1) (0 ∷ 0 ∷ 1 ∷ []) (0 ∷ 8 ∷ 0 ∷ []) 1 (entry 1 1 0 2 1 ∷ none 7) 2
    -- rule 13: the lowest slot that is nowhere, before a free slot that has a value
    ∷ edge (broken 13 0 1) (0 ∷ 0 ∷ 0 ∷ []) (0 ∷ 0 ∷ 9 ∷ []) 1 (entry 0 0 0 2 0 ∷ none 7) 2
    -- rule 14: slots 3, 1 and 2 are free in this order, 3 and 2 have values: the lowest slot is named
    ∷ edge (broken 14 0 2) (0 ∷ 2 ∷ 0 ∷ 1 ∷ []) (0 ∷ 0 ∷ 8 ∷ 9 ∷ []) 1 (entry 0 0 0 3 0 ∷ none 7) 3
    -- before shares that are not covered, where no list is over its limit
    ∷ edge (broken 14 0 2) (0 ∷ 0 ∷ 0 ∷ []) (0 ∷ 8 ∷ 7 ∷ []) 2 (entry 1 1 0 2 1 ∷ entry 0 0 2 2 0 ∷ none 6) 2
    -- rule 15: list 1 is over its limit; no list is, and the free slots do not cover the lacks: L stands for the list
    ∷ edge (broken 15 1 0) (0 ∷ 0 ∷ 0 ∷ []) (0 ∷ 8 ∷ 9 ∷ []) 2 (entry 1 1 0 1 1 ∷ entry 2 2 0 0 1 ∷ none 6) 0
    ∷ edge (broken 15 2 0) (0 ∷ 2 ∷ 1 ∷ []) (0 ∷ 8 ∷ 8 ∷ []) 2 (entry 1 2 0 2 2 ∷ entry 0 0 1 1 0 ∷ none 6) 0
    -- rule 16: the lowest list, before the free count; L for it alone; after a list over its limit and after shares that are not covered
    ∷ counted (broken 16 0 0) (0 ∷ 0 ∷ 0 ∷ []) (0 ∷ 8 ∷ 0 ∷ []) 2 (entry 1 1 0 2 0 ∷ entry 0 0 1 1 1 ∷ none 6) 2 9
    ∷ counted (broken 16 1 0) (0 ∷ 0 ∷ 0 ∷ []) (0 ∷ 8 ∷ 0 ∷ []) 2 (entry 1 1 0 2 1 ∷ entry 0 0 1 1 65535 ∷ none 6) 2 9
    ∷ counted (broken 16 2 0) (0 ∷ 0 ∷ 0 ∷ []) (0 ∷ 8 ∷ 0 ∷ []) 2 (entry 1 1 0 2 1 ∷ entry 0 0 1 1 0 ∷ none 6) 2 65535
    ∷ counted (broken 15 0 0) (0 ∷ 0 ∷ 0 ∷ []) (0 ∷ 8 ∷ 0 ∷ []) 2 (entry 1 1 0 0 0 ∷ entry 0 0 1 1 1 ∷ none 6) 2 9
    ∷ counted (broken 15 2 0) (0 ∷ 0 ∷ 0 ∷ []) (0 ∷ 8 ∷ 0 ∷ []) 2 (entry 1 1 0 2 0 ∷ entry 0 0 2 2 2 ∷ none 6) 2 9
    ∷ []
