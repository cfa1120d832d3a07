-- Quick calls over the engine `trial`, on both sides of each of 02 d)'s tests that belong to no engine, and their order: the number, the value, and every cell and word that is left. And what runs on one list, with its counts, and what a trace notes.
use Rattle.std.specs.Prelude.{Bool, true, ◌&&◌, List, [], ◌∷◌, ◌++◌, map, ℕ, ◌+◌, ◌-◌, eqb, set, replicate}
use Rattle.books.specs.declared.Entry.{Entry}
use Rattle.books.specs.Book.{entry_words}
use Rattle.books.specs.Place.{refusal_of, numbered}
use Rattle.books.specs.Tried.{entry, none, word_bits, edge_bits, all_bits, numbers_from}
use Rattle.shapes.specs.declared.End.TheVariants.{Back}
use Rattle.shapes.specs.Moves.{QuickMove, quick_push_back, quick_push_front, quick_pop_back, quick_pop_front, quick}
use Rattle.shapes.specs.Ledger.{Ledger, nothing_noted}
use Rattle.engines.specs.OnList.{OnList}
use Rattle.engines.specs.Quick.{quick_push_on, quick_pop_on, quick_push, quick_pop}
use Rattle.engines.specs.Moves.{State, left, quick_called}
use Rattle.engines.specs.Trace.{noted}
use Rattle.engines.specs.Edges.{same_refusal}
use Rattle.engines.specs.Trial.{trial, two_way, same_state}

-- ---- how the cases are written

-- a pool, a quick call, the number and the value that it must give, and what it must leave
pub record QuickTurn : Type 0 where
  pub state : State trial
  pub call : QuickMove
  pub number : ℕ
  pub value : ℕ
  pub leaves : State trial

abbrev turn : State trial → QuickMove → ℕ → ℕ → State trial → QuickTurn
turn state call number value leaves = record { state = state; call = call; number = number; value = value; leaves = leaves }

-- refused by the number, whichever of the calls is made: the value is 0, and all is as it was
abbrev refused : ℕ → State trial → List QuickMove → List QuickTurn
refused number state calls = map (λ call. turn state call number 0 state) calls

abbrev pushes : ℕ → List QuickMove
pushes l = quick_push_back l all_bits ∷ quick_push_front l all_bits ∷ []

abbrev pops : ℕ → List QuickMove
pops l = quick_pop_back l ∷ quick_pop_front l ∷ []

abbrev all_four : ℕ → List QuickMove
all_four l = pushes l ++ pops l

abbrev joined_turns : List (List QuickTurn) → List QuickTurn
joined_turns [] = []
joined_turns (ts ∷ more) = ts ++ joined_turns more

abbrev six : ℕ → ℕ → ℕ → ℕ → ℕ → ℕ → List ℕ
six a b c d e f = a ∷ b ∷ c ∷ d ∷ e ∷ f ∷ []

-- the next and the previous links, the values, the places of the book, L, the entries, the free head and the free count
abbrev lent : List ℕ → List ℕ → List ℕ → (places lists : ℕ) → List Entry → (free count : ℕ) → State trial
lent next previous values places lists entries free count =
    record { links = two_way next previous; values = values; book = record { places = places; lists = lists; entries = entries; free = record { head = free; count = count } } }

-- N = 6. List `at` has slots 1 and 2; slots 4 and 5 are free; slot 3 is another's. The list's share, limit and stored length, the other entries and the free count are to be tried
pub record Try : Type 0 where
  pub places : ℕ
  pub lists : ℕ
  pub at : ℕ
  pub share : ℕ
  pub limit : ℕ
  pub length : ℕ
  pub others : List Entry
  pub count : ℕ

abbrev held : Try → State trial
held t = lent (six 0 2 0 0 5 0) (six 0 0 1 0 0 0) (six 0 10 20 30 0 0) t.places t.lists (set t.others t.at (entry 1 2 t.share t.limit t.length)) 4 t.count

abbrev left_by : Try → List ℕ → List ℕ → List ℕ → (head tail length free count : ℕ) → State trial
left_by t next previous values head tail length free count = lent next previous values t.places t.lists (set t.others t.at (entry head tail t.share t.limit length)) free count

-- 01's steps "with the stored counts taken as they are"
abbrev done_pushes : Try → List QuickTurn
done_pushes t =
    turn (held t) (quick_push_back t.at all_bits) 0 0 (left_by t (six 0 2 4 0 0 0) (six 0 0 1 0 2 0) (six 0 10 20 30 all_bits 0) 1 4 (t.length + 1) 5 (t.count - 1))
    ∷ turn (held t) (quick_push_front t.at all_bits) 0 0 (left_by t (six 0 2 0 0 1 0) (six 0 4 1 0 0 0) (six 0 10 20 30 all_bits 0) 4 2 (t.length + 1) 5 (t.count - 1))
    ∷ []

abbrev done_pops : Try → List QuickTurn
done_pops t =
    turn (held t) (quick_pop_back t.at) 0 20 (left_by t (six 0 0 4 0 5 0) (six 0 0 0 0 0 0) (six 0 10 0 30 0 0) 1 1 (t.length - 1) 2 (t.count + 1))
    ∷ turn (held t) (quick_pop_front t.at) 0 10 (left_by t (six 0 4 0 0 5 0) (six 0 0 0 0 0 0) (six 0 0 20 30 0 0) 2 2 (t.length - 1) 1 (t.count + 1))
    ∷ []

abbrev done_all : Try → List QuickTurn
done_all t = done_pushes t ++ done_pops t

-- in a book of eight: L, the list and the other entries; share 1, limit 5, length 2, two free
abbrev listed : (lists at : ℕ) → List Entry → Try
listed lists at others = record { places = 8; lists = lists; at = at; share = 1; limit = 5; length = 2; others = others; count = 2 }

-- the only list: its share, limit and length, and the free count
abbrev counted : (share limit length count : ℕ) → Try
counted share limit length count = record { places = 8; lists = 1; at = 0; share = share; limit = limit; length = length; others = none 8; count = count }

-- list 0 of two, of which list 1 lacks so many
abbrev beside : (lacking share limit length count : ℕ) → Try
beside lacking share limit length count = record { places = 8; lists = 2; at = 0; share = share; limit = limit; length = length; others = none 1 ++ entry 0 0 lacking lacking 0 ∷ none 6; count = count }

-- the entry of list k has this stored length
abbrev storing : ℕ → ℕ → List Entry
storing k length = set (none 8) k (entry 0 0 0 0 length)

-- ---- 1, 17 for L, 4

-- a book with other places than eight
abbrev placed : (places lists at : ℕ) → Try
placed places lists at = record { places = places; lists = lists; at = at; share = 1; limit = 5; length = 2; others = none places; count = 2 }

-- with these slices, and L
abbrev uneven : List ℕ → List ℕ → List ℕ → (lists : ℕ) → State trial
uneven next previous values lists = lent next previous values 8 lists (entry 1 2 1 5 2 ∷ none 7) 4 2

-- N = 2, the least pool: slot 1 is free, and then the list's
abbrev least_free : State trial
least_free = lent (0 ∷ 0 ∷ []) (0 ∷ 0 ∷ []) (0 ∷ 0 ∷ []) 8 1 (entry 0 0 1 1 0 ∷ none 7) 1 1

abbrev least_held : State trial
least_held = lent (0 ∷ 0 ∷ []) (0 ∷ 0 ∷ []) (0 ∷ all_bits ∷ []) 8 1 (entry 1 1 1 1 1 ∷ none 7) 0 0

abbrev pub quick_lists : List QuickTurn
quick_lists =
    -- 1: "lengths differ, or N under 2"; before every other test
    joined_turns (map (λ lists. refused 1 (uneven (six 0 2 0 0 5 0) (six 0 0 1 0 0 0) (0 ∷ 10 ∷ 20 ∷ 30 ∷ 0 ∷ []) lists) (all_four 0)) (0 ∷ 1 ∷ 9 ∷ []))
    ++ refused 1 (uneven (six 0 2 0 0 5 0) (0 ∷ 0 ∷ 1 ∷ 0 ∷ 0 ∷ []) (six 0 10 20 30 0 0) 1) (all_four 0)
    ++ refused 1 (uneven (0 ∷ 2 ∷ 0 ∷ 0 ∷ 5 ∷ []) (six 0 0 1 0 0 0) (six 0 10 20 30 0 0) 1) (all_four 1)
    ++ refused 1 (uneven (0 ∷ []) (0 ∷ []) (0 ∷ []) 1) (all_four 0)
    ++ map (λ call. turn least_free call 0 0 least_held) (pushes 0)
    ++ map (λ call. turn least_held call 0 all_bits least_free) (pops 0)
    -- "17 before 4 for an L outside 1 to 8"; in any book, outside 1 to its places
    ++ joined_turns (map (λ lists. done_all (listed lists 0 (none 8))) (numbers_from 1 8))
    ++ joined_turns (map (λ lists. refused 17 (held (listed lists 0 (none 8))) (all_four 0 ++ all_four 9 ++ all_four 65535)) (0 ∷ 9 ∷ 32770 ∷ 65535 ∷ []))
    ++ done_all (placed 3 3 2)
    ++ refused 17 (held (placed 3 4 2)) (all_four 2)
    ++ done_all (placed 9 9 8)
    ++ refused 17 (held (placed 9 10 8)) (all_four 8)
    -- 4: the last list, and the one behind it
    ++ joined_turns (map (λ l. done_all (listed (l + 1) l (none 8)) ++ refused 4 (held (listed (l + 1) l (none 8))) (all_four (l + 1))) (numbers_from 0 8))
    ++ refused 4 (held (listed 1 0 (none 8))) (all_four 256 ++ all_four 65535)
    -- before a stored count above N-1
    ++ refused 4 (held (counted 1 5 2 6)) (all_four 1)
    ++ refused 4 (held (counted 1 5 65535 2)) (all_four 1)

-- ---- 17 "between 4 and 5 for a stored count of the L lists or of the free slots above N-1"

abbrev pub quick_counts : List QuickTurn
quick_counts =
    -- of each list, at N-1 and at N; of the first that is no list's, anything
    joined_turns
    (map
    (λ k.
    done_all (listed 8 0 (storing k 5))
    ++ refused 17 (held (listed 8 0 (storing k 6))) (all_four 0)
    ++ refused 17 (held (listed 8 0 (storing k 65535))) (all_four 0)
    ++ done_all (listed k 0 (storing k 65535)))
    (numbers_from 1 7))
    ++ done_all (listed 8 7 (storing 0 5))
    ++ refused 17 (held (listed 8 7 (storing 0 6))) (all_four 7)
    -- of the list itself, and of the free slots
    ++ done_pops (counted 1 5 5 2)
    ++ joined_turns (map (λ b. refused 17 (held (counted 1 5 (5 + b) 2)) (all_four 0) ++ refused 17 (held (counted 1 5 2 (5 + b))) (all_four 0)) word_bits)
    ++ done_pushes (counted 1 5 2 5)
    -- before 5, 6 and 7
    ++ refused 17 (held (counted 1 5 0 6)) (pops 0)
    ++ refused 5 (held (counted 1 5 0 5)) (pops 0)
    ++ refused 17 (held (counted 1 2 2 6)) (pushes 0)
    ++ refused 6 (held (counted 1 2 2 5)) (pushes 0)
    ++ refused 17 (held (beside 6 1 5 2 6)) (pushes 0)
    ++ refused 7 (held (beside 6 1 5 2 5)) (pushes 0)

-- ---- 5, 6, 7 "from stored counts", and "17 .. after 7 for the rest"

abbrev pub quick_own : List QuickTurn
quick_own =
    -- "5 is a stored length of 0", though there is an end slot
    refused 5 (held (counted 1 5 0 2)) (pops 0)
    ++ done_pops (counted 1 5 1 2)
    -- 6: at the limit; over it the push goes on, and neither 6 nor 7 is given
    ++ refused 6 (held (counted 0 2 2 2)) (pushes 0)
    ++ done_pushes (counted 0 1 2 2)
    ++ done_pushes (counted 0 0 2 2)
    ++ done_pushes (counted 0 3 2 2)
    ++ done_pushes (beside 2 0 1 2 2)
    -- 7: under the limit, with the share, and the free count no more than what is lacked
    ++ refused 7 (held (beside 2 2 5 2 2)) (pushes 0)
    ++ refused 7 (held (beside 2 0 3 2 2)) (pushes 0)
    ++ refused 7 (held (beside 2 1 5 2 1)) (pushes 0)
    ++ done_pushes (beside 2 3 5 2 2)
    ++ done_pushes (beside 2 65535 5 2 2)
    ++ done_pushes (beside 1 0 5 2 2)
    ++ done_pushes (beside 0 0 5 2 1)
    ++ refused 7 (held (beside 0 0 5 2 0)) (pushes 0)
    -- shares that add up to 65,536 and to 131,072
    ++ refused 7 (held (listed 3 0 (none 1 ++ entry 0 0 65535 0 0 ∷ entry 0 0 1 0 0 ∷ none 5))) (pushes 0)
    ++ refused 7 (held (listed 4 0 (none 1 ++ entry 0 0 65535 0 0 ∷ entry 0 0 65535 0 0 ∷ entry 0 0 2 0 0 ∷ none 4))) (pushes 0)
    ++ done_pushes (listed 2 0 (none 2 ++ entry 0 0 65535 0 0 ∷ none 5))
    -- 17: "a count would leave 0 to N-1": push: length + 1, free count - 1; pop: free count + 1
    ++ done_pushes (counted 0 65535 4 2)
    ++ refused 17 (held (counted 0 65535 5 2)) (pushes 0)
    ++ done_pushes (counted 3 5 2 1)
    ++ refused 17 (held (counted 3 5 2 0)) (pushes 0)
    ++ done_pops (counted 1 5 2 4)
    ++ refused 17 (held (counted 1 5 2 5)) (pops 0)
    -- and where the engine makes no step: no free slot, no end slot
    ++ refused 17 (lent (six 0 2 0 0 5 0) (six 0 0 1 0 0 0) (six 0 10 20 30 0 0) 8 1 (entry 1 2 1 5 2 ∷ none 7) 0 2) (pushes 0)
    ++ refused 17 (lent (six 0 2 0 0 5 0) (six 0 0 1 0 0 0) (six 0 10 20 30 0 0) 8 1 (entry 0 0 1 5 2 ∷ none 7) 4 2) (pops 0)
    -- 5, 6 and 7 before these
    ++ refused 5 (lent (six 0 2 0 0 5 0) (six 0 0 1 0 0 0) (six 0 10 20 30 0 0) 8 1 (entry 0 0 1 5 0 ∷ none 7) 4 2) (pops 0)
    ++ refused 5 (held (counted 1 5 0 5)) (pops 0)
    ++ refused 6 (held (counted 0 5 5 2)) (pushes 0)
    ++ refused 6 (lent (six 0 2 0 0 5 0) (six 0 0 1 0 0 0) (six 0 10 20 30 0 0) 8 1 (entry 1 2 1 2 2 ∷ none 7) 0 2) (pushes 0)
    ++ refused 7 (held (beside 2 0 6 5 2)) (pushes 0)
    ++ refused 7 (lent (six 0 2 0 0 5 0) (six 0 0 1 0 0 0) (six 0 10 20 30 0 0) 8 1 (entry 1 2 0 5 2 ∷ none 7) 0 0) (pushes 0)
    -- no rule of 9 to 16 is asked: slot 0, a free slot's value, shares over limits, unused entries
    ++ turn (lent (six 9 2 0 0 5 0) (six 9 0 1 0 0 0) (six 9 10 20 30 44 55) 8 1 (entry 1 2 7 5 2 ∷ map (λ n. entry 65535 65535 65535 65535 65535) (numbers_from 0 7)) 4 2) (quick_pop_back 0) 0 20
    (lent (six 9 0 4 0 5 0) (six 9 0 0 0 0 0) (six 9 10 0 30 44 55) 8 1 (entry 1 1 7 5 1 ∷ map (λ n. entry 65535 65535 65535 65535 65535) (numbers_from 0 7)) 2 3)
    ∷ turn (lent (six 9 2 0 0 5 0) (six 9 0 1 0 0 0) (six 9 10 20 30 44 55) 8 1 (entry 1 2 7 5 2 ∷ map (λ n. entry 65535 65535 65535 65535 65535) (numbers_from 0 7)) 4 2) (quick_push_front 0 7) 0 0
    (lent (six 9 2 0 0 1 0) (six 9 4 1 0 0 0) (six 9 10 20 30 7 55) 8 1 (entry 4 2 7 5 3 ∷ map (λ n. entry 65535 65535 65535 65535 65535) (numbers_from 0 7)) 5 1)
    -- the value of a push and of a pop, whole
    ∷ joined_turns
    (map
    (λ v.
    turn (held (counted 1 5 2 2)) (quick_push_back 0 v) 0 0 (left_by (counted 1 5 2 2) (six 0 2 4 0 0 0) (six 0 0 1 0 2 0) (six 0 10 20 30 v 0) 1 4 3 5 1)
    ∷ turn (lent (six 0 2 0 0 5 0) (six 0 0 1 0 0 0) (six 0 10 v 30 0 0) 8 1 (entry 1 2 1 5 2 ∷ none 7) 4 2) (quick_pop_back 0) 0 v (left_by (counted 1 5 2 2) (six 0 0 4 0 5 0) (six 0 0 0 0 0 0) (six 0 10 0 30 0 0) 1 1 1 2 3)
    ∷ [])
    (0 ∷ edge_bits))

abbrev pub quick_turns_pass : List QuickTurn → Bool
quick_turns_pass [] = true
quick_turns_pass (t ∷ ts) =
    let r = quick_called trial t.state t.call in
    same_refusal (refusal_of r.number r.place) (numbered t.number) && (eqb r.value t.value && (same_state (left r) t.leaves && quick_turns_pass ts))

-- 01: "N runs from 2 to 4,096": the number of a quick push and of a quick pop on so many next links, previous links and values
abbrev pub quick_sizes : ℕ → ℕ → ℕ → List ℕ
quick_sizes next previous values =
    (quick_push trial (two_way (replicate next 0) (replicate previous 0)) (replicate values 0) least_free.book 0 Back 7).number
    ∷ (quick_pop trial (two_way (replicate next 0) (replicate previous 0)) (replicate values 0) least_held.book 0 Back).number
    ∷ []

-- ---- what runs on one list, handed its entry and the free record

-- the number, the value, the entry and the free record
abbrev on_list_words : OnList trial → List ℕ
on_list_words r = r.number ∷ r.value ∷ entry_words (r.entry ∷ []) ++ r.free.head ∷ r.free.count ∷ []

abbrev pushed_on : (share limit length lacking free count : ℕ) → List ℕ
pushed_on share limit length lacking free count =
    on_list_words (quick_push_on trial Back (two_way (six 0 2 0 0 5 0) (six 0 0 1 0 0 0)) (six 0 10 20 30 0 0) (entry 1 2 share limit length) (record { head = free; count = count }) lacking 7)

abbrev popped_on : (length tail count : ℕ) → List ℕ
popped_on length tail count =
    on_list_words (quick_pop_on trial Back (two_way (six 0 2 0 0 5 0) (six 0 0 1 0 0 0)) (six 0 10 20 30 0 0) (entry 1 tail 1 5 length) (record { head = 4; count = count }))

-- done, 6, 7, and 17 for the length, the free count and the free head
abbrev pub pushes_on : List (List ℕ)
pushes_on = pushed_on 0 5 2 0 4 2 ∷ pushed_on 0 2 2 0 4 2 ∷ pushed_on 0 5 2 2 4 2 ∷ pushed_on 0 5 2 1 4 2 ∷ pushed_on 0 9 5 0 4 2 ∷ pushed_on 3 5 2 0 4 0 ∷ pushed_on 3 5 2 0 0 1 ∷ []

-- done, 5, and 17 for the free count and the end slot
abbrev pub pops_on : List (List ℕ)
pops_on = popped_on 2 2 2 ∷ popped_on 0 2 2 ∷ popped_on 2 2 4 ∷ popped_on 2 2 5 ∷ popped_on 2 0 2 ∷ []

-- ---- what a trace notes

-- a done quick push, a refused one, a done quick pop and a refused one
abbrev noted_of : Try → QuickMove → Ledger
noted_of t q = noted trial (held t) (quick q) nothing_noted

abbrev pub quick_noted : List ℕ
quick_noted =
    (noted_of (counted 1 5 2 2) (quick_push_back 0 7)).pushes 0
    ∷ (noted_of (counted 1 2 2 2) (quick_push_back 0 7)).pushes 0
    ∷ (noted_of (counted 1 5 2 2) (quick_pop_front 0)).pops 0
    ∷ (noted_of (counted 1 5 0 2) (quick_pop_front 0)).pops 0
    ∷ (noted_of (counted 1 5 2 6) (quick_pop_front 0)).pops 0
    ∷ []
