-- Small pools on both sides of each clause of 01's "sound" and of the book rules, over the engine `trial`, each with the number and the place that a look must give. Every bit of a word and of a value is tried, and every list.
use Rattle.std.specs.Prelude.{Bool, true, cond, ◌&&◌, List, [], ◌∷◌, ◌++◌, map, ℕ, suc, ◌+◌, ltb, eqb, set, replicate}
use Rattle.books.specs.declared.Entry.{Entry}
use Rattle.books.specs.declared.Refusal.{Refusal}
use Rattle.books.specs.Place.{refusal_of, numbered}
use Rattle.books.specs.Tried.{entry, none, word_bits, value_bits, all_bits, numbers_from}
use Rattle.engines.specs.Check.{look_of}
use Rattle.engines.specs.Moves.{State}
use Rattle.engines.specs.Trial.{trial, counted_pool, pool}

-- a pool with its book, and the number with its place that a look must give
pub record LookCase : Type 0 where
  pub answer : Refusal
  pub state : State trial

-- the pool is sound; a rule is broken first, with this list and position
abbrev pub sound : Refusal
sound = numbered 0

abbrev pub broken : ℕ → ℕ → ℕ → Refusal
broken rule list position = refusal_of rule (record { list = list; position = position })

abbrev edge : Refusal → List ℕ → List ℕ → List ℕ → ℕ → List Entry → ℕ → LookCase
edge answer next previous values lists entries free = record { answer = answer; state = pool next previous values lists entries free }

-- N = 2 and one list, share 0 and limit 1: slot 1 is free, or it is the list's. Its links and its value
abbrev pub one_free : Refusal → ℕ → ℕ → ℕ → LookCase
one_free answer next previous value = edge answer (0 ∷ next ∷ []) (0 ∷ previous ∷ []) (0 ∷ value ∷ []) 1 (entry 0 0 0 1 0 ∷ none 7) 1

abbrev pub one_live : Refusal → ℕ → ℕ → ℕ → LookCase
one_live answer next previous value = edge answer (0 ∷ next ∷ []) (0 ∷ previous ∷ []) (0 ∷ value ∷ []) 1 (entry 1 1 0 1 1 ∷ none 7) 0

-- slot 0's links and value, where slot 1 is free
abbrev pub null_has : ℕ → ℕ → ℕ → LookCase
null_has next previous value = edge (broken 10 0 0) (next ∷ 0 ∷ []) (previous ∷ 0 ∷ []) (value ∷ 0 ∷ []) 1 (entry 0 0 0 1 0 ∷ none 7) 1

-- 01: "slot 0 has link 0 and value 0"; "every free slot's value is 0"; "a live slot's link"; "a free slot's link is .. 0 at the last": bit by bit. A live slot's value may be any
abbrev pub bits : List LookCase
bits =
    one_free sound 0 0 0 ∷ one_live sound 0 0 0 ∷ one_live sound 0 0 all_bits ∷ one_free (broken 14 0 1) 0 0 all_bits ∷ null_has 0 0 all_bits ∷ null_has 65535 0 0 ∷ null_has 0 65535 0
    ∷ map (λ b. one_free (broken 14 0 1) 0 0 b) value_bits
    ++ map (λ b. null_has 0 0 b) value_bits
    ++ map (λ b. one_live sound 0 0 b) value_bits
    ++ map (λ b. null_has b 0 0) word_bits
    ++ map (λ b. null_has 0 b 0) word_bits
    ++ map (λ b. one_live (broken 11 0 1) b 0 5) word_bits
    ++ map (λ b. one_live (broken 11 0 0) 0 b 5) word_bits
    ++ map (λ b. one_free (broken 12 0 1) b 0 0) word_bits
    ++ map (λ b. one_free (broken 12 0 0) 0 b 0) word_bits

-- N = 4: slots 1, 2 and 3 are one list's, or free, in this order
abbrev three_live : Refusal → List ℕ → List ℕ → ℕ → ℕ → ℕ → LookCase
three_live answer next previous head tail free = edge answer next previous (0 ∷ 7 ∷ all_bits ∷ 9 ∷ []) 1 (entry head tail 0 3 3 ∷ none 7) free

abbrev three_free : Refusal → List ℕ → List ℕ → List ℕ → ℕ → LookCase
three_free answer next previous values free = edge answer next previous values 1 (entry 0 0 0 3 0 ∷ none 7) free

abbrev four : ℕ → ℕ → ℕ → ℕ → List ℕ
four a b c d = a ∷ b ∷ c ∷ d ∷ []

-- the three are one list's, with this limit
abbrev limited : Refusal → ℕ → LookCase
limited answer limit = edge answer (four 0 2 3 0) (four 0 0 1 2) (four 0 7 8 9) 1 (entry 1 3 0 limit 3 ∷ none 7) 0

-- 01: "each list's head and tail are the first and last slot of its sequence", "a live slot's link", "the free head is the first free slot or 0; a free slot's link is the next free slot", "every free slot's value is 0"
abbrev pub chains : List LookCase
chains =
    three_live sound (four 0 2 3 0) (four 0 0 1 2) 1 3 0
    -- the head and the tail are others; the free head is no slot
    ∷ three_live (broken 11 0 0) (four 0 2 3 0) (four 0 0 1 2) 2 3 0
    ∷ three_live (broken 11 0 3) (four 0 2 3 0) (four 0 0 1 2) 1 2 0
    ∷ three_live (broken 11 0 3) (four 0 2 3 0) (four 0 0 1 2) 1 0 0
    ∷ three_live (broken 11 0 0) (four 0 2 3 0) (four 0 0 1 2) 0 3 0
    ∷ three_live (broken 13 0 1) (four 0 2 3 0) (four 0 0 1 2) 0 0 0
    ∷ three_live (broken 12 0 0) (four 0 2 3 0) (four 0 0 1 2) 1 3 4
    -- the first, the middle and the last slot: a wrong next and a wrong previous one
    ∷ three_live (broken 11 0 1) (four 0 3 3 0) (four 0 0 1 2) 1 3 0
    ∷ three_live (broken 11 0 2) (four 0 2 1 0) (four 0 0 1 2) 1 3 0
    ∷ three_live (broken 11 0 3) (four 0 2 3 1) (four 0 0 1 2) 1 3 0
    ∷ three_live (broken 11 0 0) (four 0 2 3 0) (four 0 3 1 2) 1 3 0
    ∷ three_live (broken 11 0 1) (four 0 2 3 0) (four 0 0 3 2) 1 3 0
    ∷ three_live (broken 11 0 2) (four 0 2 3 0) (four 0 0 1 1) 1 3 0
    -- the free slots in rising and in falling order, and a value in the first, the middle and the last
    ∷ three_free sound (four 0 2 3 0) (four 0 0 0 0) (four 0 0 0 0) 1
    ∷ three_free sound (four 0 0 1 2) (four 0 0 0 0) (four 0 0 0 0) 3
    ∷ three_free (broken 14 0 1) (four 0 2 3 0) (four 0 0 0 0) (four 0 1 0 0) 1
    ∷ three_free (broken 14 0 2) (four 0 2 3 0) (four 0 0 0 0) (four 0 0 1 0) 1
    ∷ three_free (broken 14 0 3) (four 0 2 3 0) (four 0 0 0 0) (four 0 0 0 1) 1
    -- the free head is another slot, or none; a free slot's link leads past one, back, or nowhere
    ∷ three_free (broken 13 0 1) (four 0 2 3 0) (four 0 0 0 0) (four 0 0 0 0) 2
    ∷ three_free (broken 13 0 1) (four 0 2 3 0) (four 0 0 0 0) (four 0 0 0 0) 0
    ∷ three_free (broken 13 0 2) (four 0 3 3 0) (four 0 0 0 0) (four 0 0 0 0) 1
    ∷ three_free (broken 12 0 2) (four 0 2 1 0) (four 0 0 0 0) (four 0 0 0 0) 1
    ∷ three_free (broken 13 0 3) (four 0 2 0 0) (four 0 0 0 0) (four 0 0 0 0) 1
    -- slot 2 is live: its value is its own, and slots 1 and 3 are free
    ∷ edge sound (four 0 3 0 0) (four 0 0 0 0) (four 0 0 all_bits 0) 1 (entry 2 2 0 3 1 ∷ none 7) 1
    ∷ edge (broken 14 0 3) (four 0 3 0 0) (four 0 0 0 0) (four 0 0 all_bits 1) 1 (entry 2 2 0 3 1 ∷ none 7) 1
    -- "no list is longer than its limit": three slots, at the limit and over it
    ∷ limited sound 3
    ∷ limited (broken 15 0 0) 2
    ∷ limited (broken 15 0 0) 1
    ∷ limited (broken 15 0 0) 0
    -- a head, a tail and a free head with one bit more
    ∷ map (λ b. three_live (broken 11 0 0) (four 0 2 3 0) (four 0 0 1 2) (1 + b) 3 0) word_bits
    ++ map (λ b. three_live (broken 11 0 3) (four 0 2 3 0) (four 0 0 1 2) 1 (3 + b) 0) word_bits
    ++ map (λ b. three_free (cond (ltb b 4) (broken 13 0 1) (broken 12 0 0)) (four 0 2 3 0) (four 0 0 0 0) (four 0 0 0 0) (1 + b)) word_bits

-- 01: "every slot from 1 to N-1 stands exactly once in all of them together": in no list and not free, in two lists, in a list and free, and behind another list's slot
abbrev pub once : List LookCase
once =
    edge (broken 13 0 1) (0 ∷ 0 ∷ []) (0 ∷ 0 ∷ []) (0 ∷ 0 ∷ []) 1 (entry 0 0 0 1 0 ∷ none 7) 0
    ∷ edge (broken 13 0 2) (0 ∷ 0 ∷ 0 ∷ []) (0 ∷ 0 ∷ 0 ∷ []) (0 ∷ 0 ∷ 0 ∷ []) 1 (entry 1 1 0 2 1 ∷ none 7) 0
    ∷ edge (broken 13 0 1) (0 ∷ 0 ∷ 0 ∷ []) (0 ∷ 0 ∷ 0 ∷ []) (0 ∷ 0 ∷ 0 ∷ []) 1 (entry 2 2 0 2 1 ∷ none 7) 0
    ∷ edge (broken 11 1 0) (0 ∷ 0 ∷ []) (0 ∷ 0 ∷ []) (0 ∷ 5 ∷ []) 2 (entry 1 1 0 1 1 ∷ entry 1 1 0 1 1 ∷ none 6) 0
    ∷ edge (broken 12 0 0) (0 ∷ 0 ∷ []) (0 ∷ 0 ∷ []) (0 ∷ 0 ∷ []) 1 (entry 1 1 0 1 1 ∷ none 7) 1
    ∷ edge (broken 11 1 1) (0 ∷ 0 ∷ 1 ∷ []) (0 ∷ 0 ∷ 0 ∷ []) (0 ∷ 5 ∷ 6 ∷ []) 2 (entry 1 1 0 2 1 ∷ entry 2 1 0 2 2 ∷ none 6) 0
    ∷ edge (broken 12 0 1) (0 ∷ 0 ∷ 1 ∷ []) (0 ∷ 0 ∷ 0 ∷ []) (0 ∷ 0 ∷ 0 ∷ []) 1 (entry 1 1 0 2 1 ∷ none 7) 2
    ∷ []

abbrev joined_all : List (List LookCase) → List LookCase
joined_all [] = []
joined_all (es ∷ more) = es ++ joined_all more

-- ---- every list

-- N = 9 and eight lists: list l has slot l + 1, share and limit 1
abbrev eight_lists : List Entry
eight_lists = entry 1 1 1 1 1 ∷ entry 2 2 1 1 1 ∷ entry 3 3 1 1 1 ∷ entry 4 4 1 1 1 ∷ entry 5 5 1 1 1 ∷ entry 6 6 1 1 1 ∷ entry 7 7 1 1 1 ∷ entry 8 8 1 1 1 ∷ []

abbrev eight_hold : Refusal → List ℕ → List ℕ → List Entry → LookCase
eight_hold answer next previous es = edge answer next previous (0 ∷ 11 ∷ 12 ∷ 13 ∷ 14 ∷ 15 ∷ 16 ∷ 17 ∷ 18 ∷ []) 8 es 0

-- list l has another entry
abbrev other_entry : Refusal → ℕ → Entry → LookCase
other_entry answer l e = eight_hold answer (replicate 9 0) (replicate 9 0) (set eight_lists l e)

-- what list l must not be: with a wrong head or tail; empty; over its limit; with a share over its limit, or a limit of N; with links of its slot that lead elsewhere
abbrev of_list : ℕ → List LookCase
of_list l =
    let slot = suc l in
    other_entry sound l (entry slot slot 0 1 1)
    ∷ other_entry sound l (entry slot slot 1 8 1)
    ∷ other_entry (broken 11 l 1) l (entry slot 0 1 1 1)
    ∷ other_entry (broken 11 l 0) l (entry 0 slot 1 1 0)
    ∷ other_entry (broken 13 0 slot) l (entry 0 0 0 1 0)
    ∷ other_entry (broken 15 l 0) l (entry slot slot 0 0 1)
    ∷ other_entry (broken 9 0 0) l (entry slot slot 2 1 1)
    ∷ other_entry (broken 9 0 0) l (entry slot slot 1 9 1)
    ∷ eight_hold (broken 11 l 1) (set (replicate 9 0) slot slot) (replicate 9 0) eight_lists
    ∷ eight_hold (broken 11 l 0) (replicate 9 0) (set (replicate 9 0) slot slot) eight_lists
    ∷ []

-- N = 3 and eight lists: list l has share 1 and nothing, another has slot 1 and leaves one free, or slots 1 and 2, which is more than its share. 01: "the free slots are at least the sum of what each list lacks of its share (share less length, or 0)"
abbrev lacking : ℕ → List LookCase
lacking l =
    edge sound (0 ∷ 0 ∷ 0 ∷ []) (0 ∷ 0 ∷ 0 ∷ []) (0 ∷ 8 ∷ 0 ∷ []) 8 (set (set (none 8) (cond (eqb l 0) 1 0) (entry 1 1 0 2 1)) l (entry 0 0 1 1 0)) 2
    ∷ edge (broken 15 8 0) (0 ∷ 2 ∷ 0 ∷ []) (0 ∷ 0 ∷ 1 ∷ []) (0 ∷ 8 ∷ 9 ∷ []) 8 (set (set (none 8) (cond (eqb l 0) 1 0) (entry 1 2 0 2 2)) l (entry 0 0 1 1 0)) 0
    ∷ []

-- N = 4 and three lists: list 0 has slot 1, or slots 1 and 2, lists 1 and 2 lack one each, and two slots are free, or one
abbrev sums : List LookCase
sums =
    edge sound (four 0 0 3 0) (four 0 0 0 0) (four 0 5 0 0) 3 (entry 1 1 1 3 1 ∷ entry 0 0 1 3 0 ∷ entry 0 0 1 3 0 ∷ none 5) 2
    ∷ edge (broken 15 3 0) (four 0 2 0 0) (four 0 0 1 0) (four 0 5 6 0) 3 (entry 1 2 1 3 2 ∷ entry 0 0 1 3 0 ∷ entry 0 0 1 3 0 ∷ none 5) 3
    ∷ edge sound (four 0 2 0 0) (four 0 0 1 0) (four 0 5 6 0) 3 (entry 1 2 2 3 2 ∷ entry 0 0 1 3 0 ∷ none 6) 3
    -- the shares add up to N - 1, and to N, with as many slots free as there are
    ∷ edge sound (four 0 2 3 0) (four 0 0 0 0) (four 0 0 0 0) 3 (entry 0 0 1 3 0 ∷ entry 0 0 1 3 0 ∷ entry 0 0 1 3 0 ∷ none 5) 1
    ∷ edge (broken 9 0 0) (four 0 2 3 0) (four 0 0 0 0) (four 0 0 0 0) 3 (entry 0 0 1 3 0 ∷ entry 0 0 2 3 0 ∷ entry 0 0 1 3 0 ∷ none 5) 1
    ∷ []

-- ---- the stored counts

-- N = 9 and eight lists, each with one slot, list l with another stored length; the free count
abbrev other_length : Refusal → ℕ → ℕ → ℕ → LookCase
other_length answer l n count =
    record { answer = answer; state = counted_pool (replicate 9 0) (replicate 9 0) (0 ∷ 11 ∷ 12 ∷ 13 ∷ 14 ∷ 15 ∷ 16 ∷ 17 ∷ 18 ∷ []) 8 (set eight_lists l (entry (suc l) (suc l) 1 1 n)) 0 count }

-- N = 4: list 0 has slot 1, list 1 none, slots 2 and 3 are free: the stored lengths and the free count
abbrev storing : Refusal → ℕ → ℕ → ℕ → LookCase
storing answer first second count =
    record { answer = answer; state = counted_pool (four 0 0 3 0) (four 0 0 0 0) (four 0 5 0 0) 2 (entry 1 1 0 3 first ∷ entry 0 0 0 3 second ∷ none 6) 2 count }

-- 02 c): "naming the lowest list whose count is wrong, or else L for the free slots", by one, by a bit, and whatever the others are
abbrev pub counts : List LookCase
counts =
    storing sound 1 0 2
    ∷ storing (broken 16 0 0) 0 0 2
    ∷ storing (broken 16 0 0) 2 0 2
    ∷ storing (broken 16 1 0) 1 1 2
    ∷ storing (broken 16 2 0) 1 0 1
    ∷ storing (broken 16 2 0) 1 0 3
    ∷ storing (broken 16 2 0) 1 0 0
    -- two wrong lengths, and a free count beside them; the counts add up and are wrong
    ∷ storing (broken 16 0 0) 0 1 2
    ∷ storing (broken 16 0 0) 0 1 9
    ∷ storing (broken 16 0 0) 2 0 1
    ∷ storing (broken 16 1 0) 1 1 1
    ∷ storing (broken 16 0 0) 65535 65535 65535
    -- lists 0 and 1 have a slot each: both lengths are wrong, the later one too small
    ∷ record { answer = broken 16 0 0; state = counted_pool (0 ∷ 0 ∷ 0 ∷ []) (0 ∷ 0 ∷ 0 ∷ []) (0 ∷ 8 ∷ 9 ∷ []) 2 (entry 1 1 0 2 2 ∷ entry 2 2 0 2 0 ∷ none 6) 0 0 }
    ∷ record { answer = broken 16 0 0; state = counted_pool (0 ∷ 0 ∷ 0 ∷ []) (0 ∷ 0 ∷ 0 ∷ []) (0 ∷ 8 ∷ 9 ∷ []) 2 (entry 1 1 0 2 0 ∷ entry 2 2 0 2 0 ∷ none 6) 0 2 }
    ∷ record { answer = broken 16 1 0; state = counted_pool (0 ∷ 0 ∷ 0 ∷ []) (0 ∷ 0 ∷ 0 ∷ []) (0 ∷ 8 ∷ 9 ∷ []) 2 (entry 1 1 0 2 1 ∷ entry 2 2 0 2 0 ∷ none 6) 0 1 }
    -- a limit of 0 hides no wrong length
    ∷ record { answer = broken 16 0 0; state = counted_pool (0 ∷ 0 ∷ []) (0 ∷ 0 ∷ []) (0 ∷ 0 ∷ []) 1 (entry 0 0 0 0 5 ∷ none 7) 1 1 }
    ∷ record { answer = sound; state = counted_pool (0 ∷ 0 ∷ []) (0 ∷ 0 ∷ []) (0 ∷ 0 ∷ []) 1 (entry 0 0 0 0 0 ∷ none 7) 1 1 }
    ∷ joined_all (map (λ l. other_length sound l 1 0 ∷ other_length (broken 16 l 0) l 0 1 ∷ other_length (broken 16 l 0) l 2 0 ∷ other_length (broken 16 8 0) l 1 1 ∷ []) (numbers_from 0 8))
    ++ joined_all (map (λ b. storing (broken 16 0 0) (1 + b) 0 2 ∷ storing (broken 16 1 0) 1 b 2 ∷ storing (broken 16 2 0) 1 0 (2 + b) ∷ []) word_bits)

-- 01: "L is 1 to 8"; "entries from L on are all 0", in a pool of two slots of which one is free: L and the entries
abbrev ruled : Refusal → ℕ → List Entry → LookCase
ruled answer lists es = edge answer (0 ∷ 0 ∷ []) (0 ∷ 0 ∷ []) (0 ∷ 0 ∷ []) lists es 1

abbrev unused_at : ℕ → ℕ → Entry → LookCase
unused_at lists l e = ruled (broken 9 0 0) lists (set (none 8) l e)

abbrev pub books : List LookCase
books =
    ruled sound 1 (none 8)
    ∷ ruled sound 8 (none 8)
    ∷ ruled (broken 9 0 0) 0 (none 8)
    ∷ ruled (broken 9 0 0) 9 (none 8)
    ∷ ruled (broken 9 0 0) 9 (none 9)
    ∷ map (λ b. ruled (broken 9 0 0) (8 + b) (none 8)) word_bits
    ++ joined_all (map (λ l. unused_at l l (entry 1 0 0 0 0) ∷ unused_at l l (entry 0 1 0 0 0) ∷ unused_at l l (entry 0 0 1 0 0) ∷ unused_at l l (entry 0 0 0 1 0) ∷ unused_at l l (entry 0 0 0 0 1) ∷ unused_at 1 l (entry 0 0 0 1 0) ∷ unused_at 1 l (entry 0 0 0 0 1) ∷ []) (numbers_from 1 7))
    ++ joined_all (map (λ b. unused_at 7 7 (entry b 0 0 0 0) ∷ unused_at 7 7 (entry 0 b 0 0 0) ∷ unused_at 7 7 (entry 0 0 b 0 0) ∷ unused_at 7 7 (entry 0 0 0 b 0) ∷ unused_at 7 7 (entry 0 0 0 0 b) ∷ []) word_bits)
    -- a share over the limit, and a limit over N - 1, by one bit
    ++ joined_all (map (λ b. ruled (broken 9 0 0) 8 (none 7 ++ entry 0 0 b 0 0 ∷ []) ∷ ruled (broken 9 0 0) 8 (none 7 ++ entry 0 0 0 (1 + b) 0 ∷ []) ∷ []) word_bits)

abbrev pub every_list : List LookCase
every_list = eight_hold sound (replicate 9 0) (replicate 9 0) eight_lists ∷ joined_all (map of_list (numbers_from 0 8)) ++ joined_all (map lacking (numbers_from 0 8)) ++ sums

-- what a look answers
abbrev pub answer_seen : LookCase → Refusal
answer_seen e = (look_of trial e.state.links e.state.values e.state.book).refusal

abbrev pub same_refusal : Refusal → Refusal → Bool
same_refusal r q = eqb r.number q.number && (eqb r.list q.list && eqb r.position q.position)

-- does a look give each its number and place?
abbrev pub looks_pass : List LookCase → Bool
looks_pass [] = true
looks_pass (e ∷ es) = same_refusal (answer_seen e) e.answer && looks_pass es
