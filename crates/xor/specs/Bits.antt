-- Pools of the XOR list in which one bit is wrong, each with the number and the place that a look must give: every bit of slot 0, of a free slot, of a live slot's link, of the ends, the free head and the stored counts. And values bit by bit through the steps.
use Rattle.std.specs.Prelude.{Bool, true, cond, ◌&&◌, List, [], ◌∷◌, ◌++◌, map, ℕ, ltb, eqb, set}
use Rattle.std.specs.Int.Bits.{bit_xor}
use Rattle.books.specs.declared.Refusal.{Refusal}
use Rattle.books.specs.Book.{entry_words}
use Rattle.books.specs.Tried.{word_bits, value_bits, all_bits, same_numbers, entry, none}
use Rattle.chains.specs.Chain.{cell}
use Rattle.shapes.specs.declared.End.{End}
use Rattle.shapes.specs.declared.End.TheVariants.{Front, Back}
use Rattle.engines.specs.Edges.{sound, broken}
use Rattle.xor.specs.Slot.{in_pool}
use Rattle.xor.specs.Steps.{push_of, pop_of}
use Rattle.xor.specs.Engine.{fresh_link}
use Rattle.xor.specs.Edges.{Edge, counted, edge}

-- N = 2 and one list, share 0 and limit 1: slot 1 is free, or it is the list's. Its link and its value
abbrev pub free_holds : Refusal → ℕ → ℕ → Edge
free_holds answer link value = edge answer (0 ∷ link ∷ []) (0 ∷ value ∷ []) 1 (entry 0 0 0 1 0 ∷ none 7) 1

abbrev pub live_holds : Refusal → ℕ → ℕ → Edge
live_holds answer link value = edge answer (0 ∷ link ∷ []) (0 ∷ value ∷ []) 1 (entry 1 1 0 1 1 ∷ none 7) 0

-- slot 0's link and value, where slot 1 is free
abbrev pub null_holds : ℕ → ℕ → Edge
null_holds link value = edge (broken 10 0 0) (link ∷ 0 ∷ []) (value ∷ 0 ∷ []) 1 (entry 0 0 0 1 0 ∷ none 7) 1

abbrev four : ℕ → ℕ → ℕ → ℕ → List ℕ
four a b c d = a ∷ b ∷ c ∷ d ∷ []

-- N = 4: slots 1, 2 and 3 are one list's in this order, and so are their links; or they are free
abbrev three_live : Refusal → List ℕ → ℕ → ℕ → Edge
three_live answer links head tail = edge answer links (four 0 7 all_bits 9) 1 (entry head tail 0 3 3 ∷ none 7) 0

abbrev three_free : Refusal → List ℕ → List ℕ → ℕ → Edge
three_free answer links values free = edge answer links values 1 (entry 0 0 0 3 0 ∷ none 7) free

-- the cell of a slot with one bit the other way
abbrev flipped : List ℕ → ℕ → ℕ → List ℕ
flipped cells slot bit = set cells slot (bit_xor (cell cells slot) bit)

abbrev pub one_bit : List Edge
one_bit =
    -- sound: a live slot may hold any value, a link may be N or more (01's P8), a list may have every slot
    free_holds sound 0 0
    ∷ live_holds sound 0 0
    ∷ live_holds sound 0 all_bits
    ∷ three_live sound (four 0 2 2 2) 1 3
    ∷ three_free sound (four 0 2 3 0) (four 0 0 0 0) 1
    ∷ edge sound (0 ∷ 7 ∷ 5 ∷ 1 ∷ 1 ∷ 0 ∷ []) (0 ∷ 200 ∷ 0 ∷ 100 ∷ 300 ∷ 0 ∷ []) 1 (entry 3 4 0 5 3 ∷ none 7) 2
    -- "every free slot's value is 0; slot 0 has link 0 and value 0"
    ∷ free_holds (broken 14 0 1) 0 all_bits
    ∷ null_holds 0 all_bits
    ∷ null_holds 65535 0
    ∷ map (λ b. free_holds (broken 14 0 1) 0 b) value_bits
    ++ map (λ b. null_holds 0 b) value_bits
    ++ map (λ b. live_holds sound 0 b) value_bits
    ++ map (λ b. null_holds b 0) word_bits
    ++ map (λ b. three_free (broken 14 0 1) (four 0 2 3 0) (four 0 b 0 0) 1) value_bits
    ++ map (λ b. three_free (broken 14 0 2) (four 0 2 3 0) (four 0 0 b 0) 1) value_bits
    ++ map (λ b. three_free (broken 14 0 3) (four 0 2 3 0) (four 0 0 0 b) 1) value_bits
    -- "a live slot's link is the XOR of the slots before and after it": of an only slot, and of a first, a middle and a last one
    ++ map (λ b. live_holds (broken 11 0 1) b 5) word_bits
    ++ map (λ b. three_live (cond (eqb b 1) (broken 11 0 2) (broken 11 0 1)) (flipped (four 0 2 2 2) 1 b) 1 3) word_bits
    ++ map (λ b. three_live (broken 11 0 2) (flipped (four 0 2 2 2) 2 b) 1 3) word_bits
    ++ map (λ b. three_live (broken 11 0 3) (flipped (four 0 2 2 2) 3 b) 1 3) word_bits
    -- "a free slot's link is the next free slot, 0 at the last"
    ++ map (λ b. free_holds (broken 12 0 1) b 0) word_bits
    ++ map (λ b. three_free (cond (ltb b 4) (broken 13 0 2) (broken 12 0 1)) (flipped (four 0 2 3 0) 1 b) (four 0 0 0 0) 1) word_bits
    ++ map (λ b. three_free (broken 12 0 2) (flipped (four 0 2 3 0) 2 b) (four 0 0 0 0) 1) word_bits
    ++ map (λ b. three_free (broken 12 0 3) (flipped (four 0 2 3 0) 3 b) (four 0 0 0 0) 1) word_bits
    -- "head and tail are the first and last slot of its sequence"; "the free head is the first free slot"
    ++ map (λ b. three_live (cond (eqb b 2) (broken 11 0 3) (broken 11 0 0)) (four 0 2 2 2) (bit_xor 1 b) 3) word_bits
    ++ map (λ b. three_live (broken 11 0 3) (four 0 2 2 2) 1 (bit_xor 3 b)) word_bits
    ++ map (λ b. three_free (cond (ltb b 4) (broken 13 0 1) (broken 12 0 0)) (four 0 2 3 0) (four 0 0 0 0) (bit_xor 1 b)) word_bits
    -- 02 c): the stored length and the stored count of the free slots
    ++ map (λ b. counted (broken 16 0 0) (four 0 0 3 0) (four 0 7 0 0) 1 (entry 1 1 0 3 (bit_xor 1 b) ∷ none 7) 2 2) word_bits
    ++ map (λ b. counted (broken 16 1 0) (four 0 0 3 0) (four 0 7 0 0) 1 (entry 1 1 0 3 1 ∷ none 7) 2 (bit_xor 2 b)) word_bits
    ++ map (λ b. counted (broken 9 0 0) (four 0 0 3 0) (four 0 7 0 0) 1 (entry 1 1 0 3 1 ∷ entry 0 0 0 0 b ∷ none 6) 2 2) word_bits

-- ---- the steps

-- one list of six slots, share 2 and limit 5
abbrev six : ℕ → ℕ → ℕ → ℕ → ℕ → ℕ → List ℕ
six a b c d e f = a ∷ b ∷ c ∷ d ∷ e ∷ f ∷ []

-- a value that is pushed behind slot 1 stands in slot 2 with all its bits; popped from there it is handed out whole, and slot 2 holds 0
abbrev pub through_steps : End → ℕ → Bool
through_steps end value =
    let list = entry 1 1 2 5 1 in
    let pushed = push_of end (six 0 0 3 4 5 0) (six 0 8 0 0 0 0) list (record { head = 2; count = 4 }) value in
    let popped = pop_of end pushed.links pushed.values pushed.answer.entry pushed.answer.free in
    same_numbers pushed.links (six 0 2 1 4 5 0)
    && (same_numbers pushed.values (six 0 8 value 0 0 0)
    && (eqb popped.answer.value value
    && (same_numbers popped.links (six 0 0 3 4 5 0) && same_numbers popped.values (six 0 8 0 0 0 0))))

-- the same with an empty list: the value stands in slot 1, which is head and tail then; popped, the list is empty again. Any counts are left
abbrev pub through_empty : End → ℕ → Bool
through_empty end value =
    let list = entry 0 0 2 5 9 in
    let pushed = push_of end (six 0 2 3 4 5 0) (six 0 0 0 0 0 0) list (record { head = 1; count = 7 }) value in
    let popped = pop_of end pushed.links pushed.values pushed.answer.entry pushed.answer.free in
    same_numbers pushed.links (six 0 0 3 4 5 0)
    && (same_numbers pushed.values (six 0 value 0 0 0 0)
    && (same_numbers (pushed.answer.free.head ∷ pushed.answer.free.count ∷ entry_words (pushed.answer.entry ∷ [])) (2 ∷ 7 ∷ 1 ∷ 1 ∷ 2 ∷ 5 ∷ 9 ∷ [])
    && (eqb popped.answer.value value
    && (same_numbers (popped.answer.free.head ∷ popped.answer.free.count ∷ entry_words (popped.answer.entry ∷ [])) (1 ∷ 7 ∷ 0 ∷ 0 ∷ 2 ∷ 5 ∷ 9 ∷ [])
    && (same_numbers popped.links (six 0 2 3 4 5 0) && same_numbers popped.values (six 0 0 0 0 0 0))))))

abbrev pub all_through : List ℕ → Bool
all_through [] = true
all_through (v ∷ vs) = through_steps Front v && (through_steps Back v && (through_empty Front v && (through_empty Back v && all_through vs)))

-- ---- the slots

-- which numbers are slots of a pool of so many links and values
abbrev pub slots_said : List Bool
slots_said =
    map (λ slot. in_pool (six 0 0 0 0 0 0) (six 0 0 0 0 0 0) slot) (0 ∷ 1 ∷ 5 ∷ 6 ∷ 4096 ∷ 4097 ∷ 32769 ∷ [])
    ++ in_pool (six 0 0 0 0 0 0) (0 ∷ 0 ∷ []) 2
    ∷ in_pool (0 ∷ 0 ∷ []) (six 0 0 0 0 0 0) 2
    ∷ []

-- "links 1 to 2, 2 to 3, and so on, the last 0", in the least pool and in the largest
abbrev pub fresh_said : List ℕ
fresh_said = fresh_link 2 0 ∷ fresh_link 2 1 ∷ fresh_link 3 1 ∷ fresh_link 3 2 ∷ fresh_link 4096 0 ∷ fresh_link 4096 1 ∷ fresh_link 4096 255 ∷ fresh_link 4096 4094 ∷ fresh_link 4096 4095 ∷ []
