-- The XOR list's steps, walks, reads and clears on slot numbers of twelve bits, in a pool of 4,096 slots.
use Rattle.std.specs.Prelude.{Bool, ◌&&◌, List, [], ◌∷◌, ℕ, eqb, set, replicate}
use Rattle.books.specs.Book.{entry_words}
use Rattle.books.specs.Tried.{all_bits, same_numbers, entry}
use Rattle.shapes.specs.declared.End.{End}
use Rattle.shapes.specs.declared.End.TheVariants.{Front, Back}
use Rattle.shapes.specs.Faults.{nothing_met}
use Rattle.engines.specs.Check.{head_path}
use Rattle.engines.specs.Reads.{buffer_after, clear_on}
use Rattle.xor.specs.Steps.{push_of, pop_of}
use Rattle.xor.specs.Engine.{xor}
use Rattle.xor.specs.Along.{clear_along}

-- N = 4,096: the list is slots 4,095 and 2,730, and slot 1,365 is the free head, with the next free slot in its link
abbrev high : ℕ → ℕ → ℕ → List ℕ
high first last free = set (set (set (replicate 4096 0) 4095 first) 2730 last) 1365 free

-- a push at either end links all twelve bits, and a pop there undoes it; the list's own steps leave the counts
abbrev through_high : End → List ℕ → List ℕ → Bool
through_high end links ends =
    let pushed = push_of end (high 2730 4095 4094) (replicate 4096 0) (entry 4095 2730 2 5 2) (record { head = 1365; count = 7 }) all_bits in
    let popped = pop_of end pushed.links pushed.values pushed.answer.entry pushed.answer.free in
    same_numbers pushed.links links
    && (same_numbers pushed.values (set (replicate 4096 0) 1365 all_bits)
    && (same_numbers (pushed.answer.free.head ∷ pushed.answer.free.count ∷ entry_words (pushed.answer.entry ∷ [])) (4094 ∷ 7 ∷ ends)
    && (eqb popped.answer.value all_bits
    && (same_numbers (popped.answer.free.head ∷ popped.answer.free.count ∷ entry_words (popped.answer.entry ∷ [])) (1365 ∷ 7 ∷ 4095 ∷ 2730 ∷ 2 ∷ 5 ∷ 2 ∷ [])
    && (same_numbers popped.links (high 2730 4095 4094) && same_numbers popped.values (replicate 4096 0))))))

-- and emptied, in one go and pop by pop
abbrev pub all_high : Bool
all_high =
    let along = clear_along 2 (high 2730 4095 4094) (set (replicate 4096 0) 4095 9) 0 4095 (record { head = 1365; count = 7 }) in
    let each = clear_on xor 2 (high 2730 4095 4094) (set (replicate 4096 0) 4095 9) (entry 4095 2730 2 5 2) (record { head = 1365; count = 7 }) in
    through_high Back (high 2730 2730 2730) (4095 ∷ 1365 ∷ 2 ∷ 5 ∷ 2 ∷ [])
    && (through_high Front (high 4095 4095 4095) (1365 ∷ 2730 ∷ 2 ∷ 5 ∷ 2 ∷ [])
    && (same_numbers (along.answer.head ∷ along.answer.count ∷ along.links) (2730 ∷ 7 ∷ high 1365 4095 4094)
    && (same_numbers along.values (replicate 4096 0)
    && (same_numbers (each.free.head ∷ each.free.count ∷ each.entry.length ∷ each.links) (2730 ∷ 9 ∷ 0 ∷ high 1365 4095 4094)
    && (same_numbers each.values (replicate 4096 0)
    && (same_numbers (head_path xor (high 2730 4095 4094) (nothing_met 4096) 4095).slots (4095 ∷ 2730 ∷ [])
    && (same_numbers (buffer_after xor Front (high 2730 4095 4094) (set (replicate 4096 8) 4095 9) 4095 (7 ∷ 7 ∷ 7 ∷ []) 0) (9 ∷ 8 ∷ 7 ∷ [])
    && same_numbers (buffer_after xor Back (high 2730 4095 4094) (set (replicate 4096 8) 4095 9) 2730 (7 ∷ 7 ∷ 7 ∷ []) 1) (7 ∷ 8 ∷ 9 ∷ []))))))))
