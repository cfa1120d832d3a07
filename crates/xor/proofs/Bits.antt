-- The pools of `Bits` are accepted or refused by their number, and every bit of a value goes through the steps. Computed.
use mathlib.Core.Path.{◌≡◌, refl}
use mathlib.Core.Logic.{◌≢◌}
use mathlib.Core.Bool.{true, false}
use mathlib.Core.List.{[], ◌∷◌}
use Prim.Native.Nat.{ℕ}
use borrow.Author.Tests.{ne_eqb}
use Rattle.books.specs.Test.{is_fair, is_zero, gather, all_zero, keeps_rules}
use Rattle.books.specs.Tried.{value_bits, all_bits}
use Rattle.shapes.specs.Ends.{near_of, with_near}
use Rattle.shapes.specs.Met.{is_met_of, mark_of, unmet}
use Rattle.shapes.specs.Walk.{walk_on, walkable}
use Rattle.shapes.specs.Faults.{nothing_met, count_fault, spare_fault, idle_fault}
use Rattle.engines.specs.Check.{sizes_fit, idle_path, gather_all, null_slot_zero, pool_found, check_found, look_of}
use Rattle.xor.specs.Slot.{in_pool}
use Rattle.xor.specs.Slots.{take_of, release_of}
use Rattle.xor.specs.Steps.{is_beside, push_empty_of, push_beside_of, push_of, pop_of}
use Rattle.xor.specs.Engine.{fresh_link}
use Rattle.engines.specs.Edges.{sound, broken}
use Rattle.xor.specs.Edges.{look_answer, edges_pass}
use Rattle.xor.specs.Bits.{free_holds, live_holds, null_holds, one_bit, all_through, slots_said, fresh_said}

pub every_bit_asked : edges_pass one_bit ≡ true
unfolding is_fair is_zero gather all_zero keeps_rules nothing_met gather_all count_fault spare_fault idle_fault null_slot_zero pool_found check_found sizes_fit look_of is_met_of mark_of unmet walk_on walkable idle_path
every_bit_asked = refl

pub every_bit_through : all_through (0 ∷ all_bits ∷ value_bits) ≡ true
unfolding near_of with_near in_pool take_of release_of is_beside push_empty_of push_beside_of push_of pop_of
every_bit_through = refl

pub slots_tried : slots_said ≡ false ∷ true ∷ true ∷ false ∷ false ∷ false ∷ false ∷ false ∷ false ∷ []
unfolding in_pool
slots_tried = refl

pub fresh_links_tried : fresh_said ≡ 0 ∷ 0 ∷ 2 ∷ 0 ∷ 0 ∷ 2 ∷ 256 ∷ 4095 ∷ 0 ∷ []
unfolding fresh_link
fresh_links_tried = refl

-- ---- of every number, and not of one bit alone

-- 01: "every free slot's value is 0; slot 0 has link 0 and value 0": no other number passes; a live slot's value may be any
pub no_free_value : (v : ℕ) → v ≢ 0 → look_answer (free_holds (broken 14 0 1) 0 v) ≡ broken 14 0 1
unfolding is_fair is_zero gather all_zero keeps_rules nothing_met gather_all count_fault spare_fault idle_fault null_slot_zero pool_found check_found sizes_fit look_of is_met_of mark_of unmet walk_on walkable idle_path
no_free_value v d = rw (look_answer, ne_eqb v 0 d)

pub no_null_value : (v : ℕ) → v ≢ 0 → look_answer (null_holds 0 v) ≡ broken 10 0 0
unfolding is_fair is_zero gather all_zero keeps_rules nothing_met gather_all count_fault spare_fault idle_fault null_slot_zero pool_found check_found sizes_fit look_of is_met_of mark_of unmet walk_on walkable idle_path
no_null_value v d = rw (look_answer, ne_eqb v 0 d)

pub no_null_link : (n : ℕ) → n ≢ 0 → look_answer (null_holds n 0) ≡ broken 10 0 0
unfolding is_fair is_zero gather all_zero keeps_rules nothing_met gather_all count_fault spare_fault idle_fault null_slot_zero pool_found check_found sizes_fit look_of is_met_of mark_of unmet walk_on walkable idle_path
no_null_link n d = rw (look_answer, ne_eqb n 0 d)

pub any_live_value : (v : ℕ) → look_answer (live_holds sound 0 v) ≡ sound
unfolding is_fair is_zero gather all_zero keeps_rules nothing_met gather_all count_fault spare_fault idle_fault null_slot_zero pool_found check_found sizes_fit look_of is_met_of mark_of unmet walk_on walkable idle_path
any_live_value v = refl
