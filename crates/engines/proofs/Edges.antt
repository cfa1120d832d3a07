-- Each clause of 01's "sound" and of the book rules is asked for, bit by bit and list by list: the pools of `Edges` are accepted or refused by their number, with its place. Computed.
use mathlib.Core.Path.{◌≡◌, refl}
use mathlib.Core.Logic.{◌≢◌}
use mathlib.Core.Bool.{true}
use Prim.Native.Nat.{ℕ}
use borrow.Author.Tests.{ne_eqb}
use Rattle.books.specs.Test.{is_fair, is_zero, gather, all_zero, keeps_rules}
use Rattle.shapes.specs.Met.{is_met_of, mark_of, unmet}
use Rattle.shapes.specs.Walk.{walk_on, walkable}
use Rattle.shapes.specs.Faults.{nothing_met, count_fault, spare_fault, idle_fault}
use Rattle.engines.specs.Check.{sizes_fit, idle_path, gather_all, null_slot_zero, pool_found, check_found, look_of}
use Rattle.engines.specs.Edges.{sound, broken, one_free, one_live, null_has, answer_seen, bits, chains, once, every_list, counts, books, looks_pass}

pub bits_tried : looks_pass bits ≡ true
unfolding is_fair is_zero gather all_zero keeps_rules nothing_met gather_all count_fault spare_fault idle_fault null_slot_zero pool_found check_found sizes_fit look_of is_met_of mark_of unmet walk_on walkable idle_path
bits_tried = refl

pub chains_tried : looks_pass chains ≡ true
unfolding is_fair is_zero gather all_zero keeps_rules nothing_met gather_all count_fault spare_fault idle_fault null_slot_zero pool_found check_found sizes_fit look_of is_met_of mark_of unmet walk_on walkable idle_path
chains_tried = refl

pub once_tried : looks_pass once ≡ true
unfolding is_fair is_zero gather all_zero keeps_rules nothing_met gather_all count_fault spare_fault idle_fault null_slot_zero pool_found check_found sizes_fit look_of is_met_of mark_of unmet walk_on walkable idle_path
once_tried = refl

pub every_list_tried : looks_pass every_list ≡ true
unfolding is_fair is_zero gather all_zero keeps_rules nothing_met gather_all count_fault spare_fault idle_fault null_slot_zero pool_found check_found sizes_fit look_of is_met_of mark_of unmet walk_on walkable idle_path
every_list_tried = refl

-- 02 c): each stored count, alone and with others
pub stored_counts_tried : looks_pass counts ≡ true
unfolding is_fair is_zero gather all_zero keeps_rules nothing_met gather_all count_fault spare_fault idle_fault null_slot_zero pool_found check_found sizes_fit look_of is_met_of mark_of unmet walk_on walkable idle_path
stored_counts_tried = refl

pub books_tried : looks_pass books ≡ true
unfolding is_fair is_zero gather all_zero keeps_rules nothing_met gather_all count_fault spare_fault idle_fault null_slot_zero pool_found check_found sizes_fit look_of is_met_of mark_of unmet walk_on walkable idle_path
books_tried = refl

-- ---- of every number, and not of one bit alone

-- 01: "every free slot's value is 0; slot 0 has link 0 and value 0": no other number passes
pub free_value_zero : (v : ℕ) → v ≢ 0 → answer_seen (one_free (broken 14 0 1) 0 0 v) ≡ broken 14 0 1
unfolding is_fair is_zero gather all_zero keeps_rules nothing_met gather_all count_fault spare_fault idle_fault null_slot_zero pool_found check_found sizes_fit look_of is_met_of mark_of unmet walk_on walkable idle_path
free_value_zero v d = rw (answer_seen, ne_eqb v 0 d)

pub null_value_zero : (v : ℕ) → v ≢ 0 → answer_seen (null_has 0 0 v) ≡ broken 10 0 0
unfolding is_fair is_zero gather all_zero keeps_rules nothing_met gather_all count_fault spare_fault idle_fault null_slot_zero pool_found check_found sizes_fit look_of is_met_of mark_of unmet walk_on walkable idle_path
null_value_zero v d = rw (answer_seen, ne_eqb v 0 d)

pub null_links_zero : (n : ℕ) → n ≢ 0 → (answer_seen (null_has n 0 0) ≡ broken 10 0 0) × (answer_seen (null_has 0 n 0) ≡ broken 10 0 0)
unfolding is_fair is_zero gather all_zero keeps_rules nothing_met gather_all count_fault spare_fault idle_fault null_slot_zero pool_found check_found sizes_fit look_of is_met_of mark_of unmet walk_on walkable idle_path
null_links_zero n d = rw (answer_seen, ne_eqb n 0 d) (refl, refl)

-- a live slot's value may be any
pub live_value_any : (v : ℕ) → answer_seen (one_live sound 0 0 v) ≡ sound
unfolding is_fair is_zero gather all_zero keeps_rules nothing_met gather_all count_fault spare_fault idle_fault null_slot_zero pool_found check_found sizes_fit look_of is_met_of mark_of unmet walk_on walkable idle_path
live_value_any v = refl
