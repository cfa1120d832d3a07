-- `pools::check::look_over`: the parts that are lent on are the whole slices, and each answer follows from what the check finds in them.
use mathlib.Core.Path.{◌≡◌, sym, ap, ◌∙◌}
use mathlib.Core.Bool.{Bool, false}
use mathlib.Core.List.{List}
use Prim.Native.Nat.{ℕ}
use native.Mathlib.Omega.{arith}
use lib.Seq.{take_all, take-length}
use lib.ListN.{length, get_or, take}
use Rattle.books.specs.Book.{eight}
use Rattle.books.specs.Test.{keeps_rules}
use Rattle.books.specs.Words.{book_from}
use Rattle.books.proofs.Rules.{keeps_rules_lem}
use Rattle.engines.specs.Sound.{Fit}
use Rattle.engines.specs.Check.{null_slot_zero}
use Rattle.engines.proofs.Stages.{met_none}
use Rattle.xor.specs.Engine.{xor}
use Rattle.pools.proofs.Handed.{lacks_fit}
use Rattle.pools.proofs.Told.{look_nine, look_ten, look_past, told_whole}
use Rattle.pools.proofs.check.look_over.Goals.{then-lists_of-eq0-via-then-lists_of-eq0, then-lists_of-eq0-via-else-lists_of-eq0+then-not-keeps_rules}
use Rattle.pools.proofs.check.look_over.Goals as goal

-- the part of each slice is the slice
module _ {links values : List ℕ} (fit : Fit xor links values) where
  all_links : take (length links) links ≡ links
  all_links = take-length links

  all_values : take (length links) values ≡ values
  all_values = take_all (length links) values (omega (arith, fit.same))

  -- the test of slot 0, of the slices
  tested : {t : Bool} → t ≡ null_slot_zero xor (take (length links) links) (take (length links) values) → t ≡ null_slot_zero xor links values
  tested e = rw (all_links, all_values) at e

-- no book without lists keeps the rules
no_lists : (words : List ℕ) (size : ℕ) → get_or words 0 0 ≡ 0 → keeps_rules size (eight (book_from words)) ≡ false
unfolding keeps_rules
no_lists words size e = rw e

pub returns-then-lists_of-eq0 : goal.returns-then-lists_of-eq0
returns-then-lists_of-eq0 c =
    let a = c.args in
    let broken : keeps_rules (length a.links.now) (eight (book_from a.words.now)) ≡ false =
    elim c.then-lists_of-eq0.branch [
      | then-lists_of-eq0-via-then-lists_of-eq0 w ↦ no_lists a.words.now _ (sym c.lists_of.ensures ∙ w.if-lists_of-eq0.true)
      | then-lists_of-eq0-via-else-lists_of-eq0+then-not-keeps_rules w ↦ sym w.keeps_rules.ensures ∙ w.if-not-keeps_rules.true
    ] in
    let b = told_whole c.word_of.ensures.told c.word_of.ensures.alone (look_nine a.links.now a.values.now (eight (book_from a.words.now)) c.requires.0 c.into.result c.into.ensures broken) in
    record { seen = b.0; alone = b.1 }

pub returns-then-not-null_slot_zero : goal.returns-then-not-null_slot_zero
returns-then-not-null_slot_zero c =
    let a = c.args in
    let w = c.word_of-then-not-null_slot_zero.ensures in
    let b = told_whole w.told w.alone (look_ten a.links.now a.values.now (eight (book_from a.words.now)) c.requires.0 (sym c.if-not-keeps_rules.ensures) _ c.into-then-not-null_slot_zero.ensures (sym (tested c.requires.0 c.if-not-null_slot_zero.ensures))) in
    record { seen = b.0; alone = b.1 }

pub find_over-requires : goal.find_over-requires
find_over-requires c =
    rw (all_links c.requires.0, all_values c.requires.0) (
      c.requires.0,
      ap (take (length c.args.links.now)) c.requires.2 ∙ met_none _ _ c.requires.1,
      ((keeps_rules_lem _ _).0 (sym c.if-not-keeps_rules.ensures)).most,
      sym (tested c.requires.0 c.if-not-null_slot_zero.ensures),
    )

pub word_of-requires-2 : goal.word_of-requires-2
word_of-requires-2 c =
    let a = c.args in
    lacks_fit a.links.now a.values.now (eight (book_from a.words.now)) c.requires.0 c.find_over.result
    (look_past a.links.now a.values.now (eight (book_from a.words.now)) c.requires.0 (sym c.if-not-keeps_rules.ensures) c.find_over.result
    (rw (all_links c.requires.0, all_values c.requires.0) at c.find_over.ensures))

pub returns : goal.returns
returns c =
    let a = c.args in
    let w = c.word_of-2.ensures in
    let b = told_whole w.told w.alone (look_past a.links.now a.values.now (eight (book_from a.words.now)) c.requires.0 (sym c.if-not-keeps_rules.ensures) c.find_over.result
    (rw (all_links c.requires.0, all_values c.requires.0) at c.find_over.ensures)) in
    record { seen = b.0; alone = b.1 }
