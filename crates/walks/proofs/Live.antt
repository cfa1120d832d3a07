-- Where the walk along a list's chain ends, for the proof of its loop.
use mathlib.Core.Path.{◌≡◌, refl, sym, ap, ◌∙◌}
use mathlib.Core.Bool.{Bool, true, false}
use mathlib.Core.List.{List, []}
use Prim.Native.Nat.{ℕ}
use lib.Dec.{eqb}
use lib.ListN.{length}
use Rattle.books.specs.Book.{null_slot}
use Rattle.chains.specs.Chain.{last_or}
use Rattle.shapes.specs.declared.End.TheVariants.{Front}
use Rattle.shapes.specs.declared.LiveWalk.{LiveWalk}
use Rattle.shapes.specs.Met.{is_met_of, unmarked, mark_all}
use Rattle.shapes.specs.Walk.{walkable, no_path, walk_on}
use Rattle.shapes.proofs.Going.{Guarded, guarded_stops, guarded_back}
use Rattle.engines.specs.Check.{head_path}
use Rattle.engines.specs.Walked.{LiveWalked}
use Rattle.xor.specs.Engine.{xor}

-- where the walk along a list's chain ends, what was gathered on the way is the answer
pub live_walked : {links met : List ℕ} {head : ℕ} {passed real met' : List ℕ} {slot last many : ℕ} {r : LiveWalk}
    → Guarded (xor.onward Front links) (xor.fits links) (length links) met head passed real slot many → last ≡ last_or null_slot passed → is_met_of real slot ≡ true
    → met' ≡ unmarked real → r ≡ record { ok = eqb slot null_slot; last = last; length = many } → LiveWalked xor links met head r met'
live_walked {met = met} g l m d e =
    let p = guarded_stops g m in
    record {
      ok = ap (λ w. w.ok) e ∙ sym (ap (λ q. q.ok) p);
      last = ap (λ w. w.last) e ∙ l ∙ sym (ap (λ q. last_or null_slot q.slots) p);
      counted = ap (λ w. w.length) e ∙ g.going.counted ∙ sym (ap (λ q. length q.slots) p);
      marked = d ∙ guarded_back g ∙ sym (ap (λ q. mark_all met q.slots) p);
    }

-- a walk that is refused passes nothing
pub live_unwalkable : {links met : List ℕ} {head : ℕ} {r : LiveWalk} → r ≡ record { ok = false; last = 0; length = 0 } → walkable (length links) met ≡ false → LiveWalked xor links met head r met
live_unwalkable {links} {met} {head} e w =
    let p : head_path xor links met head ≡ no_path = rw w in
    record {
      ok = ap (λ q. q.ok) e ∙ sym (ap (λ q. q.ok) p);
      last = ap (λ q. q.last) e ∙ sym (ap (λ q. last_or null_slot q.slots) p);
      counted = ap (λ q. q.length) e ∙ sym (ap (λ q. length q.slots) p);
      marked = sym (ap (λ q. mark_all met q.slots) p);
    }

-- the walk along an empty list passes nothing, and is refused just where the record is not walkable
empty_path : (links met : List ℕ) → head_path xor links met null_slot ≡ record { ok = walkable (length links) met; slots = [] }
unfolding walk_on
empty_path links met = go (walkable (length links) met) refl
  where
    go : (t : Bool) → walkable (length links) met ≡ t → head_path xor links met null_slot ≡ record { ok = walkable (length links) met; slots = [] }
    go true e = rw e
    go false e = rw e

pub live_empty : {links met : List ℕ} {head : ℕ} {r : LiveWalk} → head ≡ null_slot → r ≡ record { ok = walkable (length links) met; last = 0; length = 0 } → LiveWalked xor links met head r met
live_empty {links} {met} {head} {r} z e =
    let p : head_path xor links met head ≡ record { ok = walkable (length links) met; slots = [] } = rw z (empty_path links met) in
    record {
      ok = ap (λ q. q.ok) e ∙ sym (ap (λ q. q.ok) p);
      last = ap (λ q. q.last) e ∙ sym (ap (λ q. last_or null_slot q.slots) p);
      counted = ap (λ q. q.length) e ∙ sym (ap (λ q. length q.slots) p);
      marked = sym (ap (λ q. mark_all met q.slots) p);
    }
