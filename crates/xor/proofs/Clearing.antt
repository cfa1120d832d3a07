-- Emptying a list on any cells: a pop that is refused ends it and changes nothing, and sizes, share and limit stay, however many pops are asked for.
use mathlib.Core.Path.{◌≡◌, refl, ap, ◌∙◌}
use mathlib.Core.Bool.{Bool, true, false}
use mathlib.Core.List.{List}
use Prim.Native.Nat.{ℕ, zero, suc, ◌+◌, ◌-◌}
use lib.ListN.{length}
use Rattle.books.specs.declared.Free.{Free}
use Rattle.books.specs.declared.Entry.{Entry}
use Rattle.books.proofs.Tests.{not_both}
use Rattle.shapes.specs.declared.End.TheVariants.{Front}
use Rattle.engines.specs.Engine.{Step}
use Rattle.engines.specs.Counted.{counted_pop}
use Rattle.engines.specs.Reads.{clear_on}
use Rattle.engines.proofs.Counted.{CountedWay, refused, counted, counted_way}
use Rattle.xor.specs.Engine.{xor}
use Rattle.xor.specs.ClearDone.{Stays, Preserves}
use Rattle.xor.proofs.Steps.{pop_step_refused, pop_step_done}

-- the counted pop is the engine's own, with the counts where it is done
way_of : (links values : List ℕ) (list : Entry) (free : Free) → CountedWay (xor.pop Front links values list free) (list.length - 1) (free.count + 1) (counted_pop xor Front links values list free)
unfolding counted_pop
way_of links values list free = counted_way (xor.pop Front links values list free) (list.length - 1) (free.count + 1)

module _ (links values : List ℕ) (list : Entry) (free : Free) where
  -- no pop: nothing changes, and that is done
  pub clear_nothing : Stays true links values list free (clear_on xor 0 links values list free)
  unfolding clear_on
  clear_nothing = record { said = refl; same_entry = refl; same_free = refl; same_links = refl; same_values = refl }

  -- a pop that is not done ends it, and changes nothing
  pub clear_not_popped : (count : ℕ) → (counted_pop xor Front links values list free).done ≡ false → Stays false links values list free (clear_on xor (suc count) links values list free)
  unfolding clear_on
  clear_not_popped count d = let R = counted_refused d in rw d (record { said = refl; same_entry = R.same_entry; same_free = R.same_free; same_links = R.same_links; same_values = R.same_values })
    where
      counted_refused : (counted_pop xor Front links values list free).done ≡ false → Stays false links values list free (counted_pop xor Front links values list free)
      counted_refused d = go (way_of links values list free) d
        where
          go : {o : Step (List ℕ)} → CountedWay (xor.pop Front links values list free) (list.length - 1) (free.count + 1) o → o.done ≡ false → Stays false links values list free o
          go (refused h) k = let R = pop_step_refused Front links values list free h in record { said = k; same_entry = R.same_entry; same_free = R.same_free; same_links = R.same_links; same_values = R.same_values }
          go (counted h) k = not_both _ h k

  -- one that is done leads on
  pub clear_popped : (count : ℕ) → (counted_pop xor Front links values list free).done ≡ true
      → let p = counted_pop xor Front links values list free in clear_on xor (suc count) links values list free ≡ clear_on xor count p.links p.values p.entry p.free
  unfolding clear_on
  clear_popped count d = rw d

  -- and preserves the sizes, the share and the limit
  popped_preserves : (counted_pop xor Front links values list free).done ≡ true → Preserves links values list (counted_pop xor Front links values list free)
  popped_preserves d = go (way_of links values list free) d
    where
      go : {o : Step (List ℕ)} → CountedWay (xor.pop Front links values list free) (list.length - 1) (free.count + 1) o → o.done ≡ true → Preserves links values list o
      go (refused h) k = not_both _ k h
      go (counted h) k = let P = pop_step_done Front links values list free h in record { same_links = P.frame.same_links; same_values = P.frame.same_values; share = P.share; limit = P.limit }

stays_preserves : {done : Bool} {links values : List ℕ} {list : Entry} {free : Free} {r : Step (List ℕ)} → Stays done links values list free r → Preserves links values list r
stays_preserves S = record { same_links = ap length S.same_links; same_values = ap length S.same_values; share = ap (λ e. e.share) S.same_entry; limit = ap (λ e. e.limit) S.same_entry }

pub clear_preserves : (count : ℕ) (links values : List ℕ) (list : Entry) (free : Free) → Preserves links values list (clear_on xor count links values list free)
clear_preserves zero links values list free = stays_preserves (clear_nothing links values list free)
clear_preserves (suc count) links values list free = go p.done refl (clear_preserves count p.links p.values p.entry p.free)
  where
    p : Step (List ℕ)
    p = counted_pop xor Front links values list free

    go : (b : Bool) → p.done ≡ b → Preserves p.links p.values p.entry (clear_on xor count p.links p.values p.entry p.free) → Preserves links values list (clear_on xor (suc count) links values list free)
    go true d I =
        let P = popped_preserves links values list free d in
        rw (clear_popped links values list free count d)
        (record { same_links = I.same_links ∙ P.same_links; same_values = I.same_values ∙ P.same_values; share = I.share ∙ P.share; limit = I.limit ∙ P.limit })
    go false d I = stays_preserves (clear_not_popped links values list free count d)
