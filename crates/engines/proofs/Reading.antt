-- Reading a list on any engine: from an end on, the values of its slots stand in the buffer, and every other place of the buffer is as it was.
use mathlib.Core.Path.{◌≡◌, refl, sym, ap, ◌∙◌}
use mathlib.Core.Bool.{Bool, true, false}
use mathlib.Core.List.{List, [], ◌∷◌, ◌++◌, append-nil}
use Prim.Native.Nat.{ℕ, zero, suc, ◌+◌, ◌-◌, ◌≤◌, ◌<◌}
use native.Mathlib.Nat.{add-zero}
use native.Mathlib.Omega.{arith}
use lib.Dec.{leb}
use lib.ListN.{length, get_or, take, drop, length-append, take-append-drop, length-drop, length-map, length-reverse, get_or-append}
use lib.Seq.{take_all, length-take-le, get_or-take, get_or-drop, get_or-append-add}
use borrow.Author.Tests.{le-leb, lt-leb, leb-true, leb-false, lt-ltb, ne_eqb}
use Rattle.books.specs.Book.{null_slot, entry_at, AnyBook}
use Rattle.books.proofs.Tests.{cond_ind, both_and, not_is}
use Rattle.chains.specs.Count.{count}
use Rattle.chains.specs.Chain.{cell, first_or}
use Rattle.chains.proofs.Count.{count-append, count_first, count-reverse}
use Rattle.chains.proofs.Chain.{first-reverse}
use Rattle.shapes.specs.declared.End.{End}
use Rattle.shapes.specs.declared.End.TheVariants.{Front, Back}
use Rattle.shapes.specs.Ends.{near_of, contents, from_end}
use Rattle.shapes.proofs.Ends.{contents-reverse}
use Rattle.shapes.specs.Tests.{Keeps}
use Rattle.shapes.specs.Shape.{Shape, chain_at}
use Rattle.shapes.specs.Walk.{Tied}
use Rattle.engines.specs.Engine.{Engine}
use Rattle.engines.specs.Sound.{SoundBook, Held}
use Rattle.engines.specs.Laws.{Lawful}
use Rattle.engines.specs.Reads.{is_slot, values_along, values_read, count_read, buffer_after}
use Rattle.engines.specs.Calls.{after_read}
use Rattle.engines.specs.Done.{Reads}
use Rattle.engines.proofs.Steps.{book_held}

-- ---- the values along a sequence that the walk goes along

module _ (onward : ℕ → ℕ → ℕ) (fits : ℕ → ℕ → Bool) (size : ℕ) (values : List ℕ) (same : size ≡ length values) where
  -- the values of its slots, as many as there is room for
  pub along_tied : (most before : ℕ) (xs : List ℕ) → ((y : ℕ) → 0 < count y xs → (0 < y) × (y < size)) → Tied onward fits before xs
      → values_along onward size values most before (first_or 0 xs) ≡ take most (contents values xs)
  unfolding values_along is_slot
  along_tied zero before xs slots c = refl
  along_tied (suc most) before [] slots c = refl
  along_tied (suc most) before (x ∷ xs) slots (f, o, c) =
      let (p, q) = slots x (count_first x xs) in
      let told : is_slot size (length values) x ≡ true = both_and _ _ (not_is (ne_eqb x null_slot (λ e. omega arith))) (both_and _ _ (lt-ltb _ _ q) (lt-ltb x (length values) (omega arith))) in
      rw told
      (ap (λ n. cell values x ∷ values_along onward size values most x n) o
      ∙ ap (λ zs. cell values x ∷ zs) (along_tied most x xs (λ y k. slots y (omega arith)) c))

-- ---- a held list

-- from the slot at an end on, a list's slots are tied
from_end_tied : {E : Engine} (L : Lawful E) (end : End) (links : E.Links) (xs : List ℕ) → E.Live links xs → (fits : ℕ → ℕ → Bool) × Tied (E.onward end links) fits 0 (from_end end xs)
from_end_tied {E} L Front links xs h = (E.fits links, (L.live_tied links xs).0 h)
from_end_tied L Back links xs h = (λ p x. true, L.back_tied links xs h)

from_end_count : (end : End) (xs : List ℕ) (y : ℕ) → count y (from_end end xs) ≡ count y xs
from_end_count Front xs y = refl
from_end_count Back xs y = count-reverse y xs

from_end-length : (end : End) (xs : List ℕ) → length (from_end end xs) ≡ length xs
from_end-length Front xs = refl
from_end-length Back xs = length-reverse xs

from_end_contents : (end : End) (values xs : List ℕ) → contents values (from_end end xs) ≡ from_end end (contents values xs)
from_end_contents Front values xs = refl
from_end_contents Back values xs = contents-reverse values xs

module _ {E : Engine} (L : Lawful E) {links : E.Links} {values : List ℕ} {b : AnyBook} {s : Shape} (S : SoundBook E links values b s) (l : ℕ) (below : l < b.lists) (end : End) where
  -- the slot at an end is where the reading starts
  starts : near_of end (entry_at b.entries l) ≡ first_or 0 (from_end end (chain_at s l))
  unfolding near_of
  starts = go end
    where
      H : Held E links values (entry_at b.entries l) b.free (chain_at s l) s.idle
      H = book_held S l below

      go : (end : End) → near_of end (entry_at b.entries l) ≡ first_or 0 (from_end end (chain_at s l))
      go Front = H.entry.head
      go Back = H.entry.tail ∙ sym (first-reverse 0 (chain_at s l))

  -- whatever room there is
  pub read_part : (buffer : List ℕ) (at : ℕ) → at ≤ length buffer
      → values_read E end links values (near_of end (entry_at b.entries l)) buffer at ≡ take (length buffer - at) (from_end end (contents values (chain_at s l)))
  read_part buffer at h =
      let (fits, c) = from_end_tied L end links (chain_at s l) H.live in
      rw (le-leb at (length buffer) h, starts, ← length-drop at buffer, ← from_end_contents end values (chain_at s l))
      (along_tied (E.onward end links) fits (E.size links) values H.same (length (drop at buffer)) 0 (from_end end (chain_at s l))
      (λ y k. H.slots y (omega (arith, from_end_count end (chain_at s l) y, count-append y (chain_at s l) s.idle))) c)
    where
      H : Held E links values (entry_at b.entries l) b.free (chain_at s l) s.idle
      H = book_held S l below

  -- where there is room for it, the whole list is read
  pub reads : (buffer : List ℕ) (at : ℕ) → at + length (chain_at s l) ≤ length buffer → Reads end values l buffer at s (after_read E links values b l end buffer at)
  reads buffer at room = record { number = refl; unplaced = refl; counted = ap length all ∙ many; places = rw (all, many) }
    where
      vs : List ℕ
      vs = from_end end (contents values (chain_at s l))

      many : length vs ≡ length (chain_at s l)
      many = from_end-length end (contents values (chain_at s l)) ∙ length-map (chain_at s l) (cell values)

      all : values_read E end links values (near_of end (entry_at b.entries l)) buffer at ≡ vs
      all = read_part buffer at (omega arith) ∙ take_all (length buffer - at) vs (omega (arith, many))

-- ---- any cells

along_room : (onward : ℕ → ℕ → ℕ) (size : ℕ) (values : List ℕ) (most before slot : ℕ) → length (values_along onward size values most before slot) ≤ most
unfolding values_along
along_room onward size values zero before slot = omega arith
along_room onward size values (suc most) before slot =
    let rest = values_along onward size values most slot (onward before slot) in
    cond_ind (λ vs. length vs ≤ suc most) (is_slot size (length values) slot) {x = cell values slot ∷ rest} {y = []}
    (λ e. omega (arith, along_room onward size values most slot (onward before slot))) (λ e. omega arith)

-- values written from a place on leave the other places as they were
written_keeps : (vs buffer : List ℕ) (at : ℕ) → at ≤ length buffer → length vs ≤ length buffer - at → Keeps buffer at (length vs) (take at buffer ++ vs ++ drop (at + length vs) buffer)
written_keeps vs buffer at h r =
    record {
      size = omega (arith, length-append (take at buffer ++ vs) (drop (at + length vs) buffer), front, length-drop (at + length vs) buffer);
      sooner = λ i k.
          get_or-append (take at buffer ++ vs) (drop (at + length vs) buffer) 0 i (omega (arith, front))
          ∙ get_or-append (take at buffer) vs 0 i (omega (arith, length-take-le at buffer h)) ∙ get_or-take at buffer i 0 k;
      later = λ i k.
          let j : i ≡ length (take at buffer ++ vs) + (i - (at + length vs)) = omega (arith, front) in
          let l : at + length vs + (i - (at + length vs)) ≡ i = omega arith in
          ap (λ n. get_or (take at buffer ++ vs ++ drop (at + length vs) buffer) n 0) j
          ∙ get_or-append-add (take at buffer ++ vs) (drop (at + length vs) buffer) (i - (at + length vs)) 0
          ∙ get_or-drop (at + length vs) buffer (i - (at + length vs)) 0
          ∙ ap (λ n. get_or buffer n 0) l;
    }
  where
    front : length (take at buffer ++ vs) ≡ at + length vs
    front = omega (arith, length-append (take at buffer) vs, length-take-le at buffer h)

module _ (E : Engine) (end : End) (links : E.Links) (values : List ℕ) (start : ℕ) (buffer : List ℕ) (at : ℕ) where
  -- where `at` is past the end nothing is read
  pub nothing_read : length buffer < at → (count_read E end links values start buffer at ≡ 0) × (buffer_after E end links values start buffer at ≡ buffer)
  nothing_read h =
      rw (lt-leb _ _ h) (refl, ap (λ zs. zs ++ drop (at + 0) buffer) (append-nil (take at buffer)) ∙ ap (λ k. take at buffer ++ drop k buffer) (add-zero at) ∙ take-append-drop at buffer)

  -- no more is read than there is room for
  pub read_fits : count_read E end links values start buffer at ≤ length buffer - at
  read_fits =
      cond_ind (λ vs. length vs ≤ length buffer - at) (leb at (length buffer))
      (λ e. rw (← length-drop at buffer) (along_room (E.onward end links) (E.size links) values (length (drop at buffer)) null_slot start)) (λ e. omega arith)

  -- every place but those that were written is as it was
  pub read_keeps : Keeps buffer at (count_read E end links values start buffer at) (buffer_after E end links values start buffer at)
  read_keeps = go (leb at (length buffer)) refl
    where
      go : (b : Bool) → leb at (length buffer) ≡ b → Keeps buffer at (count_read E end links values start buffer at) (buffer_after E end links values start buffer at)
      go true e = written_keeps (values_read E end links values start buffer at) buffer at (leb-true _ _ e) read_fits
      go false e = rw (nothing_read (leb-false _ _ e)).1 (record { size = refl; sooner = λ i h. refl; later = λ i h. refl })
