-- An engine to compute with: two link slices, each slot's next and previous one. It is here so that the cases of `Edges` and `Turns` stand beside the definitions that they pin. No code runs it, and no law speaks of it.
use Rattle.std.specs.Prelude.{◌≡◌, Bool, cond, not, ◌&&◌, List, [], ◌∷◌, ℕ, ◌+◌, ◌-◌, ltb, eqb, length, set}
use Rattle.books.specs.declared.Free.{Free}
use Rattle.books.specs.declared.Entry.{Entry}
use Rattle.books.specs.Book.{null_slot, wipe_word, entry_words, AnyBook}
use Rattle.books.specs.Tabulate.{tabulate}
use Rattle.books.specs.Tried.{same_numbers}
use Rattle.chains.specs.Chain.{cell}
use Rattle.shapes.specs.declared.End.{End}
use Rattle.shapes.specs.declared.End.TheVariants.{Front, Back}
use Rattle.shapes.specs.Ends.{near_of, with_near, with_both, emptied}
use Rattle.shapes.specs.Walk.{Tied}
use Rattle.engines.specs.Engine.{Engine, Step}
use Rattle.engines.specs.Moves.{State}

pub record TwoWay : Type 0 where
  pub next : List ℕ
  pub previous : List ℕ

abbrev pub two_way : List ℕ → List ℕ → TwoWay
two_way next previous = record { next = next; previous = previous }

-- from an end, the cells that lead inward, and those that lead outward
abbrev inward : End → TwoWay → List ℕ
inward Front links = links.next
inward Back links = links.previous

abbrev outward : End → TwoWay → List ℕ
outward Front links = links.previous
outward Back links = links.next

abbrev made : End → List ℕ → List ℕ → TwoWay
made Front inner outer = two_way inner outer
made Back inner outer = two_way outer inner

-- the cell of a slot is set; slot 0's never is
abbrev set_slot : List ℕ → ℕ → ℕ → List ℕ
set_slot cells slot x = cond (eqb slot null_slot) cells (set cells slot x)

-- links 1 to 2, 2 to 3, and so on, the last 0
abbrev fresh_next : ℕ → ℕ → ℕ
fresh_next size slot = cond (ltb null_slot slot && ltb (slot + 1) size) (slot + 1) 0

-- the slot at the free head stands at the end of the list
abbrev push_step : End → TwoWay → List ℕ → Entry → Free → ℕ → Step TwoWay
push_step end links values list free value =
    let slot = free.head in
    let near = near_of end list in
    record {
      done = not (eqb slot null_slot);
      value = 0;
      entry = cond (eqb near null_slot) (with_both slot list) (with_near end slot list);
      free = record { head = cell links.next slot; count = free.count };
      links = made end (set_slot (inward end links) slot near) (set_slot (set_slot (outward end links) near slot) slot null_slot);
      values = set_slot values slot value;
    }

-- the slot at the end leaves for the front of the idle chain
abbrev pop_step : End → TwoWay → List ℕ → Entry → Free → Step TwoWay
pop_step end links values list free =
    let slot = near_of end list in
    let near = cell (inward end links) slot in
    let rest = made end (inward end links) (set_slot (outward end links) near null_slot) in
    record {
      done = not (eqb slot null_slot);
      value = cell values slot;
      entry = cond (eqb near null_slot) (emptied list) (with_near end near list);
      free = record { head = slot; count = free.count };
      links = two_way (set_slot rest.next slot free.head) (set_slot rest.previous slot null_slot);
      values = set_slot values slot wipe_word;
    }

abbrev pub trial : Engine
trial =
    record {
      Links = TwoWay;
      even = λ links. eqb (length links.next) (length links.previous);
      size = λ links. length links.next;
      -- a live slot has the slot after it and the slot before it; a free slot the next free one and 0
      Live = λ links xs. Tied (λ p x. cell links.next x) (λ p x. eqb (cell links.previous x) p) 0 xs;
      Idle = λ links xs. Tied (λ p x. cell links.next x) (λ p x. eqb (cell links.previous x) 0) 0 xs;
      Null = λ links. (cell links.next null_slot ≡ 0) × (cell links.previous null_slot ≡ 0);
      Same = λ links links' y. (cell links'.next y ≡ cell links.next y) × (cell links'.previous y ≡ cell links.previous y);
      onward = λ end links p x. cell (inward end links) x;
      fits = λ links p x. eqb (cell links.previous x) p;
      idle_onward = λ links p x. cell links.next x;
      idle_fits = λ links p x. eqb (cell links.previous x) 0;
      null_test = λ links. eqb (cell links.next null_slot) 0 && eqb (cell links.previous null_slot) 0;
      fresh = λ links. two_way (tabulate (length links.next) (fresh_next (length links.next))) (tabulate (length links.previous) (λ slot. 0));
      push = push_step;
      pop = pop_step;
    }

-- ---- how the cases are written

-- the next and the previous links, the values, L, the entries, the free head and the free count, in a book of eight
abbrev pub counted_pool : List ℕ → List ℕ → List ℕ → ℕ → List Entry → ℕ → ℕ → State trial
counted_pool next previous values lists entries free count =
    record { links = two_way next previous; values = values; book = record { places = 8; lists = lists; entries = entries; free = record { head = free; count = count } } }

-- what the stored lengths add up to
abbrev lengths_of : List Entry → ℕ
lengths_of [] = 0
lengths_of (e ∷ es) = e.length + lengths_of es

-- the same with the free count that is left of N-1 by the stored lengths: it is right where they are
abbrev pub pool : List ℕ → List ℕ → List ℕ → ℕ → List Entry → ℕ → State trial
pool next previous values lists entries free = counted_pool next previous values lists entries free (length next - 1 - lengths_of entries)

-- every word of a book with any number of places
abbrev pub book_words : AnyBook → List ℕ
book_words b = b.places ∷ b.lists ∷ b.free.head ∷ b.free.count ∷ entry_words b.entries

-- every cell and every word is the same
abbrev pub same_state : State trial → State trial → Bool
same_state s t =
    same_numbers s.links.next t.links.next
    && (same_numbers s.links.previous t.links.previous && (same_numbers s.values t.values && same_numbers (book_words s.book) (book_words t.book)))
