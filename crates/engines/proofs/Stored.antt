-- 02 c): "Length answers from the book after the check; 6 and 7 use stored counts": when each number is given, said of the stored counts, over any engine. `When` says the same of the sequences; on a sound pool the two are one.
use mathlib.Core.Path.{◌≡◌, refl, sym, subst}
use mathlib.Core.Logic.{◌↔◌}
use mathlib.Core.Bool.{Bool, true, ◌&&◌}
use mathlib.Core.List.{List}
use Prim.Native.Nat.{ℕ, ◌<◌}
use lib.Dec.{leb, ltb}
use lib.ListN.{length, take}
use borrow.Author.Tests.{eqb-true, eq-eqb, leb-true, le-leb, ltb-true, lt-ltb}
use Rattle.books.specs.declared.Entry.{Entry}
use Rattle.books.specs.declared.Length.{Length}
use Rattle.books.specs.Book.{entry_at, AnyBook}
use Rattle.books.proofs.Tests.{and_both, both_and}
use Rattle.shapes.specs.declared.End.{End}
use Rattle.shapes.specs.Shape.{Shape, chain_at, lacks, stored_lacks}
use Rattle.shapes.specs.Numbers.{Given}
use Rattle.shapes.proofs.Numbers.{decided_ind}
use Rattle.shapes.proofs.Numbers as N
use Rattle.engines.specs.Engine.{Engine}
use Rattle.engines.specs.Sound.{SoundBook}
use Rattle.engines.specs.Laws.{Lawful}
use Rattle.engines.specs.Conditions.{stored_push_conditions, stored_pop_conditions, stored_read_conditions}
use Rattle.engines.specs.Calls.{list_tests, length_call, push_call, pop_call, read_call}
use Rattle.engines.proofs.Found.{stored-length, stored_free, stored_lacks_lem}
use Rattle.engines.proofs.When.{no_room_left, list_gives, push_number, pop_number_lem, read_number}

-- three tests in turn
pub all_three : (x y z : Bool) {A B C : Type 0} → x ≡ true ↔ A → y ≡ true ↔ B → z ≡ true ↔ C → (x && (y && z)) ≡ true ↔ (A × B × C)
all_three x y z a b c = (
  λ h. let (p, qr) = and_both x (y && z) h in let (q, r) = and_both y z qr in (a.0 p, b.0 q, c.0 r),
  λ (p, q, r). both_and x (y && z) (a.1 p) (both_and y z (b.1 q) (c.1 r)),
)

module _ {E : Engine} (L : Lawful E) (links : E.Links) (values : List ℕ) (b : AnyBook) (l : ℕ) where
  abbrev e : Entry
  e = entry_at b.entries l

  -- 6 and 7 by the stored counts
  pub push_stored : (end : End) (value : ℕ) → Given (stored_push_conditions E links values b l) (push_call E links values b l end value).number
  push_stored end value =
      subst (Given (stored_push_conditions E links values b l)) (sym (push_number E links values b l end value))
      (list_gives L links values b l (λ s S below. N.one refl (eqb-true _ _, eq-eqb _ _) (λ n.
      N.one refl (all_three (ltb e.length e.limit) (leb e.share e.length) (leb b.free.count (stored_lacks (take b.lists b.entries))) (ltb-true _ _, lt-ltb _ _) (leb-true _ _, le-leb _ _) (leb-true _ _, le-leb _ _)) (λ n. N.none))))

  -- 5
  pub pop_stored : (end : End) → Given (stored_pop_conditions E links values b l) (pop_call E links values b l end).number
  pop_stored end =
      subst (Given (stored_pop_conditions E links values b l)) (sym (pop_number_lem E links values b l end))
      (list_gives L links values b l (λ s S below. N.one refl (eqb-true _ _, eq-eqb _ _) (λ n. N.none)))

  -- 8
  pub read_stored : (end : End) (buffer : List ℕ) (at : ℕ) → Given (stored_read_conditions E links values b l (length buffer) at) (read_call E links values b l end buffer at).answer.refusal.number
  read_stored end buffer at =
      subst (Given (stored_read_conditions E links values b l (length buffer) at)) (sym (read_number E links values b l end buffer at))
      (list_gives L links values b l (λ s S below. N.one refl (no_room_left at (length buffer) e.length) (λ n. N.none)))

-- the length comes from the book
pub length_stored : (E : Engine) (links : E.Links) (values : List ℕ) (b : AnyBook) (l : ℕ) → (length_call E links values b l).refusal.number ≡ 0 → (length_call E links values b l).length ≡ (entry_at b.entries l).length
unfolding length_call
length_stored E links values b l =
    decided_ind _ _ (λ (r : Length). r.refusal.number ≡ 0 → r.length ≡ (entry_at b.entries l).length) (list_tests E links values b l) (λ k z. absurd (k z)) (λ k z. refl)

-- on a sound pool the stored counts are the sequences'
pub counts_are : {E : Engine} {links : E.Links} {values : List ℕ} {b : AnyBook} {s : Shape} → SoundBook E links values b s
    → ((l : ℕ) → l < b.lists → (entry_at b.entries l).length ≡ length (chain_at s l)) × (b.free.count ≡ length s.idle) × (stored_lacks (take b.lists b.entries) ≡ lacks (take b.lists b.entries) s.chains)
counts_are S = (stored-length S, stored_free S, stored_lacks_lem S)
