-- What the ten calls by name do to what a list holds: upstream's clauses, from the laws over any engine; and of their own outputs, that the backward reading is the forward one reversed and that setup ignores what was there.
use mathlib.Core.Path.{◌≡◌, refl, sym, ap, subst}
use mathlib.Core.Logic.{◌↔◌}
use mathlib.Core.List.{List, [], ◌∷◌, ◌++◌, reverse}
use Prim.Native.Nat.{ℕ, ◌<◌}
use lib.ListN.{length, take, drop}
use Rattle.books.specs.declared.Book.{Book}
use Rattle.books.specs.Place.{Place}
use Rattle.books.specs.Book.{most_lists, AnyBook, eight, book_of}
use Rattle.shapes.specs.declared.End.TheVariants.{Front, Back}
use Rattle.shapes.specs.Moves.{Move, push_back, push_front, pop_back, pop_front, clear}
use Rattle.engines.specs.Moves.{State, place_given, after, View}
use Rattle.engines.specs.Named.{NamesFault}
use Rattle.engines.proofs.Named.{names_fault}
use Rattle.engines.proofs.Upstream as U
use Rattle.engines.proofs.Directly.{backward_reversed, setup_ignores}
use Rattle.xor.specs.Engine.{xor}
use Rattle.xor.specs.Ten.{setup_of, push_back_of, push_front_of, pop_back_of, pop_front_of, read_forward_of, read_backward_of, clear_of}
use Rattle.xor.specs.Moves.{Pool, state_of, pool_left, pool_popped, number_given, place_named, pool_after}
use Rattle.xor.proofs.Plain.{setup_left, number_told, place_told, after_told}
use Rattle.xor.proofs.Lawful.{xor_lawful}

-- list l of the pool holds the values vs
abbrev pub Holds : Pool → ℕ → List ℕ → Type 0
Holds p l vs = View xor (state_of p) l vs

-- what the state after a move holds, the pool after it holds
told_back : (p : Pool) (m : Move) {k : ℕ} {vs : List ℕ} → View xor (after xor (state_of p) m) k vs → Holds (pool_after p m) k vs
told_back p m {k} {vs} H = subst (λ (st : State xor). View xor st k vs) (sym (after_told p m)) H

-- 000's `new`
pub setup_holds : (links values : List ℕ) (lists : ℕ) (shares limits : List ℕ) (l : ℕ) → (setup_of links values lists shares limits).answer.refusal.number ≡ 0 → l < lists
    → Holds (pool_left (setup_of links values lists shares limits)) l []
setup_holds links values lists shares limits l z below =
    subst (λ (st : State xor). View xor st l []) (sym (setup_left links values lists shares limits)) (U.setup_empty xor_lawful most_lists links values lists shares limits l z below)

module _ {p : Pool} {l : ℕ} {vs : List ℕ} (H : Holds p l vs) where
  -- 000's `push_back`, `push_front`
  pub push_back_appends : (value : ℕ) → (push_back_of p.links p.values p.book l value).answer.refusal.number ≡ 0 → Holds (pool_left (push_back_of p.links p.values p.book l value)) l (vs ++ value ∷ [])
  push_back_appends value z = told_back p (push_back l value) (U.push_appends xor_lawful H Back value z)

  pub push_front_prepends : (value : ℕ) → (push_front_of p.links p.values p.book l value).answer.refusal.number ≡ 0 → Holds (pool_left (push_front_of p.links p.values p.book l value)) l (value ∷ vs)
  push_front_prepends value z = told_back p (push_front l value) (U.push_appends xor_lawful H Front value z)

  -- 000's `pop_back`, `pop_front`
  pub pop_back_takes_last : (pop_back_of p.links p.values p.book l).answer.given.refusal.number ≡ 0
      → (rest : List ℕ) × (vs ≡ rest ++ (pop_back_of p.links p.values p.book l).answer.given.value ∷ []) × Holds (pool_popped (pop_back_of p.links p.values p.book l)) l rest
  pop_back_takes_last z = let (rest, e, K) = U.pop_takes xor_lawful H Back z in (rest, e, told_back p (pop_back l) K)

  pub pop_front_takes_first : (pop_front_of p.links p.values p.book l).answer.given.refusal.number ≡ 0
      → (rest : List ℕ) × (vs ≡ (pop_front_of p.links p.values p.book l).answer.given.value ∷ rest) × Holds (pool_popped (pop_front_of p.links p.values p.book l)) l rest
  pop_front_takes_first z = let (rest, e, K) = U.pop_takes xor_lawful H Front z in (rest, e, told_back p (pop_front l) K)

  pub pop_back_exactly : let number = (pop_back_of p.links p.values p.book l).answer.given.refusal.number in (number ≡ 0 ↔ (0 < length vs)) × (number ≡ 5 ↔ (length vs ≡ 0))
  pop_back_exactly = U.pop_five_exactly xor_lawful H Back

  pub pop_front_exactly : let number = (pop_front_of p.links p.values p.book l).answer.given.refusal.number in (number ≡ 0 ↔ (0 < length vs)) × (number ≡ 5 ↔ (length vs ≡ 0))
  pop_front_exactly = U.pop_five_exactly xor_lawful H Front

  -- a cleared list holds nothing
  pub clear_holds_none : (clear_of p.links p.values p.book l).answer.refusal.number ≡ 0 → Holds (pool_left (clear_of p.links p.values p.book l)) l []
  clear_holds_none z = told_back p (clear l) (U.clear_empties xor_lawful H z)

-- ---- of the calls' own outputs

-- demand 2: "The backward reading is the forward one reversed"
pub read_backward_reversed : (links values : List ℕ) (b : Book) (l : ℕ) (buffer buffer' : List ℕ) (at at' : ℕ)
    → let forth = read_forward_of links values b l buffer at in
    let back = read_backward_of links values b l buffer' at' in
    forth.answer.refusal.number ≡ 0 → back.answer.refusal.number ≡ 0
    → (back.answer.count ≡ forth.answer.count) × (take back.answer.count (drop at' back.buffer) ≡ reverse (take forth.answer.count (drop at forth.buffer)))
read_backward_reversed links values b l buffer buffer' at at' = backward_reversed xor_lawful links values (eight b) l buffer buffer' at at'

-- 01: "It ignores and overwrites what was there"
pub setup_overwrites : (links links' values values' : List ℕ) (lists : ℕ) (shares limits : List ℕ) → length links ≡ length links' → length values ≡ length values'
    → let r = setup_of links values lists shares limits in
    let r' = setup_of links' values' lists shares limits in
    (r.answer.refusal.number ≡ r'.answer.refusal.number) × (r.answer.book ≡ r'.answer.book)
    × (r.answer.refusal.number ≡ 0 → (r.links ≡ r'.links) × (r.values ≡ r'.values))
setup_overwrites links links' values values' lists shares limits size many =
    let (n, b, c) = setup_ignores xor_lawful most_lists links values lists shares limits links' values' refl size many in
    (n, ap (λ (x : AnyBook). book_of x) b, c)

-- ---- 02 b)

-- each of the nine calls by name names the first rule that is broken, with its place
pub named_fault : (p : Pool) (m : Move) → NamesFault xor (state_of p) (number_given p m) (place_named p m)
named_fault p m = subst (λ (place : Place). NamesFault xor (state_of p) (number_given p m) place) (sym (place_told p m)) (subst (λ (n : ℕ). NamesFault xor (state_of p) n (place_given xor (state_of p) m)) (sym (number_told p m)) (names_fault xor_lawful (state_of p) m))
