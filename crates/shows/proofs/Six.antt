-- In any memory of six slots the demonstration shows 01's six lines. It is told by what `shares` promises of setup, the pushes and the pops.
use mathlib.Core.Path.{◌≡◌, refl, sym, ap, subst}
use mathlib.Core.Bool.{cond}
use mathlib.Core.List.{List, [], ◌∷◌, ◌++◌}
use Prim.Native.Nat.{ℕ, zero, suc, ◌≤◌, ◌<◌}
use native.Mathlib.Omega.{arith}
use lib.ListN.{length, get_or, length-append, get_or-replicate}
use borrow.Author.Tests.{eq-eqb}
use Rattle.books.specs.Outcome.{Outcome}
use Rattle.wording.specs.Digits.{digits_on}
use Rattle.books.specs.declared.Answer.{Answer}
use Rattle.books.specs.declared.Popped.{Popped}
use Rattle.shapes.specs.Numbers.{Given, done, this, later}
use Rattle.engines.specs.Conditions.{setup_conditions}
use Rattle.xor.specs.Ten.{setup_of, push_back_of, push_front_of, pop_back_of, pop_front_of}
use Rattle.xor.specs.Moves.{Pool, pool_left, pool_popped, number_given, pool_after, PoolTrace, begun, called}
use Rattle.shapes.specs.Moves.{Move, push_back, push_front, checked}
use Rattle.engines.proofs.Fresh.{setup_given}
use Rattle.xor.proofs.Named.{Holds, setup_holds, push_back_appends, push_front_prepends, pop_back_exactly, pop_back_takes_last, pop_front_exactly, pop_front_takes_first}
use Rattle.shapes.specs.Ledger.{Ledger, nothing_noted, noted_done}
use Rattle.xor.specs.Engine.{xor}
use Rattle.xor.proofs.Traces.{demand_3_named}
use Rattle.shows.specs.Demo.{five, pushed_of, gone_of, popped_of, line_of, pushed_lines, popped_lines, shown_of, six_lines}
use Rattle.shows.proofs.Played.{back_goes, front_goes, pushed_by, pop_goes_lem, popped_by}
use Rattle.shows.proofs.Shows.{pops_done}

-- ---- what a sequence ends and begins with

last_of : (xs rest : List ℕ) {x y : ℕ} → xs ++ x ∷ [] ≡ rest ++ y ∷ [] → (rest ≡ xs) × (y ≡ x)
last_of [] [] e = (refl, cc)
last_of [] (b ∷ rest) {x} {y} e = absurd (omega (arith, ap length e, length-append rest (y ∷ [])))
last_of (a ∷ xs) [] {x} {y} e = absurd (omega (arith, ap length e, length-append xs (x ∷ [])))
last_of (a ∷ xs) (b ∷ rest) {x} {y} e =
    let t : xs ++ x ∷ [] ≡ rest ++ y ∷ [] = cc in
    let (p, q) = last_of xs rest t in
    (cc, q)

first_of : {xs rest : List ℕ} {x y : ℕ} → x ∷ xs ≡ y ∷ rest → (rest ≡ xs) × (y ≡ x)
first_of e = (cc, cc)

-- the lines, spelled out
spelled_out : pushed_lines ++ popped_lines 3 1 2 ≡ six_lines
unfolding line_of digits_on
spelled_out = refl

-- ---- a list below its share

module _ {p : Pool} {d : Ledger} (t : PoolTrace 1 five five p d) where
  -- a done call is noted
  step : (m : Move) → number_given p m ≡ 0 → PoolTrace 1 five five (pool_after p m) (noted_done m d)
  step m z = subst (λ b. PoolTrace 1 five five (pool_after p m) (cond b (noted_done m d) d)) (eq-eqb (number_given p m) 0 z) (called t (checked m))

  -- "A list below its share is never refused a push", and it holds no more than was pushed
  served : d.pushes 0 < 5 → (value : ℕ) → (number_given p (push_back 0 value) ≡ 0) × (number_given p (push_front 0 value) ≡ 0)
  served h value =
      let (s, D) = demand_3_named t in
      let (back, front, quick_back, quick_front) = D.served 0 value (omega arith) (omega (arith, D.holds 0 (omega arith))) in
      (back, front)

-- ---- setup

no_share : (l : ℕ) → 1 ≤ l → l < 8 → get_or five l 0 ≡ 0
no_share zero p q = absurd (omega arith)
no_share (suc l) p q = get_or-replicate 7 l 0 0 (omega arith)

module _ (links values : List ℕ) (p : length links ≡ 6) (q : length values ≡ 6) where
  abbrev made : Outcome Answer
  made = setup_of links values 1 five five

  made_done : made.answer.refusal.number ≡ 0
  made_done = go (setup_given xor 8 links values 1 five five)
    where
      fair : (l : ℕ) → l < 1 → (get_or five l 0 ≤ get_or five l 0) × (get_or five l 0 < length links)
      fair zero h = omega arith
      fair (suc l) h = absurd (omega arith)

      go : {n : ℕ} → Given (setup_conditions xor links values 8 1 five five) n → n ≡ 0
      go (this h) = absurd (h (record { even = refl; same = omega arith; size = record { least = omega arith; most = omega arith } }))
      go (later k (this h)) =
          absurd (h (record { least = omega arith; most = omega arith; fair = fair; fits = omega arith; unused = λ l a b. (no_share l a b, no_share l a b) }))
      go (later k (later j done)) = refl

  -- ---- the pushes

  abbrev first : Outcome Answer
  first = push_back_of made.links made.values made.answer.book 0 2

  abbrev second : Outcome Answer
  second = push_back_of first.links first.values first.answer.book 0 3

  abbrev third : Outcome Answer
  third = push_front_of second.links second.values second.answer.book 0 1

  start : PoolTrace 1 five five (pool_left made) nothing_noted
  start = begun links values made_done

  empty : Holds (pool_left made) 0 []
  empty = setup_holds links values 1 five five 0 made_done (omega arith)

  first_done : first.answer.refusal.number ≡ 0
  first_done = (served start (omega arith) 2).0

  holds_two : Holds (pool_left first) 0 (2 ∷ [])
  holds_two = push_back_appends empty 2 first_done

  second_done : second.answer.refusal.number ≡ 0
  second_done = (served (step start (push_back 0 2) first_done) (omega arith) 3).0

  holds_both : Holds (pool_left second) 0 (2 ∷ 3 ∷ [])
  holds_both = push_back_appends holds_two 3 second_done

  third_done : third.answer.refusal.number ≡ 0
  third_done = (served (step (step start (push_back 0 2) first_done) (push_back 0 3) second_done) (omega arith) 1).1

  -- 000: "1, 2, 3"
  holds_three : Holds (pool_left third) 0 (1 ∷ 2 ∷ 3 ∷ [])
  holds_three = push_front_prepends holds_both 1 third_done

  all_pushed : third ≡ pushed_of links values
  all_pushed = pushed_by links values refl (back_goes 2 made made_done refl) (back_goes 3 first first_done refl) (front_goes 1 second second_done refl)

  -- ---- the pops

  abbrev back : Outcome Popped
  back = pop_back_of third.links third.values third.answer.book 0

  back_done : back.answer.given.refusal.number ≡ 0
  back_done = (pop_back_exactly holds_three).0.1 (omega arith)

  back_gives : Holds (pool_popped back) 0 (1 ∷ 2 ∷ []) × (back.answer.given.value ≡ 3)
  back_gives =
      let (rest, e, K) = pop_back_takes_last holds_three back_done in
      let (a, b) = last_of (1 ∷ 2 ∷ []) rest e in
      (subst (λ (xs : List ℕ). Holds (pool_popped back) 0 xs) a K, b)

  abbrev front : Outcome Popped
  front = pop_front_of back.links back.values back.answer.book 0

  front_done : front.answer.given.refusal.number ≡ 0
  front_done = (pop_front_exactly back_gives.0).0.1 (omega arith)

  front_gives : Holds (pool_popped front) 0 (2 ∷ []) × (front.answer.given.value ≡ 1)
  front_gives =
      let (rest, e, K) = pop_front_takes_first back_gives.0 front_done in
      let (a, b) = first_of e in
      (subst (λ (xs : List ℕ). Holds (pool_popped front) 0 xs) a K, b)

  abbrev again : Outcome Popped
  again = pop_front_of front.links front.values front.answer.book 0

  again_done : again.answer.given.refusal.number ≡ 0
  again_done = (pop_front_exactly front_gives.0).0.1 (omega arith)

  -- and the list is empty then
  again_gives : Holds (pool_popped again) 0 [] × (again.answer.given.value ≡ 2)
  again_gives =
      let (rest, e, K) = pop_front_takes_first front_gives.0 again_done in
      let (a, b) = first_of e in
      (subst (λ (xs : List ℕ). Holds (pool_popped again) 0 xs) a K, b)

  all_popped : gone_of back front again ≡ popped_of third.links third.values third.answer.book
  all_popped = popped_by third.links third.values third.answer.book refl (pop_goes_lem back back_done refl) (pop_goes_lem front front_done refl)

  -- ---- what is shown

  pub six_lines_lem : shown_of links values ≡ six_lines
  unfolding shown_of
  six_lines_lem =
      rw (
        sym all_pushed,
        eq-eqb third.answer.refusal.number 0 third_done,
        sym all_popped,
        pops_done (gone_of back front again).answer again_done,
        back_gives.1,
        front_gives.1,
        again_gives.1,
      )
      spelled_out
