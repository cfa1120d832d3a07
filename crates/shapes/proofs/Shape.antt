-- How counts and lacks change when one sequence changes.
use mathlib.Core.Path.{◌≡◌, refl, ap}
use mathlib.Core.Logic.{◌≢◌}
use mathlib.Core.List.{List, [], ◌∷◌}
use Prim.Native.Nat.{ℕ, zero, suc, ◌+◌, ◌-◌, ◌≤◌, ◌<◌}
use native.Mathlib.Nat.{le_of_suc-le-suc, not-suc-le-zero}
use native.Mathlib.Omega.{arith}
use lib.ListN.{length, get_or, set, length-append}
use Rattle.books.specs.declared.Entry.{Entry}
use Rattle.books.specs.Book.{entry_at}
use Rattle.books.specs.Tabulate.{tabulate}
use Rattle.chains.specs.Count.{count}
use Rattle.chains.proofs.Count.{count-append}
use Rattle.shapes.specs.Shape.{joined_up, lacks, stored_lacks}
use Rattle.shapes.specs.Setup.{added_up}

pub joined_set : (cs : List (List ℕ)) (l : ℕ) (xs : List ℕ) (y : ℕ) → l < length cs → count y (joined_up (set cs l xs)) + count y (get_or cs l []) ≡ count y (joined_up cs) + count y xs
joined_set [] l xs y b = absurd (not-suc-le-zero b)
joined_set (ys ∷ cs) zero xs y b = omega (arith, count-append y xs (joined_up cs), count-append y ys (joined_up cs))
joined_set (ys ∷ cs) (suc l) xs y b =
    omega (arith, joined_set cs l xs y (le_of_suc-le-suc b), count-append y ys (joined_up (set cs l xs)), count-append y ys (joined_up cs))

pub joined_part : (cs : List (List ℕ)) (l y : ℕ) → count y (get_or cs l []) ≤ count y (joined_up cs)
joined_part [] l y = omega arith
joined_part (ys ∷ cs) zero y = omega (arith, count-append y ys (joined_up cs))
joined_part (ys ∷ cs) (suc l) y = omega (arith, count-append y ys (joined_up cs), joined_part cs l y)

pub joined_two : (cs : List (List ℕ)) (l k y : ℕ) → k ≢ l → count y (get_or cs l []) + count y (get_or cs k []) ≤ count y (joined_up cs)
joined_two [] l k y d = omega arith
joined_two (ys ∷ cs) zero zero y d = absurd (d refl)
joined_two (ys ∷ cs) zero (suc k) y d = omega (arith, count-append y ys (joined_up cs), joined_part cs k y)
joined_two (ys ∷ cs) (suc l) zero y d = omega (arith, count-append y ys (joined_up cs), joined_part cs l y)
joined_two (ys ∷ cs) (suc l) (suc k) y d = omega (arith, count-append y ys (joined_up cs), joined_two cs l k y (λ e. d (ap suc e)))

pub lacks_set : (es : List Entry) (cs : List (List ℕ)) (l : ℕ) (e : Entry) (xs : List ℕ) → length cs ≡ length es → l < length es → e.share ≡ (entry_at es l).share
    → lacks (set es l e) (set cs l xs) + ((entry_at es l).share - length (get_or cs l [])) ≡ lacks es cs + ((entry_at es l).share - length xs)
lacks_set [] cs l e xs n b h = absurd (not-suc-le-zero b)
lacks_set (d ∷ es) [] l e xs n b h = absurd (omega arith)
lacks_set (d ∷ es) (ys ∷ cs) zero e xs n b h = omega (arith, ap (λ k. k - length xs) h)
lacks_set (d ∷ es) (ys ∷ cs) (suc l) e xs n b h = omega (arith, lacks_set es cs l e xs (omega arith) (le_of_suc-le-suc b) h)

pub lacks_part : (es : List Entry) (cs : List (List ℕ)) (l : ℕ) → length cs ≡ length es → l < length es → (entry_at es l).share - length (get_or cs l []) ≤ lacks es cs
lacks_part [] cs l n b = absurd (not-suc-le-zero b)
lacks_part (d ∷ es) [] l n b = absurd (omega arith)
lacks_part (d ∷ es) (ys ∷ cs) zero n b = omega arith
lacks_part (d ∷ es) (ys ∷ cs) (suc l) n b = omega (arith, lacks_part es cs l (omega arith) (le_of_suc-le-suc b))

-- what the lists lack is told by their shares and their lengths, and by nothing else
pub lacks_told : (es es' : List Entry) (cs cs' : List (List ℕ)) → length es ≡ length es'
    → ((l : ℕ) → l < length es → ((entry_at es l).share ≡ (entry_at es' l).share) × (length (get_or cs l []) ≡ length (get_or cs' l []))) → lacks es cs ≡ lacks es' cs'
lacks_told [] [] cs cs' n h = refl
lacks_told [] (d ∷ es') cs cs' n h = absurd (omega arith)
lacks_told (e ∷ es) [] cs cs' n h = absurd (omega arith)
lacks_told (e ∷ es) (d ∷ es') [] [] n h = omega (arith, (h 0 (omega arith)).0, lacks_told es es' [] [] (omega arith) (λ l b. h (suc l) (omega arith)))
lacks_told (e ∷ es) (d ∷ es') [] (ys ∷ cs') n h = omega (arith, h 0 (omega arith), lacks_told es es' [] cs' (omega arith) (λ l b. h (suc l) (omega arith)))
lacks_told (e ∷ es) (d ∷ es') (xs ∷ cs) [] n h = omega (arith, h 0 (omega arith), lacks_told es es' cs [] (omega arith) (λ l b. h (suc l) (omega arith)))
lacks_told (e ∷ es) (d ∷ es') (xs ∷ cs) (ys ∷ cs') n h =
    let (p, q) = h 0 (omega arith) in
    let one : e.share - length xs ≡ d.share - length ys = λ i. p i - q i in
    omega (arith, one, lacks_told es es' cs cs' (omega arith) (λ l b. h (suc l) (omega arith)))

-- where each stored length is its sequence's, the stored lengths tell the same
pub lacks_stored : (es : List Entry) (cs : List (List ℕ)) → length cs ≡ length es → ((l : ℕ) → l < length es → (entry_at es l).length ≡ length (get_or cs l [])) → stored_lacks es ≡ lacks es cs
lacks_stored [] cs n h = refl
lacks_stored (e ∷ es) [] n h = absurd (omega arith)
lacks_stored (e ∷ es) (xs ∷ cs) n h =
    let one : e.share - e.length ≡ e.share - length xs = ap (λ k. e.share - k) (h 0 (omega arith)) in
    omega (arith, one, lacks_stored es cs (omega arith) (λ l b. h (suc l) (omega arith)))

-- all sequences together are as long as their lengths added up
pub joined_length : (n : ℕ) (cs : List (List ℕ)) (f : ℕ → ℕ) → length cs ≡ n → ((l : ℕ) → l < n → length (get_or cs l []) ≡ f l) → length (joined_up cs) ≡ added_up (tabulate n f)
unfolding tabulate
joined_length zero [] f n h = refl
joined_length zero (xs ∷ cs) f n h = absurd (omega arith)
joined_length (suc k) [] f n h = absurd (omega arith)
joined_length (suc k) (xs ∷ cs) f n h = omega (arith, length-append xs (joined_up cs), h 0 (omega arith), joined_length k cs (λ y. f (suc y)) (omega arith) (λ l b. h (suc l) (omega arith)))
