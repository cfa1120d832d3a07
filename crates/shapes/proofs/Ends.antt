-- Laws of a sequence with one more at an end, and of the values that a sequence holds.
use mathlib.Core.Path.{◌≡◌, refl, sym, ap, ◌∙◌}
use mathlib.Core.List.{List, [], ◌∷◌, ◌++◌, map-append, reverse, reverse-cons}
use Prim.Native.Nat.{ℕ, suc, ◌+◌, ◌<◌}
use native.Mathlib.Omega.{arith}
use lib.ListN.{length, length-append}
use Rattle.chains.specs.Count.{hit, count}
use Rattle.chains.specs.Chain.{cell}
use Rattle.chains.proofs.Count.{count-append, count_first}
use Rattle.shapes.specs.declared.End.{End}
use Rattle.shapes.specs.declared.End.TheVariants.{Front, Back}
use Rattle.books.specs.declared.Entry.{Entry}
use Rattle.shapes.specs.Counts.{with_length}
use Rattle.shapes.specs.Ends.{new_of, near_of, with_near, with_both, emptied, opposite, joined, contents}

pub count_joined : (end : End) (s : ℕ) (xs : List ℕ) (y : ℕ) → count y (joined end s xs) ≡ hit y s + count y xs
count_joined Front s xs y = refl
count_joined Back s xs y = omega (arith, count-append y xs (s ∷ []))

pub length_joined : (end : End) (s : ℕ) (xs : List ℕ) → length (joined end s xs) ≡ suc (length xs)
length_joined Front s xs = refl
length_joined Back s xs = omega (arith, length-append xs (s ∷ []))

-- a sequence whose cells stay holds what it held
pub contents_same : (values values' : List ℕ) (xs : List ℕ) → ((y : ℕ) → 0 < count y xs → cell values' y ≡ cell values y) → contents values' xs ≡ contents values xs
contents_same values values' [] h = refl
contents_same values values' (x ∷ xs) h = λ i. h x (count_first x xs) i ∷ contents_same values values' xs (λ y k. h y (omega arith)) i

pub contents-reverse : (values xs : List ℕ) → contents values (reverse xs) ≡ reverse (contents values xs)
contents-reverse values [] = refl
contents-reverse values (x ∷ xs) =
    ap (contents values) (reverse-cons x xs) ∙ map-append (cell values) (reverse xs) (x ∷ []) ∙ ap (λ zs. zs ++ cell values x ∷ []) (contents-reverse values xs)
    ∙ sym (reverse-cons (cell values x) (contents values xs))

-- ---- an entry and its ends

-- the front is the head, and the back is the tail
pub near_told : (list : Entry) → (near_of Front list ≡ list.head) × (near_of Back list ≡ list.tail)
unfolding near_of
near_told list = (refl, refl)

-- another slot at an end leaves the other end, the share, the limit and the stored length
pub near_set : (end : End) (slot : ℕ) (list : Entry)
    → (near_of end (with_near end slot list) ≡ slot) × (near_of (opposite end) (with_near end slot list) ≡ near_of (opposite end) list)
    × ((with_near end slot list).share ≡ list.share) × ((with_near end slot list).limit ≡ list.limit) × ((with_near end slot list).length ≡ list.length)
unfolding near_of with_near
near_set Front slot list = (refl, refl, refl, refl, refl)
near_set Back slot list = (refl, refl, refl, refl, refl)

-- the stored length is no end
pub near_length : (end : End) (n : ℕ) (list : Entry) → near_of end (with_length n list) ≡ near_of end list
unfolding near_of
near_length Front n list = refl
near_length Back n list = refl

pub both_set : (slot : ℕ) (list : Entry)
    → ((with_both slot list).head ≡ slot) × ((with_both slot list).tail ≡ slot) × ((with_both slot list).share ≡ list.share) × ((with_both slot list).limit ≡ list.limit)
    × ((with_both slot list).length ≡ list.length)
both_set slot list = (refl, refl, refl, refl, refl)

-- 01: "an empty list has head and tail 0"
pub emptied_told : (list : Entry) → ((emptied list).head ≡ 0) × ((emptied list).tail ≡ 0) × ((emptied list).share ≡ list.share) × ((emptied list).limit ≡ list.limit)
    × ((emptied list).length ≡ list.length)
emptied_told list = (refl, refl, refl, refl, refl)

pub new_empty : (share limit : ℕ) → ((new_of share limit).head ≡ 0) × ((new_of share limit).tail ≡ 0) × ((new_of share limit).length ≡ 0)
new_empty share limit = (refl, refl, refl)

-- a new list has the share and the limit that it was given
pub new_keeps : (share limit : ℕ) → ((new_of share limit).share ≡ share) × ((new_of share limit).limit ≡ limit)
new_keeps share limit = (refl, refl)
