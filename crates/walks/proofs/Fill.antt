-- Why `fill` and `read` give what their models say: what holds after so many values, and the filled part in the whole buffer.
use mathlib.Core.Path.{◌≡◌, refl, sym, ap, ◌∙◌}
use mathlib.Core.Logic.{◌≢◌, ◌⊎◌, inl, inr}
use mathlib.Core.Bool.{true, false, not, ◌&&◌}
use mathlib.Core.List.{List, [], ◌∷◌, ◌++◌, append_assoc, append-nil}
use Prim.Native.Nat.{ℕ, zero, suc, ◌+◌, ◌-◌, ◌≤◌, ◌<◌, min}
use native.Mathlib.Decide.{dec_le}
use native.Mathlib.Nat.{sub-zero, le_of_eq}
use native.Mathlib.Numerals.{add-one}
use native.Mathlib.Omega.{arith}
use lib.Bits.{bit_xor}
use lib.Dec.{ltb, eqb}
use lib.ListN.{length, take, drop, set, length-set, take-append-drop, length-drop, drop_of_length-le}
use lib.Seq.{take-suc-set, drop-set-lt, drop-drop, length-take-le, take_all}
use borrow.Author.Tests.{eqb-false, ne_eqb, ltb-true, lt-ltb, le-leb, not-true}
use Rattle.books.specs.Book.{null_slot}
use Rattle.books.proofs.Tests.{cond_ind, and_both, not_both}
use Rattle.chains.specs.Chain.{cell}
use Rattle.xor.specs.Slot.{InPool, in_pool}
use Rattle.shapes.specs.declared.End.TheVariants.{Front}
use Rattle.engines.specs.Reads.{is_slot, values_along, count_read, buffer_after}
use Rattle.xor.specs.Engine.{xor}
use Rattle.xor.proofs.Slot.{in_pool_lem}
use Rattle.engines.proofs.Reading.{nothing_read}
use Rattle.walks.specs.Read.{Filled}

-- ---- the values along a chain, slot by slot

-- the values of at most so many slots of a list
abbrev along : (links values : List ℕ) → ℕ → ℕ → ℕ → List ℕ
along links values most before slot = values_along (xor.onward Front links) (length links) values most before slot

module _ (links values : List ℕ) (before slot : ℕ) where
  no_room : along links values 0 before slot ≡ []
  unfolding values_along
  no_room = refl

  -- what is no slot ends the chain
  no_slot : (most : ℕ) → (InPool links values slot → ⊥) → along links values most before slot ≡ []
  unfolding values_along is_slot in_pool
  no_slot zero n = refl
  no_slot (suc most) n = cond_ind (λ vs. vs ≡ []) (is_slot (length links) (length values) slot) (λ e. absurd (n ((in_pool_lem links values slot).0 e))) (λ e. refl)

  -- a slot gives its value, and leads on
  one_more_lem : (most : ℕ) → InPool links values slot → along links values (suc most) before slot ≡ cell values slot ∷ along links values most slot (bit_xor (cell links slot) before)
  unfolding values_along is_slot in_pool
  one_more_lem most p = rw ((in_pool_lem links values slot).1 p)

-- ---- a slot of a pool with so many links and values, where that is the lesser of both

abbrev pub Lesser : ℕ → List ℕ → List ℕ → Type 0
Lesser size links values = (size ≤ length links) × (size ≤ length values) × ((size ≡ length links) ⊎ (size ≡ length values))

pub lesser : (links values : List ℕ) {size : ℕ} → size ≡ min (length links) (length values) → Lesser size links values
lesser links values {size} e = go (dec_le (length links) (length values))
  where
    go : Dec (length links ≤ length values) → Lesser size links values
    go (yes p) = (omega arith, omega arith, inl (omega arith))
    go (no d) = (omega arith, omega arith, inr (omega arith))

module _ (links values : List ℕ) {size : ℕ} (lesser : Lesser size links values) (slot : ℕ) where
  pub small_slot : is_slot size size slot ≡ true → InPool links values slot
  unfolding is_slot
  small_slot e =
      let (n, b) = and_both (not (eqb slot null_slot)) (ltb slot size && ltb slot size) e in
      let h : slot < size = ltb-true slot size (and_both (ltb slot size) (ltb slot size) b).0 in
      let z : slot ≢ null_slot = eqb-false slot null_slot (not-true (eqb slot null_slot) n) in
      record { not_null = omega arith; has_link = omega (arith, lesser.0); has_value = omega (arith, lesser.1) }

  no_small_slot : is_slot size size slot ≡ false → InPool links values slot → ⊥
  unfolding is_slot
  no_small_slot e p = not_both (is_slot size size slot) (rw (ne_eqb slot null_slot (λ z. omega (arith, p.not_null)), lt-ltb slot size below)) e
    where
      both : (size ≡ length links) ⊎ (size ≡ length values) → slot < size
      both (inl q) = omega (arith, p.has_link)
      both (inr q) = omega (arith, p.has_value)

      below : slot < size
      below = both lesser.2

-- ---- the loop of `fill`

-- after n values, at `slot` with `before` before it
pub record FillingPart (links values : List ℕ) (start : ℕ) (buffer out : List ℕ) (before slot n : ℕ) : Type 0 where
  pub room : n ≤ length out
  pub size : length out ≡ length buffer
  pub rest : drop n out ≡ drop n buffer
  pub sofar : take n out ++ along links values (length buffer - n) before slot ≡ along links values (length buffer) null_slot start

pub fill_begins : (links values : List ℕ) (start : ℕ) (buffer : List ℕ) → FillingPart links values start buffer buffer null_slot start 0
fill_begins links values start buffer =
    record { room = omega arith; size = refl; rest = refl; sofar = ap (λ k. along links values k null_slot start) (sub-zero (length buffer)) }

module _ {links values : List ℕ} {start : ℕ} {buffer out : List ℕ} {before slot n : ℕ} (F : FillingPart links values start buffer out before slot n) where
  fill_ends : along links values (length buffer - n) before slot ≡ [] → Filled (along links values (length buffer) null_slot start) buffer n out
  fill_ends e =
      let vs : along links values (length buffer) null_slot start ≡ take n out = sym F.sofar ∙ ap (λ zs. take n out ++ zs) e ∙ append-nil (take n out) in
      let k : length (take n out) ≡ n = length-take-le n out F.room in
      rw vs (record { number = sym k; places = sym (take-append-drop n out) ∙ ap (λ zs. take n out ++ zs) (F.rest ∙ ap (λ m. drop m buffer) (sym k)) })

  -- there is no place left, or the number is no slot
  pub fill_full : length out ≤ n → Filled (along links values (length buffer) null_slot start) buffer n out
  fill_full h = let z : length buffer - n ≡ 0 = omega (arith, F.size) in fill_ends (ap (λ k. along links values k before slot) z ∙ no_room links values before slot)

  pub fill_stops : {size : ℕ} → Lesser size links values → is_slot size size slot ≡ false → Filled (along links values (length buffer) null_slot start) buffer n out
  fill_stops l e = fill_ends (no_slot links values before slot (length buffer - n) (no_small_slot links values l slot e))

  pub fill_goes_on : n < length out → InPool links values slot
      → FillingPart links values start buffer (set out n (cell values slot)) slot (bit_xor (cell links slot) before) (n + 1)
  fill_goes_on h e =
      record {
        room = simp length-set (omega arith);
        size = length-set out n (cell values slot) ∙ F.size;
        rest = drop-set-lt (n + 1) out n (cell values slot) (omega arith) ∙ sym (drop-drop 1 n out) ∙ ap (drop 1) F.rest ∙ drop-drop 1 n buffer;
        sofar =
            let k : length buffer - n ≡ suc (length buffer - (n + 1)) = omega (arith, F.size) in
            ap (λ zs. zs ++ more) (ap (λ m. take m (set out n (cell values slot))) (add-one n) ∙ take-suc-set out n (cell values slot) h)
            ∙ append_assoc (take n out) (cell values slot ∷ []) more
            ∙ ap (λ zs. take n out ++ zs) (sym (ap (λ m. along links values m before slot) k ∙ one_more_lem links values before slot (length buffer - (n + 1)) e))
            ∙ F.sofar;
      }
    where
      more : List ℕ
      more = along links values (length buffer - (n + 1)) slot (bit_xor (cell links slot) before)

-- with a count that is the same
pub fill_counted : {links values : List ℕ} {start : ℕ} {buffer out : List ℕ} {before slot n m : ℕ} → n ≡ m → FillingPart links values start buffer out before slot n → FillingPart links values start buffer out before slot m
fill_counted e F = rw (← e) F

-- ---- the whole buffer

module _ (links values : List ℕ) (start : ℕ) (buffer : List ℕ) (at : ℕ) where
  -- the part from `at` on was filled
  pub part_filled : (count : ℕ) (out : List ℕ) → at ≤ length buffer
      → Filled (along links values (length (take (length buffer - at) (drop at buffer))) null_slot start) (take (length buffer - at) (drop at buffer)) count out
      → (count ≡ count_read xor Front links values start buffer at) × (take at buffer ++ (out ++ drop (length buffer - at) (drop at buffer)) ≡ buffer_after xor Front links values start buffer at)
  part_filled count out h F₀ =
      let F : Filled vs (drop at buffer) count out = rw (take_all (length buffer - at) (drop at buffer) (le_of_eq (length-drop at buffer))) at F₀ in
      rw (le-leb _ _ h) (
        F.number,
        ap (λ zs. take at buffer ++ zs)
            (ap (λ zs. out ++ zs) (drop_of_length-le (drop at buffer) (le_of_eq (length-drop at buffer))) ∙ append-nil out ∙ F.places ∙ ap (λ zs. vs ++ zs) (drop-drop (length vs) at buffer))
            ∙ sym (append_assoc (take at buffer) vs (drop (at + length vs) buffer)),
      )
    where
      vs : List ℕ
      vs = along links values (length (drop at buffer)) null_slot start

  -- where `at` is past the end nothing is read
  pub none_read : length buffer < at → (0 ≡ count_read xor Front links values start buffer at) × (buffer ≡ buffer_after xor Front links values start buffer at)
  none_read h = let (n, e) = nothing_read xor Front links values start buffer at h in (sym n, sym e)
