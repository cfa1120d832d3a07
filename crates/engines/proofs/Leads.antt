-- Where a walk stands, over any engine: the slots that it passed lead from the head to the slot after them, which is 0 where it came to its end, and else a bad one.
use mathlib.Core.Path.{◌≡◌, refl, ap, ◌∙◌}
use mathlib.Core.Logic.{◌≢◌, ◌⊎◌, inl, inr}
use mathlib.Core.Bool.{Bool, true, false, not, ◌&&◌}
use mathlib.Core.List.{List, [], ◌∷◌, ◌++◌}
use Prim.Native.Nat.{ℕ, zero, suc, ◌+◌, ◌≤◌, ◌<◌}
use native.Mathlib.Nat.{not-suc-le-zero}
use native.Mathlib.Decide.{dec_lt}
use native.Mathlib.Omega.{arith}
use lib.Dec.{eqb, ltb}
use borrow.Author.Tests.{eqb-true, eqb-false, ltb-true, ltb-false, not-true}
use Rattle.books.specs.Book.{null_slot}
use Rattle.books.proofs.Tests.{and_both, not_both, cond_ind}
use Rattle.chains.specs.Count.{count}
use Rattle.chains.specs.Chain.{first_or, last_or}
use Rattle.chains.proofs.Count.{count-append}
use Rattle.shapes.specs.Met.{is_met_of, seen, mark_of, mark_all, unmet}
use Rattle.shapes.specs.Walk.{Path, passing, walk_on, walkable, walk_from, Tied, Passes}
use Rattle.shapes.proofs.Seen.{seen_le, unmet_mark}
use Rattle.engines.specs.FirstFault.{Distinct}
use Rattle.shapes.proofs.Walks.{Fresh, fresh_passes, to_fresh, pass_on, walk_fresh, walk_finds}

-- ---- slots that lead on, and what may not come after them

-- from `slot`, with p before it, the slots `xs` stand at the next positions, each links on to the one after it and fits the one before it; `next` comes after them
abbrev pub Leads : (onward : ℕ → ℕ → ℕ) (fits : ℕ → ℕ → Bool) → ℕ → ℕ → List ℕ → ℕ → Type 0
Leads onward fits p slot [] next = slot ≡ next
Leads onward fits p slot (x ∷ xs) next = (slot ≡ x) × (fits p x ≡ true) × Leads onward fits x (onward p x) xs next

-- what may not come after p where `used` were met
pub record BadSlot (fits : ℕ → ℕ → Bool) (size : ℕ) (used : List ℕ) (p next : ℕ) : Type 0 where
  -- 0 is no slot: the chain ends
  pub some : next ≢ null_slot
  pub bad : (size ≤ next) ⊎ (0 < count next used) ⊎ (fits p next ≡ false)

-- ---- the record of slots met, and which slots it knows of

-- the slots of `taken` were met, and no other slot of the pool
abbrev pub Knows : ℕ → List ℕ → List ℕ → Type 0
Knows size met taken = (y : ℕ) → y < size → seen met y ≡ count y taken

module _ (size : ℕ) (met taken : List ℕ) (known : Knows size met taken) where
  pub passes_known : (xs : List ℕ) → Passes size met xs → Knows size (mark_all met xs) (taken ++ xs)
  passes_known xs p y h = omega (arith, p.marks y, known y h, count-append y taken xs)

  -- what is distinct from them may be passed
  pub distinct_room : (xs : List ℕ) → Distinct size (taken ++ xs) → (y : ℕ) → seen met y + count y xs ≤ 1
  distinct_room xs d y = go (dec_lt 0 (count y xs)) (count-append y taken xs)
    where
      go : Dec (0 < count y xs) → count y (taken ++ xs) ≡ count y taken + count y xs → seen met y + count y xs ≤ 1
      go (yes h) e = omega (arith, known y (d.inside y (omega arith)).1, d.once y)
      go (no h) e = omega (arith, seen_le met y)

  pub distinct_inside : (xs : List ℕ) → Distinct size (taken ++ xs) → (y : ℕ) → 0 < count y xs → (0 < y) × (y < size)
  distinct_inside xs d y h = d.inside y (omega (arith, count-append y taken xs))

  -- and what a walk passes is distinct from them
  pub passes_distinct : (xs : List ℕ) → Distinct size taken → Passes size met xs → Distinct size (taken ++ xs)
  passes_distinct xs d p = record { inside = λ y h. inside y h (dec_lt 0 (count y xs)) (count-append y taken xs); once = λ y. once y (dec_lt 0 (count y xs)) (count-append y taken xs) }
    where
      inside : (y : ℕ) → 0 < count y (taken ++ xs) → Dec (0 < count y xs) → count y (taken ++ xs) ≡ count y taken + count y xs → (0 < y) × (y < size)
      inside y h (yes k) e = p.inside y k
      inside y h (no k) e = d.inside y (omega arith)

      once : (y : ℕ) → Dec (0 < count y xs) → count y (taken ++ xs) ≡ count y taken + count y xs → count y (taken ++ xs) ≤ 1
      once y (yes k) e = omega (arith, p.once y, known y (p.inside y k).1)
      once y (no k) e = omega (arith, d.once y)

-- what stands in no more places is distinct too
pub distinct_part : {size : ℕ} (xs ys : List ℕ) → ((y : ℕ) → count y xs ≤ count y ys) → Distinct size ys → Distinct size xs
distinct_part xs ys h d = record { inside = λ y p. d.inside y (omega (arith, h y)); once = λ y. omega (arith, h y, d.once y) }

-- ---- a walk

module _ (onward : ℕ → ℕ → ℕ) (fits : ℕ → ℕ → Bool) where
  -- slots that lead to 0 are a tied sequence
  pub leads_tied : (p slot : ℕ) (xs : List ℕ) → Leads onward fits p slot xs 0 → (slot ≡ first_or 0 xs) × Tied onward fits p xs
  leads_tied p slot [] l = (l, tt)
  leads_tied p slot (x ∷ xs) l = let (e, t) = leads_tied x (onward p x) xs l.2 in (l.0, (l.1, e, t))

  module _ (size : ℕ) where
    -- no slot to pass after p, where `met` are the slots met
    record Barred (met : List ℕ) (p next : ℕ) : Type 0 where
      some : next ≢ null_slot
      bad : (size ≤ next) ⊎ (is_met_of met next ≡ true) ⊎ (fits p next ≡ false)

    abbrev Stands : List ℕ → ℕ → ℕ → Path → Type 0
    Stands met p slot path =
        (next : ℕ) × Leads onward fits p slot path.slots next
        × (((path.ok ≡ true) × (next ≡ null_slot)) ⊎ ((path.ok ≡ false) × Barred (mark_all met path.slots) (last_or p path.slots) next))

    outside : (met : List ℕ) (slot : ℕ) → ltb slot size && not (is_met_of met slot) ≡ false → (size ≤ slot) ⊎ (is_met_of met slot ≡ true)
    outside met slot = go (ltb slot size) (is_met_of met slot) refl
      where
        go : (a m : Bool) → ltb slot size ≡ a → a && not m ≡ false → (size ≤ slot) ⊎ (m ≡ true)
        go false m e h = inl (ltb-false slot size e)
        go true true e h = inr refl
        go true false e h = not_both true refl h

    on_stands : (steps : ℕ) (met : List ℕ) (p slot : ℕ) → unmet met < steps → Stands met p slot (walk_on onward fits size steps met p slot)
    unfolding walk_on
    on_stands zero met p slot u = absurd (not-suc-le-zero u)
    on_stands (suc steps) met p slot u =
        cond_ind (Stands met p slot) (eqb slot null_slot) (λ e. (slot, refl, inl (refl, eqb-true slot null_slot e)))
        (λ e. cond_ind (Stands met p slot) (ltb slot size && not (is_met_of met slot))
        (λ h. cond_ind (Stands met p slot) (fits p slot)
        (λ g. let (b, m) = and_both (ltb slot size) (not (is_met_of met slot)) h in
        let (next, l, s) = on_stands steps (mark_of met slot) slot (onward p slot) (omega (arith, unmet_mark met slot (not-true (is_met_of met slot) m))) in
        (next, (refl, g, l), s))
        (λ g. (slot, refl, inr (refl, record { some = eqb-false slot null_slot e; bad = inr (inr g) }))))
        (λ h. (slot, refl, inr (refl, record { some = eqb-false slot null_slot e; bad = widen (outside met slot h) }))))
      where
        widen : (size ≤ slot) ⊎ (is_met_of met slot ≡ true) → (size ≤ slot) ⊎ (is_met_of met slot ≡ true) ⊎ (fits p slot ≡ false)
        widen (inl h) = inl h
        widen (inr h) = inr (inl h)

    bar : (steps : ℕ) (met : List ℕ) (p slot : ℕ) → Barred met p slot → walk_on onward fits size (suc steps) met p slot ≡ record { ok = false; slots = [] }
    unfolding walk_on
    bar steps met p slot b =
        let P : Path → Type 0 = λ q. q ≡ record { ok = false; slots = [] } in
        cond_ind P (eqb slot null_slot) (λ e. absurd (b.some (eqb-true slot null_slot e)))
        (λ e. cond_ind P (ltb slot size && not (is_met_of met slot))
        (λ h. cond_ind P (fits p slot) (λ g. absurd (never h g b.bad)) (λ g. refl))
        (λ h. refl))
      where
        never : ltb slot size && not (is_met_of met slot) ≡ true → fits p slot ≡ true → (size ≤ slot) ⊎ (is_met_of met slot ≡ true) ⊎ (fits p slot ≡ false) → ⊥
        never h g (inl k) = let (b, m) = and_both (ltb slot size) (not (is_met_of met slot)) h in omega (arith, ltb-true slot size b)
        never h g (inr (inl k)) = let (b, m) = and_both (ltb slot size) (not (is_met_of met slot)) h in not_both _ k (not-true (is_met_of met slot) m)
        never h g (inr (inr k)) = not_both _ g k

    on_stops : (steps : ℕ) (met : List ℕ) (p slot : ℕ) (xs : List ℕ) (next : ℕ) → Leads onward fits p slot xs next → Fresh size met xs → unmet met < steps
        → Barred (mark_all met xs) (last_or p xs) next → walk_on onward fits size steps met p slot ≡ record { ok = false; slots = xs }
    on_stops zero met p slot xs next l f u b = absurd (not-suc-le-zero u)
    on_stops (suc steps) met p slot [] next l f u b = ap (walk_on onward fits size (suc steps) met p) l ∙ bar steps met p next b
    on_stops (suc steps) met p slot (x ∷ xs) next l f u b =
        ap (walk_on onward fits size (suc steps) met p) l.0
        ∙ pass_on onward fits size steps met p x (λ e. omega (arith, f.0)) f.1 f.2 l.1
        ∙ ap (passing x) (on_stops steps (mark_of met x) x (onward p x) xs next l.2 f.3 (omega (arith, unmet_mark met x f.2)) b)

    -- ---- over a record that knows of `taken`

    module _ (met taken : List ℕ) (known : Knows size met taken) where
      -- a walk that is not at its end stands before a bad slot
      pub walk_stands : walkable size met ≡ true → (head : ℕ)
          → (next : ℕ) × Leads onward fits 0 head (walk_from onward fits size met head).slots next
          × ((((walk_from onward fits size met head).ok ≡ true) × (next ≡ null_slot))
          ⊎ (((walk_from onward fits size met head).ok ≡ false)
          × BadSlot fits size (taken ++ (walk_from onward fits size met head).slots) (last_or null_slot (walk_from onward fits size met head).slots) next))
      walk_stands w head = rw w (tell (on_stands (suc (unmet met)) met null_slot head (omega arith)) (rw w at (walk_fresh onward fits size met head)))
        where
          path : Path
          path = walk_on onward fits size (suc (unmet met)) met null_slot head

          bad_slot : (next : ℕ) → Passes size met path.slots → Barred (mark_all met path.slots) (last_or null_slot path.slots) next
              → Dec (next < size) → BadSlot fits size (taken ++ path.slots) (last_or null_slot path.slots) next
          bad_slot next p b (no k) = record { some = b.some; bad = inl (omega arith) }
          bad_slot next p b (yes k) = record { some = b.some; bad = go b.bad }
            where
              go : (size ≤ next) ⊎ (is_met_of (mark_all met path.slots) next ≡ true) ⊎ (fits (last_or null_slot path.slots) next ≡ false)
                  → (size ≤ next) ⊎ (0 < count next (taken ++ path.slots)) ⊎ (fits (last_or null_slot path.slots) next ≡ false)
              go (inl h) = inl h
              go (inr (inl h)) =
                  let s : seen (mark_all met path.slots) next ≡ 1 = rw h in
                  inr (inl (omega (arith, p.marks next, known next k, count-append next taken path.slots)))
              go (inr (inr h)) = inr (inr h)

          tell : Stands met null_slot head path → Passes size met path.slots
              → (next : ℕ) × Leads onward fits 0 head path.slots next
              × (((path.ok ≡ true) × (next ≡ null_slot)) ⊎ ((path.ok ≡ false) × BadSlot fits size (taken ++ path.slots) (last_or null_slot path.slots) next))
          tell (next, l, inl e) p = (next, l, inl e)
          tell (next, l, inr (o, b)) p = (next, l, inr (o, bad_slot next p b (dec_lt next size)))

      module _ (walks : walkable size met ≡ true) (head : ℕ) (xs : List ℕ) (d : Distinct size (taken ++ xs)) where
        -- the slots before a bad one are passed, and the walk stops there
        pub walk_stops : (next : ℕ) → Leads onward fits 0 head xs next → BadSlot fits size (taken ++ xs) (last_or null_slot xs) next
            → walk_from onward fits size met head ≡ record { ok = false; slots = xs }
        walk_stops next l b = rw walks (on_stops (suc (unmet met)) met null_slot head xs next l fresh (omega arith) (record { some = b.some; bad = go b.bad }))
          where
            fresh : Fresh size met xs
            fresh = to_fresh size met xs (distinct_inside size met taken known xs d) (distinct_room size met taken known xs d)

            met_is : (m : Bool) → is_met_of (mark_all met xs) next ≡ m → 0 < seen (mark_all met xs) next → m ≡ true
            met_is true e h = refl
            met_is false e h = let z : seen (mark_all met xs) next ≡ 0 = rw e in absurd (omega arith)

            used : Dec (next < size) → 0 < count next (taken ++ xs) → (size ≤ next) ⊎ (is_met_of (mark_all met xs) next ≡ true) ⊎ (fits (last_or null_slot xs) next ≡ false)
            used (no k) h = inl (omega arith)
            used (yes k) h =
                inr (inl (met_is _ refl (omega (arith, (fresh_passes size met xs fresh).marks next, known next k, count-append next taken xs))))

            go : (size ≤ next) ⊎ (0 < count next (taken ++ xs)) ⊎ (fits (last_or null_slot xs) next ≡ false)
                → (size ≤ next) ⊎ (is_met_of (mark_all met xs) next ≡ true) ⊎ (fits (last_or null_slot xs) next ≡ false)
            go (inl h) = inl h
            go (inr (inl h)) = used (dec_lt next size) h
            go (inr (inr h)) = inr (inr h)

        -- slots that lead to 0 are walked to their end
        pub walk_arrives : Leads onward fits 0 head xs 0 → walk_from onward fits size met head ≡ record { ok = true; slots = xs }
        walk_arrives l =
            let (e, t) = leads_tied 0 head xs l in
            ap (walk_from onward fits size met) e ∙ walk_finds onward fits size met xs walks t (distinct_inside size met taken known xs d) (distinct_room size met taken known xs d)
