-- On a sound pool a push with room is done and a pop of a list that holds something is done, and both leave what `Done` says.
use mathlib.Core.Path.{◌≡◌, refl, sym, ap, subst, ◌∙◌}
use mathlib.Core.Logic.{◌⊎◌, inl, inr}
use mathlib.Core.List.{List, [], ◌∷◌, ◌++◌, map-append}
use Prim.Native.Nat.{ℕ, suc, ◌+◌, ◌-◌, ◌≤◌, ◌<◌}
use native.Mathlib.Nat.{not-suc-le-zero}
use native.Mathlib.Decide.{ℕ_discrete}
use native.Mathlib.Omega.{arith}
use lib.ListN.{length, set, take, length-set}
use lib.Seq.{get_or-set_same, get_or-set_other, take-set-lt}
use Rattle.books.specs.declared.Free.{Free}
use Rattle.books.specs.declared.Entry.{Entry}
use Rattle.books.specs.Book.{wipe_word, zero_entry, entry_at, AnyBook}
use Rattle.books.proofs.Rules.{rules_set}
use Rattle.chains.specs.Count.{hit, count}
use Rattle.chains.specs.Chain.{cell, last_or}
use Rattle.chains.proofs.Count.{count-append, hit_same, hit_other, count_apart}
use Rattle.shapes.specs.declared.End.{End}
use Rattle.shapes.specs.declared.End.TheVariants.{Front, Back}
use Rattle.shapes.specs.Ends.{joined, contents, end_slot}
use Rattle.shapes.proofs.Ends.{contents_same, count_joined, length_joined}
use Rattle.shapes.specs.Shape.{Shape, chain_at, lacks, Room}
use Rattle.shapes.proofs.Shape.{lacks_part}
use Rattle.shapes.specs.Changes.{OtherEntries, OtherLists, with_list}
use Rattle.engines.specs.Engine.{Engine, Step}
use Rattle.engines.specs.Sound.{Sound, SoundBook, Held}
use Rattle.engines.specs.Laws.{Joins, Leaves, Lawful}
use Rattle.engines.specs.Counted.{with_counts, counted_push, counted_pop}
use Rattle.engines.specs.Calls.{stepped, after_push, after_pop}
use Rattle.engines.specs.Done.{Pushes, Pops}
use Rattle.engines.proofs.Shape.{at_most, two_parts}
use Rattle.engines.proofs.Found.{listed, entry_is, within, stored-length, stored_free, some_slots}
use Rattle.engines.proofs.Kept.{sound_held, sound_put}
use Rattle.engines.proofs.Counted.{joins_counted, push_counted_lem, leaves_counted, pop_counted_lem}

-- ---- sequences

-- the slot at an end is in the sequence
pub end_part : (end : End) (xs : List ℕ) (y : ℕ) → count y (end_slot end xs) ≤ count y xs
end_part end [] y = omega arith
end_part Front (x ∷ xs) y = omega arith
end_part Back (x ∷ xs) y = go x xs
  where
    go : (x : ℕ) (xs : List ℕ) → count y (last_or x xs ∷ []) ≤ count y (x ∷ xs)
    go x [] = omega arith
    go x (z ∷ zs) = omega (arith, go z zs)

-- the values of a sequence with one more at an end
pub contents_joined : (end : End) (values : List ℕ) (x : ℕ) (xs : List ℕ) → contents values (joined end x xs) ≡ joined end (cell values x) (contents values xs)
contents_joined Front values x xs = refl
contents_joined Back values x xs = map-append (cell values) xs (x ∷ [])

-- a cell that no slot of the sequence has
pub contents_set : (values : List ℕ) (x v : ℕ) (xs : List ℕ) → count x xs ≡ 0 → contents (set values x v) xs ≡ contents values xs
contents_set values x v xs n = contents_same values (set values x v) xs (λ y p. get_or-set_other values x y v 0 (count_apart xs p n))

-- a list with a slot has one at either end
pub end_of : (end : End) (xs : List ℕ) → 0 < length xs → (x : ℕ) × (ys : List ℕ) × (xs ≡ joined end x ys)
end_of end [] h = absurd (not-suc-le-zero h)
end_of Front (x ∷ xs) h = (x, xs, refl)
end_of Back (x ∷ xs) h = back x xs
  where
    back : (x : ℕ) (xs : List ℕ) → (y : ℕ) × (ys : List ℕ) × (x ∷ xs ≡ ys ++ y ∷ [])
    back x [] = (x, [], refl)
    back x (y ∷ xs) = let (z, zs, e) = back y xs in (z, x ∷ zs, λ i. x ∷ e i)

-- what stands at an end of a sequence, and the rest, are told from the sequence
pub joined_one : (end : End) (x y : ℕ) (xs ys : List ℕ) → joined end x xs ≡ joined end y ys → (x ≡ y) × (xs ≡ ys)
joined_one Front x y xs ys e = (cc, cc)
joined_one Back x y [] [] e = (cc, refl)
joined_one Back x y [] (z ∷ zs) e = absurd (omega (arith, ap length e, length_joined Back y zs))
joined_one Back x y (z ∷ zs) [] e = absurd (omega (arith, ap length e, length_joined Back x zs))
joined_one Back x y (z ∷ zs) (w ∷ ws) e =
    let (p, q) = joined_one Back x y zs ws (cc) in
    let h : z ≡ w = cc in
    (p, λ i. h i ∷ q i)

-- ---- from the entries of the L lists to the book

module _ {E : Engine} {links : E.Links} {values : List ℕ} {b : AnyBook} {s : Shape} (S : SoundBook E links values b s) (l : ℕ) (below : l < b.lists) where
  -- each list is held by the cells
  pub book_held : Held E links values (entry_at b.entries l) b.free (chain_at s l) s.idle
  book_held = rw (entry_is S l below) at (sound_held S.pool l (listed S l below))

  -- another entry put at list l stands there
  pub entry_set : (e : Entry) → entry_at (set b.entries l e) l ≡ e
  entry_set e = get_or-set_same b.entries l e zero_entry (omega (arith, S.rules.there))

  -- in the book no other entry changes
  pub book_set : (e : Entry) (free : Free) → e.share ≡ (entry_at b.entries l).share → e.limit ≡ (entry_at b.entries l).limit → OtherEntries b l (with_list b l e free)
  book_set e free sh li =
      record {
        same_places = refl;
        same_lists = refl;
        same_entries = length-set b.entries l e;
        others = λ k d. get_or-set_other b.entries l k e zero_entry d;
        share = rw (entry_set e) sh;
        limit = rw (entry_set e) li;
      }

  -- a pool that is sound over the first L entries is sound with the whole book
  pub sound_set : {links' : E.Links} {values' : List ℕ} (e : Entry) {free : Free} {t : Shape} → E.size links' ≡ E.size links → e.share ≡ (entry_at b.entries l).share → e.limit ≡ (entry_at b.entries l).limit
      → Sound E links' values' (set (take b.lists b.entries) l e) free t → SoundBook E links' values' (with_list b l e free) t
  sound_set e n sh li P =
      record { rules = rw n (rules_set S.rules l e below sh li); pool = rw (take-set-lt b.lists b.entries l e below) P }

  -- where only values of list l and of free slots change, every other list holds what it held
  pub others_kept : (values' : List ℕ) → ((y : ℕ) → count y (chain_at s l) ≡ 0 → count y s.idle ≡ 0 → cell values' y ≡ cell values y) → OtherLists values s l values'
  others_kept values' same k d =
      contents_same values values' (chain_at s k) (λ y p. let o = two_parts S.pool l k y d in same y (omega (arith, at_most S.pool y)) (omega (arith, at_most S.pool y)))

  -- where there is room there is a free slot
  pub room_slot : Room (take b.lists b.entries) s l → 0 < length s.idle
  room_slot room = go room.enough
    where
      go : (length (chain_at s l) < (entry_at (take b.lists b.entries) l).share) ⊎ (lacks (take b.lists b.entries) s.chains < length s.idle) → 0 < length s.idle
      go (inl r) = omega (arith, S.pool.spare, lacks_part (take b.lists b.entries) s.chains l S.pool.lists (listed S l below))
      go (inr r) = omega arith

-- ---- the steps

module _ {E : Engine} (L : Lawful E) {links : E.Links} {values : List ℕ} {b : AnyBook} {s : Shape} (S : SoundBook E links values b s) (l : ℕ) (below : l < b.lists) where
  abbrev es : List Entry
  es = take b.lists b.entries

  abbrev e : Entry
  e = entry_at b.entries l

  pub pushes : (end : End) (value : ℕ) → Room es s l → Pushes E links values b end l value s (after_push E links values b l end value)
  pushes end value room = go s.idle refl (room_slot S l below room)
    where
      r : Step E.Links
      r = with_counts (e.length + 1) (b.free.count - 1) (E.push end links values e b.free value)

      xs : List ℕ
      xs = chain_at s l

      go : (fs : List ℕ) → s.idle ≡ fs → 0 < length fs → Pushes E links values b end l value s (after_push E links values b l end value)
      go [] i h = absurd (not-suc-le-zero h)
      go (f ∷ fs) i h =
          subst (λ (o : Step E.Links). Pushes E links values b end l value s (stepped E links values b l 0 o)) (sym made)
          (record {
            listed = below;
            number = refl;
            unplaced = refl;
            no_value = refl;
            slot = f;
            rest = fs;
            first = i;
            sound = sound_set S l below r.entry J.size J.share J.limit
                (sound_put L S.pool r.links r.values l r.entry r.free (joined end f xs) fs (listed S l below) J.size
                (λ y. omega (arith, count_joined end f xs y, ap (count y) i))
                (λ y p q. J.frame y (omega (arith, end_part end xs y, ap (count y) i)))
                J.held
                (λ y p. rw J.cells (get_or-set_other values f y value 0 (count_apart fs {y = y} {z = f} p once) ∙ S.pool.wiped y (rw i (omega arith))))
                (rw J.cells (get_or-set_other values f 0 value 0 (λ k. omega (arith, f_in.0)) ∙ S.pool.null_value))
                (J.share ∙ ap (λ (d : Entry). d.share) (sym (entry_is S l below)))
                (omega (arith, length_joined end f xs, J.limit, room.under, ap (λ (d : Entry). d.limit) (entry_is S l below)))
                (spare room.enough)
                (omega (arith, stored-length S l below, length_joined end f xs))
                (omega (arith, stored_free S, ap length i)));
            holds = rw J.cells (contents_joined end (set values f value) f xs ∙ (λ j. joined end (get_or-set_same values f value 0 (omega (arith, f_in.1, H.same)) j) (contents_set values f value xs apart j)));
            other_lists = rw J.cells (others_kept S l below (set values f value)
                (λ y p q. get_or-set_other values f y value 0 (λ k. omega (arith, ap (count y) i, ap (λ z. hit z f) k, hit_same f))));
            cells = J.cells;
            frame = J.frame;
            book = book_set S l below r.entry r.free J.share J.limit;
            longer = ap (λ (d : Entry). d.length) (entry_set S l below r.entry);
            fewer = omega (arith, stored_free S, ap length i);
          })
        where
          H : Held E links values e b.free xs (f ∷ fs)
          H = subst (λ (zs : List ℕ). Held E links values e b.free xs zs) i (book_held S l below)

          J : Joins E end f links values e xs fs r value
          J = joins_counted L end links values e b.free f xs fs value H

          made : counted_push E end links values e b.free value ≡ r
          made = push_counted_lem L end links values e b.free f xs fs value H

          f_in : (0 < f) × (f < E.size links)
          f_in = H.slots f (omega (arith, count-append f xs (f ∷ fs), hit_same f))

          once : count f fs ≡ 0
          once = omega (arith, H.once f, count-append f xs (f ∷ fs), hit_same f)

          apart : count f xs ≡ 0
          apart = omega (arith, H.once f, count-append f xs (f ∷ fs), hit_same f)

          spare : (length xs < (entry_at es l).share) ⊎ (lacks es s.chains < length s.idle) → lacks es s.chains + ((entry_at es l).share - length (joined end f xs)) ≤ length fs + ((entry_at es l).share - length xs)
          spare (inl k) = omega (arith, S.pool.spare, ap length i, ap (λ n. (entry_at es l).share - n) (length_joined end f xs))
          spare (inr k) = omega (arith, ap length i, ap (λ n. (entry_at es l).share - n) (length_joined end f xs))

  pub pops : (end : End) → 0 < length (chain_at s l) → Pops E links values b end l s (after_pop E links values b l end)
  pops end h = let (x, xs, at) = end_of end (chain_at s l) h in go x xs at
    where
      r : Step E.Links
      r = with_counts (e.length - 1) (b.free.count + 1) (E.pop end links values e b.free)

      go : (x : ℕ) (xs : List ℕ) → chain_at s l ≡ joined end x xs → Pops E links values b end l s (after_pop E links values b l end)
      go x xs at =
          subst (λ (o : Step E.Links). Pops E links values b end l s (stepped E links values b l o.value o)) (sym made)
          (record {
            listed = below;
            number = refl;
            unplaced = refl;
            slot = x;
            rest = xs;
            last = at;
            sound = sound_set S l below r.entry G.size G.share G.limit
                (sound_put L S.pool r.links r.values l r.entry r.free xs (x ∷ s.idle) (listed S l below) G.size
                (λ y. omega (arith, moved y))
                (λ y p q. G.frame y (omega (arith, end_part end xs y, moved y)))
                G.held
                (λ y p. rw G.cells (wipe y p (ℕ_discrete y x)))
                (rw G.cells (get_or-set_other values x 0 wipe_word 0 (λ k. omega (arith, x_in.0)) ∙ S.pool.null_value))
                (G.share ∙ ap (λ (d : Entry). d.share) (sym (entry_is S l below)))
                (omega (arith, within S l below, G.limit, one_longer))
                (omega (arith, S.pool.spare, one_longer, ap (λ n. (entry_at es l).share - n) one_longer))
                (omega (arith, stored-length S l below, one_longer))
                (omega (arith, stored_free S)));
            holds = ap (contents values) at ∙ contents_joined end values x xs ∙ (λ j. joined end (sym G.value j) (kept j));
            wiped = rw G.cells (get_or-set_same values x wipe_word 0 (omega (arith, x_in.1, H.same)));
            other_lists = rw G.cells (others_kept S l below (set values x wipe_word)
                (λ y p q. get_or-set_other values x y wipe_word 0 (λ k. omega (arith, moved y, ap (λ z. hit z x) k, hit_same x))));
            cells = G.cells;
            frame = G.frame;
            book = book_set S l below r.entry r.free G.share G.limit;
            shorter = omega (arith, ap (λ (d : Entry). d.length) (entry_set S l below r.entry), stored-length S l below, one_longer);
            more = refl;
          })
        where
          H : Held E links values e b.free (joined end x xs) s.idle
          H = subst (λ (zs : List ℕ). Held E links values e b.free zs s.idle) at (book_held S l below)

          G : Leaves E end x links values e xs s.idle r
          G = leaves_counted L end links values e b.free x xs s.idle H

          moved : (y : ℕ) → count y (chain_at s l) ≡ hit y x + count y xs
          moved y = ap (count y) at ∙ count_joined end x xs y

          one_longer : length (chain_at s l) ≡ suc (length xs)
          one_longer = ap length at ∙ length_joined end x xs

          made : counted_pop E end links values e b.free ≡ r
          made = pop_counted_lem L end links values e b.free x xs s.idle H

          x_in : (0 < x) × (x < E.size links)
          x_in = H.slots x (omega (arith, count-append x (joined end x xs) s.idle, count_joined end x xs x, hit_same x))

          apart : count x xs ≡ 0
          apart = omega (arith, H.once x, count-append x (joined end x xs) s.idle, count_joined end x xs x, hit_same x)

          kept : contents values xs ≡ contents r.values xs
          kept = rw G.cells (sym (contents_set values x wipe_word xs apart))

          wipe : (y : ℕ) → 0 < count y (x ∷ s.idle) → Dec (y ≡ x) → cell (set values x wipe_word) y ≡ wipe_word
          wipe y p (yes d) = rw d (get_or-set_same values x wipe_word 0 (omega (arith, x_in.1, H.same)))
          wipe y p (no d) = get_or-set_other values x y wipe_word 0 d ∙ S.pool.wiped y (omega (arith, hit_other y x d))
