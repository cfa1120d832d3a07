-- Emptying a list on any engine: what it leaves of cells that hold a list, that it equals popping the front until the list is empty, and what a clear leaves of a sound pool.
use mathlib.Core.Path.{◌≡◌, refl, sym, ap, subst, ◌∙◌}
use mathlib.Core.Logic.{◌↔◌, ◌≢◌, ◌⊎◌, inl, inr}
use mathlib.Core.Bool.{true, false}
use mathlib.Core.List.{List, [], ◌∷◌, ◌++◌, reverse, reverse-cons}
use Prim.Native.Nat.{ℕ, suc, ◌+◌, ◌-◌, ◌<◌}
use native.Mathlib.Nat.{not-suc-le-zero, eq-zero-or-pos}
use native.Mathlib.Decide.{ℕ_discrete}
use native.Mathlib.Omega.{arith}
use lib.ListN.{length, length-set, length-append, length-reverse}
use lib.Seq.{append_snoc, get_or-set_same, get_or-set_other}
use Rattle.books.specs.declared.Free.{Free}
use Rattle.books.specs.declared.Entry.{Entry}
use Rattle.books.specs.Book.{null_slot, wipe_word, entry_at, AnyBook}
use Rattle.chains.specs.Count.{hit, count}
use Rattle.chains.specs.Chain.{cell, last_or}
use Rattle.chains.proofs.Count.{count-append, count-reverse, hit_same, hit_other}
use Rattle.chains.proofs.Ends.{last_in}
use Rattle.shapes.specs.declared.End.TheVariants.{Front}
use Rattle.shapes.specs.Shape.{Shape, chain_at}
use Rattle.engines.specs.Engine.{Engine, Step}
use Rattle.engines.specs.Sound.{SoundBook, Held}
use Rattle.engines.specs.Laws.{Leaves, Lawful}
use Rattle.engines.specs.Counted.{counted_pop}
use Rattle.engines.specs.Reads.{clear_on}
use Rattle.engines.specs.Calls.{after_clear}
use Rattle.engines.specs.Done.{Emptied, Clears}
use Rattle.engines.specs.Done as D
use Rattle.engines.proofs.Shape.{no_null, part}
use Rattle.engines.proofs.Kept.{sound_put}
use Rattle.engines.proofs.Found.{listed, entry_is, stored-length, stored_free}
use Rattle.engines.proofs.Counted.{pop_counted, leaves_counted, pop_counted_lem}
use Rattle.engines.proofs.Steps.{end_part, book_held, entry_set, book_set, sound_set, others_kept}

-- every slot of the list `xs` is wiped and in the idle chain, the last of them first, and no other slot's cells changed
pub record Empties (E : Engine) (links : E.Links) (values : List ℕ) (list : Entry) (free : Free) (xs fs : List ℕ) (r : Step E.Links) : Type 0 where
  pub done : r.done ≡ true
  pub no_value : r.value ≡ 0
  pub held : Held E r.links r.values r.entry r.free [] (reverse xs ++ fs)
  pub share : r.entry.share ≡ list.share
  pub limit : r.entry.limit ≡ list.limit
  pub wiped : (y : ℕ) → 0 < count y xs → cell r.values y ≡ wipe_word
  pub cells : (y : ℕ) → count y xs ≡ 0 → cell r.values y ≡ cell values y
  pub same_size : length r.values ≡ length values
  pub size : E.size r.links ≡ E.size links
  pub frame : (y : ℕ) → count y xs ≡ 0 → E.Same links r.links y
  pub no_length : r.entry.length ≡ 0
  pub more : r.free.count ≡ free.count + length xs

-- a list with a slot has a last one
pub tail_not_null : {E : Engine} {links : E.Links} {values : List ℕ} {list : Entry} {free : Free} {x : ℕ} {xs fs : List ℕ} → Held E links values list free (x ∷ xs) fs → list.tail ≢ null_slot
tail_not_null {x = x} {xs = xs} {fs = fs} H e =
    let n = last_or x xs in
    omega (arith, H.entry.tail, (H.slots n (omega (arith, count-append n (x ∷ xs) fs, last_in x xs))).0)

-- a pop that is refused ends a clear, which then says that it is not done
pub clear_stopped : (E : Engine) (n : ℕ) (links : E.Links) (values : List ℕ) (list : Entry) (free : Free) → (counted_pop E Front links values list free).done ≡ false
    → (clear_on E (suc n) links values list free).done ≡ false
unfolding clear_on
clear_stopped E n links values list free d = rw d

module _ {E : Engine} (L : Lawful E) where
  -- so many pops as the list has slots empty it
  pub clear_held : {links : E.Links} {values : List ℕ} {list : Entry} {free : Free} (xs : List ℕ) {fs : List ℕ} → Held E links values list free xs fs
      → list.length ≡ length xs → Empties E links values list free xs fs (clear_on E (length xs) links values list free)
  unfolding clear_on
  clear_held {links} [] H c =
      record {
        done = refl;
        no_value = refl;
        held = H;
        share = refl;
        limit = refl;
        wiped = λ y h. absurd (not-suc-le-zero h);
        cells = λ y h. refl;
        same_size = refl;
        size = refl;
        frame = λ y h. L.same_self links y;
        no_length = c;
        more = omega arith;
      }
  clear_held {links} {values} {list} {free} (s ∷ xs) {fs} H c =
      let p = pop_counted L Front links values list free s xs fs H in
      let G = leaves_counted L Front links values list free s xs fs H in
      let I = clear_held {links = p.links} {values = p.values} {list = p.entry} {free = p.free} xs G.held (omega (arith, c)) in
      rw (pop_counted_lem L Front links values list free s xs fs H, G.done) (one_more_lem p (clear_on E (length xs) p.links p.values p.entry p.free) refl G I)
    where
      one_more_lem : (p r : Step E.Links) → p.free.count ≡ free.count + 1 → Leaves E Front s links values list xs fs p → Empties E p.links p.values p.entry p.free xs (s ∷ fs) r → Empties E links values list free (s ∷ xs) fs r
      one_more_lem p r fewer G I =
          record {
            done = I.done;
            no_value = I.no_value;
            held = rw (reverse-cons s xs, append_snoc (reverse xs) s fs) I.held;
            share = I.share ∙ G.share;
            limit = I.limit ∙ G.limit;
            wiped = λ y h. each_wiped y h (ℕ_discrete y s);
            cells = λ y z. I.cells y (omega arith) ∙ rw G.cells (get_or-set_other values s y wipe_word 0 (λ k. omega (arith, ap (λ n. hit n s) k, hit_same s)));
            same_size = I.same_size ∙ rw G.cells (length-set values s wipe_word);
            size = I.size ∙ G.size;
            frame = λ y z. L.same_twice links p.links r.links y (G.frame y (omega (arith, end_part Front xs y))) (I.frame y (omega arith));
            no_length = I.no_length;
            more = omega (arith, I.more);
          }
        where
          s_in : (0 < s) × (s < E.size links)
          s_in = H.slots s (omega (arith, count-append s (s ∷ xs) fs, hit_same s))

          each_wiped : (y : ℕ) → 0 < count y (s ∷ xs) → Dec (y ≡ s) → cell r.values y ≡ wipe_word
          each_wiped y h (yes e) =
              ap (cell r.values) e ∙ I.cells s (omega (arith, H.once s, count-append s (s ∷ xs) fs, hit_same s))
              ∙ rw G.cells (get_or-set_same values s wipe_word 0 (omega (arith, s_in.1, H.same)))
          each_wiped y h (no d) = I.wiped y (omega (arith, hit_other y s d))

  -- ---- until the list is empty

  pub clear_emptied : {links : E.Links} {values : List ℕ} {list : Entry} {free : Free} (xs : List ℕ) {fs : List ℕ} → Held E links values list free xs fs → list.length ≡ length xs
      → Emptied E links values list free (clear_on E (length xs) links values list free)
  unfolding clear_on
  clear_emptied [] H c = D.empty H.entry.tail
  clear_emptied {links} {values} {list} {free} (s ∷ xs) {fs} H c =
      let G = leaves_counted L Front links values list free s xs fs H in
      let e = pop_counted_lem L Front links values list free s xs fs H in
      let p = pop_counted L Front links values list free s xs fs H in
      let rest = clear_emptied {links = p.links} {values = p.values} {list = p.entry} {free = p.free} xs G.held (omega (arith, c)) in
      let here : (counted_pop E Front links values list free).done ≡ true = rw e G.done in
      let more = D.popped (tail_not_null H) here (subst (λ (o : Step E.Links). Emptied E o.links o.values o.entry o.free (clear_on E (length xs) o.links o.values o.entry o.free)) (sym e) rest) in
      rw here more

-- there is one result only
pub emptied_unique : {E : Engine} {links : E.Links} {values : List ℕ} {list : Entry} {free : Free} {r r' : Step E.Links} → Emptied E links values list free r → Emptied E links values list free r' → r ≡ r'
emptied_unique (D.empty e) (D.empty d) = refl
emptied_unique (D.empty e) (D.popped n p q) = absurd (n e)
emptied_unique (D.popped n p q) (D.empty e) = absurd (n e)
emptied_unique (D.popped n p q) (D.popped m k o) = emptied_unique q o

module _ {E : Engine} (L : Lawful E) where
  -- 01: "Clear: equals popping the front until the list is empty"
  pub clear_until_empty : {links : E.Links} {values : List ℕ} {list : Entry} {free : Free} (xs : List ℕ) {fs : List ℕ} → Held E links values list free xs fs → list.length ≡ length xs
      → (r : Step E.Links) → Emptied E links values list free r ↔ r ≡ clear_on E (length xs) links values list free
  clear_until_empty xs H c r = (λ e. emptied_unique e (clear_emptied L xs H c), λ e. rw e (clear_emptied L xs H c))

  -- ---- on a sound pool

  pub clears : {links : E.Links} {values : List ℕ} {b : AnyBook} {s : Shape} → SoundBook E links values b s → (l : ℕ) → l < b.lists
      → Clears E links values b l s (after_clear E links values b l (length (chain_at s l)))
  clears {links} {values} {b} {s} S l below =
      record {
        listed = below;
        number = refl;
        unplaced = refl;
        no_value = refl;
        sound = sound_set S l below r.entry C.size C.share C.limit
            (sound_put L S.pool r.links r.values l r.entry r.free [] (reverse xs ++ s.idle) (listed S l below) C.size
            (λ y. omega (arith, moved y))
            (λ y p q. C.frame y p)
            C.held
            (λ y p. wipe y p (eq-zero-or-pos (count y xs)))
            (C.cells 0 (omega (arith, part S.pool l 0, no_null S.pool)) ∙ S.pool.null_value)
            (C.share ∙ ap (λ (d : Entry). d.share) (sym (entry_is S l below)))
            (omega arith)
            (omega (arith, S.pool.spare, length-append (reverse xs) s.idle, length-reverse xs))
            C.no_length
            (omega (arith, C.more, stored_free S, length-append (reverse xs) s.idle, length-reverse xs)));
        emptied = subst (λ (o : Step E.Links). Emptied E links values e b.free o)
            (λ j. record { done = C.done j; value = C.no_value j; entry = sym (entry_set S l below r.entry) j; free = r.free; links = r.links; values = r.values })
            (clear_emptied L xs (book_held S l below) right);
        wiped = C.wiped;
        other_lists = others_kept S l below r.values (λ y p q. C.cells y p);
        cells = C.cells;
        same_size = C.same_size;
        frame = C.frame;
        book = book_set S l below r.entry r.free C.share C.limit;
        no_length = ap (λ (d : Entry). d.length) (entry_set S l below r.entry) ∙ C.no_length;
        all_more = omega (arith, C.more, stored-length S l below);
      }
    where
      xs : List ℕ
      xs = chain_at s l

      e : Entry
      e = entry_at b.entries l

      r : Step E.Links
      r = clear_on E (length xs) links values e b.free

      right : e.length ≡ length xs
      right = stored-length S l below

      C : Empties E links values e b.free xs s.idle r
      C = clear_held L xs (book_held S l below) right

      moved : (y : ℕ) → count y (reverse xs ++ s.idle) ≡ count y xs + count y s.idle
      moved y = omega (arith, count-append y (reverse xs) s.idle, count-reverse y xs)

      wipe : (y : ℕ) → 0 < count y (reverse xs ++ s.idle) → (count y xs ≡ 0) ⊎ (0 < count y xs) → cell r.values y ≡ wipe_word
      wipe y p (inl z) = C.cells y z ∙ S.pool.wiped y (omega (arith, moved y))
      wipe y p (inr h) = C.wiped y h
