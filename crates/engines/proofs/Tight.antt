-- The records of `Done` leave no choice: two results that both meet a record are the same. A refusal's number is what `Given` says, and its place what `Breaks` says.
use mathlib.Core.Path.{◌≡◌, sym, ap, subst, ◌∙◌}
use mathlib.Core.Logic.{◌⊎◌, inl, inr}
use mathlib.Core.List.{List, ◌∷◌}
use Prim.Native.Nat.{ℕ, ◌<◌}
use native.Mathlib.Omega.{arith}
use native.Mathlib.Nat.{eq-zero-or-pos}
use native.Mathlib.Decide.{dec_lt}
use lib.ListN.{length, set}
use lib.Seq.{ext_get_or}
use Rattle.books.specs.Place.{refusal_of}
use Rattle.books.specs.Book.{wipe_word, zero_entry, entry_at, AnyBook}
use Rattle.chains.specs.Chain.{cell}
use Rattle.shapes.specs.Setup.{fresh_shape}
use Rattle.shapes.specs.declared.End.{End}
use Rattle.shapes.specs.Ends.{joined, contents}
use Rattle.shapes.specs.Shape.{Shape, chain_at, put}
use Rattle.shapes.specs.Tests.{ReadLeft, read_left, read_of}
use Rattle.engines.specs.Engine.{Engine}
use Rattle.engines.specs.Sound.{SoundBook}
use Rattle.engines.specs.Laws.{Lawful}
use Rattle.engines.specs.Calls.{Called}
use Rattle.engines.specs.Done.{SetupRefused, SetupKeeps, Refused, Pushes, Pops, Clears, Reads, ReadRefused}
use Rattle.engines.specs.Moves.{left}
use Rattle.engines.proofs.Steps.{joined_one}
use Rattle.engines.proofs.Clearing.{emptied_unique}
use Rattle.engines.proofs.Book.{entry_one, book_one, others_between, state_one}
use Rattle.engines.proofs.Fresh.{fresh_counted}

-- the number, its place, the value and the state are all that a call leaves
same_called : {E : Engine} {r r' : Called E} → r.number ≡ r'.number → r.place ≡ r'.place → r.value ≡ r'.value → left r ≡ left r' → r ≡ r'
same_called {E} n p v st = λ i. record { number = n i; place = p i; value = v i; book = (st i).book; links = (st i).links; values = (st i).values }

pub setup_refused_one : {E : Engine} {places : ℕ} {links : E.Links} {values : List ℕ} {r r' : Called E} → SetupRefused E places links values r → SetupRefused E places links values r'
    → r.number ≡ r'.number → r ≡ r'
setup_refused_one P Q n =
    same_called n (P.unplaced ∙ sym Q.unplaced) (P.no_value ∙ sym Q.no_value)
    (λ i. record { links = (P.same_links ∙ sym Q.same_links) i; values = (P.same_values ∙ sym Q.same_values) i; book = (P.zeroed ∙ sym Q.zeroed) i })

pub setup_keeps_one : {E : Engine} (L : Lawful E) {places : ℕ} {links : E.Links} {lists : ℕ} {shares limits : List ℕ} {r r' : Called E}
    → SetupKeeps E places links lists shares limits r → SetupKeeps E places links lists shares limits r' → r ≡ r'
setup_keeps_one {E} L {places} {links} {lists} {shares} {limits} {r} {r'} P Q =
    λ i. record { number = (P.number ∙ sym Q.number) i; place = (P.unplaced ∙ sym Q.unplaced) i; value = (P.no_value ∙ sym Q.no_value) i; book = book i; links = cells i; values = values i }
  where
    size : E.size r.links ≡ E.size r'.links
    size = P.same_size ∙ sym Q.same_size

    cells : r.links ≡ r'.links
    cells = L.links_one r.links r'.links r.values r'.values _ _ _ _ (fresh_shape (E.size links) lists) size P.sound.pool Q.sound.pool

    -- slot 0 has value 0, and every other slot is free, so it is wiped
    wiped : {t : Called E} → SetupKeeps E places links lists shares limits t → (y : ℕ) → y < E.size links → cell t.values y ≡ wipe_word
    wiped {t} K y h = at (eq-zero-or-pos y)
      where
        at : (y ≡ 0) ⊎ (0 < y) → cell t.values y ≡ wipe_word
        at (inl z) = rw z K.sound.pool.null_value
        at (inr p) = K.sound.pool.wiped y (omega (arith, fresh_counted (E.size links) lists y, K.sound.pool.once y p (omega (arith, K.same_size))))

    values : r.values ≡ r'.values
    values =
        let long : length r.values ≡ length r'.values = sym P.sound.pool.fit.same ∙ size ∙ Q.sound.pool.fit.same in
        ext_get_or 0 r.values r'.values long
        (λ y h. let below : y < E.size links = omega (arith, P.sound.pool.fit.same, P.same_size) in wiped P y below ∙ sym (wiped Q y below))

    entries : r.book.entries ≡ r'.book.entries
    entries = ext_get_or zero_entry r.book.entries r'.book.entries (P.entries ∙ sym Q.entries) (λ l h. at l (omega (arith, P.entries)) (dec_lt l lists))
      where
        at : (l : ℕ) → l < places → Dec (l < lists) → entry_at r.book.entries l ≡ entry_at r'.book.entries l
        at l h (yes d) =
            entry_one l (omega (arith, Q.as_many)) Q.sound P.sound (omega (arith, P.as_many)) (P.share l h ∙ sym (Q.share l h)) (P.limit l h ∙ sym (Q.limit l h))
        at l h (no d) = P.sound.rules.unused l (omega (arith, P.as_many)) ∙ sym (Q.sound.rules.unused l (omega (arith, Q.as_many)))

    free_count_lem : r.book.free.count ≡ r'.book.free.count
    free_count_lem = omega (arith, P.free_count, Q.free_count)

    book : r.book ≡ r'.book
    book = λ i. record { places = (P.same_places ∙ sym Q.same_places) i; lists = (P.as_many ∙ sym Q.as_many) i; entries = entries i; free = record { head = (P.free_head ∙ sym Q.free_head) i; count = free_count_lem i } }

module _ {E : Engine} {links : E.Links} {values : List ℕ} {b : AnyBook} {r r' : Called E} where
  pub refused_one : Refused E links values b r → Refused E links values b r' → r.number ≡ r'.number → r.place ≡ r'.place → r ≡ r'
  refused_one P Q n p =
      same_called n p (P.no_value ∙ sym Q.no_value)
      (λ i. record { links = (P.same_links ∙ sym Q.same_links) i; values = (P.same_values ∙ sym Q.same_values) i; book = (P.same_book ∙ sym Q.same_book) i })

  module _ {l : ℕ} {s : Shape} where
    pub clears_one : Clears E links values b l s r → Clears E links values b l s r' → r ≡ r'
    clears_one P Q =
        let same = emptied_unique P.emptied Q.emptied in
        same_called (P.number ∙ sym Q.number) (P.unplaced ∙ sym Q.unplaced) (P.no_value ∙ sym Q.no_value)
        (λ i. record {
          links = (same i).links;
          values = (same i).values;
          book = book_one l (omega (arith, Q.listed, Q.book.same_lists)) Q.sound P.sound (others_between Q.book P.book) i;
        })

    module _ (L : Lawful E) {end : End} where
      pub pushes_one : {value : ℕ} → Pushes E links values b end l value s r → Pushes E links values b end l value s r' → r ≡ r'
      pushes_one {value} P Q =
          same_called (P.number ∙ sym Q.number) (P.unplaced ∙ sym Q.unplaced) (P.no_value ∙ sym Q.no_value)
          (state_one L {st = left r'} {t = left r} l (omega (arith, Q.listed, Q.book.same_lists)) Q.sound there (P.cells ∙ ap (λ x. set values x value) slot ∙ sym Q.cells) (others_between Q.book P.book))
        where
          both : P.slot ∷ P.rest ≡ Q.slot ∷ Q.rest
          both = sym P.first ∙ Q.first

          slot : P.slot ≡ Q.slot
          slot = cc

          rest : P.rest ≡ Q.rest
          rest = cc

          there : SoundBook E r.links r.values r.book (put s l (joined end Q.slot (chain_at s l)) Q.rest)
          there = subst (λ (t : Shape). SoundBook E r.links r.values r.book t) (λ i. put s l (joined end (slot i) (chain_at s l)) (rest i)) P.sound

      pub pops_one : Pops E links values b end l s r → Pops E links values b end l s r' → r ≡ r'
      pops_one P Q =
          same_called (P.number ∙ sym Q.number) (P.unplaced ∙ sym Q.unplaced) handed
          (state_one L {st = left r'} {t = left r} l (omega (arith, Q.listed, Q.book.same_lists)) Q.sound there (P.cells ∙ ap (λ x. set values x wipe_word) same.0 ∙ sym Q.cells) (others_between Q.book P.book))
        where
          same : (P.slot ≡ Q.slot) × (P.rest ≡ Q.rest)
          same = joined_one end P.slot Q.slot P.rest Q.rest (sym P.last ∙ Q.last)

          handed : r.value ≡ r'.value
          handed = (joined_one end r.value r'.value (contents r.values P.rest) (contents r'.values Q.rest) (sym P.holds ∙ Q.holds)).0

          there : SoundBook E r.links r.values r.book (put s l Q.rest (Q.slot ∷ s.idle))
          there = subst (λ (t : Shape). SoundBook E r.links r.values r.book t) (λ i. put s l (same.1 i) (same.0 i ∷ s.idle)) P.sound

pub reads_one : {end : End} {values : List ℕ} {l : ℕ} {buffer : List ℕ} {at : ℕ} {s : Shape} {r r' : ReadLeft} → Reads end values l buffer at s r → Reads end values l buffer at s r' → r ≡ r'
reads_one P Q = λ i. read_left (read_of (refusal_of ((P.number ∙ sym Q.number) i) ((P.unplaced ∙ sym Q.unplaced) i)) ((P.counted ∙ sym Q.counted) i)) ((P.places ∙ sym Q.places) i)

pub read_refused_one : {buffer : List ℕ} {r r' : ReadLeft} → ReadRefused buffer r → ReadRefused buffer r' → r.answer.refusal ≡ r'.answer.refusal → r ≡ r'
read_refused_one P Q n = λ i. read_left (read_of (n i) ((P.no_count ∙ sym Q.no_count) i)) ((P.same_buffer ∙ sym Q.same_buffer) i)
