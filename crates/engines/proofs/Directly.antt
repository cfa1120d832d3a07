-- Sentences of 01 and of the demands, each as one law of the calls' own outputs, on any engine: the backward reading is the forward one reversed; setup ignores what was there; and what setup means leaves no choice.
use mathlib.Core.Path.{◌≡◌, refl, sym, ap, subst, ◌∙◌}
use mathlib.Core.Bool.{not, ◌&&◌}
use mathlib.Core.List.{List, [], ◌∷◌, ◌++◌, append_assoc, reverse}
use Prim.Native.Nat.{ℕ, ◌-◌, ◌+◌, ◌≤◌}
use native.Mathlib.Decide.{ℕ_discrete}
use native.Mathlib.Omega.{arith}
use lib.Dec.{eqb}
use lib.ListN.{length, take, drop, length-map, length-reverse}
use lib.Seq.{length-take-le, take_at, drop_at}
use Rattle.books.specs.Book.{AnyBook}
use Rattle.books.specs.Test.{size_fits, keeps_rules}
use Rattle.chains.specs.Chain.{cell}
use Rattle.shapes.specs.declared.End.TheVariants.{Front, Back}
use Rattle.shapes.specs.Ends.{contents}
use Rattle.shapes.specs.Shape.{Shape, chain_at}
use Rattle.shapes.specs.Numbers.{test, first_that}
use Rattle.shapes.specs.Tests.{ReadLeft}
use Rattle.shapes.specs.Setup.{fresh_shape}
use Rattle.shapes.proofs.Numbers.{given_only}
use Rattle.engines.specs.Engine.{Engine}
use Rattle.engines.specs.Sound.{SoundBook}
use Rattle.engines.specs.Laws.{Lawful}
use Rattle.engines.specs.Check.{sizes_fit}
use Rattle.engines.specs.Calls.{Called, fresh_book_of, setup_call, read_call}
use Rattle.engines.specs.Done.{SetupKeeps, SetupMeans, Reads}
use Rattle.engines.proofs.Shape.{unique_book}
use Rattle.engines.proofs.Fresh.{setup_number, setup_given, setup_refused, setup_keeps}
use Rattle.engines.proofs.Outcomes.{read_done, read_room}
use Rattle.engines.proofs.Tight.{setup_refused_one, setup_keeps_one}

-- ---- the two readings

-- what stands in a buffer from `at` on, after the values were written there
written : (buffer vs rest : List ℕ) (at : ℕ) → at ≤ length buffer → take (length vs) (drop at (take at buffer ++ vs ++ rest)) ≡ vs
written buffer vs rest at h = rw (append_assoc, drop_at (take at buffer) (vs ++ rest) at (length-take-le at buffer h)) (take_at vs rest (length vs) refl)

module _ {E : Engine} (L : Lawful E) (links : E.Links) (values : List ℕ) (b : AnyBook) (l : ℕ) where
  -- demand 2: "The backward reading is the forward one reversed": of two reads of one list, into any two buffers and from any places on
  pub backward_reversed : (buffer buffer' : List ℕ) (at at' : ℕ)
      → let forth = read_call E links values b l Front buffer at in
      let back = read_call E links values b l Back buffer' at' in
      forth.answer.refusal.number ≡ 0 → back.answer.refusal.number ≡ 0
      → (back.answer.count ≡ forth.answer.count) × (take back.answer.count (drop at' back.buffer) ≡ reverse (take forth.answer.count (drop at forth.buffer)))
  backward_reversed buffer buffer' at at' z z' =
      let (s, S, F) = read_done L links values b l Front buffer at z in
      let (s', S', G) = read_done L links values b l Back buffer' at' z' in
      go s S F s' S' G (read_room L links values b l Front buffer at z) (read_room L links values b l Back buffer' at' z')
    where
      forth : ReadLeft
      forth = read_call E links values b l Front buffer at

      back : ReadLeft
      back = read_call E links values b l Back buffer' at'

      go : (s : Shape) → SoundBook E links values b s → Reads Front values l buffer at s forth → (s' : Shape) → SoundBook E links values b s' → Reads Back values l buffer' at' s' back
          → at + forth.answer.count ≤ length buffer → at' + back.answer.count ≤ length buffer'
          → (back.answer.count ≡ forth.answer.count) × (take back.answer.count (drop at' back.buffer) ≡ reverse (take forth.answer.count (drop at forth.buffer)))
      go s S F s' S' G h h' = (counts, backward ∙ ap reverse (sym forward))
        where
          vs : List ℕ
          vs = contents values (chain_at s l)

          one : s' ≡ s
          one = unique_book L S' S

          many : length vs ≡ length (chain_at s l)
          many = length-map (chain_at s l) (cell values)

          counts : back.answer.count ≡ forth.answer.count
          counts = G.counted ∙ ap (λ (t : Shape). length (chain_at t l)) one ∙ sym F.counted

          forward : take forth.answer.count (drop at forth.buffer) ≡ vs
          forward =
              ap (λ (n : ℕ). take n (drop at forth.buffer)) (F.counted ∙ sym many)
              ∙ ap (λ (buf : List ℕ). take (length vs) (drop at buf)) F.places
              ∙ written buffer vs _ at (omega arith)

          backward : take back.answer.count (drop at' back.buffer) ≡ reverse vs
          backward =
              ap (λ (n : ℕ). take n (drop at' back.buffer)) (counts ∙ F.counted ∙ sym many ∙ sym (length-reverse vs))
              ∙ ap (λ (buf : List ℕ). take (length (reverse vs)) (drop at' buf)) (G.places ∙ ap (λ (t : Shape). take at' buffer' ++ reverse (contents values (chain_at t l)) ++ drop (at' + length (chain_at t l)) buffer') one)
              ∙ written buffer' (reverse vs) _ at' (omega arith)

-- ---- setup

-- what 1 tests speaks of the lengths alone
same_sizes : (E : Engine) (links links' : E.Links) (values values' : List ℕ) → E.even links ≡ E.even links' → E.size links ≡ E.size links' → length values ≡ length values'
    → sizes_fit E links values ≡ sizes_fit E links' values'
unfolding sizes_fit
same_sizes E links links' values values' even size many = λ i. even i && (eqb (size i) (many i) && size_fits (size i))

module _ {E : Engine} (L : Lawful E) (places : ℕ) (links : E.Links) (values : List ℕ) (lists : ℕ) (shares limits : List ℕ) where
  pub setup_means : SetupMeans E places links values lists shares limits (setup_call E places links values lists shares limits)
  setup_means =
      record {
        given = setup_given E places links values lists shares limits;
        refused = setup_refused E places links values lists shares limits;
        done = setup_keeps L places links values lists shares limits;
      }

  -- two results that both have the meaning are one
  pub setup_means_one : {r r' : Called E} → SetupMeans E places links values lists shares limits r → SetupMeans E places links values lists shares limits r' → r ≡ r'
  setup_means_one {r} {r'} M M' = go (ℕ_discrete r.number 0)
    where
      number : r.number ≡ r'.number
      number = given_only M.given M'.given

      go : Dec (r.number ≡ 0) → r ≡ r'
      go (yes z) = setup_keeps_one L (M.done z) (M'.done (sym number ∙ z))
      go (no d) = setup_refused_one (M.refused d) (M'.refused (λ z. d (number ∙ z))) number

  -- 01: "It ignores and overwrites what was there": of what the slices hold the number and the book tell nothing, and where setup is done neither do the cells
  pub setup_ignores : (links' : E.Links) (values' : List ℕ) → E.even links ≡ E.even links' → E.size links ≡ E.size links' → length values ≡ length values'
      → let r = setup_call E places links values lists shares limits in
      let r' = setup_call E places links' values' lists shares limits in
      (r.number ≡ r'.number) × (r.book ≡ r'.book) × (r.number ≡ 0 → (r.links ≡ r'.links) × (r.values ≡ r'.values))
  setup_ignores links' values' even size many = (number, book (ℕ_discrete r.number 0), λ z. (ap (λ (c : Called E). c.links) (whole z), ap (λ (c : Called E). c.values) (whole z)))
    where
      r : Called E
      r = setup_call E places links values lists shares limits

      r' : Called E
      r' = setup_call E places links' values' lists shares limits

      number : r.number ≡ r'.number
      number =
          setup_number E places links values lists shares limits
          ∙ (λ i. first_that (test 1 (not (same_sizes E links links' values values' even size many i)) ∷ test 2 (not (keeps_rules (size i) (fresh_book_of (size i - 1) places lists shares limits))) ∷ []))
          ∙ sym (setup_number E places links' values' lists shares limits)

      -- what a done setup means speaks of the size alone
      same_size_lem : SetupKeeps E places links' lists shares limits r' → SetupKeeps E places links lists shares limits r'
      same_size_lem K =
          record {
            number = K.number;
            unplaced = K.unplaced;
            no_value = K.no_value;
            same_places = K.same_places;
            as_many = K.as_many;
            entries = K.entries;
            share = K.share;
            limit = K.limit;
            free_head = K.free_head;
            no_length = K.no_length;
            free_count = K.free_count ∙ sym size;
            same_size = K.same_size ∙ sym size;
            sound = subst (λ (n : ℕ). SoundBook E r'.links r'.values r'.book (fresh_shape n lists)) (sym size) K.sound;
          }

      whole : r.number ≡ 0 → r ≡ r'
      whole z = setup_keeps_one L (setup_keeps L places links values lists shares limits z) (same_size_lem (setup_keeps L places links' values' lists shares limits (sym number ∙ z)))

      book : Dec (r.number ≡ 0) → r.book ≡ r'.book
      book (yes z) = ap (λ (c : Called E). c.book) (whole z)
      book (no d) = (setup_refused E places links values lists shares limits d).zeroed ∙ sym (setup_refused E places links' values' lists shares limits (λ z. d (number ∙ z))).zeroed
