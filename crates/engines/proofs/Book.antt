-- The shape of a sound pool, with the values, says every link, and with what no call changes the whole book.
use mathlib.Core.Path.{◌≡◌, sym, ap, ◌∙◌}
use mathlib.Core.List.{List}
use Prim.Native.Nat.{ℕ, ◌<◌}
use native.Mathlib.Decide.{ℕ_discrete}
use native.Mathlib.Omega.{arith}
use lib.ListN.{length}
use lib.Seq.{ext_get_or}
use Rattle.books.specs.declared.Entry.{Entry}
use Rattle.books.specs.Book.{zero_entry, entry_at, AnyBook}
use Rattle.shapes.specs.Shape.{Shape}
use Rattle.shapes.specs.Changes.{OtherEntries}
use Rattle.engines.specs.Engine.{Engine}
use Rattle.engines.specs.Sound.{SoundBook}
use Rattle.engines.specs.Laws.{Lawful}
use Rattle.engines.specs.Moves.{State}
use Rattle.engines.proofs.Found.{listed, entry_is, stored-length, stored_free}

module _ {E E' : Engine} {links : E.Links} {links' : E'.Links} {values values' : List ℕ} {b c : AnyBook} {s : Shape} (l : ℕ) (below : l < b.lists) (S : SoundBook E links values b s) (T : SoundBook E' links' values' c s) where
  -- two books that are sound with one shape have one entry for a list where its share and limit are the same
  pub entry_one : l < c.lists → (entry_at c.entries l).share ≡ (entry_at b.entries l).share → (entry_at c.entries l).limit ≡ (entry_at b.entries l).limit
      → entry_at c.entries l ≡ entry_at b.entries l
  entry_one below' share limit = λ i. record {
    head = (ap (λ (e : Entry). e.head) (sym (entry_is T l below')) ∙ (T.pool.entry l (listed T l below')).head ∙ sym (S.pool.entry l (listed S l below)).head ∙ ap (λ (e : Entry). e.head) (entry_is S l below)) i;
    tail = (ap (λ (e : Entry). e.tail) (sym (entry_is T l below')) ∙ (T.pool.entry l (listed T l below')).tail ∙ sym (S.pool.entry l (listed S l below)).tail ∙ ap (λ (e : Entry). e.tail) (entry_is S l below)) i;
    share = share i;
    limit = limit i;
    length = (stored-length T l below' ∙ sym (stored-length S l below)) i;
  }

  -- and are one where the rest of their entries is the same
  pub book_one : OtherEntries b l c → c ≡ b
  book_one O =
      λ i. record { places = O.same_places i; lists = O.same_lists i; entries = entries i; free = free i }
    where
      free : c.free ≡ b.free
      free = λ i. record { head = (T.pool.free_record.head ∙ sym S.pool.free_record.head) i; count = (stored_free T ∙ sym (stored_free S)) i }

      entries : c.entries ≡ b.entries
      entries = ext_get_or zero_entry c.entries b.entries O.same_entries (λ k h. at k (ℕ_discrete k l))
        where
          at : (k : ℕ) → Dec (k ≡ l) → entry_at c.entries k ≡ entry_at b.entries k
          at k (yes d) = rw d (entry_one (omega (arith, O.same_lists)) O.share O.limit)
          at k (no d) = O.others k d

pub others_twice : {b c d : AnyBook} {l : ℕ} → OtherEntries b l c → OtherEntries c l d → OtherEntries b l d
others_twice P Q =
    record {
      same_places = Q.same_places ∙ P.same_places;
      same_lists = Q.same_lists ∙ P.same_lists;
      same_entries = Q.same_entries ∙ P.same_entries;
      others = λ k d. Q.others k d ∙ P.others k d;
      share = Q.share ∙ P.share;
      limit = Q.limit ∙ P.limit;
    }

pub others_between : {b c d : AnyBook} {l : ℕ} → OtherEntries b l c → OtherEntries b l d → OtherEntries c l d
others_between P Q =
    record {
      same_places = Q.same_places ∙ sym P.same_places;
      same_lists = Q.same_lists ∙ sym P.same_lists;
      same_entries = Q.same_entries ∙ sym P.same_entries;
      others = λ k d. Q.others k d ∙ sym (P.others k d);
      share = Q.share ∙ sym P.share;
      limit = Q.limit ∙ sym P.limit;
    }

-- two sound states of one shape, with the same values, are one where the rest of their entries is the same
pub state_one : {E : Engine} (L : Lawful E) {st t : State E} {s : Shape} (l : ℕ) → l < st.book.lists → SoundBook E st.links st.values st.book s → SoundBook E t.links t.values t.book s
    → t.values ≡ st.values → OtherEntries st.book l t.book → t ≡ st
state_one L {st} {t} {s} l below S T v O =
    λ i. record {
      links = L.links_one t.links st.links t.values st.values _ _ _ _ s (T.pool.fit.same ∙ ap length v ∙ sym S.pool.fit.same) T.pool S.pool i;
      values = v i;
      book = book_one l below S T O i;
    }
