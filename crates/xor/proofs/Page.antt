-- The reader's page says the same as the definition over any engine, at the XOR engine.
use mathlib.Core.Path.{◌≡◌, refl, sym}
use mathlib.Core.Logic.{◌↔◌}
use mathlib.Core.List.{List}
use Prim.Native.Nat.{ℕ}
use Rattle.books.specs.declared.Book.{Book}
use Rattle.books.specs.Book.{eight}
use Rattle.shapes.specs.Shape.{Shape}
use Rattle.engines.specs.Sound.{SoundBook}
use Rattle.xor.specs.Engine.{xor}
use Rattle.engines.proofs.Outcomes.{check_accepts}
use Rattle.xor.specs.Sound.{XorBook}
use Rattle.xor.specs.Ten.{check_of}
use Rattle.xor.proofs.Lawful.{xor_lawful}

-- what the laws of the calls speak of at the XOR engine is what the page says, clause by clause
pub page_told : (links values : List ℕ) (b : Book) (s : Shape) → SoundBook xor links values (eight b) s ↔ XorBook links values b s
page_told links values b s = (to, of)
  where
    to : SoundBook xor links values (eight b) s → XorBook links values b s
    to S =
        let T = S.pool in
        record {
          rules = S.rules;
          pool = record {
            same_size = sym T.fit.same;
            size = T.fit.size;
            lists = T.lists;
            once = T.once;
            only = T.only;
            head = λ l h. (T.entry l h).head;
            tail = λ l h. (T.entry l h).tail;
            live = T.live;
            free_head = T.free_record.head;
            idle = T.idle;
            wiped = T.wiped;
            null_link = T.null_link;
            null_value = T.null_value;
            short = T.short;
            spare = T.spare;
            counted = T.counted;
            free_counted = T.free_counted;
          };
        }

    of : XorBook links values b s → SoundBook xor links values (eight b) s
    of S =
        let T = S.pool in
        record {
          rules = S.rules;
          pool = record {
            fit = record { even = refl; same = sym T.same_size; size = T.size };
            lists = T.lists;
            once = T.once;
            only = T.only;
            entry = λ l h. record { head = T.head l h; tail = T.tail l h };
            live = T.live;
            free_record = record { head = T.free_head };
            idle = T.idle;
            wiped = T.wiped;
            null_link = T.null_link;
            null_value = T.null_value;
            short = T.short;
            spare = T.spare;
            counted = T.counted;
            free_counted = T.free_counted;
          };
        }

-- demand 2: the check accepts exactly the pools that the page calls sound
pub page_accepts : (links values : List ℕ) (b : Book) → (check_of links values b).number ≡ 0 ↔ ((s : Shape) × XorBook links values b s)
page_accepts links values b = (
  λ z. let (s, S) = (check_accepts xor_lawful links values (eight b)).0 z in (s, (page_told links values b s).0 S),
  λ (s, S). (check_accepts xor_lawful links values (eight b)).1 (s, (page_told links values b s).1 S),
)
