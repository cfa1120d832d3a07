-- What the demonstration does and shows, in any memory, and the six lines that 01 asks for.
use Rattle.std.specs.Prelude.{cond, List, [], ◌∷◌, ◌++◌, ℕ, eqb}
use Rattle.books.specs.declared.Book.{Book}
use Rattle.books.specs.Outcome.{Outcome, outcome}
use Rattle.wording.specs.Digits.{bytes_of}
use Rattle.books.specs.declared.Answer.{Answer}
use Rattle.books.specs.declared.Popped.{Popped}
use Rattle.xor.specs.Ten.{setup_of, push_back_of, push_front_of, pop_back_of, pop_front_of}
use Rattle.wording.specs.Texts.{spelled, text_of, line_end}
use Rattle.shows.specs.declared.Gone.{Gone}

-- ---- the calls, each on what the one before it left, and none after one that was refused

unfoldable pub next_back : ℕ → Outcome Answer → Outcome Answer
next_back value r = cond (eqb r.answer.refusal.number 0) (push_back_of r.links r.values r.answer.book 0 value) r

unfoldable pub next_front : ℕ → Outcome Answer → Outcome Answer
next_front value r = cond (eqb r.answer.refusal.number 0) (push_front_of r.links r.values r.answer.book 0 value) r

unfoldable pub next_pop : Outcome Popped → Outcome Popped
next_pop r = cond (eqb r.answer.given.refusal.number 0) (pop_front_of r.links r.values r.answer.book 0) r

-- 01: "one list with share and limit 5"
abbrev pub five : List ℕ
five = 5 ∷ 0 ∷ 0 ∷ 0 ∷ 0 ∷ 0 ∷ 0 ∷ 0 ∷ []

-- 000: `push_back(2)`, `push_back(3)`, `push_front(1)`
unfoldable pub pushed_of : List ℕ → List ℕ → Outcome Answer
pushed_of links values = next_front 1 (next_back 3 (next_back 2 (setup_of links values 1 five five)))

-- what the three pops gave: the number that ended them, and the value of each
abbrev pub gone_of : Outcome Popped → Outcome Popped → Outcome Popped → Outcome Gone
gone_of x y z =
    outcome (record { number = z.answer.given.refusal.number; last = x.answer.given.value; first = y.answer.given.value; left = z.answer.given.value }) z.links z.values

-- 000: `let x = t.pop_back()`, `let y = t.pop_front()`, `let z = t.pop_front()`
unfoldable pub popped_of : List ℕ → List ℕ → Book → Outcome Gone
popped_of links values book =
    let x = pop_back_of links values book 0 in
    gone_of x (next_pop x) (next_pop (next_pop x))

-- ---- what is shown

-- a label, a number in decimal digits, and the line's end
unfoldable pub line_of : List ℕ → ℕ → List ℕ
line_of label number = label ++ bytes_of number ++ line_end

unfoldable pub refusal_line : ℕ → List ℕ
refusal_line number = text_of number ++ line_end

abbrev pub three_of : List ℕ → ℕ → ℕ → ℕ → List ℕ
three_of label x y z = line_of label x ++ line_of label y ++ line_of label z

abbrev pub pushed_lines : List ℕ
pushed_lines = three_of (spelled "pushed: ") 2 3 1

abbrev pub popped_lines : ℕ → ℕ → ℕ → List ℕ
popped_lines = three_of (spelled "popped: ")

-- the lines of the pops, or the text of the first that was refused
unfoldable pub shown_pops : Gone → List ℕ
shown_pops gone = cond (eqb gone.number 0) (popped_lines gone.last gone.first gone.left) (refusal_line gone.number)

-- 01: "shows a refusal as one short text for each number and then ends"
unfoldable pub shown_of : List ℕ → List ℕ → List ℕ
shown_of links values =
    let r = pushed_of links values in
    cond (eqb r.answer.refusal.number 0) (pushed_lines ++ shown_pops (popped_of r.links r.values r.answer.book).answer) (refusal_line r.answer.refusal.number)

-- 01: "prints exactly"
abbrev pub six_lines : List ℕ
six_lines = spelled "pushed: 2\npushed: 3\npushed: 1\npopped: 3\npopped: 1\npopped: 2\n"
