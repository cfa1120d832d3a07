-- The XOR list as an engine: one link slice, 01's links, and the walks and steps that the code runs.
use Rattle.std.specs.Prelude.{◌≡◌, true, cond, ◌&&◌, List, ℕ, ◌+◌, ltb, eqb, length}
use Rattle.std.specs.Int.Bits.{bit_xor}
use Rattle.books.specs.Book.{null_slot}
use Rattle.books.specs.Tabulate.{tabulate}
use Rattle.chains.specs.Chain.{cell, LiveChain, IdleChain}
use Rattle.books.specs.Outcome.{Outcome}
use Rattle.shapes.specs.Records.{PushStep}
use Rattle.shapes.specs.Records.{PopStep}
use Rattle.engines.specs.Engine.{Engine, Step}
use Rattle.xor.specs.Steps.{push_of, pop_of}

-- 01: "links 1 to 2, 2 to 3, and so on, the last 0"
unfoldable pub fresh_link : ℕ → ℕ → ℕ
fresh_link size slot = cond (ltb null_slot slot && ltb (slot + 1) size) (slot + 1) 0

-- what a push and a pop leave, as an engine's step
abbrev pub pushed_as : Outcome PushStep → Step (List ℕ)
pushed_as r = record { done = r.answer.done; value = 0; entry = r.answer.entry; free = r.answer.free; links = r.links; values = r.values }

abbrev pub popped_as : Outcome PopStep → Step (List ℕ)
popped_as r = record { done = r.answer.done; value = r.answer.value; entry = r.answer.entry; free = r.answer.free; links = r.links; values = r.values }

abbrev pub xor : Engine
xor =
    record {
      -- one slice of links; its length is N
      Links = List ℕ;
      even = λ links. true;
      size = λ links. length links;
      -- 01: "a live slot's link is the XOR of the slots before and after it"; "a free slot's link is the next free slot"; slot 0's link is 0
      Live = LiveChain;
      Idle = IdleChain;
      Null = λ links. cell links null_slot ≡ 0;
      Same = λ links links' y. cell links' y ≡ cell links y;
      null_test = λ links. eqb (cell links null_slot) 0;
      -- from either end, the slot after one is its link XORed with the slot before it; no link needs a test of its own
      onward = λ end links p x. bit_xor (cell links x) p;
      fits = λ links p x. true;
      idle_onward = λ links p x. cell links x;
      idle_fits = λ links p x. true;
      fresh = λ links. tabulate (length links) (fresh_link (length links));
      push = λ end links values list free value. pushed_as (push_of end links values list free value);
      pop = λ end links values list free. popped_as (pop_of end links values list free);
    }
