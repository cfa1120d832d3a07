-- What the functions that walk promise, over any engine: the answer, and the record of slots met then.
use Rattle.std.specs.Prelude.{◌≡◌, List, ℕ, length}
use Rattle.books.specs.declared.Free.{Free}
use Rattle.books.specs.Book.{null_slot}
use Rattle.chains.specs.Chain.{last_or}
use Rattle.shapes.specs.declared.LiveWalk.{LiveWalk}
use Rattle.shapes.specs.declared.IdleWalk.{IdleWalk}
use Rattle.shapes.specs.Met.{mark_all}
use Rattle.shapes.specs.Walk.{unwiped_from}
use Rattle.engines.specs.Engine.{Engine}
use Rattle.engines.specs.Check.{head_path, idle_path}

-- the walk along a list's chain from its head, and which slots are marked then. Whether its last slot is the list's tail is the caller's test
pub record LiveWalked (E : Engine) (links : E.Links) (met : List ℕ) (head : ℕ) (r : LiveWalk) (met' : List ℕ) : Type 0 where
  pub ok : r.ok ≡ (head_path E links met head).ok
  pub last : r.last ≡ last_or null_slot (head_path E links met head).slots
  pub counted : r.length ≡ length (head_path E links met head).slots
  pub marked : met' ≡ mark_all met (head_path E links met head).slots

-- the walk along the idle chain, and which slots are marked then
pub record IdleWalked (E : Engine) (links : E.Links) (values met : List ℕ) (free : Free) (r : IdleWalk) (met' : List ℕ) : Type 0 where
  pub ok : r.ok ≡ (idle_path E links values met free).ok
  pub counted : r.length ≡ length (idle_path E links values met free).slots
  pub unwiped : r.unwiped ≡ unwiped_from values (idle_path E links values met free).slots null_slot
  pub marked : met' ≡ mark_all met (idle_path E links values met free).slots
