-- The steps of an engine with the stored counts, 02 c): said once for every engine.
use Rattle.std.specs.Prelude.{cond, List, ℕ, ◌+◌, ◌-◌}
use Rattle.books.specs.declared.Free.{Free}
use Rattle.books.specs.declared.Entry.{Entry}
use Rattle.shapes.specs.declared.End.{End}
use Rattle.shapes.specs.Counts.{with_length, with_count}
use Rattle.engines.specs.Engine.{Engine, Step}

-- a step's entry and free record with these counts
abbrev pub with_counts : {Links : Type 0} → ℕ → ℕ → Step Links → Step Links
with_counts many free r = record { done = r.done; value = r.value; entry = with_length many r.entry; free = with_count free r.free; links = r.links; values = r.values }

-- where the engine made its step; else all is as the engine leaves it
abbrev pub if_made : {Links : Type 0} → ℕ → ℕ → Step Links → Step Links
if_made many free r = cond r.done (with_counts many free r) r

module _ (E : Engine) (end : End) (links : E.Links) (values : List ℕ) (list : Entry) (free : Free) where
  -- one slot more in the list, one less free
  unfoldable pub counted_push : ℕ → Step E.Links
  counted_push value = if_made (list.length + 1) (free.count - 1) (E.push end links values list free value)

  -- one slot less in the list, one more free
  unfoldable pub counted_pop : Step E.Links
  counted_pop = if_made (list.length - 1) (free.count + 1) (E.pop end links values list free)
