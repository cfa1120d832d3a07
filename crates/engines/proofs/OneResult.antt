-- Two results that a promise allows are equal, of the functions below the ten calls whose promise is neither an answer alone nor an answer with both slices: the walks, the core and setup without its book.
use mathlib.Core.Path.{◌≡◌, sym, ap, ◌∙◌}
use mathlib.Core.List.{List}
use Prim.Native.Nat.{ℕ}
use Rattle.books.specs.declared.Free.{Free}
use Rattle.books.proofs.OneResult.{one_answer}
use Rattle.shapes.specs.declared.LiveWalk.{LiveWalk}
use Rattle.shapes.specs.declared.IdleWalk.{IdleWalk}
use Rattle.shapes.specs.Records.{ListChange}
use Rattle.engines.specs.Engine.{Engine}
use Rattle.engines.specs.Walked.{LiveWalked, IdleWalked}
use Rattle.engines.specs.OnList.{OnList, on_list, LaidOut, laid_out}

-- the walks: `met'` and `met''` are the records of slots met that two runs leave
pub live_walked_one : {E : Engine} {links : E.Links} {met met' met'' : List ℕ} {head : ℕ} {r r' : LiveWalk} → LiveWalked E links met head r met' → LiveWalked E links met head r' met''
    → (r ≡ r') × (met' ≡ met'')
live_walked_one W W' = (
  λ i. record { ok = one_answer W.ok W'.ok i; last = one_answer W.last W'.last i; length = one_answer W.counted W'.counted i },
  one_answer W.marked W'.marked,
)

pub idle_walked_one : {E : Engine} {links : E.Links} {values met met' met'' : List ℕ} {free : Free} {r r' : IdleWalk} → IdleWalked E links values met free r met' → IdleWalked E links values met free r' met''
    → (r ≡ r') × (met' ≡ met'')
idle_walked_one W W' = (
  λ i. record { ok = one_answer W.ok W'.ok i; length = one_answer W.counted W'.counted i; unwiped = one_answer W.unwiped W'.unwiped i },
  one_answer W.marked W'.marked,
)

module _ {E : Engine} where
  -- the core: the number, the entry, the free record, the word for the value and every cell
  pub on_list_one : {o : OnList E} {r r' : ListChange} {value value' : ℕ} {links links' : E.Links} {values values' : List ℕ} → on_list r value links values ≡ o → on_list r' value' links' values' ≡ o
      → (r ≡ r') × (value ≡ value') × (links ≡ links') × (values ≡ values')
  on_list_one e f =
      let g = one_answer e f in
      (λ i. record { number = (g i).number; entry = (g i).entry; free = (g i).free }, ap (λ (x : OnList E). x.value) g, ap (λ (x : OnList E). x.links) g, ap (λ (x : OnList E). x.values) g)

  -- setup without its book
  pub laid_out_one : {o : LaidOut E} {n n' : ℕ} {links links' : E.Links} {values values' : List ℕ} → laid_out n links values ≡ o → laid_out n' links' values' ≡ o
      → (n ≡ n') × (links ≡ links') × (values ≡ values')
  laid_out_one e f =
      let g = one_answer e f in
      (ap (λ (x : LaidOut E). x.number) g, ap (λ (x : LaidOut E). x.links) g, ap (λ (x : LaidOut E). x.values) g)
