-- Two results that a promise of the C face allows are equal: the number, the place, what stands at the word for the answer, the book and every cell.
use mathlib.Core.Path.{◌≡◌, sym, ap, ◌∙◌}
use mathlib.Core.List.{List}
use Prim.Native.Nat.{ℕ}
use Rattle.books.specs.Outcome.{Outcome}
use Rattle.faces.specs.Face.{Prepared, Checked, Changed, Handed, Told, Shown, setup_face, check_face, length_face, push_back_face, push_front_face, pop_back_face, pop_front_face, read_forward_face, read_backward_face, clear_face}
use Rattle.faces.specs.Meaning.{OneSetup, OneCheck, OneChange, OnePop, OneLength, OneRead}

one_setup : (o : Outcome Prepared) → OneSetup o
one_setup o n n' book book' links links' values values' e f =
    let g = e ∙ sym f in
    (ap (λ (x : Outcome Prepared). x.answer.number) g, ap (λ (x : Outcome Prepared). x.answer.book) g, ap (λ (x : Outcome Prepared). x.links) g, ap (λ (x : Outcome Prepared). x.values) g)

one_change : (o : Outcome Changed) → OneChange o
one_change o n n' p p' book book' links links' values values' e f =
    let g = e ∙ sym f in
    (ap (λ (x : Outcome Changed). x.answer.number) g, ap (λ (x : Outcome Changed). x.answer.place) g, ap (λ (x : Outcome Changed). x.answer.book) g, ap (λ (x : Outcome Changed). x.links) g, ap (λ (x : Outcome Changed). x.values) g)

one_pop : (o : Outcome Handed) → OnePop o
one_pop o n n' v v' p p' book book' links links' values values' e f =
    let g = e ∙ sym f in
    let h = ap (λ (x : Outcome Handed). x.answer) g in
    (ap (λ (x : Handed). x.number) h, ap (λ (x : Handed). x.place) h, ap (λ (x : Handed). x.value) h, ap (λ (x : Handed). x.book) h, ap (λ (x : Outcome Handed). x.links) g, ap (λ (x : Outcome Handed). x.values) g)

one-length : (o : Told) → OneLength o
one-length o n n' v v' p p' e f =
    let g = e ∙ sym f in
    (ap (λ (x : Told). x.number) g, ap (λ (x : Told). x.place) g, ap (λ (x : Told). x.length) g)

one_read : (o : Shown) → OneRead o
one_read o n n' v v' p p' buffer buffer' e f =
    let g = e ∙ sym f in
    (ap (λ (x : Shown). x.number) g, ap (λ (x : Shown). x.place) g, ap (λ (x : Shown). x.count) g, ap (λ (x : Shown). x.buffer) g)

-- ---- the ten functions

module _ (links values : List ℕ) where
  pub setup_face_one : (lists : ℕ) (shares limits words : List ℕ) → OneSetup (setup_face links values lists shares limits words)
  setup_face_one lists shares limits words = one_setup _

  module _ (words : List ℕ) where
    pub check_face_one : OneCheck (check_face links values words)
    check_face_one n n' p p' e f = let g = e ∙ sym f in (ap (λ (x : Checked). x.number) g, ap (λ (x : Checked). x.place) g)

    module _ (l : ℕ) where
      pub length_face_one : OneLength (length_face links values words l)
      length_face_one = one-length _

      pub push_back_face_one : (value : ℕ) → OneChange (push_back_face links values words l value)
      push_back_face_one value = one_change _

      pub push_front_face_one : (value : ℕ) → OneChange (push_front_face links values words l value)
      push_front_face_one value = one_change _

      pub pop_back_face_one : OnePop (pop_back_face links values words l)
      pop_back_face_one = one_pop _

      pub pop_front_face_one : OnePop (pop_front_face links values words l)
      pop_front_face_one = one_pop _

      pub read_forward_face_one : (buffer : List ℕ) (at : ℕ) → OneRead (read_forward_face links values words l buffer at)
      read_forward_face_one buffer at = one_read _

      pub read_backward_face_one : (buffer : List ℕ) (at : ℕ) → OneRead (read_backward_face links values words l buffer at)
      read_backward_face_one buffer at = one_read _

      pub clear_face_one : OneChange (clear_face links values words l)
      clear_face_one = one_change _
