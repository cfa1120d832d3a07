-- The version of the C face. It is raised when a request changes the book, a function or what a number means; include/flailreeve.h has it as FLAILREEVE_VERSION.
use Rattle.std.specs.Prelude.{ℕ}

abbrev pub face_version : ℕ
face_version = 4
