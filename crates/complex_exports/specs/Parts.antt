-- Where the parts of a sheet go that is read through the static library.
use Rattle.std.specs.Prelude.{ℕ}
use mathlib.Core.List.{List, flatten}
use Rattle.mathematics.specs.Writing.{front}
use Rattle.complex.specs.Complex.{complex_of}
use Rattle.sheet.specs.declared.Sheet.{Sheet}

-- four numbers and two lists: V, E, T and L, and the edges and the triangles of a sheet at the fronts of the lists, vertex after vertex
abbrev pub SheetParts : Type 0
SheetParts = ℕ × ℕ × ℕ × ℕ × List ℕ × List ℕ

abbrev pub sheet_parts : Sheet → SheetParts → SheetParts
sheet_parts s old = (
  s.complex.n_vertices,
  s.complex.n_edges,
  s.complex.n_triangles,
  s.lambda,
  front (flatten (complex_of s.complex).edges) old.4,
  front (flatten (complex_of s.complex).triangles) old.5,
)
