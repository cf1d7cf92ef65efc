-- What `basis list` prints for a complex and a truncation.
use Rattle.std.specs.Prelude.{ℕ, List, ◌++◌, length}
use Rattle.complex.specs.Complex.{Complex}
use Rattle.gauss_law.specs.Listing.{states}
use Rattle.lines.specs.Lines.{first_line, state_lines}

unfoldable pub printed : Complex → ℕ → List ℕ
printed c lambda =
    first_line c.vertices (length c.edges) (length c.triangles) lambda (length (states c lambda))
    ++ state_lines 0 (states c lambda)
