-- The rows of the U(1) Hamiltonian: for each state the columns that have an entry, rising, with their values.
use Rattle.std.specs.Prelude.{ℕ, List, [], ℤ, Float, get_or, length}
use Rattle.complex.specs.Complex.{Complex}
use Rattle.gauss_law.specs.Listing.{states}
use Rattle.matrices.specs.declared.coupling.KSParams.{KSParams}
use Rattle.matrices.specs.Squares.{squares, energy}
use Rattle.matrices.specs.Terms.{row_plaquette_term}
use Rattle.rows.specs.Row.{row_of}
use Rattle.rows.specs.RowLists.{rows_to}
use Rattle.plaquettes.specs.Joined.{joins}

-- the electric factor times the sum of squares of a state
unfoldable pub diagonal : KSParams → List ℤ → Float
diagonal p s = energy p.electric (squares s)

-- row i: the diagonal where it is kept, and for each state that a triangle joins to state i the term of that triangle
unfoldable pub csr_row : Complex → ℕ → KSParams → (ℕ → Float) → ℕ → List (ℕ × Float)
csr_row c L p w i =
    row_of (diagonal p (get_or (states c L) i [])) (λ t j. joins c L t i j) (λ t. row_plaquette_term p (w t)) (length c.triangles) (length (states c L)) i

-- how many entries all rows have
unfoldable pub csr_entries : Complex → ℕ → KSParams → (ℕ → Float) → ℕ
csr_entries c L p w = length (rows_to (csr_row c L p w) (length (states c L)))
