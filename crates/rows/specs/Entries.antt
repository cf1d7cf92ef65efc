-- Entries of a matrix as pairs of column and value.
use Rattle.std.specs.Prelude.{ℕ, List, [], ◌∷◌, Float}

-- the entries that stand in a list of columns and a list of values
unfoldable pub pairs : List ℕ → List Float → List (ℕ × Float)
pairs [] values = []
pairs (j ∷ columns) [] = []
pairs (j ∷ columns) (x ∷ values) = (j, x) ∷ pairs columns values
