-- What can be told of row lists without a vector: how many rows there are, and whether every product is refused for the lists themselves.
use Rattle.std.specs.Prelude.{ℕ, ◌-◌, ◌^◌, ◌<◌, List, [], ◌∷◌, Bool, not, ◌||◌, ◌≡◌, eqb, Float, get_or, length}
use Rattle.std.specs.Float.{nan}
use Rattle.mathematics.specs.Tests.{every_entry}
use Rattle.mathematics.specs.Calls.{Call, NoneLent, none_lent}
use Rattle.matrices.specs.Coupling.{float_of}
use Rattle.matvec.specs.Product.{starts_right, columns_right, value_right, Within, Valid}

-- one row for each start but the last; where there is no start, no row
abbrev pub row_count : List ℕ → ℕ
row_count starts = length starts - 1

-- there is no start, or columns and values differ in number
abbrev pub list_lengths_wrong : List ℕ → List ℕ → List Float → Bool
list_lengths_wrong starts columns values = eqb (length starts) 0 || not (eqb (length columns) (length values))

-- the starts do not run as they should, or a column is not below the number of rows
abbrev pub list_places_wrong : List ℕ → List ℕ → Bool
list_places_wrong starts columns = not (starts_right starts (row_count starts) (length columns)) || not (columns_right columns (row_count starts))

-- a value is out of its range
abbrev pub values_wrong : List Float → Bool
values_wrong values = not (every_entry value_right values)

-- 12, 13 and 14 for these: the tests of a product, without what they ask of the vector and of the result
abbrev pub lists_tests : List ℕ → List ℕ → List Float → List (ℕ × Bool)
lists_tests starts columns values = (12, list_lengths_wrong starts columns values) ∷ (13, list_places_wrong starts columns) ∷ (14, values_wrong values) ∷ []

-- what it means that row lists pass: they have a product with every vector of one amplitude within ±2^32 for each row
abbrev pub ValidLists : List ℕ → List ℕ → List Float → Type 0
ValidLists starts columns values =
    (vector : List Float) → length vector ≡ row_count starts → ((i : ℕ) → i < length vector → Within (float_of (2 ^ 32)) (get_or vector i nan)) → Valid starts columns values vector

-- judge: the number of rows is told. It writes no list.
unfoldable pub lists_call : List ℕ → List ℕ → List Float → Call ℕ NoneLent
lists_call starts columns values =
    record { tests = lists_tests starts columns values; value = row_count starts; before = none_lent; after = none_lent; known = ValidLists starts columns values }
