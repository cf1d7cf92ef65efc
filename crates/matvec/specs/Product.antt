-- The product of a matrix in row lists with a vector. The entries of all rows stand in two lists, their columns and their values, row after row;
-- the starts tell where each row begins, and the last of them where all end. The vector has one amplitude for each row.
use Rattle.std.specs.Prelude.{ℕ, ◌+◌, ◌^◌, ◌≤◌, ◌<◌, List, [], ◌∷◌, map, Bool, true, not, ◌&&◌, ◌||◌, ◌≡◌, eqb, leb, ltb, Float, get_or, length}
use Rattle.std.specs.Float.{binary64, nan}
use Rattle.std.specs.Float.Ieee.{neg, add, mul, le}
use Rattle.std.specs.Float.Ieee.Scale.{finite}
use Rattle.std.proofs.Math.Seq.{slice}
use Rattle.mathematics.specs.Tests.{every_entry, every}
use Rattle.mathematics.specs.Counting.{below}
use Rattle.mathematics.specs.Writing.{front}
use Rattle.mathematics.specs.Calls.{Call}
use Rattle.matrices.specs.Coupling.{float_of}
use Rattle.matrices.specs.Weights.{within, bounded}
use Rattle.rows.specs.Entries.{pairs}

-- the entries of row i: from start i to start i + 1
unfoldable pub row_entries : List ℕ → List ℕ → List Float → ℕ → List (ℕ × Float)
row_entries starts columns values i = slice (get_or starts i 0) (get_or starts (i + 1) 0) (pairs columns values)

-- a sum to which each entry, in order, adds its value × the amplitude of its column, with one rounding an operation
unfoldable pub with_products : List Float → Float → List (ℕ × Float) → Float
with_products vector sum [] = sum
with_products vector sum (e ∷ row) = with_products vector (add binary64 sum (mul binary64 e.1 (get_or vector e.0 nan))) row

-- from 0.0
unfoldable pub row_sum : List Float → List (ℕ × Float) → Float
row_sum vector row = with_products vector (float_of 0) row

-- the sum of each row
unfoldable pub product : List ℕ → List ℕ → List Float → List Float → List Float
product starts columns values vector = map (λ i. row_sum vector (row_entries starts columns values i)) (below (length vector))

-- ---- what is judged
-- none of the first n starts is above the next
unfoldable pub never_falls : List ℕ → ℕ → Bool
never_falls starts n = every (λ i. leb (get_or starts i 0) (get_or starts (i + 1) 0)) n

-- the starts of n rows run from 0 to the number of entries without falling
unfoldable pub starts_right : List ℕ → ℕ → ℕ → Bool
starts_right starts n entries = (eqb (get_or starts 0 0) 0 && eqb (get_or starts n 0) entries) && never_falls starts n

-- every column is below n
unfoldable pub columns_right : List ℕ → ℕ → Bool
columns_right columns n = every_entry (λ j. ltb j n) columns

-- from -2^80 to 2^80; nothing that is not a number passes
unfoldable pub value_right : Float → Bool
value_right x = within (float_of (2 ^ 80)) x

-- the starts are not one more than the amplitudes, or columns and values differ in number
abbrev pub lengths_wrong : List ℕ → List ℕ → List Float → List Float → Bool
lengths_wrong starts columns values vector = not (eqb (length starts) (length vector + 1)) || not (eqb (length columns) (length values))

-- the starts do not run as they should, or a column is not below the number of rows
abbrev pub places_wrong : List ℕ → List ℕ → List Float → Bool
places_wrong starts columns vector = not (starts_right starts (length vector) (length columns)) || not (columns_right columns (length vector))

-- a value or an amplitude is out of its range
abbrev pub numbers_wrong : List Float → List Float → Bool
numbers_wrong values vector = not (every_entry value_right values) || not (every_entry bounded vector)

-- 12, 13 and 14 for these, then 15 where the result list is too short
abbrev pub product_tests : List ℕ → List ℕ → List Float → List Float → ℕ → List (ℕ × Bool)
product_tests starts columns values vector room =
    (12, lengths_wrong starts columns values vector)
    ∷ (13, places_wrong starts columns vector)
    ∷ (14, numbers_wrong values vector)
    ∷ (15, ltb room (length vector))
    ∷ []

-- a finite float, at most a limit in size
pub record Within (limit x : Float) : Type 0 where
  pub finite : finite x ≡ true
  pub above : le (neg limit) x ≡ true
  pub under : le x limit ≡ true

-- what it means that row lists and a vector pass: the starts are in order from 0 to the number of entries, each column is below the number of
-- rows, each value is finite within ±2^80 and each amplitude within ±2^32
pub record Valid (starts columns : List ℕ) (values vector : List Float) : Type 0 where
  pub starts_long : length starts ≡ length vector + 1
  pub same_length : length columns ≡ length values
  pub first_start : get_or starts 0 0 ≡ 0
  pub last_start : get_or starts (length vector) 0 ≡ length columns
  pub in_order : (i j : ℕ) → i ≤ j → j ≤ length vector → get_or starts i 0 ≤ get_or starts j 0
  pub columns_below : (k : ℕ) → k < length columns → get_or columns k 0 < length vector
  pub values_within : (k : ℕ) → k < length values → Within (float_of (2 ^ 80)) (get_or values k nan)
  pub amplitudes_within : (i : ℕ) → i < length vector → Within (float_of (2 ^ 32)) (get_or vector i nan)

-- ---- the call
-- matvec: the number of rows is told, and the result begins with the product.
unfoldable pub product_call : List ℕ → List ℕ → List Float → List Float → List Float → Call ℕ (List Float)
product_call starts columns values vector result =
    record {
      tests = product_tests starts columns values vector (length result);
      value = length vector;
      before = result;
      after = front (product starts columns values vector) result;
      known = Valid starts columns values vector;
    }
