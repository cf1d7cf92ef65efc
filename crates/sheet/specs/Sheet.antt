-- The sheet: bytes 0 to 2 the mark GLS; 3 to 4 the version, 1; 5 V; 6 E; 7 to 8 T; 9 to 10 L; then two bytes for each edge and three for
-- each triangle. Numbers of two bytes have the low byte first.
use Prim.{Unit}
use Rattle.std.specs.Prelude.{ℕ, ◌+◌, ◌-◌, ◌*◌, ◌/◌, ◌%◌, ◌≤◌, Bool, true, not, ◌≡◌, get_or, length, take, drop, replicate, eqb, ltb}
use mathlib.Core.List.{List, [], ◌∷◌, ◌++◌, flatten}
use Rattle.mathematics.specs.Writing.{front}
use Rattle.mathematics.specs.Lists.{same}
use Rattle.mathematics.specs.Refusals.{first}
use Rattle.mathematics.specs.Calls.{Call, NoneLent, none_lent}
use Rattle.complex.specs.Complex.{Complex, complex_of}
use Rattle.complex.specs.Judge.{counts_right, truncation_test, shape_tests, truncated_tests}
use Rattle.sheet.specs.declared.Sheet.{Sheet}

-- the number of two bytes from a place on, low byte first
unfoldable pub word : List ℕ → ℕ → ℕ
word b i = get_or b i 0 + 256 * get_or b (i + 1) 0

-- a list, and zeros up to n entries
unfoldable pub padded : ℕ → List ℕ → List ℕ
padded n l = l ++ replicate (n - length l) 0

-- the sheet that the bytes hold
unfoldable pub sheet_in : List ℕ → Sheet
sheet_in b =
    record {
      complex = record {
        n_vertices = get_or b 5 0;
        n_edges = get_or b 6 0;
        edges = padded 126 (take (2 * get_or b 6 0) (drop 11 b));
        n_triangles = word b 7;
        triangles = padded 768 (take (3 * word b 7) (drop (11 + 2 * get_or b 6 0) b));
      };
      lambda = word b 9;
    }

-- the lines of the table of refusals that the first eleven bytes and the length decide
unfoldable pub header_tests : List ℕ → List (ℕ × Bool)
header_tests b =
    (1, ltb (length b) 11)
    ∷ (2, not (same (take 3 b) (71 ∷ 76 ∷ 83 ∷ [])))
    ∷ (3, not (eqb (word b 3) 1))
    ∷ (4, not (counts_right (get_or b 5 0) (get_or b 6 0) (word b 7)))
    ∷ truncation_test (word b 9)
    ∷ (6, not (eqb (length b) (11 + 2 * get_or b 6 0 + 3 * word b 7)))
    ∷ []

-- 1 to 6 of the header, then 7 to 9 of the complex that the bytes hold
abbrev pub reading_tests : List ℕ → List (ℕ × Bool)
reading_tests b = header_tests b ++ shape_tests (complex_of (sheet_in b).complex)

unfoldable pub reading_refusal : List ℕ → ℕ
reading_refusal b = first (reading_tests b)

-- read_sheet: the sheet is told. It writes no list.
unfoldable pub reading_call : List ℕ → Call Sheet NoneLent
reading_call b = record { tests = reading_tests b; value = sheet_in b; before = none_lent; after = none_lent; known = Unit {0} }

-- the first eleven bytes
unfoldable pub header_bytes : ℕ → ℕ → ℕ → ℕ → List ℕ
header_bytes v e t lambda = 71 ∷ 76 ∷ 83 ∷ 1 ∷ 0 ∷ v ∷ e ∷ t % 256 ∷ t / 256 ∷ lambda % 256 ∷ lambda / 256 ∷ []

-- the bytes of a complex and a truncation
unfoldable pub sheet_bytes : Complex → ℕ → List ℕ
sheet_bytes c lambda = header_bytes c.vertices (length c.edges) (length c.triangles) lambda ++ (flatten c.edges ++ flatten c.triangles)

-- 4, 5, 7 to 9, then 15 for a list that has too few entries
abbrev pub writing_tests : Complex → ℕ → ℕ → List (ℕ × Bool)
writing_tests c lambda room =
    truncated_tests c lambda ++ ((15, ltb room (length (sheet_bytes c lambda))) ∷ [])

-- write_sheet: the number of bytes is told, and the list begins with them.
unfoldable pub writing_call : Complex → ℕ → List ℕ → Call ℕ (List ℕ)
writing_call c lambda old =
    record {
      tests = writing_tests c lambda (length old);
      value = length (sheet_bytes c lambda);
      before = old;
      after = front (sheet_bytes c lambda) old;
      known = length (sheet_bytes c lambda) ≤ 905;
    }

-- ---- as the code keeps it
-- what the tests of the header say of bytes that pass
pub record Header (b : List ℕ) : Type 0 where
  pub long : 11 ≤ length b
  pub mark : same (take 3 b) (71 ∷ 76 ∷ 83 ∷ []) ≡ true
  pub version : word b 3 ≡ 1
  pub counts_pass : counts_right (get_or b 5 0) (get_or b 6 0) (word b 7) ≡ true
  pub truncation : word b 9 ≤ 1000
  pub size : length b ≡ 11 + 2 * get_or b 6 0 + 3 * word b 7

-- what the writer of the bytes asks: counts in their ranges, and room
pub record Writable (s : Sheet) (out : List ℕ) : Type 0 where
  pub vertices : s.complex.n_vertices ≤ 64
  pub edges : s.complex.n_edges ≤ 63
  pub triangles : s.complex.n_triangles ≤ 256
  pub truncation : s.lambda ≤ 1000
  pub room : 11 + 2 * s.complex.n_edges + 3 * s.complex.n_triangles ≤ length out
