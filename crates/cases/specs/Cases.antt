-- The starred cases of docs/SCOPE.md, as one table of expected values.
use Rattle.std.specs.Prelude.{ℕ, false, ◌≡◌, ℤ, pos, negsuc, length, Float}
use Prim.Native.String.{String}
use mathlib.Core.List.{List, [], ◌∷◌, map, flatten}
use Rattle.std.specs.Float.{binary64}
use Rattle.std.specs.Float.Ieee.{neg, div}
use Rattle.mathematics.specs.Refusals.{Outcome, value, refused, first, outcome}
use Rattle.hilbert.specs.Basis.{place}
use Rattle.mathematics.specs.Entries.{Each}
use Rattle.complex.specs.Complex.{Complex, complex_of, uncharged}
use Rattle.sheet.specs.Sheet.{sheet_in, reading_refusal}
use Rattle.gauss_law.specs.Listing.{tree_edges, free_edges, states}
use Rattle.matrices.specs.Coupling.{float_of, u1_params, su2_params}
use Rattle.matrices.specs.Weights.{weight}
use Rattle.plaquettes.specs.Triangle.{shifted_state, triangle_tests}
use Rattle.hamiltonian.specs.Dense.{u1_dense, u1_dense_tests}
use Rattle.rows.specs.RowLists.{row_starts}
use Rattle.entries.specs.Rows.{csr_row, csr_entries}
use Rattle.csr.specs.Csr.{csr_tests}
use Rattle.lanczos.specs.Matvec.{u1_product, u1_product_tests}
use Rattle.electric.specs.Electric.{field_squares, electric_tests}
use Rattle.wilson.specs.Wilson.{path_of, wilson, wilson_tests}
use Rattle.loops.specs.Walks.{Step}
use Rattle.loops.specs.Loops.{fundamental_loops}
use Rattle.su2_even_sets.specs.EvenSets.{su2_states}
use Rattle.su2_quantum.specs.Dense.{su2_dense, su2_dense_tests}
use Rattle.su2_loops.specs.Loop.{names, su2_expectation, su2_loop_tests}
use Rattle.lines.specs.Lines.{ascii}
use Rattle.lines.specs.Printed.{printed}

-- what is told of a triangle's shift of the state at a place, with a list of so many entries
pub record Shift : Type 0 where
  pub triangle : ℕ
  pub state : ℕ
  pub room : ℕ
  pub told : Outcome ℕ

-- eighths of one
unfoldable pub eighths : ℕ → Float
eighths n = div binary64 (float_of n) (float_of 8)

-- the two dense matrices for a coupling, without weights, and where the rows of that of U(1) begin as row lists
pub record Matrices : Type 0 where
  pub coupling : ℕ
  pub u1 : List Float
  pub starts : List ℕ
  pub su2 : List Float

-- what is claimed of them: with lists that are just long enough neither call is refused, and the matrices are the expected ones
pub record MatricesHold (c : Complex) (L : ℕ) (x : Matrices) : Type 0 where
  pub u1_accepted : first (u1_dense_tests c L (u1_params (float_of x.coupling)) false [] (length (flatten (states c L))) (length x.u1)) ≡ 0
  pub u1 : u1_dense c L (u1_params (float_of x.coupling)) (weight false []) ≡ x.u1
  pub starts_accepted : first (csr_tests c L (u1_params (float_of x.coupling)) false [] (length (flatten (states c L))) (length x.starts) (csr_entries c L (u1_params (float_of x.coupling)) (weight false [])) (csr_entries c L (u1_params (float_of x.coupling)) (weight false []))) ≡ 0
  pub starts : row_starts (csr_row c L (u1_params (float_of x.coupling)) (weight false [])) (length (states c L)) ≡ x.starts
  pub su2_accepted : first (su2_dense_tests c (su2_params (float_of x.coupling)) false [] (length (su2_states c)) (length x.su2)) ≡ 0
  pub su2 : su2_dense c (su2_params (float_of x.coupling)) (weight false []) ≡ x.su2

-- a path in the two-valued mode, an amplitude for each state and the expectation of the loop
pub record Su2Loop : Type 0 where
  pub amplitudes : List ℕ
  pub path : List ℕ
  pub expectation : Float

-- what is claimed of it: with a list that is just long enough the call is not refused, and by the set of the path's edges the expectation is the
-- expected one
pub record Su2LoopHolds (c : Complex) (x : Su2Loop) : Type 0 where
  pub accepted : first (su2_loop_tests c (map float_of x.amplitudes) x.path (length (su2_states c))) ≡ 0
  pub expectation : su2_expectation c (map float_of x.amplitudes) (names x.path) ≡ x.expectation

-- of amplitudes: the product with the U(1) Hamiltonian for a coupling, without weights, the squares of the field on the edges, and the
-- expectation along a path
pub record Measured : Type 0 where
  pub coupling : ℕ
  pub amplitudes : List Float
  pub product : List Float
  pub squares : List Float
  pub edges : List ℕ
  pub directions : List ℤ
  pub expectation : Float

-- what is claimed of them: with lists that are just long enough no call is refused, and the values are the expected ones
pub record MeasuredHold (c : Complex) (L : ℕ) (x : Measured) : Type 0 where
  pub product_accepted : first (u1_product_tests c L (u1_params (float_of x.coupling)) false [] x.amplitudes (length (flatten (states c L))) (length x.product)) ≡ 0
  pub product : u1_product c L (u1_params (float_of x.coupling)) (weight false []) x.amplitudes ≡ x.product
  pub squares_accepted : first (electric_tests c L x.amplitudes (length (flatten (states c L))) (length x.squares)) ≡ 0
  pub squares : field_squares c L x.amplitudes ≡ x.squares
  pub path_accepted : first (wilson_tests c L x.amplitudes x.edges x.directions (length (flatten (states c L)))) ≡ 0
  pub expectation : wilson c L x.amplitudes (path_of x.edges x.directions) ≡ x.expectation

-- the answer of a triangle's shift is the expected one
abbrev pub ShiftHolds : Complex → ℕ → Shift → Type 0
ShiftHolds c L x = outcome (first (triangle_tests c L x.triangle x.state x.room)) (place c L (shifted_state c L x.triangle x.state)) ≡ x.told

-- the bytes of a sheet, the complex and truncation that it holds, and the values that are expected of them
pub record Case : Type 0 where
  pub bytes : List ℕ
  pub complex : Complex
  pub truncation : ℕ
  pub tree : List ℕ
  pub free : List ℕ
  pub text : String
  pub shifts : List Shift
  pub loops : List (List Step)
  pub masks : List ℕ
  pub matrices : List Matrices
  pub su2_loops : List Su2Loop
  pub measured : List Measured

-- what is claimed of a case: its sheet is read as it should be, and its tree, its free edges, its printed basis, its shifts, its loops, its two-valued basis, its dense
-- matrices, its two-valued expectations and what its amplitudes give are the expected ones
pub record Holds (k : Case) : Type 0 where
  pub accepted : reading_refusal k.bytes ≡ 0
  pub complex : complex_of (sheet_in k.bytes).complex ≡ k.complex
  pub truncation : (sheet_in k.bytes).lambda ≡ k.truncation
  pub tree : tree_edges k.complex ≡ k.tree
  pub free : free_edges k.complex ≡ k.free
  pub basis : printed k.complex k.truncation ≡ ascii k.text
  pub shifts : Each (ShiftHolds k.complex k.truncation) k.shifts
  pub loops : fundamental_loops k.complex ≡ k.loops
  pub masks : su2_states k.complex ≡ k.masks
  pub matrices : Each (MatricesHold k.complex k.truncation) k.matrices
  pub su2_loops : Each (Su2LoopHolds k.complex) k.su2_loops
  pub measured : Each (MeasuredHold k.complex k.truncation) k.measured

unfoldable pub triangle : Complex
triangle =
    record { vertices = 3; edges = (0 ∷ 1 ∷ []) ∷ (0 ∷ 2 ∷ []) ∷ (1 ∷ 2 ∷ []) ∷ []; triangles = (0 ∷ 1 ∷ 2 ∷ []) ∷ []; charges = uncharged }

unfoldable pub one_vertex : Complex
one_vertex = record { vertices = 1; edges = []; triangles = []; charges = uncharged }

-- vertices 0 to 3 with all six edges and all four triangles, in dictionary order
unfoldable pub tetrahedron : Complex
tetrahedron =
    record {
      vertices = 4;
      edges = (0 ∷ 1 ∷ []) ∷ (0 ∷ 2 ∷ []) ∷ (0 ∷ 3 ∷ []) ∷ (1 ∷ 2 ∷ []) ∷ (1 ∷ 3 ∷ []) ∷ (2 ∷ 3 ∷ []) ∷ [];
      triangles = (0 ∷ 1 ∷ 2 ∷ []) ∷ (0 ∷ 1 ∷ 3 ∷ []) ∷ (0 ∷ 2 ∷ 3 ∷ []) ∷ (1 ∷ 2 ∷ 3 ∷ []) ∷ [];
      charges = uncharged;
    }

unfoldable pub table : List Case
table =
    record {
      bytes = 71 ∷ 76 ∷ 83 ∷ 1 ∷ 0 ∷ 3 ∷ 3 ∷ 1 ∷ 0 ∷ 1 ∷ 0 ∷ 0 ∷ 1 ∷ 0 ∷ 2 ∷ 1 ∷ 2 ∷ 0 ∷ 1 ∷ 2 ∷ [];
      complex = triangle;
      truncation = 1;
      tree = 0 ∷ 1 ∷ [];
      free = 2 ∷ [];
      text = "vertices 3 edges 3 triangles 1 lambda 1 dim 3\n0 -1 1 -1\n1 0 0 0\n2 1 -1 1\n";
      shifts = record { triangle = 0; state = 2; room = 9; told = refused 16 } ∷ record { triangle = 0; state = 0; room = 9; told = value 1 } ∷ [];
      loops = ((0, negsuc 0) ∷ (1, pos 1) ∷ (2, negsuc 0) ∷ []) ∷ [];
      masks = 0 ∷ 7 ∷ [];
      matrices =
          record {
            coupling = 1;
            u1 =
                eighths 12 ∷ neg (eighths 4) ∷ eighths 0
                ∷ neg (eighths 4) ∷ eighths 0 ∷ neg (eighths 4)
                ∷ eighths 0 ∷ neg (eighths 4) ∷ eighths 12
                ∷ [];
            starts = 0 ∷ 2 ∷ 4 ∷ 6 ∷ [];
            su2 = eighths 0 ∷ neg (eighths 4) ∷ neg (eighths 4) ∷ eighths 9 ∷ [];
          }
          ∷ [];
      su2_loops = record { amplitudes = 3 ∷ 5 ∷ []; path = 0 ∷ 1 ∷ 2 ∷ []; expectation = neg (float_of 16) } ∷ [];
      measured =
          record {
            coupling = 1;
            amplitudes = float_of 1 ∷ float_of 2 ∷ float_of 3 ∷ [];
            product = eighths 4 ∷ neg (eighths 16) ∷ eighths 28 ∷ [];
            squares = float_of 10 ∷ float_of 10 ∷ float_of 10 ∷ [];
            edges = 0 ∷ 1 ∷ 2 ∷ [];
            directions = negsuc 0 ∷ pos 1 ∷ negsuc 0 ∷ [];
            expectation = float_of 8;
          }
          ∷ [];
    }
    ∷ record {
      bytes = 71 ∷ 76 ∷ 83 ∷ 1 ∷ 0 ∷ 3 ∷ 3 ∷ 1 ∷ 0 ∷ 0 ∷ 0 ∷ 0 ∷ 1 ∷ 0 ∷ 2 ∷ 1 ∷ 2 ∷ 0 ∷ 1 ∷ 2 ∷ [];
      complex = triangle;
      truncation = 0;
      tree = 0 ∷ 1 ∷ [];
      free = 2 ∷ [];
      text = "vertices 3 edges 3 triangles 1 lambda 0 dim 1\n0 0 0 0\n";
      shifts = record { triangle = 0; state = 0; room = 3; told = refused 16 } ∷ [];
      loops = ((0, negsuc 0) ∷ (1, pos 1) ∷ (2, negsuc 0) ∷ []) ∷ [];
      masks = 0 ∷ 7 ∷ [];
      matrices = record { coupling = 1; u1 = eighths 0 ∷ []; starts = 0 ∷ 0 ∷ []; su2 = eighths 0 ∷ neg (eighths 4) ∷ neg (eighths 4) ∷ eighths 9 ∷ [] } ∷ [];
      su2_loops = [];
      measured = [];
    }
    ∷ record {
      bytes = 71 ∷ 76 ∷ 83 ∷ 1 ∷ 0 ∷ 1 ∷ 0 ∷ 0 ∷ 0 ∷ 1 ∷ 0 ∷ [];
      complex = one_vertex;
      truncation = 1;
      tree = [];
      free = [];
      text = "vertices 1 edges 0 triangles 0 lambda 1 dim 1\n0\n";
      shifts = [];
      loops = [];
      masks = 0 ∷ [];
      matrices = record { coupling = 1; u1 = eighths 0 ∷ []; starts = 0 ∷ 0 ∷ []; su2 = eighths 0 ∷ [] } ∷ [];
      su2_loops = [];
      measured = [];
    }
    ∷ record {
      bytes = 71 ∷ 76 ∷ 83 ∷ 1 ∷ 0 ∷ 4 ∷ 6 ∷ 4 ∷ 0 ∷ 1 ∷ 0 ∷ 0 ∷ 1 ∷ 0 ∷ 2 ∷ 0 ∷ 3 ∷ 1 ∷ 2 ∷ 1 ∷ 3 ∷ 2 ∷ 3 ∷ 0 ∷ 1 ∷ 2 ∷ 0 ∷ 1 ∷ 3 ∷ 0 ∷ 2 ∷ 3 ∷ 1 ∷ 2 ∷ 3 ∷ [];
      complex = tetrahedron;
      truncation = 1;
      tree = 0 ∷ 1 ∷ 2 ∷ [];
      free = 3 ∷ 4 ∷ 5 ∷ [];
      text = "vertices 4 edges 6 triangles 4 lambda 1 dim 15\n0 -1 0 1 -1 0 -1\n1 0 -1 1 0 0 -1\n2 0 0 0 -1 1 -1\n3 1 -1 0 0 1 -1\n4 -1 0 1 0 -1 0\n5 0 -1 1 1 -1 0\n6 -1 1 0 -1 0 0\n7 0 0 0 0 0 0\n8 1 -1 0 1 0 0\n9 0 1 -1 -1 1 0\n10 1 0 -1 0 1 0\n11 -1 1 0 0 -1 1\n12 0 0 0 1 -1 1\n13 0 1 -1 0 0 1\n14 1 0 -1 1 0 1\n";
      shifts = record { triangle = 3; state = 7; room = 90; told = value 12 } ∷ record { triangle = 3; state = 8; room = 90; told = refused 16 } ∷ [];
      loops =
          ((0, negsuc 0) ∷ (1, pos 1) ∷ (3, negsuc 0) ∷ [])
          ∷ ((0, negsuc 0) ∷ (2, pos 1) ∷ (4, negsuc 0) ∷ [])
          ∷ ((1, negsuc 0) ∷ (2, pos 1) ∷ (5, negsuc 0) ∷ [])
          ∷ [];
      masks = 0 ∷ 11 ∷ 21 ∷ 30 ∷ 38 ∷ 45 ∷ 51 ∷ 56 ∷ [];
      matrices = [];
      su2_loops = [];
      measured = [];
    }
    ∷ []
