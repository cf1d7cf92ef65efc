-- A sheet's bytes from flat lists.
use Rattle.std.specs.Prelude.{ℕ, ◌*◌, ◌/◌, ◌%◌, ◌≤◌, List, [], ◌∷◌, ◌++◌, Bool, true, not, ◌&&◌, ◌≡◌, length, eqb, ltb}
use Rattle.mathematics.specs.Writing.{front}
use Rattle.mathematics.specs.Refusals.{first}
use Rattle.mathematics.specs.Calls.{Call}
use Rattle.complex.specs.Complex.{Complex, simplices, complex_of, uncharged}
use Rattle.complex.specs.Judge.{counts_right, truncation_test, shape_tests}
use Rattle.sheet.specs.Sheet.{sheet_in, reading_refusal, sheet_bytes}

-- the complex of flat pairs and flat triples
unfoldable pub flat_complex : ℕ → List ℕ → List ℕ → Complex
flat_complex n edges triangles =
    record {
      vertices = n;
      edges = simplices 2 edges (length edges / 2);
      triangles = simplices 3 triangles (length triangles / 3);
      charges = uncharged;
    }

-- the lines of the table of refusals that the numbers and the lengths decide: 6 is for a length that is no multiple of two, or of three
unfoldable pub size_tests : ℕ → List ℕ → List ℕ → ℕ → List (ℕ × Bool)
size_tests n edges triangles lambda =
    (4, not (counts_right n (length edges / 2) (length triangles / 3)))
    ∷ truncation_test lambda
    ∷ (6, not (eqb (length edges % 2) 0 && eqb (length triangles % 3) 0))
    ∷ []

-- 4 to 6 of the numbers and lengths, 7 to 9 of the complex, then 15 for a list that has too few entries
abbrev pub making_tests : ℕ → List ℕ → List ℕ → ℕ → ℕ → List (ℕ × Bool)
making_tests n edges triangles lambda room =
    size_tests n edges triangles lambda
    ++ (shape_tests (flat_complex n edges triangles) ++ ((15, ltb room (length (sheet_bytes (flat_complex n edges triangles) lambda))) ∷ []))

-- make_sheet: the number of bytes is told, and the list begins with them.
unfoldable pub making_call : ℕ → List ℕ → List ℕ → ℕ → List ℕ → Call ℕ (List ℕ)
making_call n edges triangles lambda old =
    record {
      tests = making_tests n edges triangles lambda (length old);
      value = length (sheet_bytes (flat_complex n edges triangles) lambda);
      before = old;
      after = front (sheet_bytes (flat_complex n edges triangles) lambda) old;
      known = length (sheet_bytes (flat_complex n edges triangles) lambda) ≤ 905;
    }

-- what reading gives of the bytes that are made of flat lists
pub record MadeBack (n : ℕ) (edges triangles : List ℕ) (lambda : ℕ) (b : List ℕ) : Type 0 where
  pub accepted : reading_refusal b ≡ 0
  pub complex : complex_of (sheet_in b).complex ≡ flat_complex n edges triangles
  pub truncation : (sheet_in b).lambda ≡ lambda

-- they are read back as those lists
abbrev pub MadeThenRead : Type 0
MadeThenRead =
    (n : ℕ) (edges triangles : List ℕ) (lambda : ℕ) (room : ℕ) → first (making_tests n edges triangles lambda room) ≡ 0
    → MadeBack n edges triangles lambda (sheet_bytes (flat_complex n edges triangles) lambda)

-- ---- as the code keeps it
-- what the tests of the sizes say of lists that pass
pub record Sizes (n : ℕ) (edges triangles : List ℕ) : Type 0 where
  pub counts_pass : counts_right n (length edges / 2) (length triangles / 3) ≡ true
  pub pairs : length edges ≡ 2 * (length edges / 2)
  pub triples : length triangles ≡ 3 * (length triangles / 3)
