-- What config_to_index tells, and what its list then holds.
use Rattle.std.specs.Prelude.{ℕ, List, [], ◌∷◌, ◌++◌, Bool, not, ℤ, length}
use Rattle.mathematics.specs.Calls.{Call}
use Rattle.complex.specs.Complex.{Complex}
use Rattle.complex.specs.Judge.{length_test}
use Rattle.enumeration.specs.Enumeration.{basis_tests, short, basis_first}
use Rattle.hilbert.specs.Basis.{in_basis, place, PlaceKnown}

-- 4, 5, 7 to 10, then 12, 15 for a list that has too few entries for the basis, and 17
abbrev pub index_tests : Complex → ℕ → List ℤ → ℕ → List (ℕ × Bool)
index_tests c L s room =
    basis_tests c L ++ (length_test c (length s) ∷ (15, short c L room) ∷ (17, not (in_basis c L s)) ∷ [])

-- config_to_index: the place of the configuration is told, and the list begins with the basis.
unfoldable pub index_call : Complex → ℕ → List ℤ → List ℤ → Call ℕ (List ℤ)
index_call c L s old =
    record {
      tests = index_tests c L s (length old);
      value = place c L s;
      before = old;
      after = basis_first c L old;
      known = PlaceKnown c L s;
    }
