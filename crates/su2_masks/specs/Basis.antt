-- What su2_basis tells, and what its list then holds.
use Rattle.std.specs.Prelude.{ℕ, ◌^◌, ◌≤◌, List, [], ◌∷◌, ◌++◌, Bool, ltb, length}
use Rattle.mathematics.specs.Writing.{front}
use Rattle.mathematics.specs.Calls.{Call, NoneLent, none_lent}
use Rattle.complex.specs.Complex.{Complex}
use Rattle.complex.specs.Judge.{complex_tests}
use Rattle.gauss_law.specs.Listing.{free_edges, limit}
use Rattle.su2_even_sets.specs.EvenSets.{su2_states, EvenComplete}

-- what is judged before the masks are listed: 4, 7 to 9, and 10 where 2 to the number of free edges is over the limit
abbrev pub su2_tests : Complex → List (ℕ × Bool)
su2_tests c = complex_tests c ++ ((10, ltb limit (2 ^ length (free_edges c))) ∷ [])

-- these, then 15 where the list has too few entries
abbrev pub su2_basis_tests : Complex → ℕ → List (ℕ × Bool)
su2_basis_tests c room =
    su2_tests c ++ ((15, ltb room (length (su2_states c))) ∷ [])

-- what is known of the masks where they are listed: the list is complete, and no longer than the limit
pub record MasksKnown (c : Complex) : Type 0 where
  pub complete : EvenComplete c (su2_states c)
  pub few : length (su2_states c) ≤ limit

-- su2_basis: the number of states is told, and the list begins with the masks, ascending.
unfoldable pub su2_basis_call : Complex → List ℕ → Call ℕ (List ℕ)
su2_basis_call c old =
    record {
      tests = su2_basis_tests c (length old);
      value = length (su2_states c);
      before = old;
      after = front (su2_states c) old;
      known = MasksKnown c;
    }

-- su2_count_states: the number of states is told, without a list.
unfoldable pub su2_counted_call : Complex → Call ℕ NoneLent
su2_counted_call c =
    record {
      tests = su2_tests c;
      value = length (su2_states c);
      before = none_lent;
      after = none_lent;
      known = MasksKnown c;
    }
