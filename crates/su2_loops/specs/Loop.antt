-- The expectation of a Wilson loop in the two-valued mode: a sign for each state, and a sum over all states in a fixed order, with one rounding an
-- operation. Two calls read a path, and differ in which of its edges count: one takes their set, the other their passes modulo two.
use Rattle.std.specs.Prelude.{ℕ, zero, suc, ◌%◌, ◌^◌, ◌<◌, ◌≤◌, List, [], ◌∷◌, ◌++◌, Bool, not, ◌&&◌, cond, ◌≡◌, eqb, ltb, Float, get_or, length}
use Rattle.std.specs.List.{FoldsTo}
use Rattle.std.specs.Int.Bits.{bit_and}
use Rattle.std.specs.Int.Count.{ones}
use Rattle.std.specs.Float.{binary64, nan}
use Rattle.std.specs.Float.Ieee.{neg, add, mul}
use Rattle.mathematics.specs.Counting.{below, keep}
use Rattle.mathematics.specs.Lists.{listed}
use Rattle.mathematics.specs.Tests.{every_entry}
use Rattle.mathematics.specs.Calls.{Call}
use Rattle.mathematics.specs.Writing.{front}
use Rattle.complex.specs.Complex.{Complex}
use Rattle.matrices.specs.Coupling.{float_of}
use Rattle.matrices.specs.Weights.{bounded}
use Rattle.gauss_law.specs.Listing.{limit}
use Rattle.su2_even_sets.specs.EvenSets.{chosen, su2_states}
use Rattle.su2_masks.specs.Basis.{su2_tests}

-- ---- which edges of a path count
-- by their set, every edge that the path names; one that is named twice counts once
unfoldable pub names : List ℕ → ℕ → Bool
names path e = listed eqb e path

-- how often the path passes the edge
unfoldable pub passes : List ℕ → ℕ → ℕ
passes path e = length (keep (eqb e) path)

-- by passes modulo two, every edge that it passes an odd number of times
unfoldable pub passes_oddly : List ℕ → ℕ → Bool
passes_oddly path e = eqb (passes path e % 2) 1

-- ---- the sum
-- how many edges of the set x count
unfoldable pub met : Complex → (ℕ → Bool) → ℕ → ℕ
met c counts x = length (keep (λ e. chosen x e && counts e) (below (length c.edges)))

-- 1.0 for an even number, -1.0 for an odd one
unfoldable pub sign_of : ℕ → Float
sign_of n = cond (eqb (n % 2) 0) (float_of 1) (neg (float_of 1))

-- from 0.0, each of the first n states, rising, adds (amplitude × amplitude) × sign
unfoldable pub su2_loop_sum : Complex → List Float → (ℕ → Bool) → ℕ → Float
su2_loop_sum c vector counts zero = float_of 0
su2_loop_sum c vector counts (suc i) =
    add binary64 (su2_loop_sum c vector counts i) (mul binary64 (mul binary64 (get_or vector i nan) (get_or vector i nan)) (sign_of (met c counts (get_or (su2_states c) i 0))))

-- of all states
unfoldable pub su2_expectation : Complex → List Float → (ℕ → Bool) → Float
su2_expectation c vector counts = su2_loop_sum c vector counts (length (su2_states c))

-- ---- what is judged
-- every edge that the path names is below n
unfoldable pub path_right : ℕ → List ℕ → Bool
path_right n path = every_entry (λ e. ltb e n) path

-- of m states and n edges: 12 where the amplitudes are not one for each state, 13 where the path names an edge that is not there, 14 where an
-- amplitude is out of its range
unfoldable pub loop_tests : ℕ → ℕ → List Float → List ℕ → List (ℕ × Bool)
loop_tests m n vector path = (12, not (eqb (length vector) m)) ∷ (13, not (path_right n path)) ∷ (14, not (every_entry bounded vector)) ∷ []

-- 4 and 7 to 10 as for the basis, then these, and 15 where the list of states is too short
abbrev pub su2_loop_tests : Complex → List Float → List ℕ → ℕ → List (ℕ × Bool)
su2_loop_tests c vector path work-room =
    su2_tests c ++ (loop_tests (length (su2_states c)) (length c.edges) vector path ++ ((15, ltb work-room (length (su2_states c))) ∷ []))

-- ---- the calls
-- The expectation of a path is told, by the edges that count, and the list begins with the masks, ascending.
abbrev pub expectation_call : Complex → List Float → List ℕ → (ℕ → Bool) → List ℕ → Call Float (List ℕ)
expectation_call c vector path counts work =
    record {
      tests = su2_loop_tests c vector path (length work);
      value = su2_expectation c vector counts;
      before = work;
      after = front (su2_states c) work;
      known = length (su2_states c) ≤ limit;
    }

-- su2_wilson_loop: by the set of the path's edges
unfoldable pub su2_loop_call : Complex → List Float → List ℕ → List ℕ → Call Float (List ℕ)
su2_loop_call c vector path work = expectation_call c vector path (names path) work

-- su2_wilson_passes: by the path's passes modulo two
unfoldable pub su2_passes_call : Complex → List Float → List ℕ → List ℕ → Call Float (List ℕ)
su2_passes_call c vector path work = expectation_call c vector path (passes_oddly path) work

-- ---- as the code keeps it
-- One step of a path more: its edge is put into the mask by a rule, which makes of a mask and an edge the next mask.
abbrev pub EdgePut : (ℕ → ℕ → ℕ → Type 0) → ℕ → ℕ → ℕ → Type 0
EdgePut puts mask edge next = (mask < 2 ^ 64) × (edge < 64) × puts mask (2 ^ edge) next

-- the mask of a path by a rule, step by step from the empty one
abbrev pub MaskMade : (ℕ → ℕ → ℕ → Type 0) → List ℕ → ℕ → Type 0
MaskMade puts path mask = FoldsTo (EdgePut puts) 0 path mask

-- just these edges are in the mask of a path by a rule
pub record Counts (puts : ℕ → ℕ → ℕ → Type 0) (path : List ℕ) (counts : ℕ → Bool) : Type 0 where
  pub counted : (mask : ℕ) → MaskMade puts path mask → chosen mask ≡ counts

-- the sum, by the list of states and the mask of the path
unfoldable pub mask_sum : List Float → List ℕ → ℕ → ℕ → Float
mask_sum vector states mask zero = float_of 0
mask_sum vector states mask (suc i) =
    add binary64 (mask_sum vector states mask i) (mul binary64 (mul binary64 (get_or vector i nan) (get_or vector i nan)) (sign_of (ones (bit_and (get_or states i 0) mask))))
