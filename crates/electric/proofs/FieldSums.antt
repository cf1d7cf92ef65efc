-- The sums of the squares: one state more, and rows that are states.
use Prim.Native.Nat.{ℕ, zero, suc, ◌+◌, ◌≤◌, ◌<◌}
use mathlib.Core.List.{List, [], flatten}
use mathlib.Core.Path.{◌≡◌, refl, ap, ◌∙◌}
use native.Mathlib.Numerals.{add-one}
use native.Mathlib.Omega.{arith}
use lib.IntN.{ℤ, pos}
use lib.Ieee.{Float, binary64, nan, add, mul}
use lib.ListN.{get_or, length, drop}
use Rattle.mathematics.specs.Counting.{below}
use Rattle.mathematics.specs.Writing.{front}
use Rattle.mathematics.proofs.Maps.{map_same}
use Rattle.complex.specs.Complex.{Complex}
use Rattle.complex.specs.Judge.{Accepted}
use Rattle.gauss_law.specs.Listing.{states}
use Rattle.enumeration.specs.Enumeration.{basis_first}
use Rattle.hilbert.specs.Search.{row}
use Rattle.hilbert.proofs.Order.{row_state}
use Rattle.electric.specs.Electric.{field_term, field_sum, field_squares, Begins}
use Rattle.electric.proofs.Beginnings.{begins_is}

pub sum_next : (a : List Float) (on : ℕ → ℤ) (i : ℕ) → add binary64 (field_sum a on i) (field_term (mul binary64 (get_or a i nan) (get_or a i nan)) (on i)) ≡ field_sum a on (i + 1)
unfolding field_sum
sum_next a on i = rw (add-one i)

-- values that agree have the same sum
sum_same : (a : List Float) (on on' : ℕ → ℤ) (n : ℕ) → ((i : ℕ) → i < n → on i ≡ on' i) → field_sum a on n ≡ field_sum a on' n
unfolding field_sum
sum_same a on on' zero same = refl
sum_same a on on' (suc n) same = rw (sum_same a on on' n (λ i h. same i (omega arith)), same n (omega arith))

-- the rows of a list that begins with the basis are the states
module _ (c : Complex) (accepted : Accepted c) (L : ℕ) (a : List Float) (work list : List ℤ) (listed : list ≡ basis_first c L work) where
  row_sum : (e : ℕ) → field_sum a (λ i. get_or (row (length c.edges) list i) e (pos 0)) (length (states c L)) ≡ field_sum a (λ i. get_or (get_or (states c L) i []) e (pos 0)) (length (states c L))
  unfolding basis_first
  row_sum e =
      sum_same a _ _ (length (states c L))
      (λ i h. rw listed (ap (λ s. get_or s e (pos 0)) (row_state c accepted L (drop (length (flatten (states c L))) work) i h)))

  pub squares_written : (n m : ℕ) → n ≡ length (states c L) → m ≡ length c.edges → (old new : List Float) → m ≤ length old
      → Begins (λ e. field_sum a (λ i. get_or (row m list i) e (pos 0)) n) m old new → new ≡ front (field_squares c L a) old
  unfolding field_squares
  squares_written n m many edges old new room b =
      begins_is (λ e. field_sum a (λ i. get_or (row (length c.edges) list i) e (pos 0)) (length (states c L))) (length c.edges) old new (rw (many, edges) at b) (rw edges at room)
      ∙ ap (λ l. front l old) (map_same _ _ (below (length c.edges)) row_sum)
