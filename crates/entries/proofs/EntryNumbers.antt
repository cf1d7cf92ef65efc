-- The number of entries is the same for every coupling in its range, and small.
use Prim.Native.Nat.{ℕ, suc, ◌+◌, ◌*◌, ◌^◌, ◌<◌, ◌≤◌}
use mathlib.Core.List.{List, [], ◌∷◌}
use mathlib.Core.Bool.{Bool, true, false, cond}
use mathlib.Core.Path.{◌≡◌, ap, ◌∙◌}
use native.Mathlib.Nat.{mul-le-mul_left}
use native.Mathlib.Omega.{arith}
use lib.IntN.{ℤ, pos, nat_abs}
use lib.Ieee.{Float}
use lib.ListN.{get_or, length}
use Rattle.complex.specs.Complex.{Complex}
use Rattle.complex.specs.Judge.{Accepted}
use Rattle.gauss_law.specs.Gauss.{State}
use Rattle.gauss_law.specs.Listing.{states}
use Rattle.matrices.specs.declared.coupling.KSParams.{KSParams}
use Rattle.matrices.specs.Coupling.{float_of}
use Rattle.matrices.specs.Squares.{squares}
use Rattle.matrices.proofs.Squares.{square_small}
use Rattle.rows.specs.Row.{kept}
use Rattle.rows.proofs.KeptDiagonals.{NotBelow}
use Rattle.plaquettes.specs.Joined.{staying}
use Rattle.plaquettes.proofs.Joined.{staying_few}
use Rattle.plaquettes.proofs.TriangleTelling.{state_there}
use Rattle.entries.specs.Rows.{diagonal, csr_entries}
use Rattle.entries.specs.Count.{row_count, over_states}
use Rattle.entries.specs.Entries.{row_number, entries_number, EntriesKnown}
use Rattle.entries.proofs.Counted.{over_same, entries_counted}
use Rattle.entries.proofs.KeptDiagonals.{least, right_low, one_low, diagonal_told}

-- ---- small numbers
squares_few : (s : List ℤ) → ((e : ℕ) → e < length s → nat_abs (get_or s e (pos 0)) ≤ 1000) → squares s ≤ length s * 1000000
unfolding squares
squares_few [] h = omega arith
squares_few (x ∷ s) h =
    let this = square_small x (h 0 (omega arith)) in
    let others = squares_few s (λ e k. h (suc e) (omega arith)) in
    omega arith

row_few : (c : Complex) → Accepted c → (L : ℕ) (p : KSParams) (s : List ℤ) → row_count c L p s ≤ 513
unfolding row_count
row_few c accepted L p s = go (kept (diagonal p s))
  where
    go : (b : Bool) → cond b 1 0 + staying c L s (length c.triangles) ≤ 513
    go true = omega (arith, staying_few c L s (length c.triangles), accepted.few_triangles)
    go false = omega (arith, staying_few c L s (length c.triangles), accepted.few_triangles)

over_few : (f : List ℤ → ℕ) (k : ℕ) → ((s : List ℤ) → f s ≤ k) → (ss : List (List ℤ)) → over_states f ss ≤ k * length ss
unfolding over_states
over_few f k h [] = omega arith
over_few f k h (s ∷ ss) = let this = h s in let others = over_few f k h ss in omega arith

-- at most 513 in each row, with any coupling
pub entries_few : (c : Complex) → Accepted c → (L : ℕ) (p : KSParams) (w : ℕ → Float) → csr_entries c L p w ≤ 513 * length (states c L)
entries_few c accepted L p w = omega (arith, entries_counted c accepted L p w, over_few (row_count c L p) 513 (row_few c accepted L p) (states c L))

-- a coupling whose electric factor is 1
abbrev counted_by : KSParams
counted_by = record { g_squared = float_of 2; electric = float_of 1; magnetic = float_of 1 }

-- ---- the same number for every factor that is not too low
module _ (c : Complex) (accepted : Accepted c) (L : ℕ) (truncation : L ≤ 1000) where
  row_same : (p : KSParams) → NotBelow least p.electric → (s : List ℤ) → State c c.charges L s → row_count c L p s ≡ row_number c L s
  unfolding row_count row_number diagonal
  row_same p low s state =
      let small : (e : ℕ) → e < length s → nat_abs (get_or s e (pos 0)) ≤ 1000 = λ e h. let w = state.within e (rw (← state.sized) h) in omega arith in
      let few : squares s ≤ 2 ^ 26 = omega (arith, squares_few s small, state.sized, accepted.few_edges) in
      ap (λ (k : ℕ). k + staying c L s (length c.triangles)) (diagonal_told p.electric low (squares s) few)

  pub entries_same : (p : KSParams) (w : ℕ → Float) → NotBelow least p.electric → csr_entries c L p w ≡ entries_number c L
  unfolding entries_number
  entries_same p w low =
      entries_counted c accepted L p w
      ∙ over_same (row_count c L p) (row_number c L) (states c L) (λ i h. row_same p low (get_or (states c L) i []) (state_there c accepted L i h))

  by_one : (w : ℕ → Float) → csr_entries c L counted_by w ≡ entries_number c L
  by_one w = entries_same counted_by w one_low

  pub entries_known : length (states c L) ≤ 1048576 → EntriesKnown c L
  entries_known few =
      let most : 513 * length (states c L) ≤ 513 * 1048576 = mul-le-mul_left 513 few in
      record {
        few = omega (arith, entries_few c accepted L counted_by (λ t. float_of 1), by_one (λ t. float_of 1));
        every = λ p w right. entries_same p w (right_low p right);
      }
