-- How many entries the rows have: one for each triangle and one on the diagonal, all but the first, which has none there.
use Prim.Native.Nat.{ℕ, zero, suc, ◌+◌, ◌-◌, ◌*◌, ◌/◌, ◌%◌, ◌^◌, ◌≤◌, ◌<◌}
use mathlib.Core.Bool.{true, false}
use mathlib.Core.Path.{◌≡◌, refl, sym, ap, ◌∙◌}
use mathlib.Core.Logic.{◌≢◌}
use native.Mathlib.Decide.{dec_lt}
use native.Mathlib.Nat.{add_comm, zero-add, pow-suc}
use native.Mathlib.Omega.{arith}
use lib.Count.{ones, ones_in, ones_step, ones-le}
use lib.Ieee.{Float}
use lib.ListN.{get_or, length}
use lib.Pow.{pow_pos}
use Rattle.mathematics.specs.Lists.{In}
use Rattle.mathematics.proofs.Totals.{total, total_more}
use Rattle.complex.specs.Complex.{Complex}
use Rattle.complex.specs.Judge.{Accepted}
use Rattle.matrices.specs.declared.coupling.KSParams.{KSParams}
use Rattle.matrices.specs.Coupling.{su2_right}
use Rattle.rows.specs.Row.{kept}
use Rattle.rows.proofs.RowsWritten.{rows_length}
use Rattle.su2_even_sets.specs.EvenSets.{su2_states}
use Rattle.su2_even_sets.proofs.EvenLists.{even_complete}
use Rattle.su2_even_sets.proofs.Degrees.{even_zero}
use Rattle.su2_rows.specs.Rows.{su2_diagonal, su2_row, su2_entries}
use Rattle.su2_rows.proofs.KeptDiagonals.{energy_kept, no_energy}
use Rattle.su2_rows.proofs.RowEntries.{su2_row_length}

-- ---- the states
ones_zero : ones 0 ≡ 0
unfolding ones ones_in
ones_zero = refl

ones_some : (k x : ℕ) → x < 2 ^ k → 0 < x → 1 ≤ ones x
ones_some zero x h some = absurd (omega arith)
ones_some (suc k) x h some = go (dec_lt 0 (x % 2)) (λ half low. ones_some k (x / 2) low half)
  where
    go : Dec (0 < x % 2) → (0 < x / 2 → x / 2 < 2 ^ k → 1 ≤ ones (x / 2)) → 1 ≤ ones x
    go (yes odd) ih = omega (arith, ones_step x, odd)
    go (no even) ih =
        let half : 0 < x / 2 = omega arith in
        let low : x / 2 < 2 ^ k = omega (arith, pow-suc 2 k, h) in
        omega (arith, ones_step x, ih half low)

module _ (c : Complex) (accepted : Accepted c) where
  -- the first state is the empty set
  first_state : get_or (su2_states c) 0 0 ≡ 0
  first_state = go ((even_complete c accepted).every 0 (pow_pos (length c.edges)) (even_zero c accepted))
    where
      go : In 0 0 (su2_states c) → get_or (su2_states c) 0 0 ≡ 0
      go (zero, b, e) = e
      go (suc k, b, e) = absurd (omega (arith, (even_complete c accepted).ascending 0 (suc k) (omega arith) b, e))

  some_state : 0 < length (su2_states c)
  some_state = let r = (even_complete c accepted).every 0 (pow_pos (length c.edges)) (even_zero c accepted) in omega (arith, r.1)

  later_state : (i : ℕ) → 0 < i → i < length (su2_states c) → (1 ≤ ones (get_or (su2_states c) i 0)) × (ones (get_or (su2_states c) i 0) ≤ 64)
  later_state i some h =
      let x = get_or (su2_states c) i 0 in
      let listed : x < 2 ^ length c.edges = ((even_complete c accepted).only x (i, h, refl)).0 in
      let above : 0 < x = omega (arith, (even_complete c accepted).ascending 0 i some h) in
      let few = ones-le (length c.edges) x listed in
      (ones_some (length c.edges) x listed above, omega (arith, few, accepted.few_edges))

-- ---- all rows
total_constant : (k n : ℕ) → total (λ i. k) n ≡ k * n
unfolding total
total_constant k zero = omega arith
total_constant k (suc n) = omega (arith, total_constant k n)

module _ (c : Complex) (accepted : Accepted c) (p : KSParams) (right : su2_right p ≡ true) (w : ℕ → Float) where
  first_row : length (su2_row c p w 0) ≡ length c.triangles
  unfolding su2_diagonal
  first_row =
      let none : kept (su2_diagonal c p 0) ≡ false = rw (first_state c accepted, ones_zero) (no_energy p right) in
      su2_row_length c accepted p w 0 (some_state c accepted) ∙ rw none (zero-add (length c.triangles))

  later_row : (i : ℕ) → i < length (su2_states c) → i ≢ 0 → length c.triangles + 1 ≡ length (su2_row c p w i)
  unfolding su2_diagonal
  later_row i h other =
      let edges = later_state c accepted i (omega arith) h in
      let some : kept (su2_diagonal c p i) ≡ true = energy_kept p right (ones (get_or (su2_states c) i 0)) edges.0 edges.1 in
      sym (su2_row_length c accepted p w i h ∙ rw some (add_comm 1 (length c.triangles)))

  pub entries_number : su2_entries c p w ≡ (length c.triangles + 1) * length (su2_states c) - 1
  unfolding su2_entries
  entries_number =
      let all = total_more (λ i. length c.triangles + 1) (λ i. length (su2_row c p w i)) 0 (length (su2_states c)) (some_state c accepted) (sym (ap (λ k. k + 1) first_row)) (λ i h other. later_row i h other) in
      omega (arith, rows_length (su2_row c p w) (length (su2_states c)), all, total_constant (length c.triangles + 1) (length (su2_states c)))
