-- The entries of a row as its triangles give them. No two have one column, and sorted they are the row.
use Prim.Native.Nat.{ℕ, ◌+◌, ◌<◌}
use mathlib.Core.List.{List, map, map-map}
use mathlib.Core.Bool.{true, cond}
use mathlib.Core.Path.{◌≡◌, refl, ap, ◌∙◌}
use borrow.Author.Tests.{eq-eqb}
use lib.Ieee.{Float, binary64, mul}
use lib.ListN.{length, length-map}
use Rattle.mathematics.specs.Counting.{below}
use Rattle.mathematics.specs.Entries.{Each}
use Rattle.mathematics.proofs.Below.{length_below, below_each}
use Rattle.mathematics.proofs.Ordered.{each_to, each_map}
use Rattle.complex.specs.Complex.{Complex}
use Rattle.complex.specs.Judge.{Accepted}
use Rattle.matrices.specs.declared.coupling.KSParams.{KSParams}
use Rattle.rows.specs.Row.{kept, diagonal_first, ColumnsDiffer, Sorted}
use Rattle.rows.proofs.RowOf as row
use Rattle.su2_even_sets.specs.EvenSets.{su2_states}
use Rattle.su2_masks.specs.Flips.{su2_target, su2_targets, flips}
use Rattle.su2_masks.proofs.Flips.{su2_targets_below}
use Rattle.su2_rows.specs.Rows.{su2_diagonal, su2_row}
use Rattle.su2_rows.proofs.Once.{no_column_twice}

-- of each triangle the state to which it flips state i, and its magnetic factor × weight
abbrev target_entry : Complex → KSParams → (ℕ → Float) → ℕ → ℕ → ℕ × Float
target_entry c p w i t = (su2_target c t i, mul binary64 p.magnetic (w t))

abbrev pub target_entries : Complex → KSParams → (ℕ → Float) → ℕ → List (ℕ × Float)
target_entries c p w i = map (target_entry c p w i) (below (length c.triangles))

module _ (c : Complex) (accepted : Accepted c) (p : KSParams) (w : ℕ → Float) (i : ℕ) (h : i < length (su2_states c)) where
  abbrev T : ℕ
  T = length c.triangles

  abbrev n : ℕ
  n = length (su2_states c)

  -- one for each triangle, and one for the diagonal where it is kept
  pub su2_row_length : length (su2_row c p w i) ≡ cond (kept (su2_diagonal c p i)) 1 0 + length c.triangles
  unfolding su2_row
  su2_row_length =
      let once = no_column_twice c accepted in
      row.row_length (su2_diagonal c p i) (λ t j. flips c t i j) (λ t. mul binary64 p.magnetic (w t)) T n i h (su2_targets c i) (once.once i h) (su2_targets_below c accepted i h) (λ j k. once.others i j h k)
      ∙ ap (λ k. cond (kept (su2_diagonal c p i)) 1 0 + k) (length-map (below T) (λ t. su2_target c t i) ∙ length_below T)

  entries_columns : map (λ e. e.0) (target_entries c p w i) ≡ su2_targets c i
  entries_columns = map-map (λ (e : ℕ × Float). e.0) (target_entry c p w i) (below T)

  entries_right : Each (λ (e : ℕ × Float). (t : ℕ) × (t < T) × (flips c t i e.0 ≡ true) × (mul binary64 p.magnetic (w t) ≡ e.1)) (target_entries c p w i)
  unfolding flips
  entries_right = each_map (target_entry c p w i) (each_to (λ t number. (t, number, eq-eqb (su2_target c t i) (su2_target c t i) refl, refl)) (below_each T))

  abbrev entries_first : List (ℕ × Float)
  entries_first = diagonal_first i (su2_diagonal c p i) (target_entries c p w i)

  pub entries_are : ColumnsDiffer entries_first × Sorted entries_first (su2_row c p w i)
  unfolding su2_row
  entries_are =
      let once = no_column_twice c accepted in
      row.entries_row (su2_diagonal c p i) (λ t j. flips c t i j) (λ t. mul binary64 p.magnetic (w t)) T n i h (su2_targets c i) (once.once i h) (su2_targets_below c accepted i h) (λ j k. once.others i j h k)
      (λ t u j number number' k e e'. once.one_triangle t u i j number number' h e e') (target_entries c p w i) entries_columns entries_right
