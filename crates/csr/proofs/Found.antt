-- The entries that the moves give are those of the row, in whatever order the moves stand.
use Prim.Native.Nat.{ℕ, ◌*◌, ◌<◌}
use mathlib.Core.List.{List, [], ◌∷◌, map, flat_map}
use mathlib.Core.Bool.{Bool, true, false, cond}
use mathlib.Core.Path.{◌≡◌, refl, ◌∙◌}
use lib.IntN.{ℤ}
use lib.Ieee.{Float}
use lib.ListN.{get_or, length}
use Rattle.mathematics.specs.Counting.{below}
use Rattle.mathematics.specs.Entries.{Each, none, also}
use Rattle.mathematics.proofs.Flat.{map_flat_map, flat_map_same, each_joined}
use Rattle.mathematics.proofs.Ordered.{each_to}
use Rattle.complex.specs.Complex.{Complex}
use Rattle.complex.specs.Judge.{Accepted}
use Rattle.gauss_law.specs.Listing.{states}
use Rattle.matrices.specs.declared.coupling.KSParams.{KSParams}
use Rattle.matrices.specs.Terms.{row_plaquette_term}
use Rattle.rows.specs.Row.{diagonal_first, ColumnsDiffer, Sorted}
use Rattle.rows.proofs.RowOf.{entries_row}
use Rattle.plaquettes.specs.Triangle.{moved_state, sides_within, target}
use Rattle.plaquettes.specs.Joined.{joins, arrival}
use Rattle.plaquettes.proofs.Moves.{stays_at}
use Rattle.plaquettes.proofs.Joined.{goes_joins, one_triangle, AllMoves, targets_below, targets_own, targets_joined}
use Rattle.entries.specs.Rows.{diagonal, csr_row}
use Rattle.moves.specs.Moves.{Moves, triangle_at, unit_at, move_at, entry_of, moved_entries}
use Rattle.moves.specs.Tables.{MovesWritten}
use Rattle.moves.proofs.MoveNumbers.{unit_step, all_moves}

module _ (c : Complex) (accepted : Accepted c) (L : ℕ) (p : KSParams) (w : ℕ → Float) (free : List ℕ) (v : Moves) (written : MovesWritten c L p w free v) (i : ℕ) (h : i < length (states c L)) where
  abbrev T : ℕ
  T = length c.triangles

  abbrev N : ℕ
  N = length (states c L)

  -- the triangle and the unit of the move at place k
  abbrev t : ℕ → ℕ
  t = triangle_at v

  abbrev u : ℕ → ℤ
  u = unit_at v

  all : AllMoves T (2 * T) t u
  all = all_moves written accepted.few_triangles

  -- ---- their columns are the targets of state i
  abbrev targets : List ℕ
  targets = flat_map (λ k. arrival c L (t k) (u k) i) (below (2 * T))

  column : (k : ℕ) → map (λ e. e.0) (entry_of c L p w i (move_at v k)) ≡ arrival c L (t k) (u k) i
  unfolding entry_of arrival
  column k = go (sides_within c L (t k) (moved_state c L (t k) (u k) i))
    where
      go : (a : Bool) → map (λ (e : ℕ × Float). e.0) (cond a ((target c L (t k) (u k) i, row_plaquette_term p (w (t k))) ∷ []) []) ≡ cond a (target c L (t k) (u k) i ∷ []) []
      go true = refl
      go false = refl

  columns : map (λ e. e.0) (moved_entries c L p w v i (2 * T)) ≡ targets
  columns =
      map_flat_map (λ (e : ℕ × Float). e.0) (λ k. entry_of c L p w i (move_at v k)) (below (2 * T))
      ∙ flat_map_same (λ k. map (λ (e : ℕ × Float). e.0) (entry_of c L p w i (move_at v k))) (λ k. arrival c L (t k) (u k) i) (below (2 * T)) column

  -- ---- each has the term of a triangle that joins its column to state i
  abbrev Right : ℕ × Float → Type 0
  Right e = (r : ℕ) × (r < T) × (joins c L r i e.0 ≡ true) × (row_plaquette_term p (w r) ≡ e.1)

  entry_right : (k : ℕ) → k < 2 * T → Each Right (entry_of c L p w i (move_at v k))
  unfolding entry_of
  entry_right k b = go (sides_within c L (t k) (moved_state c L (t k) (u k) i)) refl
    where
      go : (a : Bool) → sides_within c L (t k) (moved_state c L (t k) (u k) i) ≡ a → Each Right (cond a ((target c L (t k) (u k) i, row_plaquette_term p (w (t k))) ∷ []) [])
      go true e =
          let number = (written.each k b).inside in
          also (t k, number, goes_joins c accepted L (t k) number i (target c L (t k) (u k) i) h (stays_at c accepted L (t k) number (u k) i h e).below (u k) (unit_step (move_at v k)) refl, refl) none
      go false e = none

  right : Each Right (moved_entries c L p w v i (2 * T))
  right = each_to (λ e a. a.2) (each_joined (λ k. entry_of c L p w i (move_at v k)) {P = λ k. Right} (2 * T) entry_right)

  -- ---- behind the diagonal their columns differ, and sorted they are row i
  pub found_row : ColumnsDiffer (diagonal_first i (diagonal p (get_or (states c L) i [])) (moved_entries c L p w v i (2 * T))) × Sorted (diagonal_first i (diagonal p (get_or (states c L) i [])) (moved_entries c L p w v i (2 * T))) (csr_row c L p w i)
  unfolding csr_row
  found_row =
      entries_row (diagonal p (get_or (states c L) i [])) (λ t j. joins c L t i j) (λ t. row_plaquette_term p (w t)) T N i h
      targets (targets_own c accepted L i h (2 * T) t u all) (targets_below c accepted L i h (2 * T) t u all) (targets_joined c accepted L i h (2 * T) t u all)
      (λ t u j number number' k one other. one_triangle c accepted L t u number number' i j h k one other)
      (moved_entries c L p w v i (2 * T)) columns right
