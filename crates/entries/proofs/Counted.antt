-- How many entries the rows have: in each the moves that stay within -L to L, and one for a diagonal that is kept.
use Prim.Native.Nat.{ℕ, zero, suc, ◌+◌, ◌<◌, ◌≤◌}
use mathlib.Core.List.{List, [], ◌∷◌, ◌++◌, flat_map}
use mathlib.Core.Bool.{cond}
use mathlib.Core.Path.{◌≡◌, refl, sym, ap, ap₂, ◌∙◌}
use native.Mathlib.Numerals.{add-one}
use native.Mathlib.Omega.{arith}
use lib.IntN.{ℤ}
use lib.Ieee.{Float}
use lib.ListN.{get_or, length, take, length-append}
use lib.Seq.{take_all}
use Rattle.mathematics.specs.Counting.{below}
use Rattle.mathematics.proofs.Flat.{flat_map_last}
use Rattle.mathematics.proofs.Front.{take_next}
use Rattle.complex.specs.Complex.{Complex}
use Rattle.complex.specs.Judge.{Accepted}
use Rattle.gauss_law.specs.Listing.{states}
use Rattle.matrices.specs.declared.coupling.KSParams.{KSParams}
use Rattle.matrices.specs.Terms.{row_plaquette_term}
use Rattle.rows.specs.Row.{kept}
use Rattle.rows.specs.RowLists.{rows_to}
use Rattle.rows.proofs.RowOf.{row_length}
use Rattle.plaquettes.specs.Joined.{joins, arrivals}
use Rattle.plaquettes.proofs.Joined.{arrivals_below, arrivals_count}
use Rattle.entries.specs.Rows.{diagonal, csr_row, csr_entries}
use Rattle.entries.specs.Count.{row_count, over_states}
use Rattle.entries.proofs.Once.{no_column_twice}

row_counted : (c : Complex) → Accepted c → (L : ℕ) (p : KSParams) (w : ℕ → Float) (i : ℕ) → i < length (states c L) → length (csr_row c L p w i) ≡ row_count c L p (get_or (states c L) i [])
unfolding csr_row row_count
row_counted c accepted L p w i h =
    let once = no_column_twice c accepted L in
    row_length (diagonal p (get_or (states c L) i [])) (λ t j. joins c L t i j) (λ t. row_plaquette_term p (w t)) (length c.triangles) (length (states c L)) i h
    (arrivals c L i (length c.triangles)) (once.once i h) (arrivals_below c accepted L i h) (λ j k. once.others i j h k)
    ∙ ap (λ k. cond (kept (diagonal p (get_or (states c L) i []))) 1 0 + k) (arrivals_count c accepted L i h)

-- ---- all rows
module _ (f : List ℤ → ℕ) where
  over_append : (l m : List (List ℤ)) → over_states f (l ++ m) ≡ over_states f l + over_states f m
  unfolding over_states
  over_append [] m = omega arith
  over_append (s ∷ l) m = omega (arith, over_append l m)

  -- one state more
  pub over_next : (ss : List (List ℤ)) (k : ℕ) → k < length ss → over_states f (take (k + 1) ss) ≡ over_states f (take k ss) + f (get_or ss k [])
  unfolding over_states
  over_next ss k h = rw (take_next ss k [] h) (over_append (take k ss) (get_or ss k [] ∷ []) ∙ omega arith)

  -- counted up to a state, and up to the next
  module _ (ss : List (List ℤ)) where
    pub counted_none : (k : ℕ) → k ≡ 0 → 0 ≡ over_states f (take k ss)
    unfolding over_states
    counted_none k none = rw none

    pub counted_more : (k next total r : ℕ) (s : List ℤ) → total ≡ over_states f (take k ss) → r ≡ f s → s ≡ get_or ss k [] → k < length ss → next ≡ k + 1 → total + r ≡ over_states f (take next ss)
    counted_more k next total r s so_far here is there on = ap₂ (λ a b. a + b) so_far (here ∙ ap f is) ∙ sym (over_next ss k there) ∙ ap (λ n. over_states f (take n ss)) (sym on)

    pub counted_all : (k total : ℕ) → total ≡ over_states f (take k ss) → k ≡ length ss → total ≡ over_states f ss
    counted_all k total so_far end = so_far ∙ ap (over_states f) (take_all k ss (omega (arith, end)))

-- the same of each state
pub over_same : (f g : List ℤ → ℕ) (ss : List (List ℤ)) → ((i : ℕ) → i < length ss → f (get_or ss i []) ≡ g (get_or ss i [])) → over_states f ss ≡ over_states g ss
unfolding over_states
over_same f g [] h = refl
over_same f g (s ∷ ss) h = ap₂ (λ a b. a + b) (h 0 (omega arith)) (over_same f g ss (λ i k. h (suc i) (omega arith)))

module _ (c : Complex) (accepted : Accepted c) (L : ℕ) (p : KSParams) (w : ℕ → Float) where
  rows_counted : (k : ℕ) → k ≤ length (states c L) → length (rows_to (csr_row c L p w) k) ≡ over_states (row_count c L p) (take k (states c L))
  unfolding rows_to below flat_map over_states
  rows_counted zero h = refl
  rows_counted (suc k) h =
      ap length (flat_map_last (csr_row c L p w) (below k) k)
      ∙ length-append (rows_to (csr_row c L p w) k) (csr_row c L p w k)
      ∙ ap₂ (λ a b. a + b) (rows_counted k (omega arith)) (row_counted c accepted L p w k h)
      ∙ sym (ap (λ n. over_states (row_count c L p) (take n (states c L))) (sym (add-one k)) ∙ over_next (row_count c L p) (states c L) k h)

  -- the entries of the rows are as many as are counted state by state
  pub entries_counted : csr_entries c L p w ≡ over_states (row_count c L p) (states c L)
  unfolding csr_entries
  entries_counted = rows_counted (length (states c L)) (omega arith) ∙ ap (over_states (row_count c L p)) (take_all (length (states c L)) (states c L) (omega arith))
