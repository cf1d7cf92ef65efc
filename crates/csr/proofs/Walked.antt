-- The walk over the states finds the entries of each row, and so its rows are the rows.
use Prim.Native.Nat.{ℕ, zero, suc, ◌+◌, ◌*◌, ◌<◌, ◌≤◌}
use mathlib.Core.List.{List, [], ◌∷◌}
use mathlib.Core.Path.{◌≡◌, sym, ap, ap₂, ◌∙◌}
use native.Mathlib.Omega.{arith}
use lib.IntN.{ℤ}
use lib.Ieee.{Float}
use lib.ListN.{get_or, length, get_or-replicate}
use Rattle.complex.specs.Complex.{Complex, entries}
use Rattle.complex.proofs.TriangleEdges.{triangle_sides}
use Rattle.gauss_law.specs.Listing.{states}
use Rattle.matrices.specs.declared.coupling.KSParams.{KSParams}
use Rattle.matrices.specs.Squares.{squares, energy}
use Rattle.rows.specs.Row.{diagonal_first, ColumnsDiffer}
use Rattle.rows.specs.RowLists.{SortedRows}
use Rattle.plaquettes.proofs.TriangleTelling.{state_there}
use Rattle.moves.specs.Moves.{collected, pointed, triangle_at, moved_entries, MoveAt, Behind, Pointers, StateMoves}
use Rattle.moves.proofs.Arriving.{behind_next, collected_told}
use Rattle.entries.specs.Rows.{diagonal, csr_row}
use Rattle.csr.specs.Fill.{Walk, entries_from, pointers_after, pointers_at, walk_entries, Walking, WalkOf}
use Rattle.csr.proofs.Found.{found_row}
use Rattle.csr.proofs.Filling.{walk_pointers}

module _ {c : Complex} {L : ℕ} {p : KSParams} {w : ℕ → Float} {free : List ℕ} {v : Walk} (is : WalkOf c L p w free v) where
  abbrev N : ℕ
  N = length (states c L)

  move_there : (k : ℕ) → k < v.count → MoveAt c L p w free v.moves k
  move_there k h = is.moves_are.each k (rw (← is.count) h)

  moves_few : v.count ≤ 512
  moves_few = omega (arith, is.count, is.accepted.few_triangles)

  module _ (i : ℕ) (h : i < N) (pointers : List ℕ) (behind : Behind c L v.moves v.count pointers i) (truncation n : ℕ) (s : List ℤ) (truncation_is : truncation ≡ L) (n_is : n ≡ N) (s_is : s ≡ get_or (states c L) i []) where
    -- the pointers after row i are behind the targets of the next states
    behind_after : Pointers n pointers → Behind c L v.moves v.count (pointed v.moves truncation v.numbers n s (v.numbers i) pointers v.count) (i + 1)
    behind_after right =
        rw (truncation_is, n_is, s_is)
        (behind_next c is.accepted L p w free is.listed is.candidates v.moves is.moves_are.sides_are v.count move_there v.numbers is.numbers_are pointers i h behind (rw n_is at right) moves_few)

    -- and the entries of row i are found
    found_here : (x : Float) → x ≡ energy p.electric (squares (get_or (states c L) i [])) → collected v.moves truncation v.numbers n s (v.numbers i) pointers i x v.count ≡ diagonal_first i (diagonal p (get_or (states c L) i [])) (moved_entries c L p w v.moves i (2 * length c.triangles))
    unfolding diagonal
    found_here x x_is =
        rw (truncation_is, n_is, s_is, x_is)
        (collected_told c is.accepted L p w free is.listed is.candidates v.moves is.moves_are.sides_are v.count move_there v.numbers is.numbers_are pointers i h behind (energy p.electric (squares (get_or (states c L) i []))) v.count (omega arith)
        ∙ ap (λ n. diagonal_first i (diagonal p (get_or (states c L) i [])) (moved_entries c L p w v.moves i n)) is.count)

  -- the pointers before row i are behind the targets from there on
  behind_at : (i : ℕ) → i ≤ N → Behind c L v.moves v.count (pointers_at v i) i
  unfolding pointers_at pointers_after
  behind_at zero h = λ k small j low below. rw (get_or-replicate {A = ℕ} 512 k 0 0 (omega (arith, moves_few))) (omega arith)
  behind_at (suc i) h =
      let next = behind_after i h (pointers_at v i) (behind_at i (omega arith)) v.truncation v.states (v.state i) is.truncation is.count_states (is.state_is i h) (walk_pointers v i) in
      λ k small j low below. next k small j (omega arith) below

  entries_told : (i : ℕ) → i < N → walk_entries v i ≡ diagonal_first i (diagonal p (get_or (states c L) i [])) (moved_entries c L p w v.moves i (2 * length c.triangles))
  unfolding walk_entries entries_from
  entries_told i h =
      found_here i h (pointers_at v i) (behind_at i (omega arith)) v.truncation v.states (v.state i) is.truncation is.count_states (is.state_is i h) (energy v.electric (squares (v.state i)))
      (ap₂ (λ a b. energy a (squares b)) is.factor (is.state_is i h))

  pub entries_differ : (i : ℕ) → i < N → ColumnsDiffer (walk_entries v i)
  entries_differ i h = rw (entries_told i h) (found_row c is.accepted L p w free v.moves is.moves_are i h).0

  -- so its rows, sorted, are the rows
  pub rows_told : SortedRows (walk_entries v) (csr_row c L p w) N
  rows_told i h = rw (entries_told i h) (found_row c is.accepted L p w free v.moves is.moves_are i h).1

  pub walking : Walking v
  walking =
      record {
        few = rw is.count_states is.few;
        moves_few = moves_few;
        each = λ i h. let there : i < N = omega (arith, is.count_states) in moving i there v.truncation (v.state i) is.truncation (is.state_is i there);
      }
    where
      moving : (i : ℕ) → i < N → (truncation : ℕ) (s : List ℤ) → truncation ≡ L → s ≡ get_or (states c L) i [] → StateMoves v.moves v.count truncation s
      moving i h truncation s truncation_is s_is =
          let state = state_there c is.accepted L i h in
          rw (truncation_is, s_is)
          (record {
            truncation = is.small;
            movable = λ k small.
                let move = move_there k small in
                let ends = triangle_sides c is.accepted (triangle_at v.moves k) move.inside in
                let edges : entries v.moves.sides (3 * triangle_at v.moves k) 3 ≡ ends.i ∷ ends.j ∷ ends.k ∷ [] = sym (is.moves_are.sides_are.are _ move.inside) ∙ ends.numbers in
                rw edges (record { small = λ e b. let t = state.within e (rw (← state.sized) b) in omega (arith, t, is.small); first_below = rw state.sized ends.i_below; second_below = rw state.sized ends.j_below; third_below = rw state.sized ends.k_below });
          })
