-- The rows that the tables of the triangles make are those of the Hamiltonian.
use Prim.Native.Nat.{ℕ, ◌+◌, ◌^◌, ◌≤◌, ◌<◌}
use mathlib.Core.List.{List}
use mathlib.Core.Path.{◌≡◌, sym, ap, ap₂, ◌∙◌}
use native.Mathlib.Decide.{ℕ_discrete}
use native.Mathlib.Omega.{arith}
use lib.Bits.{bit_xor}
use lib.Ieee.{Float, binary64, nan, mul}
use lib.ListN.{get_or, length, set, take}
use lib.Pow.{pow_mono, pow_pos}
use lib.Seq.{get_or-set_same, get_or-set_other}
use Rattle.std.proofs.lemmas.List.{get_or-take, length-take-le}
use Rattle.mathematics.proofs.Below.{below_each}
use Rattle.mathematics.proofs.Maps.{map_each}
use Rattle.mathematics.proofs.Ordered.{each_to}
use Rattle.complex.specs.Complex.{Complex}
use Rattle.complex.specs.Judge.{Accepted}
use Rattle.matrices.specs.declared.coupling.KSParams.{KSParams}
use Rattle.rows.specs.Row.{diagonal_first, ColumnsDiffer, Sorted}
use Rattle.su2_even_sets.specs.declared.Forest.{Forest}
use Rattle.su2_even_sets.specs.EvenSets.{su2_states, mask_place}
use Rattle.su2_masks.specs.Flips.{triangle_mask, su2_target}
use Rattle.su2_masks.specs.Place.{LoopsOf}
use Rattle.su2_masks.proofs.Placing.{states_number}
use Rattle.su2_masks.proofs.Flips.{su2_target_read, flip_within}
use Rattle.su2_rows.specs.Rows.{su2_diagonal, su2_row, table_entries, Tables}
use Rattle.su2_rows.proofs.RowEntries.{target_entries, entries_are}

module _ (c : Complex) (accepted : Accepted c) (p : KSParams) (w : ℕ → Float) (places : List ℕ) (terms : List Float) (tables : Tables c p w (length c.triangles) places terms)
    (states : List ℕ) (i : ℕ) (h : i < length (su2_states c)) (state : get_or states i 0 ≡ get_or (su2_states c) i 0) where
  abbrev T : ℕ
  T = length c.triangles

  -- the entries by the tables are those of the triangles
  tables_are : table_entries p.electric states places terms T i ≡ diagonal_first i (su2_diagonal c p i) (target_entries c p w i)
  unfolding table_entries su2_diagonal
  tables_are =
      rw state
      (ap (diagonal_first i (su2_diagonal c p i))
      (map_each (λ t. (bit_xor i (get_or places t 0), get_or terms t nan)) (λ t. (su2_target c t i, mul binary64 p.magnetic (w t)))
      (each_to (λ t number. ap₂ (λ (j : ℕ) (x : Float). (j, x)) (ap (bit_xor i) (tables.places_are t number) ∙ sym (su2_target_read c accepted t number i h)) (tables.terms_are t number)) (below_each T))))

  pub table_differ : ColumnsDiffer (table_entries p.electric states places terms (length c.triangles) i)
  table_differ = rw tables_are (entries_are c accepted p w i h).0

  pub table_sorted : Sorted (table_entries p.electric states places terms (length c.triangles) i) (su2_row c p w i)
  table_sorted = rw tables_are (entries_are c accepted p w i h).1

-- the place of a triangle's edges is below the number of states
pub place_few : (c : Complex) (f : Forest) → LoopsOf c f → f.count ≤ 20 → (t : ℕ) → t < length c.triangles → mask_place c (triangle_mask c t) < 2 ^ 20
place_few c f of few t number =
    let states = states_number c f of in
    let some : 0 < length (su2_states c) = rw states (pow_pos f.count) in
    let low : mask_place c (triangle_mask c t) < length (su2_states c) = flip_within c of.accepted t number 0 some in
    let most : 2 ^ f.count ≤ 2 ^ 20 = pow_mono few in
    omega arith

-- one triangle more
pub table_more : (c : Complex) (p : KSParams) (w : ℕ → Float) (places : List ℕ) (terms : List Float) (t place : ℕ) (x : Float) → t < length places → t < length terms
    → Tables c p w t places terms → place ≡ mask_place c (triangle_mask c t) → x ≡ mul binary64 p.magnetic (w t) → Tables c p w (t + 1) (set places t place) (set terms t x)
table_more c p w places terms t place x room room' so_far is term =
    record {
      places_are = λ k h. place_at k h (ℕ_discrete k t);
      terms_are = λ k h. term_at k h (ℕ_discrete k t);
    }
  where
    place_at : (k : ℕ) → k < t + 1 → Dec (k ≡ t) → get_or (set places t place) k 0 ≡ mask_place c (triangle_mask c k)
    place_at k h (yes e) = rw (e, get_or-set_same places t place 0 room) is
    place_at k h (no e) = rw (get_or-set_other places t k place 0 e) (so_far.places_are k (omega arith))

    term_at : (k : ℕ) → k < t + 1 → Dec (k ≡ t) → get_or (set terms t x) k nan ≡ mul binary64 p.magnetic (w k)
    term_at k h (yes e) = rw (e, get_or-set_same terms t x nan room') term
    term_at k h (no e) = rw (get_or-set_other terms t k x nan e) (so_far.terms_are k (omega arith))

-- the front of two lists says the same, and no more
pub tables_front : {c : Complex} {p : KSParams} {w : ℕ → Float} {n : ℕ} {places : List ℕ} {terms : List Float} (k : ℕ) → k ≡ n → k ≤ length places → k ≤ length terms → Tables c p w n places terms
    → Tables c p w n (take k places) (take k terms) × (length (take k places) ≡ n) × (length (take k places) ≡ length (take k terms))
tables_front {places} {terms} k e places_long terms_long of =
    let many = length-take-le k places places_long in (
      record {
        places_are = λ t h. get_or-take k places t 0 (rw e h) ∙ of.places_are t h;
        terms_are = λ t h. get_or-take k terms t nan (rw e h) ∙ of.terms_are t h;
      },
      many ∙ e,
      many ∙ sym (length-take-le k terms terms_long),
    )
