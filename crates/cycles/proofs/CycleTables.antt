-- The table of fundamental cycles of an accepted record, as the code fills it.
use Prim.Native.Nat.{ℕ, suc, ◌+◌, ◌*◌, ◌^◌, ◌≤◌, ◌<◌}
use mathlib.Core.List.{List, [], ◌++◌}
use mathlib.Core.Path.{◌≡◌, sym, ◌∙◌, ap, subst}
use mathlib.Core.Logic.{◌≢◌}
use native.Mathlib.Omega.{arith}
use native.Mathlib.Numerals.{add-one}
use native.Mathlib.Decide.{ℕ_discrete, dec_lt}
use lib.IntN.{ℤ, pos, negsuc, ◌-ℤ◌, nat_abs}
use lib.ListN.{get_or, length, take, drop, set, replicate, length-replicate, length-set, get_or-eq_default}
use lib.Seq.{paste, get_or-take, length-paste}
use lib.Signed.{mag}
use mir.Syntax.{w8}
use mir.Val.{to_z, of_z}
use mir.Facts.{to_z-of_z}
use Rattle.mathematics.proofs.Front.{front_more}
use Rattle.mathematics.proofs.Signed.{size_fits, back8}
use Rattle.mathematics.proofs.Ordered.{place_member, each_at}
use Rattle.complex.specs.declared.SimplicialComplex.{SimplicialComplex}
use Rattle.complex.specs.Complex.{Simplex, Complex, entries, start, end, complex_of}
use Rattle.complex.specs.Judge.{refusal, Accepted}
use Rattle.complex.proofs.Simplices.{simplex_at}
use Rattle.complex.proofs.Accepting.{accepted}
use Rattle.gauss_law.specs.Listing.{tree_edges, free_edges}
use Rattle.numbers.specs.declared.edge_list.EdgeList.{EdgeList}
use Rattle.gauss_law.specs.Spanning.{FreeOf}
use Rattle.gauss_law.proofs.Free.{free_below}
use Rattle.gauss_law.proofs.Accepted.{accepted_ends}
use Rattle.gauss_law.proofs.Spanned.{edges_long}
use Rattle.cycles.specs.Cycles.{row, with_cycle, Cycle, PathTable, Subtractable, Differing, cycle_row, CycleTable}
use Rattle.mathematics.proofs.Integers.{minus_one_times}
use Rattle.cycles.proofs.Adding.{added_at, added_length, zeros_at}
use Rattle.mathematics.proofs.Pasted.{entry_paste, entry_set}
use Rattle.cycles.proofs.Rows.{row_at, row_length, row_written, row_kept, row_set, row_set_other}
use Rattle.cycles.proofs.Paths.{found, fundamental}

abbrev Sign : ℤ → Type 0
Sign x = nat_abs x ≤ 1

-- ---- two paths subtracted
module _ (paths : List ℤ) (a b m : ℕ) (ready : Subtractable paths a b m) where
  abbrev first : List ℤ
  first = row m paths a

  abbrev second : List ℤ
  second = row m paths b

  first_long : length first ≡ m
  first_long = row_length m ready.few paths a (omega (arith, ready.few, ready.first, ready.long))

  second_long : length second ≡ m
  second_long = row_length m ready.few paths b (omega (arith, ready.few, ready.second, ready.long))

  pub difference_long : length (with_cycle first (negsuc 0) second) ≡ m
  difference_long = added_length first (negsuc 0) second ∙ first_long

  difference_entry : (e : ℕ) → e < m → get_or (with_cycle first (negsuc 0) second) e (pos 0) ≡ get_or paths (63 * a + e) (pos 0) -ℤ get_or paths (63 * b + e) (pos 0)
  difference_entry e h =
      added_at first (negsuc 0) second e (second_long ∙ sym first_long)
      ∙ rw (minus_one_times (get_or second e (pos 0)), row_at m ready.few paths a e h, row_at m ready.few paths b e h)

  pub difference_signs : (e : ℕ) → Sign (get_or (with_cycle first (negsuc 0) second) e (pos 0))
  difference_signs e = go (dec_lt e m)
    where
      go : Dec (e < m) → Sign (get_or (with_cycle first (negsuc 0) second) e (pos 0))
      go (yes h) = rw (difference_entry e h) (ready.signs e h)
      go (no h) = rw (get_or-eq_default (with_cycle first (negsuc 0) second) (pos 0) {n = e} (omega (arith, difference_long))) (omega arith)

  pub paths_differ : Differing m first second
  paths_differ =
      record {
        first = first_long;
        second = second_long;
        signs = λ e h. rw (row_at m ready.few paths a e h, row_at m ready.few paths b e h) (ready.signs e h);
      }

-- one entry more of a list less another goes to a third list
pub difference_more : (s t old now : List ℤ) (e : ℕ) → Differing (length old) s t → e < length old → now ≡ take e (with_cycle s (negsuc 0) t) ++ drop e old
    → mag (get_or s e (pos 0)) < 2 ^ 7 → mag (get_or t e (pos 0)) < 2 ^ 7
    → set now e (to_z w8 (of_z w8 (to_z w8 (of_z w8 (get_or s e (pos 0))) -ℤ to_z w8 (of_z w8 (get_or t e (pos 0)))))) ≡ take (e + 1) (with_cycle s (negsuc 0) t) ++ drop (e + 1) old
difference_more s t old now e h here so_far x y =
    let p = get_or s e (pos 0) in
    let q = get_or t e (pos 0) in
    let read : to_z w8 (of_z w8 (to_z w8 (of_z w8 p) -ℤ to_z w8 (of_z w8 q))) ≡ p -ℤ q = rw (back8 p x, back8 q y) (to_z-of_z (size_fits w8 (p -ℤ q) (omega (arith, h.signs e here)))) in
    let entry : get_or (with_cycle s (negsuc 0) t) e (pos 0) ≡ p -ℤ q = added_at s (negsuc 0) t e (h.second ∙ sym h.first) ∙ rw (minus_one_times q) in
    front_more old (with_cycle s (negsuc 0) t) now e (pos 0) (added_length s (negsuc 0) t ∙ h.first) so_far _ here (read ∙ sym entry)

-- ---- the cycles of an accepted record
pub free_listed : (c : Complex) (free : EdgeList) → FreeOf c free → (j : ℕ) → j < free.count → get_or free.list j 0 ≡ get_or (free_edges c) j 0
free_listed c free is j h = sym (get_or-take free.count free.list j 0 h) ∙ ap (λ l. get_or l j 0) is.stands

module _ (c : SimplicialComplex) (good : refusal (complex_of c) ≡ 0) (paths : List ℤ) (table : PathTable (complex_of c) (length (tree_edges (complex_of c))) paths) (free : EdgeList) (is : FreeOf (complex_of c) free) where
  right : Accepted (complex_of c)
  right = (accepted c).0 good

  abbrev es : List Simplex
  es = (complex_of c).edges

  few : length es ≤ 63
  few = right.few_edges

  module _ (j : ℕ) (more : j < length (free_edges (complex_of c))) where
    abbrev edge : ℕ
    edge = get_or (free_edges (complex_of c)) j 0

    abbrev sides : Simplex
    sides = entries c.edges (2 * edge) 2

    inside : edge < length es
    inside = each_at 0 (free_below (complex_of c)) j more

    pub inside_code : edge < c.n_edges
    inside_code = rw (edges_long c) at inside

    sides_are : get_or es edge [] ≡ sides
    unfolding complex_of
    sides_are = simplex_at 2 c.edges c.n_edges edge inside_code

    ends : (start sides < c.n_vertices) × (end sides < c.n_vertices) × (c.n_vertices ≤ 64)
    unfolding complex_of
    ends = let r = rw sides_are at (accepted_ends (complex_of c) right edge inside) in (omega (arith, r.0, r.1), r.1, right.few_vertices)

    pub subtractable : Subtractable paths (start sides) (end sides) (length es)
    unfolding complex_of
    subtractable =
        let a = found (complex_of c) right (start sides) ends.0 in
        let b = found (complex_of c) right (end sides) ends.1 in
        record {
          long = table.long;
          first = omega (arith, ends.0, ends.2);
          second = omega (arith, ends.1, ends.2);
          few = few;
          signs = λ e h. rw (← (row_at (length es) few paths (start sides) e h), ← (row_at (length es) few paths (end sides) e h)) (rw (a.2, b.2) at (table.paths.signs a.0 b.0 a.1 b.1 e));
        }

    -- one row more
    closed_rows : (old : List ℤ) → CycleTable (complex_of c) j old → CycleTable (complex_of c) (suc j) (cycle_row old j paths (length es) sides edge)
    unfolding cycle_row
    closed_rows old h =
        record {
          long = length-set written (63 * j + edge) (pos 1) ∙ copied ∙ h.long;
          cycles = λ k l. cycle k l (ℕ_discrete k j);
          signs = entry_set Sign written (63 * j + edge) (pos 1) (pos 0) (omega arith) (entry_paste Sign old (63 * j) difference m (pos 0) (room j (omega arith)) (omega (arith, long)) h.signs (difference_signs paths (start sides) (end sides) m subtractable));
        }
      where
        m : ℕ
        m = length es

        difference : List ℤ
        difference = with_cycle (row m paths (start sides)) (negsuc 0) (row m paths (end sides))

        long : length difference ≡ m
        long = difference_long paths (start sides) (end sides) m subtractable

        written : List ℤ
        written = paste old (63 * j) difference m

        new : List ℤ
        new = set written (63 * j + edge) (pos 1)

        room : (k : ℕ) → k ≤ j → 63 * k + m ≤ length old
        room k l = omega (arith, few, h.long, is.few, is.count)

        copied : length written ≡ length old
        copied = length-paste old (63 * j) difference m (room j (omega arith)) (omega (arith, long))

        wide : (k : ℕ) → k ≤ j → 63 * k + m ≤ length written
        wide k l = omega (arith, room k l, copied)

        made : row m new j ≡ set difference edge (pos 1)
        made =
            row_set m few written j (wide j (omega arith)) edge inside (pos 1)
            ∙ ap (λ l. set l edge (pos 1)) (row_written m few old j (room j (omega arith)) difference long)

        kept : (k : ℕ) → k ≤ j → k ≢ j → row m new k ≡ row m old k
        kept k l n =
            row_set_other m few written j (wide j (omega arith)) edge inside (pos 1) k n (wide k l)
            ∙ row_kept m few old j (room j (omega arith)) difference long k n (room k l)

        own : Cycle (complex_of c) edge (row m new j)
        own =
            rw made
            (rw sides_are at
            (fundamental (complex_of c) right (row m paths) table.paths edge (place_member 0 (free_edges (complex_of c)) j more)))

        cycle : (k : ℕ) → k < suc j → Dec (k ≡ j) → Cycle (complex_of c) (get_or (free_edges (complex_of c)) k 0) (row m new k)
        cycle k l (yes e) = rw e own
        cycle k l (no n) = rw (kept k (omega arith) n) (h.cycles k (omega arith))

    pub close_more : (old : List ℤ) → CycleTable (complex_of c) j old → CycleTable (complex_of c) (j + 1) (cycle_row old j paths c.n_edges sides edge)
    close_more old h =
        subst (λ k. CycleTable (complex_of c) k (cycle_row old j paths c.n_edges sides edge)) (sym (add-one j))
        (subst (λ m. CycleTable (complex_of c) (suc j) (cycle_row old j paths m sides edge)) (edges_long c) (closed_rows old h))

    pub close_ready : Subtractable paths (get_or c.edges (2 * edge) 0) (get_or c.edges (2 * edge + 1) 0) c.n_edges
    unfolding entries
    close_ready = subst (λ m. Subtractable paths (start sides) (end sides) m) (edges_long c) subtractable

  pub no_cycles : CycleTable (complex_of c) 0 (replicate 3969 (pos 0))
  no_cycles =
      record {
        long = length-replicate 3969 (pos 0);
        cycles = λ j h. absurd (omega arith);
        signs = λ i. rw (zeros_at 3969 i) (omega arith);
      }
