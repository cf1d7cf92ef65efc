-- The tables of an accepted record fit, and walk over all its states.
use Prim.Native.Nat.{ℕ, ◌+◌, ◌-◌, ◌*◌, ◌^◌, ◌≤◌, ◌<◌}
use mathlib.Core.List.{List, ◌++◌}
use mathlib.Core.Path.{◌≡◌, refl, sym, ◌∙◌, ap}
use native.Mathlib.Omega.{arith}
use native.Mathlib.Nat.{mul-le-mul}
use lib.IntN.{ℤ, pos, nat_abs}
use lib.ListN.{get_or, length, take, drop, replicate, length-replicate, length-append, length-drop}
use lib.Seq.{take_at}
use Rattle.mathematics.proofs.Ordered.{each_at, place_member}
use Rattle.mathematics.proofs.Below.{member_listed, same_place}
use Rattle.mathematics.proofs.Sums.{sum_zero}
use Rattle.complex.specs.declared.SimplicialComplex.{SimplicialComplex}
use Rattle.complex.specs.Complex.{Complex, complex_of}
use Rattle.complex.specs.Judge.{refusal}
use Rattle.complex.proofs.Accepting.{accepted}
use Rattle.gauss_law.specs.Listing.{free_edges, listing}
use Rattle.numbers.specs.declared.edge_list.EdgeList.{EdgeList}
use Rattle.gauss_law.specs.Spanning.{FreeOf}
use Rattle.gauss_law.proofs.Free.{free_below, free_once}
use Rattle.gauss_law.proofs.Spanned.{edges_long}
use Rattle.walker.specs.declared.tables.Walker.{Walker}
use Rattle.cycles.specs.Cycles.{row, CycleTable, Tables}
use Rattle.walker.specs.Walker.{lowest_candidate, walked}
use Rattle.walker.specs.Steps.{Small, CyclesFit, Runs}
use Rattle.walker.specs.Tables.{Walks, begin_of, states_of, Fit}
use Rattle.cycles.proofs.Rows.{zero_row}
use Rattle.cycles.proofs.Adding.{zeros_at}
use Rattle.walker.proofs.Stepping.{cycle_long, cycle_signs}
use Rattle.walker.proofs.Begun.{zeros_start, begin_sized, begin_low, begun_states, begun_long, begun_small}
use Rattle.cycles.proofs.CycleTables.{free_listed}

-- ---- where the walk begins
module _ (m n L : ℕ) (cycles : List ℤ) (fit : CyclesFit m n L cycles) where
  abbrev space : List ℤ
  space = take m (replicate 63 (pos 0))

  space_zeros : space ≡ replicate m (pos 0)
  space_zeros = zero_row 63 m 0 fit.edges_few (omega (arith, fit.edges_few))

  space_long : length space ≡ m
  space_long = ap length space_zeros ∙ length-replicate m (pos 0)

  pub begin_ready : Small (2 ^ 13) space × CyclesFit (length space) n L cycles
  begin_ready = (λ e. rw (space_zeros, zeros_at m e) (omega arith), rw space_long fit)

  module _ (new : List ℤ) (same : length new ≡ length space) (is : new ≡ lowest_candidate (row (length space) cycles) L space n) where
    begun : (rest : List ℤ) → take m (new ++ rest) ≡ lowest_candidate (row m cycles) L (replicate m (pos 0)) n
    begun rest = take_at new rest m (same ∙ space_long) ∙ (rw (space_long, space_zeros) at is)

    begun_room : length (new ++ drop m (replicate 63 (pos 0))) ≡ 63
    begun_room = rw (length-append new (drop m (replicate 63 (pos 0))), length-drop m (replicate 63 (pos 0))) (omega (arith, same, space_long, fit.edges_few))

-- ---- the tables are those of the record
pub few_edges : (c : SimplicialComplex) → refusal (complex_of c) ≡ 0 → c.n_edges ≤ 63
unfolding complex_of
few_edges c good = rw (edges_long c) at ((accepted c).0 good).few_edges

module _ (c : SimplicialComplex) (good : refusal (complex_of c) ≡ 0) (L : ℕ) (truncation : L ≤ 1000) (free : EdgeList) (is : FreeOf (complex_of c) free) (cycles : List ℤ) (table : CycleTable (complex_of c) (length (free_edges (complex_of c))) cycles) where
  pub cycles_may : CyclesFit c.n_edges free.count L cycles
  cycles_may =
      record {
        edges_few = few_edges c good;
        free_few = is.few;
        truncation = truncation;
        long = table.long;
        signs = table.signs;
      }

  pub tables_walk : (new : List ℤ) → length new ≡ length (take c.n_edges (replicate 63 (pos 0)))
      → new ≡ lowest_candidate (row (length (take c.n_edges (replicate 63 (pos 0)))) cycles) L (take c.n_edges (replicate 63 (pos 0))) free.count
      → Walks (complex_of c) L (record { n_edges = c.n_edges; n_free = free.count; free = free.list; cycles = cycles; first = new ++ drop c.n_edges (replicate 63 (pos 0)) })
  unfolding complex_of begin_of
  tables_walk new same made =
      record {
        accepted = (accepted c).0 good;
        neutral = sum_zero c.n_vertices;
        edges = sym (edges_long c);
        count = is.count;
        few = is.few;
        long = is.long;
        listed = λ j h. free_listed (complex_of c) free is j h;
        table = table;
        space = begun_room c.n_edges free.count L cycles cycles_may new same made;
        start = replicate c.n_edges (pos 0);
        starts = rw (edges_long c) at (zeros_start (complex_of c) refl);
        begins = begun c.n_edges free.count L cycles cycles_may new same made (drop c.n_edges (replicate 63 (pos 0)));
      }

-- ---- all states
module _ (c : Complex) (w : Walker) (L : ℕ) (walks : Walks c L w) where
  abbrev cycle : ℕ → List ℤ
  cycle = row (length c.edges) w.cycles

  cycles_fit : (k : ℕ) → k ≤ 1000 → CyclesFit (length c.edges) (length (free_edges c)) k w.cycles
  cycles_fit k h =
      record {
        edges_few = walks.accepted.few_edges;
        free_few = rw (← walks.count) walks.few;
        truncation = h;
        long = walks.table.long;
        signs = walks.table.signs;
      }

  pub walks_tables : Tables c w.free cycle
  walks_tables =
      record {
        edges = λ j h. walks.listed j (rw walks.count h);
        cycles = walks.table.cycles;
        first_sized = cycle_long (length c.edges) (length (free_edges c)) 0 w.cycles (cycles_fit 0 (omega arith)) 0 (omega arith);
        first_signs = cycle_signs (length c.edges) (length (free_edges c)) 0 w.cycles (cycles_fit 0 (omega arith)) 0 (omega arith);
      }

  begin_is : begin_of w ≡ lowest_candidate cycle L walks.start (length (free_edges c))
  begin_is = walks.begins ∙ rw (walks.edges, walks.count)

  lowest_long : length (lowest_candidate cycle L walks.start (length (free_edges c))) ≡ length c.edges
  lowest_long = begin_sized c walks.accepted walks.neutral w.free cycle walks_tables L walks.start walks.starts

  begin_long : length (begin_of w) ≡ length c.edges
  begin_long = ap length begin_is ∙ lowest_long

  -- the cycle of a free edge on another one
  others_zero : (i j : ℕ) → i < length (free_edges c) → j < length (free_edges c) → (i ≡ j → ⊥) → get_or (cycle j) (get_or (free_edges c) i 0) (pos 0) ≡ pos 0
  others_zero i j h k apart =
      (walks.table.cycles j k).others (get_or (free_edges c) i 0) (member_listed (place_member 0 (free_edges c) i h)) (λ e. apart (same_place 0 (free_once c) i j h k e))

  pub walks_runs : Runs w.free w.cycles L w.n_free (begin_of w)
  walks_runs =
      record {
        own = λ h. rw (begin_long, walks.listed 1 h) (walks.table.cycles 1 (rw walks.count at h)).own;
        others = λ j h k. rw (begin_long, walks.listed 1 (omega arith)) (others_zero 1 j (omega (arith, walks.count)) (omega (arith, walks.count)) (λ e. omega arith));
        low = λ h. rw (walks.listed 1 h, begin_is) (begin_low c walks.accepted walks.neutral w.free cycle walks_tables L walks.start walks.starts 1 (rw walks.count at h));
      }

  pub walks_fit : (k : ℕ) → L ≤ 1000 → k ≤ 2 ^ 20 → Fit w L k
  walks_fit k h few =
      record {
        edges = rw walks.edges walks.accepted.few_edges;
        space = walks.space;
        sized = begin_long ∙ sym walks.edges;
        walkable =
            record {
              cycles_fit = rw (begin_long, walks.count) (cycles_fit L h);
              free_fit = record { long = walks.long; inside = λ j m. rw (begin_long, walks.listed j m) (each_at 0 (free_below c) j (rw (← walks.count) m)) };
              few = few;
              values = λ i m e. rw (begin_is, lowest_long, walks.count) (small i e);
              sized = λ i. rw (begin_is, lowest_long, walks.count) (begun_long c walks.accepted walks.neutral w.free cycle walks_tables L walks.start walks.starts i);
            };
        runs = walks_runs;
      }
    where
      small : (i e : ℕ) → nat_abs (get_or (walked w.free cycle L (length (free_edges c)) (lowest_candidate cycle L walks.start (length (free_edges c))) i) e (pos 0)) ≤ 2 ^ 20
      small i e =
          omega (
            arith,
            begun_small c walks.accepted walks.neutral w.free cycle walks_tables L walks.start walks.starts i e,
            mul-le-mul (cycles_fit L h).free_few h,
          )

  pub walks_states : states_of w L ((2 * L + 1) ^ (w.n_free - 1)) ≡ listing c c.charges L
  unfolding states_of
  walks_states =
      rw (begin_is, walks.edges, walks.count) (sym (begun_states c walks.accepted walks.neutral w.free cycle walks_tables L walks.start walks.starts))
