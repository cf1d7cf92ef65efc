-- Runs: the rows behind the first of a run follow by the cycle, and the move keeps them; what a run adds is what its states add one by one.
use Prim.Native.Nat.{ℕ, zero, suc, ◌+◌, ◌-◌, ◌<◌, ◌≤◌}
use mathlib.Core.List.{List, [], ◌∷◌}
use mathlib.Core.Bool.{Bool, true, false, false≢true}
use mathlib.Core.Path.{◌≡◌, refl, sym, ap, ◌∙◌}
use native.Mathlib.Nat.{add-zero}
use native.Mathlib.Omega.{arith}
use native.Mathlib.Decide.{dec_lt}
use borrow.Author.Tests.{le-leb}
use lib.Dec.{eqb}
use lib.IntN.{ℤ, pos, negsuc, nat_abs, neg_ℤ, ◌+ℤ◌, ◌*ℤ◌, *ℤ-zero, +ℤ_idr}
use lib.Ieee.{Float}
use lib.ListN.{get_or, length, take}
use Rattle.gauss_law.proofs.Accepted.{states_ordered}
use Rattle.mathematics.specs.Integers.{equal}
use Rattle.mathematics.specs.Lists.{listed}
use Rattle.mathematics.proofs.Integers.{positive, negative, by_parts, parts_sum, equal_true}
use Rattle.complex.specs.Complex.{Complex}
use Rattle.gauss_law.specs.Gauss.{within}
use Rattle.gauss_law.specs.Listing.{free_edges, states}
use Rattle.cycles.proofs.Adding.{added_at}
use Rattle.walker.specs.declared.tables.Walker.{Walker}
use Rattle.walker.proofs.Fitting.{walks_tables}
use Rattle.enumeration.specs.Enumeration.{BasisWalks}
use Rattle.hilbert.specs.Search.{row}
use Rattle.triangles.specs.declared.Sides.{Sides}
use Rattle.triangles.specs.Indices.{SidesOf}
use Rattle.plaquettes.specs.declared.target.Sizes.{Sizes}
use Rattle.plaquettes.specs.Targets.{BasisList}
use Rattle.plaquettes.specs.Pairs.{stays, row_stays, NextStaying}
use Rattle.plaquettes.proofs.TriangleTelling.{state_there}
use Rattle.plaquettes.proofs.Targets.{there, row_is}
use Rattle.plaquettes.specs.Triangle.{target}
use Rattle.plaquettes.proofs.Moves.{small_everywhere}
use Rattle.plaquettes.proofs.Pairing.{movable_rows, stays_target, pair_target}
use Rattle.lanczos.specs.declared.state_runs.Run.{Run}
use Rattle.lanczos.specs.Walk.{run_added}
use Rattle.lanczos.specs.Runs.{Covers, CycleRun, MoveRun, RunRows, RunLength, RunGoes, RunOver, RunFound, FirstCycle}
use Rattle.lanczos.proofs.Neighbours.{run_states}
use Rattle.lanczos.proofs.Folds.{Way, way_miss, way_up, way_hit}

-- a shorter run
pub cycle_shorter : (L : ℕ) (r z : List ℤ) (edges : List ℕ) (count most k k' : ℕ) → 1 ≤ k' → k' ≤ k → CycleRun L r z edges count most k → CycleRun L r z edges count most k'
cycle_shorter L r z edges count most k k' some less run = record { some = some; limited = omega (arith, run.limited); inside = λ q l d h. run.inside q l d (omega arith) }

pub move_shorter : (L : ℕ) (r z : List ℤ) (edges : List ℕ) (u : ℤ) (most k k' : ℕ) → 1 ≤ k' → k' ≤ k → MoveRun L r z edges u most k → MoveRun L r z edges u k' k'
move_shorter L r z edges u most k k' some less run =
    record { some = some; limited = omega arith; first = λ d h. run.first d (omega arith); second = λ d h. run.second d (omega arith); third = λ d h. run.third d (omega arith) }

pub length_shorter : (list : List ℤ) (s : Sizes) (sides : Sides) (edges : List ℕ) (count : ℕ) (z : List ℤ) (u : ℤ) (k r r' : ℕ) → 1 ≤ r' → r' ≤ r → RunLength list s sides edges count z u k r → RunLength list s sides edges count z u k r'
length_shorter list s sides edges count z u k r r' some less run =
    record { cycle = cycle_shorter _ _ _ _ _ _ _ _ some less run.cycle; moves = move_shorter _ _ _ _ _ _ _ _ some less run.moves }

empty : (l : List ℕ) (e : ℕ) → length l ≡ 0 → listed eqb e l ≡ true → ⊥
unfolding listed
empty [] e h k = false≢true k
empty (x ∷ l) e h k = absurd (omega arith)

different : (y : ℤ) → equal y (pos 0) ≡ false → y ≡ pos 0 → ⊥
unfolding equal
different y f g = false≢true (sym f ∙ ap (λ w. equal w (pos 0)) g)

swapped : (x y u : ℤ) → (x +ℤ y) +ℤ u ≡ (x +ℤ u) +ℤ y
unfolding positive negative
swapped x y u = by_parts _ _ (omega (arith, parts_sum x y, parts_sum (x +ℤ y) u, parts_sum x u, parts_sum (x +ℤ u) y))

module _ (c : Complex) (list : List ℤ) (s : Sizes) (free : List ℕ) (basis : BasisList c list s free) where
  abbrev L : ℕ
  L = s.lambda

  -- without a free edge there is one state at most
  one_state : length (free_edges c) ≡ 0 → s.states ≤ 1
  one_state none = go (dec_lt 1 s.states)
    where
      go : Dec (1 < s.states) → s.states ≤ 1
      go (yes l) = let b = states_ordered c basis.accepted L 0 1 (omega arith) (there c list s free basis 1 l) in absurd (empty (free_edges c) b.edge none b.free)
      go (no l) = omega arith

  module _ (t : ℕ) (sides : Sides) (of : SidesOf c t sides) (edges : List ℕ) (count : ℕ) (z : List ℤ) (first : FirstCycle c z) (covers : Covers edges count z) where
    pub run_rows : RunRows list s sides edges count z
    run_rows =
        record {
          movable = movable_rows c list s free basis t sides of;
          values = λ k h e. rw (row_is c list s free basis k h) (small_everywhere c L (get_or (states c L) k []) (state_there c basis.accepted L k (there c list s free basis k h)) e);
          sized = first.sized ∙ sym basis.edges;
          signs = first.signs;
          covers = covers;
        }

    -- the rows of a run stay
    module _ (u : ℤ) (k r : ℕ) (h : k < s.states) (stay : row_stays list s sides u k ≡ true) (run : RunLength list s sides edges count z u k r) where
      base_is : row s.edges list k ≡ get_or (states c L) k []
      base_is = row_is c list s free basis k h

      long : length z ≡ length (get_or (states c L) k [])
      long = first.sized ∙ sym (state_there c basis.accepted L k (there c list s free basis k h)).sized

      inside : (d : ℕ) → d < r → (e : ℕ) → e < length c.edges → nat_abs (get_or (get_or (states c L) k []) e (pos 0) +ℤ pos d *ℤ get_or z e (pos 0)) ≤ L
      inside d l e below = go (equal (get_or z e (pos 0)) (pos 0)) refl
        where
          go : (b : Bool) → equal (get_or z e (pos 0)) (pos 0) ≡ b → nat_abs (get_or (get_or (states c L) k []) e (pos 0) +ℤ pos d *ℤ get_or z e (pos 0)) ≤ L
          go true is = rw (equal_true _ _ is, *ℤ-zero (pos d), +ℤ_idr (get_or (get_or (states c L) k []) e (pos 0))) ((state_there c basis.accepted L k (there c list s free basis k h)).within e below)
          go false is =
              let w = covers.all e (rw first.sized below) (λ zero-there. different _ is zero-there) in
              rw (base_is, w.2) at (run.cycle.inside w.0 w.1 d l)

      pub run_inside : (d : ℕ) → d < r → k + d < s.states
      run_inside d l = omega (arith, run.cycle.limited)

      pub run_stays : (d : ℕ) → d < r → row_stays list s sides u (k + d) ≡ true
      unfolding stays within
      run_stays d l = go (dec_lt 0 (length (free_edges c)))
        where
          go : Dec (0 < length (free_edges c)) → row_stays list s sides u (k + d) ≡ true
          go (yes some) =
              let at_d = run_states c basis.accepted L z (first.is some) k (there c list s free basis k h) d (λ k' l'. inside k' (omega arith)) in
              let state = get_or (states c L) k [] in
              let one : nat_abs ((get_or state sides.first (pos 0) +ℤ pos d *ℤ get_or z sides.first (pos 0)) +ℤ u) ≤ L = rw (swapped (get_or state sides.first (pos 0)) (pos d *ℤ get_or z sides.first (pos 0)) u) (rw base_is at (run.moves.first d l)) in
              let two : nat_abs ((get_or state sides.second (pos 0) +ℤ pos d *ℤ get_or z sides.second (pos 0)) +ℤ neg_ℤ u) ≤ L = rw (swapped (get_or state sides.second (pos 0)) (pos d *ℤ get_or z sides.second (pos 0)) (neg_ℤ u)) (rw base_is at (run.moves.second d l)) in
              let three_there : nat_abs ((get_or state sides.third (pos 0) +ℤ pos d *ℤ get_or z sides.third (pos 0)) +ℤ u) ≤ L = rw (swapped (get_or state sides.third (pos 0)) (pos d *ℤ get_or z sides.third (pos 0)) u) (rw base_is at (run.moves.third d l)) in
              rw (
                row_is c list s free basis (k + d) (run_inside d l),
                at_d.state,
                added_at (get_or (states c L) k []) (pos d) z sides.first long,
                added_at (get_or (states c L) k []) (pos d) z sides.second long,
                added_at (get_or (states c L) k []) (pos d) z sides.third long,
                le-leb _ _ one,
                le-leb _ _ two,
                le-leb _ _ three_there,
              )
          go (no none) =
              let few = one_state (omega arith) in
              let e : k + d ≡ k = omega (arith, few, run_inside d l, h) in
              rw e stay

    module _ (x : Float) (v old : List Float) where
      -- states that the move does not keep
      way_skip : (i from d : ℕ) (new : List Float) → i + d ≤ s.states → ((k : ℕ) → i ≤ k → k < i + d → row_stays list s sides (pos 1) k ≡ false) → Way c s t x v i from old new → Way c s t x v (i + d) from old new
      way_skip i from zero new h none way = rw (add-zero i) way
      way_skip i from (suc d) new h none way =
          let e : i + suc d ≡ i + d + 1 = omega arith in
          rw e (way_miss c list s free basis t sides of x v old (i + d) (omega arith) from new (way_skip i from d new (omega arith) (λ k a b. none k a (omega arith)) way) (none (i + d) (omega arith) (omega arith)))

      way_to : (i from a : ℕ) (new : List Float) → NextStaying list s sides (pos 1) i a → Way c s t x v i from old new → Way c s t x v a from old new
      way_to i from a new next way =
          let e : i + (a - i) ≡ a = omega (arith, next.not_before) in
          rw e at (way_skip i from (a - i) new (rw e next.in_list) (λ k l h. next.none_before k l (rw e at h)) way)

      -- the states of a run
      way_along : (a b n : ℕ) (new : List Float) → ((d : ℕ) → d < n → (a + d < s.states) × (row_stays list s sides (pos 1) (a + d) ≡ true)) → ((d : ℕ) → d < n → (b + d < s.states) × (row_stays list s sides (negsuc 0) (b + d) ≡ true))
          → Way c s t x v a b old new → Way c s t x v (a + n) (b + n) old (run_added x v a b n new)
      unfolding run_added
      way_along a b zero new forth back way = rw (add-zero a, add-zero b) way
      way_along a b (suc n) new forth back way =
          let e : a + suc n ≡ a + n + 1 = omega arith in
          let f : b + suc n ≡ b + n + 1 = omega arith in
          let here = forth n (omega arith) in
          let there_b = back n (omega arith) in
          rw (e, f)
          (way_hit c list s free basis t sides of x v old (a + n) here.0 (b + n) (run_added x v a b n new) (way_along a b n new (λ d l. forth d (omega arith)) (λ d l. back d (omega arith)) way) (b + n)
          (record {
            paired = λ h. record { not_before = omega arith; in_list = omega (arith, there_b.0); none_before = λ k l h. absurd (omega arith); there = λ h. there_b.1 };
            alone = λ h. absurd (false≢true (sym h ∙ here.1));
          })
          there_b.0)

      pub way_found : (i j : ℕ) (r : Run) (new : List Float) → r.from < s.states → RunGoes list s sides edges count z i j r → Way c s t x v i j old new
          → Way c s t x v (r.from + r.length) (r.to + r.length) old (run_added x v r.from r.to r.length new)
      way_found i j r new below goes way =
          let stay = goes.next.there below in
          let back = goes.back.there goes.below in
          way_along r.from r.to r.length new
          (λ d l. (run_inside (pos 1) r.from r.length below stay goes.forth_run d l, run_stays (pos 1) r.from r.length below stay goes.forth_run d l))
          (λ d l. (run_inside (negsuc 0) r.to r.length goes.below back goes.back_run d l, run_stays (negsuc 0) r.to r.length goes.below back goes.back_run d l))
          (way_up c list s free basis t sides of x v old r.from below j new (way_to i j r.from new goes.next way) r.to
          (record { paired = λ h. goes.back; alone = λ h. absurd (false≢true (sym h ∙ stay)) }) goes.below)

      pub way_over : (i j : ℕ) (r : Run) (new : List Float) → RunOver list s sides i j r → Way c s t x v i j old new → Way c s t x v s.states j old new
      way_over i j r new over way = go (dec_lt over.a s.states)
        where
          reached : Way c s t x v over.a j old new
          reached = way_to i j over.a new over.next way

          go : Dec (over.a < s.states) → Way c s t x v s.states j old new
          go (yes l) =
              let stay = over.next.there l in
              let e : over.b ≡ target c L t (pos 1) over.a = pair_target c list s free basis t sides of (pos 1) over.a j over.b l reached.parts (record { paired = λ h. over.back; alone = λ h. absurd (false≢true (sym h ∙ stay)) }) in
              absurd (omega (arith, e, over.missing l, stays_target c list s free basis t sides of (pos 1) over.a l stay))
          go (no l) = let e : over.a ≡ s.states = omega (arith, over.next.in_list) in rw e at reached

      -- past the last run every place parts the targets
      way_last : (j : ℕ) (new : List Float) → Way c s t x v s.states j old new → Way c s t x v s.states s.states old new
      way_last j new way =
          record {
            parts = record { earlier = λ k h l. rw basis.count l; later = λ k h l. absurd (omega (arith, h, l, basis.count)) };
            sums = way.sums;
          }

      pub way_next : (i j : ℕ) (r : Run) (new : List Float) → RunFound list s sides edges count z i j r → Way c s t x v i j old new
          → Way c s t x v (r.from + r.length) (r.to + r.length) old (run_added x v r.from r.to r.length new)
      unfolding run_added
      way_next i j r new found way = go (dec_lt r.from s.states)
        where
          go : Dec (r.from < s.states) → Way c s t x v (r.from + r.length) (r.to + r.length) old (run_added x v r.from r.to r.length new)
          go (yes l) = way_found i j r new l (found.goes l) way
          go (no l) =
              let over = found.over (omega arith) in
              rw (over.from_is, over.to_is, over.none, add-zero s.states) (way_last j new (way_over i j r new over way))

-- a run lies in the list, and goes on
pub run_bounds : (list : List ℤ) (s : Sizes) (sides : Sides) (edges : List ℕ) (count : ℕ) (z : List ℤ) (i j : ℕ) (r : Run) → RunFound list s sides edges count z i j r → i < s.states
    → (r.from + r.length ≤ s.states) × (r.to + r.length ≤ s.states) × (i < r.from + r.length)
run_bounds list s sides edges count z i j r found h = go (dec_lt r.from s.states)
  where
    go : Dec (r.from < s.states) → (r.from + r.length ≤ s.states) × (r.to + r.length ≤ s.states) × (i < r.from + r.length)
    go (yes l) =
        let goes = found.goes l in (
          omega (arith, goes.forth_run.cycle.limited, l),
          omega (arith, goes.back_run.cycle.limited, goes.below),
          omega (arith, goes.next.not_before, goes.some),
        )
    go (no l) =
        let over = found.over (omega arith) in
        (omega (arith, over.from_is, over.none), omega (arith, over.to_is, over.none), omega (arith, over.from_is, over.none))

-- ---- the first cycle of a walk
pub walk_cycle : (c : Complex) (L : ℕ) (w : Walker) (blocks : ℕ) → BasisWalks c L w blocks → FirstCycle c (take w.n_edges w.cycles)
walk_cycle c L w blocks basis =
    let tables = walks_tables c w L basis.walks in
    rw basis.walks.edges (record { sized = tables.first_sized; signs = tables.first_signs; is = λ some. tables.cycles 0 some })
