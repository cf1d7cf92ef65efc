-- What a walk reaches, sought in the list of the basis, and the sum over the states, one state more.
use Prim.Native.Nat.{ℕ, ◌+◌, ◌*◌, ◌<◌, ◌≤◌}
use mathlib.Core.List.{List, []}
use mathlib.Core.Bool.{Bool, true, false, ◌&&◌}
use mathlib.Core.Path.{◌≡◌, refl, sym, ◌∙◌}
use native.Mathlib.Omega.{arith}
use native.Mathlib.Numerals.{add-one}
use borrow.Author.Tests.{lt-ltb, ltb-true}
use lib.Dec.{ltb}
use lib.IntN.{ℤ, pos, nat_abs}
use lib.Ieee.{Float}
use lib.ListN.{get_or, length, length-take, length-drop}
use Rattle.gauss_law.proofs.Accepted.{states_ordered}
use Rattle.std.specs.Bool.{Decides}
use lib.Seq.{ext_get_or}
use Rattle.mathematics.specs.Entries.{Each}
use Rattle.mathematics.proofs.Ordered.{at_each}
use Rattle.mathematics.proofs.Tests.{and_parts, and_both, same_tests}
use Rattle.mathematics.proofs.Counting.{every_at, at_every}
use Rattle.mathematics.proofs.Integers.{equal_true, equal_self}
use Rattle.complex.specs.Complex.{Complex}
use Rattle.gauss_law.specs.Listing.{free_edges, states}
use Rattle.hilbert.specs.Basis.{in_basis, place, comes_before}
use Rattle.hilbert.specs.Search.{row, Ranked}
use Rattle.hilbert.proofs.Order.{in_basis_listed, in_basis_at, smaller_agree}
use Rattle.plaquettes.specs.declared.target.Sizes.{Sizes}
use Rattle.plaquettes.specs.Targets.{BasisList}
use Rattle.plaquettes.proofs.Targets.{row_is, there}
use Rattle.plaquettes.proofs.TriangleTelling.{state_there}
use Rattle.wilson.specs.Wilson.{Step, path_of, stays, walked, with_reached, wilson_sum, wilson}
use Rattle.wilson.specs.Walking.{PathFits, same_values, with_product, Summed}
use Rattle.wilson.proofs.Walks.{path_long, path_at}
use Rattle.wilson.proofs.Places.{place_within, before_place, places_rise, before_walked}

-- ---- rows that are compared
same_rows : (s t : List ℤ) → length s ≡ length t → same_values s t ≡ true → s ≡ t
unfolding same_values
same_rows s t long h = ext_get_or (pos 0) s t long (λ e k. equal_true _ _ (every_at _ (length s) h e k))

same_itself : (s : List ℤ) → same_values s s ≡ true
unfolding same_values
same_itself s = at_every _ (length s) (λ e k. equal_self (get_or s e (pos 0)))

-- a test of equal lists compares row j of a list with a configuration
pub row_compared : (list config : List ℤ) (j : ℕ) → j * length config + length config ≤ length list → (r : Bool) → Decides r (row (length config) list j ≡ config)
    → same_values (row (length config) list j) config ≡ r
row_compared list config j room r decides =
    let long : length (row (length config) list j) ≡ length config = rw (length-take, length-drop) (omega arith) in
    same_tests _ _ (λ h. decides.1 (same_rows _ config long h)) (λ h. rw (decides.0 h) (same_itself config))

-- the steps of a path are over edges
path_inside : (m : ℕ) (es : List ℕ) (ds : List ℤ) → PathFits m es ds → Each (λ (x : Step). x.0 < m) (path_of es ds)
path_inside m es ds fits =
    at_each (0, pos 0) (path_of es ds)
    (λ k h.
    let inside : k < length es = rw (← (path_long es ds fits.as_many)) h in
    rw (path_at es ds fits.as_many k inside) (fits.edges_below k inside))

module _ (c : Complex) (list : List ℤ) (s : Sizes) (free : List ℕ) (basis : BasisList c list s free) where
  abbrev L : ℕ
  L = s.lambda

  -- the values of a row are within the band
  pub row_small : (i : ℕ) → i < s.states → (e : ℕ) → e < s.edges → nat_abs (get_or (row s.edges list i) e (pos 0)) ≤ L
  row_small i h e k = rw (row_is c list s free basis i h) ((state_there c basis.accepted L i (there c list s free basis i h)).within e (rw (← basis.edges) k))

  -- ---- a configuration is sought
  module _ (config : List ℤ) (long : length config ≡ s.edges) where
    pub place_ranked : Ranked list s.states config free s.free (place c L config)
    unfolding comes_before
    place_ranked =
        record {
          within = rw basis.count (place_within c basis.accepted L config);
          rows = λ i h.
              rw (long, row_is c list s free basis i h, basis.free_count)
              (smaller_agree free (free_edges c) (get_or (states c L) i []) config (length (free_edges c)) (λ j k. basis.free_listed j (rw basis.free_count k))
              ∙ before_place c basis.accepted L config i (there c list s free basis i h));
        }

    -- it is listed where the state at its place is the configuration
    listed_told : (ltb (place c L config) s.states && same_values (row s.edges list (place c L config)) config) ≡ in_basis c L config
    listed_told = same_tests _ _ found told
      where
        sized : length config ≡ length c.edges
        sized = long ∙ basis.edges

        found : (ltb (place c L config) s.states && same_values (row s.edges list (place c L config)) config) ≡ true → in_basis c L config ≡ true
        found h =
            let r = and_parts _ _ h in
            let inside = ltb-true _ _ r.0 in
            let is = row_is c list s free basis (place c L config) inside in
            let state = state_there c basis.accepted L (place c L config) (there c list s free basis _ inside) in
            let same = same_rows (get_or (states c L) (place c L config) []) config (state.sized ∙ sym sized) (rw is at r.1) in
            (in_basis_listed c basis.accepted L config sized).1 (place c L config, there c list s free basis _ inside, same)

        told : in_basis c L config ≡ true → (ltb (place c L config) s.states && same_values (row s.edges list (place c L config)) config) ≡ true
        told h =
            let at = in_basis_at c basis.accepted L config sized h in
            let inside : place c L config < s.states = rw basis.count at.below in
            and_both _ _ (lt-ltb _ _ inside) (rw (row_is c list s free basis (place c L config) inside ∙ at.state) (same_itself config))

    reached_told : (a : List Float) (i : ℕ) (total : Float)
        → with_product list s.states a i (place c L config) config total ≡ with_reached c L a i config total
    unfolding with_reached
    reached_told a i total = rw (long, listed_told)

  -- ---- one state more
  module _ (a : List Float) (es : List ℕ) (ds : List ℤ) (fits : PathFits s.edges es ds) where
    abbrev w : List Step
    w = path_of es ds

    abbrev state : ℕ → List ℤ
    state i = get_or (states c L) i []

    pub summed_none : Summed c L a w 0 0 (wilson_sum c L a w 0)
    summed_none = record { sum = refl; later = λ k h l. omega arith }

    module _ (i from : ℕ) (total : Float) (so_far : Summed c L a w i from total) where
      pub summed_left : stays L (state i) w ≡ false → Summed c L a w (i + 1) from total
      unfolding wilson_sum
      summed_left h = record { sum = so_far.sum ∙ rw (add-one i, h); later = λ k l. so_far.later k (omega arith) }

      -- what the walk reached was sought: j is its place, and r the sum with what it adds
      module _ (inside : i < s.states) (stay : stays L (state i) w ≡ true) (config : List ℤ) (reached : walked (state i) w ≡ config) (long : length config ≡ s.edges) where
        pub sought : from ≤ place c L config
        sought = rw (← reached) (so_far.later i (omega arith) (there c list s free basis i inside))

        pub summed_more : (j : ℕ) → j ≡ place c L config → (r : Float)
            → r ≡ with_product list s.states a i j config total
            → Summed c L a w (i + 1) j r
        unfolding wilson_sum
        summed_more j found r is =
            let told : r ≡ with_reached c L a i config total = (rw found at is) ∙ reached_told config long a i total in
            let more : with_reached c L a i config total ≡ wilson_sum c L a w (i + 1) = rw (so_far.sum, add-one i, stay, reached) in
            record {
              sum = told ∙ more;
              later = λ k l below. rw (found, ← reached) (places_rise c basis.accepted L _ _ (before_walked c s.edges (state i) (state k) w (sized i (there c list s free basis i inside)) (sized k below) (path_inside s.edges es ds fits) (states_ordered c basis.accepted L i k (omega arith) below)));
            }
          where
            sized : (j : ℕ) → j < length (states c L) → length (state j) ≡ s.edges
            sized j below = (state_there c basis.accepted L j below).sized ∙ sym basis.edges

    pub summed_all : (i from : ℕ) (total : Float) → Summed c L a w i from total → i ≡ s.states → total ≡ wilson c L a w
    unfolding wilson
    summed_all i from total so_far past = so_far.sum ∙ rw (past ∙ basis.count)
