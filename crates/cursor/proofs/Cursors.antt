-- The states still to come, one less with each step.
use Prim.Native.Nat.{ℕ, zero, suc, ◌+◌, ◌-◌, ◌^◌, ◌≤◌, ◌<◌}
use mathlib.Core.List.{List, [], ◌∷◌, ◌++◌, map, map-append}
use mathlib.Core.Path.{◌≡◌, refl, sym, ap, ◌∙◌}
use native.Mathlib.Omega.{arith}
use native.Mathlib.Nat.{add-zero}
use lib.IntN.{ℤ, pos}
use lib.ListN.{length, take, drop, length-append, length-drop}
use Rattle.mathematics.specs.Counting.{below, applied}
use Rattle.mathematics.proofs.Maps.{map_same}
use Rattle.cycles.specs.Cycles.{row, with_cycle}
use Rattle.walker.specs.declared.blocks.Span.{Span}
use Rattle.walker.specs.Walker.{stepped, block_rows, block, width, walked, walked_states}
use Rattle.walker.specs.Steps.{Small, Addable, CyclesFit, FreeFit, Walkable}
use Rattle.walker.specs.Blocks.{SpanOfBlock}
use Rattle.walker.proofs.BlockRows.{rows_none, rows_length}
use Rattle.walker.proofs.BlockValues.{row_small}
use Rattle.walker.proofs.Stepping.{cycle_long, cycle_signs}
use Rattle.walker.proofs.BlockStates.{width_bound, walked_none, walked_next, walked_on, states_none, states_next, states_on, states_counted}
use Rattle.cursor.specs.Cursor.{states_left}

-- ---- the first row of a block
map_first : {A : Type 0} (f : ℕ → A) (k : ℕ) → map f (below (suc k)) ≡ f 0 ∷ map (λ i. f (suc i)) (below k)
unfolding below
map_first f zero = refl
map_first f (suc k) =
    map-append f (below (suc k)) (suc k ∷ [])
    ∙ rw (map_first f k, map-append (λ i. f (suc i)) (below k) (k ∷ []))

rows_first : (s z : List ℤ) (from to : ℕ) → from < to → block_rows s z from to ≡ with_cycle s (pos from) z ∷ block_rows s z (from + 1) to
unfolding block_rows
rows_first s z from to h =
    let e : to - from ≡ suc (to - (from + 1)) = omega arith in
    rw (e, map_first (λ i. with_cycle s (pos (from + i)) z) (to - (from + 1)), add-zero from)
    (ap (λ l. with_cycle s (pos from) z ∷ l) (map_same (λ i. with_cycle s (pos (from + suc i)) z) (λ i. with_cycle s (pos (from + 1 + i)) z) (below (to - (from + 1))) (λ i. let p : from + suc i ≡ from + 1 + i = omega arith in rw p)))

-- ---- one block less, from the front
module _ (free : List ℕ) (cycle : ℕ → List ℤ) (L n : ℕ) (s : List ℤ) where
  abbrev next : List ℤ
  next = stepped free cycle L (n - 1) 1 s

  next_is : walked free cycle L n s 1 ≡ next
  next_is = walked_next free cycle L n s 0 ∙ ap (stepped free cycle L (n - 1) 1) (walked_none free cycle L n s)

  walked_shift : (k : ℕ) → walked free cycle L n s (suc k) ≡ walked free cycle L n next k
  walked_shift k =
      let e : 1 + k ≡ suc k = omega arith in
      (rw (e, next_is) at (walked_on free cycle L n s 1 k))

  states_shift : (k : ℕ) → walked_states free cycle L n s (suc k) ≡ block L (width L n) s (cycle 0) ++ walked_states free cycle L n next k
  states_shift k =
      let e : 1 + k ≡ suc k = omega arith in
      let one : walked_states free cycle L n s 1 ≡ block L (width L n) s (cycle 0) = states_next free cycle L n s 0 ∙ rw (states_none free cycle L n s, walked_none free cycle L n s) in
      (rw (e, one, next_is) at (states_on free cycle L n s 1 k))

-- ---- at a block, as the code has it
module _ (free : List ℕ) (cycles : List ℤ) (L n : ℕ) (s : List ℤ) (left : ℕ) (fit : Walkable free cycles L n s left) (more : 0 < left) where
  abbrev cycle : ℕ → List ℤ
  cycle = row (length s) cycles

  one_more : left ≡ suc (left - 1)
  one_more = omega arith

  small : Small (2 ^ 20) s
  small e = rw (walked_none free cycle L n s) at (fit.values 0 more e)

  pub ready : (length (take (length s) cycles) ≡ length s) × Small (2 ^ 20) s × Small 1 (take (length s) cycles) × (L ≤ 1000)
  ready = (
    cycle_long (length s) n L cycles fit.cycles_fit 0 (omega arith),
    small,
    cycle_signs (length s) n L cycles fit.cycles_fit 0 (omega arith),
    fit.cycles_fit.truncation,
  )

  pub step_may : CyclesFit (length s) n L cycles × FreeFit (length s) n free × Small (2 ^ 20) s
  step_may = (fit.cycles_fit, fit.free_fit, small)

  -- the first cycle can be added
  pub row_ready : Addable s (pos 0) (take (length s) cycles)
  row_ready = let r = ready in record { sized = r.0; values = λ e. omega (arith, r.1 e); times = omega arith; signs = r.2 }

  -- the states from a place of the block on
  pub from_here : (d to : ℕ) → states_left free cycle L n s left d to ≡ block_rows s (cycle 0) d to ++ walked_states free cycle L n (next free cycle L n s) (left - 1)
  unfolding states_left
  from_here d to = ap (λ k. states_left free cycle L n s k d to) one_more

  pub some_rows : (d to : ℕ) → to - d ≤ length (states_left free cycle L n s left d to)
  some_rows d to = omega (arith, ap length (from_here d to), length-append (block_rows s (cycle 0) d to) (walked_states free cycle L n (next free cycle L n s) (left - 1)), rows_length s (cycle 0) d to)

  -- ---- after the step
  module _ (new : List ℤ) (is : new ≡ stepped free cycle L (n - 1) 1 s) where
    new_long : length new ≡ length s
    unfolding walked applied
    new_long = ap length is ∙ fit.sized 1

    pub walkable_next : Walkable free cycles L n new (left - 1)
    walkable_next =
        record {
          cycles_fit = rw new_long fit.cycles_fit;
          free_fit = rw new_long fit.free_fit;
          few = omega (arith, fit.few);
          values = λ i h e. rw (new_long, is, ← (walked_shift free cycle L n s i)) (fit.values (suc i) (omega arith) e);
          sized = λ i. rw (new_long, is, ← (walked_shift free cycle L n s i)) (fit.sized (suc i));
        }

    rest_is : walked_states free (row (length new) cycles) L n new (left - 1) ≡ walked_states free cycle L n (next free cycle L n s) (left - 1)
    rest_is = rw (new_long, is)

    -- the block is passed
    pub block_passed : (d to : ℕ) → states_left free cycle L n s left d to ≡ block_rows s (cycle 0) d to ++ walked_states free (row (length new) cycles) L n new (left - 1)
    block_passed d to = from_here d to ∙ ap (λ l. block_rows s (cycle 0) d to ++ l) (sym rest_is)

    from_next : walked_states free cycle L n s left ≡ block L (width L n) s (cycle 0) ++ walked_states free (row (length new) cycles) L n new (left - 1)
    from_next = ap (walked_states free cycle L n s) one_more ∙ states_shift free cycle L n s (left - 1) ∙ ap (λ l. block L (width L n) s (cycle 0) ++ l) (sym rest_is)

  -- another state of the block
  pub more_rows : (d to : ℕ) → d < to → states_left free cycle L n s left d to ≡ with_cycle s (pos d) (cycle 0) ∷ states_left free cycle L n s left (d + 1) to
  more_rows d to low = from_here d to ∙ rw (rows_first s (cycle 0) d to low) (ap (λ l. with_cycle s (pos d) (cycle 0) ∷ l) (sym (from_here (d + 1) to)))

  -- ---- the interval
  module _ (w : ℕ) (wide : w ≡ width L n) (r : Span) (spans : SpanOfBlock L w s (take (length s) cycles) r) where
    rows_here : block_rows s (cycle 0) r.from r.to ≡ block L (width L n) s (cycle 0)
    rows_here = spans.is ∙ rw wide

    pub few_here : r.to ≤ 2001
    few_here = omega (arith, spans.bound, wide, width_bound L n fit.cycles_fit.truncation)

    pub small_here : (d : ℕ) → r.from ≤ d → d < r.to → Small L (with_cycle s (pos d) (cycle 0))
    small_here d h k e =
        row_small L w s (take (length s) cycles) ready.2 ready.0 r.from r.to spans.is d h k e

    pub states_here : states_left free cycle L n s left r.from r.to ≡ walked_states free cycle L n s left
    states_here =
        from_here r.from r.to
        ∙ ap (λ l. l ++ walked_states free cycle L n (next free cycle L n s) (left - 1)) rows_here
        ∙ sym (ap (walked_states free cycle L n s) one_more ∙ states_shift free cycle L n s (left - 1))

    pub none_here : (r.from < r.to → ⊥) → (new : List ℤ) → new ≡ stepped free cycle L (n - 1) 1 s
        → walked_states free (row (length new) cycles) L n new (left - 1) ≡ walked_states free cycle L n s left
    none_here empty new is =
        let none : r.to - r.from ≡ 0 = omega (arith, empty) in
        sym (from_next new is ∙ rw (← rows_here, rows_none s (cycle 0) r.from r.to none))

-- behind the last state
pub behind : (free : List ℕ) (cycles : List ℤ) (L n : ℕ) (s old : List ℤ) (left blocks : ℕ) → left ≡ 0 → walked_states free (row (length s) cycles) L n s left ≡ walked_states free (row (length old) cycles) L n old blocks
    → states_left free (row (length s) cycles) L n s 0 0 0 ≡ walked_states free (row (length old) cycles) L n old blocks
unfolding states_left
behind free cycles L n s old left blocks none is =
    sym (ap (walked_states free (row (length s) cycles) L n s) none ∙ states_none free (row (length s) cycles) L n s) ∙ is

-- the number of the next state
pub numbers_next : {s : List ℤ} {states more : List (List ℤ)} (number bound : ℕ) → states ≡ s ∷ more → number + length states ≤ bound → number + 1 + length more ≤ bound
numbers_next number bound is h = omega (arith, ap length is)

pub numbers_on : (number k bound : ℕ) (rows more : List (List ℤ)) {states : List (List ℤ)} → length rows ≡ k → states ≡ rows ++ more → number + length states ≤ bound → number + k + length more ≤ bound
numbers_on number k bound rows more long is h = omega (arith, ap length is, length-append rows more)

-- the last state of a block
pub last_row : (s z : List ℤ) (d to : ℕ) → d < to → to ≤ d + 1 → (more : List (List ℤ)) → block_rows s z d to ++ more ≡ with_cycle s (pos d) z ∷ more
last_row s z d to low high more =
    let none : to - (d + 1) ≡ 0 = omega arith in
    rw (rows_first s z d to low, rows_none s z (d + 1) to none)

-- all states have a number
pub few_states : (free : List ℕ) (cycles : List ℤ) (L n : ℕ) (s : List ℤ) (k : ℕ) → Walkable free cycles L n s k → 0 + length (walked_states free (row (length s) cycles) L n s k) ≤ 2 ^ 40
few_states free cycles L n s k walkable = omega (arith, states_counted free cycles L n s k walkable)

-- a part of a list of 63 that was written anew
pub anew_long : (s list : List ℤ) (m : ℕ) → length s ≡ m → m ≤ 63 → length list ≡ 63 → length (s ++ drop m list) ≡ 63
anew_long s list m e h all = rw (length-append s (drop m list), length-drop m list, e) (omega arith)
