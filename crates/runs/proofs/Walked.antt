-- The walk goes by runs.
use Prim.Native.Nat.{ℕ, zero, suc, ◌+◌, ◌-◌, ◌*◌, ◌≤◌, ◌<◌, min}
use mathlib.Core.List.{List, ◌++◌, append-nil}
use mathlib.Core.Bool.{Bool, true, false, cond}
use mathlib.Core.Path.{◌≡◌, refl, sym, ap, ◌∙◌}
use native.Mathlib.Omega.{arith}
use native.Mathlib.Numerals.{add-one}
use native.Mathlib.Decide.{dec_le, dec_lt}
use lib.IntN.{ℤ, pos, neg_ℤ, ◌+ℤ◌, *ℤ-zero, +ℤ_idr}
use lib.Signed.{lt_z}
use lib.ListN.{get_or, length}
use Rattle.mathematics.proofs.Integers.{positive, negative, parts, the, ◌⊞◌, ⊖◌, less_test, not_less_test, times_one}
use Rattle.cycles.specs.Cycles.{row, with_cycle}
use Rattle.cycles.proofs.Adding.{added_at, added_length}
use Rattle.walker.specs.Walker.{counted_up, stepped, block, width, walked, walked_states}
use Rattle.walker.specs.Steps.{Walkable, Runs}
use Rattle.walker.proofs.BlockStates.{width_bound, width_none, width_some, walked_none, walked_next, walked_on, states_none, states_next, states_on}
use Rattle.walker.proofs.Stepping.{cycle_long, cycle_signs, step_here, step_on, step_end}
use Rattle.walker.proofs.Walk.{added_none}
use Rattle.runs.specs.Runs.{run_states, RunFit}
use Rattle.runs.proofs.Between.{between_none, between_next}
use Rattle.runs.proofs.Added.{once_more, taken_off}

-- a block has candidates
pub width_positive : (L n : ℕ) → 0 < width L n
width_positive L zero = omega (arith, width_none L zero refl)
width_positive L (suc n) = omega (arith, width_some L (suc n) (λ h. absurd (omega arith)))

-- ---- the walk
module _ (free : List ℕ) (cycle : ℕ → List ℤ) (L n : ℕ) where
  -- the blocks of a run
  run_is : (s : List ℤ) (k : ℕ) → ((i : ℕ) → i < k → walked free cycle L n s i ≡ with_cycle s (pos i) (cycle 1)) → walked_states free cycle L n s k ≡ run_states L (width L n) s (cycle 0) (cycle 1) 0 k
  run_is s zero h = states_none free cycle L n s ∙ sym (between_none (λ i. block L (width L n) (with_cycle s (pos i) (cycle 1)) (cycle 0)) 0 0 (omega arith))
  run_is s (suc k) h =
      let e : suc k ≡ k + 1 = sym (add-one k) in
      rw (e, states_next free cycle L n s k, run_is s k (λ i l. h i (omega arith)), h k (omega arith))
      (sym (between_next (λ i. block L (width L n) (with_cycle s (pos i) (cycle 1)) (cycle 0)) 0 k (omega arith)))

  -- the later free edges leave the second one
  module _ (zeros : (j : ℕ) → 1 < j → j < n → get_or (cycle j) (get_or free 1 0) (pos 0) ≡ pos 0) where
    abbrev digit : List ℤ → ℤ
    digit s = get_or s (get_or free 1 0) (pos 0)

    added_digit : (s : List ℤ) (t : ℤ) (j : ℕ) → 1 < j → j < n → length (cycle j) ≡ length s → digit (with_cycle s t (cycle j)) ≡ digit s
    added_digit s t j h k long = added_at s t (cycle j) (get_or free 1 0) long ∙ rw (zeros j h k, *ℤ-zero t) (+ℤ_idr (digit s))

    later_digit : (k j : ℕ) (s : List ℤ) → 1 < j → k + j ≤ n → ((i : ℕ) → i < n → length (cycle i) ≡ length s) → digit (stepped free cycle L k j s) ≡ digit s
    unfolding stepped counted_up
    later_digit zero j s h fits long = refl
    later_digit (suc k) j s h fits long =
        go
        (later_digit k (suc j) (with_cycle s (neg_ℤ (pos (2 * L))) (cycle j)) (omega arith) (omega arith) (λ i l. long i l ∙ sym (added_length s (neg_ℤ (pos (2 * L))) (cycle j))))
        (lt_z (get_or s (get_or free j 0) (pos 0)) (pos L))
      where
        go : digit (stepped free cycle L k (suc j) (with_cycle s (neg_ℤ (pos (2 * L))) (cycle j))) ≡ digit (with_cycle s (neg_ℤ (pos (2 * L))) (cycle j)) → (b : Bool) → digit (cond b (with_cycle s (pos 1) (cycle j)) (stepped free cycle L k (suc j) (with_cycle s (neg_ℤ (pos (2 * L))) (cycle j)))) ≡ digit s
        go later true = added_digit s (pos 1) j h (omega arith) (long j (omega arith))
        go later false =
            later ∙ added_digit s (neg_ℤ (pos (2 * L))) j h (omega arith) (long j (omega arith))

-- ---- a digit below L, and at L
below_top : (L i : ℕ) → i < 2 * L → lt_z (neg_ℤ (pos L) +ℤ pos i) (pos L) ≡ true
unfolding positive negative
below_top L i h = less_test (neg_ℤ (pos L) +ℤ pos i) (pos L) (omega (arith, parts (⊖ the (pos L) ⊞ the (pos i))))

at_top : (L : ℕ) → lt_z (neg_ℤ (pos L) +ℤ pos (2 * L)) (pos L) ≡ false
unfolding positive negative
at_top L = not_less_test (neg_ℤ (pos L) +ℤ pos (2 * L)) (pos L) (omega (arith, parts (⊖ the (pos L) ⊞ the (pos (2 * L)))))

-- ---- the runs of a walk
module _ {free : List ℕ} {cycles : List ℤ} {L n : ℕ} {s : List ℤ} {left : ℕ} (fit : Walkable free cycles L n s left) (runs : Runs free cycles L n s) where
  abbrev cycle : ℕ → List ℤ
  cycle = row (length s) cycles

  abbrev next_run : List ℤ
  next_run = stepped free cycle L (n - 2) 2 s

  long : (j : ℕ) → j < 63 → length (cycle j) ≡ length s
  long j h = cycle_long (length s) n L cycles fit.cycles_fit j h

  -- the second digit of a block
  second_digit : 1 < n → (i : ℕ) → get_or (with_cycle s (pos i) (cycle 1)) (get_or free 1 0) (pos 0) ≡ neg_ℤ (pos L) +ℤ pos i
  second_digit some i = added_at s (pos i) (cycle 1) (get_or free 1 0) (long 1 (omega arith)) ∙ rw (runs.low some, runs.own some, times_one (pos i))

  in_run : 1 < n → (i : ℕ) → i ≤ 2 * L → walked free cycle L n s i ≡ with_cycle s (pos i) (cycle 1)
  in_run some zero h = walked_none free cycle L n s ∙ sym (added_none s (cycle 1))
  in_run some (suc i) h =
      let t = with_cycle s (pos i) (cycle 1) in
      let e : i + 1 ≡ suc i = add-one i in
      let up = step_here free cycle L n 1 t some (ap (λ x. lt_z x (pos L)) (second_digit some i) ∙ below_top L i (omega arith)) in
      (rw e at (walked_next free cycle L n s i)) ∙ ap (stepped free cycle L (n - 1) 1) (in_run some i (omega arith)) ∙ up ∙ (rw e at (once_more s (cycle 1) i))

  behind_run : 1 < n → walked free cycle L n s (2 * L + 1) ≡ next_run
  behind_run some =
      let t = with_cycle s (pos (2 * L)) (cycle 1) in
      let on = step_on free cycle L n 1 t some (ap (λ x. lt_z x (pos L)) (second_digit some (2 * L)) ∙ at_top L) in
      walked_next free cycle L n s (2 * L) ∙ ap (stepped free cycle L (n - 1) 1) (in_run some (2 * L) (omega arith)) ∙ on ∙ ap (stepped free cycle L (n - 2) 2) (taken_off s (cycle 1) (pos (2 * L)))

  abbrev wide : ℕ
  wide = width L (n - 1)

  whole_run : ((i : ℕ) → i < wide → walked free cycle L n s i ≡ with_cycle s (pos i) (cycle 1)) × (walked free cycle L n s wide ≡ next_run)
  whole_run = go (dec_lt 1 n)
    where
      go : Dec (1 < n) → ((i : ℕ) → i < wide → walked free cycle L n s i ≡ with_cycle s (pos i) (cycle 1)) × (walked free cycle L n s wide ≡ next_run)
      go (yes some) =
          let e : 2 * L + 1 ≡ wide = width_some L (n - 1) (λ h. omega arith) in
          ((λ i h. in_run some i (omega (arith, e))), rw e at (behind_run some))
      go (no none) =
          let e : 1 ≡ wide = width_none L (n - 1) (omega arith) in
          let one = step_end free cycle L n 1 s (omega arith) in
          let two = step_end free cycle L n 2 s (omega arith) in (
            (λ i h. let first : i ≡ 0 = omega (arith, e) in rw first (walked_none free cycle L n s ∙ sym (added_none s (cycle 1)))),
            rw e at (walked_next free cycle L n s 0 ∙ ap (stepped free cycle L (n - 1) 1) (walked_none free cycle L n s) ∙ one ∙ sym two),
          )

  -- ---- the next run, of those that are left
  module _ (more : 0 < left) {run : ℕ} (is : run ≡ min left wide) where
    run_some : (run ≤ left) × (0 < run)
    run_some = (omega arith, omega (arith, width_positive L (n - 1)))

    in_this_run : (i : ℕ) → i < run → walked free cycle L n s i ≡ with_cycle s (pos i) (cycle 1)
    in_this_run i h = whole_run.0 i (omega arith)

    pub this_run_fits : RunFit L (width L n) s (cycle 0) (cycle 1) run
    this_run_fits =
        record {
          edges_few = fit.cycles_fit.edges_few;
          truncation = fit.cycles_fit.truncation;
          wide = width_bound L n fit.cycles_fit.truncation;
          few = omega (arith, fit.few, run_some.0);
          first_long = long 0 (omega arith);
          second_long = long 1 (omega arith);
          first_signs = cycle_signs (length s) n L cycles fit.cycles_fit 0 (omega arith);
          second_signs = cycle_signs (length s) n L cycles fit.cycles_fit 1 (omega arith);
          start = λ e. rw (walked_none free cycle L n s) at (fit.values 0 more e);
          values = λ i h e. rw (in_this_run i h) at (fit.values i (omega (arith, run_some.0)) e);
        }

    module _ {new : List ℤ} (made : new ≡ next_run) where
      pub new_long : length new ≡ length s
      new_long = ap length (made ∙ sym whole_run.1) ∙ fit.sized wide

      walked_again : (i : ℕ) → walked free cycle L n new i ≡ walked free cycle L n s (wide + i)
      walked_again i = ap (λ t. walked free cycle L n t i) (made ∙ sym whole_run.1) ∙ sym (walked_on free cycle L n s wide i)

      pub run_first : walked_states free cycle L n s left ≡ run_states L (width L n) s (cycle 0) (cycle 1) 0 run ++ walked_states free (row (length new) cycles) L n new (left - run)
      run_first = rw (new_long, made) (go (dec_le left wide))
        where
          go : Dec (left ≤ wide) → walked_states free cycle L n s left ≡ run_states L (width L n) s (cycle 0) (cycle 1) 0 run ++ walked_states free cycle L n next_run (left - run)
          go (yes h) =
              let all : run ≡ left = omega arith in
              let none : left - run ≡ 0 = omega arith in
              rw (none, states_none free cycle L n next_run, append-nil (run_states L (width L n) s (cycle 0) (cycle 1) 0 run))
              (ap (walked_states free cycle L n s) (sym all) ∙ run_is free cycle L n s run in_this_run)
          go (no h) =
              let all : run ≡ wide = omega arith in
              let e : run + (left - run) ≡ left = omega arith in
              (rw e at (states_on free cycle L n s run (left - run))) ∙ rw (run_is free cycle L n s run in_this_run) (ap (λ t. run_states L (width L n) s (cycle 0) (cycle 1) 0 run ++ walked_states free cycle L n t (left - run)) (ap (walked free cycle L n s) all ∙ whole_run.1))

      pub walkable_run : Walkable free cycles L n new (left - run)
      walkable_run =
          record {
            cycles_fit = rw new_long fit.cycles_fit;
            free_fit = rw new_long fit.free_fit;
            few = omega (arith, fit.few);
            values = λ i h e.
                let all : run ≡ wide = omega arith in
                rw (new_long, walked_again i) (fit.values (wide + i) (omega arith) e);
            sized = λ i. rw (new_long, walked_again i) (fit.sized (wide + i));
          }

      pub runs_next : Runs free cycles L n new
      runs_next =
          record {
            own = rw new_long runs.own;
            others = rw new_long runs.others;
            low = λ some. rw made (later_digit free cycle L n runs.others (n - 2) 2 s (omega arith) (omega arith) (λ i h. long i (omega (arith, fit.cycles_fit.free_few))) ∙ runs.low some);
          }
