-- What is told of the loops of a record: the lists are measured by what the code has counted, and those of a call without directions
-- by a call with them.
use Prim.Native.Nat.{ℕ, zero, suc, ◌+◌, ◌≤◌}
use mathlib.Core.List.{List, map}
use mathlib.Core.Bool.{Bool, false, ◌||◌}
use mathlib.Core.Path.{◌≡◌, refl, sym, ap, ◌∙◌}
use native.Mathlib.Omega.{arith}
use native.Mathlib.Decide.{ℕ_discrete}
use borrow.Author.Tests.{le-ltb, ltb-false}
use lib.Dec.{ltb}
use lib.IntN.{ℤ}
use lib.ListN.{length}
use Rattle.mathematics.specs.Calls.{Answered}
use Rattle.mathematics.specs.Writing.{front}
use Rattle.mathematics.specs.Refusals.{Outcome, first, written}
use Rattle.mathematics.proofs.Refusals.{first_stops}
use Rattle.mathematics.proofs.Tests.{or_fell, or_false}
use Rattle.complex.specs.Complex.{Complex}
use Rattle.complex.specs.Judge.{complex_tests, refusal}
use Rattle.numbers.specs.declared.edge_list.EdgeList.{EdgeList}
use Rattle.gauss_law.specs.Listing.{free_edges}
use Rattle.gauss_law.specs.Spanning.{FreeOf}
use Rattle.loops.specs.Climbing.{StepsFit, LoopsPut}
use Rattle.loops.specs.Walks.{edge_of, direction_of}
use Rattle.loops.specs.Loops.{all_steps, loop_starts, short_loops, loops_tests, loops_call, su2_loops_tests, su2_loops_call}

-- one of three lists has too few entries
abbrev pub short : ℕ → ℕ → ℕ → ℕ → ℕ → Bool
short starts edges directions count total = (ltb starts (count + 1) || ltb edges total) || ltb directions total

-- the code measures by what it has counted
module _ (c : Complex) (f : EdgeList) (of : FreeOf c f) (total : ℕ) (counts : total ≡ length (all_steps c)) where
  pub room_told : (starts edges directions : ℕ) → short starts edges directions (length (free_edges c)) (length (all_steps c)) ≡ short starts edges directions f.count total
  room_told starts edges directions = rw (of.count, counts)

  pub long_enough : (starts edges : List ℕ) (directions : List ℤ) → short (length starts) (length edges) (length directions) f.count total ≡ false
      → (length (free_edges c) + 1 ≤ length starts) × StepsFit (all_steps c) 0 edges directions
  long_enough starts edges directions h =
      let is = of.count in
      let p = or_fell (ltb (length starts) (f.count + 1) || ltb (length edges) total) (ltb (length directions) total) h in
      let q = or_fell (ltb (length starts) (f.count + 1)) (ltb (length edges) total) p.0 in
      let a = ltb-false (length starts) (f.count + 1) q.0 in
      let b = ltb-false (length edges) total q.1 in
      let d = ltb-false (length directions) total p.1 in
      (omega arith, record { edge_room = omega arith; direction_room = omega arith })

three : {A B C : Type 0} {a a' : A} {b b' : B} {d d' : C} → a ≡ a' → b ≡ b' → d ≡ d' → ◌≡◌ {A = A × B × C} (a, b, d) (a', b', d')
three p q r = rw (p, q, r)

pub lists_are : {c : Complex} {starts edges : List ℕ} {directions : List ℤ} {starts' edges' : List ℕ} {directions' : List ℤ} → LoopsPut c starts edges directions starts' edges' directions'
    → ◌≡◌ {A = List ℕ × List ℕ × List ℤ} (starts', edges', directions')
    (front (loop_starts c) starts, front (map edge_of (all_steps c)) edges, front (map direction_of (all_steps c)) directions)
lists_are h = three h.start_list h.edge_list h.direction_list

-- ---- without directions
-- the first two of three lists
abbrev two_of : {A B C : Type 0} → A × B × C → A × B
two_of l = (l.0, l.1)

first_two : {A B C : Type 0} (n : ℕ) (l m : A × B × C) → two_of (written n l m) ≡ written n (two_of l) (two_of m)
unfolding written
first_two zero l m = refl
first_two (suc n) l m = refl

module _ (c : Complex) (starts edges : List ℕ) (directions : List ℤ) (fits : refusal c ≡ 0 → length (all_steps c) ≤ length directions) where
  -- where the directions have room the tests tell the same
  same_number : first (loops_tests c (length starts) (length edges) (length directions)) ≡ first (su2_loops_tests c (length starts) (length edges))
  unfolding refusal
  same_number = go (ℕ_discrete (refusal c) 0)
    where
      go : Dec (refusal c ≡ 0) → first (loops_tests c (length starts) (length edges) (length directions)) ≡ first (su2_loops_tests c (length starts) (length edges))
      go (yes e) = rw (le-ltb _ _ (fits e), or_false (short_loops c (length starts) (length edges)))
      go (no n) = first_stops (complex_tests c) _ n ∙ sym (first_stops (complex_tests c) _ n)

  pub without_directions : {a : Outcome ℕ} {l : List ℕ × List ℕ × List ℤ} → Answered (loops_call c starts edges directions) a l → Answered (su2_loops_call c starts edges) a (l.0, l.1)
  unfolding loops_call su2_loops_call
  without_directions h =
      record {
        answer = rw (← same_number) h.answer;
        lists = rw (← same_number) (ap two_of h.lists ∙ first_two _ _ _);
        known = λ z. h.known (same_number ∙ z);
      }
