-- The loop by passes: along a path that names no edge twice it is the loop of the edge set, along a path followed by itself that of the empty path.
use Prim.Native.Nat.{ℕ, suc, ◌+◌, ◌%◌, ◌<◌, ◌≤◌}
use mathlib.Core.List.{List, [], ◌∷◌, ◌++◌}
use mathlib.Core.Bool.{Bool, true, false, not, ◌&&◌, ◌||◌, cond, and-false}
use mathlib.Core.Path.{◌≡◌, refl, sym, ap, ◌∙◌}
use mathlib.Core.Logic.{◌≢◌, ◌⊎◌, inl, inr}
use native.Mathlib.Decide.{ℕ_discrete}
use native.Mathlib.Omega.{arith}
use borrow.Author.Tests.{eq-eqb, ne_eqb, ltb-true, not-true}
use lib.Dec.{eqb, ltb}
use lib.Ieee.{Float, neg}
use lib.ListN.{length}
use Rattle.mathematics.specs.Counting.{keep}
use Rattle.mathematics.specs.Lists.{listed, distinct}
use Rattle.mathematics.specs.Tests.{every_entry}
use Rattle.mathematics.specs.Writing.{front}
use Rattle.mathematics.proofs.Tests.{and_parts, and_both, all_append}
use Rattle.mathematics.proofs.Totals.{total, total_same, total_zero, total_more, keep_total}
use Rattle.complex.specs.Complex.{Complex}
use Rattle.matrices.specs.Coupling.{float_of}
use Rattle.gauss_law.specs.Listing.{limit}
use Rattle.su2_even_sets.specs.EvenSets.{chosen, su2_states}
use Rattle.su2_masks.specs.Basis.{su2_tests}
use Rattle.su2_loops.specs.Loop.{names, passes, passes_oddly, met, sign_of, su2_expectation, path_right, loop_tests, expectation_call, su2_loop_call, su2_passes_call}
use Rattle.su2_loops.specs.Passes.{PassesKnown}
use Rattle.su2_loops.proofs.Parity.{remainder_is}
use Rattle.su2_loops.proofs.Paths.{passes_append}

-- ---- no edge twice
passes_once : (path : List ℕ) → distinct eqb path ≡ true → (e : ℕ) → passes path e ≡ cond (listed eqb e path) 1 0
unfolding passes keep listed distinct
passes_once [] h e = refl
passes_once (x ∷ l) h e = go (ℕ_discrete e x) (passes_once l parts.1 e)
  where
    parts : (not (listed eqb x l) ≡ true) × (distinct eqb l ≡ true)
    parts = and_parts (not (listed eqb x l)) (distinct eqb l) h

    go : Dec (e ≡ x) → passes l e ≡ cond (listed eqb e l) 1 0 → passes (x ∷ l) e ≡ cond (eqb e x || listed eqb e l) 1 0
    go (yes p) ih =
        let fresh : listed eqb e l ≡ false = ap (λ (a : ℕ). listed eqb a l) p ∙ not-true (listed eqb x l) parts.0 in
        rw (eq-eqb e x p) (ap suc (rw fresh at ih))
    go (no p) ih = rw (ne_eqb e x p) ih

once_same : (path : List ℕ) → distinct eqb path ≡ true → (e : ℕ) → passes_oddly path e ≡ names path e
unfolding passes_oddly names
once_same path h e =
    ap (λ (n : ℕ). eqb (n % 2) 1) (passes_once path h e) ∙ go (listed eqb e path)
  where
    go : (b : Bool) → eqb (cond b 1 0 % 2) 1 ≡ b
    go true = refl
    go false = refl

-- ---- every edge twice as often
twice_even : (path : List ℕ) (e : ℕ) → passes_oddly (path ++ path) e ≡ passes_oddly [] e
unfolding passes_oddly passes keep
twice_even path e =
    let even : passes (path ++ path) e % 2 ≡ 0 = omega (arith, passes_append path path e) in
    ap (λ (n : ℕ). eqb n 1) even

-- what is accepted once is accepted twice, as the empty path is
twice_judged : (m n : ℕ) (vector : List Float) (path : List ℕ) → path_right n path ≡ true → loop_tests m n vector (path ++ path) ≡ loop_tests m n vector []
unfolding loop_tests path_right every_entry
twice_judged m n vector path h =
    let right : path_right n (path ++ path) ≡ true = all_append (λ e. ltb e n) path path ∙ and_both (path_right n path) (path_right n path) h h in
    rw right

-- ---- step by step
-- 1 where edge e of the set x counts, else 0
term : ℕ → List ℕ → ℕ → ℕ
term x path e = cond (chosen x e && passes_oddly path e) 1 0

term_is : (x e : ℕ) (path : List ℕ) (in_set odd : Bool) → chosen x e ≡ in_set → passes_oddly path e ≡ odd → term x path e ≡ cond (in_set && odd) 1 0
unfolding term
term_is x e path in_set odd c o = rw (c, o)

other_term : (x e a : ℕ) (path : List ℕ) → e ≢ a → term x (a ∷ path) e ≡ term x path e
unfolding term passes_oddly passes keep
other_term x e a path p = rw (ne_eqb e a p)

no_term : (x e : ℕ) → term x [] e ≡ 0
unfolding passes_oddly passes keep
no_term x e = term_is x e [] (chosen x e) false refl refl ∙ ap (λ (b : Bool). cond b 1 0) (and-false (chosen x e))

-- a step over an edge turns whether it is passed an odd number of times
own_turned : (a : ℕ) (path : List ℕ) → passes_oddly (a ∷ path) a ≡ not (passes_oddly path a)
unfolding passes_oddly passes keep
own_turned a path = rw (eq-eqb a a refl) (go (passes path a) (remainder_is (passes path a)))
  where
    go : (k : ℕ) → (k % 2 ≡ 0) ⊎ (k % 2 ≡ 1) → eqb (suc k % 2) 1 ≡ not (eqb (k % 2) 1)
    go k (inl h) = let odd : suc k % 2 ≡ 1 = omega arith in rw (h, odd)
    go k (inr h) = let even : suc k % 2 ≡ 0 = omega arith in rw (h, even)

module _ (n x : ℕ) where
  -- so a step over an edge of x turns the parity, and a step over another does not
  step_turns : (a : ℕ) (path : List ℕ) → a < n → total (term x (a ∷ path)) n % 2 ≡ (total (term x path) n + cond (chosen x a) 1 0) % 2
  step_turns a path b = go (chosen x a) refl (passes_oddly path a) refl
    where
      outside : chosen x a ≡ false → (e : ℕ) → Dec (e ≡ a) → term x (a ∷ path) e ≡ term x path e
      outside c e (yes p) = rw p (term_is x a (a ∷ path) false _ c refl ∙ sym (term_is x a path false _ c refl))
      outside c e (no p) = other_term x e a path p

      go : (in_set : Bool) → chosen x a ≡ in_set → (odd : Bool) → passes_oddly path a ≡ odd → total (term x (a ∷ path)) n % 2 ≡ (total (term x path) n + cond in_set 1 0) % 2
      go false c odd o = omega (arith, total_same (term x (a ∷ path)) (term x path) n (λ e l. outside c e (ℕ_discrete e a)))
      go true c false o =
          let new : term x (a ∷ path) a ≡ 1 = term_is x a (a ∷ path) true true c (own_turned a path ∙ ap not o) in
          omega (arith, total_more (term x (a ∷ path)) (term x path) a n b (new ∙ ap (λ k. k + 1) (sym (term_is x a path true false c o))) (λ e l p. other_term x e a path p))
      go true c true o =
          let new : term x (a ∷ path) a ≡ 0 = term_is x a (a ∷ path) true false c (own_turned a path ∙ ap not o) in
          omega (arith, total_more (term x path) (term x (a ∷ path)) a n b (term_is x a path true true c o ∙ ap (λ k. k + 1) (sym new)) (λ e l p. sym (other_term x e a path p)))

  steps_turn : (path : List ℕ) → path_right n path ≡ true → total (term x path) n % 2 ≡ length (keep (chosen x) path) % 2
  unfolding path_right every_entry keep
  steps_turn [] h = ap (λ (k : ℕ). k % 2) (total_zero (term x []) n (λ e l. no_term x e))
  steps_turn (a ∷ path) h = go (chosen x a) (step_turns a path (ltb-true a n parts.0)) (steps_turn path parts.1)
    where
      parts : (ltb a n ≡ true) × (path_right n path ≡ true)
      parts = and_parts (ltb a n) (path_right n path) h

      go : (b : Bool) → total (term x (a ∷ path)) n % 2 ≡ (total (term x path) n + cond b 1 0) % 2 → total (term x path) n % 2 ≡ length (keep (chosen x) path) % 2
          → total (term x (a ∷ path)) n % 2 ≡ length (cond b (a ∷ keep (chosen x) path) (keep (chosen x) path)) % 2
      go true one ih = omega arith
      go false one ih = omega arith

same_sign : (m n : ℕ) → m % 2 ≡ n % 2 → sign_of m ≡ sign_of n
unfolding sign_of
same_sign m n e = ap (λ (r : ℕ). cond (eqb r 0) (float_of 1) (neg (float_of 1))) e

met_total : (c : Complex) (path : List ℕ) (x : ℕ) → met c (passes_oddly path) x ≡ total (term x path) (length c.edges)
unfolding met term
met_total c path x = keep_total (λ e. chosen x e && passes_oddly path e) (length c.edges)

pub passes_known : (c : Complex) (vector : List Float) → PassesKnown c vector
unfolding su2_passes_call su2_loop_call
passes_known c vector =
    record {
      refusals = λ path work. refl;
      once = λ path work h. ap (λ (counts : ℕ → Bool). expectation_call c vector path counts work) (λ i e. once_same path h e i);
      twice = λ path work h i. record {
        tests = su2_tests c ++ (twice_judged (length (su2_states c)) (length c.edges) vector path h i ++ ((15, ltb (length work) (length (su2_states c))) ∷ []));
        value = su2_expectation c vector (λ e. twice_even path e i);
        before = work;
        after = front (su2_states c) work;
        known = length (su2_states c) ≤ limit;
      };
      steps = λ path x h. same_sign _ _ (ap (λ (k : ℕ). k % 2) (met_total c path x) ∙ steps_turn (length c.edges) x path h);
    }
