-- A solving order: pairs of a vertex and an edge, each edge joining its vertex to one that is not in the order so far. Solved in this
-- order, each edge meets the law at its vertex and disturbs no vertex before it. The vertices that are not in the order are the roots.
use Prim.Native.Nat.{ℕ, ◌<◌}
use mathlib.Core.List.{List, [], ◌∷◌}
use mathlib.Core.Path.{◌≡◌, refl, sym, ◌∙◌}
use mathlib.Core.Logic.{◌≢◌, ◌⊎◌, inl, inr}
use native.Mathlib.Omega.{arith}
use native.Mathlib.Decide.{ℕ_discrete}
use lib.IntN.{ℤ, pos, ◌+ℤ◌, ◌-ℤ◌}
use lib.ListN.{length, get_or, set, length-set}
use lib.Seq.{get_or-set_same, get_or-set_other, ext_get_or}
use Rattle.mathematics.proofs.Integers.{linear, the, ◌⊞◌, ◌⊟◌, integral, parts}
use Rattle.mathematics.specs.Entries.{Each, none, also}
use Rattle.mathematics.proofs.Ordered.{Member, each_first, each_later}
use Rattle.complex.specs.Complex.{Simplex}
use Rattle.gauss_law.specs.Gauss.{flow, gauss}
use Rattle.gauss_law.proofs.Gauss.{Meets, Misses, flow_once, turned, flow_turned, gauss_set, gauss_split, gauss_agree}

-- a vertex and the edge that is solved for it
abbrev pub Step : Type 0
Step = ℕ × ℕ

-- no edge of the order has v as an end
abbrev pub Untouched : List Simplex → ℕ → List Step → Type 0
Untouched es v order = Each (λ p. Misses (get_or es p.1 []) v) order

-- edge e is not in the order
abbrev pub Off : ℕ → List Step → Type 0
Off e order = Each (λ p. e ≢ p.1) order

-- v is a vertex of the order
abbrev pub Solved : ℕ → List Step → Type 0
Solved v order = (e : ℕ) × Member (v, e) order

pub data SolvingOrder (es : List Simplex) : List Step → Type 0 where
  done : SolvingOrder es []
  next : {p : Step} {order : List Step} → p.1 < length es → Meets (get_or es p.1 []) p.0 → Untouched es p.0 order → SolvingOrder es order
      → SolvingOrder es (p ∷ order)

-- an edge does not touch v, or is not in an order that leaves v untouched
misses_or_off : (es : List Simplex) (v i : ℕ) {order : List Step} → Untouched es v order → Misses (get_or es i []) v ⊎ Off i order
misses_or_off es v i none = inr none
misses_or_off es v i (also {x = p} {l = order} m h) = go (ℕ_discrete i p.1) (misses_or_off es v i h)
  where
    go : Dec (i ≡ p.1) → Misses (get_or es i []) v ⊎ Off i order → Misses (get_or es i []) v ⊎ Off i (p ∷ order)
    go (yes e) r = inl (rw e m)
    go (no n) (inl a) = inl a
    go (no n) (inr k) = inr (also n k)

-- ---- uniqueness
module _ (es : List Simplex) (s t : List ℤ) (ls : length s ≡ length es) (lt : length t ≡ length es) where
  -- with the edge of the step taken out, assignments that agree off the order have the same sum at its vertex
  same_rest : (p : Step) (order : List Step) → p.1 < length es → Untouched es p.0 order
      → ((i : ℕ) → Off i (p ∷ order) → get_or s i (pos 0) ≡ get_or t i (pos 0))
      → gauss es (set s p.1 (pos 0)) p.0 ≡ gauss es (set t p.1 (pos 0)) p.0
  same_rest p order h u agree = gauss_agree es (set s p.1 (pos 0)) (set t p.1 (pos 0)) p.0 (simp length-set (omega arith)) each
    where
      each : (i : ℕ) → i < length es → Misses (get_or es i []) p.0 ⊎ (get_or (set s p.1 (pos 0)) i (pos 0) ≡ get_or (set t p.1 (pos 0)) i (pos 0))
      each i k = go (ℕ_discrete i p.1) (misses_or_off es p.0 i u)
        where
          go : Dec (i ≡ p.1) → Misses (get_or es i []) p.0 ⊎ Off i order
              → Misses (get_or es i []) p.0 ⊎ (get_or (set s p.1 (pos 0)) i (pos 0) ≡ get_or (set t p.1 (pos 0)) i (pos 0))
          go (yes e) r = inr (rw e (get_or-set_same s p.1 (pos 0) (pos 0) (omega arith) ∙ sym (get_or-set_same t p.1 (pos 0) (pos 0) (omega arith))))
          go (no n) (inl a) = inl a
          go (no n) (inr o) = inr (get_or-set_other s p.1 i (pos 0) (pos 0) n ∙ agree i (also n o) ∙ sym (get_or-set_other t p.1 i (pos 0) (pos 0) n))

  -- two assignments that agree off the order and have the same Gauss sum at each of its vertices are equal
  pub unique : {order : List Step} → SolvingOrder es order → ((i : ℕ) → Off i order → get_or s i (pos 0) ≡ get_or t i (pos 0))
      → Each (λ p. gauss es s p.0 ≡ gauss es t p.0) order → s ≡ t
  unique done agree same = ext_get_or (pos 0) s t (omega arith) (λ i h. agree i none)
  unique (next {p} {order} h m u o) agree same = unique o agree' (each_later same)
    where
      solved : get_or s p.1 (pos 0) ≡ get_or t p.1 (pos 0)
      solved =
          let E = get_or es p.1 [] in
          let A = flow E (get_or s p.1 (pos 0)) p.0 in
          let B = flow E (get_or t p.1 (pos 0)) p.0 in
          let G = gauss es (set s p.1 (pos 0)) p.0 in
          let H = gauss es (set t p.1 (pos 0)) p.0 in
          let e₁ : G +ℤ A ≡ H +ℤ B = sym (gauss_split es s p.1 p.0 h ls) ∙ each_first same ∙ gauss_split es t p.1 p.0 h lt in
          let e₂ : G ≡ H = same_rest p order h u agree in
          let e₃ : A ≡ B = omega (integral, parts (the G ⊞ the A), parts (the H ⊞ the B)) in
          flow_once E _ _ p.0 m e₃

      agree' : (i : ℕ) → Off i order → get_or s i (pos 0) ≡ get_or t i (pos 0)
      agree' i k = go (ℕ_discrete i p.1)
        where
          go : Dec (i ≡ p.1) → get_or s i (pos 0) ≡ get_or t i (pos 0)
          go (yes e) = rw e solved
          go (no n) = agree i (also n k)

-- ---- existence
-- the edge of the step gets the value that meets the law at its vertex, whatever value it had
unfoldable pub solve_step : (ℕ → ℤ) → List Simplex → Step → List ℤ → List ℤ
solve_step q es p s = set s p.1 (turned (get_or es p.1 []) (q p.0 -ℤ gauss es (set s p.1 (pos 0)) p.0) p.0)

unfoldable pub solve : (ℕ → ℤ) → List Simplex → List Step → List ℤ → List ℤ
solve q es [] s = s
solve q es (p ∷ order) s = solve q es order (solve_step q es p s)

module _ (q : ℕ → ℤ) (es : List Simplex) where
  step_length : (p : Step) (s : List ℤ) → length (solve_step q es p s) ≡ length s
  unfolding solve_step
  step_length p s = length-set s p.1 _

  pub solve_length : (order : List Step) (s : List ℤ) → length (solve q es order s) ≡ length s
  unfolding solve
  solve_length [] s = refl
  solve_length (p ∷ order) s = solve_length order (solve_step q es p s) ∙ step_length p s

  step_law : (p : Step) (s : List ℤ) → p.1 < length es → length s ≡ length es → Meets (get_or es p.1 []) p.0
      → gauss es (solve_step q es p s) p.0 ≡ q p.0
  unfolding solve_step
  step_law p s h l m =
      let E = get_or es p.1 [] in
      let G = gauss es (set s p.1 (pos 0)) p.0 in
      let y = q p.0 -ℤ G in
      gauss_set es s p.1 p.0 (turned E y p.0) h l
      ∙ rw (flow_turned E y p.0 m) (linear (the G ⊞ (the (q p.0) ⊟ the G)) (the (q p.0)) (omega arith))

  -- a step leaves the sum at a vertex that its edge does not touch
  step_misses : (p : Step) (s : List ℤ) (v : ℕ) → Misses (get_or es p.1 []) v → gauss es (solve_step q es p s) v ≡ gauss es s v
  unfolding solve_step
  step_misses p s v a = gauss_agree es (solve_step q es p s) s v (step_length p s) each
    where
      each : (i : ℕ) → i < length es → Misses (get_or es i []) v ⊎ (get_or (solve_step q es p s) i (pos 0) ≡ get_or s i (pos 0))
      each i h = go (ℕ_discrete i p.1)
        where
          go : Dec (i ≡ p.1) → Misses (get_or es i []) v ⊎ (get_or (solve_step q es p s) i (pos 0) ≡ get_or s i (pos 0))
          go (yes e) = inl (rw e a)
          go (no n) = inr (get_or-set_other s p.1 i _ (pos 0) n)

  solve_untouched : (v : ℕ) {order : List Step} (s : List ℤ) → Untouched es v order → gauss es (solve q es order s) v ≡ gauss es s v
  unfolding solve
  solve_untouched v s none = refl
  solve_untouched v s (also {x = p} m u) = solve_untouched v (solve_step q es p s) u ∙ step_misses p s v m

  -- values off the order are kept
  pub solve_off : (i : ℕ) {order : List Step} (s : List ℤ) → Off i order → get_or (solve q es order s) i (pos 0) ≡ get_or s i (pos 0)
  unfolding solve solve_step
  solve_off i s none = refl
  solve_off i s (also {x = p} n o) = solve_off i (solve_step q es p s) o ∙ get_or-set_other s p.1 i _ (pos 0) n

  -- the law is met at each vertex of the order
  pub solve_law : {order : List Step} → SolvingOrder es order → (s : List ℤ) → length s ≡ length es
      → Each (λ p. gauss es (solve q es order s) p.0 ≡ q p.0) order
  unfolding solve
  solve_law done s l = none
  solve_law (next {p} {order} h m u o) s l =
      also (solve_untouched p.0 (solve_step q es p s) u ∙ step_law p s h l m) (solve_law o (solve_step q es p s) (step_length p s ∙ l))
