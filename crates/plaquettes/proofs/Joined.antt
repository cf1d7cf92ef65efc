-- No two moves take a state to the same state, so as many states are joined to it as moves stay within -L to L.
use Prim.Native.Nat.{ℕ, zero, suc, ◌+◌, ◌*◌, ◌/◌, ◌%◌, ◌<◌, ◌≤◌}
use mathlib.Core.List.{List, [], ◌∷◌, ◌++◌, append_assoc, flat_map}
use mathlib.Core.Bool.{Bool, true, false, cond}
use mathlib.Core.Path.{◌≡◌, refl, sym, ap, ap₂, ◌∙◌}
use mathlib.Core.Logic.{◌≢◌, ◌⊎◌, inl, inr}
use native.Mathlib.Omega.{arith}
use borrow.Author.Tests.{eqb-true, eq-eqb, ne_eqb}
use lib.Dec.{eqb}
use lib.IntN.{ℤ, pos, negsuc, ◌+ℤ◌}
use lib.ListN.{get_or, length, length-append}
use Rattle.mathematics.specs.Tests.{some}
use Rattle.mathematics.specs.Lists.{listed, Once}
use Rattle.mathematics.specs.Counting.{below}
use Rattle.mathematics.specs.Entries.{Each, none, also}
use Rattle.mathematics.proofs.Integers.{positive, negative, integral, parts_sum, to_parts}
use Rattle.mathematics.proofs.Tests.{same_tests}
use Rattle.mathematics.proofs.Lists.{or_cases, or_right}
use Rattle.mathematics.proofs.Counting.{some_at, at_some}
use Rattle.mathematics.proofs.Flat.{flat_map_last, each_joined, member_joined, ordered_joined}
use Rattle.mathematics.proofs.Below.{keep_count, listed_member, member_listed}
use Rattle.mathematics.proofs.Ordered.{Member, front, Ordered, empty, before, each_to, each_member, ordered_at}
use Rattle.complex.specs.Complex.{Complex}
use Rattle.complex.specs.Judge.{Accepted}
use Rattle.complex.specs.Sides.{side, EdgeOf}
use Rattle.complex.proofs.TriangleEdges.{edge_of, same_triangle}
use Rattle.gauss_law.specs.Listing.{states}
use Rattle.gauss_law.specs.Shifts.{triangle_move}
use Rattle.gauss_law.proofs.Shifts.{added, added_nothing, added_first, added_third, triangle_value}
use Rattle.plaquettes.specs.Triangle.{moved_state, sides_within, target, hits}
use Rattle.plaquettes.specs.Joined.{joins, joined, staying, arrival, arrivals}
use Rattle.plaquettes.proofs.TriangleTelling.{state_there}
use Rattle.plaquettes.proofs.Moves.{target_stays, stays_at, target_at, target_elsewhere}
use Rattle.plaquettes.proofs.Hits.{one_moves, hits_target, hits_back}

-- u is 1 or -1
abbrev pub OneStep : ℤ → Type 0
OneStep u = (u ≡ pos 1) ⊎ (u ≡ negsuc 0)

back_moves : negsuc 0 ≢ pos 0
unfolding positive negative
back_moves e = omega (arith, to_parts (negsuc 0) (pos 0) e)

pub step_moves : {u : ℤ} → OneStep u → u ≢ pos 0
step_moves (inl e) z = one_moves (sym e ∙ z)
step_moves (inr e) z = back_moves (sym e ∙ z)

pub apart : pos 1 ≢ negsuc 0
unfolding positive negative
apart e = omega (arith, to_parts (pos 1) (negsuc 0) e)

-- m moves, the one at place k that of triangle t k by u k: all moves of n triangles, each once
pub record AllMoves (n m : ℕ) (t : ℕ → ℕ) (u : ℕ → ℤ) : Type 0 where
  pub inside : (k : ℕ) → k < m → t k < n
  pub step : (k : ℕ) → k < m → OneStep (u k)
  pub once : (k j : ℕ) → k < j → j < m → t k ≡ t j → u k ≡ u j → ⊥
  pub every : (r : ℕ) → r < n → (s : ℤ) → OneStep s → (k : ℕ) × (k < m) × (t k ≡ r) × (u k ≡ s)

-- triangle by triangle, each by 1 and by -1
pair_step : ℕ → ℤ
pair_step k = cond (eqb (k % 2) 0) (pos 1) (negsuc 0)

all_pairs : (n : ℕ) → AllMoves n (2 * n) (λ k. k / 2) pair_step
unfolding pair_step
all_pairs n =
    record {
      inside = λ k b. omega arith;
      step = λ k b. either (eqb (k % 2) 0);
      once = λ k j less b same. differ k j less same (k % 2) refl (omega arith) (j % 2) refl (omega arith);
      every = every;
    }
  where
    either : (b : Bool) → OneStep (cond b (pos 1) (negsuc 0))
    either true = inl refl
    either false = inr refl

    differ : (k j : ℕ) → k < j → k / 2 ≡ j / 2 → (a : ℕ) → k % 2 ≡ a → a < 2 → (b : ℕ) → j % 2 ≡ b → b < 2 → cond (eqb a 0) (pos 1) (negsuc 0) ≡ cond (eqb b 0) (pos 1) (negsuc 0) → ⊥
    differ k j less same zero e low zero f low' q = omega arith
    differ k j less same zero e low (suc b) f low' q = let not_zero = ne_eqb (suc b) 0 (λ z. omega arith) in apart (rw not_zero at q)
    differ k j less same (suc a) e low zero f low' q = let not_zero = ne_eqb (suc a) 0 (λ z. omega arith) in apart (sym (rw not_zero at q))
    differ k j less same (suc a) e low (suc b) f low' q = omega arith

    every : (r : ℕ) → r < n → (s : ℤ) → OneStep s → (k : ℕ) × (k < 2 * n) × (k / 2 ≡ r) × (cond (eqb (k % 2) 0) (pos 1) (negsuc 0) ≡ s)
    every r b s (inl e) = let even : 2 * r % 2 ≡ 0 = omega arith in (2 * r, omega arith, omega arith, rw even (sym e))
    every r b s (inr e) = let odd : (2 * r + 1) % 2 ≡ 1 = omega arith in (2 * r + 1, omega arith, omega arith, rw odd (sym e))

module _ (c : Complex) (L : ℕ) (s : List ℤ) where
  -- two for each triangle at most
  pub staying_few : (n : ℕ) → staying c L s n ≤ 2 * n
  unfolding staying
  staying_few zero = omega arith
  staying_few (suc t) = go (sides_within c L t (triangle_move c t (pos 1) s)) (sides_within c L t (triangle_move c t (negsuc 0) s)) (staying_few t)
    where
      go : (a b : Bool) → staying c L s t ≤ 2 * t → staying c L s t + (cond a 1 0 + cond b 1 0) ≤ 2 * suc t
      go true true h = omega arith
      go true false h = omega arith
      go false true h = omega arith
      go false false h = omega arith

module _ (c : Complex) (accepted : Accepted c) (L : ℕ) where
  -- ---- two moves that take state i to state j are one
  module _ (t t' : ℕ) (number : t < length c.triangles) (number' : t' < length c.triangles) (u u' : ℤ) (i j : ℕ) (h : i < length (states c L)) (k : j < length (states c L))
      (goes : target c L t u i ≡ j) (goes' : target c L t' u' i ≡ j) where
    -- they add the same on each edge
    same_added : (e : ℕ) → added c t u e ≡ added c t' u' e
    unfolding moved_state
    same_added e =
        let s = get_or (states c L) i [] in
        let long = (state_there c accepted L i h).sized in
        let x = get_or s e (pos 0) in
        let a = added c t u e in
        let b = added c t' u' e in
        let there : get_or (states c L) j [] ≡ triangle_move c t u s = rw goes at (target_at c accepted L t number u i h (rw goes k)).state in
        let there' : get_or (states c L) j [] ≡ triangle_move c t' u' s = rw goes' at (target_at c accepted L t' number' u' i h (rw goes' k)).state in
        let f : x +ℤ a ≡ x +ℤ b =
        sym (triangle_value c accepted t number u s long e) ∙ ap (λ l. get_or l e (pos 0)) (sym there ∙ there') ∙ triangle_value c accepted t' number' u' s long e in
        omega (integral, parts_sum x a, parts_sum x b)

    -- so what one moves is an edge of the other
    shared : u ≢ pos 0 → (e : ℕ) → added c t u e ≡ u → EdgeOf c t' e
    shared moves e is = go (edge_of c t' e)
      where
        go : Dec (EdgeOf c t' e) → EdgeOf c t' e
        go (yes p) = p
        go (no p) = absurd (moves (sym is ∙ same_added e ∙ added_nothing c t' u' e p))

    pub one_move : u ≢ pos 0 → (t ≡ t') × (u ≡ u')
    one_move moves =
        let same : t ≡ t' = same_triangle c accepted t t' number number' (shared moves (side c t 0) (added_first c accepted t number u)) (shared moves (side c t 2) (added_third c accepted t number u)) in (
          same,
          sym (added_first c accepted t number u) ∙ same_added (side c t 0) ∙ ap (λ r. added c t' u' (side c r 0)) same ∙ added_first c accepted t' number' u',
        )

  -- ---- a triangle joins two states just where its move by 1 or -1 takes one to the other
  module _ (t : ℕ) (number : t < length c.triangles) (i j : ℕ) (h : i < length (states c L)) (k : j < length (states c L)) where
    pub joins_goes : joins c L t i j ≡ true → (u : ℤ) × OneStep u × (target c L t u i ≡ j)
    joins_goes e = go (or_cases (hits c L t i j) (hits c L t j i) e)
      where
        go : (hits c L t i j ≡ true) ⊎ (hits c L t j i ≡ true) → (u : ℤ) × OneStep u × (target c L t u i ≡ j)
        go (inl f) = (pos 1, inl refl, eqb-true _ j (sym (hits_target c L t i j k) ∙ f))
        go (inr f) = (negsuc 0, inr refl, eqb-true _ j (sym (hits_back c accepted L t number j i k h) ∙ f))

    pub goes_joins : (u : ℤ) → OneStep u → target c L t u i ≡ j → joins c L t i j ≡ true
    goes_joins u (inl e) f = rw (hits_target c L t i j k, eq-eqb (target c L t (pos 1) i) j (rw e at f))
    goes_joins u (inr e) f = or_right (hits c L t i j) (hits c L t j i) (hits_back c accepted L t number j i k h ∙ eq-eqb (target c L t (negsuc 0) i) j (rw e at f))

  -- one triangle at most joins two states
  pub one_triangle : (t t' : ℕ) → t < length c.triangles → t' < length c.triangles → (i j : ℕ) → i < length (states c L) → j < length (states c L)
      → joins c L t i j ≡ true → joins c L t' i j ≡ true → t ≡ t'
  one_triangle t t' number number' i j h k e e' =
      let r = joins_goes t number i j h k e in
      let r' = joins_goes t' number' i j h k e' in
      (one_move t t' number number' r.0 r'.0 i j h k r.2 r'.2 (step_moves r.1)).0

  -- and none joins a state to itself
  pub never_joined : (t : ℕ) → t < length c.triangles → (i : ℕ) → i < length (states c L) → joins c L t i i ≡ false
  never_joined t number i h = go (joins c L t i i) refl
    where
      go : (b : Bool) → joins c L t i i ≡ b → b ≡ false
      go true e = let r = joins_goes t number i i h h e in absurd (target_elsewhere c accepted L t number r.0 (step_moves r.1) i h r.2)
      go false e = refl

  -- ---- the targets of one state, by all moves in whatever order
  module _ (i : ℕ) (h : i < length (states c L)) (m : ℕ) (t : ℕ → ℕ) (u : ℕ → ℤ) (all : AllMoves (length c.triangles) m t u) where
    abbrev N : ℕ
    N = length (states c L)

    abbrev to : ℕ → List ℕ
    to k = arrival c L (t k) (u k) i

    abbrev Goes : ℕ → ℕ → Type 0
    Goes k x = (target c L (t k) (u k) i ≡ x) × (x < N)

    arrived : (k : ℕ) → k < m → Each (Goes k) (to k)
    unfolding arrival
    arrived k b = go (sides_within c L (t k) (moved_state c L (t k) (u k) i)) refl
      where
        go : (a : Bool) → sides_within c L (t k) (moved_state c L (t k) (u k) i) ≡ a → Each (Goes k) (cond a (target c L (t k) (u k) i ∷ []) [])
        go true e = also (refl, (stays_at c accepted L (t k) (all.inside k b) (u k) i h e).below) none
        go false e = none

    from : Each (λ x. (k : ℕ) × (k < m) × Goes k x) (flat_map to (below m))
    from = each_joined to m arrived

    pub targets_below : Each (λ x. x < N) (flat_map to (below m))
    targets_below = each_to (λ x a. a.2.1) from

    -- no state is a target twice, and none is its own
    arrival_once : (k : ℕ) → Ordered (λ x y. x ≢ y) (to k)
    unfolding arrival
    arrival_once k = go (sides_within c L (t k) (moved_state c L (t k) (u k) i))
      where
        go : (a : Bool) → Ordered (λ x y. x ≢ y) (cond a (target c L (t k) (u k) i ∷ []) [])
        go true = before none empty
        go false = empty

    other_target : (k j : ℕ) → k < j → j < m → (x y : ℕ) → Goes k x → Goes j y → x ≢ y
    other_target k j less b x y g g' e =
        let first : k < m = omega arith in
        let one = one_move (t k) (t j) (all.inside k first) (all.inside j b) (u k) (u j) i x h g.1 g.0 (g'.0 ∙ sym e) (step_moves (all.step k first)) in
        all.once k j less b one.0 one.1

    targets_once : Ordered (λ x y. x ≢ y) (flat_map to (below m))
    targets_once =
        ordered_joined to m (λ k b. arrival_once k)
        (λ k j less b. each_to (λ x g. each_to (λ y g'. other_target k j less b x y g g') (arrived j b)) (arrived k (omega arith)))

    pub targets_own : Once 0 (i ∷ flat_map to (below m))
    targets_own =
        ordered_at 0
        (before
        (each_to (λ x a e. target_elsewhere c accepted L (t a.0) (all.inside a.0 a.1) (u a.0) (step_moves (all.step a.0 a.1)) i h (a.2.0 ∙ sym e)) from)
        targets_once)

    -- the targets are just the states that some triangle joins to i
    arrives : (k : ℕ) → target c L (t k) (u k) i < N → Member (target c L (t k) (u k) i) (to k)
    unfolding arrival
    arrives k b = rw (target_stays c L (t k) (u k) i b) (front refl)

    pub targets_joined : (j : ℕ) → j < N → some (λ r. joins c L r i j) (length c.triangles) ≡ listed eqb j (flat_map to (below m))
    targets_joined j b = same_tests _ _ into back
      where
        into : some (λ r. joins c L r i j) (length c.triangles) ≡ true → listed eqb j (flat_map to (below m)) ≡ true
        into e =
            let r = some_at (λ r. joins c L r i j) (length c.triangles) e in
            let g = joins_goes r.0 r.1 i j h b r.2 in
            let s = all.every r.0 r.1 g.0 g.1 in
            let leads : target c L (t s.0) (u s.0) i ≡ j = rw (s.2, s.3) g.2 in
            member_listed (rw leads at (member_joined to m s.0 s.1 (arrives s.0 (rw leads b))))

        back : listed eqb j (flat_map to (below m)) ≡ true → some (λ r. joins c L r i j) (length c.triangles) ≡ true
        back e =
            let a = each_member from (listed_member j (flat_map to (below m)) e) in
            at_some (λ r. joins c L r i j) (length c.triangles) (t a.0) (all.inside a.0 a.1) (goes_joins (t a.0) (all.inside a.0 a.1) i j h b (u a.0) (all.step a.0 a.1) a.2.0)

  -- ---- the targets triangle by triangle, each forward and then back
  module _ (i : ℕ) (h : i < length (states c L)) where
    abbrev T : ℕ
    T = length c.triangles

    by_moves : (n : ℕ) → arrivals c L i n ≡ flat_map (λ k. arrival c L (k / 2) (pair_step k) i) (below (2 * n))
    unfolding arrivals below flat_map pair_step
    by_moves zero = refl
    by_moves (suc n) =
        let e : 2 * suc n ≡ suc (suc (2 * n)) = omega arith in
        let last = arrival c L n (negsuc 0) i in
        let to : ℕ → List ℕ = λ k. arrival c L (k / 2) (pair_step k) i in
        sym (ap (λ k. flat_map to (below k)) e ∙ flat_map_last to (below (suc (2 * n))) (suc (2 * n))
        ∙ ap₂ (λ a b. a ++ b) (flat_map_last to (below (2 * n)) (2 * n)) (back_there n)
        ∙ append_assoc (flat_map to (below (2 * n))) (to (2 * n)) last
        ∙ ap₂ (λ a b. a ++ (b ++ last)) (sym (by_moves n)) (forward_there n))
      where
        forward_there : (n : ℕ) → arrival c L (2 * n / 2) (pair_step (2 * n)) i ≡ arrival c L n (pos 1) i
        forward_there n =
            let half : 2 * n / 2 ≡ n = omega arith in
            let even : 2 * n % 2 ≡ 0 = omega arith in
            rw (half, even)

        back_there : (n : ℕ) → arrival c L (suc (2 * n) / 2) (pair_step (suc (2 * n))) i ≡ arrival c L n (negsuc 0) i
        back_there n =
            let half : suc (2 * n) / 2 ≡ n = omega arith in
            let odd : suc (2 * n) % 2 ≡ 1 = omega arith in
            rw (half, odd)

    pub arrivals_below : Each (λ x. x < length (states c L)) (arrivals c L i T)
    arrivals_below = rw (by_moves T) (targets_below i h (2 * T) (λ k. k / 2) pair_step (all_pairs T))

    arrivals_once : Ordered (λ x y. x ≢ y) (arrivals c L i T)
    arrivals_once = rw (by_moves T) (targets_once i h (2 * T) (λ k. k / 2) pair_step (all_pairs T))

    pub arrivals_own : Once 0 (i ∷ arrivals c L i T)
    arrivals_own = rw (by_moves T) (targets_own i h (2 * T) (λ k. k / 2) pair_step (all_pairs T))

    pub arrivals_joined : (j : ℕ) → j < length (states c L) → some (λ t. joins c L t i j) T ≡ listed eqb j (arrivals c L i T)
    arrivals_joined j b = rw (by_moves T) (targets_joined i h (2 * T) (λ k. k / 2) pair_step (all_pairs T) j b)

    -- ---- how many
    arrivals_staying : (m : ℕ) → length (arrivals c L i m) ≡ staying c L (get_or (states c L) i []) m
    unfolding arrivals arrival staying moved_state
    arrivals_staying zero = refl
    arrivals_staying (suc t) =
        length-append (arrivals c L i t) (arrival c L t (pos 1) i ++ arrival c L t (negsuc 0) i)
        ∙ rw (arrivals_staying t, length-append (arrival c L t (pos 1) i) (arrival c L t (negsuc 0) i))
        (ap₂ (λ a b. staying c L (get_or (states c L) i []) t + (a + b))
        (one (sides_within c L t (moved_state c L t (pos 1) i)) (target c L t (pos 1) i))
        (one (sides_within c L t (moved_state c L t (negsuc 0) i)) (target c L t (negsuc 0) i)))
      where
        one : (b : Bool) (x : ℕ) → length (cond b (x ∷ []) []) ≡ cond b 1 0
        one true x = refl
        one false x = refl

    pub arrivals_count : length (arrivals c L i T) ≡ staying c L (get_or (states c L) i []) T
    arrivals_count = arrivals_staying T

    -- as many states are joined to state i as moves of it stay within -L to L
    pub joined_count : length (joined c L i) ≡ staying c L (get_or (states c L) i []) T
    unfolding joined
    joined_count =
        keep_count (arrivals c L i T) (length (states c L)) arrivals_once arrivals_below (λ j. some (λ t. joins c L t i j) T) arrivals_joined ∙ arrivals_count
