-- What holds after the first e edges: paths lead to their vertices, each closing edge has its loop, and an even set is told by its closing edges.
use Prim.Native.Nat.{ℕ, zero, suc, ◌+◌, ◌*◌, ◌%◌, ◌^◌, ◌≤◌, ◌<◌}
use mathlib.Core.List.{List, [], ◌∷◌, ◌++◌}
use mathlib.Core.Bool.{Bool, true, false, cond}
use mathlib.Core.Path.{◌≡◌, refl, sym, ap, ◌∙◌}
use mathlib.Core.Logic.{◌≢◌}
use native.Mathlib.Nat.{one-mul, lt_of_lt_of_le}
use native.Mathlib.Decide.{ℕ_discrete, dec_lt}
use native.Mathlib.Omega.{arith}
use borrow.Author.Tests.{eqb-true, eqb-false, eq-eqb, ne_eqb}
use lib.Arith.{lt-one}
use lib.Dec.{eqb}
use lib.Pow.{pow-lt, pow_mono}
use lib.Bits.{bit_xor, xor_lt}
use lib.ListN.{get_or, length, length-append, get_or-append}
use lib.Seq.{get_or-append_seam}
use Rattle.mathematics.specs.Bits.{bit}
use Rattle.mathematics.proofs.Bits.{bit_below, bit_xor_lem, bit_above, below_power, bit_power, bit_power_other}
use Rattle.mathematics.proofs.Totals.{total}
use Rattle.mathematics.proofs.Appended.{each_appended, later_appended}
use Rattle.complex.specs.Complex.{Simplex, Complex, start, end}
use Rattle.complex.specs.Judge.{Accepted}
use Rattle.su2_even_sets.specs.EvenSets.{even}
use Rattle.su2_even_sets.specs.Loops.{Growth, separate, loop, loop_closed, join_parts, grow, grown}
use Rattle.su2_even_sets.proofs.Degrees.{both, degree, Balanced, hit, hit_self, hit_other, degree_xor, degree_power, degree_cut, degree_zero, even_balanced, balanced_even}

-- x and y lead from one place to u and to v: together they have the ends u and v
abbrev pub Meet : List Simplex → ℕ → ℕ → ℕ → ℕ → Type 0
Meet es x y u v = (w : ℕ → ℕ) → (degree w es x (length es) + degree w es y (length es)) % 2 ≡ (w u + w v) % 2

-- z is even, and its highest edge is k
pub record Loop (es : List Simplex) (k z : ℕ) : Type 0 where
  pub balanced : Balanced es z
  pub on : bit z k ≡ 1
  pub above : (i : ℕ) → k < i → bit z i ≡ 0

-- Parts agree across the first e edges, and a loop has no closing edge before its own (`apart`; it has none behind it, where its bits are 0).
-- An even set that has no closing edge is empty. None of this asks what the edges are.
pub record Forest (es : List Simplex) (e : ℕ) (g : Growth) : Type 0 where
  pub agree : (i : ℕ) → i < e → g.part (start (get_or es i [])) ≡ g.part (end (get_or es i []))
  pub meet : (u v : ℕ) → g.part u ≡ g.part v → Meet es (g.path u) (g.path v) u v
  pub short : (v : ℕ) → g.path v < 2 ^ e
  pub clear : (v j : ℕ) → j < length g.closing → bit (g.path v) (get_or g.closing j 0) ≡ 0
  pub sizes : length g.loops ≡ length g.closing
  pub few : length g.closing ≤ e
  pub below : (j : ℕ) → j < length g.closing → get_or g.closing j 0 < e
  pub closes : (j : ℕ) → j < length g.closing → Loop es (get_or g.closing j 0) (get_or g.loops j 0)
  pub rising : (i j : ℕ) → i < j → j < length g.closing → get_or g.closing i 0 < get_or g.closing j 0
  pub apart : (i j : ℕ) → i < j → j < length g.closing → bit (get_or g.loops j 0) (get_or g.closing i 0) ≡ 0
  pub empty : (x : ℕ) → x < 2 ^ e → Balanced es x → ((j : ℕ) → j < length g.closing → bit x (get_or g.closing j 0) ≡ 0) → x ≡ 0

-- ---- numbers
without_top : (e x : ℕ) → x < 2 ^ suc e → bit x e ≡ 0 → x < 2 ^ e
without_top e x h b = below_power e x (λ i l. go i l (ℕ_discrete i e))
  where
    go : (i : ℕ) → e ≤ i → Dec (i ≡ e) → bit x i ≡ 0
    go i l (yes p) = ap (bit x) p ∙ b
    go i l (no p) = bit_above (suc e) x i h (omega arith)

twice : (b k : ℕ) → b < 2 → b * (k + k) % 2 ≡ 0
twice zero k h = omega arith
twice (suc zero) k h = omega arith
twice (suc (suc b)) k h = absurd (omega arith)

-- congruences are added in pairs, since `omega` stops at many at once
add : (a b c d : ℕ) → a % 2 ≡ b % 2 → c % 2 ≡ d % 2 → (a + c) % 2 ≡ (b + d) % 2
add a b c d h k = omega arith

both_moved : (p q u v c s : ℕ) → p % 2 ≡ (u + c) % 2 → q % 2 ≡ (v + c) % 2 → (u + v) % 2 ≡ s % 2 → (p + q) % 2 ≡ s % 2
both_moved p q u v c s h k j = omega arith

cancel : (p u v a b c wu wv wa wb : ℕ) → (p + c + (u + b + (v + a))) % 2 ≡ (u + c + (a + b + (wa + wb)) + (wu + wb + (wv + wa))) % 2 → (p + v) % 2 ≡ (wu + wv) % 2
cancel p u v a b c wu wv wa wb h = omega arith

one_moved : (p u v a b c wu wv wa wb : ℕ) → p % 2 ≡ (u + c) % 2 → c % 2 ≡ (a + b + (wa + wb)) % 2 → (u + b) % 2 ≡ (wu + wb) % 2 → (v + a) % 2 ≡ (wv + wa) % 2
    → (p + v) % 2 ≡ (wu + wv) % 2
one_moved p u v a b c wu wv wa wb h k g j =
    cancel p u v a b c wu wv wa wb
    (add (p + c) _ (u + b + (v + a)) _ (add p (u + c) c _ h k) (add (u + b) _ (v + a) _ g j))

-- ---- the highest edge of an even set joins vertices of one part
module _ (es : List Simplex) (w : ℕ → ℕ) (x : ℕ) where
  -- a weight that agrees across the first e edges
  degree_agree : (e : ℕ) → ((i : ℕ) → i < e → w (start (get_or es i [])) ≡ w (end (get_or es i []))) → degree w es x e % 2 ≡ 0
  unfolding degree total both
  degree_agree zero h = refl
  degree_agree (suc e) h =
      let b = w (end (get_or es e [])) in
      let q : bit x e * both w (get_or es e []) ≡ bit x e * (b + b) = ap (λ (a : ℕ). bit x e * (a + b)) (h e (omega arith)) in
      omega (arith, q, twice (bit x e) b (bit_below x e), degree_agree e (λ i l. h i (omega arith)))

  degree_last : (e : ℕ) → bit x e ≡ 1 → degree w es x (suc e) ≡ degree w es x e + both w (get_or es e [])
  unfolding degree total
  degree_last e h = ap (λ (b : ℕ). degree w es x e + b * both w (get_or es e [])) h ∙ ap (λ (k : ℕ). degree w es x e + k) (one-mul _)

module _ (es : List Simplex) (part : ℕ → ℕ) (e : ℕ) (l : e < length es) (agree : (i : ℕ) → i < e → part (start (get_or es i [])) ≡ part (end (get_or es i []))) where
  -- weighed by being in the part of its start
  kruskal : (x : ℕ) → x < 2 ^ suc e → Balanced es x → bit x e ≡ 1 → part (end (get_or es e [])) ≡ part (start (get_or es e []))
  unfolding both
  kruskal x h even on = go (ℕ_discrete (part (end (get_or es e []))) p)
    where
      p : ℕ
      p = part (start (get_or es e []))

      w : ℕ → ℕ
      w u = hit p (part u)

      go : Dec (part (end (get_or es e [])) ≡ p) → part (end (get_or es e [])) ≡ p
      go (yes q) = q
      go (no q) =
          absurd
          (omega (
            arith,
            even w,
            degree_cut w es x (suc e) (length es) h l,
            degree_last es w x e on,
            degree_agree es w x e (λ i k. ap (hit p) (agree i k)),
            hit_self p,
            hit_other p (part (end (get_or es e []))) q,
          ))

  -- so across parts no even set ends in edge e
  across : part (start (get_or es e [])) ≢ part (end (get_or es e [])) → (x : ℕ) → x < 2 ^ suc e → Balanced es x → x < 2 ^ e
  across n x h even = without_top e x h (go (bit x e) refl (bit_below x e))
    where
      go : (b : ℕ) → bit x e ≡ b → b < 2 → bit x e ≡ 0
      go zero q k = q
      go (suc zero) q k = absurd (n (sym (kruskal x h even q)))
      go (suc (suc b)) q k = absurd (omega arith)

-- ---- one edge more
-- where the edge joins two parts, that of its end goes over to that of its start, with the loop added to its paths
pub joined_cases : (g : Growth) (s : Simplex) (e : ℕ) (P : ℕ → ℕ → Type 0) (v : ℕ)
    → (g.part v ≡ g.part (end s) → P (g.part (start s)) (bit_xor (g.path v) (loop g s e)))
    → (g.part v ≢ g.part (end s) → P (g.part v) (g.path v))
    → P ((join_parts g s e).part v) ((join_parts g s e).path v)
unfolding join_parts
joined_cases g s e P v moved kept = go (eqb (g.part v) (g.part (end s))) refl
  where
    go : (t : Bool) → eqb (g.part v) (g.part (end s)) ≡ t → P (cond t (g.part (start s)) (g.part v)) (cond t (bit_xor (g.path v) (loop g s e)) (g.path v))
    go true h = moved (eqb-true _ _ h)
    go false h = kept (eqb-false _ _ h)

module _ (es : List Simplex) (e : ℕ) (g : Growth) (l : e < length es) (f : Forest es e g) where
  -- the ends of edge e, and the edge with the paths to both
  abbrev a : ℕ
  a = start (get_or es e [])

  abbrev b : ℕ
  b = end (get_or es e [])

  abbrev c : ℕ
  c = loop g (get_or es e []) e

  short_next : (v : ℕ) → g.path v < 2 ^ suc e
  short_next v = lt_of_lt_of_le (f.short v) (pow_mono (omega arith))

  -- ---- the loop
  loop_bit : (i : ℕ) → bit c i ≡ (bit (g.path a) i + bit (g.path b) i + bit (2 ^ e) i) % 2
  unfolding loop
  loop_bit i = omega (arith, bit_xor_lem (bit_xor (g.path a) (g.path b)) (2 ^ e) i, bit_xor_lem (g.path a) (g.path b) i)

  loop_short : c < 2 ^ suc e
  unfolding loop
  loop_short = xor_lt (suc e) _ _ (xor_lt (suc e) _ _ (short_next a) (short_next b)) (pow-lt (omega arith))

  loop_on : bit c e ≡ 1
  loop_on = omega (arith, loop_bit e, bit_above e _ e (f.short a) (omega arith), bit_above e _ e (f.short b) (omega arith), bit_power e)

  loop_clear : (j : ℕ) → j < length g.closing → bit c (get_or g.closing j 0) ≡ 0
  loop_clear j h =
      let k = get_or g.closing j 0 in
      omega (arith, loop_bit k, f.clear a j h, f.clear b j h, bit_power_other e k (λ q. omega (arith, f.below j h)))

  loop_degree : (w : ℕ → ℕ) → degree w es c (length es) % 2 ≡ (degree w es (g.path a) (length es) + degree w es (g.path b) (length es) + (w a + w b)) % 2
  unfolding loop both
  loop_degree w =
      let n = length es in
      omega (arith, degree_xor w es (bit_xor (g.path a) (g.path b)) (2 ^ e) n, degree_xor w es (g.path a) (g.path b) n, degree_power w es e n l)

  loop_balanced : g.part a ≡ g.part b → Balanced es c
  loop_balanced q w = omega (arith, loop_degree w, f.meet a b q w)

  -- ---- the edge closes a loop
  module _ (q : g.part a ≡ g.part b) where
    closed_agree : (i : ℕ) → i < suc e → Dec (i ≡ e) → g.part (start (get_or es i [])) ≡ g.part (end (get_or es i []))
    closed_agree i h (yes p) = rw p q
    closed_agree i h (no p) = f.agree i (omega arith)

    closed_empty : (x : ℕ) → x < 2 ^ suc e → Balanced es x → ((j : ℕ) → j < length (g.closing ++ (e ∷ [])) → bit x (get_or (g.closing ++ (e ∷ [])) j 0) ≡ 0) → x ≡ 0
    closed_empty x h even off =
        let n = length-append g.closing (e ∷ []) in
        let last : bit x e ≡ 0 = ap (bit x) (sym (get_or-append_seam g.closing e [] 0)) ∙ off (length g.closing) (omega arith) in
        f.empty x (without_top e x h last) even (λ j k. ap (bit x) (sym (get_or-append g.closing (e ∷ []) 0 j k)) ∙ off j (omega arith))

    forest_closed : Forest es (suc e) (loop_closed g (get_or es e []) e)
    unfolding loop_closed
    forest_closed = record {
      agree = λ i h. closed_agree i h (ℕ_discrete i e);
      meet = f.meet;
      short = short_next;
      clear = λ v. each_appended 0 0 g.closing g.loops f.sizes e c (λ k z. bit (g.path v) k ≡ 0) (f.clear v) (bit_above e _ e (f.short v) (omega arith));
      sizes = omega (arith, f.sizes, length-append g.loops (c ∷ []), length-append g.closing (e ∷ []));
      few = omega (arith, f.few, length-append g.closing (e ∷ []));
      below = each_appended 0 0 g.closing g.loops f.sizes e c (λ k z. k < suc e) (λ j h. omega (arith, f.below j h)) (omega arith);
      closes = each_appended 0 0 g.closing g.loops f.sizes e c (Loop es) f.closes (record { balanced = loop_balanced q; on = loop_on; above = λ i h. bit_above (suc e) c i loop_short h });
      rising = later_appended 0 0 g.closing g.closing refl e e (λ k z. k < z) f.rising f.below;
      apart = later_appended 0 0 g.closing g.loops f.sizes e c (λ k z. bit z k ≡ 0) f.apart loop_clear;
      empty = closed_empty;
    }

  -- ---- the edge joins two parts
  module _ (q : g.part a ≢ g.part b) where
    abbrev new : Growth
    new = join_parts g (get_or es e []) e

    joined_agree : (i : ℕ) → i < suc e → Dec (i ≡ e) → new.part (start (get_or es i [])) ≡ new.part (end (get_or es i []))
    unfolding join_parts
    joined_agree i h (yes p) = rw (p, ne_eqb (g.part a) (g.part b) q, eq-eqb (g.part b) (g.part b) refl)
    joined_agree i h (no p) = ap (λ (k : ℕ). cond (eqb k (g.part b)) (g.part a) k) (f.agree i (omega arith))

    moved_degree : (w : ℕ → ℕ) (v : ℕ) → degree w es (bit_xor (g.path v) c) (length es) % 2 ≡ (degree w es (g.path v) (length es) + degree w es c (length es)) % 2
    moved_degree w v = degree_xor w es (g.path v) c (length es)

    moved_kept : (u v : ℕ) → g.part u ≡ g.part b → g.part v ≡ g.part a → Meet es (bit_xor (g.path u) c) (g.path v) u v
    moved_kept u v r s w =
        one_moved _ (degree w es (g.path u) (length es)) _ _ _ _ (w u) (w v) (w a) (w b) (moved_degree w u) (loop_degree w) (f.meet u b r w) (f.meet v a s w)

    turned : (x y u v : ℕ) → Meet es x y u v → Meet es y x v u
    turned x y u v h w = omega (arith, h w)

    joined_meet : (u v : ℕ) → new.part u ≡ new.part v → Meet es (new.path u) (new.path v) u v
    joined_meet u v =
        joined_cases g (get_or es e []) e (λ p x. p ≡ new.part v → Meet es x (new.path v) u v) u
        (λ r. joined_cases g (get_or es e []) e (λ p y. g.part a ≡ p → Meet es (bit_xor (g.path u) c) y u v) v
        (λ s h w. both_moved _ _ _ _ _ (w u + w v) (moved_degree w u) (moved_degree w v) (f.meet u v (r ∙ sym s) w))
        (λ s h. moved_kept u v r (sym h)))
        (λ r. joined_cases g (get_or es e []) e (λ p y. g.part u ≡ p → Meet es (g.path u) y u v) v
        (λ s h. turned _ _ v u (moved_kept v u s h))
        (λ s h. f.meet u v h))

    joined_short : (v : ℕ) → new.path v < 2 ^ suc e
    joined_short v = joined_cases g (get_or es e []) e (λ p x. x < 2 ^ suc e) v (λ r. xor_lt (suc e) _ _ (short_next v) loop_short) (λ r. short_next v)

    joined_clear : (v j : ℕ) → j < length g.closing → bit (new.path v) (get_or g.closing j 0) ≡ 0
    joined_clear v j h =
        let k = get_or g.closing j 0 in
        joined_cases g (get_or es e []) e (λ p x. bit x k ≡ 0) v (λ r. omega (arith, bit_xor_lem (g.path v) c k, f.clear v j h, loop_clear j h)) (λ r. f.clear v j h)

    forest_joined : Forest es (suc e) new
    unfolding join_parts
    forest_joined = record {
      agree = λ i h. joined_agree i h (ℕ_discrete i e);
      meet = joined_meet;
      short = joined_short;
      clear = joined_clear;
      sizes = f.sizes;
      few = omega (arith, f.few);
      below = λ j h. omega (arith, f.below j h);
      closes = f.closes;
      rising = f.rising;
      apart = f.apart;
      empty = λ x h even. f.empty x (across es g.part e l f.agree q x h even) even;
    }

-- ---- the first e edges, and all
pub grown_forest : (es : List Simplex) (e : ℕ) → e ≤ length es → Forest es e (grown es e)
unfolding separate grow grown
grown_forest es zero h = record {
  agree = λ i l. absurd (omega arith);
  meet = λ u v p w. omega (arith, degree_zero w es (length es), ap w p);
  short = λ v. omega arith;
  clear = λ v j l. absurd (omega arith);
  sizes = refl;
  few = omega arith;
  below = λ j l. absurd (omega arith);
  closes = λ j l. absurd (omega arith);
  rising = λ i j k l. absurd (omega arith);
  apart = λ i j k l. absurd (omega arith);
  empty = λ x l even off. lt-one l;
}
grown_forest es (suc e) h = go (grown_forest es e (omega arith)) (eqb (g.part (start s)) (g.part (end s))) refl
  where
    g : Growth
    g = grown es e

    s : Simplex
    s = get_or es e []

    go : Forest es e g → (t : Bool) → eqb (g.part (start s)) (g.part (end s)) ≡ t → Forest es (suc e) (cond t (loop_closed g s e) (join_parts g s e))
    go f true q = forest_closed es e g h f (eqb-true _ _ q)
    go f false q = forest_joined es e g h f (eqb-false _ _ q)

-- after all edges
abbrev pub all_grown : List Simplex → Growth
all_grown es = grown es (length es)

module _ (es : List Simplex) where
  abbrev closing : List ℕ
  closing = (all_grown es).closing

  abbrev loops : List ℕ
  loops = (all_grown es).loops

  pub all_forest : Forest es (length es) (all_grown es)
  all_forest = grown_forest es (length es) (omega arith)

  pub closing_below : (j : ℕ) → j < length closing → get_or closing j 0 < length es
  closing_below = all_forest.below

  pub grown_rising : (i j : ℕ) → i < j → j < length closing → get_or closing i 0 < get_or closing j 0
  grown_rising = all_forest.rising

  pub grown_own : (j : ℕ) → j < length closing → bit (get_or loops j 0) (get_or closing j 0) ≡ 1
  grown_own j h = (all_forest.closes j h).on

  pub grown_top : (j : ℕ) → j < length closing → (i : ℕ) → get_or closing j 0 < i → bit (get_or loops j 0) i ≡ 0
  grown_top j h = (all_forest.closes j h).above

  pub grown_others : (i j : ℕ) → i < length closing → j < length closing → i ≢ j → bit (get_or loops j 0) (get_or closing i 0) ≡ 0
  grown_others i j h k d = go (dec_lt i j)
    where
      go : Dec (i < j) → bit (get_or loops j 0) (get_or closing i 0) ≡ 0
      go (yes l) = all_forest.apart i j l k
      go (no l) = grown_top j k _ (grown_rising j i (omega arith) h)

module _ (c : Complex) (accepted : Accepted c) where
  pub grown_loops : (j : ℕ) → j < length (all_grown c.edges).closing
      → (even c (get_or (all_grown c.edges).loops j 0) ≡ true) × (get_or (all_grown c.edges).loops j 0 < 2 ^ length c.edges)
  grown_loops j h = (
    balanced_even c accepted _ ((all_forest c.edges).closes j h).balanced,
    below_power _ _ (λ i k. grown_top c.edges j h i (lt_of_lt_of_le (closing_below c.edges j h) k)),
  )

  pub grown_empty : (x : ℕ) → x < 2 ^ length c.edges → even c x ≡ true
      → ((j : ℕ) → j < length (all_grown c.edges).closing → bit x (get_or (all_grown c.edges).closing j 0) ≡ 0) → x ≡ 0
  grown_empty x h k off = (all_forest c.edges).empty x h (even_balanced c accepted x k) off
