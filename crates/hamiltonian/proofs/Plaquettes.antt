-- The walk over the states of a triangle: what the entries are after one state more.
use Prim.Native.Nat.{ℕ, ◌+◌, ◌*◌, ◌<◌, ◌≤◌}
use mathlib.Core.List.{List}
use mathlib.Core.Bool.{true, false, ◌&&◌, cond}
use mathlib.Core.Path.{◌≡◌, refl, sym, ◌∙◌}
use mathlib.Core.Logic.{◌≢◌}
use native.Mathlib.Omega.{arith}
use native.Mathlib.Decide.{ℕ_discrete, dec_lt}
use borrow.Author.Tests.{eq-eqb, ne_eqb}
use lib.Dec.{eqb}
use lib.IntN.{ℤ, pos}
use lib.Ieee.{Float, binary64, add}
use lib.ListN.{length}
use Rattle.triangles.specs.declared.Sides.{Sides}
use Rattle.complex.specs.Complex.{Complex}
use Rattle.gauss_law.specs.Listing.{states}
use Rattle.matrices.specs.declared.coupling.KSParams.{KSParams}
use Rattle.matrices.specs.Terms.{dense_plaquette_term}
use Rattle.plaquettes.specs.declared.target.Sizes.{Sizes}
use Rattle.matrices.specs.Matrix.{Matrix, with_added}
use Rattle.plaquettes.specs.Triangle.{target, hits}
use Rattle.hamiltonian.specs.Dense.{u1_entry}
use Rattle.hamiltonian.specs.Walk.{part_entry, HitAdded, PlaquetteAdded}
use Rattle.plaquettes.specs.Targets.{BasisList}
use Rattle.triangles.specs.Indices.{SidesOf}
use Rattle.matrices.proofs.Matrices.{matrix_add, matrix_same}
use Rattle.plaquettes.proofs.Hits.{elsewhere}
use Rattle.hamiltonian.proofs.PartWay.{way_none, way_there, way_back, way_elsewhere, part_none, part_all}
use Rattle.plaquettes.specs.Pairs.{PairFound, Parted}
use Rattle.plaquettes.proofs.Targets.{there, hit_found, hit_none}
use Rattle.plaquettes.proofs.Pairing.{parted_none, parted_miss, parted_hit, pair_target}

-- while triangle t is under way: a place parts the targets, and the entries are those of the states below i
pub record Way (c : Complex) (s : Sizes) (t : ℕ) (x : Float) (i from : ℕ) (old new : List Float) : Type 0 where
  pub parts : Parted c s.lambda t (pos 1) i from
  pub entries : (p : KSParams) (w : ℕ → Float) → x ≡ dense_plaquette_term p (w t) → (first : List Float) → Matrix (u1_entry c s.lambda p w t) s.states first old
      → Matrix (part_entry c s.lambda p w t i) s.states first new

pub hit_below : (n i j from : ℕ) (x : Float) (old new : List Float) (r : ℕ) → HitAdded n i j from x old new r → from ≤ n → r ≤ n
hit_below n i j from x old new r made h = go (dec_lt j n)
  where
    go : Dec (j < n) → r ≤ n
    go (yes k) = omega (arith, (made.hit k).0)
    go (no k) = omega (arith, (made.miss (omega arith)).0)

module _ (c : Complex) (list : List ℤ) (s : Sizes) (free : List ℕ) (basis : BasisList c list s free) (t : ℕ) (three : Sides) (of : SidesOf c t three) where
  abbrev L : ℕ
  L = s.lambda

  abbrev n : ℕ
  n = s.states

  module _ (x : Float) (old : List Float) where
    pub way_begun : Way c s t x 0 0 old old
    way_begun =
        record {
          parts = parted_none c basis.accepted L t of.number (pos 1);
          entries = λ p w e first m. matrix_same (u1_entry c L p w t) (part_entry c L p w t 0) n first old (λ i j a b. sym (part_none c basis.accepted L t of.number p w i j)) m;
        }

    pub way_ended : (from : ℕ) (new : List Float) → Way c s t x n from old new → PlaquetteAdded c L t n x old new
    way_ended from new way p w e first m =
        matrix_same (part_entry c L p w t n) (u1_entry c L p w (t + 1)) n first new
        (λ i j a b. rw basis.count (part_all c basis.accepted L t of.number p w i j (there c list s free basis i a) (there c list s free basis j b)))
        (way.entries p w e first m)

    module _ (i : ℕ) (h : i < n) (from : ℕ) (new : List Float) (way : Way c s t x i from old new) where
      abbrev here : i < length (states c L)
      here = there c list s free basis i h

      pub way_kept : n ≤ target c L t (pos 1) i → Way c s t x (i + 1) from old new
      unfolding part_entry
      way_kept out =
          record {
            parts = parted_miss c basis.accepted L t of.number (pos 1) i from way.parts (rw (← basis.count) out);
            entries = λ p w e first m. matrix_same (part_entry c L p w t i) (part_entry c L p w t (i + 1)) n first new (λ a b d f. same p w a b) (way.entries p w e first m);
          }
        where
          same : (p : KSParams) (w : ℕ → Float) (a b : ℕ) → part_entry c L p w t i a b ≡ part_entry c L p w t (i + 1) a b
          same p w a b = rw (way_none c basis.accepted L t of.number i here (hit_none c list s free basis t of.number i h out) a b)

      -- entry by entry, where it was added to both entries of the hit (i, q)
      module _ (p : KSParams) (w : ℕ → Float) (is : x ≡ dense_plaquette_term p (w t)) (q : ℕ) (there_q : q < length (states c L)) (hit : hits c L t i q ≡ true) where
        before : ℕ → ℕ → Float
        before = part_entry c L p w t i

        first_added : ℕ → ℕ → Float
        first_added a b = cond (eqb a i && eqb b q) (add binary64 (before a b) x) (before a b)

        both_added : ℕ → ℕ → Float
        both_added a b = cond (eqb a q && eqb b i) (add binary64 (first_added a b) x) (first_added a b)

        apart : i ≢ q
        apart = elsewhere c basis.accepted L t of.number i q here hit

        untouched : (a b : ℕ) → (eqb a i && eqb b q) ≡ false → (eqb a q && eqb b i) ≡ false → ((a ≡ i) × (b ≡ q) → ⊥) → ((a ≡ q) × (b ≡ i) → ⊥) → both_added a b ≡ part_entry c L p w t (i + 1) a b
        unfolding both_added first_added before part_entry
        untouched a b k l y z = rw (l, k, way_elsewhere c basis.accepted L t of.number i here q there_q hit a b y z)

        hit_added : (a b : ℕ) → both_added a b ≡ part_entry c L p w t (i + 1) a b
        unfolding both_added first_added before part_entry
        hit_added a b = go (ℕ_discrete a i) (ℕ_discrete b q) (ℕ_discrete a q) (ℕ_discrete b i)
          where
            go : Dec (a ≡ i) → Dec (b ≡ q) → Dec (a ≡ q) → Dec (b ≡ i) → both_added a b ≡ part_entry c L p w t (i + 1) a b
            go (yes d) (yes e) f g =
                let r = way_there c basis.accepted L t of.number i here q there_q hit in
                rw (d, e, ne_eqb i q apart, eq-eqb i i refl, eq-eqb q q refl, r.0, r.1, is)
            go (yes d) (no e) f g =
                untouched a b (rw (eq-eqb a i d, ne_eqb b q e)) (rw (ne_eqb a q (λ z. apart (sym d ∙ z)))) (λ z. e z.1) (λ z. apart (sym d ∙ z.0))
            go (no d) e (yes f) (yes g) =
                let r = way_back c basis.accepted L t of.number i here q there_q hit in
                rw (f, g, ne_eqb q i (λ z. apart (sym z)), eq-eqb i i refl, eq-eqb q q refl, r.0, r.1, is)
            go (no d) e (yes f) (no g) = untouched a b (rw (ne_eqb a i d)) (rw (eq-eqb a q f, ne_eqb b i g)) (λ z. d z.0) (λ z. g z.1)
            go (no d) e (no f) g = untouched a b (rw (ne_eqb a i d)) (rw (ne_eqb a q f)) (λ z. d z.0) (λ z. f z.0)

      pub way_hit : target c L t (pos 1) i < n → n * n ≤ length old
          → Way c s t x (i + 1) (target c L t (pos 1) i + 1) old (with_added n (target c L t (pos 1) i) i x (with_added n i (target c L t (pos 1) i) x new))
      unfolding both_added first_added before
      way_hit hit room =
          record {
            parts = parted_hit c basis.accepted L t of.number (pos 1) i from way.parts here (there c list s free basis _ hit);
            entries = λ p w e first m.
                let q = target c L t (pos 1) i in
                let enough : n * n ≤ length first = rw (← m.long) room in
                let one = matrix_add (part_entry c L p w t i) n first new (way.entries p w e first m) enough i q h hit x in
                matrix_same (both_added p w e q (there c list s free basis q hit) (hit_found c list s free basis t of.number i hit)) (part_entry c L p w t (i + 1)) n first
                (with_added n q i x (with_added n i q x new))
                (λ a b d f. hit_added p w e q (there c list s free basis q hit) (hit_found c list s free basis t of.number i hit) a b)
                (matrix_add (first_added p w e q (there c list s free basis q hit) (hit_found c list s free basis t of.number i hit)) n first (with_added n i q x new) one enough q i hit h x);
          }

      -- one state more, whether its target is a hit or not
      pub way_on : (j : ℕ) → PairFound list s three (pos 1) i from j → n * n ≤ length old → (next : List Float) (r : ℕ) → HitAdded n i j from x new next r → Way c s t x (i + 1) r old next
      way_on j found room next r made = go (dec_lt j n)
        where
          e : j ≡ target c L t (pos 1) i
          e = pair_target c list s free basis t three of (pos 1) i from j h way.parts found

          go : Dec (j < n) → Way c s t x (i + 1) r old next
          go (yes k) = let d = made.hit k in rw (d.0, d.1, e) (way_hit (rw (← e) k) room)
          go (no k) = let d = made.miss (omega arith) in rw (d.0, d.1) (way_kept (omega (arith, e)))
