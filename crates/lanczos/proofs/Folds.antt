-- The product as the code makes it: one state more, one triangle more, and at the beginning of a longer list.
use Prim.Native.Nat.{ℕ, zero, suc, ◌+◌, ◌<◌, ◌≤◌}
use mathlib.Core.List.{List, ◌++◌}
use mathlib.Core.Bool.{Bool, true, false, cond}
use mathlib.Core.Path.{◌≡◌, refl, ap, ◌∙◌}
use native.Mathlib.Numerals.{add-one}
use native.Mathlib.Omega.{arith}
use borrow.Author.Tests.{lt-ltb, le-ltb, ltb-true}
use lib.Dec.{ltb}
use lib.IntN.{ℤ, pos}
use lib.Ieee.{Float, binary64, nan, add, mul}
use lib.ListN.{get_or, length, set, length-set, get_or-append}
use lib.Seq.{set-append_left}
use Rattle.complex.specs.Complex.{Complex}
use Rattle.gauss_law.specs.Listing.{states}
use Rattle.matrices.specs.declared.coupling.KSParams.{KSParams}
use Rattle.matrices.specs.Terms.{row_plaquette_term}
use Rattle.triangles.specs.declared.Sides.{Sides}
use Rattle.triangles.specs.Indices.{SidesOf}
use Rattle.plaquettes.specs.declared.target.Sizes.{Sizes}
use Rattle.plaquettes.specs.Triangle.{target}
use Rattle.plaquettes.specs.Targets.{BasisList}
use Rattle.plaquettes.specs.Pairs.{row_stays, PairFound, Parted}
use Rattle.plaquettes.proofs.Targets.{there}
use Rattle.plaquettes.proofs.Pairing.{parted_none, parted_miss, parted_hit, parted_up, stays_out, pair_target}
use Rattle.lanczos.specs.Matvec.{with_more, with_hit, states_added, triangles_added}

-- ---- the states of a triangle
-- while triangle t is under way: a place parts the targets, and what the states below i give has been added
pub record Way (c : Complex) (s : Sizes) (t : ℕ) (x : Float) (v : List Float) (i from : ℕ) (old new : List Float) : Type 0 where
  pub parts : Parted c s.lambda t (pos 1) i from
  pub sums : new ≡ states_added c s.lambda t x v i old

module _ (c : Complex) (list : List ℤ) (s : Sizes) (free : List ℕ) (basis : BasisList c list s free) (t : ℕ) (three : Sides) (of : SidesOf c t three) (x : Float) (v old : List Float) where
  abbrev L : ℕ
  L = s.lambda

  pub way_begun : Way c s t x v 0 0 old old
  unfolding states_added
  way_begun = record { parts = parted_none c basis.accepted L t of.number (pos 1); sums = refl }

  module _ (i : ℕ) (h : i < s.states) (from : ℕ) (new : List Float) (way : Way c s t x v i from old new) where
    here : i < length (states c L)
    here = there c list s free basis i h

    -- a state that the move does not keep
    pub way_miss : row_stays list s three (pos 1) i ≡ false → Way c s t x v (i + 1) from old new
    unfolding states_added
    way_miss leaves =
        let out = stays_out c list s free basis t three of (pos 1) i h leaves in
        record {
          parts = parted_miss c basis.accepted L t of.number (pos 1) i from way.parts out;
          sums = way.sums ∙ rw (add-one i, le-ltb (target c L t (pos 1) i) (length (states c L)) out);
        }

    -- the place may as well be that of the next target
    pub way_up : (j : ℕ) → PairFound list s three (pos 1) i from j → j < s.states → Way c s t x v i j old new
    way_up j found below =
        let is = pair_target c list s free basis t three of (pos 1) i from j h way.parts found in
        record { parts = rw is (parted_up c basis.accepted L t of.number (pos 1) i from way.parts here (rw (← is) (there c list s free basis j below))); sums = way.sums }

    -- a hit
    pub way_hit : (j : ℕ) → PairFound list s three (pos 1) i from j → j < s.states → Way c s t x v (i + 1) (j + 1) old (with_hit x v i j new)
    unfolding states_added
    way_hit j found below =
        let is = pair_target c list s free basis t three of (pos 1) i from j h way.parts found in
        let inside : target c L t (pos 1) i < length (states c L) = rw (← is) (there c list s free basis j below) in
        record {
          parts = rw is (parted_hit c basis.accepted L t of.number (pos 1) i from way.parts here inside);
          sums = rw (is, way.sums, add-one i, lt-ltb (target c L t (pos 1) i) (length (states c L)) inside);
        }

-- one triangle more
pub triangle_more : (c : Complex) (L : ℕ) (p : KSParams) (w : ℕ → Float) (v : List Float) (t n : ℕ) (x : Float) (old r new : List Float) → n ≡ length (states c L) → x ≡ row_plaquette_term p (w t)
    → r ≡ triangles_added c L p w v t old → new ≡ states_added c L t x v n r → new ≡ triangles_added c L p w v (t + 1) old
unfolding triangles_added
triangle_more c L p w v t n x old r new many is so_far made = made ∙ rw (many, is, so_far, add-one t)

-- ---- at the beginning of a longer list
module _ (a b : List Float) where
  more_front : (i : ℕ) (y : Float) → i < length a → with_more i y (a ++ b) ≡ with_more i y a ++ b
  more_front i y h = ap (λ z. set (a ++ b) i (add binary64 z y)) (get_or-append a b nan i h) ∙ set-append_left a b i _ h

module _ (x : Float) (v : List Float) where
  hit_long : (i j : ℕ) (r : List Float) → length (with_hit x v i j r) ≡ length r
  unfolding with_hit
  hit_long i j r = length-set (with_more i (mul binary64 x (get_or v j nan)) r) j _ ∙ length-set r i _

  hit_front : (i j : ℕ) (a b : List Float) → i < length a → j < length a → with_hit x v i j (a ++ b) ≡ with_hit x v i j a ++ b
  unfolding with_hit
  hit_front i j a b h k =
      ap (with_more j (mul binary64 x (get_or v i nan))) (more_front a b i _ h)
      ∙ more_front (with_more i (mul binary64 x (get_or v j nan)) a) b j _ (rw (length-set a i (add binary64 (get_or a i nan) (mul binary64 x (get_or v j nan)))) k)

module _ (c : Complex) (L : ℕ) where
  module _ (t : ℕ) (x : Float) (v : List Float) where
    states_long : (n : ℕ) (r : List Float) → length (states_added c L t x v n r) ≡ length r
    unfolding states_added
    states_long zero r = refl
    states_long (suc i) r = go (ltb (target c L t (pos 1) i) (length (states c L))) ∙ states_long i r
      where
        go : (b : Bool) → length (cond b (with_hit x v i (target c L t (pos 1) i) (states_added c L t x v i r)) (states_added c L t x v i r)) ≡ length (states_added c L t x v i r)
        go true = hit_long x v i (target c L t (pos 1) i) (states_added c L t x v i r)
        go false = refl

    states_front : (n : ℕ) (a b : List Float) → length a ≡ length (states c L) → n ≤ length (states c L) → states_added c L t x v n (a ++ b) ≡ states_added c L t x v n a ++ b
    unfolding states_added
    states_front zero a b long h = refl
    states_front (suc i) a b long h = go (states_front i a b long (omega arith)) (ltb (target c L t (pos 1) i) (length (states c L))) refl
      where
        go : states_added c L t x v i (a ++ b) ≡ states_added c L t x v i a ++ b → (d : Bool) → ltb (target c L t (pos 1) i) (length (states c L)) ≡ d
            → cond d (with_hit x v i (target c L t (pos 1) i) (states_added c L t x v i (a ++ b))) (states_added c L t x v i (a ++ b))
            ≡ cond d (with_hit x v i (target c L t (pos 1) i) (states_added c L t x v i a)) (states_added c L t x v i a) ++ b
        go before true e =
            ap (with_hit x v i (target c L t (pos 1) i)) before
            ∙ hit_front x v i (target c L t (pos 1) i) (states_added c L t x v i a) b (rw (states_long i a, long) h) (rw (states_long i a, long) (ltb-true _ _ e))
        go before false e = before

  module _ (p : KSParams) (w : ℕ → Float) (v : List Float) where
    pub triangles_long : (n : ℕ) (r : List Float) → length (triangles_added c L p w v n r) ≡ length r
    unfolding triangles_added
    triangles_long zero r = refl
    triangles_long (suc t) r = states_long t (row_plaquette_term p (w t)) v (length (states c L)) (triangles_added c L p w v t r) ∙ triangles_long t r

    pub triangles_front : (n : ℕ) (a b : List Float) → length a ≡ length (states c L) → triangles_added c L p w v n (a ++ b) ≡ triangles_added c L p w v n a ++ b
    unfolding triangles_added
    triangles_front zero a b long = refl
    triangles_front (suc t) a b long =
        ap (states_added c L t (row_plaquette_term p (w t)) v (length (states c L))) (triangles_front t a b long)
        ∙ states_front t (row_plaquette_term p (w t)) v (length (states c L)) (triangles_added c L p w v t a) b (triangles_long t a ∙ long) (omega arith)
