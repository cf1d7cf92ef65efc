-- The states that a triangle's move keeps within -L to L, as the code keeps them: the move takes them, in order, to those that the move back
-- keeps there, in order.
use Rattle.std.specs.Prelude.{ℕ, ◌<◌, ◌≤◌, List, [], ◌∷◌, Bool, true, false, ◌&&◌, ◌≡◌, ℤ, pos, nat_abs, neg_ℤ, ◌+ℤ◌, get_or, length}
use Rattle.complex.specs.Complex.{Complex}
use Rattle.gauss_law.specs.Gauss.{within}
use Rattle.gauss_law.specs.Listing.{states}
use Rattle.hilbert.specs.Search.{row}
use Rattle.triangles.specs.declared.Sides.{Sides}
use Rattle.plaquettes.specs.declared.target.Sizes.{Sizes}
use Rattle.plaquettes.specs.Rows.{SmallRows}
use Rattle.plaquettes.specs.Triangle.{target}

abbrev pub three : Sides → List ℕ
three s = s.first ∷ s.second ∷ s.third ∷ []

-- u more on the first and the third of three edges and u less on the second leaves their values within -L to L
unfoldable pub stays : ℕ → List ℤ → List ℕ → ℤ → Bool
stays L s edges u = within L (get_or s (get_or edges 0 0) (pos 0) +ℤ u) && (within L (get_or s (get_or edges 1 0) (pos 0) +ℤ neg_ℤ u) && within L (get_or s (get_or edges 2 0) (pos 0) +ℤ u))

-- three edges of a state with small values
pub record Movable (s : List ℤ) (edges : List ℕ) : Type 0 where
  pub small : (e : ℕ) → e < length s → nat_abs (get_or s e (pos 0)) ≤ 1000
  pub first_below : get_or edges 0 0 < length s
  pub second_below : get_or edges 1 0 < length s
  pub third_below : get_or edges 2 0 < length s

-- a list that begins with rows of small values, and three edges of a row
pub record MovableRows (list : List ℤ) (s : Sizes) (sides : Sides) : Type 0 where
  pub truncation : s.lambda ≤ 1000
  pub rows : SmallRows list s.states s.edges
  pub first_below : sides.first < s.edges
  pub second_below : sides.second < s.edges
  pub third_below : sides.third < s.edges

-- row k stays within -L to L where u is added
abbrev pub row_stays : List ℤ → Sizes → Sides → ℤ → ℕ → Bool
row_stays list s sides u k = stays s.lambda (row s.edges list k) (three sides) u

-- r is the first row from a place on that stays, or the number of rows
pub record NextStaying (list : List ℤ) (s : Sizes) (sides : Sides) (u : ℤ) (from r : ℕ) : Type 0 where
  pub not_before : from ≤ r
  pub in_list : r ≤ s.states
  pub none_before : (k : ℕ) → from ≤ k → k < r → row_stays list s sides u k ≡ false
  pub there : r < s.states → row_stays list s sides u r ≡ true

-- r is the first row from a place on that stays where u is taken off, or the number of rows where row k itself does not stay where u is added
pub record PairFound (list : List ℤ) (s : Sizes) (sides : Sides) (u : ℤ) (k from r : ℕ) : Type 0 where
  pub paired : row_stays list s sides u k ≡ true → NextStaying list s sides (neg_ℤ u) from r
  pub alone : row_stays list s sides u k ≡ false → r ≡ s.states

-- a place that parts the targets of the states before state i from those of the others
pub record Parted (c : Complex) (L t : ℕ) (u : ℤ) (i from : ℕ) : Type 0 where
  pub earlier : (k : ℕ) → k < i → target c L t u k < length (states c L) → target c L t u k < from
  pub later : (k : ℕ) → i ≤ k → k < length (states c L) → from ≤ target c L t u k
