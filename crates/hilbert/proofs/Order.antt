-- The order of the basis as a test, the place of a listed configuration, and which configurations are listed.
use Prim.Native.Nat.{ℕ, zero, suc, ◌<◌, ◌≤◌}
use mathlib.Core.List.{List, [], ◌++◌, flatten}
use mathlib.Core.Bool.{Bool, true, false, cond, false≢true}
use mathlib.Core.Path.{◌≡◌, refl, sym, ◌∙◌}
use mathlib.Core.Logic.{◌⊎◌, inl, inr}
use native.Mathlib.Omega.{arith}
use native.Mathlib.Decide.{dec_lt, ℕ_discrete}
use lib.Dec.{ltb}
use lib.IntN.{ℤ, pos, nat_abs}
use lib.Signed.{lt_z, ◌<ℤ◌}
use lib.ListN.{get_or, length}
use borrow.Author.Tests.{lt-ltb, le-ltb, leb-true, le-leb}
use Rattle.mathematics.proofs.Tests.{and_parts, and_both, all_at, at_all}
use Rattle.mathematics.proofs.Integers.{by_parts, less_by_parts, less_to_parts, less_test, not_less_test, test_less, test_not_less}
use Rattle.mathematics.proofs.Ordered.{ordered_at, place_member, member_place, kept_front}
use Rattle.mathematics.proofs.Below.{listed_member, member_listed}
use Rattle.mathematics.proofs.Flat.{flatten_row}
use Rattle.complex.specs.Complex.{Complex}
use Rattle.complex.specs.Judge.{Accepted}
use Rattle.gauss_law.specs.Gauss.{State, within}
use Rattle.gauss_law.specs.Listing.{free_edges, Before, Complete, states}
use Rattle.mathematics.specs.Lists.{In}
use Rattle.gauss_law.proofs.Gauss.{lawful_true, true_lawful}
use Rattle.gauss_law.proofs.Free.{free_rising}
use Rattle.gauss_law.proofs.Listing.{earlier}
use Rattle.gauss_law.proofs.Accepted.{accepted_tree, listing_complete}
use Rattle.hilbert.specs.Basis.{in_basis, decided, smaller, comes_before, place, At}
use Rattle.hilbert.specs.Search.{row, Ranked}
use Rattle.hilbert.proofs.Searching.{decided_less, decided_equal}

-- ---- one value
less_true : (x y : ℤ) → x <ℤ y → lt_z x y ≡ true
less_true x y h = less_test x y (less_to_parts x y h)

module _ (b : Bool) (x y : ℤ) where
  decided_greater : y <ℤ x → decided b x y ≡ false
  unfolding decided
  decided_greater h = rw (not_less_test x y (omega (arith, less_to_parts y x h)), less_true y x h)

  -- x is the smaller, or they are equal and it is decided already
  decided_true : decided b x y ≡ true → (x <ℤ y) ⊎ ((x ≡ y) × (b ≡ true))
  unfolding decided
  decided_true = go (lt_z x y) refl (lt_z y x) refl
    where
      go : (t : Bool) → lt_z x y ≡ t → (u : Bool) → lt_z y x ≡ u → cond t true (cond u false b) ≡ true → (x <ℤ y) ⊎ ((x ≡ y) × (b ≡ true))
      go true p u q h = inl (less_by_parts x y (test_less x y p))
      go false p true q h = absurd (false≢true h)
      go false p false q h = inr (by_parts x y (omega (arith, test_not_less x y p, test_not_less y x q)), h)

-- ---- the first n edges of a table
abbrev on : List ℕ → List ℤ → ℕ → ℤ
on free s j = get_or s (get_or free j 0) (pos 0)

-- on the last of them where s and t differ, s has the smaller value
record Last (free : List ℕ) (s t : List ℤ) (n : ℕ) : Type 0 where
  at : ℕ
  inside : at < n
  less : on free s at <ℤ on free t at
  above : (j : ℕ) → at < j → j < n → on free s j ≡ on free t j

-- edges past the first k on which they agree decide nothing
smaller_past : (free : List ℕ) (s t : List ℤ) (k n : ℕ) → k ≤ n → ((j : ℕ) → k ≤ j → j < n → on free s j ≡ on free t j) → smaller free s t n ≡ smaller free s t k
unfolding smaller
smaller_past free s t k zero h same = let e : k ≡ 0 = omega arith in rw e
smaller_past free s t k (suc n) h same = go (ℕ_discrete k (suc n)) (smaller_past free s t k n)
  where
    go : Dec (k ≡ suc n) → (k ≤ n → ((j : ℕ) → k ≤ j → j < n → on free s j ≡ on free t j) → smaller free s t n ≡ smaller free s t k) → smaller free s t (suc n) ≡ smaller free s t k
    go (yes e) ih = rw e
    go (no e) ih = decided_equal (smaller free s t n) _ _ (same n (omega arith) (omega arith)) ∙ ih (omega arith) (λ j a b. same j a (omega arith))

module _ (free : List ℕ) (s t : List ℤ) where
  last_smaller : (n : ℕ) → Last free s t n → (smaller free s t n ≡ true) × (smaller free t s n ≡ false)
  unfolding smaller
  last_smaller n r = (
    smaller_past free s t (suc r.at) n r.inside r.above ∙ decided_less (smaller free s t r.at) _ _ (less_true _ _ r.less),
    smaller_past free t s (suc r.at) n r.inside (λ j a b. sym (r.above j a b)) ∙ decided_greater (smaller free t s r.at) _ _ r.less,
  )

  smaller_last : (n : ℕ) → smaller free s t n ≡ true → Last free s t n
  unfolding smaller
  smaller_last zero h = absurd (false≢true h)
  smaller_last (suc n) h = go (decided_true (smaller free s t n) _ _ h) (smaller_last n)
    where
      go : (on free s n <ℤ on free t n) ⊎ ((on free s n ≡ on free t n) × (smaller free s t n ≡ true)) → (smaller free s t n ≡ true → Last free s t n) → Last free s t (suc n)
      go (inl p) ih = record { at = n; inside = omega arith; less = p; above = λ j a b. absurd (omega arith) }
      go (inr (e, p)) ih =
          let r = ih p in
          let l = r.inside in
          record { at = r.at; inside = omega arith; less = r.less; above = λ j a b. above (ℕ_discrete j n) (r.above j a) b }
        where
          above : {j : ℕ} → Dec (j ≡ n) → (j < n → on free s j ≡ on free t j) → j < suc n → on free s j ≡ on free t j
          above (yes q) f b = rw q e
          above (no q) f b = f (omega arith)

-- the test looks at the first n edges of the table alone
pub smaller_agree : (free free' : List ℕ) (s t : List ℤ) (n : ℕ) → ((j : ℕ) → j < n → get_or free j 0 ≡ get_or free' j 0) → smaller free s t n ≡ smaller free' s t n
unfolding smaller
smaller_agree free free' s t zero h = refl
smaller_agree free free' s t (suc n) h = rw (smaller_agree free free' s t n (λ j k. h j (omega arith)), h n (omega arith))

-- ---- the test is the order of the listing
module _ (c : Complex) (s t : List ℤ) where
  before_last : Before c s t → Last (free_edges c) s t (length (free_edges c))
  before_last r = go (member_place 0 (listed_member r.edge (free_edges c) r.free))
    where
      go : (m : ℕ) × (m < length (free_edges c)) × (get_or (free_edges c) m 0 ≡ r.edge) → Last (free_edges c) s t (length (free_edges c))
      go (m, h, e) =
          record {
            at = m;
            inside = h;
            less = rw e r.less;
            above = λ j a b. r.above (get_or (free_edges c) j 0) (rw e at (ordered_at 0 (free_rising c) m j a b)) (member_listed (place_member 0 (free_edges c) j b));
          }

  pub before_smaller : Before c s t → (comes_before c s t ≡ true) × (comes_before c t s ≡ false)
  unfolding comes_before
  before_smaller r = last_smaller (free_edges c) s t (length (free_edges c)) (before_last r)

  pub smaller_before : Accepted c → comes_before c s t ≡ true → Before c s t
  unfolding comes_before
  smaller_before accepted h = go (smaller_last (free_edges c) s t (length (free_edges c)) h)
    where
      go : Last (free_edges c) s t (length (free_edges c)) → Before c s t
      go r =
          record {
            edge = get_or (free_edges c) r.at 0;
            free = member_listed (place_member 0 (free_edges c) r.at r.inside);
            less = r.less;
            above = λ e a f. above e a (member_place 0 (listed_member e (free_edges c) f));
          }
        where
          above : (e : ℕ) → get_or (free_edges c) r.at 0 < e → (i : ℕ) × (i < length (free_edges c)) × (get_or (free_edges c) i 0 ≡ e) → get_or s e (pos 0) ≡ get_or t e (pos 0)
          above e a (i, b, f) = rw f at (r.above i (earlier c (accepted_tree c accepted) r.at i r.inside b (omega arith)) b)

pub self_smaller : (c : Complex) (s : List ℤ) → comes_before c s s ≡ false
unfolding comes_before smaller
self_smaller c s = smaller_past (free_edges c) s s 0 (length (free_edges c)) (omega arith) (λ j a b. refl)

-- ---- the place of a listed configuration
module _ (c : Complex) (accepted : Accepted c) (L : ℕ) where
  complete : Complete c c.charges L (states c L)
  unfolding states
  complete = listing_complete c accepted c.charges L

  state_sized : (i : ℕ) → i < length (states c L) → length (get_or (states c L) i []) ≡ length c.edges
  state_sized i h = (complete.only (get_or (states c L) i []) (i, h, refl)).sized

  pub at_sized : (s : List ℤ) (p : ℕ) → At c L s p → length s ≡ length c.edges
  at_sized s p here = rw here.state at (state_sized p here.below)

  -- just the states before place p come before the one there
  before_place : (s : List ℤ) (p : ℕ) → At c L s p → (i : ℕ) → i < length (states c L) → comes_before c (get_or (states c L) i []) s ≡ ltb i p
  before_place s p here i h = rw (← here.state) (go (dec_lt i p) (dec_lt p i))
    where
      go : Dec (i < p) → Dec (p < i) → comes_before c (get_or (states c L) i []) (get_or (states c L) p []) ≡ ltb i p
      go (yes a) b = (before_smaller c _ _ (complete.ordered i p a here.below)).0 ∙ sym (lt-ltb i p a)
      go (no a) (yes b) = (before_smaller c _ _ (complete.ordered p i b h)).1 ∙ sym (le-ltb i p (omega arith))
      go (no a) (no b) = let e : i ≡ p = omega arith in rw e (self_smaller c (get_or (states c L) p [])) ∙ sym (le-ltb i p (omega arith))

  pub place_at : (s : List ℤ) (p : ℕ) → At c L s p → place c L s ≡ p
  unfolding place
  place_at s p here = let h = here.below in kept_front (λ t. comes_before c t s) [] (states c L) p (omega arith) (before_place s p here)

-- ---- which configurations are listed
-- the test says what a state is
module _ (c : Complex) (L : ℕ) (s : List ℤ) where
  pub in_basis_state : length s ≡ length c.edges → in_basis c L s ≡ true → State c c.charges L s
  unfolding in_basis within
  in_basis_state long h =
      let r = and_parts _ _ h in
      record {
        sized = long;
        within = λ e k. leb-true (nat_abs (get_or s e (pos 0))) L (all_at (within L) (pos 0) s r.0 e (omega arith));
        law = lawful_true c c.charges s r.1;
      }

  pub state_in_basis : State c c.charges L s → in_basis c L s ≡ true
  unfolding in_basis within
  state_in_basis h =
      let long = h.sized in
      and_both _ _
      (at_all (within L) (pos 0) s (λ e k. le-leb (nat_abs (get_or s e (pos 0))) L (h.within e (omega arith))))
      (true_lawful c c.charges s h.law)

module _ (c : Complex) (accepted : Accepted c) (L : ℕ) (s : List ℤ) where
  -- a configuration is listed exactly when its Gauss sums are zero and its values are within -L to L
  pub in_basis_listed : length s ≡ length c.edges → (in_basis c L s ≡ true → In [] s (states c L)) × (In [] s (states c L) → in_basis c L s ≡ true)
  in_basis_listed long = (λ h. (complete c accepted L).every s (in_basis_state c L s long h), λ h. state_in_basis c L s ((complete c accepted L).only s h))

  pub in_basis_at : length s ≡ length c.edges → in_basis c L s ≡ true → At c L s (place c L s)
  in_basis_at long h = go ((in_basis_listed long).0 h)
    where
      go : In [] s (states c L) → At c L s (place c L s)
      go (p, b, e) =
          let here : At c L s p = record { below = b; state = e } in
          rw (place_at c accepted L s p here) here

-- ---- the flat list of the basis
module _ (c : Complex) (accepted : Accepted c) (L : ℕ) (rest : List ℤ) where
  -- its rows are the states
  pub row_state : (i : ℕ) → i < length (states c L) → row (length c.edges) (flatten (states c L) ++ rest) i ≡ get_or (states c L) i []
  row_state i h = flatten_row (length c.edges) (states c L) rest (state_sized c accepted L) i h

  pub ranked : (free : List ℕ) → ((j : ℕ) → j < length (free_edges c) → get_or free j 0 ≡ get_or (free_edges c) j 0) → (s : List ℤ) (p : ℕ) → At c L s p
      → Ranked (flatten (states c L) ++ rest) (length (states c L)) s free (length (free_edges c)) p
  unfolding comes_before
  ranked free agree s p here =
      let below = here.below in
      record {
        within = omega arith;
        rows = λ i h.
            rw (at_sized c accepted L s p here, row_state i h)
            (smaller_agree free (free_edges c) (get_or (states c L) i []) s (length (free_edges c)) agree ∙ before_place c accepted L s p here i h);
      }
