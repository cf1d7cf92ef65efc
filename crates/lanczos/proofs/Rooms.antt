-- How often a sign can be added to a value until it leaves -L to L.
use Prim.Native.Nat.{ℕ, zero, suc, ◌+◌, ◌<◌, ◌≤◌, min}
use mathlib.Core.List.{List, [], ◌∷◌, ◌++◌}
use mathlib.Core.Bool.{true, ◌||◌}
use mathlib.Core.Path.{◌≡◌, refl, sym, ap, ap₂, ◌∙◌}
use mathlib.Core.Logic.{◌≢◌}
use native.Mathlib.Omega.{arith}
use native.Mathlib.Decide.{ℕ_discrete}
use borrow.Author.Tests.{eq-eqb, lt-ltb, lt-leb, leb-true}
use lib.Dec.{leb}
use lib.IntN.{ℤ, pos, negsuc, nat_abs, neg_ℤ, ◌+ℤ◌, ◌-ℤ◌, ◌*ℤ◌, *ℤ-zero, +ℤ_idr}
use lib.Signed.{lt_z}
use lib.ListN.{get_or, length, take, length-take, length-append}
use lib.Seq.{get_or-take}
use Rattle.std.proofs.lemmas.List.{get_or_append_left}
use Rattle.std.proofs.Math.Seq.{get_or-append_seam}
use mir.Syntax.{w8, w32}
use mir.Val.{SFits, to_z, of_z}
use mir.Facts.{to_z_pos}
use Rattle.walker.proofs.Adding.{sign_back}
use Rattle.mathematics.proofs.Signed.{size_sign, zero_bits, small_back}
use Rattle.mathematics.proofs.Integers.{positive, negative, parts, parts_size, one_part, the, ◌⊞◌, ◌⊟◌, ⊖◌, times_one, times_minus_one, equal_true}
use Rattle.mathematics.proofs.Tests.{and_parts}
use Rattle.gauss_law.specs.Gauss.{within}
use Rattle.hilbert.specs.Search.{row}
use Rattle.triangles.specs.declared.Sides.{Sides}
use Rattle.plaquettes.specs.declared.target.Sizes.{Sizes}
use Rattle.plaquettes.specs.Pairs.{stays}
use Rattle.plaquettes.proofs.Listed.{row_sized}
use Rattle.lanczos.specs.Runs.{Covers, Room, Banded, CycleRun, RunRows}

-- one more than the bound, as the code makes it
abbrev top : ℕ → ℤ
top L = to_z w32 (of_z w32 (to_z w32 L +ℤ pos 1))

top_back : (L : ℕ) → L ≤ 1000 → top L ≡ pos (L + 1)
top_back L h = rw (to_z_pos w32 {n = L} (omega arith)) (small_back (pos (L + 1)) (omega arith))

below_top : (L : ℕ) (y : ℤ) → nat_abs y ≤ L → lt_z y (pos (L + 1)) ≡ true
below_top L (pos n) h = lt-ltb n (L + 1) (omega arith)
below_top L (negsuc n) h = refl

module _ (L : ℕ) (x : ℤ) (small : nat_abs x ≤ L) where
  room_some : (s : ℤ) → nat_abs s ≤ 1 → 1 ≤ nat_abs (pos (L + 1) -ℤ x *ℤ s)
  unfolding positive negative
  room_some (pos zero) h = rw (*ℤ-zero x) (omega (arith, parts_size (pos (L + 1) -ℤ pos 0), one_part (pos (L + 1) -ℤ pos 0), parts (the (pos (L + 1)) ⊟ the (pos 0))))
  room_some (pos (suc zero)) h = rw (times_one x) (omega (arith, parts_size x, one_part x, parts_size (pos (L + 1) -ℤ x), one_part (pos (L + 1) -ℤ x), parts (the (pos (L + 1)) ⊟ the x)))
  room_some (pos (suc (suc n))) h = absurd (omega arith)
  room_some (negsuc zero) h = rw (times_minus_one x) (omega (arith, parts_size x, one_part x, parts_size (pos (L + 1) -ℤ neg_ℤ x), one_part (pos (L + 1) -ℤ neg_ℤ x), parts (the (pos (L + 1)) ⊟ (⊖ the x))))
  room_some (negsuc (suc n)) h = absurd (omega arith)

  room_inside : (s : ℤ) → nat_abs s ≤ 1 → (d : ℕ) → d < nat_abs (pos (L + 1) -ℤ x *ℤ s) → nat_abs (x +ℤ pos d *ℤ s) ≤ L
  unfolding positive negative
  room_inside (pos zero) h d l = rw (*ℤ-zero (pos d), +ℤ_idr x) small
  room_inside (pos (suc zero)) h d l =
      let k = rw (times_one x) at l in
      rw (times_one (pos d))
      (omega (arith, k, parts_size x, one_part x, parts_size (pos (L + 1) -ℤ x), one_part (pos (L + 1) -ℤ x), parts (the (pos (L + 1)) ⊟ the x), parts_size (x +ℤ pos d), one_part (x +ℤ pos d), parts (the x ⊞ the (pos d))))
  room_inside (pos (suc (suc n))) h d l = absurd (omega arith)
  room_inside (negsuc zero) h d l =
      let k = rw (times_minus_one x) at l in
      rw (times_minus_one (pos d))
      (omega (arith, k, parts_size x, one_part x, parts_size (pos (L + 1) -ℤ neg_ℤ x), one_part (pos (L + 1) -ℤ neg_ℤ x), parts (the (pos (L + 1)) ⊟ (⊖ the x)), parts_size (x -ℤ pos d), one_part (x -ℤ pos d), parts (the x ⊟ the (pos d))))
  room_inside (negsuc (suc n)) h d l = absurd (omega arith)

  room_is : (s : ℤ) → nat_abs s ≤ 1 → (most r : ℕ) → 1 ≤ most → r ≡ min most (nat_abs (pos (L + 1) -ℤ x *ℤ s)) → Room L x s most r
  room_is s h most r positive e = record { some = omega (arith, e, room_some s h); limited = omega (arith, e); inside = λ d l. room_inside s h d (omega (arith, e)) }

-- how far it is above the value times its sign, as the code makes that
module _ {L : ℕ} (few : L ≤ 1000) (x s : ℤ) (small : nat_abs x ≤ L) (unit : nat_abs s ≤ 1) {t : ℤ} (told : t ≡ to_z w32 (of_z w32 x) *ℤ to_z w8 (of_z w8 s)) where
  turned_is : t ≡ x *ℤ s
  turned_is = told ∙ ap₂ ◌*ℤ◌ (small_back x (omega arith)) (sign_back s (omega arith))

  turned_small : nat_abs t ≤ L
  turned_small = rw turned_is (omega (arith, size_sign x s unit, small))

  turned_back : to_z w32 (of_z w32 t) ≡ t
  turned_back = small_back t (omega (arith, turned_small, few))

  pub gap_asked : (nat_abs (top L) ≤ 1001) × (nat_abs (to_z w32 (of_z w32 t)) ≤ 1001) × (lt_z (to_z w32 (of_z w32 t)) (top L) ≡ true)
  gap_asked =
      rw (top_back L few, turned_back) (omega (arith, few), omega (arith, turned_small, few), below_top L t turned_small)

  pub room_told : {gap most r : ℕ} → 1 ≤ most → gap ≡ nat_abs (top L -ℤ to_z w32 (of_z w32 t)) → r ≡ min most gap → Room L x s most r
  room_told some apart is =
      room_is L x small s unit _ _ some (rw (apart, top_back L few, turned_back, turned_is) at is)

-- nothing is added
pub room_still : (L : ℕ) (x s : ℤ) → nat_abs x ≤ L → SFits w8 s → of_z w8 s ≡ 0 → (most : ℕ) → 1 ≤ most → Room L x s most most
room_still L x s small fits none most h =
    record { some = h; limited = omega arith; inside = λ d l. rw (equal_true s (pos 0) (sym (zero_bits w8 s fits) ∙ eq-eqb _ 0 none), *ℤ-zero (pos d), +ℤ_idr x) small }

-- ---- the edges of a cycle, one after the other
module _ (L : ℕ) (row z : List ℤ) (edges : List ℕ) (most : ℕ) where
  pub run_more : (q r : ℕ) → CycleRun L row z edges q most r → (r' : ℕ) → Room L (get_or row (get_or edges q 0) (pos 0)) (get_or z (get_or edges q 0) (pos 0)) r r' → CycleRun L row z edges (q + 1) most r'
  run_more q r run r' room = record { some = room.some; limited = omega (arith, run.limited, room.limited); inside = λ p l d k. go p l d k (ℕ_discrete p q) }
    where
      go : (p : ℕ) → p < q + 1 → (d : ℕ) → d < r' → Dec (p ≡ q) → nat_abs (get_or row (get_or edges p 0) (pos 0) +ℤ pos d *ℤ get_or z (get_or edges p 0) (pos 0)) ≤ L
      go p l d k (yes e) = rw e (room.inside d k)
      go p l d k (no e) = run.inside p (omega arith) d (omega (arith, room.limited))

-- ---- the edges of a cycle are found
-- as Covers, for the edges below n
pub record Covering (edges : List ℕ) (count : ℕ) (z : List ℤ) (n : ℕ) : Type 0 where
  pub long : count ≤ length edges
  pub few : count ≤ n
  pub below : (q : ℕ) → q < count → get_or edges q 0 < n
  pub all : (e : ℕ) → e < n → get_or z e (pos 0) ≢ pos 0 → (q : ℕ) × (q < count) × (get_or edges q 0 ≡ e)

pub covering_none : (edges : List ℕ) (z : List ℤ) → Covering edges 0 z 0
covering_none edges z = record { long = omega arith; few = omega arith; below = λ q l. absurd (omega arith); all = λ e l. absurd (omega arith) }

pub covering_all : (edges : List ℕ) (count : ℕ) (z : List ℤ) (n : ℕ) → n ≡ length z → Covering edges count z n → Covers edges count z
covering_all edges count z n e h = record { long = h.long; few = rw (← e) h.few; below = λ q l. rw (← e) (h.below q l); all = λ f l. h.all f (rw e l) }

-- an edge on which the cycle is 0 is passed over
pub covering_passed : (edges : List ℕ) (count : ℕ) (z : List ℤ) (n : ℕ) → Covering edges count z n → SFits w8 (get_or z n (pos 0)) → of_z w8 (get_or z n (pos 0)) ≡ 0 → Covering edges count z (n + 1)
covering_passed edges count z n h fits none =
    record {
      long = h.long;
      few = omega (arith, h.few);
      below = λ q l. omega (arith, h.below q l);
      all = λ e l apart. go e l apart (ℕ_discrete e n);
    }
  where
    go : (e : ℕ) → e < n + 1 → get_or z e (pos 0) ≢ pos 0 → Dec (e ≡ n) → (q : ℕ) × (q < count) × (get_or edges q 0 ≡ e)
    go e l apart (yes is) = absurd (apart (ap (λ k. get_or z k (pos 0)) is ∙ equal_true _ _ (sym (zero_bits w8 (get_or z n (pos 0)) fits) ∙ eq-eqb _ 0 none)))
    go e l apart (no is) = h.all e (omega arith) apart

-- another goes last
module _ (edges edges' : List ℕ) (count count' : ℕ) (z : List ℤ) (n : ℕ) (h : Covering edges count z n) (longer : count' ≡ count + 1) (listed : take count' edges' ≡ take count edges ++ (n ∷ [])) where
  front_long : length (take count edges) ≡ count
  front_long = rw length-take (omega (arith, h.long))

  kept : (q : ℕ) → q < count → get_or edges' q 0 ≡ get_or edges q 0
  kept q l =
      sym (get_or-take count' edges' q 0 (omega (arith, longer))) ∙ ap (λ m. get_or m q 0) listed ∙ get_or_append_left (take count edges) (n ∷ []) 0 q (omega (arith, front_long)) ∙ get_or-take count edges q 0 l

  new : get_or edges' count 0 ≡ n
  new =
      sym (get_or-take count' edges' count 0 (omega (arith, longer))) ∙ ap (λ m. get_or m count 0) listed
      ∙ ap (λ k. get_or (take count edges ++ (n ∷ [])) k 0) (sym front_long) ∙ get_or-append_seam (take count edges) n [] 0

  pub covering_pushed : Covering edges' count' z (n + 1)
  covering_pushed =
      record {
        long = omega (arith, longer, front_long, rw (length-take, length-append) at (ap length listed));
        few = omega (arith, h.few, longer);
        below = λ q l. under q (omega (arith, longer)) (ℕ_discrete q count);
        all = λ e l apart. go e l apart (ℕ_discrete e n);
      }
    where
      under : (q : ℕ) → q < count + 1 → Dec (q ≡ count) → get_or edges' q 0 < n + 1
      under q l (yes is) = rw (is, new) (omega arith)
      under q l (no is) = let k : q < count = omega arith in rw (kept q k) (omega (arith, h.below q k))

      go : (e : ℕ) → e < n + 1 → get_or z e (pos 0) ≢ pos 0 → Dec (e ≡ n) → (q : ℕ) × (q < count') × (get_or edges' q 0 ≡ e)
      go e l apart (yes is) = (count, omega (arith, longer), new ∙ sym is)
      go e l apart (no is) = let w = h.all e (omega arith) apart in (w.0, omega (arith, w.1, longer), kept w.0 w.1 ∙ w.2)

-- ---- a row and its moves
-- a test of three values that holds
pub three_kept : (L : ℕ) (r : List ℤ) (edges : List ℕ) (u : ℤ) → stays L r edges u ≡ true
    → (nat_abs (get_or r (get_or edges 0 0) (pos 0) +ℤ u) ≤ L) × (nat_abs (get_or r (get_or edges 1 0) (pos 0) +ℤ neg_ℤ u) ≤ L) × (nat_abs (get_or r (get_or edges 2 0) (pos 0) +ℤ u) ≤ L)
unfolding stays within
three_kept L r edges u h =
    let one = and_parts _ _ h in
    let two = and_parts _ _ one.1 in
    (leb-true _ _ one.0, leb-true _ _ two.0, leb-true _ _ two.1)

pub run_banded : (list : List ℤ) (s : Sizes) (sides : Sides) (edges : List ℕ) (count : ℕ) (z : List ℤ) → RunRows list s sides edges count z → (k : ℕ) → k < s.states → Banded s.lambda (row s.edges list k) z
run_banded list s sides edges count z rows k h =
    let sized = row_sized list s.states s.edges rows.movable.rows k h in
    record {
      truncation = rows.movable.truncation;
      edges_few = rw sized rows.movable.rows.edges_few;
      sized = rows.sized ∙ sym sized;
      values = rows.values k h;
      signs = rows.signs;
    }

-- one of two rows is missing
pub one_missing : (n a b : ℕ) → (leb n a || leb n b) ≡ true → a < n → n ≤ b
one_missing n a b h l = leb-true n b (rw (lt-leb n a l) at h)
