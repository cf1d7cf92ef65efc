-- A block narrowed by the edges that its cycle moves, where the others are within the bounds.
use Prim.Native.Nat.{ℕ, ◌+◌, ◌^◌, ◌≤◌, ◌<◌}
use mathlib.Core.List.{List, [], ◌∷◌, ◌++◌}
use mathlib.Core.Bool.{Bool, true, false, cond}
use mathlib.Core.Path.{◌≡◌, refl, sym, ap, ◌∙◌}
use native.Mathlib.Omega.{arith}
use native.Mathlib.Decide.{dec_lt}
use lib.Dec.{eqb}
use lib.IntN.{ℤ, pos, nat_abs, ◌+ℤ◌, ◌*ℤ◌, *ℤ-zero, +ℤ_idr}
use lib.ListN.{get_or, length, take, length-map, length-append, get_or-eq_default}
use lib.Seq.{get_or-take, length-take-le, take_all}
use borrow.Author.Tests.{eq-eqb, ne_eqb, eqb-true}
use Rattle.mathematics.specs.Integers.{equal}
use Rattle.mathematics.specs.Counting.{below, keep}
use Rattle.mathematics.proofs.Integers.{equal_true}
use Rattle.mathematics.proofs.Below.{below_each, below_member, map_at, keep_next, keep_skip}
use Rattle.mathematics.proofs.Ordered.{each_at, keep_each, keep_passes, keep_member, member_place}
use Rattle.cycles.specs.Cycles.{with_cycle}
use Rattle.walker.specs.declared.blocks.Span.{Span}
use Rattle.walker.specs.Walker.{block, block_rows}
use Rattle.walker.specs.Steps.{Small, Addable}
use Rattle.walker.specs.Blocks.{Narrowed, SpanTo, SpanOfBlock}
use Rattle.numbers.specs.declared.edge_list.EdgeList.{EdgeList}
use Rattle.runs.specs.Kinds.{listed, EdgesIn}
use Rattle.runs.specs.Edges.{kind, of_kind, Edges, Listed, picked}
use lib.Signed.{mag}
use mir.Syntax.{w8, w32}
use mir.Val.{to_z, of_z}
use Rattle.std.proofs.Common.{FitsSigned}
use Rattle.mathematics.proofs.Signed.{zero_bits, back32, small_back}
use Rattle.walker.proofs.Candidates.{within}
use Rattle.walker.proofs.Interval.{between_tests, moves, inside_span, span_inside, within_entries, entries_within, rows_by_tests}
use Rattle.walker.proofs.Narrowing.{span_bound, span_more}
use Rattle.walker.proofs.Adding.{sign_back}
use Rattle.cycles.proofs.Adding.{added_at}

-- ---- the lists are made edge by edge
-- a list that holds the edges of one kind among the first e
pub record Sorted (z y : List ℤ) (k e : ℕ) (l : EdgeList) : Type 0 where
  pub few : l.count ≤ e
  pub edges : EdgesIn z y k e l

pub none_sorted : {z y : List ℤ} {k : ℕ} {l : EdgeList} → l.count ≡ 0 → Sorted z y k 0 l
unfolding below keep
none_sorted none = record { few = omega arith; edges = rw none (record { room = omega arith; few = omega arith; stands = refl }) }

module _ {z y : List ℤ} {k e : ℕ} {old new : EdgeList} (h : Sorted z y k e old) where
  pub not_sorted : new ≡ old → of_kind z y k e ≡ false → Sorted z y k (e + 1) new
  not_sorted is t =
      rw is (record { few = omega arith; edges = record { room = h.edges.room; few = omega arith; stands = h.edges.stands ∙ sym (keep_skip (of_kind z y k) e t) } })

  pub one_sorted : {now : EdgeList} → new ≡ now → now.count ≡ old.count + 1 → listed now ≡ listed old ++ (e ∷ []) → of_kind z y k e ≡ true → Sorted z y k (e + 1) new
  one_sorted {now} is longer ends t =
      let l = listed old in
      rw is
      (record {
        few = omega (arith, longer);
        edges =
            rw ends
            (record {
              room = omega arith;
              few = omega (arith, length-append l (e ∷ []));
              stands = take_all (length (l ++ (e ∷ []))) (l ++ (e ∷ [])) (omega arith) ∙ ap (λ l. l ++ (e ∷ [])) (sym (take_all (length l) l (omega arith)) ∙ h.edges.stands) ∙ sym (keep_next (of_kind z y k) e t);
            });
      })

-- the test of a sign in the machine
module _ (x : ℤ) (sign : FitsSigned w8 x) where
  pub sign_zero : of_z w8 x ≡ 0 → equal x (pos 0) ≡ true
  sign_zero h = sym (zero_bits w8 x sign) ∙ eq-eqb (of_z w8 x) 0 h

  pub sign_some : (of_z w8 x ≡ 0 → ⊥) → equal x (pos 0) ≡ false
  sign_some h = sym (zero_bits w8 x sign) ∙ ne_eqb (of_z w8 x) 0 h

-- ---- what stands in them
module _ {z y : List ℤ} {k m : ℕ} {list : List ℕ} {count : ℕ} (h : Edges z y k m list count) where
  kept : List ℕ
  kept = keep (of_kind z y k) (below m)

  kept_long : length kept ≡ count
  unfolding kept
  kept_long = sym (ap length h.stands) ∙ length-take-le count list h.room

  kept_at : (q : ℕ) → q < count → get_or list q 0 ≡ get_or kept q 0
  unfolding kept
  kept_at q l = sym (get_or-take count list q 0 l) ∙ ap (λ l. get_or l q 0) h.stands

  pub edge_inside : (q : ℕ) → q < count → get_or list q 0 < m
  unfolding kept
  edge_inside q l = rw (kept_at q l) (each_at 0 (keep_each (of_kind z y k) (below_each m)) q (omega (arith, kept_long)))

  pub edge_kind : (q : ℕ) → q < count → of_kind z y k (get_or list q 0) ≡ true
  unfolding kept
  edge_kind q l = rw (kept_at q l) (each_at 0 (keep_passes (of_kind z y k) (below m)) q (omega (arith, kept_long)))

  pub edge_found : (e : ℕ) → e < m → of_kind z y k e ≡ true → (q : ℕ) × (q < count) × (get_or list q 0 ≡ e)
  unfolding kept
  edge_found e l t =
      let r = member_place 0 (keep_member (of_kind z y k) {x = e} {l = below m} t (below_member m e l)) in
      (r.0, omega (arith, r.1, kept_long), kept_at r.0 (omega (arith, r.1, kept_long)) ∙ r.2)

  pub edges_listed : Listed m list count
  edges_listed = record { room = h.room; inside = edge_inside }

-- ---- the values on listed edges
module _ (list : List ℕ) (count : ℕ) (s : List ℤ) (room : count ≤ length list) where
  picked_at : (q : ℕ) → q < count → get_or (picked list count s) q (pos 0) ≡ get_or s (get_or list q 0) (pos 0)
  unfolding picked
  picked_at q k =
      map_at (λ e. get_or s e (pos 0)) (take count list) q 0 (pos 0) (omega (arith, length-take-le count list room))
      ∙ ap (λ e. get_or s e (pos 0)) (get_or-take count list q 0 k)

  picked_long : length (picked list count s) ≡ count
  unfolding picked
  picked_long = length-map (take count list) (λ e. get_or s e (pos 0)) ∙ length-take-le count list room

  picked_small : (B : ℕ) → Small B s → Small B (picked list count s)
  picked_small B h q = go (dec_lt q count)
    where
      go : Dec (q < count) → nat_abs (get_or (picked list count s) q (pos 0)) ≤ B
      go (yes k) = rw (picked_at q k) (h (get_or list q 0))
      go (no k) = rw (get_or-eq_default (picked list count s) (pos 0) {n = q} (omega (arith, picked_long))) (omega arith)

-- ---- a span that they narrow
module _ (L n : ℕ) (s z : List ℤ) (signs : Small 1 z) (list : List ℕ) (count : ℕ) (room : count ≤ length list) (r : Span) (narrowed : SpanTo L n (picked list count s) (picked list count z) count r) where
  pub listed_bound : r.to ≤ n
  listed_bound = span_bound L n (picked list count s) (picked list count z) count r narrowed

  -- the listed values stay within the bounds, each z added d times
  abbrev Stay : ℕ → Type 0
  Stay d = (q : ℕ) → q < count → nat_abs (moves L n s z signs d (get_or list q 0)) ≤ L

  pub listed_stay : (d : ℕ) → r.from ≤ d → d < r.to → Stay d
  listed_stay d low high q l =
      rw (← (picked_at list count s room q l), ← (picked_at list count z room q l))
      (span_inside L n (picked list count s) (picked list count z) (picked_small list count z room 1 signs) d count (omega (arith, listed_bound)) (omega (arith, narrowed.from)) (omega (arith, narrowed.to)) q l)

  pub stay_inside : (d : ℕ) → d < n → Stay d → (r.from ≤ d) × (d < r.to)
  stay_inside d h stay =
      let i = inside_span L n (picked list count s) (picked list count z) (picked_small list count z room 1 signs) d count h (λ q l. rw (picked_at list count s room q l, picked_at list count z room q l) (stay q l)) in
      (omega (arith, narrowed.from, i.0), omega (arith, narrowed.to, i.1))

-- in the machine: a listed value with y added to it t times, and the span that it narrows further
module _ {s y : List ℤ} {t u : ℤ} (may : Addable s t y) (back : u ≡ t) (e : ℕ) {r : ℤ} (fits : mag r < 2 ^ 31) (is : r ≡ to_z w32 (of_z w32 (get_or s e (pos 0))) +ℤ u *ℤ to_z w8 (of_z w8 (get_or y e (pos 0)))) where
  pub value_back : to_z w32 (of_z w32 r) ≡ get_or (with_cycle s t y) e (pos 0)
  value_back = back32 r fits ∙ is ∙ rw (small_back (get_or s e (pos 0)) (omega (arith, may.values e)), back, sign_back (get_or y e (pos 0)) (may.signs e)) (sym (added_at s t y e may.sized))

  pub edge_narrows : {L n : ℕ} (z : List ℤ) → Small 1 z → (list : List ℕ) {q : ℕ} → q < length list → e ≡ get_or list q 0 → {old new : Span} → Narrowed L n (to_z w32 (of_z w32 r)) (to_z w8 (of_z w8 (get_or z e (pos 0)))) old new
      → SpanTo L n (picked list (length list) (with_cycle s u y)) (picked list (length list) z) q old → SpanTo L n (picked list (length list) (with_cycle s u y)) (picked list (length list) z) (q + 1) new
  edge_narrows {L} {n} z signs list {q} inside here {old} {new} narrowed so_far =
      let all : length list ≤ length list = omega arith in
      let listed = rw (value_back, sign_back (get_or z e (pos 0)) (signs e), here, ← (picked_at list (length list) (with_cycle s t y) all q inside), ← (picked_at list (length list) z all q inside)) at narrowed in
      rw back (span_more L n (picked list (length list) (with_cycle s t y)) (picked list (length list) z) q old new (rw back at so_far) listed)

-- ---- what a kind says
module _ (z y : List ℤ) (e : ℕ) where
  -- an edge is of one kind alone
  pub only_moved : equal (get_or z e (pos 0)) (pos 0) ≡ false → (of_kind z y 0 e ≡ false) × (of_kind z y 1 e ≡ false) × (of_kind z y 2 e ≡ true)
  unfolding kind of_kind
  only_moved t = rw t (ne_eqb 2 0 (λ h. omega arith), ne_eqb 2 1 (λ h. omega arith), eq-eqb 2 2 refl)

  pub only_side : equal (get_or z e (pos 0)) (pos 0) ≡ true → equal (get_or y e (pos 0)) (pos 0) ≡ false → (of_kind z y 0 e ≡ false) × (of_kind z y 1 e ≡ true) × (of_kind z y 2 e ≡ false)
  unfolding kind of_kind
  only_side t u = rw (t, u) (ne_eqb 1 0 (λ h. omega arith), eq-eqb 1 1 refl, ne_eqb 1 2 (λ h. omega arith))

  pub only_still : equal (get_or z e (pos 0)) (pos 0) ≡ true → equal (get_or y e (pos 0)) (pos 0) ≡ true → (of_kind z y 0 e ≡ true) × (of_kind z y 1 e ≡ false) × (of_kind z y 2 e ≡ false)
  unfolding kind of_kind
  only_still t u = rw (t, u) (eq-eqb 0 0 refl, ne_eqb 0 1 (λ h. omega arith), ne_eqb 0 2 (λ h. omega arith))

  kind_cases : (b d : Bool) (k : ℕ) → k < 2 → eqb (cond b (cond d 0 1) 2) k ≡ true → b ≡ true
  kind_cases true d k h t = refl
  kind_cases false d k h t = absurd (omega (arith, eqb-true 2 k t))

  pub still_first : (k : ℕ) → k < 2 → of_kind z y k e ≡ true → equal (get_or z e (pos 0)) (pos 0) ≡ true
  unfolding kind of_kind
  still_first k h t = kind_cases (equal (get_or z e (pos 0)) (pos 0)) (equal (get_or y e (pos 0)) (pos 0)) k h t

  none_cases : (b d : Bool) → eqb (cond b (cond d 0 1) 2) 0 ≡ true → d ≡ true
  none_cases true true t = refl
  none_cases true false t = absurd (omega (arith, eqb-true 1 0 t))
  none_cases false d t = absurd (omega (arith, eqb-true 2 0 t))

  pub still_second : of_kind z y 0 e ≡ true → equal (get_or y e (pos 0)) (pos 0) ≡ true
  unfolding kind of_kind
  still_second t = none_cases (equal (get_or z e (pos 0)) (pos 0)) (equal (get_or y e (pos 0)) (pos 0)) t

pub sign_none : (x t y : ℤ) → equal y (pos 0) ≡ true → x +ℤ t *ℤ y ≡ x
sign_none x t y h = rw (equal_true y (pos 0) h, *ℤ-zero t) (+ℤ_idr x)

-- ---- the block of which the states are those with numbers from one to before another
pub block_is : (L n : ℕ) (s z : List ℤ) → Small 1 z → length z ≡ length s → (from to : ℕ) → to ≤ n → ((d : ℕ) → d < n → within L (with_cycle s (pos d) z) ≡ true → (from ≤ d) × (d < to))
    → ((d : ℕ) → from ≤ d → d < to → within L (with_cycle s (pos d) z) ≡ true) → block_rows s z from to ≡ block L n s z
block_is L n s z signs long from to bound inside all =
    rows_by_tests L n s z signs long from to bound (λ d k. between_tests (within L (with_cycle s (pos d) z)) from to d (inside d k) (all d))

-- the edges that its cycle does not move are within the bounds, and those that it moves narrow it
pub lists_span : {L n : ℕ} {s z y : List ℤ} → Small 1 z → length z ≡ length s → {moved : List ℕ} {b : ℕ} → Edges z y 2 (length s) moved b
    → ((e : ℕ) → e < length s → equal (get_or z e (pos 0)) (pos 0) ≡ true → nat_abs (get_or s e (pos 0)) ≤ L) → {r : Span} → SpanTo L n (picked moved b s) (picked moved b z) b r → SpanOfBlock L n s z r
lists_span {L} {n} {s} {z} {y} signs long {moved} {b} goes inside {r} narrowed =
    let bound = listed_bound L n s z signs moved b goes.room r narrowed in
    record {
      is =
          block_is L n s z signs long r.from r.to bound
          (λ d k t. stay_inside L n s z signs moved b goes.room r narrowed d k (λ q l. within_entries L n s z signs long d t (get_or moved q 0) (edge_inside goes q l)))
          (λ d low high. entries_within L n s z signs long d (λ e l. entry d low high e l (equal (get_or z e (pos 0)) (pos 0)) refl));
      bound = bound;
    }
  where
    entry : (d : ℕ) → r.from ≤ d → d < r.to → (e : ℕ) → e < length s → (t : Bool) → equal (get_or z e (pos 0)) (pos 0) ≡ t → nat_abs (moves L n s z signs d e) ≤ L
    entry d low high e l true t = rw (sign_none (get_or s e (pos 0)) (pos d) (get_or z e (pos 0)) t) (inside e l t)
    entry d low high e l false t =
        let f = edge_found goes e l (only_moved z y e t).2 in
        rw (← f.2) (listed_stay L n s z signs moved b goes.room r narrowed d low high f.0 f.1)
