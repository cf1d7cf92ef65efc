-- Rows made of those of the block before, or each of the row before.
use Prim.Native.Nat.{ℕ, zero, suc, min, max, ◌+◌, ◌-◌, ◌*◌, ◌^◌, ◌≤◌, ◌<◌}
use mathlib.Core.List.{List, [], ◌∷◌, ◌++◌, append_assoc, append-nil, flat_map, flatten}
use mathlib.Core.Path.{◌≡◌, refl, sym, ap, ap₂, ◌∙◌}
use native.Mathlib.Omega.{arith}
use native.Mathlib.Numerals.{add-one}
use native.Mathlib.Nat.{add-zero, sub-zero, mul-le-mul_right, add-mul}
use native.Mathlib.Decide.{dec_lt}
use lib.IntN.{ℤ, pos, neg_ℤ, nat_abs, ◌+ℤ◌, ◌*ℤ◌, *ℤ_comm, +ℤ_idl}
use lib.ListN.{length, get_or, take, drop, replicate, length-append, length-replicate, length-drop, take-append-drop, get_or-append, get_or-eq_default, set}
use lib.Seq.{get_or-take, get_or-drop, take-append-le, drop-append-le, take-add, drop-drop, take_at, drop_at, get_or-append-add, length-take-le, paste, paste-suc}
use mathlib.Core.Logic.{inl}
use mir.Syntax.{w32}
use mir.Val.{to_z, of_z}
use mir.Facts.{to_z-of_z}
use Rattle.std.proofs.Common.{FitsSigned}
use Rattle.std.proofs.lemmas.List.Concat.{flat_map_single}
use Rattle.mathematics.specs.Counting.{below}
use Rattle.mathematics.specs.Writing.{put}
use Rattle.mathematics.proofs.Signed.{back32, size_fits}
use Rattle.mathematics.proofs.Pasted.{paste_outside}
use Rattle.mathematics.proofs.Puts.{paste_put, put_none, put_front, put_length, put_behind}
use Rattle.mathematics.proofs.Integers.{times_one}
use Rattle.mathematics.proofs.Flat.{flatten_last, flatten_append}
use Rattle.cycles.specs.Cycles.{with_cycle}
use Rattle.cycles.proofs.Adding.{added_length, added_at, zeros_at}
use Rattle.cycles.proofs.Rows.{zero_row}
use Rattle.walker.specs.Walker.{block_rows}
use Rattle.walker.specs.Steps.{Small, Addable}
use Rattle.walker.specs.declared.blocks.Span.{Span}
use Rattle.walker.proofs.BlockRows.{rows_none, rows_more, rows_long, row_room}
use Rattle.walker.proofs.Stepping.{added_small}
use Rattle.runs.specs.Rows.{repeated, Beside, raised, Raisable, RowsBefore}
use Rattle.runs.specs.Runs.{between}
use Rattle.runs.proofs.Added.{once_more, put_back, either_order}
use Rattle.runs.proofs.Between.{between_by, between_split}

-- ---- a list again and again
module _ (s : List ℤ) where
  repeated_next : (n : ℕ) → repeated s (n + 1) ≡ repeated s n ++ s
  unfolding repeated
  repeated_next n = rw (add-one n)

  repeated_long : (n : ℕ) → length (repeated s n) ≡ n * length s
  unfolding repeated
  repeated_long zero = omega arith
  repeated_long (suc n) = omega (arith, length-append (repeated s n) s, repeated_long n)

  repeated_add : (a b : ℕ) → repeated s (a + b) ≡ repeated s a ++ repeated s b
  unfolding repeated
  repeated_add a zero = rw (add-zero a) (sym (append-nil (repeated s a)))
  repeated_add a (suc b) =
      let e : a + suc b ≡ suc (a + b) = omega arith in
      rw (e, repeated_add a b) (append_assoc (repeated s a) (repeated s b) s)

  repeated_front : (r k : ℕ) → r ≤ k → (rest : List ℤ) → take (r * length s) (repeated s k ++ rest) ≡ repeated s r
  repeated_front r k h rest =
      let e : r + (k - r) ≡ k = omega arith in
      ap (λ l. take (r * length s) (l ++ rest)) (rw e at (repeated_add r (k - r)))
      ∙ ap (take (r * length s)) (append_assoc (repeated s r) (repeated s (k - r)) rest)
      ∙ take_at (repeated s r) (repeated s (k - r) ++ rest) (r * length s) (repeated_long r)

-- ---- what is added to rows: a cycle again and again, each time added to zeros
pub zero_part : {m : ℕ} → m ≤ 63 → take (m - 0) (replicate 63 (pos 0)) ≡ replicate m (pos 0)
zero_part {m} few = rw (sub-zero m) (zero_row 63 m 0 few (omega arith))

added_to_zeros : (y : List ℤ) → with_cycle (replicate (length y) (pos 0)) (pos 1) y ≡ y
unfolding with_cycle
added_to_zeros [] = refl
added_to_zeros (x ∷ y) = rw (*ℤ_comm (pos 1) x, times_one x, +ℤ_idl x, added_to_zeros y)

module _ (y : List ℤ) {zeros : List ℤ} (is : zeros ≡ replicate (length y) (pos 0)) where
  pub zeros_addable : Small 1 y → Addable zeros (pos 0) y
  zeros_addable signs =
      rw is (record { sized = sym (length-replicate (length y) (pos 0)); values = λ e. rw (zeros_at (length y) e) (omega arith); times = omega arith; signs = signs })

  module _ {i k room : ℕ} (more : i < k) (fits : k * length y ≤ room) where
    pub one_fits : i * length y + length zeros ≤ room
    one_fits =
        let next : suc i ≤ k = omega arith in
        omega (arith, fits, ap length is, length-replicate (length y) (pos 0), mul-le-mul_right (length y) next)

    pub beside_more : (old : List ℤ) {list new : List ℤ} → room ≤ length old → list ≡ put old 0 (repeated y i) → new ≡ put list (i * length y) (with_cycle zeros (pos 1) y) → new ≡ put old 0 (repeated y (i + 1))
    beside_more old enough so_far made = put_behind old (repeated y i) y 0 so_far (omega (arith, repeated_long y i)) (omega (arith, one_fits)) (rw (is, added_to_zeros y) at made) (repeated_next y i)

pub beside_is : (old : List ℤ) {y list : List ℤ} {k : ℕ} → length list ≡ 256 → list ≡ put old 0 (repeated y k) → Beside y k list
beside_is old {y} {k = k} long is = record { long = long; is = λ r h. ap (take (r * length y)) (is ∙ put_front old (repeated y k)) ∙ repeated_front y r k h _ }

-- the first of them
pub beside_one : {y list : List ℤ} {m : ℕ} → length y ≡ m → Beside y 1 list → take m list ≡ y
unfolding repeated
beside_one {y} {m = m} long h =
    let e : 1 * length y ≡ m = omega arith in
    rw e at (h.is 1 (omega arith))

-- ---- cycles added to lists that follow each other
added_append : (s t z y : List ℤ) (k : ℤ) → length z ≡ length s → with_cycle (s ++ t) k (z ++ y) ≡ with_cycle s k z ++ with_cycle t k y
unfolding with_cycle
added_append [] t [] y k h = refl
added_append [] t (a ∷ z) y k h = absurd (omega arith)
added_append (x ∷ s) t [] y k h = absurd (omega arith)
added_append (x ∷ s) t (a ∷ z) y k h = ap (λ l. (x +ℤ k *ℤ a) ∷ l) (added_append s t z y k (omega arith))

small_append : (B : ℕ) (s t : List ℤ) → Small B s → Small B t → Small B (s ++ t)
small_append B s t h k e = go (dec_lt e (length s))
  where
    go : Dec (e < length s) → nat_abs (get_or (s ++ t) e (pos 0)) ≤ B
    go (yes l) = rw (get_or-append s t (pos 0) e l) (h e)
    go (no l) =
        let i : e ≡ length s + (e - length s) = omega arith in
        rw (i, get_or-append-add s t (e - length s) (pos 0)) (k (e - length s))

-- ---- entries that stand before a place, raised
module _ (list : List ℤ) (from : ℕ) (amounts : List ℤ) (room : from + length amounts ≤ length list) where
  part_long : length (take (length amounts) (drop from list)) ≡ length amounts
  part_long = length-take-le (length amounts) (drop from list) (omega (arith, length-drop from list))

  raised_long : length (raised list from amounts) ≡ length amounts
  unfolding raised
  raised_long = added_length (take (length amounts) (drop from list)) (pos 1) amounts ∙ part_long

  raised_at : (i : ℕ) → i < length amounts → get_or (raised list from amounts) i (pos 0) ≡ get_or list (from + i) (pos 0) +ℤ get_or amounts i (pos 0)
  unfolding raised
  raised_at i h =
      let y = get_or amounts i (pos 0) in
      let e : pos 1 *ℤ y ≡ y = *ℤ_comm (pos 1) y ∙ times_one y in
      added_at (take (length amounts) (drop from list)) (pos 1) amounts i (sym part_long)
      ∙ rw (e, get_or-take (length amounts) (drop from list) i (pos 0) h, get_or-drop from list i (pos 0))

-- ---- what is raised in two parts
raised_append : (list : List ℤ) (from : ℕ) (u v : List ℤ) → from + length u + length v ≤ length list → raised list from (u ++ v) ≡ raised list from u ++ raised list (from + length u) v
unfolding raised
raised_append list from u v room =
    let X = drop from list in
    let e : take (length (u ++ v)) X ≡ take (length u) X ++ take (length v) (drop (from + length u) list) =
    ap (λ n. take n X) (length-append u v) ∙ take-add (length u) (length v) X
    ∙ ap (λ l. take (length u) X ++ take (length v) l) (drop-drop (length u) from list) in
    rw e (added_append (take (length u) X) _ u v (pos 1) (sym (length-take-le (length u) X (omega (arith, length-drop from list)))))

-- what stands before a place at which something was written
part_before : (A B : List ℤ) (n from : ℕ) → from + n ≤ length A → take n (drop from (A ++ B)) ≡ take n (drop from A)
part_before A B n from h =
    ap (take n) (drop-append-le from A B (omega arith)) ∙ take-append-le n (drop from A) B (omega (arith, length-drop from A))

put_before : (list X : List ℤ) (at n from : ℕ) → from + n ≤ at → at ≤ length list → take n (drop from (put list at X)) ≡ take n (drop from list)
unfolding put
put_before list X at n from h room =
    let A = take at list in
    let long : from + n ≤ length A = omega (arith, length-take-le at list room) in
    ap (λ l. take n (drop from l)) (append_assoc A X _)
    ∙ part_before A (X ++ drop (at + length X) list) n from long
    ∙ sym (ap (λ l. take n (drop from l)) (sym (take-append-drop at list)) ∙ part_before A (drop at list) n from long)

small_part : (B : ℕ) (u v w : List ℤ) → Small B (u ++ (v ++ w)) → Small B v
small_part B u v w h e = go (dec_lt e (length v))
  where
    go : Dec (e < length v) → nat_abs (get_or v e (pos 0)) ≤ B
    go (yes l) = rw (← (get_or-append v w (pos 0) e l), ← (get_or-append-add u (v ++ w) e (pos 0))) (h (length u + e))
    go (no l) = rw (get_or-eq_default v (pos 0) {n = e} (omega arith)) (omega arith)

-- ---- rows are raised, so many at once: some of them already, some are left
module _ {u beside old list : List ℤ} {at back number rows left more place : ℕ} (may : Raisable old at back (repeated u number)) (stands : Beside u rows beside) (few : left ≤ number) (chosen : more ≡ min rows left) (here : place ≡ at + (number - left) * length u) (is : list ≡ put old at (raised old (at - back) (repeated u (number - left)))) where
  abbrev done : ℕ
  done = number - left

  abbrev raised_done : List ℤ
  raised_done = raised old (at - back) (repeated u done)

  abbrev raised_next : List ℤ
  raised_next = raised old (at - back + done * length u) (repeated u more)

  amounts_are : take (more * length u) beside ≡ repeated u more
  amounts_are = stands.is more (omega arith)

  inside : done * length u + more * length u ≤ number * length u
  inside =
      let fewer : done + more ≤ number = omega arith in
      omega (arith, mul-le-mul_right (length u) fewer, add-mul done more (length u))

  pub more_room : place + more * length u ≤ length old
  more_room = omega (arith, here, may.room, repeated_long u number, inside)

  next_part : raised list (place - back) (repeated u more) ≡ raised_next
  unfolding raised
  next_part =
      let from : place - back ≡ at - back + done * length u = omega (arith, here, may.before) in
      ap (λ l. with_cycle l (pos 1) (repeated u more))
      (ap₂ (λ k l. take (length (repeated u more)) (drop k l)) from is
      ∙ put_before old raised_done at (length (repeated u more)) (at - back + done * length u) (omega (arith, repeated_long u more, repeated_long u number, may.apart, may.before, inside)) (omega (arith, here, more_room)))

  both : raised old (at - back) (repeated u (done + more)) ≡ raised_done ++ raised_next
  both =
      ap (raised old (at - back)) (repeated_add u done more)
      ∙ raised_append old (at - back) (repeated u done) (repeated u more) (omega (arith, repeated_long u done, repeated_long u more, here, more_room, may.before))
      ∙ ap (λ n. raised_done ++ raised old (at - back + n) (repeated u more)) (repeated_long u done)

  pub may_raise_more : length list ≡ length old → Raisable list place back (take (more * length u) beside)
  may_raise_more same =
      let rest = number - (done + more) in
      let raised_rest = raised old (at - back + length (repeated u (done + more))) (repeated u rest) in
      let e : done + more + rest ≡ number = omega arith in
      let all : raised old (at - back) (repeated u number) ≡ raised_done ++ (raised_next ++ raised_rest) =
      ap (λ n. raised old (at - back) (repeated u n)) (sym e) ∙ ap (raised old (at - back)) (repeated_add u (done + more) rest)
      ∙ raised_append old (at - back) (repeated u (done + more)) (repeated u rest) (omega (arith, repeated_long u (done + more), repeated_long u rest, repeated_long u number, may.room, may.before, ap (λ n. n * length u) e, add-mul (done + more) rest (length u)))
      ∙ ap (λ l. l ++ raised_rest) both ∙ append_assoc raised_done raised_next raised_rest in
      rw amounts_are
      (record {
        before = omega (arith, here, may.before);
        apart = omega (arith, may.apart, repeated_long u more, repeated_long u number, inside);
        room = omega (arith, repeated_long u more, more_room, same);
        small = rw next_part (small_part (2 ^ 25) raised_done raised_next raised_rest (rw all at may.small));
      })

  next_done : number - (left - more) ≡ done + more
  next_done = omega arith

  pub more_place : place + more * length u ≡ at + (number - (left - more)) * length u
  more_place = rw next_done (omega (arith, here, add-mul done more (length u)))

  pub raised_more : {new : List ℤ} → new ≡ put list place (raised list (place - back) (take (more * length u) beside)) → new ≡ put old at (raised old (at - back) (repeated u (number - (left - more))))
  raised_more made =
      let long : length raised_done ≡ done * length u = raised_long old (at - back) (repeated u done) (omega (arith, repeated_long u done, here, more_room, may.before)) ∙ repeated_long u done in
      rw next_done
      (put_behind old raised_done raised_next at is (omega (arith, here, long)) (omega (arith, more_room)) (made ∙ ap (put list place) (rw amounts_are next_part)) both)

-- ---- one entry more
module _ {old list : List ℤ} {at back : ℕ} {amounts : List ℤ} {i : ℕ} (may : Raisable old at back amounts) (more : i < length amounts) (is : list ≡ paste old at (raised old (at - back) amounts) i) where
  readable : at - back + length amounts ≤ length old
  readable = omega (arith, may.before, may.apart, may.room)

  abbrev value : ℤ
  value = get_or list (at - back + i) (pos 0)

  abbrev amount : ℤ
  amount = get_or amounts i (pos 0)

  raised_here : get_or (raised old (at - back) amounts) i (pos 0) ≡ value +ℤ amount
  raised_here =
      raised_at old (at - back) amounts readable i more
      ∙ ap (λ x. x +ℤ amount)
      (sym (ap (λ l. get_or l (at - back + i) (pos 0)) is ∙ paste_outside old at (raised old (at - back) amounts) i (pos 0) (omega (arith, may.room)) (omega (arith, raised_long old (at - back) amounts readable)) (at - back + i) (inl (omega (arith, may.before, may.apart)))))

  module _ (x : FitsSigned w32 value) (y : FitsSigned w32 amount) where
    pub sum_fits : FitsSigned w32 (to_z w32 (of_z w32 value) +ℤ to_z w32 (of_z w32 amount))
    sum_fits = rw (back32 value x.sfits, back32 amount y.sfits, ← raised_here) (size_fits w32 (get_or (raised old (at - back) amounts) i (pos 0)) (omega (arith, may.small i)))

    pub sum_pasted : set list (at + i) (to_z w32 (of_z w32 (to_z w32 (of_z w32 value) +ℤ to_z w32 (of_z w32 amount)))) ≡ paste old at (raised old (at - back) amounts) (i + 1)
    sum_pasted =
        rw (to_z-of_z sum_fits, back32 value x.sfits, back32 amount y.sfits, ← raised_here, is, add-one i)
        (paste-suc old at (raised old (at - back) amounts) i (pos 0) (omega (arith, may.room)) (omega (arith, raised_long old (at - back) amounts readable)))

pub raised_whole : {old list : List ℤ} {at back : ℕ} {amounts : List ℤ} {i : ℕ} → Raisable old at back amounts → i ≡ length amounts → list ≡ paste old at (raised old (at - back) amounts) i → list ≡ put old at (raised old (at - back) amounts)
raised_whole {old} {list} {at} {back} {amounts} {i} may all is =
    let past : i ≡ length (raised old (at - back) amounts) = omega (arith, raised_long old (at - back) amounts (omega (arith, may.before, may.apart, may.room))) in
    (rw past at is) ∙ paste_put old at (raised old (at - back) amounts)

pub nothing_raised : (u old : List ℤ) (at from : ℕ) → old ≡ put old at (raised old from (repeated u 0))
unfolding repeated raised with_cycle
nothing_raised u old at from = sym (put_none old at)

-- ---- the rows of a block
times_split : (m a b c : ℕ) → a ≤ b → b ≤ c → (c - a) * m ≡ (b - a) * m + (c - b) * m
times_split m a b c h k =
    let e : c - a ≡ b - a + (c - b) = omega arith in
    rw e (add-mul (b - a) (c - b) m)

module _ (s z : List ℤ) where
  abbrev rows_of : ℕ → ℕ → List ℤ
  rows_of a b = flatten (block_rows s z a b)

  rows_between : (a b : ℕ) → block_rows s z a b ≡ between (λ d. with_cycle s (pos d) z ∷ []) a b
  unfolding block_rows between flat_map
  rows_between a b = sym (flat_map_single (λ i. with_cycle s (pos (a + i)) z) (below (b - a)))

  -- what each row more keeps holds of all of them
  rows_by : (P : ℕ → List ℤ → Type 0) (a : ℕ) → P 0 [] → ((j : ℕ) (l : List ℤ) → P j l → P (j + 1) (l ++ with_cycle s (pos (a + j)) z)) → (b : ℕ) → P (b - a) (rows_of a b)
  unfolding flatten
  rows_by P a none more b =
      rw (rows_between a b)
      (between_by (λ d. with_cycle s (pos d) z ∷ []) (λ j l. P j (flatten l)) a none (λ j l i. rw (flatten_last l (with_cycle s (pos (a + j)) z)) (more j (flatten l) i)) b)

  rows_split : (a b c : ℕ) → a ≤ b → b ≤ c → rows_of a c ≡ rows_of a b ++ rows_of b c
  rows_split a b c h k =
      ap flatten (rows_between a c ∙ between_split (λ d. with_cycle s (pos d) z ∷ []) a b c h k ∙ sym (ap₂ (λ u v. u ++ v) (rows_between a b) (rows_between b c)))
      ∙ flatten_append (block_rows s z a b) (block_rows s z b c)

  pub one_row : (d : ℕ) → with_cycle s (pos d) z ≡ rows_of d (d + 1)
  unfolding flatten
  one_row d =
      let none : d - d ≡ 0 = omega arith in
      sym (rw (rows_more s z d d (omega arith), rows_none s z d d none) (append-nil (with_cycle s (pos d) z)))

  -- rows written right behind the rows before them
  rows_put : (old : List ℤ) (at a b c : ℕ) {list new : List ℤ} {place : ℕ} → a ≤ b → b ≤ c → at + (b - a) * length s ≤ length old → list ≡ put old at (rows_of a b) → place ≡ at + (b - a) * length s → new ≡ put list place (rows_of b c) → new ≡ put old at (rows_of a c)
  rows_put old at a b c h k room so_far here made =
      let size = rows_long s z a b in
      put_behind old (rows_of a b) (rows_of b c) at so_far (omega (arith, size)) (omega arith) made (rows_split a b c h k)

  -- the entries of rows are small
  module _ (ready : Addable s (pos 0) z) where
    row_small : (d : ℕ) → d ≤ 2 ^ 20 → Small (2 ^ 25) (with_cycle s (pos d) z)
    row_small d h e = omega (arith, added_small s (pos d) z (2 ^ 24) (2 ^ 20) ready.sized ready.values (omega arith) ready.signs e)

    rows_small : (low high : ℕ) → high ≤ 2 ^ 20 → Small (2 ^ 25) (rows_of low high)
    rows_small low high h =
        rows_by (λ j l. j ≤ 2 ^ 20 - low → Small (2 ^ 25) l) low (λ few e. omega arith) (λ j l i few. small_append (2 ^ 25) l (with_cycle s (pos (low + j)) z) (i (omega arith)) (row_small (low + j) (omega arith))) high (omega arith)

-- ---- rows that end at a place
pub behind : {new s z : List ℤ} (list : List ℤ) (place : ℕ) {end : ℕ} {p : Span} → place ≤ length list → new ≡ put list place (flatten (block_rows s z p.from p.to)) → end ≡ place + (p.to - p.from) * length s → RowsBefore new end s z p
unfolding put
behind {new} {s} {z} list place {end} {p} room made is =
    record {
      head = take place list;
      tail = drop (place + length (flatten (block_rows s z p.from p.to))) list;
      is = made ∙ append_assoc (take place list) (flatten (block_rows s z p.from p.to)) _;
      ends = omega (arith, length-take-le place list room);
    }

-- none
pub none_behind : {list s z : List ℤ} {at : ℕ} → at ≤ length list → RowsBefore list at s z (record { from = 0; to = 0 })
unfolding flatten
none_behind {list} {s} {z} {at} room =
    let none : 0 - 0 ≡ 0 = omega arith in
    behind list at room (sym (rw (rows_none s z 0 0 none) (put_none list at))) (omega arith)

-- what stands in the middle of a list
part_at : (A B D : List ℤ) {list : List ℤ} {n k : ℕ} → list ≡ A ++ (B ++ D) → length A ≡ n → length B ≡ k → take k (drop n list) ≡ B
part_at A B D {list} {n} {k} is a b = ap (λ l. take k (drop n l)) is ∙ ap (take k) (drop_at A (B ++ D) n a) ∙ take_at B D k b

rows_standing : {s z list : List ℤ} {at : ℕ} {last : Span} → RowsBefore list at s z last → (low high : ℕ) → last.from ≤ low → low ≤ high → high ≤ last.to → take ((high - low) * length s) (drop (at - (last.to - low) * length s) list) ≡ rows_of s z low high
rows_standing {s} {z} {list} {at} {last} stands low high among some ends =
    let A = stands.head ++ rows_of s z last.from low in
    let D = rows_of s z high last.to ++ stands.tail in
    let split : list ≡ A ++ (rows_of s z low high ++ D) = stands.is ∙ rw (rows_split s z last.from low last.to among (omega arith), rows_split s z low high last.to some ends) (simp append_assoc) in
    part_at A (rows_of s z low high) D split (omega (arith, length-append stands.head (rows_of s z last.from low), rows_long s z last.from low, stands.ends, times_split (length s) last.from low last.to among (omega arith))) (rows_long s z low high)

-- ---- rows of the block before, with the second cycle once more
module _ (s z y : List ℤ) (long : length y ≡ length s) where
  abbrev earlier : List ℤ
  earlier = with_cycle s (neg_ℤ (pos 1)) y

  row_raised : (d : ℕ) → with_cycle (with_cycle earlier (pos d) z) (pos 1) y ≡ with_cycle s (pos d) z
  row_raised d = ap (λ l. with_cycle l (pos 1) y) (either_order s (neg_ℤ (pos 1)) (pos d) y z) ∙ put_back (with_cycle s (pos d) z) y (pos 1)

  rows_raised : (low high : ℕ) → low ≤ high → with_cycle (rows_of earlier z low high) (pos 1) (repeated y (high - low)) ≡ rows_of s z low high
  unfolding repeated flatten with_cycle
  rows_raised low high h =
      let e : low + (high - low) ≡ high = omega arith in
      rw e
      at (rows_by earlier z (λ j l. (length l ≡ j * length s) × (with_cycle l (pos 1) (repeated y j) ≡ rows_of s z low (low + j))) low
      (omega arith, sym (ap flatten (rows_none s z low (low + 0) (omega arith))))
      (λ j l i.
      let row = with_cycle earlier (pos (low + j)) z in
      let next : low + (j + 1) ≡ low + j + 1 = omega arith in (
        omega (arith, i.0, length-append l row, added_length earlier (pos (low + j)) z, added_length s (neg_ℤ (pos 1)) y, add-mul j 1 (length s)),
        rw (repeated_next y j, next, rows_more s z low (low + j) (omega arith), flatten_last (block_rows s z low (low + j)) (with_cycle s (pos (low + j)) z))
            (added_append l row (repeated y j) y (pos 1) (omega (arith, repeated_long y j, i.0, ap (λ n. j * n) long)) ∙ rw (i.1, row_raised (low + j))),
      )) high).1

-- ---- a block of which the rows from low to before high are made of those of the block before
-- all rows have room
module _ (from to last_from last_to at m room : ℕ) {low high : ℕ} (begins : low ≡ max from last_from) (stops : high ≡ min to last_to) (some : low < high) (enough : at + (to - from) * m ≤ room) where
  pub first_fits : (low ≤ to) × (at + (low - from) * m ≤ room)
  first_fits = (omega arith, omega (arith, times_split m from low to (omega arith) (omega arith)))

  pub last_fits : at + (high - from) * m + (to - high) * m ≤ room
  last_fits = omega (arith, times_split m from high to (omega arith) (omega arith))

module _ (from to : ℕ) {s z y : List ℤ} (first : Addable s (pos 0) z) (second : Addable s (pos 0) y) {list : List ℤ} {at : ℕ} {last : Span} (stands : RowsBefore list at (with_cycle s (neg_ℤ (pos 1)) y) z last) {low high : ℕ} (begins : low ≡ max from last.from) (stops : high ≡ min to last.to) (some : low < high) (enough : at + (to - from) * length s ≤ length list) where
  earlier_long : length (with_cycle s (neg_ℤ (pos 1)) y) ≡ length s
  earlier_long = added_length s (neg_ℤ (pos 1)) y

  abbrev before : ℕ
  before = (last.to - low) * length s

  before_at : before ≤ at
  before_at = omega (arith, rw earlier_long at stands.ends, times_split (length s) last.from low last.to (omega arith) (omega arith))

  middle_few : (high - low) * length s ≤ before
  middle_few = omega (arith, times_split (length s) low high last.to (omega arith) (omega arith))

  abbrev middle : ℕ
  middle = at + (low - from) * length s

  middle_room : middle + (high - low) * length s ≤ length list
  middle_room = omega (arith, times_split (length s) from low to (omega arith) (omega arith), times_split (length s) low high to (omega arith) (omega arith))

  abbrev back : ℕ
  back = (last.to - from) * length s

  back_is : back ≡ (low - from) * length s + before
  back_is = times_split (length s) from low last.to (omega arith) (omega arith)

  pub back_room : back ≤ length list
  back_room = omega (arith, back_is, before_at, middle_room)

  module _ {one : List ℤ} (is : one ≡ put list at (rows_of s z from low)) where
    abbrev amounts : List ℤ
    amounts = repeated y (high - low)

    amounts_long : length amounts ≡ (high - low) * length s
    amounts_long = repeated_long y (high - low) ∙ ap (λ l. (high - low) * l) second.sized

    middle_rows : raised one (middle - back) amounts ≡ rows_of s z low high
    unfolding raised
    middle_rows =
        let source : middle - back ≡ at - before = omega (arith, back_is, before_at) in
        let stand = rw earlier_long at (rows_standing stands low high (omega arith) (omega arith) (omega arith)) in
        rw (amounts_long, source, is, put_before list (rows_of s z from low) at ((high - low) * length s) (at - before) (omega (arith, before_at, middle_few)) (omega arith), stand) (rows_raised s z y second.sized low high (omega arith))

    pub middle_may : to ≤ 2 ^ 20 → Raisable one middle back amounts
    middle_may bound =
        let long : length one ≡ length list = ap length is ∙ put_length list at (rows_of s z from low) (omega (arith, rows_long s z from low, middle_room)) in
        record {
          before = omega (arith, back_is, before_at);
          apart = omega (arith, amounts_long, back_is, middle_few);
          room = omega (arith, amounts_long, middle_room, long);
          small = rw middle_rows (rows_small s z first low high (omega arith));
        }

    pub all_written : {two three : List ℤ} → two ≡ put one middle (raised one (middle - back) amounts) → three ≡ put two (at + (high - from) * length s) (rows_of s z high to) → three ≡ put list at (rows_of s z from to)
    all_written made ends =
        let through : high ≤ to = omega arith in
        let first_two = times_split (length s) from low high (omega arith) (omega arith) in
        rows_put s z list at from high to (omega arith) through (omega (arith, first_two, middle_room))
        (rows_put s z list at from low high (omega arith) (omega arith) (omega (arith, middle_room)) is refl (made ∙ ap (put one middle) middle_rows)) refl ends

-- ---- rows each made of the one before: those up to d stand at a place of a list, and one more goes behind them
module _ (old : List ℤ) (at : ℕ) {s z : List ℤ} (ready : Addable s (pos 0) z) {list : List ℤ} {from to d place : ℕ} (low : from < d) (more : d < to) (enough : at + (to - from) * length s ≤ length old) (here : place ≡ at + (d - from) * length s) (so_far : list ≡ put old at (rows_of s z from d)) where
  pub row_fits : place + length s ≤ length old
  row_fits = omega (arith, row_room from d to (length s) (omega arith) more)

  one : (d - (d - 1)) * length s ≡ length s
  one = let n : d - (d - 1) ≡ 1 = omega arith in rw n (omega arith)

  row_next : raised list (place - length s) z ≡ with_cycle s (pos d) z
  unfolding raised
  row_next =
      let e : d - 1 + 1 ≡ d = omega arith in
      let stands : RowsBefore list place s z (record { from = from; to = d }) = behind old at (omega (arith, here, row_fits)) so_far here in
      let before = rw one at (rows_standing stands (d - 1) d (omega arith) (omega arith) (omega arith)) in
      rw (ready.sized, before, ← (rw e at (one_row s z (d - 1)))) (rw e at (once_more s z (d - 1)))

  pub row_may : to ≤ 2 ^ 20 → Raisable list place (length s) z
  row_may bound =
      let same : length list ≡ length old = ap length so_far ∙ put_length old at (rows_of s z from d) (omega (arith, rows_long s z from d, here, row_fits)) in
      let several = times_split (length s) from (d - 1) d (omega arith) (omega arith) in
      record {
        before = omega (arith, here, several, one);
        apart = omega (arith, ready.sized);
        room = omega (arith, ready.sized, row_fits, same);
        small = rw row_next (row_small s z ready d (omega arith));
      }

  pub row_written : {new : List ℤ} → new ≡ put list place (raised list (place - length s) z) → new ≡ put old at (rows_of s z from (d + 1))
  row_written is = rows_put s z old at from d (d + 1) (omega arith) (omega arith) (omega (arith, here, row_fits)) so_far here (is ∙ ap (put list place) (row_next ∙ one_row s z d))
