-- A matrix in a list: one entry more is added, and what the list then is.
use Prim.Native.Nat.{ℕ, zero, suc, ◌+◌, ◌-◌, ◌*◌, ◌/◌, ◌%◌, ◌^◌, ◌≤◌, ◌<◌}
use mathlib.Core.List.{List, [], map, flatten, ◌++◌}
use mathlib.Core.Bool.{◌&&◌, cond}
use mathlib.Core.Path.{◌≡◌, refl, sym, ap, ◌∙◌}
use mathlib.Core.Logic.{◌≢◌}
use native.Mathlib.Nat.{mul-le-mul, mul_comm, suc-mul, le_refl, mod-lt, div-add-mod', div-lt_iff_lt-mul}
use native.Mathlib.Omega.{arith}
use native.Mathlib.Decide.{ℕ_discrete, dec_lt}
use borrow.Author.Tests.{eq-eqb, ne_eqb, lt-ltb, le-ltb}
use lib.Dec.{eqb, ltb}
use lib.Ieee.{Float, nan, binary64, add}
use lib.ListN.{get_or, length, drop, set, replicate, length-set, length-map, length-append, length-drop, length-replicate, get_or-append, get_or-replicate}
use lib.Seq.{get_or-set_same, get_or-set_other, get_or-append-add, get_or-append_right, get_or-drop, ext_get_or}
use Rattle.mathematics.proofs.Tests.{same_turned}
use Rattle.mathematics.specs.Counting.{below}
use Rattle.mathematics.specs.Writing.{front}
use Rattle.mathematics.proofs.Below.{length_below, map_below_at}
use Rattle.mathematics.proofs.Flat.{flatten_length, flatten_at}
use Rattle.matrices.specs.Coupling.{float_of}
use Rattle.matrices.specs.Matrix.{matrix_rows, Matrix, passed}

-- a place in row i is below the next row
row_end : (n i j : ℕ) → j < n → i * n + j < suc i * n
row_end n i j h = omega (arith, suc-mul i n)

pub in_matrix : (n i j : ℕ) → i < n → j < n → i * n + j < n * n
in_matrix n i j h k = omega (arith, row_end n i j k, mul-le-mul h (le_refl n))

-- so few that their places fit
pub few_entries : (n : ℕ) → n ≤ 2 ^ 20 → n * n ≤ 2 ^ 40
few_entries n h = mul-le-mul h h

-- rows and columns are read off a place
same_row : (n i j a b : ℕ) → j < n → b < n → i * n + j ≡ a * n + b → i ≡ a
same_row n i j a b h k e = go (dec_lt i a) (dec_lt a i)
  where
    go : Dec (i < a) → Dec (a < i) → i ≡ a
    go (yes l) r = absurd (omega (arith, e, row_end n i j h, mul-le-mul l (le_refl n)))
    go (no l) (yes r) = absurd (omega (arith, e, row_end n a b k, mul-le-mul r (le_refl n)))
    go (no l) (no r) = omega arith

module _ (f : ℕ → ℕ → Float) (n : ℕ) (old new : List Float) (m : Matrix f n old new) (room : n * n ≤ length old) where
  -- x is added to entry (a, b)
  pub matrix_add : (a b : ℕ) → a < n → b < n → (x : Float)
      → Matrix (λ i j. cond (eqb i a && eqb j b) (add binary64 (f i j) x) (f i j)) n old (set new (a * n + b) (add binary64 (get_or new (a * n + b) nan) x))
  matrix_add a b ha hb x =
      record {
        long = length-set new (a * n + b) (add binary64 (get_or new (a * n + b) nan) x) ∙ m.long;
        entries = λ i j hi hj. go i j hi hj (ℕ_discrete i a) (ℕ_discrete j b);
        beyond = λ k h. get_or-set_other new (a * n + b) k _ nan (λ e. absurd (omega (arith, e, in_matrix n a b ha hb))) ∙ m.beyond k h;
      }
    where
      here : a * n + b < length new
      here = omega (arith, in_matrix n a b ha hb, m.long)

      other : (i j : ℕ) → i < n → j < n → ((i ≡ a) × (j ≡ b) → ⊥) → get_or (set new (a * n + b) (add binary64 (get_or new (a * n + b) nan) x)) (i * n + j) nan ≡ f i j
      other i j hi hj d =
          get_or-set_other new (a * n + b) (i * n + j) _ nan
          (λ e. let r : i ≡ a = same_row n i j a b hj hb e in let q : i * n ≡ a * n = ap (λ (k : ℕ). k * n) r in d (r, omega (arith, e)))
          ∙ m.entries i j hi hj

      go : (i j : ℕ) → i < n → j < n → Dec (i ≡ a) → Dec (j ≡ b)
          → get_or (set new (a * n + b) (add binary64 (get_or new (a * n + b) nan) x)) (i * n + j) nan ≡ cond (eqb i a && eqb j b) (add binary64 (f i j) x) (f i j)
      go i j hi hj (yes p) (yes q) =
          rw (eq-eqb i a p, eq-eqb j b q, p, q) (get_or-set_same new (a * n + b) _ nan here ∙ ap (λ (y : Float). add binary64 y x) (m.entries a b ha hb))
      go i j hi hj (yes p) (no q) = rw (eq-eqb i a p, ne_eqb j b q) (other i j hi hj (λ e. q e.1))
      go i j hi hj (no p) q = rw (ne_eqb i a p) (other i j hi hj (λ e. p e.0))

-- ---- the whole list
module _ (f : ℕ → ℕ → Float) (n : ℕ) where
  abbrev lines : List (List Float)
  lines = map (λ i. map (λ j. f i j) (below n)) (below n)

  lines_many : length lines ≡ n
  lines_many = length-map (below n) (λ i. map (λ j. f i j) (below n)) ∙ length_below n

  line_at : (i : ℕ) → i < n → get_or lines i [] ≡ map (λ j. f i j) (below n)
  line_at i h = map_below_at (λ i. map (λ j. f i j) (below n)) n i [] h

  line_long : (i : ℕ) → i < length lines → length (get_or lines i []) ≡ n
  line_long i h = ap length (line_at i (rw (← lines_many) h)) ∙ length-map (below n) (λ j. f i j) ∙ length_below n

  pub rows_length : length (matrix_rows f n) ≡ n * n
  unfolding matrix_rows
  rows_length = flatten_length n lines line_long ∙ ap (λ (k : ℕ). n * k) lines_many

  rows_at : (rest : List Float) (i j : ℕ) → i < n → j < n → get_or (matrix_rows f n ++ rest) (i * n + j) nan ≡ f i j
  unfolding matrix_rows
  rows_at rest i j h k =
      ap (λ (m : ℕ). get_or (flatten lines ++ rest) (m + j) nan) (mul_comm i n)
      ∙ flatten_at n nan lines rest line_long i j (rw lines_many h) k
      ∙ ap (λ (l : List Float). get_or l j nan) (line_at i h) ∙ map_below_at (λ j. f i j) n j nan k

  pub matrix_is : (old new : List Float) → Matrix f n old new → n * n ≤ length old → new ≡ front (matrix_rows f n) old
  matrix_is old new m room =
      ext_get_or nan new (matrix_rows f n ++ drop (n * n) old) same (λ k h. each k h (dec_lt k (n * n))) ∙ ap (λ (k : ℕ). matrix_rows f n ++ drop k old) (sym rows_length)
    where
      same : length new ≡ length (matrix_rows f n ++ drop (n * n) old)
      same = m.long ∙ sym (length-append (matrix_rows f n) (drop (n * n) old) ∙ rw (rows_length, length-drop (n * n) old) (omega arith))

      each : (k : ℕ) → k < length new → Dec (k < n * n) → get_or new k nan ≡ get_or (matrix_rows f n ++ drop (n * n) old) k nan
      each k h (yes l) =
          let some : 0 < n = positive n l in
          let row : k / n < n = (div-lt_iff_lt-mul some).1 l in
          let column : k % n < n = mod-lt k some in
          ap (λ (i : ℕ). get_or new i nan) (sym (div-add-mod' k n)) ∙ m.entries (k / n) (k % n) row column
          ∙ sym (rows_at (drop (n * n) old) (k / n) (k % n) row column) ∙ ap (λ (i : ℕ). get_or (matrix_rows f n ++ drop (n * n) old) i nan) (div-add-mod' k n)
        where
          positive : (n : ℕ) → k < n * n → 0 < n
          positive zero l = absurd (omega arith)
          positive (suc n) l = omega arith
      each k h (no l) =
          let e : n * n + (k - n * n) ≡ k = omega arith in
          m.beyond k (omega arith)
          ∙ sym (ap (λ (i : ℕ). get_or (matrix_rows f n ++ drop (n * n) old) i nan) (sym e)
          ∙ (rw rows_length at (get_or-append-add (matrix_rows f n) (drop (n * n) old) (k - n * n) nan)) ∙ get_or-drop (n * n) old (k - n * n) nan ∙ ap (λ (i : ℕ). get_or old i nan) e)

-- ---- entries that are said in another way
pub matrix_same : (f g : ℕ → ℕ → Float) (n : ℕ) (old new : List Float) → ((i j : ℕ) → i < n → j < n → f i j ≡ g i j) → Matrix f n old new → Matrix g n old new
matrix_same f g n old new same m = record { long = m.long; entries = λ i j h k. m.entries i j h k ∙ same i j h k; beyond = m.beyond }

-- ---- zeros
-- a list that begins with as many zeros as the matrix has entries
pub filled_matrix : (n : ℕ) (h : List Float) → n * n ≤ length h → Matrix (λ i j. float_of 0) n h (replicate (n * n) (float_of 0) ++ drop (n * n) h)
filled_matrix n h room =
    let many = length-replicate (n * n) (float_of 0) in
    record {
      long = simp (length-append, length-replicate, length-drop) (omega arith);
      entries = λ i j a b.
          let inside : i * n + j < n * n = in_matrix n i j a b in
          get_or-append (replicate (n * n) (float_of 0)) (drop (n * n) h) nan (i * n + j) (rw many inside) ∙ get_or-replicate (n * n) (i * n + j) (float_of 0) nan inside;
      beyond = λ k l.
          let e : n * n + (k - n * n) ≡ k = omega arith in
          rw (get_or-append_right (replicate (n * n) (float_of 0)) (drop (n * n) h) k nan (rw many l), many, get_or-drop (n * n) h (k - n * n) nan, e);
    }

-- ---- one entry of each row
-- a bound one higher matters to the number itself alone
pub one_higher : (i k : ℕ) → i ≢ k → ltb i (k + 1) ≡ ltb i k
one_higher i k d = go (dec_lt i k)
  where
    go : Dec (i < k) → ltb i (k + 1) ≡ ltb i k
    go (yes h) = lt-ltb i (k + 1) (omega arith) ∙ sym (lt-ltb i k h)
    go (no h) = le-ltb i (k + 1) (omega arith) ∙ sym (le-ltb i k (omega arith))

module _ (f : ℕ → ℕ → Float) (g : ℕ → ℕ) (x : ℕ → Float) where
  pub passed_none : (i j : ℕ) → f i j ≡ passed f g x 0 i j
  unfolding passed
  passed_none i j = rw (le-ltb i 0 (omega arith))

  pub passed_all : (n i j : ℕ) → i < n → passed f g x n i j ≡ cond (eqb (g i) j) (add binary64 (f i j) (x i)) (f i j)
  unfolding passed
  passed_all n i j h = rw (lt-ltb i n h)

  pub passed_more : (n : ℕ) (old new : List Float) (k : ℕ) → Matrix (passed f g x k) n old new → n * n ≤ length old → k < n → g k < n
      → Matrix (passed f g x (k + 1)) n old (set new (k * n + g k) (add binary64 (get_or new (k * n + g k) nan) (x k)))
  unfolding passed
  passed_more n old new k m room h there =
      matrix_same (λ i j. cond (eqb i k && eqb j (g k)) (add binary64 (passed f g x k i j) (x k)) (passed f g x k i j)) (passed f g x (k + 1)) n old
      (set new (k * n + g k) (add binary64 (get_or new (k * n + g k) nan) (x k))) (λ i j a b. go i j (ℕ_discrete i k))
      (matrix_add (passed f g x k) n old new m room k (g k) h there (x k))
    where
      go : (i j : ℕ) → Dec (i ≡ k) → cond (eqb i k && eqb j (g k)) (add binary64 (passed f g x k i j) (x k)) (passed f g x k i j) ≡ passed f g x (k + 1) i j
      go i j (yes e) = rw (e, eq-eqb k k refl, le-ltb k k (omega arith), lt-ltb k (k + 1) (omega arith), same_turned j (g k))
      go i j (no e) = rw (ne_eqb i k e, one_higher i k e)
