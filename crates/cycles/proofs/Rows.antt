-- Tables of rows of 63: what a row holds after another row, or one entry, was written.
use Prim.Native.Nat.{ℕ, ◌+◌, ◌*◌, ◌-◌, ◌≤◌, ◌<◌}
use mathlib.Core.List.{List, append_assoc}
use mathlib.Core.Path.{◌≡◌, sym, ◌∙◌}
use mathlib.Core.Logic.{◌≢◌, ◌⊎◌, inl, inr}
use native.Mathlib.Omega.{arith}
use native.Mathlib.Decide.{ℕ_discrete, dec_lt}
use lib.IntN.{ℤ, pos}
use lib.ListN.{get_or, length, take, drop, set, length-set, length-drop, replicate, length-replicate, get_or-replicate}
use lib.Seq.{paste, take_all, drop-drop, take-take, length-take-le, length-paste, get_or-take, get_or-drop, get_or-set_same, get_or-set_other, ext_get_or}
use borrow.Rule.Slice.PartMut.{put_mid}
use Rattle.mathematics.proofs.Pasted.{paste_inside, paste_outside}
use Rattle.cycles.specs.Cycles.{row}

module _ (m : ℕ) (few : m ≤ 63) (table : List ℤ) where
  pub row_at : (r e : ℕ) → e < m → get_or (row m table r) e (pos 0) ≡ get_or table (63 * r + e) (pos 0)
  row_at r e h = get_or-take m (drop (63 * r) table) e (pos 0) h ∙ get_or-drop (63 * r) table e (pos 0)

  pub row_length : (r : ℕ) → 63 * r + m ≤ length table → length (row m table r) ≡ m
  row_length r h = length-take-le m (drop (63 * r) table) (omega (arith, length-drop (63 * r) table))

-- a row of a table of zeros
pub zero_row : (n m r : ℕ) → m ≤ 63 → 63 * r + m ≤ n → row m (replicate n (pos 0)) r ≡ replicate m (pos 0)
zero_row n m r few h =
    let l : length (row m (replicate n (pos 0)) r) ≡ m = row_length m few (replicate n (pos 0)) r (omega (arith, length-replicate n (pos 0))) in
    ext_get_or (pos 0) (row m (replicate n (pos 0)) r) (replicate m (pos 0)) (l ∙ sym (length-replicate m (pos 0)))
    (λ e k.
    let i : e < m = omega (arith, l) in
    row_at m few (replicate n (pos 0)) r e i ∙ get_or-replicate n (63 * r + e) (pos 0) (pos 0) (omega arith) ∙ sym (get_or-replicate m e (pos 0) (pos 0) i))

-- two tables of the same length with the same entries in a row have the same row
row_same : (m : ℕ) → m ≤ 63 → (t u : List ℤ) (r q : ℕ) → 63 * r + m ≤ length t → 63 * q + m ≤ length u
    → ((e : ℕ) → e < m → get_or t (63 * r + e) (pos 0) ≡ get_or u (63 * q + e) (pos 0)) → row m t r ≡ row m u q
row_same m few t u r q a b h =
    let l : length (row m t r) ≡ m = row_length m few t r a in
    ext_get_or (pos 0) (row m t r) (row m u q) (l ∙ sym (row_length m few u q b))
    (λ e k. let i : e < m = omega (arith, l) in row_at m few t r e i ∙ h e i ∙ sym (row_at m few u q e i))

module _ (m : ℕ) (few : m ≤ 63) (table : List ℤ) (w : ℕ) (room : 63 * w + m ≤ length table) where
  -- a row is written
  module _ (s : List ℤ) (long : length s ≡ m) where
    written_length : length (paste table (63 * w) s m) ≡ length table
    written_length = length-paste table (63 * w) s m room (omega arith)

    pub row_written : row m (paste table (63 * w) s m) w ≡ s
    row_written =
        let l : length (row m (paste table (63 * w) s m) w) ≡ m = row_length m few (paste table (63 * w) s m) w (omega (arith, written_length)) in
        ext_get_or (pos 0) (row m (paste table (63 * w) s m) w) s (l ∙ sym long)
        (λ e k. let i : e < m = omega (arith, l) in row_at m few (paste table (63 * w) s m) w e i ∙ paste_inside table (63 * w) s m (pos 0) room (omega arith) e i)

    pub row_kept : (r : ℕ) → r ≢ w → 63 * r + m ≤ length table → row m (paste table (63 * w) s m) r ≡ row m table r
    row_kept r n h =
        row_same m few (paste table (63 * w) s m) table r r (omega (arith, written_length)) h
        (λ e i. paste_outside table (63 * w) s m (pos 0) room (omega arith) (63 * r + e) (apart e i (dec_lt r w)))
      where
        apart : (e : ℕ) → e < m → Dec (r < w) → (63 * r + e < 63 * w) ⊎ (63 * w + m ≤ 63 * r + e)
        apart e i (yes k) = inl (omega arith)
        apart e i (no k) = let d : w < r = omega (arith, n) in inr (omega arith)

  -- one entry is set
  module _ (i : ℕ) (inside : i < m) (x : ℤ) where
    pub row_set : row m (set table (63 * w + i) x) w ≡ set (row m table w) i x
    row_set =
        let l : length (row m (set table (63 * w + i) x) w) ≡ m = row_length m few (set table (63 * w + i) x) w (omega (arith, length-set table (63 * w + i) x)) in
        let k : length (row m table w) ≡ m = row_length m few table w room in
        ext_get_or (pos 0) (row m (set table (63 * w + i) x) w) (set (row m table w) i x) (l ∙ sym k ∙ sym (length-set (row m table w) i x))
        (λ e h. row_at m few (set table (63 * w + i) x) w e (omega (arith, l)) ∙ at e (omega (arith, l)) k (ℕ_discrete e i))
      where
        at : (e : ℕ) → e < m → length (row m table w) ≡ m → Dec (e ≡ i) → get_or (set table (63 * w + i) x) (63 * w + e) (pos 0) ≡ get_or (set (row m table w) i x) e (pos 0)
        at e h k (yes q) = rw q (get_or-set_same table (63 * w + i) x (pos 0) (omega arith) ∙ sym (get_or-set_same (row m table w) i x (pos 0) (omega arith)))
        at e h k (no n) =
            get_or-set_other table (63 * w + i) (63 * w + e) x (pos 0) (λ q. n (omega arith))
            ∙ sym (row_at m few table w e h)
            ∙ sym (get_or-set_other (row m table w) i e x (pos 0) n)

    pub row_set_other : (r : ℕ) → r ≢ w → 63 * r + m ≤ length table → row m (set table (63 * w + i) x) r ≡ row m table r
    row_set_other r n h =
        row_same m few (set table (63 * w + i) x) table r r (omega (arith, length-set table (63 * w + i) x)) h
        (λ e k. get_or-set_other table (63 * w + i) (63 * r + e) x (pos 0) (λ q. apart e k (dec_lt r w) q))
      where
        apart : (e : ℕ) → e < m → Dec (r < w) → 63 * r + e ≡ 63 * w + i → ⊥
        apart e k (yes l) q = absurd (omega arith)
        apart e k (no l) q = let d : w < r = omega (arith, n) in absurd (omega arith)

-- a row that is copied at once
pub row_copied : (table : List ℤ) (from to m : ℕ) → paste table to (drop from table) ((from + m) - from) ≡ paste table to (take m (drop from table)) m
row_copied table from to m =
    let n : (from + m) - from ≡ m = omega arith in
    rw (n, take-take m m (drop from table) (omega arith))

-- a list that is put over a part stands at its place
pub row_put : (table s : List ℤ) (at m k : ℕ) → k ≡ m → length s ≡ m → put_mid at k table s ≡ paste table at s m
row_put table s at m k q long = rw (q, drop-drop m at table, take_all m s (omega arith)) (sym (append_assoc (take at table) s _))
