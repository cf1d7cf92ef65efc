-- Lists with the numbers from one to before another, joined.
use Prim.Native.Nat.{ℕ, zero, suc, ◌+◌, ◌-◌, ◌*◌, ◌≤◌, ◌<◌}
use mathlib.Core.List.{List, [], ◌++◌, append_assoc, append-nil, flat_map, flatten}
use mathlib.Core.Path.{◌≡◌, refl, sym, ◌∙◌}
use native.Mathlib.Omega.{arith}
use native.Mathlib.Nat.{add-zero, add-mul}
use native.Mathlib.Numerals.{add-one}
use native.Mathlib.Decide.{dec_le}
use lib.ListN.{length, length-append}
use Rattle.mathematics.specs.Counting.{below}
use Rattle.mathematics.proofs.Flat.{flat_map_last, flatten_append}
use Rattle.runs.specs.Runs.{between}

module _ {A : Type 0} (f : ℕ → List A) where
  pub between_none : (a b : ℕ) → b - a ≡ 0 → between f a b ≡ []
  unfolding between below flat_map
  between_none a b h = rw h

  pub between_same : (a b c : ℕ) → b - a ≡ c - a → between f a b ≡ between f a c
  unfolding between
  between_same a b c h = rw h

  -- what each list more keeps holds of all of them
  pub between_by : (P : ℕ → List A → Type 0) (a : ℕ) → P 0 [] → ((j : ℕ) (l : List A) → P j l → P (j + 1) (l ++ f (a + j))) → (b : ℕ) → P (b - a) (between f a b)
  unfolding between below flat_map
  between_by P a none more b = go (b - a)
    where
      go : (j : ℕ) → P j (flat_map (λ i. f (a + i)) (below j))
      go zero = none
      go (suc j) = rw (flat_map_last (λ i. f (a + i)) (below j) j, ← (add-one j)) (more j _ (go j))

  pub between_next : (a b : ℕ) → a ≤ b → between f a (b + 1) ≡ between f a b ++ f b
  unfolding between below
  between_next a b h =
      let e : b + 1 - a ≡ suc (b - a) = omega arith in
      let g : a + (b - a) ≡ b = omega arith in
      rw e (flat_map_last (λ i. f (a + i)) (below (b - a)) (b - a) ∙ rw g)

  pub between_split : (a b c : ℕ) → a ≤ b → b ≤ c → between f a c ≡ between f a b ++ between f b c
  between_split a b c h k =
      let e : b + (c - b) ≡ c = omega arith in
      rw e
      at (between_by (λ j l. between f a (b + j) ≡ between f a b ++ l) b (rw (add-zero b) (sym (append-nil (between f a b))))
      (λ j l i.
      let next : b + (j + 1) ≡ b + j + 1 = omega arith in
      rw (next, between_next a (b + j) (omega arith), i) (append_assoc (between f a b) l (f (b + j)))) c)

  between_empty : (a b : ℕ) → ((i : ℕ) → a ≤ i → i < b → f i ≡ []) → between f a b ≡ []
  between_empty a b h = between_by (λ j l. j ≤ b - a → l ≡ []) a (λ few. refl) (λ j l i few. rw (i (omega arith), h (a + j) (omega arith) (omega arith))) b (omega arith)

  -- all of them, where those outside of a part are empty
  pub between_part : (k from to : ℕ) → to ≤ k → ((i : ℕ) → i < k → (from ≤ i → i < to → ⊥) → f i ≡ []) → between f 0 k ≡ between f from to
  between_part k from to bound empty = go (dec_le from to)
    where
      go : Dec (from ≤ to) → between f 0 k ≡ between f from to
      go (yes h) =
          let before = between_empty 0 from (λ i l m. empty i (omega arith) (λ a b. omega arith)) in
          let behind = between_empty to k (λ i l m. empty i (omega arith) (λ a b. omega arith)) in
          between_split 0 from k (omega arith) (omega arith)
          ∙ rw (before, between_split from to k h bound, behind) (append-nil (between f from to))
      go (no h) = between_empty 0 k (λ i l m. empty i (omega arith) (λ a b. omega arith)) ∙ sym (between_none from to (omega arith))

  pub between_few : (n : ℕ) → ((i : ℕ) → length (f i) ≤ n) → (a b : ℕ) → length (between f a b) ≤ (b - a) * n
  between_few n few a b = between_by (λ j l. length l ≤ j * n) a (omega arith) (λ j l i. rw (length-append l (f (a + j)), add-mul j 1 n) (omega (arith, few (a + j)))) b

-- lists of m entries each, all in one
pub between_flat : {B : Type 0} (f : ℕ → List (List B)) (m : ℕ) → ((i : ℕ) → length (flatten (f i)) ≡ length (f i) * m) → (a b : ℕ) → length (flatten (between f a b)) ≡ length (between f a b) * m
unfolding flatten
between_flat f m each a b =
    between_by f (λ j l. length (flatten l) ≡ length l * m) a (omega arith)
    (λ j l i. rw (flatten_append l (f (a + j)), length-append (flatten l) (flatten (f (a + j))), length-append l (f (a + j)), i, each (a + j)) (sym (add-mul (length l) (length (f (a + j))) m))) b
