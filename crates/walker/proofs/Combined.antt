-- Every candidate is a sum of cycles, so its values are small.
use Prim.Native.Nat.{ℕ, zero, suc, ◌+◌, ◌*◌, ◌≤◌, ◌<◌}
use mathlib.Core.List.{List}
use mathlib.Core.Path.{◌≡◌, refl, sym, ◌∙◌}
use native.Mathlib.Omega.{arith}
use native.Mathlib.Decide.{ℕ_discrete}
use lib.IntN.{ℤ, pos, ◌+ℤ◌, neg_ℤ, nat_abs, +ℤ_idl}
use lib.ListN.{get_or, length, replicate, length-replicate, get_or-replicate}
use lib.Seq.{get_or-set_same, get_or-set_other}
use Rattle.complex.specs.Complex.{Complex}
use Rattle.gauss_law.specs.Listing.{tree_edges, free_edges}
use Rattle.cycles.specs.Cycles.{Tables}
use Rattle.walker.specs.Walker.{sum_of_cycles, lowest_candidate}
use Rattle.walker.specs.Steps.{Small}
use Rattle.gauss_law.proofs.Tree.{Solvable}
use Rattle.walker.proofs.Counter.{moved, value}
use Rattle.walker.proofs.Candidates.{Chosen, chosen_once, added_chosen, moved_length}
use Rattle.walker.proofs.Stepping.{added_small}

pub chosen_same : (c : Complex) (q : ℕ → ℤ) (xs ys s : List ℤ) → ((j : ℕ) → j < length (free_edges c) → get_or xs j (pos 0) ≡ get_or ys j (pos 0)) → Chosen c q xs s → Chosen c q ys s
chosen_same c q xs ys s same h = record { sized = h.sized; free = λ j k. h.free j k ∙ same j k; law = h.law }

module _ (c : Complex) (q : ℕ → ℤ) (free : List ℕ) (cycle : ℕ → List ℤ) (tables : Tables c free cycle) (p : List ℤ) (start : Chosen c q (replicate (length (free_edges c)) (pos 0)) p) where
  module _ (x : ℕ → ℤ) where
    -- the free values of the first n cycles
    digits_to : ℕ → List ℤ
    digits_to zero = replicate (length (free_edges c)) (pos 0)
    digits_to (suc n) = moved (digits_to n) (x n) n

    digits_long : (n : ℕ) → length (digits_to n) ≡ length (free_edges c)
    unfolding digits_to
    digits_long zero = length-replicate (length (free_edges c)) (pos 0)
    digits_long (suc n) = moved_length c q (digits_to n) (x n) n ∙ digits_long n

    digits_later : (n i : ℕ) → n ≤ i → i < length (free_edges c) → get_or (digits_to n) i (pos 0) ≡ pos 0
    unfolding digits_to moved
    digits_later zero i h k = get_or-replicate (length (free_edges c)) i (pos 0) (pos 0) k
    digits_later (suc n) i h k = get_or-set_other (digits_to n) n i _ (pos 0) (λ e. absurd (omega arith)) ∙ digits_later n i (omega arith) k

    digits_done : (n i : ℕ) → i < n → n ≤ length (free_edges c) → get_or (digits_to n) i (pos 0) ≡ x i
    unfolding digits_to moved
    digits_done zero i h k = absurd (omega arith)
    digits_done (suc n) i h k = go (ℕ_discrete i n) (λ l. digits_done n i l (omega arith))
      where
        go : Dec (i ≡ n) → (i < n → get_or (digits_to n) i (pos 0) ≡ x i) → get_or (moved (digits_to n) (x n) n) i (pos 0) ≡ x i
        go (yes e) ih =
            rw (e, get_or-set_same (digits_to n) n (get_or (digits_to n) n (pos 0) +ℤ x n) (pos 0) (omega (arith, digits_long n)), digits_later n n (omega arith) k) (+ℤ_idl (x n))
        go (no m) ih = get_or-set_other (digits_to n) n i _ (pos 0) m ∙ ih (omega arith)

    combined_to : (n : ℕ) → n ≤ length (free_edges c) → Chosen c q (digits_to n) (sum_of_cycles cycle x p n)
    unfolding digits_to sum_of_cycles
    combined_to zero h = start
    combined_to (suc n) h = added_chosen c q n h (cycle n) (tables.cycles n h) (x n) (digits_to n) (sum_of_cycles cycle x p n) (digits_long n) (combined_to n (omega arith))

    pub combined_chosen : (xs : List ℤ) → ((j : ℕ) → j < length (free_edges c) → x j ≡ get_or xs j (pos 0)) → Chosen c q xs (sum_of_cycles cycle x p (length (free_edges c)))
    combined_chosen xs same =
        chosen_same c q (digits_to (length (free_edges c))) xs _ (λ j h. digits_done (length (free_edges c)) j h (omega arith) ∙ same j h) (combined_to (length (free_edges c)) (omega arith))

    combined_small : (B L : ℕ) → Small B p → ((j : ℕ) → nat_abs (x j) ≤ L) → (n : ℕ) → n ≤ length (free_edges c) → Small (B + n * L) (sum_of_cycles cycle x p n)
    unfolding sum_of_cycles
    combined_small B L b h zero k e = omega (arith, b e)
    combined_small B L b h (suc n) k e =
        let is = tables.cycles n k in
        let before = combined_to n (omega arith) in
        omega (arith, added_small (sum_of_cycles cycle x p n) (x n) (cycle n) (B + n * L) L (is.sized ∙ sym before.sized) (combined_small B L b h n (omega arith)) (h n) is.signs e)

  pub chosen_small : Solvable c.edges c.vertices (tree_edges c) → (B L : ℕ) → Small B p → (xs s : List ℤ) → Small L xs → Chosen c q xs s → Small (B + length (free_edges c) * L) s
  chosen_small tree B L b xs s h k =
      rw (chosen_once c q tree xs s _ k (combined_chosen (λ j. get_or xs j (pos 0)) xs (λ j i. refl)))
      (combined_small (λ j. get_or xs j (pos 0)) B L b h (length (free_edges c)) (omega arith))

  -- the candidate with -L on every free edge
  pub lowest_chosen : (L : ℕ) → Chosen c q (replicate (length (free_edges c)) (value L zero)) (lowest_candidate cycle L p (length (free_edges c)))
  unfolding lowest_candidate
  lowest_chosen L =
      combined_chosen (λ j. neg_ℤ (pos L)) (replicate (length (free_edges c)) (value L zero))
      (λ j h. sym (get_or-replicate (length (free_edges c)) j (value L zero) (pos 0) h ∙ +ℤ_idl (neg_ℤ (pos L))))
