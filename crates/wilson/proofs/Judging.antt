-- What is judged of a path.
use Prim.Native.Nat.{ℕ, ◌+◌, ◌<◌, ◌≤◌, min}
use mathlib.Core.List.{List, [], ◌∷◌, ◌++◌}
use mathlib.Core.Bool.{Bool, true, false, ◌&&◌, ◌||◌, not}
use mathlib.Core.Path.{◌≡◌, refl, ap, ◌∙◌}
use native.Mathlib.Omega.{arith}
use borrow.Author.Tests.{ltb-true}
use lib.Dec.{eqb, ltb}
use lib.IntN.{ℤ, pos, negsuc, nat_abs}
use lib.ListN.{get_or, length, take, length-append}
use lib.Seq.{take_all}
use Rattle.mathematics.specs.Integers.{equal}
use Rattle.mathematics.specs.Tests.{every_entry}
use Rattle.mathematics.proofs.Front.{take_next}
use Rattle.mathematics.proofs.Integers.{equal_true}
use Rattle.mathematics.proofs.Tests.{all_at, all_last, and_parts}
use Rattle.wilson.specs.Wilson.{path_of, step_right}
use Rattle.wilson.specs.Walking.{PathFits}
use Rattle.wilson.proofs.Walks.{path_long, path_at}

-- ---- one step more is judged
pub path_more : (m : ℕ) (es : List ℕ) (ds : List ℤ) → length ds ≡ length es → (k : ℕ) → k < length es
    → every_entry (step_right m) (take (k + 1) (path_of es ds)) ≡ (every_entry (step_right m) (take k (path_of es ds)) && step_right m (get_or es k 0, get_or ds k (pos 0)))
path_more m es ds many k h =
    ap (every_entry (step_right m)) (take_next (path_of es ds) k (0, pos 0) (rw (path_long es ds many) h))
    ∙ all_last (step_right m) (take k (path_of es ds)) (get_or (path_of es ds) k (0, pos 0))
    ∙ ap (λ t. every_entry (step_right m) (take k (path_of es ds)) && step_right m t) (path_at es ds many k h)

-- ---- a path whose steps are right fits
direction_small : (d : ℤ) → (equal d (pos 1) || equal d (negsuc 0)) ≡ true → nat_abs d ≤ 1
direction_small d h = go (equal d (pos 1)) refl h
  where
    go : (b : Bool) → equal d (pos 1) ≡ b → (b || equal d (negsuc 0)) ≡ true → nat_abs d ≤ 1
    go true e q = rw (equal_true d (pos 1) e) (omega arith)
    go false e q = rw (equal_true d (negsuc 0) q) (omega arith)

pub path_fits : (m : ℕ) (es : List ℕ) (ds : List ℤ) → length ds ≡ length es → every_entry (step_right m) (path_of es ds) ≡ true → PathFits m es ds
unfolding step_right
path_fits m es ds many right =
    record {
      as_many = many;
      edges_below = λ k h. ltb-true _ _ (parts k h).0;
      small = λ k h. direction_small (get_or ds k (pos 0)) (parts k h).1;
    }
  where
    parts : (k : ℕ) → k < length es → (ltb (get_or es k 0) m ≡ true) × ((equal (get_or ds k (pos 0)) (pos 1) || equal (get_or ds k (pos 0)) (negsuc 0)) ≡ true)
    parts k h = and_parts _ _ (rw (path_at es ds many k h) at (all_at (step_right m) (0, pos 0) (path_of es ds) right k (rw (path_long es ds many) h)))

-- ---- one step more of a path, as it is read
pub step_more : {P : Type 0} (m : ℕ) (es : List ℕ) (ds : List ℤ) → length ds ≡ length es → (xs : List P) (p : P) (so_far r : Bool) (e : ℕ) (d : ℤ)
    → so_far ≡ every_entry (step_right m) (take (length xs) (path_of es ds)) → length xs < length es → e ≡ get_or es (length xs) 0 → d ≡ get_or ds (length xs) (pos 0)
    → r ≡ step_right m (e, d) → (so_far && r) ≡ every_entry (step_right m) (take (length (xs ++ (p ∷ []))) (path_of es ds))
step_more m es ds many xs p so_far r e d before inside is is' told =
    let more : length (xs ++ (p ∷ [])) ≡ length xs + 1 = omega (arith, length-append xs (p ∷ [])) in
    rw (more, path_more m es ds many (length xs) inside, ← before, told, is, is')

pub all_steps : (m : ℕ) (es : List ℕ) (ds : List ℤ) → length ds ≡ length es → (n : ℕ) → n ≡ min (length es) (length ds) → (so_far : Bool) → so_far ≡ every_entry (step_right m) (take n (path_of es ds)) → so_far ≡ every_entry (step_right m) (path_of es ds)
all_steps m es ds many n end so_far h =
    let all : length (path_of es ds) ≤ n = omega (arith, path_long es ds many) in
    h ∙ ap (every_entry (step_right m)) (take_all n (path_of es ds) all)

-- ---- the lengths are judged by the number of states that was counted
pub lengths_told : (n n' a : ℕ) (b r : Bool) → n' ≡ n → (not (eqb a n') || b) ≡ r → (not (eqb a n) || b) ≡ r
lengths_told n n' a b r same h = rw same at h
