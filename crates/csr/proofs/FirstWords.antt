-- Words that are written one after the other.
use Prim.Native.Nat.{ℕ, zero, suc, ◌+◌, ◌-◌, ◌<◌, ◌≤◌}
use mathlib.Core.List.{List, ◌++◌}
use mathlib.Core.Path.{◌≡◌, refl, ap, ◌∙◌}
use native.Mathlib.Numerals.{add-one}
use native.Mathlib.Omega.{arith}
use native.Mathlib.Decide.{ℕ_discrete}
use lib.ListN.{get_or, length, set, take, drop, length-set, length-append, length-drop}
use Rattle.std.proofs.lemmas.List.{get_or_append_left, get_or-append_right}
use lib.Seq.{get_or-drop, length-take-le, get_or-set_same, get_or-set_other}
use Rattle.csr.specs.Words.{begins, FirstWords}

module _ (f : ℕ → ℕ) (words : List ℕ) where
  pub none_first : FirstWords f 0 words words
  none_first = record { are = λ i h. absurd (omega arith); rest = λ i h. refl; long = refl }

  pub first_next : (i : ℕ) (now : List ℕ) (x : ℕ) → FirstWords f i words now → i < length words → x ≡ f i → FirstWords f (i + 1) words (set now i x)
  first_next i now x so_far inside is =
      record {
        are = λ k h. are' k h (ℕ_discrete k i);
        rest = λ k h. get_or-set_other now i k x 0 (λ e. omega arith) ∙ so_far.rest k (omega arith);
        long = length-set now i x ∙ so_far.long;
      }
    where
      are' : (k : ℕ) → k < i + 1 → Dec (k ≡ i) → get_or (set now i x) k 0 ≡ f k
      are' k h (yes e) = rw (e, get_or-set_same now i x 0 (omega (arith, so_far.long))) is
      are' k h (no e) = get_or-set_other now i k x 0 e ∙ so_far.are k (omega arith)

-- words that are written over the first n of a list
pub first_part : (f : ℕ → ℕ) (words : List ℕ) (n : ℕ) (items : List ℕ) → n ≤ length words → FirstWords f n (take n words) items → FirstWords f n words (items ++ drop n words)
first_part f words n items room part =
    record {
      are = λ i h. get_or_append_left items (drop n words) 0 i (omega (arith, long)) ∙ part.are i h;
      rest = λ i h. let there : n + (i - n) ≡ i = omega arith in get_or-append_right items (drop n words) n i 0 long h ∙ get_or-drop n words (i - n) 0 ∙ ap (λ k. get_or words k 0) there;
      long = length-append items (drop n words) ∙ omega (arith, long, length-drop n words);
    }
  where
    long : length items ≡ n
    long = part.long ∙ length-take-le n words room

module _ (lengths : ℕ → ℕ) where
  pub begins_next : (i : ℕ) → begins lengths (i + 1) ≡ begins lengths i + lengths i
  unfolding begins
  begins_next i = rw (add-one i)

  begins_by : (d i : ℕ) → begins lengths i ≤ begins lengths (i + d)
  begins_by zero i = let e : i + 0 ≡ i = omega arith in rw e (omega arith)
  begins_by (suc d) i =
      let e : i + suc d ≡ i + d + 1 = omega arith in
      rw (e, begins_next (i + d)) (omega (arith, begins_by d i))

  pub begins_rise : (i n : ℕ) → i ≤ n → begins lengths i ≤ begins lengths n
  begins_rise i n h =
      let e : i + (n - i) ≡ n = omega arith in
      rw e at (begins_by (n - i) i)
