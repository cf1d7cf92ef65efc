-- Simplices one by one, and edges as keys.
use Prim.Native.Nat.{ℕ, ◌+◌, ◌*◌, ◌<◌}
use mathlib.Core.List.{List, [], ◌∷◌, ◌++◌, map, map-append}
use mathlib.Core.Path.{◌≡◌, refl, sym, ◌∙◌}
use mathlib.Core.Bool.{Bool, true, ◌&&◌}
use native.Mathlib.Numerals.{add-one}
use native.Mathlib.Omega.{arith}
use borrow.Author.Tests.{eqb-true, ltb-true, lt-ltb}
use lib.ListN.{length, replicate, get_or-replicate}
use lib.Dec.{eqb, ltb}
use Rattle.mathematics.specs.Lists.{same, listed}
use Rattle.mathematics.specs.Tests.{every_entry}
use Rattle.mathematics.proofs.Tests.{and_parts, all_last}
use Rattle.mathematics.proofs.Lists.{numbers_equal, lists_equal, listed_map, place_map}
use Rattle.complex.specs.Complex.{Simplex, start, end, entries, simplices}
use Rattle.complex.specs.Numbering.{number, Numbered, key}

-- one simplex more
pub simplices_next : (k : ℕ) (l : List ℕ) (n : ℕ) → simplices k l (n + 1) ≡ simplices k l n ++ (entries l (k * n) k ∷ [])
unfolding simplices
simplices_next k l n = rw (add-one n)

pub all_next : (p : Simplex → Bool) (k : ℕ) (l : List ℕ) (n : ℕ) → every_entry p (simplices k l (n + 1)) ≡ (every_entry p (simplices k l n) && p (entries l (k * n) k))
all_next p k l n = rw (simplices_next k l n) (all_last p (simplices k l n) (entries l (k * n) k))

pub keys_next : (f : Simplex → ℕ) (k : ℕ) (l : List ℕ) (n : ℕ) → map f (simplices k l (n + 1)) ≡ map f (simplices k l n) ++ (f (entries l (k * n) k) ∷ [])
keys_next f k l n = rw (simplices_next k l n) (map-append f (simplices k l n) (entries l (k * n) k ∷ []))

-- before any key is noted
pub none_numbered : (limit : ℕ) → Numbered limit (replicate 4096 0) (replicate 256 0) 0 []
unfolding number listed
none_numbered limit =
    record {
      table_long = refl;
      keys_long = refl;
      counted = omega arith;
      numbers = λ few k below. get_or-replicate 4096 k 0 0 below;
      kept = λ few. refl;
    }

-- two vertices below 64
pub two : (s : Simplex) → length s ≡ 2 → s ≡ start s ∷ end s ∷ []
two [] h = absurd (omega arith)
two (a ∷ []) h = absurd (omega arith)
two (a ∷ b ∷ []) h = refl
two (a ∷ b ∷ c ∷ s) h = absurd (omega arith)

unfoldable pub small_pair : Simplex → Bool
small_pair s = eqb (length s) 2 && (ltb (start s) 64 && ltb (end s) 64)

pub key_apart : (x y : Simplex) → small_pair x ≡ true → small_pair y ≡ true → key x ≡ key y → x ≡ y
unfolding small_pair key
key_apart x y p q e =
    let a = and_parts (eqb (length x) 2) (ltb (start x) 64 && ltb (end x) 64) p in
    let b = and_parts (eqb (length y) 2) (ltb (start y) 64 && ltb (end y) 64) q in
    let i = ltb-true (end x) 64 (and_parts (ltb (start x) 64) (ltb (end x) 64) a.1).1 in
    let j = ltb-true (end y) 64 (and_parts (ltb (start y) 64) (ltb (end y) 64) b.1).1 in
    let s : start x ≡ start y = omega arith in
    let t : end x ≡ end y = omega arith in
    let m : start x ∷ end x ∷ [] ≡ start y ∷ end y ∷ [] = rw (s, t) in
    two x (eqb-true (length x) 2 a.0) ∙ m ∙ sym (two y (eqb-true (length y) 2 b.0))

-- numbers by key are numbers by edge
pub number_key : (es : List Simplex) → every_entry small_pair es ≡ true → (a b : ℕ) → a < 64 → b < 64 → number eqb (64 * a + b) (map key es) ≡ number same (a ∷ b ∷ []) es
unfolding number small_pair key
number_key es h a b al bl =
    let p : small_pair (a ∷ b ∷ []) ≡ true = rw (lt-ltb a 64 al, lt-ltb b 64 bl) in
    rw (listed_map same lists_equal eqb numbers_equal small_pair key key_apart (a ∷ b ∷ []) es p h, place_map same lists_equal eqb numbers_equal small_pair key key_apart (a ∷ b ∷ []) es p h)
