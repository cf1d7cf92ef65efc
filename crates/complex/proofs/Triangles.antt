-- The tests of a triangle, and its key.
use Prim.Native.Nat.{ℕ, suc, ◌+◌, ◌-◌, ◌*◌, ◌<◌, ◌≤◌}
use mathlib.Core.List.{List, [], ◌∷◌, map, head-eq_of_cons-eq, tail-eq_of_cons-eq}
use mathlib.Core.Path.{◌≡◌, refl, sym, ap, ◌∙◌}
use mathlib.Core.Bool.{Bool, true, false, not, ◌&&◌, cond, false≢true}
use native.Mathlib.Omega.{arith}
use borrow.Author.Tests.{ne_eqb, eqb-true, ltb-true, lt-ltb, le-ltb}
use lib.ListN.{get_or, length}
use lib.Dec.{eqb, ltb}
use Rattle.mathematics.specs.Lists.{same, listed, position, distinct, choose}
use Rattle.mathematics.specs.Tests.{every_entry}
use Rattle.mathematics.proofs.Tests.{and_true, and_parts}
use Rattle.mathematics.proofs.Lists.{numbers_equal, lists_equal, place_at, distinct_map}
use Rattle.complex.specs.Complex.{Simplex, start, end, entries}
use Rattle.complex.specs.Judge.{rising, sides_listed}
use Rattle.complex.specs.Numbering.{number, key, triangle_key, Keyed, EdgeTable}

-- a number other than 0 is that of a listed simplex
pub number_listed : (s : Simplex) (es : List Simplex) → not (eqb (number same s es) 0) ≡ listed same s es
unfolding number
number_listed s es = go (listed same s es)
  where
    go : (t : Bool) → not (eqb (cond t (suc (position same s es)) 0) 0) ≡ t
    go true = rw (ne_eqb (suc (position same s es)) 0 (λ (e : suc (position same s es) ≡ 0). omega arith))
    go false = refl

module _ (l : List ℕ) (t a b d : ℕ) (ea : a ≡ get_or l (3 * t) 0) (eb : b ≡ get_or l (3 * t + 1) 0) (ed : d ≡ get_or l (3 * t + 2) 0) where
  pub three : entries l (3 * t) 3 ≡ a ∷ b ∷ d ∷ []
  unfolding entries
  three = let e : 3 * t + 1 + 1 ≡ 3 * t + 2 = omega arith in rw (e, ea, eb, ed)

  module _ (n : ℕ) (es : List Simplex) where
    pub first_falls : b ≤ a → false ≡ (rising n (entries l (3 * t) 3) && sides_listed es (entries l (3 * t) 3))
    unfolding rising
    first_falls h = rw (three, le-ltb a b h)

    pub second_falls : a < b → d ≤ b → false ≡ (rising n (entries l (3 * t) 3) && sides_listed es (entries l (3 * t) 3))
    unfolding rising
    second_falls g h = rw (three, lt-ltb a b g, le-ltb b d h)

    pub third_past : a < b → b < d → n ≤ d → false ≡ (rising n (entries l (3 * t) 3) && sides_listed es (entries l (3 * t) 3))
    unfolding rising
    third_past g h k = rw (three, lt-ltb a b g, lt-ltb b d h, le-ltb d n k)

    pub sides_found : a < b → b < d → d < n → n ≤ 64 → (table : List ℕ) → EdgeTable table es → (not (eqb (get_or table (64 * a + b) 0) 0) && (not (eqb (get_or table (64 * a + d) 0) 0) && not (eqb (get_or table (64 * b + d) 0) 0))) ≡ (rising n (entries l (3 * t) 3) && sides_listed es (entries l (3 * t) 3))
    unfolding rising sides_listed every_entry choose
    sides_found g h k few table i =
        rw
        (three, lt-ltb a b g, lt-ltb b d h, lt-ltb d n k, i.numbers a b (omega arith) (omega arith), i.numbers a d (omega arith) (omega arith), i.numbers b d (omega arith) (omega arith), number_listed, number_listed, number_listed)
        (ap (λ (x : Bool). listed same (a ∷ b ∷ []) es && (listed same (a ∷ d ∷ []) es && x)) (sym (and_true (listed same (b ∷ d ∷ []) es))))

  -- the key of the triangle, and that it is small
  module _ (table : List ℕ) (k : Keyed table (entries l (3 * t) 3)) where
    keyed : Keyed table (a ∷ b ∷ d ∷ [])
    keyed = rw three at k

    pub known_first : (a < 64) × (b < 64) × (d < 64)
    known_first = (keyed.first, keyed.second, keyed.third)

    pub known_number : (1 ≤ get_or table (64 * a + b) 0) × (get_or table (64 * a + b) 0 ≤ 64)
    unfolding key
    known_number = (keyed.known, keyed.few)

    pub key_is : 64 * (get_or table (64 * a + b) 0 - 1) + d ≡ triangle_key table (entries l (3 * t) 3)
    unfolding key triangle_key
    key_is = rw three

-- the number of a listed simplex is one more than its place
pub number_place : (s : Simplex) (es : List Simplex) → listed same s es ≡ true → (1 ≤ number same s es) × (number same s es ≤ length es) × (get_or es (number same s es - 1) [] ≡ s)
unfolding number
number_place s es h =
    let p = place_at same lists_equal [] s es h in
    let e : suc (position same s es) - 1 ≡ position same s es = omega arith in
    rw h (omega arith, p.0, rw e p.1)

-- a triangle of three rising vertices below n whose edges are listed
unfoldable pub fitting : ℕ → List Simplex → Simplex → Bool
fitting n es s = eqb (length s) 3 && (rising n s && sides_listed es s)

pub record Fitting (n : ℕ) (es : List Simplex) (s : Simplex) : Type 0 where
  pub is : s ≡ start s ∷ end s ∷ get_or s 2 0 ∷ []
  pub first : start s < end s
  pub second : end s < get_or s 2 0
  pub third : get_or s 2 0 < n
  pub first_side : listed same (start s ∷ end s ∷ []) es ≡ true
  pub second_side : listed same (start s ∷ get_or s 2 0 ∷ []) es ≡ true
  pub third_side : listed same (end s ∷ get_or s 2 0 ∷ []) es ≡ true

pub fits : (n : ℕ) (es : List Simplex) (s : Simplex) → fitting n es s ≡ true → Fitting n es s
unfolding fitting rising sides_listed every_entry choose
fits n es [] h = absurd (false≢true h)
fits n es (a ∷ []) h = absurd (false≢true h)
fits n es (a ∷ b ∷ []) h = absurd (false≢true h)
fits n es (a ∷ b ∷ d ∷ []) h =
    let p = and_parts (ltb a b && (ltb b d && ltb d n)) (listed same (a ∷ b ∷ []) es && (listed same (a ∷ d ∷ []) es && (listed same (b ∷ d ∷ []) es && true))) h in
    let q = and_parts (ltb a b) (ltb b d && ltb d n) p.0 in
    let r = and_parts (ltb b d) (ltb d n) q.1 in
    let u = and_parts (listed same (a ∷ b ∷ []) es) (listed same (a ∷ d ∷ []) es && (listed same (b ∷ d ∷ []) es && true)) p.1 in
    let v = and_parts (listed same (a ∷ d ∷ []) es) (listed same (b ∷ d ∷ []) es && true) u.1 in
    record {
      is = refl;
      first = ltb-true a b q.0;
      second = ltb-true b d r.0;
      third = ltb-true d n r.1;
      first_side = u.0;
      second_side = v.0;
      third_side = (and_parts (listed same (b ∷ d ∷ []) es) true v.1).0;
    }
fits n es (a ∷ b ∷ d ∷ f ∷ s) h =
    let p = and_parts (eqb (length (a ∷ b ∷ d ∷ f ∷ s)) 3) (rising n (a ∷ b ∷ d ∷ f ∷ s) && sides_listed es (a ∷ b ∷ d ∷ f ∷ s)) h in
    let e = eqb-true (length (a ∷ b ∷ d ∷ f ∷ s)) 3 p.0 in
    absurd (omega arith)

module _ (n : ℕ) (es : List Simplex) (few : n ≤ 64) (short : length es ≤ 63) (table : List ℕ) (i : EdgeTable table es) where
  pub fitting_keyed : (s : Simplex) → fitting n es s ≡ true → Keyed table s
  unfolding key
  fitting_keyed s h =
      let f = fits n es s h in
      let a = f.first in
      let b = f.second in
      let d = f.third in
      let e : get_or table (64 * start s + end s) 0 ≡ number same (start s ∷ end s ∷ []) es = i.numbers (start s) (end s) (omega arith) (omega arith) in
      let p = number_place (start s ∷ end s ∷ []) es f.first_side in
      let low = p.0 in
      let high = p.1 in
      record { first = omega arith; second = omega arith; third = omega arith; known = omega arith; few = omega arith }

  -- different triangles have different keys
  pub triangle_apart : (x y : Simplex) → fitting n es x ≡ true → fitting n es y ≡ true → triangle_key table x ≡ triangle_key table y → x ≡ y
  unfolding key triangle_key
  triangle_apart x y g h k =
      let f = fits n es x g in
      let f' = fits n es y h in
      let a = f.first in
      let b = f.second in
      let d = f.third in
      let a' = f'.first in
      let b' = f'.second in
      let d' = f'.third in
      let side = start x ∷ end x ∷ [] in
      let side' = start y ∷ end y ∷ [] in
      let e : get_or table (64 * start x + end x) 0 ≡ number same side es = i.numbers (start x) (end x) (omega arith) (omega arith) in
      let e' : get_or table (64 * start y + end y) 0 ≡ number same side' es = i.numbers (start y) (end y) (omega arith) (omega arith) in
      let p = number_place side es f.first_side in
      let p' = number_place side' es f'.first_side in
      let low = p.0 in
      let low' = p'.0 in
      let last : get_or x 2 0 ≡ get_or y 2 0 = omega arith in
      let number : number same side es - 1 ≡ number same side' es - 1 = omega arith in
      let sides : side ≡ side' = sym p.2 ∙ ap (λ (j : ℕ). get_or es j []) number ∙ p'.2 in
      let whole : start x ∷ end x ∷ get_or x 2 0 ∷ [] ≡ start y ∷ end y ∷ get_or y 2 0 ∷ [] =
      rw (head-eq_of_cons-eq sides, head-eq_of_cons-eq (tail-eq_of_cons-eq sides), last) in
      f.is ∙ whole ∙ sym f'.is

  -- no key comes twice exactly when no triangle does
  pub triangles_differ : (ts : List Simplex) → every_entry (fitting n es) ts ≡ true → distinct eqb (map (triangle_key table) ts) ≡ distinct same ts
  triangles_differ ts h = distinct_map same lists_equal eqb numbers_equal (fitting n es) (triangle_key table) triangle_apart ts h
