-- Numbers in a list with one entry more; what noting one key does to a numbering, case by case.
use Prim.Native.Nat.{ℕ, suc, ◌+◌, ◌<◌, ◌≤◌}
use mathlib.Core.List.{List, [], ◌∷◌, ◌++◌}
use mathlib.Core.Path.{◌≡◌, refl, sym, ap, ◌∙◌}
use mathlib.Core.Bool.{Bool, true, false, ◌||◌, cond, true≢false}
use mathlib.Core.Logic.{by_cases}
use native.Mathlib.Decide.{ℕ_discrete}
use native.Mathlib.Numerals.{add-one}
use native.Mathlib.Omega.{arith}
use lib.ListN.{get_or, set, take, length, length-set, length-append}
use lib.Seq.{get_or-set_same, get_or-set_other, take-suc-set}
use lib.Dec.{eqb}
use Rattle.mathematics.specs.Lists.{listed, position, noted}
use Rattle.mathematics.proofs.Tests.{or_false}
use Rattle.mathematics.proofs.Lists.{Equality, numbers_equal, listed_last, noted_new, noted_old, noted_length}
use Rattle.complex.specs.Numbering.{number, Numbered}

module _ {A : Type 0} (eq : A → A → Bool) where
  -- a number other than 0 says that the entry is listed
  pub number_old : (x : A) (l : List A) → (number eq x l ≡ 0 → ⊥) → listed eq x l ≡ true
  unfolding number
  number_old x l h = go (listed eq x l) h
    where
      go : (t : Bool) → (cond t (suc (position eq x l)) 0 ≡ 0 → ⊥) → t ≡ true
      go true h = refl
      go false h = absurd (h refl)

  pub number_new : (x : A) (l : List A) → number eq x l ≡ 0 → listed eq x l ≡ false
  unfolding number
  number_new x l h = go (listed eq x l) h
    where
      go : (t : Bool) → cond t (suc (position eq x l)) 0 ≡ 0 → t ≡ false
      go true h = absurd (omega arith)
      go false h = refl

  -- the place of an entry that is listed in a list with one entry more
  place_kept : (x : A) (l : List A) (y : A) → listed eq x l ≡ true → position eq x (l ++ (y ∷ [])) ≡ position eq x l
  unfolding position listed
  place_kept x [] y h = absurd (true≢false (sym h))
  place_kept x (z ∷ l) y h = go (eq x z) h (place_kept x l y)
    where
      go : (t : Bool) → (t || listed eq x l) ≡ true → (listed eq x l ≡ true → position eq x (l ++ (y ∷ [])) ≡ position eq x l) → cond t 0 (suc (position eq x (l ++ (y ∷ [])))) ≡ cond t 0 (suc (position eq x l))
      go true h rest = refl
      go false h rest = ap suc (rest h)

-- numbers in a list with a new entry more
module _ {A : Type 0} (eq : A → A → Bool) (is : Equality eq) where
  place_last : (x : A) (l : List A) → listed eq x l ≡ false → position eq x (l ++ (x ∷ [])) ≡ length l
  unfolding position listed
  place_last x [] h = rw (is.self x)
  place_last x (y ∷ l) h = go (eq x y) h (place_last x l)
    where
      go : (t : Bool) → (t || listed eq x l) ≡ false → (listed eq x l ≡ false → position eq x (l ++ (x ∷ [])) ≡ length l) → cond t 0 (suc (position eq x (l ++ (x ∷ [])))) ≡ suc (length l)
      go true h rest = absurd (true≢false h)
      go false h rest = ap suc (rest h)

  pub number_last : (x : A) (l : List A) → listed eq x l ≡ false → number eq x (l ++ (x ∷ [])) ≡ length l + 1
  unfolding number
  number_last x l h = rw (listed_last eq x l x, h, is.self x, place_last x l h) (sym (add-one (length l)))

  pub number_other : (x y : A) (l : List A) → (x ≡ y → ⊥) → number eq x (l ++ (y ∷ [])) ≡ number eq x l
  unfolding number
  number_other x y l h = rw (listed_last eq x l y, differ (eq x y) (is.equal x y), or_false (listed eq x l)) (go (listed eq x l) refl)
    where
      differ : (t : Bool) → (t ≡ true → x ≡ y) → t ≡ false
      differ true e = absurd (h (e refl))
      differ false e = refl

      go : (t : Bool) → listed eq x l ≡ t → cond t (suc (position eq x (l ++ (y ∷ [])))) 0 ≡ cond t (suc (position eq x l)) 0
      go true p = ap suc (place_kept eq x l y p)
      go false p = refl

module _ (limit : ℕ) (table keys : List ℕ) (count : ℕ) (key : ℕ) (below : key < 4096) (l : List ℕ) (n : Numbered limit table keys count l) where
  -- more keys than the limit are there already
  pub note_over : limit < count → Numbered limit table keys count (noted eqb l key)
  note_over over =
      let c = n.counted in
      let b = (noted_length eqb l key).0 in
      record {
        table_long = n.table_long;
        keys_long = n.keys_long;
        counted = omega arith;
        numbers = λ few. absurd (omega arith);
        kept = λ few. absurd (omega arith);
      }

  -- the key has a number
  pub note_old : count ≤ limit → (get_or table key 0 ≡ 0 → ⊥) → Numbered limit table keys count (noted eqb l key)
  note_old few old =
      let c = n.counted in
      let e : get_or table key 0 ≡ number eqb key l = n.numbers (omega arith) key below in
      rw (noted_old eqb l key (number_old eqb key l (λ (z : number eqb key l ≡ 0). old (e ∙ z)))) n

  -- the key is new
  fresh : count ≤ limit → get_or table key 0 ≡ 0 → noted eqb l key ≡ l ++ (key ∷ [])
  fresh few unset =
      let c = n.counted in
      noted_new eqb l key (number_new eqb key l (sym (n.numbers (omega arith) key below) ∙ unset))

  -- a new key past the limit
  pub note_past : limit ≡ count → get_or table key 0 ≡ 0 → Numbered limit table keys (count + 1) (noted eqb l key)
  note_past full unset =
      let c = n.counted in
      let a = length-append l (key ∷ []) in
      rw (fresh (omega arith) unset)
      (record {
        table_long = n.table_long;
        keys_long = n.keys_long;
        counted = omega arith;
        numbers = λ few. absurd (omega arith);
        kept = λ few. absurd (omega arith);
      })

  -- a new key within the limit
  pub note_new : count < limit → limit ≤ 256 → get_or table key 0 ≡ 0 → Numbered limit (set table key (count + 1)) (set keys count key) (count + 1) (noted eqb l key)
  note_new few room unset =
      let c = n.counted in
      let h : length l ≡ count = omega arith in
      let a = length-append l (key ∷ []) in
      let tl = n.table_long in
      let kl = n.keys_long in
      let free : listed eqb key l ≡ false = number_new eqb key l (sym (n.numbers (omega arith) key below) ∙ unset) in
      rw (fresh (omega arith) unset)
      (record {
        table_long = length-set table key (count + 1) ∙ n.table_long;
        keys_long = length-set keys count key ∙ n.keys_long;
        counted = omega arith;
        numbers =
            λ some k kl.
            by_cases (ℕ_discrete k key)
            (λ (p : k ≡ key).
            rw (p, get_or-set_same table key (count + 1) 0 (omega arith), number_last eqb numbers_equal key l free, h))
            (λ (p : k ≡ key → ⊥).
            rw (get_or-set_other table key k (count + 1) 0 p, number_other eqb numbers_equal k key l p) (n.numbers (omega arith) k kl));
        kept =
            λ some.
            rw (a, h, add-one count, take-suc-set keys count key (omega arith))
            (ap (λ (m : List ℕ). m ++ (key ∷ [])) (sym (ap (λ (j : ℕ). take j keys) h) ∙ n.kept (omega arith)));
      })
