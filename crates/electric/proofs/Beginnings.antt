-- Floats at the beginning of a list, entry by entry, and what the list then is.
use Prim.Native.Nat.{ℕ, ◌+◌, ◌-◌, ◌≤◌, ◌<◌}
use mathlib.Core.List.{List, map, ◌++◌}
use Rattle.std.proofs.Common.{replicate}
use Rattle.std.proofs.lemmas.List.{length-replicate, get_or-replicate}
use Rattle.matrices.specs.Coupling.{float_of}
use mathlib.Core.Bool.{cond}
use mathlib.Core.Path.{◌≡◌, sym, ap, ◌∙◌}
use mathlib.Core.Logic.{◌≢◌}
use native.Mathlib.Omega.{arith}
use native.Mathlib.Decide.{ℕ_discrete, dec_lt}
use borrow.Author.Tests.{lt-ltb, le-ltb}
use lib.Dec.{ltb}
use lib.IntN.{ℤ, pos}
use lib.Ieee.{Float, binary64, nan, add}
use lib.ListN.{get_or, length, take, drop, set, length-set, length-map, length-append, length-drop, get_or-append}
use lib.Seq.{length-take-le, get_or-set_same, get_or-set_other, get_or-append-add, get_or-drop, ext_get_or}
use Rattle.mathematics.specs.Counting.{below}
use Rattle.mathematics.specs.Writing.{front}
use Rattle.mathematics.proofs.Below.{length_below, map_below_at}
use Rattle.matrices.proofs.Matrices.{one_higher}
use Rattle.electric.specs.Electric.{field_term, Begins}

-- the same entries, said in another way
pub begins_same : (f g : ℕ → Float) (m : ℕ) (old new : List Float) → ((e : ℕ) → e < m → f e ≡ g e) → Begins f m old new → Begins g m old new
begins_same f g m old new same b = record { long = b.long; entries = λ e h. b.entries e h ∙ same e h; beyond = b.beyond }

module _ (f : ℕ → Float) (m : ℕ) (old new : List Float) (b : Begins f m old new) (room : m ≤ length old) where
  -- one entry is written
  begins_set : (g : ℕ → Float) (k : ℕ) → k < m → (x : Float) → x ≡ g k → ((e : ℕ) → e < m → e ≢ k → f e ≡ g e) → Begins g m old (set new k x)
  begins_set g k h x is same =
      record {
        long = length-set new k x ∙ b.long;
        entries = λ e l. go e l (ℕ_discrete e k);
        beyond = λ e l. get_or-set_other new k e x nan (λ q. absurd (omega (arith, q))) ∙ b.beyond e l;
      }
    where
      go : (e : ℕ) → e < m → Dec (e ≡ k) → get_or (set new k x) e nan ≡ g e
      go e l (yes q) = rw q (get_or-set_same new k x nan (omega (arith, b.long)) ∙ is)
      go e l (no q) = get_or-set_other new k e x nan q ∙ b.entries e l ∙ same e l q

  -- the whole list
  pub begins_is : new ≡ front (map f (below m)) old
  begins_is = ext_get_or nan new (map f (below m) ++ drop m old) same_length (λ k h. each k (dec_lt k m)) ∙ ap (λ (k : ℕ). map f (below m) ++ drop k old) (sym long)
    where
      long : length (map f (below m)) ≡ m
      long = length-map (below m) f ∙ length_below m

      same_length : length new ≡ length (map f (below m) ++ drop m old)
      same_length = b.long ∙ sym (length-append (map f (below m)) (drop m old) ∙ rw (long, length-drop m old) (omega arith))

      each : (k : ℕ) → Dec (k < m) → get_or new k nan ≡ get_or (map f (below m) ++ drop m old) k nan
      each k (yes l) = b.entries k l ∙ sym (get_or-append (map f (below m)) (drop m old) nan k (rw long l) ∙ map_below_at f m k nan l)
      each k (no l) =
          let e : m + (k - m) ≡ k = omega arith in
          b.beyond k (omega arith)
          ∙ sym (ap (λ (i : ℕ). get_or (map f (below m) ++ drop m old) i nan) (sym e)
          ∙ (rw long at (get_or-append-add (map f (below m)) (drop m old) (k - m) nan)) ∙ get_or-drop m old (k - m) nan ∙ ap (λ (i : ℕ). get_or old i nan) e)

-- ---- g takes the place of f, entry by entry
-- g below k, and f from there on
unfoldable pub replaced : (ℕ → Float) → (ℕ → Float) → ℕ → ℕ → Float
replaced f g k e = cond (ltb e k) (g e) (f e)

module _ (f g : ℕ → Float) (m : ℕ) (old : List Float) where
  pub replaced_none : (new : List Float) → Begins f m old new → Begins (replaced f g 0) m old new
  unfolding replaced
  replaced_none new b = begins_same f (replaced f g 0) m old new (λ e h. rw (le-ltb e 0 (omega arith))) b

  module _ (k : ℕ) (new : List Float) (b : Begins (replaced f g k) m old new) where
    pub replaced_next : k < m → get_or new k nan ≡ f k
    unfolding replaced
    replaced_next h = b.entries k h ∙ rw (le-ltb k k (omega arith))

    pub replaced_more : k < m → m ≤ length old → (x : Float) → x ≡ g k → Begins (replaced f g (k + 1)) m old (set new k x)
    unfolding replaced
    replaced_more h room x is =
        begins_set (replaced f g k) m old new b room (replaced f g (k + 1)) k h x (rw (lt-ltb k (k + 1) (omega arith)) is) (λ e l q. rw (one_higher e k q))

    pub replaced_all : m ≤ k → Begins g m old new
    unfolding replaced
    replaced_all h = begins_same (replaced f g k) g m old new (λ e l. rw (lt-ltb e k (omega arith))) b

-- what the entries are after one state more
abbrev pub with_state : List ℤ → Float → (ℕ → Float) → ℕ → Float
with_state state square f e = add binary64 (f e) (field_term square (get_or state e (pos 0)))

-- m zeros were put before what stood after the first m
pub begins_zero : (m : ℕ) (old zeros : List Float) → m ≤ length old → zeros ≡ replicate (length (take m old)) (float_of 0) → Begins (λ e. float_of 0) m old (zeros ++ drop m old)
begins_zero m old zeros room is =
    rw (is, length-take-le m old room) (record {
      long = length-append (replicate m (float_of 0)) (drop m old) ∙ rw (length-replicate m (float_of 0), length-drop m old) (omega arith);
      entries = λ e h. get_or-append (replicate m (float_of 0)) (drop m old) nan e (rw (length-replicate m (float_of 0)) h) ∙ get_or-replicate m e (float_of 0) nan h;
      beyond = λ e h. after e h;
    })
  where
    after : (e : ℕ) → m ≤ e → get_or (replicate m (float_of 0) ++ drop m old) e nan ≡ get_or old e nan
    after e h =
        let q : m + (e - m) ≡ e = omega arith in
        ap (λ (i : ℕ). get_or (replicate m (float_of 0) ++ drop m old) i nan) (sym q)
        ∙ (rw (length-replicate m (float_of 0)) at (get_or-append-add (replicate m (float_of 0)) (drop m old) (e - m) nan)) ∙ get_or-drop m old (e - m) nan ∙ ap (λ (i : ℕ). get_or old i nan) q
