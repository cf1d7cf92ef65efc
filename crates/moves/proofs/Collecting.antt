-- The entries of a row as the code collects them, move by move.
use Prim.Native.Nat.{ℕ, zero, suc, ◌+◌, ◌-◌, ◌<◌, ◌≤◌, min}
use mathlib.Core.List.{List, append-nil}
use mathlib.Core.Bool.{Bool, true, false, cond, false≢true}
use Rattle.std.proofs.Common.{Option, Some, None}
use Rattle.std.specs.Option.{is_some, IfSome}
use Rattle.std.proofs.lemmas.Option.{none-some, cond_some}
use mathlib.Core.Path.{◌≡◌, refl, sym, ap, ◌∙◌}
use native.Mathlib.Numerals.{add-one}
use native.Mathlib.Omega.{arith}
use native.Mathlib.Decide.{ℕ_discrete}
use borrow.Author.Tests.{ltb-true, ltb-false}
use lib.Dec.{ltb}
use lib.IntN.{ℤ}
use lib.Ieee.{Float, nan}
use lib.ListN.{get_or, length, set, take, length-set, get_or-eq_default}
use lib.Seq.{get_or-set_same, get_or-set_other}
use Rattle.rows.specs.Row.{kept}
use Rattle.rows.specs.RowLists.{EntryPushed}
use Rattle.rows.proofs.SortedRows.{pushed_few}
use Rattle.moves.specs.Numbers.{sought}
use Rattle.moves.specs.Moves.{Moves, change_in, goes, arrives, collected, pointed, Pointers}

-- an option that is given where a test holds, with one value
pub kept_or_none : (r : Option ℕ) (b : Bool) (x : ℕ) → is_some r ≡ b → {P : ℕ → Type 0} → IfSome r P → ((y : ℕ) → P y → y ≡ x) → r ≡ cond b (Some x) None
kept_or_none (Some y) true x e h f = ap Some (f y h)
kept_or_none (Some y) false x e h f = absurd (false≢true (sym e))
kept_or_none None true x e h f = absurd (false≢true e)
kept_or_none None false x e h f = refl

pub pointers_same : {n : ℕ} {p q : List ℕ} → p ≡ q → Pointers n q → Pointers n p
pointers_same e h = rw e h

pointer_set : (n : ℕ) (pointers : List ℕ) (k q : ℕ) → q ≤ n → Pointers n pointers → Pointers n (set pointers k q)
pointer_set n pointers k q h p =
    record {
      long = length-set pointers k q ∙ p.long;
      below = λ j. go j (ℕ_discrete j k);
    }
  where
    go : (j : ℕ) → Dec (j ≡ k) → get_or (set pointers k q) j 0 ≤ n
    go j (yes e) = at (ltb k (length pointers)) refl
      where
        at : (b : Bool) → ltb k (length pointers) ≡ b → get_or (set pointers k q) j 0 ≤ n
        at true t = rw (e, get_or-set_same pointers k q 0 (ltb-true k (length pointers) t)) h
        at false t = rw (get_or-eq_default (set pointers k q) 0 {n = j} (rw (e, length-set pointers k q) (ltb-false k (length pointers) t))) (omega arith)
    go j (no e) = rw (get_or-set_other pointers k j q 0 e) (p.below j)

module _ (v : Moves) (L : ℕ) (numbers : ℕ → ℕ) (n : ℕ) (s : List ℤ) (a : ℕ) (pointers : List ℕ) where
  -- the pointer of a move stays until its turn
  pointed_kept : (k q : ℕ) → k ≤ q → get_or (pointed v L numbers n s a pointers k) q 0 ≡ get_or pointers q 0
  unfolding pointed
  pointed_kept zero q h = refl
  pointed_kept (suc k) q h = go (pointed_kept k q (omega arith)) (goes v L s k)
    where
      go : get_or (pointed v L numbers n s a pointers k) q 0 ≡ get_or pointers q 0 → (b : Bool) → get_or (cond b (set (pointed v L numbers n s a pointers k) k (min (arrives v numbers n a pointers k + 1) n)) (pointed v L numbers n s a pointers k)) q 0 ≡ get_or pointers q 0
      go e true = get_or-set_other (pointed v L numbers n s a pointers k) k q _ 0 (λ f. omega arith) ∙ e
      go e false = e

  pointed_long : (k : ℕ) → length (pointed v L numbers n s a pointers k) ≡ length pointers
  unfolding pointed
  pointed_long zero = refl
  pointed_long (suc k) = go (pointed_long k) (goes v L s k)
    where
      go : length (pointed v L numbers n s a pointers k) ≡ length pointers → (b : Bool) → length (cond b (set (pointed v L numbers n s a pointers k) k (min (arrives v numbers n a pointers k + 1) n)) (pointed v L numbers n s a pointers k)) ≡ length pointers
      go e true = length-set (pointed v L numbers n s a pointers k) k _ ∙ e
      go e false = e

  -- after its turn it stands behind the place that was found
  pub pointed_at : (m k : ℕ) → k < m → k < length pointers → get_or (pointed v L numbers n s a pointers m) k 0 ≡ cond (goes v L s k) (min (arrives v numbers n a pointers k + 1) n) (get_or pointers k 0)
  unfolding pointed
  pointed_at zero k h long = absurd (omega arith)
  pointed_at (suc m) k h long = turn (ℕ_discrete k m) (pointed_at m k) (goes v L s m) refl
    where
      turn : Dec (k ≡ m) → (k < m → k < length pointers → get_or (pointed v L numbers n s a pointers m) k 0 ≡ cond (goes v L s k) (min (arrives v numbers n a pointers k + 1) n) (get_or pointers k 0)) → (b : Bool) → goes v L s m ≡ b
          → get_or (cond b (set (pointed v L numbers n s a pointers m) m (min (arrives v numbers n a pointers m + 1) n)) (pointed v L numbers n s a pointers m)) k 0 ≡ cond (goes v L s k) (min (arrives v numbers n a pointers k + 1) n) (get_or pointers k 0)
      turn (yes e) before true is = rw (e, is) (get_or-set_same (pointed v L numbers n s a pointers m) m _ 0 (omega (arith, e, long, pointed_long m)))
      turn (yes e) before false is = rw (e, is) (pointed_kept m m (omega arith))
      turn (no e) before true is = get_or-set_other (pointed v L numbers n s a pointers m) m k _ 0 e ∙ before (omega arith) long
      turn (no e) before false is = before (omega arith) long

  pub pointed_pointers : (k : ℕ) → Pointers n pointers → Pointers n (pointed v L numbers n s a pointers k)
  unfolding pointed
  pointed_pointers zero h = h
  pointed_pointers (suc k) h = go (pointed_pointers k h) (goes v L s k)
    where
      go : Pointers n (pointed v L numbers n s a pointers k) → (b : Bool) → Pointers n (cond b (set (pointed v L numbers n s a pointers k) k (min (arrives v numbers n a pointers k + 1) n)) (pointed v L numbers n s a pointers k))
      go p true = pointer_set n (pointed v L numbers n s a pointers k) k (min (arrives v numbers n a pointers k + 1) n) (omega arith) p
      go p false = p

  pub arrives_kept : (k : ℕ) (now : List ℕ) → now ≡ pointed v L numbers n s a pointers k
      → sought numbers (a + change_in (get_or v.keys k 0)) (get_or now k 0) (n - get_or now k 0) ≡ arrives v numbers n a pointers k
  unfolding arrives
  arrives_kept k now e = rw (e, pointed_kept k k (omega arith))

  -- the entries of the first k moves at the front of a list, and the pointers after them
  module _ (i : ℕ) (x : Float) where
    pub record Gathered (k m : ℕ) (now : List ℕ) (l : List (ℕ × Float)) : Type 0 where
      pub entries : take m l ≡ collected v L numbers n s a pointers i x k
      pub few : m ≤ k + 1
      pub moved : now ≡ pointed v L numbers n s a pointers k

    -- the diagonal alone
    pub gathered_first : {old new : List (ℕ × Float)} {r : ℕ} {b : Bool} → b ≡ kept x → EntryPushed old 0 (i, x) b r new → Gathered 0 r pointers new
    unfolding collected pointed
    gathered_first e pushed = record { entries = rw (← e) pushed.front; few = pushed_few pushed; moved = refl }

    -- then a move more
    module _ {k m : ℕ} {now : List ℕ} {old : List (ℕ × Float)} (so_far : Gathered k m now old) (target : Option ℕ)
        (is : target ≡ cond (goes v L s k) (Some (sought numbers (a + change_in (get_or v.keys k 0)) (get_or now k 0) (n - get_or now k 0))) None) where
      -- which does not stay
      pub gathered_none : target ≡ None → Gathered (k + 1) m now old
      unfolding collected pointed
      gathered_none none = go (goes v L s k) refl
        where
          go : (b : Bool) → goes v L s k ≡ b → Gathered (k + 1) m now old
          go true e = absurd (none-some _ (sym none ∙ rw e at is))
          go false e = record { entries = rw (add-one k, e) (so_far.entries ∙ sym (append-nil _)); few = omega (arith, so_far.few); moved = rw (add-one k, e) so_far.moved }

      -- or leads to a place
      pub gathered_some : (p : ℕ) → target ≡ Some p → (r : ℕ) (new : List (ℕ × Float)) → EntryPushed old m (p, get_or v.terms k nan) true r new → Gathered (k + 1) r (set now k (min (p + 1) n)) new
      unfolding collected pointed
      gathered_some p some r new pushed =
          let stays = cond_some (goes v L s k) _ p (sym is ∙ some) in
          let place : p ≡ arrives v numbers n a pointers k = sym stays.1 ∙ arrives_kept k now so_far.moved in
          record {
            entries = rw (add-one k, stays.0, ← place) (pushed.front ∙ rw so_far.entries refl);
            few = omega (arith, pushed_few pushed, so_far.few);
            moved = rw (add-one k, stays.0, ← place, ← so_far.moved) refl;
          }

-- ---- numbers that agree at the first n places
sought_agree : (f g : ℕ → ℕ) (wanted p k : ℕ) → ((q : ℕ) → p ≤ q → q < p + k → f q ≡ g q) → sought f wanted p k ≡ sought g wanted p k
unfolding sought
sought_agree f g wanted p zero same = refl
sought_agree f g wanted p (suc k) same =
    rw (same p (omega arith) (omega arith), sought_agree f g wanted (p + 1) k (λ q low high. same q (omega arith) (omega arith)))

module _ (v : Moves) (L : ℕ) (f g : ℕ → ℕ) (n : ℕ) (same : (q : ℕ) → q < n → f q ≡ g q) (s : List ℤ) (a : ℕ) (pointers : List ℕ) where
  arrives_agree : (k : ℕ) → arrives v f n a pointers k ≡ arrives v g n a pointers k
  unfolding arrives
  arrives_agree k = sought_agree f g (a + change_in (get_or v.keys k 0)) (get_or pointers k 0) (n - get_or pointers k 0) (λ q low high. same q (omega arith))

  pub collected_agree : (i : ℕ) (x : Float) (k : ℕ) → collected v L f n s a pointers i x k ≡ collected v L g n s a pointers i x k
  unfolding collected
  collected_agree i x zero = refl
  collected_agree i x (suc k) = rw (collected_agree i x k, arrives_agree k)

  pub pointed_agree : (k : ℕ) → pointed v L f n s a pointers k ≡ pointed v L g n s a pointers k
  unfolding pointed
  pointed_agree zero = refl
  pointed_agree (suc k) = rw (pointed_agree k, arrives_agree k)
