-- Steps that are written to a list from both ends.
use Prim.Native.Nat.{ℕ, suc, ◌+◌, ◌<◌, ◌≤◌}
use mathlib.Core.List.{List, [], ◌∷◌, ◌++◌, map, map-append, append_assoc}
use mathlib.Core.Path.{◌≡◌, refl, sym, ap, ◌∙◌}
use native.Mathlib.Omega.{arith}
use lib.ListN.{length, length-append, length-map, set, length-set, take, drop}
use lib.Seq.{take-set-le, drop-set-lt, drop-cons, get_or-set_same, append_snoc}
use Rattle.mathematics.specs.Writing.{put}
use Rattle.mathematics.proofs.Puts.{put_none, put_more, put_one}
use Rattle.loops.specs.Walks.{Step}

-- a list written at its end first
put_last : {A : Type 0} (d : List A) (at : ℕ) (s : List A) (x : A) → at + length s < length d → put (set d (at + length s) x) at s ≡ put d at (s ++ (x ∷ []))
unfolding put
put_last d at s x room =
    let k = at + length s in
    let e : at + length (s ++ (x ∷ [])) ≡ suc k = rw (length-append s (x ∷ [])) (omega arith) in
    let inside : k < length (set d k x) = omega (arith, length-set d k x) in
    rw (take-set-le at d k x (omega arith), drop-cons (set d k x) k x inside, get_or-set_same d k x x room, drop-set-lt (suc k) d k x (omega arith), e)
    (sym (append_snoc (take at d ++ s) x (drop (suc k) d)) ∙ ap (λ l. l ++ drop (suc k) d) (append_assoc (take at d) s (x ∷ [])))

-- f of the steps l is on its way into a list, from a place on: all is there but f of the steps m, which belong from front on
pub record Filling {A : Type 0} (f : Step → A) (l : List Step) (at : ℕ) (first : List A) (m : List Step) (front : ℕ) (out : List A) : Type 0 where
  pub long : length out ≡ length first
  pub room : front + length m ≤ length out
  pub same : put out front (map f m) ≡ put first at (map f l)

module _ {A : Type 0} {f : Step → A} {l : List Step} {at : ℕ} {first : List A} where
  pub none_filled : at + length l ≤ length first → Filling f l at first l at first
  none_filled room = record { long = refl; room = room; same = refl }

  -- x is f of the first or of the last of them
  module _ {m : List Step} {front : ℕ} {out : List A} {s : Step} {x : A} where
    pub front_filled : Filling f l at first (s ∷ m) front out → x ≡ f s → Filling f l at first m (front + 1) (set out front x)
    front_filled h own =
        let long = h.long in
        let room : suc (front + length m) ≤ length out = omega (arith, h.room) in
        record {
          long = length-set out front x ∙ long;
          room = rw (length-set out front x) (omega arith);
          same = rw own (ap (λ o. put o (front + 1) (map f m)) (put_one out front (f s) (omega arith)) ∙ put_more out front (f s ∷ []) (map f m) (omega arith) ∙ h.same);
        }

    pub back_filled : Filling f l at first (m ++ (s ∷ [])) front out → x ≡ f s → {k : ℕ} → k ≡ front + length m → Filling f l at first m front (set out k x)
    back_filled h own {k} is =
        let long = h.long in
        let room : front + length m < length out = omega (arith, h.room, length-append m (s ∷ [])) in
        let last : k ≡ front + length (map f m) = rw (length-map m f) is in
        record {
          long = length-set out k x ∙ long;
          room = rw (length-set out k x) (omega arith);
          same = rw (own, last) (put_last out front (map f m) (f s) (rw (length-map m f) room)) ∙ ap (put out front) (sym (map-append f m (s ∷ []))) ∙ h.same;
        }

  pub all_filled : {front : ℕ} {out : List A} → Filling f l at first [] front out → out ≡ put first at (map f l)
  all_filled {front} {out} h = sym (put_none out front) ∙ h.same
