-- The cases of a list, counted one after the other.
use Prim.Native.Nat.{ℕ, zero, suc, ◌+◌, ◌-◌, ◌<◌, ◌≤◌}
use Rattle.std.specs.Prelude.{Ok, Err}
use mathlib.Core.List.{List, [], ◌∷◌}
use mathlib.Core.Path.{◌≡◌, refl, sym, ◌∙◌}
use mathlib.Core.Bool.{Bool, true, false, not, cond}
use native.Mathlib.Omega.{arith}
use borrow.Author.Tests.{not-true, not-false}
use lib.ListN.{length}
use Rattle.mathematics.specs.Counting.{keep}
use Rattle.recorded_fields.specs.Layout.{Case, place, case_at, well_formed}
use Rattle.replay.specs.Agreement.{agreed}
use Rattle.replay.specs.Cases.{cases_from, cases, behind, ends, differing, replayed}
use Rattle.recorded_fields.proofs.Fields.{further, case_inside, next_is, whole_of}

-- what is left of the cases after some
abbrev rest : List ℕ → ℕ → ℕ → List Case
rest list at done = cases_from (length list - done) list at

-- the cases so far, some of which differ, and those from a place on are all
pub record Walked (list : List ℕ) (at done differ : ℕ) : Type 0 where
  pub inside : at ≤ length list
  pub few : done ≤ at
  pub fewer : differ ≤ done
  pub number : done + length (rest list at done) ≡ length (cases list)
  pub wrong : differ + length (differing (rest list at done)) ≡ length (differing (cases list))
  pub end : behind at (rest list at done) ≡ behind 0 (cases list)

pub walked_none : (list : List ℕ) → Walked list 0 0 0
unfolding cases
walked_none list =
    let e : length list - 0 ≡ length list = omega arith in
    record { inside = omega arith; few = omega arith; fewer = omega arith; number = rw e (omega arith); wrong = rw e (omega arith); end = rw e }

rest_next : (list : List ℕ) (at done : ℕ) → done < length list → well_formed (length list) (case_at list at) ≡ true → rest list at done ≡ case_at list at ∷ rest list (case_at list at).next (done + 1)
unfolding cases_from
rest_next list at done more h = let e : length list - done ≡ suc (length list - (done + 1)) = omega arith in rw (e, h)

rest_none : (k : ℕ) (list : List ℕ) (at : ℕ) → well_formed (length list) (case_at list at) ≡ false → cases_from k list at ≡ []
unfolding cases_from
rest_none zero list at h = refl
rest_none (suc k) list at h = rw h

differing_next : (c : Case) (l : List Case) → length (differing (c ∷ l)) ≡ cond (agreed c) 0 1 + length (differing l)
unfolding differing keep
differing_next c l = go (agreed c)
  where
    go : (b : Bool) → length (cond (not b) (c ∷ keep (λ c. not (agreed c)) l) (keep (λ c. not (agreed c)) l)) ≡ cond b 0 1 + length (keep (λ c. not (agreed c)) l)
    go true = omega arith
    go false = omega arith

at_most_one : (b : Bool) → cond {A = ℕ} b 0 1 ≤ 1
at_most_one true = omega arith
at_most_one false = omega arith

-- what a case counts among those that differ
pub one_more : (b : Bool) (n : ℕ) → not b ≡ true → n + 1 ≡ n + cond b 0 1
one_more b n h = rw (not-true b h)

pub none_more : (b : Bool) (n : ℕ) → not b ≡ false → n ≡ n + cond b 0 1
none_more b n h = rw (not-false b h) (omega arith)

pub walked_next : (list : List ℕ) (at done differ : ℕ) → Walked list at done differ → well_formed (length list) (case_at list at) ≡ true → (next : ℕ) → next ≡ place list at 15 → (differ' : ℕ) → differ' ≡ differ + cond (agreed (case_at list at)) 0 1 → Walked list next (done + 1) differ'
unfolding behind
walked_next list at done differ w h next e differ' more =
    let c = case_at list at in
    let d = w.few in
    let f = w.fewer in
    let on : at < c.next = further list at in
    let within : next ≤ length list = rw e (whole_of list at h) in
    let is : c.next ≡ next = next_is list at ∙ sym e in
    let more_cases : done < length list = omega (arith, whole_of list at h, case_inside list at (whole_of list at h)) in
    let r : rest list at done ≡ c ∷ rest list next (done + 1) = rw (← is) (rest_next list at done more_cases h) in
    let n : done + suc (length (rest list next (done + 1))) ≡ length (cases list) = rw r at w.number in
    let m : differ + (cond (agreed c) 0 1 + length (differing (rest list next (done + 1)))) ≡ length (differing (cases list)) =
    rw (r, differing_next c (rest list next (done + 1))) at w.wrong in
    let one : cond {A = ℕ} (agreed c) 0 1 ≤ 1 = at_most_one (agreed c) in
    record {
      inside = within;
      few = omega arith;
      fewer = omega arith;
      number = omega arith;
      wrong = omega arith;
      end = rw (r, is) at w.end;
    }

pub walked_all : (list : List ℕ) (at done differ : ℕ) → Walked list at done differ → well_formed (length list) (case_at list at) ≡ false → replayed list ≡ cond (ends list at) (Ok (record { cases = done; differ = differ })) (Err (record { at = at }))
unfolding replayed behind differing keep
walked_all list at done differ w h =
    let z = rest_none (length list - done) list at h in
    let n : done + 0 ≡ length (cases list) = rw z at w.number in
    let m : differ + 0 ≡ length (differing (cases list)) = rw z at w.wrong in
    let e : at ≡ behind 0 (cases list) = rw z at w.end in
    let n' : length (cases list) ≡ done = omega arith in
    let m' : length (differing (cases list)) ≡ differ = omega arith in
    rw (n', m', ← e)
