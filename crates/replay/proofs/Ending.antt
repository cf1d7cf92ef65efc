-- Behind the last case of a list no well-formed one stands.
use Prim.Native.Nat.{ℕ, zero, suc, ◌+◌, ◌≤◌}
use mathlib.Core.List.{List}
use mathlib.Core.Path.{◌≡◌, refl}
use mathlib.Core.Bool.{Bool, true, false}
use native.Mathlib.Omega.{arith}
use lib.ListN.{get_or, length, get_or-eq_default}
use Rattle.recorded_fields.specs.Layout.{case_at, well_formed}
use Rattle.replay.specs.Cases.{cases_from, cases, behind}
use Rattle.recorded_fields.proofs.Fields.{further}

-- past the end there is no kind
none_past : (list : List ℕ) (at : ℕ) → length list ≤ at → well_formed (length list) (case_at list at) ≡ false
unfolding case_at well_formed
none_past list at h = let e : get_or list at 0 ≡ 0 = get_or-eq_default list 0 h in rw e

none_from : (k : ℕ) (list : List ℕ) (at : ℕ) → length list ≤ at + k → well_formed (length list) (case_at list (behind at (cases_from k list at))) ≡ false
unfolding cases_from behind
none_from zero list at h = none_past list at (omega arith)
none_from (suc k) list at h = go (well_formed (length list) (case_at list at)) refl (none_from k list (case_at list at).next (omega (arith, further list at)))
  where
    go : (b : Bool) → well_formed (length list) (case_at list at) ≡ b → well_formed (length list) (case_at list (behind (case_at list at).next (cases_from k list (case_at list at).next))) ≡ false → well_formed (length list) (case_at list (behind at (cases_from (suc k) list at))) ≡ false
    go true e rest = rw e rest
    go false e rest = rw e e

pub none_behind : (list : List ℕ) → well_formed (length list) (case_at list (behind 0 (cases list))) ≡ false
unfolding cases
none_behind list = none_from (length list) list 0 (omega arith)
