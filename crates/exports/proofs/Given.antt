-- Weights that are not given are not read: a call is the same whatever list is lent for them.
use Rattle.std.specs.Prelude.{Bool, true, false, List, [], Option, Float, ◌≡◌}
use Rattle.std.specs.Borrow.{Bor}
use Rattle.std.specs.Bool.{then_some}
use Rattle.mathematics.specs.Refusals.{Outcome}
use Rattle.mathematics.specs.Calls.{Call, Answered}
use Rattle.matrices.specs.Weights.{is_given, given_list}

pub chosen : {A B : Type 0} (call : Bool → List Float → Call A B) → ((w : List Float) → call false [] ≡ call false w) → (given : Bool) (w : Bor (List Float)) {o : Option (Bor (List Float))} → o ≡ then_some given w → {a : Outcome A} {l : B}
    → Answered (call (is_given o) (given_list o)) a l → Answered (call given w.now) a l
chosen call unread true w e h = rw e at h
chosen call unread false w e h = rw (unread w.now) at (rw e at h)
