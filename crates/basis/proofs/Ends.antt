-- How a run ends: its status by the refusal, and what was written.
use Rattle.std.proofs.Common.{ℕ, zero, suc, List, Option, Result, Ok, Err, ◌≡◌, refl, sym, ap, ◌∙◌, inl, inr}
use Rattle.std.specs.Prelude.{OnOk}
use Rattle.std.specs.Io.KnownBytes.{Appends}
use Rattle.basis.specs.declared.Status.{Status}
use Rattle.basis.specs.declared.Status.TheVariants.{Answered, Refused, Failed}
use Rattle.basis.specs.Status.{status_of, status_after, Answers}

pub answered : (n : ℕ) → n ≡ 0 → Answered ≡ status_of n
unfolding status_of
answered n h = sym (ap status_of h)

pub refused : (n : ℕ) → (n ≡ 0 → ⊥) → Refused ≡ status_of n
unfolding status_of
refused zero h = absurd (h refl)
refused (suc n) h = refl

-- an answer that came out is not told as a failure
not_failed : (n : ℕ) → Failed ≡ status_of n → ⊥
unfolding status_of
not_failed zero h = cc
not_failed (suc n) h = cc

pub ends : {A E : Type 0} (written : Result A E) (n m : ℕ) (text : List ℕ) (old new : Option (List ℕ)) (r : Status) → r ≡ status_after written m → m ≡ n → OnOk written (Appends old new text) → Answers n text old new r
ends (Ok done) n m text old new r is same sent = record { told = inr (is ∙ ap status_of same); given = λ h. sent }
ends (Err why) n m text old new r is same sent = record { told = inl is; given = λ h. absurd (not_failed n (sym is ∙ h)) }

pub on_ok_of : {A E : Type 0} (P Q : Type 0) (r : Result A E) → (P → Q) → OnOk r P → OnOk r Q
on_ok_of P Q (Ok x) f h = f h
on_ok_of P Q (Err e) f h = tt
