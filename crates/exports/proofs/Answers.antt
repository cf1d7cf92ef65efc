-- What is told where the value of a call goes to what is lent, or a part of it does.
use Prim.Native.Nat.{ℕ, zero, suc}
use mathlib.Core.Path.{◌≡◌, refl, sym, ap, ◌∙◌}
use Rattle.std.proofs.Common.{Option}
use borrow.Author.Tests.{ne_eqb}
use Rattle.mathematics.specs.Refusals.{Outcome, value, refused, first, outcome, written}
use Rattle.mathematics.specs.Calls.{Call, Answered, NoneLent, none_lent}
use Rattle.mathematics.proofs.Refusals.{refused_kept}
use Rattle.mathematics.proofs.Calls.{refuses, ends, both, written_both}
use Rattle.exports.specs.Exports.{stored, value_lent, second_lent, found_lent, none_found, found_in, found_or, none_of, zero_of, value_or}
use Rattle.answers.proofs.Outcomes.{refused_number, refused_some, value_none}
use Rattle.exports.proofs.Signs.{none_outcome, zero_outcome}

-- ---- the value goes to what is lent
module _ {A B : Type 0} (call : Call A NoneLent) (store : A → B → B) (old : B) where
  pub stored_refuses : {k : ℕ} → Answered call (refused k) none_lent → Answered (stored call store old) (refused k) old
  unfolding stored
  stored_refuses {k} h =
      refuses (stored call store old) (record { number = sym (refused_number k _ _ h.answer) }) (ne_eqb k 0 (refused_some k _ _ h.answer))

  pub stored_ends : {a : A} → Answered call (value a) none_lent → {new : B} → new ≡ store a old → Answered (stored call store old) (value 0) new
  unfolding stored
  stored_ends {a} h is =
      let told = value_none a _ _ h.answer in
      ends (stored call store old) (record { number = told.0 }) refl (is ∙ ap (λ b. store b old) told.1) (h.known told.0)

-- ---- the value goes to a place beside the lists
value_written : {A : Type 0} (n : ℕ) (a old : A) → value_or (outcome n a) old ≡ written n a old
unfolding value_or outcome written
value_written zero a old = refl
value_written (suc n) a old = refl

pub lent_answers : {A B : Type 0} {call : Call A B} {a : Outcome A} {l : B} → Answered call a l → (old : A) {new : A} → new ≡ value_or a old → Answered (value_lent call old) (zero_of a) (l, new)
unfolding value_lent
lent_answers {A} {B} {call} h old is =
    let n = first call.tests in
    record {
      answer = ap zero_of h.answer ∙ zero_outcome n call.value;
      lists = both h.lists (is ∙ ap (λ o. value_or o old) h.answer ∙ value_written n call.value old) ∙ sym (written_both n call.after call.before call.value old);
      known = h.known;
    }

-- ---- what was found goes to what is lent
found_written : {A B : Type 0} (n : ℕ) (o : Option A) (store : A → B → B) (old : B) → found_or store (outcome n o) old ≡ written n (found_in store o old) old
unfolding found_or outcome written
found_written zero o store old = refl
found_written (suc n) o store old = refl

pub found_answers : {A B : Type 0} {call : Call (Option A) NoneLent} {a : Outcome (Option A)} → Answered call a none_lent → (store : A → B → B) (old : B) {new : B} → new ≡ found_or store a old
    → Answered (found_lent call store old) (none_of a) new
unfolding found_lent none_found
found_answers {A} {B} {call} h store old is =
    let n = first call.tests in
    record {
      answer = ap none_of h.answer ∙ none_outcome n call.value;
      lists = is ∙ ap (λ o. found_or store o old) h.answer ∙ found_written n call.value store old;
      known = h.known;
    }

-- ---- the second of two numbers does
module _ {B C : Type 0} (call : Call (ℕ × ℕ) (B × C)) (old : ℕ) {b : B} {c : C} where
  pub second_refuses : {k : ℕ} → Answered call (refused k) (b, c) → Answered (second_lent call old) (refused k) (b, c, old)
  unfolding second_lent
  second_refuses {k} h =
      let number = sym (refused_number k _ _ h.answer) in
      let some = refused_some k _ _ h.answer in
      let kept : (b, c) ≡ call.before = h.lists ∙ sym (refused_kept (first call.tests) call.after call.before (λ z. some (sym number ∙ z))) in
      rw (ap (λ p. p.0) kept, ap (λ p. p.1) kept) (refuses (second_lent call old) (record { number = number }) (ne_eqb k 0 some))

  pub second_ends : {m n : ℕ} → Answered call (value (m, n)) (b, c) → Answered (second_lent call old) (value m) (b, c, n)
  unfolding second_lent written
  second_ends {m} {n} h =
      let told = value_none (m, n) _ _ h.answer in
      let new : (b, c) ≡ call.after = rw told.0 at h.lists in
      ends (second_lent call old) (record { number = told.0 }) (ap (λ p. p.0) told.1)
      (λ i. ((new i).0, (new i).1, (told.1 i).1)) (h.known told.0)
