-- What the exported functions answer: one signed number, the value or minus the refusal.
use Rattle.std.specs.Prelude.{ℕ, List, [], ◌∷◌, ◌++◌, cond, Option, Some, None, is_none, ◌≡◌, ℤ, pos, neg_ℤ, Float}
use Rattle.mathematics.specs.Refusals.{Outcome, value, refused, first, outcome, written}
use Rattle.mathematics.specs.Calls.{Call, NoneLent}
use Rattle.matrices.specs.declared.coupling.KSParams.{KSParams}
use Rattle.complex.specs.Complex.{Complex, complex_of}
use Rattle.sheet.specs.Sheet.{sheet_in, reading_tests}

-- the value, or minus the refusal
unfoldable pub signed : Outcome ℕ → ℤ
signed (value n) = pos n
signed (refused n) = neg_ℤ (pos n)

-- A number and the lists at the end are those of a call: the value or minus the refusal, and what the call leaves. Each exported function
-- answers so, of a call that the crates below name, as it is or changed by what follows; two tell a finding besides (`FindingExported`).
pub record Exported {B : Type 0} (call : Call ℕ B) (r : ℤ) (l : B) : Type 0 where
  pub answer : r ≡ signed (outcome (first call.tests) call.value)
  pub lists : l ≡ written (first call.tests) call.after call.before
  pub known : first call.tests ≡ 0 → call.known

-- the complex that a sheet's bytes hold
abbrev pub complex_in : List ℕ → Complex
complex_in b = complex_of (sheet_in b).complex

-- the truncation that they hold
abbrev pub lambda_in : List ℕ → ℕ
lambda_in b = (sheet_in b).lambda

-- A call on what a sheet holds: the sheet is judged first, then the call's own tests, on the complex and the truncation that it holds.
unfoldable pub on_sheet : {A B : Type 0} → List ℕ → (Complex → ℕ → Call A B) → Call A B
on_sheet b call =
    record {
      tests = reading_tests b ++ (call (complex_in b) (lambda_in b)).tests;
      value = (call (complex_in b) (lambda_in b)).value;
      before = (call (complex_in b) (lambda_in b)).before;
      after = (call (complex_in b) (lambda_in b)).after;
      known = (call (complex_in b) (lambda_in b)).known;
    }

-- what was found goes to what is lent, in a given way; where nothing was found that stays as it is
abbrev pub found_in : {A B : Type 0} → (A → B → B) → Option A → B → B
found_in store None old = old
found_in store (Some a) old = store a old

-- A call that looks for something: 1 is told where it finds nothing, and 0 where it finds something.
unfoldable pub none_found : {A B : Type 0} → Call (Option A) B → Call ℕ B
none_found call =
    record { tests = call.tests; value = cond (is_none call.value) 1 0; before = call.before; after = call.after; known = call.known }

-- The same, and what it finds goes to what is lent, in a given way.
unfoldable pub found_lent : {A B : Type 0} → Call (Option A) NoneLent → (A → B → B) → B → Call ℕ B
found_lent call store old =
    record { tests = call.tests; value = (none_found call).value; before = old; after = found_in store call.value old; known = call.known }

-- The value of a call goes to what is lent for it, in a given way, and 0 is told.
unfoldable pub stored : {A B : Type 0} → Call A NoneLent → (A → B → B) → B → Call ℕ B
stored call store old = record { tests = call.tests; value = 0; before = old; after = store call.value old; known = call.known }

-- The value of a call is not told: 0 is, beside what goes to its lists.
unfoldable pub zero_told : {A B : Type 0} → Call A B → Call ℕ B
zero_told call = record { tests = call.tests; value = 0; before = call.before; after = call.after; known = call.known }

-- The value of a call goes to a place that is lent beside its lists, and 0 is told.
unfoldable pub value_lent : {A B : Type 0} → Call A B → A → Call ℕ (B × A)
value_lent call old = record { tests = call.tests; value = 0; before = (call.before, old); after = (call.after, call.value); known = call.known }

-- Of two numbers the first is told, and the second goes to a number that is lent.
unfoldable pub second_lent : {B C : Type 0} → Call (ℕ × ℕ) (B × C) → ℕ → Call ℕ (B × C × ℕ)
second_lent call old =
    record {
      tests = call.tests;
      value = call.value.0;
      before = (call.before.0, call.before.1, old);
      after = (call.after.0, call.after.1, call.value.1);
      known = call.known;
    }

-- ---- what goes to what is lent
-- a list in place of another
abbrev pub in_place : {A : Type 0} → List A → List A → List A
in_place new old = new

-- g², the electric and the magnetic factor
abbrev pub three_floats : KSParams → List Float → List Float
three_floats p old = p.g_squared ∷ p.electric ∷ p.magnetic ∷ []

-- ---- as the code keeps it
-- 1 where nothing was found, 0 where something was
unfoldable pub none_of : {A : Type 0} → Outcome (Option A) → Outcome ℕ
none_of (value o) = value (cond (is_none o) 1 0)
none_of (refused n) = refused n

-- what was found, or what stood in its place
unfoldable pub found_or : {A B : Type 0} → (A → B → B) → Outcome (Option A) → B → B
found_or store (value o) old = found_in store o old
found_or store (refused n) old = old

-- 0 for any value
unfoldable pub zero_of : {A : Type 0} → Outcome A → Outcome ℕ
zero_of (value a) = value 0
zero_of (refused n) = refused n

-- a value, or where there is none what stood in its place
unfoldable pub value_or : {A : Type 0} → Outcome A → A → A
value_or (value a) old = a
value_or (refused n) old = old
