-- What telling the sentence of a refusal answers.
use Rattle.std.specs.Prelude.{ℕ, ◌≤◌, ◌<◌, List, [], ◌∷◌, Bool, not, ltb, length, get_or}
use Rattle.mathematics.specs.Writing.{front}
use Rattle.mathematics.specs.Calls.{Call}
use Rattle.answers.specs.Sentences.{sentence, in_table}

-- what a sentence is: not empty, of at most 200 bytes, each from the space to the tilde, so plain ASCII without a line feed
pub record PlainText (s : List ℕ) : Type 0 where
  pub some : 1 ≤ length s
  pub few : length s ≤ 200
  pub plain : (i : ℕ) → i < length s → (32 ≤ get_or s i 0) × (get_or s i 0 ≤ 126)

-- 15 for a list that is shorter than a text
abbrev pub room_test : List ℕ → ℕ → ℕ × Bool
room_test s room = (15, ltb room (length s))

-- 13 for a number that is not in the table, then 15
abbrev pub text_tests : ℕ → ℕ → List (ℕ × Bool)
text_tests n room = (13, not (in_table n)) ∷ room_test (sentence n) room ∷ []

-- refusal_text: the number of bytes of the sentence is told, and the list begins with them.
unfoldable pub text_call : ℕ → List ℕ → Call ℕ (List ℕ)
text_call n old =
    record {
      tests = text_tests n (length old);
      value = length (sentence n);
      before = old;
      after = front (sentence n) old;
      known = PlainText (sentence n);
    }
