-- The line that is printed for a list of answers, as bytes.
use Rattle.std.specs.Prelude.{ℕ, List, ◌++◌, Result, Ok, Err}
use Rattle.lines.specs.Lines.{ascii, named}
use Rattle.replay.specs.declared.walk.Counts.{Counts}
use Rattle.replay.specs.declared.walk.Malformed.{Malformed}

unfoldable pub cases_line : ℕ → ℕ → List ℕ
cases_line cases differ = (named "replayed " cases ++ named " cases: " differ) ++ ascii " differ\n"

unfoldable pub malformed_line : ℕ → List ℕ
malformed_line at = named "malformed at byte " at ++ ascii "\n"

unfoldable pub replayed_text : Result Counts Malformed → List ℕ
replayed_text (Ok counts) = cases_line counts.cases counts.differ
replayed_text (Err malformed) = malformed_line malformed.at
