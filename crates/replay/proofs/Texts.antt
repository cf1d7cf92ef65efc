-- How long the printed lines are at most.
use Prim.Native.Nat.{ℕ, ◌^◌, ◌<◌, ◌≤◌}
use mathlib.Core.List.{◌++◌}
use native.Mathlib.Omega.{arith}
use lib.ListN.{length, length-append}
use Rattle.lines.specs.Lines.{ascii, named}
use Rattle.lines.proofs.Lengths.{number_long}
use Rattle.replay.specs.Text.{cases_line, malformed_line}

pub cases_line_long : (cases differ : ℕ) → cases < 2 ^ 64 → differ < 2 ^ 64 → length (cases_line cases differ) ≤ 65
unfolding cases_line named ascii
cases_line_long cases differ few fewer =
    omega
    (arith, length-append (named "replayed " cases ++ named " cases: " differ) (ascii " differ\n"), length-append (named "replayed " cases) (named " cases: " differ), number_long cases few, number_long differ fewer)

pub malformed_line_long : (at : ℕ) → at < 2 ^ 64 → length (malformed_line at) ≤ 39
unfolding malformed_line named ascii
malformed_line_long at small = omega (arith, length-append (named "malformed at byte " at) (ascii "\n"), number_long at small)
