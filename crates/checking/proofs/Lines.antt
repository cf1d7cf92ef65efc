-- A line at the front of a list, and the line that is told of values.
use Prim.Native.Nat.{ℕ, ◌+◌, ◌<◌, ◌≤◌, ◌^◌}
use mathlib.Core.List.{List}
use mathlib.Core.Path.{◌≡◌, refl}
use native.Mathlib.Omega.{arith}
use borrow.Author.Tests.{ne_eqb, eq-eqb}
use lib.IntN.{ℤ}
use lib.ListN.{length}
use lib.Signed.{mag}
use Rattle.std.proofs.Common.{Some, None}
use Rattle.mathematics.specs.Refusals.{first}
use Rattle.mathematics.proofs.Signed.{size_within}
use Rattle.complex.specs.Complex.{Complex}
use Rattle.answers.specs.declared.finding.Finding.{Finding}
use Rattle.hilbert.specs.Basis.{why_unlisted}
use Rattle.hilbert.proofs.Unlisted.{none_in_basis}
use Rattle.lines.specs.Lines.{refused_line, listed_line, unlawful_line, outside_line}
use Rattle.lines.specs.Put.{Put}
use Rattle.lines.proofs.Lengths.{unlawful_line_long, outside_line_long}
use Rattle.lines.proofs.Puts.{ends_inside, put_take}
use Rattle.checking.specs.Text.{values_tests, finding_line, found_line, told}
use Rattle.checking.specs.Checked.{LineTold}

pub line_told : (n len : ℕ) (line before after : List ℕ) (number : ℕ) → 0 + length line ≤ length before → Put line before 0 after len → number ≡ n → LineTold n line after (record { len = len; number = number })
line_told n len line before after number room written is =
    record { bytes = put_take line before after 0 len room written; fits = ends_inside line before after 0 len room written; refusal = is }

-- ---- the room for the line of a finding
pub unlawful_room : (v n : ℕ) (sum : ℤ) → 400 ≤ n → v < 2 ^ 64 → mag sum < 2 ^ 63 → 0 + length (unlawful_line v sum) ≤ n
unlawful_room v n sum room vs ss = omega (arith, unlawful_line_long v sum vs (size_within sum ss))

pub outside_room : (e lambda n : ℕ) → 400 ≤ n → e < 2 ^ 64 → lambda < 2 ^ 64 → 0 + length (outside_line e lambda) ≤ n
outside_room e lambda n room es ls = omega (arith, outside_line_long e lambda es ls)

-- ---- values on the edges of a complex
module _ (c : Complex) (L : ℕ) (values : List ℤ) where
  -- a refusal but 17 has its number alone
  pub refused_told : (n : ℕ) → (n ≡ 0 → ⊥) → (n ≡ 17 → ⊥) → told n c L values ≡ refused_line n
  unfolding told
  refused_told n some other = rw (ne_eqb n 0 some, ne_eqb n 17 other) refl

  pub wrong_length : (length values ≡ length c.edges → ⊥) → first (values_tests c L values) ≡ 12
  unfolding first
  wrong_length h = rw (ne_eqb (length values) (length c.edges) h) refl

  module _ (long : length values ≡ length c.edges) where
    pub found_number : (f : Finding) → why_unlisted c L values ≡ Some f → first (values_tests c L values) ≡ 17
    unfolding first
    found_number f why = rw (eq-eqb (length values) (length c.edges) long, ← none_in_basis c L values, why) refl

    pub listed_number : why_unlisted c L values ≡ None → first (values_tests c L values) ≡ 0
    unfolding first
    listed_number why = rw (eq-eqb (length values) (length c.edges) long, ← none_in_basis c L values, why) refl

  pub found_told : (f : Finding) → why_unlisted c L values ≡ Some f → told 17 c L values ≡ finding_line L f
  unfolding told found_line
  found_told f why = rw why refl

  pub listed_told : told 0 c L values ≡ listed_line
  unfolding told
  listed_told = refl
