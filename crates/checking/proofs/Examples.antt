-- What is told of values on the triangle of docs/SCOPE.md, computed; words that say a number, and words that say none.
use mathlib.Core.Path.{◌≡◌, refl}
use mathlib.Core.List.{List, [], ◌∷◌}
use Prim.Native.Nat.{ℕ}
use lib.IntN.{pos, negsuc}
use Rattle.std.proofs.Common.{Some, None}
use Rattle.mathematics.specs.Integers.{equal}
use Rattle.mathematics.specs.Lists.{same, listed, position, distinct, choose}
use Rattle.mathematics.specs.Tests.{every_entry, every, lowest_failing}
use Rattle.mathematics.specs.Refusals.{first}
use Rattle.complex.specs.Complex.{entries, simplices, complex_of}
use Rattle.complex.specs.Search.{whole_search, served, serve, scan, look, touches, across, connected}
use Rattle.complex.specs.Judge.{counts_right, rising, simplices_right, sides_listed, triangles_right}
use Rattle.sheet.specs.Sheet.{word, padded, sheet_in, header_tests}
use Rattle.gauss_law.specs.Gauss.{flow, gauss, lawful, within}
use Rattle.law_check.specs.Law.{lowest_broken, unlawful}
use Rattle.hilbert.specs.Basis.{in_basis, lowest_outside, why_unlisted}
use Rattle.lines.specs.Lines.{ascii, last_digits, decimal, signed_text, named, digit, read_on, refused_line, listed_line, unlawful_line, outside_line}
use Rattle.checking.specs.Text.{check_refusal, finding_line, found_line, told, check_text}
use Rattle.checking.specs.Value.{digits_in, value_in}

-- ---- what is told
triangle : List ℕ
triangle = 71 ∷ 76 ∷ 83 ∷ 1 ∷ 0 ∷ 3 ∷ 3 ∷ 1 ∷ 0 ∷ 1 ∷ 0 ∷ 0 ∷ 1 ∷ 0 ∷ 2 ∷ 1 ∷ 2 ∷ 0 ∷ 1 ∷ 2 ∷ []

-- in the basis; the sums -3, 5 and -2; outside the band on each edge; the law before the band; two values for three edges; no values for no sheet
told_of_triangle : (check_text triangle (pos 1 ∷ negsuc 0 ∷ pos 1 ∷ []) ≡ ascii "in the basis\n")
    × (check_text triangle (pos 3 ∷ pos 0 ∷ negsuc 1 ∷ []) ≡ ascii "refused 17: vertex 0 breaks the law, its sum is -3\n")
    × (check_text triangle (pos 2 ∷ negsuc 1 ∷ pos 2 ∷ []) ≡ ascii "refused 17: edge 0 is outside -1 to 1\n")
    × (check_text triangle (pos 0 ∷ pos 7 ∷ pos 7 ∷ []) ≡ ascii "refused 17: vertex 0 breaks the law, its sum is -7\n")
    × (check_text triangle (pos 0 ∷ pos 0 ∷ []) ≡ ascii "refused 12\n")
    × (check_text [] [] ≡ ascii "refused 1\n")
unfolding triangle check_text check_refusal told found_line finding_line refused_line listed_line unlawful_line outside_line named decimal last_digits signed_text ascii sheet_in header_tests word padded complex_of simplices entries counts_right rising simplices_right sides_listed triangles_right same listed position distinct choose every_entry every lowest_failing first equal whole_search served serve scan look touches across connected flow gauss lawful within lowest_broken unlawful in_basis lowest_outside why_unlisted
told_of_triangle = (refl, refl, refl, refl, refl, refl)

-- ---- words
words : (value_in (ascii "3") ≡ Some (pos 3))
    × (value_in (ascii "-2") ≡ Some (negsuc 1))
    × (value_in (ascii "-007") ≡ Some (negsuc 6))
    × (value_in (ascii "-0") ≡ Some (pos 0))
    × (value_in (ascii "-2147483648") ≡ Some (negsuc 2147483647))
    × (value_in (ascii "2147483647") ≡ Some (pos 2147483647))
unfolding value_in digits_in digit every_entry read_on ascii
words = (refl, refl, refl, refl, refl, refl)

no_words : (value_in (ascii "-2147483649") ≡ None)
    × (value_in (ascii "2147483648") ≡ None)
    × (value_in (ascii "+1") ≡ None)
    × (value_in (ascii "-") ≡ None)
    × (value_in (ascii "--1") ≡ None)
    × (value_in (ascii "1.5") ≡ None)
    × (value_in (ascii "1 ") ≡ None)
    × (value_in [] ≡ None)
unfolding value_in digits_in digit every_entry read_on ascii
no_words = (refl, refl, refl, refl, refl, refl, refl, refl)
