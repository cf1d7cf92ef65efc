-- What short lists tell: a wrong answer is told as differing, and so is every kind of answer.
use Prim.Native.Nat.{ℕ, ◌*◌}
use Rattle.std.specs.Prelude.{Ok, Err}
use mathlib.Core.List.{List, [], ◌∷◌, ◌++◌}
use mathlib.Core.Path.{◌≡◌, refl}
use lib.Ieee.{is_nan, nan_bits, of_bits, to_bits, add, mul, neg, le, of_int}
use lib.ListN.{length, replicate}
use Rattle.mathematics.specs.Counting.{keep, below}
use Rattle.mathematics.specs.Integers.{equal}
use Rattle.mathematics.specs.Lists.{same, listed, position, distinct, choose}
use Rattle.mathematics.specs.Refusals.{first, outcome, written}
use Rattle.mathematics.specs.Tests.{every_entry, every}
use Rattle.complex.specs.Complex.{entries, simplices, complex_of}
use Rattle.complex.specs.Judge.{counts_right, simplices_right, triangles_right, rising, sides_listed}
use Rattle.complex.specs.Search.{whole_search, served, serve, scan, look, touches, across, connected}
use Rattle.complex.specs.Sides.{sides}
use Rattle.triangles.specs.Indices.{indices_call}
use Rattle.sheet.specs.Sheet.{word, padded, sheet_in, header_tests}
use Rattle.matrices.specs.Coupling.{float_of as whole_float}
use Rattle.matrices.specs.Weights.{bounded}
use Rattle.rows.specs.Entries.{pairs}
use Rattle.matvec.specs.Product.{row_entries, with_products, row_sum, product, never_falls, starts_right, columns_right, value_right, product_call}
use Rattle.exports.specs.Exports.{signed, on_sheet, stored, zero_told}
use Rattle.recorded.specs.Bytes.{number_at, float_of, numbers_in, is_whole, holds, float_is}
use Rattle.recorded.specs.Answers.{tells, leaves, agrees}
use Rattle.enumeration.specs.Enumeration.{counted_call}
use Rattle.complex_recorded.specs.Agreement.{indices_agrees, matvec_agrees}
use Rattle.u1_recorded.specs.States.{counted_agrees}
use Rattle.recorded_fields.specs.Layout.{size, place, field, case_at, well_formed}
use Rattle.recorded_fields.specs.Choosing.{chosen}
use Rattle.complex_recorded.specs.Cases.{complexes_agreed, rows_agreed}
use Rattle.u1_recorded.specs.Cases.{states_agreed}
use Rattle.replay.specs.Agreement.{agreed}
use Rattle.replay.specs.Cases.{cases_from, cases, behind, ends, differing, replayed}

-- a field: its length and its bytes
abbrev held : List ℕ → List ℕ
held b = length b ∷ 0 ∷ b

-- n fields that hold nothing
abbrev empty : ℕ → List ℕ
empty n = replicate (2 * n) 0

-- a small number in 8 bytes
abbrev wide : ℕ → List ℕ
wide n = n ∷ replicate 7 0

-- count_states on no sheet, which is refused with 1: the byte 255 makes the told number -1
abbrev counting : ℕ → List ℕ
counting low = 8 ∷ empty 10 ++ held (low ∷ replicate 7 255) ++ empty 4

-- tri_edge_indices on the sheet of one triangle
abbrev indexing : ℕ → ℕ → ℕ → List ℕ
indexing i j k =
    2
    ∷ held (71 ∷ 76 ∷ 83 ∷ 1 ∷ 0 ∷ 3 ∷ 3 ∷ 1 ∷ 0 ∷ 1 ∷ 0 ∷ 0 ∷ 1 ∷ 0 ∷ 2 ∷ 1 ∷ 2 ∷ 0 ∷ 1 ∷ 2 ∷ [])
    ++ held (wide 0)
    ++ empty 8
    ++ held (wide 0)
    ++ held (wide i ++ wide j ++ wide k)
    ++ empty 3

-- matvec of one row: 2.0 × 3.0, which is 6.0 where the byte is 24
abbrev multiplying : ℕ → List ℕ
multiplying x =
    25
    ∷ empty 8
    ++ held (replicate 7 0 ++ (64 ∷ []))
    ++ held (replicate 6 0 ++ (8 ∷ 64 ∷ []))
    ++ held (wide 0)
    ++ held (replicate 4 0 ++ (1 ∷ 0 ∷ 0 ∷ 0 ∷ []))
    ++ held (replicate 4 0)
    ++ empty 1
    ++ held (replicate 6 0 ++ (x ∷ 64 ∷ []))

-- a list of cases, and its end
abbrev listed_cases : List ℕ → List ℕ
listed_cases l = l ++ (0 ∷ [])

-- the number that a call tells, and lists that are none
record Numbers : Type 0 where
  same_number : replayed (listed_cases (counting 255)) ≡ Ok (record { cases = 1; differ = 0 })
  other_number : replayed (listed_cases (counting 254)) ≡ Ok (record { cases = 1; differ = 1 })
  one_of_two : replayed (listed_cases (counting 254 ++ counting 255)) ≡ Ok (record { cases = 2; differ = 1 })
  nothing : replayed [] ≡ Err (record { at = 0 })
  no_end : replayed (counting 255) ≡ Err (record { at = 39 })
  no_kind : replayed (listed_cases (counting 255 ++ (27 ∷ empty 15))) ≡ Err (record { at = 39 })

numbers : Numbers
unfolding replayed ends behind cases cases_from case_at size place field word well_formed differing keep agreed chosen states_agreed counted_agrees tells on_sheet counted_call header_tests sheet_in padded first outcome signed equal number_at same
numbers = record { same_number = refl; other_number = refl; one_of_two = refl; nothing = refl; no_end = refl; no_kind = refl }

-- a list that a call leaves
record Lists : Type 0 where
  same_list : replayed (listed_cases (indexing 0 1 2)) ≡ Ok (record { cases = 1; differ = 0 })
  swapped : replayed (listed_cases (indexing 0 2 1)) ≡ Ok (record { cases = 1; differ = 1 })

lists : Lists
unfolding replayed ends behind cases cases_from case_at size place field word well_formed differing keep agreed chosen complexes_agreed indices_agrees agrees tells leaves written on_sheet stored indices_call header_tests sheet_in padded complex_of simplices entries counts_right simplices_right triangles_right rising sides_listed sides choose listed position distinct every_entry every whole_search served serve scan look touches across connected first outcome signed equal number_at same holds is_whole
lists = record { same_list = refl; swapped = refl }

-- floats that a call leaves
record Floats : Type 0 where
  same_float : replayed (listed_cases (multiplying 24)) ≡ Ok (record { cases = 1; differ = 0 })
  other_float : replayed (listed_cases (multiplying 28)) ≡ Ok (record { cases = 1; differ = 1 })

floats : Floats
unfolding replayed ends behind cases cases_from case_at size place field word well_formed differing keep agreed chosen rows_agreed matvec_agrees agrees tells leaves written zero_told product_call product row_sum with_products row_entries pairs starts_right never_falls columns_right value_right bounded whole_float every_entry every below first outcome signed equal number_at float_of numbers_in holds is_whole float_is is_nan nan_bits of_bits to_bits add mul neg le of_int
floats = record { same_float = refl; other_float = refl }
