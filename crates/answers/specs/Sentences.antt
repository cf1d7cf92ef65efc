-- The sentences of the refusals, one table.
use Rattle.std.specs.Prelude.{ℕ, List, [], ◌∷◌, map, Bool, cond, eqb, codes}
use Prim.Native.String.{String}
use Rattle.mathematics.specs.Lists.{listed}

-- each refusal with what is wrong
unfoldable pub refusals : List (ℕ × String)
refusals =
    (1, "the sheet has fewer than 11 bytes")
    ∷ (2, "the sheet does not begin with the mark GLS")
    ∷ (3, "the sheet's version is not 1")
    ∷ (4, "the number of vertices is not 1 to 64, or there are more than 63 edges or more than 256 triangles")
    ∷ (5, "the truncation L is over 1000")
    ∷ (6, "the length does not fit the counts: a sheet has 11 + 2E + 3T bytes, a flat list two entries an edge and three a triangle")
    ∷ (7, "an edge is not a < b < V, or is listed twice")
    ∷ (8, "a triangle is not a < b < c < V, is listed twice, or has an edge that is not listed")
    ∷ (9, "some vertex cannot be reached from vertex 0 over the listed edges")
    ∷ (10, "there are more than 1048576 candidates: too many free edges, or for U(1) too large a truncation for them")
    ∷ (11, "a pentachoron has a vertex that is not below V or one vertex twice, or their flat list is no multiple of five long")
    ∷ (12, "a list does not have the length that it must have")
    ∷ (13, "a number is outside its range: no such edge, triangle, state, column or refusal, starts that do not run from 0 to the number of entries, or a direction that is not 1 or -1")
    ∷ (14, "a float is outside its range, or a coupling record's factors are not those of its coupling in the mode of the call")
    ∷ (15, "a list for the result, or a work list, is too short")
    ∷ (16, "a shifted edge leaves -L to L")
    ∷ (17, "the configuration is not in the basis")
    ∷ []

-- the numbers of a table
unfoldable pub numbers : List (ℕ × String) → List ℕ
numbers table = map (λ (r : ℕ × String). r.0) table

-- the bytes of the sentence with the number n in a table; none where no sentence has it
unfoldable pub sentence_in : List (ℕ × String) → ℕ → List ℕ
sentence_in [] n = []
sentence_in (r ∷ table) n = cond (eqb n r.0) (codes r.1) (sentence_in table n)

unfoldable pub sentence : ℕ → List ℕ
sentence n = sentence_in refusals n

-- some sentence has the number n
unfoldable pub in_table : ℕ → Bool
in_table n = listed eqb n (numbers refusals)
