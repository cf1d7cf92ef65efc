-- The cases of the list of answers, and what the whole list tells.
use Rattle.std.specs.Prelude.{ℕ, zero, suc, ◌+◌, Bool, not, ◌&&◌, cond, List, [], ◌∷◌, eqb, get_or, length, Result, Ok, Err}
use Rattle.mathematics.specs.Counting.{keep}
use Rattle.replay.specs.declared.walk.Counts.{Counts}
use Rattle.replay.specs.declared.walk.Malformed.{Malformed}
use Rattle.recorded_fields.specs.Layout.{Case, case_at, well_formed}
use Rattle.replay.specs.Agreement.{agreed}

-- the cases from a place on, one behind the other, as long as they are well-formed, and k at most
unfoldable pub cases_from : ℕ → List ℕ → ℕ → List Case
cases_from zero list at = []
cases_from (suc k) list at =
    cond (well_formed (length list) (case_at list at)) (case_at list at ∷ cases_from k list (case_at list at).next) []

-- all cases. Each has more than one byte, so that there are fewer than the list has bytes: proofs/Ending, `none_behind`, that no
-- well-formed case stands behind them.
unfoldable pub cases : List ℕ → List Case
cases list = cases_from (length list) list 0

-- the place behind cases that begin at a place
unfoldable pub behind : ℕ → List Case → ℕ
behind at [] = at
behind at (c ∷ l) = behind c.next l

-- a byte 0 stands at the place, and nothing behind it
unfoldable pub ends : List ℕ → ℕ → Bool
ends list at = eqb (at + 1) (length list) && eqb (get_or list at 0) 0

-- the cases that do not agree
unfoldable pub differing : List Case → List Case
differing l = keep (λ c. not (agreed c)) l

-- how many cases there are and how many of them differ; or the place behind them, where the list does not end there
unfoldable pub replayed : List ℕ → Result Counts Malformed
replayed list =
    cond (ends list (behind 0 (cases list)))
    (Ok (record { cases = length (cases list); differ = length (differing (cases list)) }))
    (Err (record { at = behind 0 (cases list) }))
