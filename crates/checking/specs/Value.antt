-- The whole number that a word says.
use Rattle.std.specs.Prelude.{ℕ, List, [], ◌∷◌, ◌&&◌, cond, Option, Some, None, ℤ, pos, neg_ℤ, eqb, leb, length}
use Rattle.std.specs.Option.{option_map}
use Rattle.mathematics.specs.Tests.{every_entry}
use Rattle.lines.specs.Lines.{digit, read_on}

-- the number that digits say, where there is a digit, no other byte, and the number is not over the limit
unfoldable pub digits_in : ℕ → List ℕ → Option ℕ
digits_in limit l = cond ((leb 1 (length l) && every_entry digit l) && leb (read_on 0 l) limit) (Some (read_on 0 l)) None

-- From -2147483648 to 2147483647. A minus, 45, may stand before the digits.
unfoldable pub value_in : List ℕ → Option ℤ
value_in [] = None
value_in (b ∷ l) = cond (eqb b 45) (option_map (λ n. neg_ℤ (pos n)) (digits_in 2147483648 l)) (option_map pos (digits_in 2147483647 (b ∷ l)))
