-- The states by number, as the code finds targets: the values on the free edges are the digits of a number in base 2L + 1.
use Rattle.std.specs.Prelude.{ℕ, zero, suc, ◌+◌, ◌*◌, ◌%◌, ◌^◌, ◌≤◌, List, cond, ltb, ℤ, pos, nat_abs, ◌+ℤ◌, get_or, length}
use Rattle.gauss_law.specs.Listing.{limit}
use Rattle.walker.specs.Steps.{FreeFit}

-- n digits behind a, the last of them first
unfoldable pub numeral : ℕ → (ℕ → ℕ) → ℕ → ℕ → ℕ
numeral base x zero a = a
numeral base x (suc n) a = numeral base x n (a * base + x n)

-- the digit of a value from -low on
unfoldable pub digit : ℕ → List ℕ → List ℤ → ℕ → ℕ
digit low free s j = nat_abs (get_or s (get_or free j 0) (pos 0) +ℤ pos low)

-- the number of an assignment by its values on the first n free edges
unfoldable pub number : ℕ → ℕ → List ℕ → ℕ → List ℤ → ℕ
number L low free n s = numeral (2 * L + 1) (digit low free s) n 0

-- the first of k places, from p on, whose number with 2^20 added is not below the wanted one, else the place behind them
unfoldable pub sought : (ℕ → ℕ) → ℕ → ℕ → ℕ → ℕ
sought numbers wanted p zero = p
sought numbers wanted p (suc k) = cond (ltb (numbers p + limit) wanted) (sought numbers wanted (p + 1) k) p

-- the lower 20 bits of a word, and those of the word at a place
unfoldable pub lower : ℕ → ℕ
lower word = word % 1048576

abbrev pub number_in : List ℕ → ℕ → ℕ
number_in words p = lower (get_or words p 0)

-- an assignment with values from -low to low and a number that is not large
pub record Numbered (L low : ℕ) (free : List ℕ) (n : ℕ) (s : List ℤ) : Type 0 where
  pub truncation : L ≤ 1000
  pub low_small : low ≤ 1000
  pub free_few : n ≤ 63
  pub free_fit : FreeFit (length s) n free
  pub small : (e : ℕ) → nat_abs (get_or s e (pos 0)) ≤ low
  pub few : number L low free n s ≤ 2 ^ 30
