-- The words of the rows, as the code keeps them in the list of starts.
use Rattle.std.specs.Prelude.{ℕ, zero, suc, ◌+◌, ◌/◌, ◌<◌, ◌≤◌, List, ◌≡◌, get_or, length}

-- the upper bits of a word: the length of its row
abbrev pub upper : List ℕ → ℕ → ℕ
upper words i = get_or words i 0 / 1048576

-- where row i begins, by the lengths of the rows
unfoldable pub begins : (ℕ → ℕ) → ℕ → ℕ
begins lengths zero = 0
begins lengths (suc i) = begins lengths i + lengths i

-- the first n words are those of a function, and the others what they were
pub record FirstWords (f : ℕ → ℕ) (n : ℕ) (words words' : List ℕ) : Type 0 where
  pub are : (i : ℕ) → i < n → get_or words' i 0 ≡ f i
  pub rest : (i : ℕ) → n ≤ i → get_or words' i 0 ≡ get_or words i 0
  pub long : length words' ≡ length words
