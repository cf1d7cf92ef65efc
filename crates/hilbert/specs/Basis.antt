-- Which configurations are in the basis, and at which place.
use Rattle.std.specs.Prelude.{ℕ, zero, suc, ◌<◌, ◌≤◌, List, [], Bool, true, false, ◌&&◌, cond, Option, Some, ◌≡◌, ℤ, pos, nat_abs, get_or, length}
use Rattle.std.specs.Option.{option_map, option_or}
use Rattle.std.specs.Int.Signed.{lt_z}
use Rattle.mathematics.specs.Tests.{every_entry, lowest_failing}
use Rattle.mathematics.specs.Counting.{keep}
use Rattle.mathematics.specs.Lists.{In}
use Rattle.complex.specs.Complex.{Complex}
use Rattle.answers.specs.declared.finding.Finding.{Finding}
use Rattle.answers.specs.declared.finding.Finding.TheVariants.{BreaksLaw, OutsideBand}
use Rattle.gauss_law.specs.Gauss.{lawful, Lawful, within}
use Rattle.gauss_law.specs.Listing.{free_edges, states, limit}
use Rattle.law_check.specs.Law.{unlawful, Breaks}

-- a configuration with one value for each edge is in the basis: every value within -L to L, and every Gauss sum zero
unfoldable pub in_basis : Complex → ℕ → List ℤ → Bool
in_basis c L s = every_entry (within L) s && lawful c c.charges s

-- the lowest edge whose value is outside -L to L
unfoldable pub lowest_outside : ℕ → List ℤ → Option ℕ
lowest_outside L s = lowest_failing (λ e. within L (get_or s e (pos 0))) (length s)

-- why a configuration is not in the basis: that it breaks the law is told first
unfoldable pub why_unlisted : Complex → ℕ → List ℤ → Option Finding
why_unlisted c L s =
    option_or (option_map BreaksLaw (unlawful c c.charges s)) (option_map OutsideBand (lowest_outside L s))

-- true where x is the smaller, false where y is, and b where they are equal
unfoldable pub decided : Bool → ℤ → ℤ → Bool
decided b x y = cond (lt_z x y) true (cond (lt_z y x) false b)

-- s has the smaller value on the last of the first n free edges where s and t differ
unfoldable pub smaller : List ℕ → List ℤ → List ℤ → ℕ → Bool
smaller free s t zero = false
smaller free s t (suc n) = decided (smaller free s t n) (get_or s (get_or free n 0) (pos 0)) (get_or t (get_or free n 0) (pos 0))

-- s comes before t in the order of the basis
unfoldable pub comes_before : Complex → List ℤ → List ℤ → Bool
comes_before c s t = smaller (free_edges c) s t (length (free_edges c))

-- the place of a configuration: the number of listed states before it
unfoldable pub place : Complex → ℕ → List ℤ → ℕ
place c L s = length (keep (λ t. comes_before c t s) (states c L))

-- the state at place p is s
pub record At (c : Complex) (L : ℕ) (s : List ℤ) (p : ℕ) : Type 0 where
  pub below : p < length (states c L)
  pub state : get_or (states c L) p [] ≡ s

-- what is known of a configuration that was found: it stands at its place, and the basis is no longer than the limit
pub record PlaceKnown (c : Complex) (L : ℕ) (s : List ℤ) : Type 0 where
  pub found : At c L s (place c L s)
  pub few : length (states c L) ≤ limit

-- what is said of an edge that is outside the band: the law holds, and all lower edges are within it
pub record Outside (c : Complex) (L : ℕ) (s : List ℤ) (e : ℕ) : Type 0 where
  pub law : Lawful c c.charges s
  pub below : e < length s
  pub outside : L < nat_abs (get_or s e (pos 0))
  pub lower : (d : ℕ) → d < e → nat_abs (get_or s d (pos 0)) ≤ L

-- what a finding says
abbrev pub Says : Complex → ℕ → List ℤ → Finding → Type 0
Says c L s (BreaksLaw f) = Breaks c c.charges s f
Says c L s (OutsideBand e) = Outside c L s e

-- what is known of a finding that is told of a configuration: it is the one defined, it is the lowest, and the configuration is not listed
pub record Unlisted (c : Complex) (L : ℕ) (s : List ℤ) (f : Finding) : Type 0 where
  pub why : why_unlisted c L s ≡ Some f
  pub says : Says c L s f
  pub unlisted : In [] s (states c L) → ⊥
