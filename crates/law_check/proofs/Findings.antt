-- The lowest vertex whose sum is not its charge, and what it says of the law.
use Prim.Native.Nat.{ℕ, ◌<◌}
use mathlib.Core.List.{List}
use mathlib.Core.Bool.{Bool, false≢true}
use mathlib.Core.Path.{◌≡◌, refl, sym, ap, ◌∙◌}
use lib.IntN.{ℤ, pos, ◌-ℤ◌}
use Rattle.std.proofs.Common.{Option, Some, None}
use Rattle.std.specs.Option.{is_none, option_map}
use Rattle.mathematics.specs.Integers.{equal}
use Rattle.mathematics.specs.Tests.{lowest_failing, LowestFailing}
use Rattle.mathematics.proofs.Lowest.{none_fails, failing_found, failing_agree}
use Rattle.mathematics.proofs.Integers.{equal_true, equal_self, integral}
use Rattle.complex.specs.Complex.{Complex}
use Rattle.answers.specs.declared.finding.Unlawful.{Unlawful}
use Rattle.gauss_law.specs.Gauss.{gauss, lawful}
use Rattle.law_check.specs.Law.{lowest_broken, unlawful, Breaks, LawKnown}

-- a vertex told with what its sum has more than its charge
abbrev told : (ℕ → ℤ) → (ℕ → ℤ) → ℕ → Unlawful
told sum q v = record { vertex = v; excess = sum v -ℤ q v }

apart : (x y : ℤ) → x -ℤ y ≡ pos 0 → x ≡ y
apart x y z = search (integral, z)

-- ---- two sums that agree below n
pub lowest_agree : (f g q : ℕ → ℤ) (n : ℕ) → ((v : ℕ) → v < n → f v ≡ g v) → lowest_broken f q n ≡ lowest_broken g q n
unfolding lowest_broken
lowest_agree f g q n h = go (lowest_failing (λ v. equal (f v) (q v)) n) refl ∙ ap (option_map (told g q)) (failing_agree (λ v. equal (f v) (q v)) (λ v. equal (g v) (q v)) n (λ v k. rw (h v k)))
  where
    go : (o : Option ℕ) → lowest_failing (λ v. equal (f v) (q v)) n ≡ o → option_map (told f q) o ≡ option_map (told g q) o
    go None e = refl
    go (Some v) e = let low = failing_found (λ u. equal (f u) (q u)) n v e in rw (h v low.below)

-- ---- what is found of a configuration
module _ (c : Complex) (q : ℕ → ℤ) (s : List ℤ) where
  abbrev holds : ℕ → Bool
  holds v = equal (gauss c.edges s v) (q v)

  breaks : (v : ℕ) → LowestFailing holds c.vertices v → Breaks c q s (told (gauss c.edges s) q v)
  breaks v low =
      record {
        below = low.below;
        told = refl;
        wrong = λ z. false≢true (sym low.fails ∙ ap (λ x. equal x (q v)) (apart (gauss c.edges s v) (q v) z) ∙ equal_self (q v));
        lower = λ u k. equal_true (gauss c.edges s u) (q u) (low.lower u k);
      }

  found : (f : Unlawful) → unlawful c q s ≡ Some f → Breaks c q s f
  unfolding unlawful lowest_broken
  found f h = go (lowest_failing holds c.vertices) refl h
    where
      go : (o : Option ℕ) → lowest_failing holds c.vertices ≡ o → option_map (told (gauss c.edges s) q) o ≡ Some f → Breaks c q s f
      go None e h = absurd (cc)
      go (Some v) e h =
          let same : told (gauss c.edges s) q v ≡ f = cc in
          rw (← same) (breaks v (failing_found holds c.vertices v e))

  none_lawful : is_none (unlawful c q s) ≡ lawful c q s
  unfolding unlawful lowest_broken lawful
  none_lawful = go (lowest_failing holds c.vertices) ∙ none_fails holds c.vertices
    where
      go : (o : Option ℕ) → is_none (option_map (told (gauss c.edges s) q) o) ≡ is_none o
      go None = refl
      go (Some v) = refl

  pub law_known : LawKnown c q s
  law_known = record { lawful = none_lawful; lowest = found }
