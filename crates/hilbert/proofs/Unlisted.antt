-- Why a configuration is not in the basis: exactly the listed ones have no reason, and what a reason says.
use Prim.Native.Nat.{ℕ}
use mathlib.Core.List.{List}
use mathlib.Core.Bool.{Bool, true, ◌&&◌, false≢true}
use mathlib.Core.Path.{◌≡◌, refl, sym, ap, ◌∙◌}
use lib.IntN.{ℤ, pos, nat_abs}
use lib.ListN.{get_or, length}
use borrow.Author.Tests.{leb-true, leb-false}
use Rattle.std.proofs.Common.{Option, Some, None}
use Rattle.std.specs.Option.{is_none, option_map, option_or}
use Rattle.mathematics.specs.Tests.{every, every_entry}
use Rattle.mathematics.proofs.Tests.{same_tests, at_all, all_at}
use Rattle.mathematics.proofs.Counting.{every_at, at_every}
use Rattle.mathematics.proofs.Lowest.{none_fails, failing_found}
use Rattle.complex.specs.Complex.{Complex}
use Rattle.complex.specs.Judge.{Accepted}
use Rattle.answers.specs.declared.finding.Unlawful.{Unlawful}
use Rattle.answers.specs.declared.finding.Finding.{Finding}
use Rattle.answers.specs.declared.finding.Finding.TheVariants.{BreaksLaw, OutsideBand}
use Rattle.gauss_law.specs.Gauss.{lawful, within}
use Rattle.gauss_law.proofs.Gauss.{lawful_true}
use Rattle.law_check.specs.Law.{unlawful}
use Rattle.law_check.proofs.Findings.{law_known}
use Rattle.hilbert.specs.Basis.{in_basis, lowest_outside, why_unlisted, Outside, Says, Unlisted}
use Rattle.hilbert.proofs.Order.{in_basis_listed}

-- ---- the band
module _ (L : ℕ) (s : List ℤ) where
  abbrev inside : ℕ → Bool
  inside e = within L (get_or s e (pos 0))

  none_outside : is_none (lowest_outside L s) ≡ every_entry (within L) s
  unfolding lowest_outside
  none_outside =
      none_fails inside (length s)
      ∙ same_tests (every inside (length s)) (every_entry (within L) s) (λ h. at_all (within L) (pos 0) s (every_at inside (length s) h)) (λ h. at_every inside (length s) (all_at (within L) (pos 0) s h))

-- ---- a configuration
module _ (c : Complex) (L : ℕ) (s : List ℤ) where
  -- there is a reason exactly where the configuration is not in the basis
  pub none_in_basis : is_none (why_unlisted c L s) ≡ in_basis c L s
  unfolding why_unlisted in_basis
  none_in_basis = go (unlawful c c.charges s) (lowest_outside L s) (law_known c c.charges s).lawful (none_outside L s)
    where
      go : (u : Option Unlawful) (o : Option ℕ) {l b : Bool} → is_none u ≡ l → is_none o ≡ b → is_none (option_or (option_map BreaksLaw u) (option_map OutsideBand o)) ≡ (b && l)
      go (Some u) (Some e) p q = rw (← p, ← q)
      go (Some u) None p q = rw (← p, ← q)
      go None (Some e) p q = rw (← p, ← q)
      go None None p q = rw (← p, ← q)

  outside : (e : ℕ) → lawful c c.charges s ≡ true → lowest_outside L s ≡ Some e → Outside c L s e
  unfolding lowest_outside within
  outside e law h =
      let low = failing_found (inside L s) (length s) e h in
      record {
        law = lawful_true c c.charges s law;
        below = low.below;
        outside = leb-false (nat_abs (get_or s e (pos 0))) L low.fails;
        lower = λ d k. leb-true (nat_abs (get_or s d (pos 0))) L (low.lower d k);
      }

  says : (f : Finding) → why_unlisted c L s ≡ Some f → Says c L s f
  unfolding why_unlisted
  says f h = go (unlawful c c.charges s) refl (lowest_outside L s) refl f h
    where
      go : (u : Option Unlawful) → unlawful c c.charges s ≡ u → (o : Option ℕ) → lowest_outside L s ≡ o → (f : Finding) → option_or (option_map BreaksLaw u) (option_map OutsideBand o) ≡ Some f → Says c L s f
      go (Some u) p o q (BreaksLaw g) h = let same : u ≡ g = cc in (law_known c c.charges s).lowest g (p ∙ ap Some same)
      go (Some u) p o q (OutsideBand e) h = absurd (cc)
      go None p (Some e) q (BreaksLaw g) h = absurd (cc)
      go None p (Some e) q (OutsideBand d) h = let same : e ≡ d = cc in outside d (sym (law_known c c.charges s).lawful ∙ ap is_none p) (q ∙ ap Some same)
      go None p None q f h = absurd (cc)

pub unlisted_known : (c : Complex) → Accepted c → (L : ℕ) (s : List ℤ) → length s ≡ length c.edges → (f : Finding) → why_unlisted c L s ≡ Some f → Unlisted c L s f
unlisted_known c accepted L s long f h =
    record {
      why = h;
      says = says c L s f h;
      unlisted = λ listed. false≢true (ap is_none (sym h) ∙ none_in_basis c L s ∙ (in_basis_listed c accepted L s long).1 listed);
    }
