-- The variants of a refusal stand in the order of their numbers.
use mathlib.Core.Path.{◌≡◌, refl}
use Rattle.std.proofs.Common.{◌+◌, ◌≤◌, arith}
use denote.Enum.Declared.{tag_of}
use borrow.Enum.Match.{tag_small}
use Rattle.answers.specs.Refusal.{refusal_number, unplaced_number}
use Rattle.answers.specs.contracts.refusal.Refusal.{the_type}
use Rattle.answers.specs.declared.finding.Finding.{Finding}
use Rattle.answers.specs.declared.finding.Unplaced.{Unplaced}
use Rattle.answers.specs.declared.finding.Unplaced.TheVariants.{Refused, NotInBasis}
use Rattle.answers.specs.declared.refusal.Refusal.{Refusal}
use Rattle.answers.specs.declared.refusal.Refusal.TheVariants.{ShortSheet, NoMark, OtherVersion, WrongCounts, LargeTruncation, WrongLength, WrongEdge, WrongTriangle, Disconnected, ManyCandidates, WrongPentachoron, WrongListLength, OutOfRange, WrongFloat, NoRoom, OutOfBand}

pub numbered : (r : Refusal) → tag_of the_type r + 1 ≡ refusal_number r
numbered ShortSheet = refl
numbered NoMark = refl
numbered OtherVersion = refl
numbered WrongCounts = refl
numbered LargeTruncation = refl
numbered WrongLength = refl
numbered WrongEdge = refl
numbered WrongTriangle = refl
numbered Disconnected = refl
numbered ManyCandidates = refl
numbered WrongPentachoron = refl
numbered WrongListLength = refl
numbered OutOfRange = refl
numbered WrongFloat = refl
numbered NoRoom = refl
numbered OutOfBand = refl

-- no reason has the number 17
pub number_few : (r : Refusal) → refusal_number r ≤ 16
number_few r = let e = numbered r in let few = tag_small the_type r in omega (arith, e)

-- or the number 0
pub number_positive : (r : Refusal) → refusal_number r ≡ 0 → ⊥
number_positive r h = let e = numbered r in omega (arith, e)

-- only a finding has the number 17
pub carried : (u : Unplaced) → unplaced_number u ≡ 17 → (f : Finding) × (u ≡ NotInBasis f)
carried (Refused r) h = absurd (omega (arith, h, number_few r))
carried (NotInBasis f) h = (f, refl)
