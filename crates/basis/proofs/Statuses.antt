-- The statuses stand in the order of their digits.
use mathlib.Core.Path.{◌≡◌, refl}
use Rattle.std.proofs.Common.{◌+◌}
use denote.Enum.Declared.{tag_of}
use Rattle.basis.specs.Status.{status_digit}
use Rattle.basis.specs.contracts.Status.{the_type}
use Rattle.basis.specs.declared.Status.{Status}
use Rattle.basis.specs.declared.Status.TheVariants.{Answered, Refused, WrongUsage, Failed}

pub digit_is : (s : Status) → 48 + tag_of the_type s ≡ status_digit s
unfolding status_digit
digit_is Answered = refl
digit_is Refused = refl
digit_is WrongUsage = refl
digit_is Failed = refl
