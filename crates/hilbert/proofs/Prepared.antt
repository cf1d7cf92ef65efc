-- A prepared basis, as a call on a record uses it.
use Rattle.std.proofs.Common.{◌≡◌, ℕ, ◌*◌, List, length, ap, ltb, ℤ, ne_eqb}
use Rattle.mathematics.specs.Refusals.{refused}
use Rattle.mathematics.specs.Calls.{Call, Answered}
use Rattle.mathematics.proofs.Calls.{Tells, refuses}
use Rattle.complex.specs.Complex.{Complex}
use Rattle.gauss_law.specs.Listing.{states}
use Rattle.walker.specs.Tables.{states_of}
use Rattle.walker.specs.Blocks.{StatesWritten}
use Rattle.answers.specs.declared.refusal.Refusal.{Refusal}
use Rattle.answers.specs.Refusal.{refusal_number}
use Rattle.answers.proofs.Numbers.{number_positive}
use Rattle.enumeration.specs.declared.basis.Basis.{Basis}
use Rattle.enumeration.specs.Basis.{BasisOf}
use Rattle.enumeration.specs.Enumeration.{short, basis_first, BasisWalks}
use Rattle.enumeration.proofs.Enumerating.{short_told, basis_written}

-- a refusal is what a call answers by whose tests it is told
pub told_refused : {A B : Type 0} (call : Call A B) (e : Refusal) → Tells call.tests (refusal_number e) → Answered call (refused (refusal_number e)) call.before
told_refused call e t = refuses call t (ne_eqb (refusal_number e) 0 (number_positive e))

module _ {c : Complex} {L : ℕ} {b : Basis} (basis : BasisOf c L b) where
  pub walks_by : BasisWalks c b.lambda b.walker b.blocks
  walks_by = rw basis.truncated basis.walks

  -- its states are those of the record
  pub states_listed : length (states_of b.walker b.lambda b.blocks) ≡ length (states c L)
  states_listed = rw basis.truncated (ap length basis.walks.listed)

  pub short_by : (room : ℕ) → short c L room ≡ ltb room (length (states_of b.walker b.lambda b.blocks) * b.walker.n_edges)
  short_by room = rw basis.truncated (short_told c L b.walker b.blocks basis.walks room)

  pub written_by : (old new : List ℤ) (r : ℕ) → StatesWritten (states_of b.walker b.lambda b.blocks) old new r → (r ≡ length (states c L)) × (new ≡ basis_first c L old)
  written_by old new r h = basis_written c L b.walker b.blocks basis.walks old new r (rw basis.truncated at h)
