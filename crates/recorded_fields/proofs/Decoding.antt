-- The numbers of a field, read into room for all of them.
use Prim.Native.Nat.{ℕ, ◌/◌, ◌≤◌}
use mathlib.Core.List.{List}
use mathlib.Core.Path.{◌≡◌, ap, ◌∙◌}
use lib.ListN.{length, take}
use Rattle.recorded.specs.Bytes.{numbers_in, ReadInto}
use Rattle.recorded.proofs.Reading.{length_numbers, read_whole}

pub all_read : {A : Type 0} (w : ℕ) (taken : ℕ → A) {bytes field : List ℕ} {old new : List A} {r : ℕ} → ReadInto (numbers_in w taken bytes) old new r → bytes ≡ field → length bytes / w ≤ length old → take r new ≡ numbers_in w taken field
all_read w taken {bytes} read e room = read_whole read (rw (length_numbers w taken bytes) room) ∙ ap (numbers_in w taken) e
