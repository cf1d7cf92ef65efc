-- What a product answers, by the test that decides it.
use Prim.Native.Nat.{ℕ, ◌≤◌, ◌<◌}
use mathlib.Core.List.{List}
use mathlib.Core.Bool.{true, false}
use mathlib.Core.Path.{◌≡◌, refl}
use borrow.Author.Tests.{lt-ltb, le-ltb}
use lib.Ieee.{Float}
use lib.ListN.{length}
use Rattle.mathematics.specs.Refusals.{value, refused}
use Rattle.mathematics.specs.Writing.{front}
use Rattle.mathematics.specs.Calls.{Answered}
use Rattle.mathematics.proofs.Calls.{none, here, past, refuses, ends}
use Rattle.matvec.specs.Product.{product, lengths_wrong, places_wrong, numbers_wrong, product_call}
use Rattle.matvec.proofs.Validity.{fit_valid}

module _ (starts columns : List ℕ) (values vector result : List Float) where
  pub lengths_told : lengths_wrong starts columns values vector ≡ true → Answered (product_call starts columns values vector result) (refused 12) result
  unfolding product_call
  lengths_told h = refuses _ (here h) refl

  module _ (fit : lengths_wrong starts columns values vector ≡ false) where
    pub places_told : places_wrong starts columns vector ≡ true → Answered (product_call starts columns values vector result) (refused 13) result
    unfolding product_call
    places_told h = refuses _ (past fit (here h)) refl

    module _ (placed : places_wrong starts columns vector ≡ false) where
      pub numbers_told : numbers_wrong values vector ≡ true → Answered (product_call starts columns values vector result) (refused 14) result
      unfolding product_call
      numbers_told h = refuses _ (past fit (past placed (here h))) refl

      module _ (right : numbers_wrong values vector ≡ false) where
        pub room_told : length result < length vector → Answered (product_call starts columns values vector result) (refused 15) result
        unfolding product_call
        room_told h = refuses _ (past fit (past placed (past right (here (lt-ltb _ _ h))))) refl

        pub product_told : length vector ≤ length result → Answered (product_call starts columns values vector result) (value (length vector)) (front (product starts columns values vector) result)
        unfolding product_call
        product_told h = ends _ (past fit (past placed (past right (past (le-ltb _ _ h) none)))) refl refl (fit_valid starts columns values vector fit placed right)
