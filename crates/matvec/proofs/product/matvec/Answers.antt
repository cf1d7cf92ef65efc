use Rattle.matvec.proofs.Validity.{fit_valid}
use Rattle.matvec.proofs.Calls.{lengths_told, places_told, numbers_told, room_told, product_told}
use Rattle.matvec.proofs.product.matvec.Goals as goal

pub returns-then-starts-n : goal.returns-then-starts-n
returns-then-starts-n c = lengths_told _ _ _ _ _ c.if-starts-n.true

pub returns-then-starts_right-columns_right : goal.returns-then-starts_right-columns_right
returns-then-starts_right-columns_right c =
    places_told _ _ _ _ _ c.if-starts-n.false (rw (c.starts_right.ensures, c.columns_right.ensures) at c.if-starts_right-columns_right.true)

pub returns-then-values_right-all_bounded : goal.returns-then-values_right-all_bounded
returns-then-values_right-all_bounded c =
    numbers_told _ _ _ _ _ c.if-starts-n.false
    (rw (c.starts_right.ensures, c.columns_right.ensures) at c.if-starts_right-columns_right.false)
    (rw (c.values_right.ensures, c.all_bounded.ensures) at c.if-values_right-all_bounded.true)

pub returns-then-res-n : goal.returns-then-res-n
returns-then-res-n c =
    room_told _ _ _ _ _ c.if-starts-n.false
    (rw (c.starts_right.ensures, c.columns_right.ensures) at c.if-starts_right-columns_right.false)
    (rw (c.values_right.ensures, c.all_bounded.ensures) at c.if-values_right-all_bounded.false) c.if-res-n.true

pub multiply-requires : goal.multiply-requires
multiply-requires c = (
  fit_valid _ _ _ _ c.if-starts-n.false
      (rw (c.starts_right.ensures, c.columns_right.ensures) at c.if-starts_right-columns_right.false)
      (rw (c.values_right.ensures, c.all_bounded.ensures) at c.if-values_right-all_bounded.false),
  c.if-res-n.false,
)

pub returns : goal.returns
returns c =
    rw c.multiply.ensures
    (product_told _ _ _ _ _ c.if-starts-n.false
    (rw (c.starts_right.ensures, c.columns_right.ensures) at c.if-starts_right-columns_right.false)
    (rw (c.values_right.ensures, c.all_bounded.ensures) at c.if-values_right-all_bounded.false) c.if-res-n.false)
