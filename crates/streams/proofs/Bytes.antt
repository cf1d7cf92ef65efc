-- What stands in a list after a part of it was read or written.
use Rattle.std.proofs.Common.{ℕ, ◌+◌, ◌-◌, ◌≤◌, List, ◌++◌, ◌≡◌, sym, ap, ◌∙◌, arith, length, take, drop, length-take-le}
use borrow.Rule.Slice.PartMut.{put_mid, post_of}
use lib.Seq.{take-add, take-append-le, take-append-add}
use Rattle.std.proofs.lemmas.List.{take-take}

-- the bytes up to a place, and some of those behind it
pub given_up_to : (bytes : List ℕ) (n moved : ℕ) → n + moved ≤ length bytes → take n bytes ++ take moved (take (length bytes - n) (drop n bytes)) ≡ take (n + moved) bytes
given_up_to bytes n moved fits =
    ap (λ l. take n bytes ++ l) (take-take moved (length bytes - n) (drop n bytes) (omega arith)) ∙ sym (take-add n moved bytes)

-- the same where those behind the place were put there
pub taken_up_to : (n room moved : ℕ) (list part : List ℕ) → n ≤ length list → moved ≤ length part → take n list ++ take moved part ≡ take (n + moved) (put_mid n room list part)
taken_up_to n room moved list part within fits =
    let front : length (take n list) ≡ n = length-take-le n list within in
    let behind = post_of n room list in
    sym
    (ap (λ k. take (k + moved) (put_mid n room list part)) (sym front)
    ∙ take-append-add (take n list) (part ++ behind) moved
    ∙ ap (λ l. take n list ++ l) (take-append-le moved part behind fits))
