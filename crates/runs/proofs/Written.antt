-- States written to a list, some behind others.
use Rattle.std.proofs.Common.{◌≡◌, ℕ, ◌+◌, ◌*◌, ◌≤◌, List, [], ◌++◌, append_assoc, ℤ, length, sym, ap, refl, ◌∙◌, arith, length-append}
use Rattle.std.proofs.Math.Nat.{mul-le-mul_right, add-mul}
use mathlib.Core.List.{flatten, append-nil}
use Rattle.mathematics.proofs.Puts.{put_none, put_behind}
use Rattle.mathematics.proofs.Flat.{flatten_append}
use Rattle.walker.specs.Blocks.{WrittenAt, StatesWritten}

pub none_written : {states : List (List ℤ)} {d : List ℤ} {at : ℕ} → states ≡ [] → WrittenAt states d d at 0
unfolding flatten
none_written {d = d} {at} none = rw none (record { count = refl; list = sym (put_none d at) })

pub more_written : {a b : List (List ℤ)} {old list new : List ℤ} {at number place more : ℕ} → WrittenAt a old list at number → place ≡ at + length (flatten a) → place ≤ length old → WrittenAt b list new place more → WrittenAt (a ++ b) old new at (number + more)
more_written {a} {b} {old} {at = at} one here room two =
    record { count = omega (arith, one.count, two.count, length-append a b); list = put_behind old (flatten a) (flatten b) at one.list here room two.list (flatten_append a b) }

-- ---- all states of a walk
-- so many of all states, of m entries each, stand in a list that was another, and these are the rest
pub record SoFar (all : List (List ℤ)) (m number : ℕ) (rest : List (List ℤ)) (old now : List ℤ) : Type 0 where
  pub done : List (List ℤ)
  pub split : all ≡ done ++ rest
  pub count : number + length rest ≡ length all
  pub entries : length (flatten done) ≡ number * m
  pub room : number * m ≤ length old
  pub written : StatesWritten done old now number

pub nothing_yet : {all rest : List (List ℤ)} {m : ℕ} {old : List ℤ} → rest ≡ all → SoFar all m 0 rest old old
unfolding flatten
nothing_yet is = record { done = []; split = sym is; count = omega (arith, ap length is); entries = omega arith; room = omega arith; written = none_written refl }

pub all_written : {all : List (List ℤ)} {m number : ℕ} {rest : List (List ℤ)} {old now : List ℤ} → SoFar all m number rest old now → rest ≡ [] → StatesWritten all old now number
all_written so none = rw (so.split, none, append-nil so.done) so.written

-- some more
module _ {all : List (List ℤ)} {m number : ℕ} {rest : List (List ℤ)} {old now : List ℤ} (so : SoFar all m number rest old now) where
  pub room_for : {some : ℕ} → some ≤ length rest → length all * m ≤ length old → number * m + some * m ≤ length old
  room_for {some} few enough =
      let fewer : number + some ≤ length all = omega (arith, so.count) in
      omega (arith, enough, mul-le-mul_right m fewer, add-mul number some m)

  pub some_more : (rows after : List (List ℤ)) → rest ≡ rows ++ after → length all * m ≤ length old → length (flatten rows) ≡ length rows * m → {k : ℕ} {more : List ℤ} → WrittenAt rows now more (number * m) k → SoFar all m (number + k) after old more
  some_more rows after is enough flat {k} two =
      let sizes : length rest ≡ k + length after = ap length is ∙ length-append rows after ∙ ap (λ n. n + length after) (sym two.count) in
      record {
        done = so.done ++ rows;
        split = so.split ∙ ap (λ l. so.done ++ l) is ∙ sym (append_assoc so.done rows after);
        count = omega (arith, so.count, sizes);
        entries = rw (flatten_append so.done rows, length-append (flatten so.done) (flatten rows)) (omega (arith, so.entries, flat, ap (λ n. n * m) two.count, add-mul number k m));
        room = omega (arith, add-mul number k m, room_for {some = k} (omega (arith, sizes)) enough);
        written = more_written so.written (omega (arith, so.entries)) (omega (arith, so.room)) two;
      }
