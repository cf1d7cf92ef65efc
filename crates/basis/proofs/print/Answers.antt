-- Each piece leaves less to come, and the next one stands in the list. What was written and the piece are the beginning of a text.
use Rattle.std.proofs.Common.{◌≡◌, ℕ, ◌+◌, ◌<◌, List, Some, refl, sym, ap, ◌∙◌, arith, length, length-take-le, subst}
use Rattle.std.specs.Io.KnownBytes.{Appends}
use lib.ListN.{length-drop}
use Rattle.std.proofs.KnownBytes.{Appends-nil, Appends-kept}
use Rattle.pages.specs.declared.Page.{Page}
use Rattle.pages.specs.declared.Filled.{Filled}
use Rattle.pages.specs.Pages.{to_come, rest_of, follows, PageAt, Piece, Continues}
use Rattle.basis.proofs.Writing.{written, to_the_end, on_ok}
use Rattle.basis.proofs.print.Goals as goal

-- the piece after a page, of what is to come after it
next : (p : Page) (out : List ℕ) (r : Filled) → Continues out p r → Piece (to_come p) 0 out r
next p out r more = more (to_come p) 0 (record { rest = refl; inside = omega arith })

-- each piece leaves less to come
less : (text out : List ℕ) (r : Filled) → Piece text 0 out r → length (rest_of r.next) < length text
less text out r piece = omega (arith, piece.some, piece.inside, ap length piece.rest, length-drop (0 + r.len) text)

-- where a page follows, it stands behind the piece
behind : (text out : List ℕ) (place : ℕ) (r : Filled) (p : Page) → Piece text place out r → r.next ≡ Some p → PageAt text (place + r.len) p
behind text out place r p piece is = record { rest = rw is at piece.rest; inside = piece.inside }

pub loop-piece-init : goal.loop-piece-init
loop-piece-init g c =
    record {
      long = refl;
      ready = c.requires.2;
      given = λ text first. (0, first, written _ _ _ text _ 0 c.args.first first (Appends-nil (g.W.Write.contents c.args.output.now)) c.in_ok-put.ensures);
    }

pub fill_more-piece-requires : goal.fill_more-piece-requires
fill_more-piece-requires g c = (omega (arith, c.requires.0, c.loop-piece.invariant.long), rw c.in-Some.is at c.loop-piece.invariant.ready)

pub loop-piece-smaller : goal.loop-piece-smaller
loop-piece-smaller g c =
    let piece = next _ _ _ c.fill_more-piece.ensures in
    let came : length (rest_of c.loop-piece.piece.next) ≡ length (to_come c.in-Some.page) = ap (λ q. length (rest_of q)) c.in-Some.is in
    omega (arith, came, less _ _ _ piece)

pub loop-piece-preserved : goal.loop-piece-preserved
loop-piece-preserved g c =
    let piece : Piece (to_come c.in-Some.page) 0 c.fill_more-piece.new.out c.fill_more-piece.result =
    next _ _ _ c.fill_more-piece.ensures in
    record {
      long = c.fill_more-piece.auto.out ∙ c.loop-piece.invariant.long;
      ready = piece.ready;
      given = λ text first.
          let (place, at, before) = c.loop-piece.invariant.given text first in
          let more = c.fill_more-piece.ensures text (place + c.loop-piece.piece.len) (behind text _ place c.loop-piece.piece c.in-Some.page at c.in-Some.is) in
          (place + c.loop-piece.piece.len, more, written _ _ _ text _ _ c.fill_more-piece.result more before c.in_ok-put-2.ensures);
    }

pub slice_bounds-put-end-in-Some : goal.slice_bounds-put-end-in-Some
slice_bounds-put-end-in-Some g c = (next _ _ _ c.fill_more-piece.ensures).fits

pub slice_bounds-put-end-in-Some-2 : goal.slice_bounds-put-end-in-Some-2
slice_bounds-put-end-in-Some-2 g c = sym (length-take-le _ _ (next _ _ _ c.fill_more-piece.ensures).fits)

pub returns : goal.returns
returns g c =
    on_ok _ c.flush.result
    (λ text first.
    let (place, at, all) = c.loop-piece.invariant.given text first in
    subst (Appends _ _) (to_the_end text _ place _ at (ap follows c.in_default.is)) (Appends-kept _ _ _ _ all c.flush.ensures.bytes))
