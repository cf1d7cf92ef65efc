-- A piece was written, and each leaves less to come. Of a text that the first piece begins, all up to the end of the piece was written.
use Rattle.std.proofs.Common.{ℕ, List, length, take, ◌≡◌, ◌+◌}
use Rattle.std.specs.Prelude.{IfSome}
use Rattle.std.specs.Io.KnownBytes.{Appends}
use Rattle.pages.specs.Pages.{rest_of, PageReady, Piece}
use Rattle.basis.proofs.print.Given as goal

abbrev pub invariant-loop-piece : goal.invariant-loop-piece
invariant-loop-piece g l =
    record {
      long : length l.out ≡ length l.initial.out;
      ready : IfSome l.piece.next PageReady;
      given : (text : List ℕ) → Piece text 0 l.initial.out l.initial.piece → (place : ℕ) × (Piece text place l.out l.piece)
          × (Appends (g.W.Write.contents l.fn.output) (g.W.Write.contents l.output) (take (place + l.piece.len) text));
    }

abbrev pub decreases-loop-piece : goal.decreases-loop-piece
decreases-loop-piece g l = length (rest_of l.piece.next)
