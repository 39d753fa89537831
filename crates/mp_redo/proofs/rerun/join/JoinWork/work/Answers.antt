use Rattle.std.proofs.Common.{◌≡◌, ℕ, true, List, refl, sym, subst}
use Rattle.mp_model.specs.declared.response.in_piece.InPiece.{InPiece}
use Rattle.mp_model.specs.response.Pieces.{levels_at}
use Rattle.mp_model.specs.response.Span.{IsSpan}
use Rattle.mp_redo.proofs.rerun.join.JoinWork.work.Goals as goal

pub returns-clause-done : goal.returns-clause-done
returns-clause-done g c =
    let join = c.args.self in
    let span = subst (λ (pieces : List InPiece). IsSpan join.part (levels_at pieces) join.memory join.from join.to c.in_ok-piece.piece) c.as_slice.ensures.value c.in_ok-piece.ensures in
    record {
      entry_is = record { own = refl; begins = refl; ends = refl };
      comes = (c.in_ok-piece.piece, span, refl);
    }

pub returns-clause-passed : goal.returns-clause-passed
returns-clause-passed g c = λ m a b only.
    let join = c.args.self in
    let passed = g.G.Gate.passed c.args.gate.now in
    subst (λ (k : ℕ). passed k a b ≡ true) (sym only.0)
    (subst (λ (k : ℕ). passed join.«module».0 k b ≡ true) (sym only.1)
    (subst (λ (k : ℕ). passed join.«module».0 join.from k ≡ true) (sym only.2) c.enter.ensures))
