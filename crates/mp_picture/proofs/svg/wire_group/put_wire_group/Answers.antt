use Rattle.std.proofs.Common.{[], ◌∷◌, ◌++◌, codes}
use Rattle.mp_streams.proofs.OutLemmas.{puts_then, puts_sooner, writes_failed}
use Rattle.mp_picture.specs.svg.WireGroups.{wire_shape}
use Rattle.mp_picture.proofs.svg.wire_group.put_wire_group.Goals as goal

pub returns-in_err-put_wire_start : goal.returns-in_err-put_wire_start
returns-in_err-put_wire_start g c =
    writes_failed _ c.from_residual.ensures.0
    (puts_sooner (wire_shape c.args.lane c.args.wire.now.width c.args.cells.now ++ (codes "</g>" ++ 10 ∷ [])) c.in_err-put_wire_start.ensures)

pub returns-in_err-put_shape : goal.returns-in_err-put_shape
returns-in_err-put_shape g c =
    writes_failed _ c.from_residual-in_err-put_shape.ensures.0
    (puts_then c.in_ok-put_wire_start.ensures (puts_sooner (codes "</g>" ++ 10 ∷ []) c.in_err-put_shape.ensures))

pub returns : goal.returns
returns g c = puts_then c.in_ok-put_wire_start.ensures (puts_then c.in_ok-put_shape.ensures c.put_text.ensures)
