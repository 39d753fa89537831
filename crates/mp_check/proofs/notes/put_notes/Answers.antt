use Rattle.mp_streams.proofs.OutLemmas.{puts_sooner, puts_then, writes_failed}
use Rattle.mp_check.specs.CheckTexts.{selected_bundle_notes}
use Rattle.mp_check.specs.Selections.{selected}
use Rattle.mp_check.proofs.notes.put_notes.Goals as goal

pub returns-in_err-put_all_wires : goal.returns-in_err-put_all_wires
returns-in_err-put_all_wires g c =
    writes_failed _ c.from_residual.ensures.0 (puts_sooner (selected_bundle_notes c.args.end.now.at.netlist.now (selected c.args.selection)) c.in_err-put_all_wires.ensures)

pub returns : goal.returns
returns g c = puts_then c.in_ok-put_all_wires.ensures c.put_bundle_notes.ensures
