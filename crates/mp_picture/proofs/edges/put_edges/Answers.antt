use Rattle.std.proofs.Common.{ℕ}
use Rattle.mp_records.specs.declared.ids.ModuleId.{ModuleId}
use Rattle.mp_streams.proofs.OutLemmas.{puts_next, puts_stopped, writes_failed}
use Rattle.mp_picture.specs.Graphs.{edge}
use Rattle.mp_picture.proofs.edges.put_edges.Goals as goal

abbrev none : ModuleId × ℕ
none = (record { 0 = 0 }, 0)

pub returns-in_err-put_edge : goal.returns-in_err-put_edge
returns-in_err-put_edge g c =
    writes_failed _ c.from_residual.ensures.0
    (puts_stopped (edge c.args.netlist.now c.args.wire.0 c.args.driver) _ c.loop-reader.reader-index none c.loop-reader-test.true c.loop-reader.invariant c.in_err-put_edge.ensures)

pub loop-reader-preserved : goal.loop-reader-preserved
loop-reader-preserved g c =
    puts_next (edge c.args.netlist.now c.args.wire.0 c.args.driver) _ c.loop-reader.reader-index none c.loop-reader-test.true c.loop-reader.invariant c.in_ok-put_edge.ensures
