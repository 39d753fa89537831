use Rattle.mp_modules.specs.declared.kind.Kind.TheVariants.{C}
use Rattle.mp_streams.proofs.OutLemmas.{puts_next, puts_stopped, writes_failed}
use Rattle.mp_exports.specs.verilog.Kinds.{kind_section}
use Rattle.mp_exports.proofs.verilog.kinds.put_kinds.Goals as goal

pub returns-in_err-put_kind : goal.returns-in_err-put_kind
returns-in_err-put_kind g c =
    writes_failed _ c.from_residual.ensures.0
    (puts_stopped (kind_section c.args.netlist.now) _ c.loop-kind.kind-index C c.loop-kind-test.true c.loop-kind.invariant c.in_err-put_kind.ensures)

pub loop-kind-preserved : goal.loop-kind-preserved
loop-kind-preserved g c =
    puts_next (kind_section c.args.netlist.now) _ c.loop-kind.kind-index C c.loop-kind-test.true c.loop-kind.invariant c.in_ok-put_kind.ensures
