use Rattle.mp_streams.proofs.OutLemmas.{puts_next, puts_stopped, writes_failed}
use Rattle.mp_questions.specs.declared.causes.module_share.ModuleShare.{ModuleShare}
use Rattle.mp_steady.specs.SteadyLines.{module_line}
use Rattle.mp_steady.proofs.lines.put_modules.Goals as goal

abbrev none : ModuleShare
none = record { id = record { 0 = 0 }; units = 0; steps = 0 }

pub returns-in_err-put_module : goal.returns-in_err-put_module
returns-in_err-put_module g c =
    writes_failed _ c.from_residual.ensures.0
    (puts_stopped (module_line c.args.netlist.now) _ c.loop-share.share-index none c.loop-share-test.true c.loop-share.invariant c.in_err-put_module.ensures)

pub loop-share-preserved : goal.loop-share-preserved
loop-share-preserved g c =
    puts_next (module_line c.args.netlist.now) _ c.loop-share.share-index none c.loop-share-test.true c.loop-share.invariant c.in_ok-put_module.ensures
