use Rattle.mp_streams.proofs.OutLemmas.{puts_next, puts_stopped, writes_failed}
use Rattle.mp_questions.specs.declared.causes.module_share.ModuleShare.{ModuleShare}
use Rattle.mp_questions.specs.causes.Paths.{share_line}
use Rattle.mp_questions.proofs.causes.path.put_shares.Goals as goal

abbrev none : ModuleShare
none = record { id = record { 0 = 0 }; units = 0; steps = 0 }

pub returns-in_err-put_share : goal.returns-in_err-put_share
returns-in_err-put_share g c =
    writes_failed _ c.from_residual.ensures.0
    (puts_stopped (share_line c.args.netlist.now) _ c.loop-share.share-index none c.loop-share-test.true c.loop-share.invariant c.in_err-put_share.ensures)

pub loop-share-preserved : goal.loop-share-preserved
loop-share-preserved g c =
    puts_next (share_line c.args.netlist.now) _ c.loop-share.share-index none c.loop-share-test.true c.loop-share.invariant c.in_ok-put_share.ensures
