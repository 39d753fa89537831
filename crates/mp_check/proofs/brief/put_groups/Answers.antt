use Rattle.mp_streams.proofs.OutLemmas.{puts_next, puts_stopped, writes_failed}
use Rattle.mp_check.specs.Briefs.{group_line}
use Rattle.mp_check.specs.declared.group.Group.{Group}
use Rattle.mp_check.specs.declared.problem.Problem.TheVariants.{Found}
use Rattle.mp_modules.specs.declared.finding_code.FindingCode.TheVariants.{MergeCollision}
use Rattle.mp_model.specs.Findings.{module_place}
use Rattle.mp_check.proofs.brief.put_groups.Goals as goal

abbrev none : Group
none = record { first = Found (record { time = 0; place = module_place 0; code = MergeCollision }); count = 0; last = 0; worst = 0 }

pub returns-in_err-put_group : goal.returns-in_err-put_group
returns-in_err-put_group g c =
    writes_failed _ c.from_residual.ensures.0 (puts_stopped (group_line c.args.netlist.now) _ c.loop-group.group-index none c.loop-group-test.true c.loop-group.invariant c.in_err-put_group.ensures)

pub loop-group-preserved : goal.loop-group-preserved
loop-group-preserved g c = puts_next (group_line c.args.netlist.now) _ c.loop-group.group-index none c.loop-group-test.true c.loop-group.invariant c.in_ok-put_group.ensures
