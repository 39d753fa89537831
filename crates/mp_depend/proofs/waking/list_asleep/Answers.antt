use Rattle.std.proofs.Common.{◌++◌, List, [], ◌∷◌, subst, sym}
use Rattle.mp_records.specs.declared.ids.ModuleId.{ModuleId}
use Rattle.mp_partition.specs.runs.Marks.{is_marked}
use Rattle.mp_depend.specs.Hearing.{AreHearing}
use Rattle.mp_depend.proofs.HearingLemmas.{hearing_more}
use Rattle.mp_depend.proofs.waking.list_asleep.Goals as goal

pub returns : goal.returns
returns c before are =
    subst (λ (ids : List ModuleId). AreHearing (is_marked c.args.active.now) (before ++ c.args.entry ∷ []) ids) (sym c.in_ok-push.ensures.items)
    (hearing_more (is_marked c.args.active.now) before c.args.entry c.args.joining.now.items c.requires.some c.if-active-entry.false are)
