use Rattle.std.proofs.Common.{◌≡◌, Ok, sym, subst, rules}
use Rattle.mp_netlist.specs.Circuit.{Circuit}
use Rattle.mp_netlist.specs.Edits.{after}
use Rattle.mp_depend.specs.work.Revisions.{IsRevision}
use Rattle.mp_version.specs.Stories.{present}
use Rattle.mp_session.proofs.session.Session.prepared.Goals as goal

pub redo_edit-requires-clause-after : goal.redo_edit-requires-clause-after
redo_edit-requires-clause-after g c = λ asked lives.
    let here : c.now-now.result.now ≡ present c.args.self.now.story = search rules in
    subst (λ (n : Circuit). after n c.args.edit ≡ Ok c.args.next) (sym here) c.requires.accepted

pub redo_edit-requires-clause-revision : goal.redo_edit-requires-clause-revision
redo_edit-requires-clause-revision g c = λ asked lives.
    let here : c.now-now.result.now ≡ present c.args.self.now.story = search rules in
    subst (λ (n : Circuit). IsRevision n c.args.next) (sym here) (c.edits_revise.ensures (present c.args.self.now.story) c.args.next c.args.edit c.requires.accepted)
