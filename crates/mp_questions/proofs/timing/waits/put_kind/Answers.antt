use Rattle.std.proofs.Common.{sym, subst}
use Rattle.mp_streams.specs.Outgoing.{Writes}
use Rattle.mp_modules.specs.declared.kind.Kind.{Kind}
use Rattle.mp_questions.specs.timing.Waits.{kind_wait}
use Rattle.mp_questions.proofs.timing.waits.put_kind.Goals as goal

pub returns-in-C : goal.returns-in-C
returns-in-C g c =
    let at = c.args.at.now in
    subst (λ (k : Kind). Writes c.put_rendezvous.result c.args.out.now c.put_rendezvous.new.out (kind_wait at.netlist.now c.args.id.0 c.args.found.now at.time k)) (sym c.in-C.is)
    (c.put_rendezvous.ensures c.args.id.0 c.requires.stands)

pub returns-in-Reg : goal.returns-in-Reg
returns-in-Reg g c =
    let at = c.args.at.now in
    subst (λ (k : Kind). Writes c.put_register.result c.args.out.now c.put_register.new.out (kind_wait at.netlist.now c.args.id.0 c.args.found.now at.time k)) (sym c.in-Reg.is)
    (c.put_register.ensures c.args.id.0 c.requires.stands)
