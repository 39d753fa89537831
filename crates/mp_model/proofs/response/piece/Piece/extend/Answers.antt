use Rattle.std.proofs.Common.{◌++◌, ap, ◌∙◌}
use Rattle.mp_modules.specs.declared.finding_set.FindingSet.{FindingSet}
use Rattle.mp_model.specs.response.Span.{findings_of}
use Rattle.mp_model.proofs.response.piece.Piece.extend.Goals as goal

pub returns : goal.returns
returns c = record {
  ok = record {
    memory = c.next_state-after.ensures;
    ports = c.in_ok-extend.ensures.ports;
    outputs = c.in_ok-extend.ensures.each;
    findings =
        c.in_ok-extend-2.ensures.ok ∙ ap (λ (set : FindingSet). c.args.self.now.findings ++ findings_of c.args.time set) c.found_at-found.ensures;
  };
}
