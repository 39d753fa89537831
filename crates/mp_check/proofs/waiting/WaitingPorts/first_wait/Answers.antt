use Rattle.std.proofs.Common.{Option, ap, ◌∙◌}
use Rattle.std.specs.Option.{option_or, option_to_list}
use Rattle.mp_check.specs.declared.wait.Wait.{Wait}
use Rattle.mp_check.proofs.AwaitedLemmas.{first_four}
use Rattle.mp_check.proofs.waiting.WaitingPorts.first_wait.Goals as goal

pub returns-clause-value : goal.returns-clause-value
returns-clause-value c =
    let n = c.args.self.now.end.at.netlist.now in
    let of = c.args.of.now in
    let found = c.args.found in
    c.or.ensures ∙ ap (λ (o : Option Wait). option_or o c.wait_at-3.result) (c.or-third.ensures ∙ ap (λ (o : Option Wait). option_or o c.wait_at-2.result) c.or-second.ensures)
    ∙ first_four n of.id.0 of.part.now (option_to_list found.first) (option_to_list found.second) (option_to_list found.third) (option_to_list found.fourth)
    c.wait_at-first.result c.wait_at.result c.wait_at-2.result c.wait_at-3.result
    c.wait_at-first.ensures.value c.wait_at.ensures.value c.wait_at-2.ensures.value c.wait_at-3.ensures.value
