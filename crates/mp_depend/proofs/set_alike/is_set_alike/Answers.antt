use Rattle.std.proofs.Common.{ap, sym, ◌∙◌}
use Rattle.std.proofs.lemmas.Bool.{false≢true}
use Rattle.mp_netlist.specs.Circuit.{stimulus_in}
use Rattle.mp_netlist.proofs.DriverLemmas.{finds_only_ports}
use Rattle.mp_depend.proofs.SetAlikeLemmas.{stands, portless}
use Rattle.mp_depend.proofs.set_alike.is_set_alike.Goals as goal

pub returns-in-Port : goal.returns-in-Port
returns-in-Port c = (
  λ no. absurd (false≢true no),
  λ alike. absurd (alike.portless c.in-Port.field-0.0 c.in-Port.field-1 (finds_only_ports c.args.old.now c.args.wire.0 c.in-Port.field-1 c.in-Port.field-0 (sym c.requires ∙ c.in-Port.is))),
)

pub returns : goal.returns
returns c = (
  λ same. record {
    before = stands _ _ (sym c.in-Some.ensures.value);
    after = stands _ _ (sym c.in-Some-wire.ensures.value);
    portless = portless c.args.old.now c.horizon-horizon.ensures.form c.args.wire.0 c.args.was c.requires c.in_default.not-Port;
    stimulus = ap stimulus_in (sym c.in-Some.ensures.value) ∙ c.same_option.ensures.0 same ∙ ap stimulus_in c.in-Some-wire.ensures.value;
  },
  λ alike. c.same_option.ensures.1 (ap stimulus_in c.in-Some.ensures.value ∙ alike.stimulus ∙ sym (ap stimulus_in c.in-Some-wire.ensures.value)),
)
