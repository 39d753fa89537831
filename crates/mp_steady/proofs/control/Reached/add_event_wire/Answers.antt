use Rattle.std.proofs.Common.{◌≡◌, true, sym, ◌∙◌, arith}
use Rattle.std.proofs.lemmas.Bool.{true≢false}
use Rattle.mp_steady.specs.WireSets.{has_events}
use Rattle.mp_steady.proofs.ControlLemmas.{event_needed, events_next, has_grown}
use Rattle.mp_steady.proofs.control.Reached.add_event_wire.Goals as goal

pub returns-then-not-has_events : goal.returns-then-not-has_events
returns-then-not-has_events c =
    let n = c.args.netlist.now in
    let order = c.args.self.now.order.items in
    record {
      reached = c.requires.reached;
      events = events_next n c.args.wire.0 order order c.requires.events (λ w has. has) (λ is. absurd (true≢false (sym is ∙ sym c.has_events.ensures ∙ c.if-not-has_events.true)));
    }

pub returns : goal.returns
returns c =
    let n = c.args.netlist.now in
    let old = c.args.self.now.order.items in
    let new = c.add.new.self.order.items in
    let is : has_events n c.args.wire.0 ≡ true = sym c.has_events.ensures ∙ c.if-not-has_events.false in
    let reached = c.in_ok-add.ensures.reached n c.requires.reached (event_needed n c.args.wire.0 is) in
    record {
      reached = reached;
      events = events_next n c.args.wire.0 old new c.requires.events (has_grown old c.in_ok-add.ensures.more.0 new c.in_ok-add.ensures.more.1)
          (λ one. sym (reached.listed c.args.wire.0) ∙ c.in_ok-add.ensures.marked);
    }

pub add-requires : goal.add-requires
add-requires c = omega (arith, c.requires.reached.places, c.requires.within)
