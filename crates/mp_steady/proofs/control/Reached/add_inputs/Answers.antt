use Rattle.std.proofs.Common.{◌≡◌, ℕ, ◌<◌, ◌≤◌, ◌++◌, true, List, [], length, get_or, append-nil, append_assoc, ap, sym, subst, ◌∙◌, arith}
use Rattle.mp_records.specs.declared.ids.WireId.{WireId}
use Rattle.mp_records.specs.declared.ports.Input.{Input}
use Rattle.mp_records.specs.Inputs.{no_input}
use Rattle.mp_steady.specs.Reaching.{IsNeeded}
use Rattle.mp_steady.specs.WireSets.{has_inputs, has_wire, numbers, wire_inputs}
use Rattle.mp_steady.proofs.ControlLemmas.{followed_next, has_grown, input_needed, inputs_all, inputs_next, listed_at, stands_low}
use Rattle.mp_steady.proofs.control.Reached.add_inputs.Goals as goal

pub loop-input-init : goal.loop-input-init
loop-input-init c = record {
  reached = c.requires.reached;
  more = ([], sym (append-nil c.args.self.now.order.items));
  upto = λ k d upto low. absurd (omega (arith, upto));
}

pub add-requires : goal.add-requires
add-requires c =
    let n = c.args.of.netlist.now in
    let order = c.args.self.now.order.items in
    let w : ℕ = (get_or order c.args.place c.index.result.now).0 in
    let items = c.wire_inputs-input-items.result.now in
    let all : items ≡ wire_inputs n w = c.wire_inputs-input-items.ensures ∙ ap (λ (v : WireId). wire_inputs n v.0) c.index.ensures in
    let k = c.loop-input.input-index in
    let low : k < length (wire_inputs n w) = omega (arith, c.loop-input-test.true, ap length all) in
    let one = input_needed n c.requires.form w (listed_at n c.args.self.now.marks.items order c.requires.reached c.args.place c.index.result.now c.requires.within) k no_input low in
    let is : IsNeeded n (get_or items k no_input).wire.0 = subst (λ (l : List Input). IsNeeded n (get_or l k no_input).wire.0) (sym all) one in
    let within = stands_low n (get_or items k no_input).wire.0 is.stands in
    omega (arith, within, c.loop-input.invariant.reached.places)

pub loop-input-preserved : goal.loop-input-preserved
loop-input-preserved c =
    let n = c.args.of.netlist.now in
    let order = c.args.self.now.order.items in
    let w : ℕ = (get_or order c.args.place c.index.result.now).0 in
    let items = c.wire_inputs-input-items.result.now in
    let all : items ≡ wire_inputs n w = c.wire_inputs-input-items.ensures ∙ ap (λ (v : WireId). wire_inputs n v.0) c.index.ensures in
    let k = c.loop-input.input-index in
    let low : k < length (wire_inputs n w) = omega (arith, c.loop-input-test.true, ap length all) in
    let one = input_needed n c.requires.form w (listed_at n c.args.self.now.marks.items order c.requires.reached c.args.place c.index.result.now c.requires.within) k no_input low in
    let is : IsNeeded n (get_or items k no_input).wire.0 = subst (λ (l : List Input). IsNeeded n (get_or l k no_input).wire.0) (sym all) one in
    let kept = c.loop-input.invariant in
    let says = c.in_ok-add.ensures in
    let reached = says.reached n kept.reached is in
    record {
      reached = reached;
      more = (kept.more.0 ++ says.more.0, says.more.1 ∙ ap (λ (l : List WireId). l ++ says.more.0) kept.more.1 ∙ append_assoc order kept.more.0 says.more.0);
      upto = inputs_next items k no_input c.loop-input.self.order.items says.more.0 c.add.new.self.order.items says.more.1 kept.upto
          (sym (reached.listed (get_or items k no_input).wire.0) ∙ says.marked);
    }

pub returns : goal.returns
returns c =
    let n = c.args.of.netlist.now in
    let order = c.args.self.now.order.items in
    let w : ℕ = (get_or order c.args.place c.index.result.now).0 in
    let items = c.wire_inputs-input-items.result.now in
    let all : items ≡ wire_inputs n w = c.wire_inputs-input-items.ensures ∙ ap (λ (v : WireId). wire_inputs n v.0) c.index.ensures in
    let new = c.loop-input.self.order.items in
    let kept = c.loop-input.invariant in
    let over : length items ≤ c.loop-input.input-index = omega (arith, c.loop-input-test.false) in
    let each : (j : ℕ) (e : Input) → j < length items → has_wire (numbers new) (get_or items j e).wire.0 ≡ true = λ j e low. kept.upto j e (omega (arith, low, over)) low in
    let now : has_inputs n (numbers new) w ≡ true =
    inputs_all n w (numbers new) (subst (λ (l : List Input). (j : ℕ) (e : Input) → j < length l → has_wire (numbers new) (get_or l j e).wire.0 ≡ true) all each) in
    record {
      reached = kept.reached;
      followed = followed_next n c.args.place order kept.more.0 new c.index.result.now c.requires.within kept.more.1 c.requires.followed now;
      kept = has_grown order kept.more.0 new kept.more.1;
    }
