use Rattle.std.proofs.Common.{◌<◌, ◌≤◌, ℕ, Bool, None, length, slice_index_or, take, subst, arith}
use Rattle.std.proofs.lemmas.List.{get_or_default}
use Rattle.mp_records.specs.declared.ports.Output.{Output}
use Rattle.mp_redo.specs.rerun.Returning.{AreBack, IsNextBack, is_output}
use Rattle.mp_redo.proofs.lemmas.rerun.BackLemmas.{none_back, output_more, next_own, next_fresh, all_back}
use Rattle.mp_redo.proofs.rerun.rerun.Rerun.put_outputs.Goals as goal

pub loop-port-init : goal.loop-port-init
loop-port-init c = λ numbering since can.
    none_back c.args.change.now.old.now c.args.change.now.new.now c.args.change.now.run.now numbering since c.args.now c.args.id.0 c.args.self.now can

pub put_output-requires-clause-next : goal.put_output-requires-clause-next
put_output-requires-clause-next c =
    let items = c.as_slice-output-items.result.now in
    let k = c.loop-port.port in
    let none : Output = record { wire = None; delay = 0 } in
    let here = slice_index_or items k none in
    let low : k < length items = omega arith in
    let is = get_or_default items k none here low in
    let old = c.args.change.now.old.now in
    let new = c.args.change.now.new.now in
    let run = c.args.change.now.run.now in
    let ok = c.requires.change.form in
    let m = c.args.id.0 in
    let r = c.args.found.now in
    let same = c.as_slice-output-items.ensures in
    record {
      numbering = c.requires.can.0;
      since = c.requires.can.1;
      part = r;
      stands = c.requires.stands;
      own = next_own old new run ok c.args.now m r c.requires.stands c.args.self.now items same k here low is;
      start = c.args.self.now;
      can = c.requires.can.2;
      wires = is_output (take k items);
      back = c.loop-port.invariant c.requires.can.0 c.requires.can.1 c.requires.can.2;
      fresh = next_fresh old new run ok c.args.now m r c.requires.stands c.args.self.now items same k here low is;
    }

pub loop-port-preserved : goal.loop-port-preserved
loop-port-preserved c = λ numbering since can.
    let items = c.as_slice-output-items.result.now in
    let k = c.loop-port.port in
    let none : Output = record { wire = None; delay = 0 } in
    let here = slice_index_or items k none in
    let low : k < length items = omega arith in
    let is = get_or_default items k none here low in
    let old = c.args.change.now.old.now in
    let new = c.args.change.now.new.now in
    let run = c.args.change.now.run.now in
    let ok = c.requires.change.form in
    let m = c.args.id.0 in
    let r = c.args.found.now in
    let same = c.as_slice-output-items.ensures in
    let next : IsNextBack old new run c.args.now m k here c.loop-port.self = record {
      numbering = numbering;
      since = since;
      part = r;
      stands = c.requires.stands;
      own = next_own old new run ok c.args.now m r c.requires.stands c.args.self.now items same k here low is;
      start = c.args.self.now;
      can = can;
      wires = is_output (take k items);
      back = c.loop-port.invariant numbering since can;
      fresh = next_fresh old new run ok c.args.now m r c.requires.stands c.args.self.now items same k here low is;
    } in
    subst (λ (ws : ℕ → Bool). AreBack new numbering c.args.now ws c.args.self.now c.put_output.new.self) (output_more items k here low is) (c.in_ok-put_output.ensures next)

pub returns : goal.returns
returns c = λ numbering since can.
    let items = c.as_slice-output-items.result.now in
    let k = c.loop-port.port in
    let past : length items ≤ k = omega arith in
    all_back c.args.change.now.old.now c.args.change.now.new.now c.args.change.now.run.now c.requires.change.form c.args.now c.args.id.0 c.args.found.now c.requires.stands c.args.self.now items c.as_slice-output-items.ensures
    numbering k c.loop-port.self past (c.loop-port.invariant numbering since can)
