use Rattle.std.proofs.Common.{◌≡◌, ◌+◌, length, rules, sym, subst, arith}
use Rattle.std.proofs.lemmas.List.Sorted.{IsNonDecreasingBy-from_sort_by_key}
use Rattle.mp_simulation.specs.declared.run.stimuli.StimulusChange.{StimulusChange}
use Rattle.mp_simulation.proofs.lemmas.run.AllStimuliLemmas.{AreBelow, below_next, changes_sorted}
use Rattle.mp_simulation.proofs.run.stimuli.Stimuli.of.Goals as goal

pub loop-w-preserved : goal.loop-w-preserved
loop-w-preserved c =
    subst (AreBelow c.args.netlist.now (c.loop-w.w + 1)) (sym c.in_ok-add_wire.ensures)
    (below_next c.args.netlist.now c.requires c.loop-w.w c.loop-w.list.items c.loop-w.invariant)

pub returns : goal.returns
returns c =
    let n = c.args.netlist.now in
    let all : c.loop-w.w ≡ length n.wires = omega arith in
    changes_sorted n c.requires c.loop-w.list.items c.sort_unstable_by_key.new.self.items (subst (λ w. AreBelow n w c.loop-w.list.items) all c.loop-w.invariant)
    c.sort_unstable_by_key.ensures.permutation (IsNonDecreasingBy-from_sort_by_key (λ (s : StimulusChange). s.time) _ c.sort_unstable_by_key.ensures.sorted (λ a r q k. search rules))
