use Rattle.std.proofs.Common.{◌≡◌, ℕ, ◌+◌, ◌-◌, ◌<◌, ◌++◌, Bool, List, [], ◌∷◌, sym, ap, ◌∙◌, subst, arith, append_assoc}
use Rattle.mp_kernel.specs.declared.datapath.level_change.LevelChange.{LevelChange}
use Rattle.mp_simulation.specs.bits.Simulators.{slot_at}
use Rattle.mp_simulation.specs.units.DataWheels.{data_slot}
use Rattle.mp_simulation.specs.declared.run.stimuli.StimulusChange.{StimulusChange}
use Rattle.mp_partition.specs.regions.Divisions.{heard_by}
use Rattle.mp_engine.specs.messages.Messages.{AreTold, toggles_told, levels_told}
use Rattle.mp_engine.proofs.lemmas.messages.MessageLemmas.{told_none, told_next}
use Rattle.mp_engine.proofs.lemmas.messages.TellingLemmas.{told_then}
use Rattle.mp_engine.proofs.messages.message.Message.of.Goals as goal

pub loop-time-init : goal.loop-time-init
loop-time-init g c = record {
  some = omega arith;
  told = subst (λ (xs : List StimulusChange). AreTold g.J.Subject.netlist g.J.Subject.wires (heard_by g.J.Subject.heards c.args.heading.to) (c.args.heading.by ∷ []) (record { from = c.args.heading.window.from; until = c.args.heading.window.from }) xs)
      (sym c.new-changes.ensures.items) (told_none g.J.Subject.netlist g.J.Subject.wires (heard_by g.J.Subject.heards c.args.heading.to) (c.args.heading.by ∷ []) c.args.heading.window.from);
}

pub loop-time-preserved : goal.loop-time-preserved
loop-time-preserved g c =
    let n = g.J.Subject.netlist in
    let wires = g.J.Subject.wires in
    let heards = g.J.Subject.heards in
    let heading = c.args.heading in
    let time = c.loop-time.time in
    let before = c.loop-time.invariant in
    let knows = c.requires.knows in
    let span = heading.window.until - heading.window.from in
    let k = time - heading.window.from in
    let s = c.args.simulation.now in
    let first = knows.from in
    let first_some = knows.some in
    let first_short = knows.short in
    let first_within = knows.within in
    let later = before.some in
    let low = c.loop-time-test.true in
    let now : c.loop-time.time ≡ knows.before + 1 + (c.loop-time.time - c.args.heading.window.from) = omega (arith, first, later) in
    let near : c.loop-time.time - c.args.heading.window.from < c.args.heading.window.until - c.args.heading.window.from = omega (arith, later, low) in
    let told = told_then n knows.form knows.homes wires heards knows.parts knows.division heading.by heading.to knows.before span s knows.simulated knows.delay knows.crossing (omega (arith, first_some, first_short)) (omega (arith, first, first_some, first_within)) k time now near in
    let items : c.add_levels.new.changes.items ≡ c.loop-time.changes.items ++ (toggles_told (heard_by heards heading.to) time (slot_at s.bits.simulator k) ++ levels_told (heard_by heards heading.to) time (data_slot s.wires.wheel k)) =
    c.in_ok-add_levels.ensures
    ∙ ap (λ (xs : List StimulusChange). xs ++ levels_told c.args.heard.now time c.levels_ahead.result.now) c.in_ok-add_toggles.ensures
    ∙ append_assoc c.loop-time.changes.items (toggles_told c.args.heard.now time c.toggles_ahead.result.now) (levels_told c.args.heard.now time c.levels_ahead.result.now)
    ∙ ap (λ (h : List Bool). c.loop-time.changes.items ++ (toggles_told h time c.toggles_ahead.result.now ++ levels_told h time c.levels_ahead.result.now)) c.requires.heard
    ∙ ap (λ (ws : List ℕ). c.loop-time.changes.items ++ (toggles_told (heard_by heards heading.to) time ws ++ levels_told (heard_by heards heading.to) time c.levels_ahead.result.now)) c.toggles_ahead.ensures
    ∙ ap (λ (cs : List LevelChange). c.loop-time.changes.items ++ (toggles_told (heard_by heards heading.to) time (slot_at s.bits.simulator k) ++ levels_told (heard_by heards heading.to) time cs)) c.levels_ahead.ensures
    in
    record {
      some = omega (arith, later);
      told = subst (λ (xs : List StimulusChange). AreTold n wires (heard_by heards heading.to) (heading.by ∷ []) (record { from = heading.window.from; until = time + 1 }) xs) (sym items)
          (told_next n wires (heard_by heards heading.to) (heading.by ∷ []) heading.window.from time c.loop-time.changes.items
          (toggles_told (heard_by heards heading.to) time (slot_at s.bits.simulator k) ++ levels_told (heard_by heards heading.to) time (data_slot s.wires.wheel k)) later before.told told);
    }
