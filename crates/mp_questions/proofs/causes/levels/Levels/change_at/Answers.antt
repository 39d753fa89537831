use Rattle.std.proofs.Common.{sym, ◌∙◌, arith}
use Rattle.mp_questions.proofs.lemmas.causes.EventLemmas.{no_change, no_wave, wave_changes, wave_stays}
use Rattle.mp_questions.proofs.causes.levels.Levels.change_at.Goals as goal

pub returns-then-level_at-level : goal.returns-then-level_at-level
returns-then-level_at-level c =
    wave_stays c.args.self.netlist.now c.requires.form c.args.self.waves.now c.args.wire c.in-Some.wave.now c.args.time c.args.self.are_waves (sym c.in-Some.ensures) c.requires.within
    (sym c.level_at.ensures.value ∙ c.if-level_at-level.true ∙ c.level_at-level.ensures.value)

pub returns-else-level_at-level : goal.returns-else-level_at-level
returns-else-level_at-level c =
    wave_changes c.args.self.netlist.now c.requires.form c.args.self.waves.now c.args.wire c.in-Some.wave.now c.args.time c.level_at-level.result c.args.self.are_waves (sym c.in-Some.ensures) c.requires.within (omega arith)
    (λ e. c.if-level_at-level.false (c.level_at.ensures.value ∙ e ∙ sym c.level_at-level.ensures.value)) c.level_at-level.ensures.value

pub returns-in-None : goal.returns-in-None
returns-in-None c = no_change c.args.self.netlist.now c.args.wire c.args.time (no_wave c.args.self.netlist.now c.requires.form c.args.self.waves.now c.args.wire.0 c.args.self.are_waves (sym c.in-None.ensures) c.args.time)
