use Rattle.std.proofs.Common.{◌≡◌, ℕ, ◌+◌, ◌-◌, ◌<◌, ◌++◌, not, List, sym, ap, ◌∙◌, subst, arith}
use Rattle.mp_kernel.specs.declared.datapath.level_change.LevelChange.{LevelChange}
use Rattle.mp_simulation.specs.units.NetlistSimulations.{IsSimulated, AreStimuli}
use Rattle.mp_simulation.specs.declared.run.stimuli.StimulusChange.{StimulusChange}
use Rattle.mp_simulation.specs.run.Stimuli.{rest_of, left_of, bits_at, levels_at, changes_after}
use Rattle.mp_engine.specs.region_runs.StateHistories.{HasHistory, IsHistory}
use Rattle.mp_engine.specs.region_runs.RegionRuns.{AreComing}
use Rattle.mp_engine.proofs.lemmas.region_runs.StateHistoryLemmas.{has_history, history_over}
use Rattle.mp_engine.proofs.lemmas.region_runs.RegionRunLemmas.{stimuli_are, coming_next}
use Rattle.mp_engine.proofs.region_runs.region_run.RegionRun.run_unit.Goals as goal

pub pass_history-requires-clause-before : goal.pass_history-requires-clause-before
pass_history-requires-clause-before g c =
    let next : c.args.time - 1 + 1 ≡ c.args.time = (let later = c.requires.later in omega (arith, later)) in
    let can = c.requires.before in
    subst (λ k. HasHistory c.args.region.now k (c.args.time - 1) c.args.self.now.history) next (has_history c.args.region.now can.keeps (c.args.time - 1 + 1) (c.args.time - 1) c.args.self.now.history can.is.kept)

pub apply-requires-clause-fit : goal.apply-requires-clause-fit
apply-requires-clause-fit g c =
    let n = c.args.region.now in
    let t = c.args.time - 1 in
    let ok = c.horizon-horizon.ensures.form in
    let later = c.requires.later in
    let end = c.requires.low in
    let now : c.args.time ≡ c.args.time - 1 + 1 = omega (arith, later) in
    let low : c.args.time - 1 + 1 < c.args.region.now.horizon = omega (arith, later, end) in
    let own = rest_of c.args.self.now.stimuli in
    let heard = left_of c.args.self.now.heard in
    let bits : c.bits.result.now ≡ bits_at (c.args.time - 1 + 1) (rest_of c.args.self.now.stimuli) ++ bits_at (c.args.time - 1 + 1) (left_of c.args.self.now.heard) =
    c.bits.ensures ∙ c.in_ok-hear.ensures.bits ∙ ap (λ (xs : List ℕ). xs ++ bits_at c.args.time heard) c.in_ok-advance.ensures.bits ∙ ap (λ k. bits_at k own ++ bits_at k heard) now in
    let levels : c.levels.result.now ≡ levels_at (c.args.time - 1 + 1) (rest_of c.args.self.now.stimuli) ++ levels_at (c.args.time - 1 + 1) (left_of c.args.self.now.heard) =
    c.levels.ensures ∙ c.in_ok-hear.ensures.levels ∙ ap (λ (xs : List LevelChange). xs ++ levels_at c.args.time heard) c.in_ok-advance.ensures.levels ∙ ap (λ k. levels_at k own ++ levels_at k heard) now in
    let can = c.requires.before in
    let known : c.args.time - 1 + 1 < c.args.time + 1 = omega (arith, later) in
    let set = stimuli_are n ok can.is_heard t (c.args.time + 1) own heard c.bits.result.now c.levels.result.now bits levels low known can.is.own can.is.heard in
    record {
      n = n;
      ok = ok;
      t = t;
      now = now;
      is = can.is.simulated;
      stimuli = subst (λ k. AreStimuli n c.bits.result.now c.levels.result.now k) (sym now) set;
    }

pub fire-requires : goal.fire-requires
fire-requires g c =
    let n = c.args.region.now in
    let t = c.args.time - 1 in
    let ok = c.horizon-horizon.ensures.form in
    let later = c.requires.later in
    let end = c.requires.low in
    let now : c.args.time ≡ c.args.time - 1 + 1 = omega (arith, later) in
    let low : c.args.time - 1 + 1 < c.args.region.now.horizon = omega (arith, later, end) in
    let own = rest_of c.args.self.now.stimuli in
    let heard = left_of c.args.self.now.heard in
    let bits : c.bits.result.now ≡ bits_at (c.args.time - 1 + 1) (rest_of c.args.self.now.stimuli) ++ bits_at (c.args.time - 1 + 1) (left_of c.args.self.now.heard) =
    c.bits.ensures ∙ c.in_ok-hear.ensures.bits ∙ ap (λ (xs : List ℕ). xs ++ bits_at c.args.time heard) c.in_ok-advance.ensures.bits ∙ ap (λ k. bits_at k own ++ bits_at k heard) now in
    let levels : c.levels.result.now ≡ levels_at (c.args.time - 1 + 1) (rest_of c.args.self.now.stimuli) ++ levels_at (c.args.time - 1 + 1) (left_of c.args.self.now.heard) =
    c.levels.ensures ∙ c.in_ok-hear.ensures.levels ∙ ap (λ (xs : List LevelChange). xs ++ levels_at c.args.time heard) c.in_ok-advance.ensures.levels ∙ ap (λ k. levels_at k own ++ levels_at k heard) now in
    let can = c.requires.before in
    let known : c.args.time - 1 + 1 < c.args.time + 1 = omega (arith, later) in
    let set = stimuli_are n ok can.is_heard t (c.args.time + 1) own heard c.bits.result.now c.levels.result.now bits levels low known can.is.own can.is.heard in
    record {
      n = n;
      ok = ok;
      t = t;
      is = c.in_ok-apply.ensures.applied n t ok now can.is.simulated (subst (λ k. AreStimuli n c.bits.result.now c.levels.result.now k) (sym now) set);
    }

pub returns : goal.returns
returns g c keeps is_heard until before is =
    let n = c.args.region.now in
    let t = c.args.time - 1 in
    let ok = c.horizon-horizon.ensures.form in
    let later = c.requires.later in
    let end = c.requires.low in
    let now : c.args.time ≡ c.args.time - 1 + 1 = omega (arith, later) in
    let low : c.args.time - 1 + 1 < c.args.region.now.horizon = omega (arith, later, end) in
    let own = rest_of c.args.self.now.stimuli in
    let heard = left_of c.args.self.now.heard in
    let bits : c.bits.result.now ≡ bits_at (c.args.time - 1 + 1) (rest_of c.args.self.now.stimuli) ++ bits_at (c.args.time - 1 + 1) (left_of c.args.self.now.heard) =
    c.bits.ensures ∙ c.in_ok-hear.ensures.bits ∙ ap (λ (xs : List ℕ). xs ++ bits_at c.args.time heard) c.in_ok-advance.ensures.bits ∙ ap (λ k. bits_at k own ++ bits_at k heard) now in
    let levels : c.levels.result.now ≡ levels_at (c.args.time - 1 + 1) (rest_of c.args.self.now.stimuli) ++ levels_at (c.args.time - 1 + 1) (left_of c.args.self.now.heard) =
    c.levels.ensures ∙ c.in_ok-hear.ensures.levels ∙ ap (λ (xs : List LevelChange). xs ++ levels_at c.args.time heard) c.in_ok-advance.ensures.levels ∙ ap (λ k. levels_at k own ++ levels_at k heard) now in
    let known : c.args.time - 1 + 1 < until = omega (arith, later, before) in
    let set = stimuli_are n ok is_heard t until own heard c.bits.result.now c.levels.result.now bits levels low known is.own is.heard in
    let applied = c.in_ok-apply.ensures.applied n t ok now is.simulated (subst (λ k. AreStimuli n c.bits.result.now c.levels.result.now k) (sym now) set) in
    let over = c.in_ok-fire.ensures.fired n t ok applied in
    record {
      simulated = subst (λ k. IsSimulated n k c.fire.new.self) (sym now) over;
      own =
          subst (λ (ss : List StimulusChange). AreComing n (λ w. not (is_heard w)) c.args.time n.horizon ss) (sym (c.in_ok-hear.ensures.same ∙ c.in_ok-advance.ensures.left ∙ ap (λ k. changes_after k own) now))
          (subst (λ k. AreComing n (λ w. not (is_heard w)) k n.horizon (changes_after (t + 1) own)) (sym now) (coming_next n (λ w. not (is_heard w)) t n.horizon own is.own));
      heard =
          subst (λ (ss : List StimulusChange). AreComing n is_heard c.args.time until ss) (sym (c.in_ok-hear.ensures.left ∙ ap (λ k. changes_after k heard) now))
          (subst (λ k. AreComing n is_heard k until (changes_after (t + 1) heard)) (sym now) (coming_next n is_heard t until heard is.heard));
      kept =
          subst (λ k. IsHistory n keeps (c.args.time + 1) k c.mark_fired.new.history) (sym now)
          (history_over n keeps (c.args.time + 1) t c.due-due.result.now c.pass_history.new.history c.mark_fired.new.history (λ m r at idle. c.due-due.ensures n t m r ok applied at idle) c.in_ok-mark_fired.ensures
          (c.in_ok-pass_history.ensures keeps (subst (λ k. IsHistory n keeps k t c.args.self.now.history) (sym now) is.kept)));
    }
