use Rattle.std.proofs.Common.{◌≡◌, ℕ, ◌+◌, ◌-◌, ◌%◌, true, ap, sym, subst, ◌∙◌, arith}
use Rattle.mp_netlist.specs.Limits.{checkpoint_units}
use Rattle.mp_engine.proofs.lemmas.region_runs.StateHistoryLemmas.{between_borders, border_over, none_listed}
use Rattle.mp_engine.proofs.region_runs.state_history.StateHistory.pass.Goals as goal

pub returns-then-not-is_multiple_of : goal.returns-then-not-is_multiple_of
returns-then-not-is_multiple_of c = record {
  kept = between_borders c.args.netlist.now c.args.time (c.args.time - 1) c.args.self.now.marks.items c.args.self.now.kept.items (λ border.
      let units : c.checkpoint_units.result ≡ checkpoint_units c.args.netlist.now.horizon = c.checkpoint_units.ensures.value ∙ ap checkpoint_units c.horizon.ensures.value in
      let is : c.is_multiple_of.result ≡ true = c.is_multiple_of.ensures.1 (subst (λ (k : ℕ). c.args.time % k ≡ 0) (sym units) border) in
      let not = c.if-not-is_multiple_of.true in
      let no : ⊥ = cc in no) c.requires.before.kept;
  listed = c.requires.before.listed;
}

pub returns : goal.returns
returns c =
    let next : c.args.time - 1 + 1 ≡ c.args.time = (let later = c.requires.later in omega (arith, later)) in
    record {
      kept = border_over c.args.netlist.now c.args.time (c.args.time - 1) c.keep_states.new.marks.items c.keep_states.new.kept.items next c.in_ok-keep_states.ensures.none c.in_ok-keep_states.ensures.kept;
      listed = none_listed c.keep_states.new.marks.items _ c.in_ok-keep_states.ensures.none;
    }
