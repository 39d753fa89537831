use Rattle.std.proofs.Common.{◌≡◌, ℕ, ◌%◌, ◌-◌, sym, ap, subst, ◌∙◌}
use Rattle.std.proofs.lemmas.Bool.{both_ways}
use Rattle.mp_netlist.specs.Limits.{checkpoint_units}
use Rattle.mp_partition.specs.runs.Checkpoints.{IsBorder}
use Rattle.mp_redo.specs.rerun.Windows.{IsAtWindow}
use Rattle.mp_redo.proofs.lemmas.rerun.WindowLemmas.{border_block, inner_block}
use Rattle.mp_redo.proofs.rerun.rerun.Rerun.begin_block.Goals as goal

pub at_checkpoint-requires-clause-border : goal.at_checkpoint-requires-clause-border
at_checkpoint-requires-clause-border c =
    let new = c.args.change.now.new.now in
    let units : c.checkpoint_units.result ≡ checkpoint_units new.horizon = c.checkpoint_units.ensures.value ∙ ap checkpoint_units c.horizon.ensures.value in
    subst (λ (k : ℕ). c.args.time % k ≡ 0) units (c.is_multiple_of.ensures.0 c.if-is_multiple_of.true)

pub returns-in_ok-at_checkpoint : goal.returns-in_ok-at_checkpoint
returns-in_ok-at_checkpoint c =
    let change = c.args.change.now in
    let new = change.new.now in
    let time = c.args.time in
    let units : c.checkpoint_units.result ≡ checkpoint_units new.horizon = c.checkpoint_units.ensures.value ∙ ap checkpoint_units c.horizon.ensures.value in
    let border : IsBorder new.horizon time = subst (λ (k : ℕ). time % k ≡ 0) units (c.is_multiple_of.ensures.0 c.if-is_multiple_of.true) in
    subst (λ (b : ℕ). IsAtWindow change.old.now new change.run.now b (time - 1) c.at_checkpoint.new.self) (sym (border_block new.horizon time border)) c.in_ok-at_checkpoint.ensures

pub returns-else-is_multiple_of : goal.returns-else-is_multiple_of
returns-else-is_multiple_of c =
    let change = c.args.change.now in
    let new = change.new.now in
    let time = c.args.time in
    let units : c.checkpoint_units.result ≡ checkpoint_units new.horizon = c.checkpoint_units.ensures.value ∙ ap checkpoint_units c.horizon.ensures.value in
    let not : IsBorder new.horizon time → ⊥ = λ border. both_ways c.is_multiple_of.result c.if-is_multiple_of.false (c.is_multiple_of.ensures.1 (subst (λ (k : ℕ). time % k ≡ 0) (sym units) border)) in
    subst (λ (b : ℕ). IsAtWindow change.old.now new change.run.now b (time - 1) c.args.self.now) (inner_block new.horizon time not c.requires.some) c.requires.before
