use Rattle.std.proofs.Common.{◌≡◌, ℕ, ◌-◌, ◌<◌, List, IsSome, sym, ap, subst, ◌∙◌, arith}
use Rattle.std.specs.List.{Contains}
use Rattle.mp_records.specs.declared.ids.ModuleId.{ModuleId}
use Rattle.mp_netlist.specs.Circuit.{module_at}
use Rattle.mp_depend.specs.work.Work.{block_of}
use Rattle.mp_depend.proofs.lemmas.recording.HistoryLemmas.{history_sound}
use Rattle.mp_redo.proofs.lemmas.rerun.WindowLemmas.{window_ends}
use Rattle.mp_redo.proofs.rerun.rerun.Rerun.end_window.Goals as goal

pub open_joined-requires-clause-sound : goal.open_joined-requires-clause-sound
open_joined-requires-clause-sound c =
    let change = c.args.change.now in
    let before = c.requires.before in
    history_sound change.old.now change.new.now change.run.now (λ m. block_of change.new.now.horizon before.from) before.from before.is.live c.args.self.now.recorder before.is.recorder

pub open_joined-requires-clause-stand : goal.open_joined-requires-clause-stand
open_joined-requires-clause-stand c =
    subst (λ (ids : List ModuleId). (m : ℕ) → Contains ids (record { 0 = m }) → IsSome (module_at c.args.change.now.new.now m)) (sym c.as_slice.ensures.value) c.requires.before.is.joined.stand

pub open_joined-requires-clause-within : goal.open_joined-requires-clause-within
open_joined-requires-clause-within c =
    let new = c.args.change.now.new.now in
    let some = c.requires.some in
    let below = c.requires.below in
    let value : c.block_of-block.result ≡ block_of new.horizon (c.args.time - 1) = c.block_of-block.ensures ∙ ap (λ h. block_of h (c.args.time - 1)) c.horizon.ensures.value in
    subst (λ b. b < new.horizon) (sym value) (omega (arith, some, below))

pub returns : goal.returns
returns c =
    let change = c.args.change.now in
    let new = change.new.now in
    let ok = c.requires.change in
    let before = c.requires.before in
    let value : c.block_of-block.result ≡ block_of new.horizon (c.args.time - 1) = c.block_of-block.ensures ∙ ap (λ h. block_of h (c.args.time - 1)) c.horizon.ensures.value in
    window_ends change.old.now new ok.old_form ok.form ok.revision change.run.now before.from c.args.time c.args.self.now before.is c.requires.some c.requires.end c.block_of-block.result value
    c.as_slice.result.now c.as_slice.ensures.value c.open_joined.new.self c.in_ok-open_joined.ensures c.clear.new.self c.clear.ensures.items
