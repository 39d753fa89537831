use Rattle.std.proofs.Common.{◌≡◌, ℕ, ◌∷◌, List, All, subst}
use Rattle.std.proofs.lemmas.List.Elements.{All-tail}
use Rattle.mp_wave.specs.WaveChanges.{changes_in}
use Rattle.mp_active.specs.steps.Putting.{IsAhead, entry_of, entries_of, room}
use Rattle.mp_active.proofs.lemmas.steps.PutLemmas.{PutSoFar, put_more}
use Rattle.mp_active.proofs.steps.wheel_entries.put_changes.Goals as goal

pub loop-change-preserved : goal.loop-change-preserved
loop-change-preserved c =
    let s = c.args.simulation.now in
    let change : ℕ × ℕ = c.in-Some.change in
    let later : List (ℕ × ℕ) = changes_in c.in-Some.later in
    let is : changes_in c.loop-change.rest ≡ change ∷ later = c.in-Some.ensures.cases.0 in
    let now = c.args.now in
    let w = c.args.wire.number in
    let so = c.loop-change.invariant.0 in (
      put_more c.args.wire.has_data (entries_of w now (changes_in c.args.changes)) (entries_of w now later) (entry_of w now change) s c.loop-change.simulation c.put_change.new.simulation
          (subst (λ cs. PutSoFar c.args.wire.has_data (entries_of w now (changes_in c.args.changes)) (entries_of w now cs) s c.loop-change.simulation) is so)
          c.in_ok-put_change.ensures,
      All-tail (IsAhead now (room c.args.wire.has_data s)) change later (subst (λ cs. All (IsAhead now (room c.args.wire.has_data s)) cs) is c.loop-change.invariant.1),
    )
