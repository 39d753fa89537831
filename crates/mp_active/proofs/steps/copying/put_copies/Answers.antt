use Rattle.std.proofs.Common.{◌≡◌, ◌≤◌, ◌+◌, ℕ, ◌∷◌, List, All, subst}
use Rattle.std.proofs.lemmas.List.Elements.{All-tail}
use Rattle.mp_wave.specs.WaveChanges.{changes_in}
use Rattle.mp_active.specs.steps.Putting.{IsAhead, entry_of, entries_of}
use Rattle.mp_active.specs.steps.Copying.{copy_room, delayed}
use Rattle.mp_active.proofs.lemmas.steps.CopyPutLemmas.{PutCopiesSoFar, copy_more}
use Rattle.mp_active.proofs.steps.copying.put_copies.Goals as goal

pub loop-change-preserved : goal.loop-change-preserved
loop-change-preserved c =
    let s = c.args.simulation.now in
    let change : ℕ × ℕ = c.in-Some.change in
    let later : List (ℕ × ℕ) = changes_in c.in-Some.later in
    let is : changes_in c.loop-change.rest ≡ change ∷ later = c.in-Some.ensures.cases.0 in
    let now = c.args.now in
    let x = c.args.copy.number in
    let d = c.args.copy.delay in
    let late : ℕ × ℕ = (change.0 + d, change.1) in
    let so = c.loop-change.invariant.0 in (
      copy_more c.args.has_data (entries_of x now (delayed d (changes_in c.args.changes))) (entries_of x now (delayed d later)) (entry_of x now late) s c.loop-change.simulation c.put_copy.new.simulation
          (subst (λ cs. PutCopiesSoFar c.args.has_data (entries_of x now (delayed d (changes_in c.args.changes))) (entries_of x now (delayed d cs)) s c.loop-change.simulation) is so)
          c.in_ok-put_copy.ensures,
      All-tail (λ (c : ℕ × ℕ). c.0 ≤ now) change later (subst (λ cs. All (λ (c : ℕ × ℕ). c.0 ≤ now) cs) is c.loop-change.invariant.1),
      All-tail (IsAhead now (copy_room c.args.has_data s)) late (delayed d later) (subst (λ cs. All (IsAhead now (copy_room c.args.has_data s)) (delayed d cs)) is c.loop-change.invariant.2),
    )
