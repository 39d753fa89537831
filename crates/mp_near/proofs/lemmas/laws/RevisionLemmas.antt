-- The region of a revision is a netlist before it and after it, and a revision.
use Rattle.std.proofs.Common.{◌≡◌, ℕ, ◌^◌, ◌<◌, Option, Some, None, refl, ap, sym, subst, ◌∙◌}
use Rattle.std.specs.Prelude.{IsSome}
use Rattle.mp_records.specs.declared.wire_record.WireRecord.{WireRecord}
use Rattle.mp_netlist.specs.Circuit.{Circuit, wire_at, width_of}
use Rattle.mp_model.specs.Levels.{initial_of}
use Rattle.mp_model.specs.Waves.{level}
use Rattle.mp_model.proofs.LevelFitLemmas.{level_fits}
use Rattle.mp_depend.specs.work.Revisions.{IsRevision}
use Rattle.mp_depend.proofs.lemmas.work.LevelLemmas.{initials_same}
use Rattle.mp_near.specs.laws.Picking.{GivenFit}
use Rattle.mp_near.specs.laws.Regions.{RegionsAreCircuits, RegionsAreRevisions}
use Rattle.mp_near.proofs.lemmas.laws.PlacedLemmas.{some_is, width_there, initial_there, stands_there}
use Rattle.mp_near.proofs.lemmas.laws.PickedCircuitLemmas.{picked_are_circuits}

-- wires that stand in both have one width
widths_same : (old new : Circuit) → IsRevision old new → (w : ℕ) (one other : Option WireRecord) → wire_at old w ≡ one → wire_at new w ≡ other → IsSome one → IsSome other → width_of one ≡ width_of other
widths_same old new revised w None other a b some too = cc
widths_same old new revised w (Some r) None a b some too = cc
widths_same old new revised w (Some r) (Some s) a b some too = revised.widths w r s a b

pub regions_are_circuits : RegionsAreCircuits
regions_are_circuits old new was now pick old_ok new_ok revised region was_room now_room = (
  picked_are_circuits old was pick (level old) old_ok region.old_picking region.before (λ k t given. level_fits old old_ok (pick.wire_of k) t) was_room,
  picked_are_circuits new now pick (level old) new_ok region.new_picking region.after fit now_room,
)
  where
    fit : GivenFit new pick (level old)
    fit k t given =
        let alike = region.region.given k given in
        let same = widths_same old new revised (pick.wire_of k) (wire_at old (pick.wire_of k)) (wire_at new (pick.wire_of k)) refl refl alike.before alike.after in
        subst (λ width. level old (pick.wire_of k) t < 2 ^ width) same (level_fits old old_ok (pick.wire_of k) t)

pub regions_are_revisions : RegionsAreRevisions
regions_are_revisions old new was now pick revised region wires modules = record {
  horizon = region.after.horizon ∙ revised.horizon ∙ sym region.before.horizon;
  wires = wires;
  modules = modules;
  widths = λ k r s at stands.
      sym (ap width_of at) ∙ width_there old was pick (level old) region.old_picking region.before k
      ∙ widths_same old new revised (pick.wire_of k) (wire_at old (pick.wire_of k)) (wire_at new (pick.wire_of k)) refl refl (was_stands k r at) (now_stands k s stands)
      ∙ sym (width_there new now pick (level old) region.new_picking region.after k) ∙ ap width_of stands;
  initials = λ k r s at stands.
      sym (ap initial_of at) ∙ initial_there old was pick (level old) region.old_picking region.before k
      ∙ initials_same old new revised (pick.wire_of k) (wire_at old (pick.wire_of k)) (wire_at new (pick.wire_of k)) refl refl (was_stands k r at) (now_stands k s stands)
      ∙ sym (initial_there new now pick (level old) region.new_picking region.after k) ∙ ap initial_of stands;
}
  where
    was_stands : (k : ℕ) (r : WireRecord) → wire_at was k ≡ Some r → IsSome (wire_at old (pick.wire_of k))
    was_stands k r at = sym (stands_there old was pick (level old) region.old_picking region.before k) ∙ some_is (wire_at was k) r at

    now_stands : (k : ℕ) (r : WireRecord) → wire_at now k ≡ Some r → IsSome (wire_at new (pick.wire_of k))
    now_stands k r at = sym (stands_there new now pick (level old) region.new_picking region.after k) ∙ some_is (wire_at now k) r at
