use Rattle.std.proofs.Common.{◌≡◌, ℕ, ◌+◌, ◌-◌, ◌||◌, [], length, refl, subst, sym, ap, ◌∙◌, arith}
use Rattle.mp_active.specs.declared.compare.comparison.Comparison.{Comparison}
use Rattle.mp_active.specs.compare.Comparing.{AreUnseen, is_following, is_tracked, bits_of, levels_of}
use Rattle.mp_active.proofs.lemmas.compare.MeetingLemmas.{nobody, shape_kept, placed_kept}
use Rattle.mp_active.proofs.lemmas.compare.MetLemmas.{within_kept, coming_kept, coming_numbers, is_placed, cursors_kept, kept_through, both_met}
use Rattle.mp_active.proofs.lemmas.compare.FindingLemmas.{finds}
use Rattle.mp_active.proofs.compare.comparison.Comparison.find_departing.Goals as goal

pub meet_all_toggles-requires-clause-shape : goal.meet_all_toggles-requires-clause-shape
meet_all_toggles-requires-clause-shape c =
    let cleared = record c.args.self.now { departing = c.clear.new.self } in
    (cursors_kept c.args.run.now (c.args.time - 1) [] c.args.self.now cleared refl refl c.requires.cursors).shape

pub meet_all_levels-requires-clause-shape : goal.meet_all_levels-requires-clause-shape
meet_all_levels-requires-clause-shape c =
    let cleared = record c.args.self.now { departing = c.clear.new.self } in
    shape_kept nobody c.args.time (bits_of c.args.coming.now) [] cleared c.meet_all_toggles.new.self (c.in_ok-meet_all_toggles.ensures nobody)
    (cursors_kept c.args.run.now (c.args.time - 1) [] c.args.self.now cleared refl refl c.requires.cursors).shape

pub meet_all_levels-requires-clause-places : goal.meet_all_levels-requires-clause-places
meet_all_levels-requires-clause-places c =
    let cleared = record c.args.self.now { departing = c.clear.new.self } in
    placed_kept c.args.run.now nobody c.args.time c.args.time (bits_of c.args.coming.now) [] cleared c.meet_all_toggles.new.self (c.in_ok-meet_all_toggles.ensures nobody)
    (is_placed c.args.run.now (c.args.time - 1) c.args.time [] c.args.self.now c.requires.time c.requires.cursors)

pub meet_all_levels-requires-clause-within : goal.meet_all_levels-requires-clause-within
meet_all_levels-requires-clause-within c =
    let cleared = record c.args.self.now { departing = c.clear.new.self } in
    within_kept nobody c.args.time (bits_of c.args.coming.now) [] cleared c.meet_all_toggles.new.self c.args.coming.now (c.in_ok-meet_all_toggles.ensures nobody) c.requires.within

pub meet_old-requires-clause-shape : goal.meet_old-requires-clause-shape
meet_old-requires-clause-shape c =
    let cleared = record c.args.self.now { departing = c.clear.new.self } in
    let met = both_met c.args.run.now c.args.time (bits_of c.args.coming.now) (levels_of c.args.coming.now) cleared c.meet_all_toggles.new.self c.meet_all_levels.new.self
    (c.in_ok-meet_all_toggles.ensures c.args.run.now) c.in_ok-meet_all_levels.ensures in
    shape_kept c.args.run.now c.args.time (bits_of c.args.coming.now) (levels_of c.args.coming.now) cleared c.meet_all_levels.new.self met
    (cursors_kept c.args.run.now (c.args.time - 1) [] c.args.self.now cleared refl refl c.requires.cursors).shape

pub meet_old-requires-clause-within : goal.meet_old-requires-clause-within
meet_old-requires-clause-within c =
    let cleared = record c.args.self.now { departing = c.clear.new.self } in
    let met = both_met c.args.run.now c.args.time (bits_of c.args.coming.now) (levels_of c.args.coming.now) cleared c.meet_all_toggles.new.self c.meet_all_levels.new.self
    (c.in_ok-meet_all_toggles.ensures c.args.run.now) c.in_ok-meet_all_levels.ensures in
    coming_kept c.args.run.now c.args.time (bits_of c.args.coming.now) (levels_of c.args.coming.now) cleared c.meet_all_levels.new.self met
    (coming_numbers c.args.run.now (c.args.time - 1) c.args.self.now c.requires.cursors)

pub returns-clause-kept : goal.returns-clause-kept
returns-clause-kept c =
    let cleared = record c.args.self.now { departing = c.clear.new.self } in
    let met = both_met c.args.run.now c.args.time (bits_of c.args.coming.now) (levels_of c.args.coming.now) cleared c.meet_all_toggles.new.self c.meet_all_levels.new.self
    (c.in_ok-meet_all_toggles.ensures c.args.run.now) c.in_ok-meet_all_levels.ensures in
    kept_through c.args.self.now c.meet_all_levels.new.self c.meet_old.new.self met.kept c.in_ok-meet_old.ensures.kept

pub returns-clause-cursors : goal.returns-clause-cursors
returns-clause-cursors c =
    let cleared = record c.args.self.now { departing = c.clear.new.self } in
    let met = both_met c.args.run.now c.args.time (bits_of c.args.coming.now) (levels_of c.args.coming.now) cleared c.meet_all_toggles.new.self c.meet_all_levels.new.self
    (c.in_ok-meet_all_toggles.ensures c.args.run.now) c.in_ok-meet_all_levels.ensures in
    cursors_kept c.args.run.now (c.args.time - 1) [] c.args.self.now c.meet_old.new.self (kept_through c.args.self.now c.meet_all_levels.new.self c.meet_old.new.self met.kept c.in_ok-meet_old.ensures.kept)
    (ap (λ (s : Comparison). length s.seen.items) c.in_ok-meet_old.ensures.kept ∙ met.places) c.requires.cursors

pub returns-clause-seen : goal.returns-clause-seen
returns-clause-seen c =
    let cleared = record c.args.self.now { departing = c.clear.new.self } in
    let met = both_met c.args.run.now c.args.time (bits_of c.args.coming.now) (levels_of c.args.coming.now) cleared c.meet_all_toggles.new.self c.meet_all_levels.new.self
    (c.in_ok-meet_all_toggles.ensures c.args.run.now) c.in_ok-meet_all_levels.ensures in
    subst (AreUnseen (c.args.time + 1)) (sym c.in_ok-meet_old.ensures.kept) (met.over (λ x. let before = c.requires.unseen x in omega arith))

pub returns-clause-departing : goal.returns-clause-departing
returns-clause-departing c before after old complete from asleep new low =
    let cleared = record c.args.self.now { departing = c.clear.new.self } in
    let met = both_met c.args.run.now c.args.time (bits_of c.args.coming.now) (levels_of c.args.coming.now) cleared c.meet_all_toggles.new.self c.meet_all_levels.new.self
    (c.in_ok-meet_all_toggles.ensures c.args.run.now) c.in_ok-meet_all_levels.ensures in
    let next : c.args.time - 1 + 1 ≡ c.args.time = omega arith in
    finds before after c.args.run.now (c.args.time - 1) c.args.time cleared c.meet_all_levels.new.self c.meet_old.new.self c.args.coming.now next c.requires.time c.comes_up.ensures
    (cursors_kept c.args.run.now (c.args.time - 1) [] c.args.self.now cleared refl refl c.requires.cursors) c.requires.unseen (ap (length {A = ℕ}) c.clear.ensures.items)
    old (λ x low needed. complete x low (ap (λ u. is_following c.args.self.now x || is_tracked c.args.self.now x u) next ∙ needed)) from asleep new.once new.levels low met c.in_ok-meet_old.ensures
