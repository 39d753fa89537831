use Rattle.mp_exports.proofs.lemmas.vcd.Names.{ℕ, arith, later_than-drop}
use Rattle.std.proofs.lemmas.List.Sorted.{IsNonDecreasingBy-drop}
use Rattle.mp_wave.proofs.WaveformLemmas.{IsNonDecreasingBy-changes, nat_le-true, nat_le-false}
use Rattle.mp_exports.proofs.vcd.parts.part.Goals as goal

pub begins_at-requires : goal.begins_at-requires
begins_at-requires c = rw c.changes-changes.ensures.value (IsNonDecreasingBy-changes 0 c.args.wave.now.initial c.args.wave.now.changes c.changes-changes.ensures.form)

pub count_before-count-requires : goal.count_before-count-requires
count_before-count-requires c =
    rw (c.from_place-rest.ensures, c.changes-changes.ensures.value)
    (IsNonDecreasingBy-drop (λ (p : ℕ × ℕ). p.0) c.args.place c.args.wave.now.changes (IsNonDecreasingBy-changes 0 c.args.wave.now.initial c.args.wave.now.changes c.changes-changes.ensures.form))

pub returns : goal.returns
returns c = grind (arith, later_than-drop, nat_le-true, nat_le-false)
