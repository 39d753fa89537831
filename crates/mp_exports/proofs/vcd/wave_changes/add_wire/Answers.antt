use Rattle.mp_exports.proofs.lemmas.vcd.Names.{◌+◌, ◌-◌, ◌<◌, sym, ap, ◌∙◌, arith, wire_at, told_from, onto, onto_slot}
use Rattle.mp_wave.specs.WaveChanges.{changes_in as listed}
use Rattle.mp_exports.proofs.lemmas.vcd.AgendaLemmas.{told_as, onto_wave, onto_between}
use Rattle.mp_exports.proofs.lemmas.vcd.StandingLemmas.{changes_in}
use Rattle.mp_exports.proofs.vcd.wave_changes.add_wire.Goals as goal

pub returns-clause-told : goal.returns-clause-told
returns-clause-told c = λ told tells.
    let n = c.args.of.netlist.now in
    let w = c.args.id.0 in
    let from = c.args.agenda.now.from in
    let to = c.args.to in
    let in_slot = changes_in n w (wire_at n w) c.in-Some.wave.now (c.in-Some.ensures ∙ c.args.of.are_waves w) in
    let new = c.add_changes.new.agenda in
    told_as new.firsts.items new.entries.items (told_from from (λ t. onto w (listed c.part-changes.result) t (told t))) (told_from from (λ t. onto_slot n t w (wire_at n w) (told t)))
    (λ k within.
    let after : from - 1 < from + k = omega (arith, c.requires.from) in
    let before : from + k < to = omega (arith, within, c.in_ok-add_changes.ensures.times, c.requires.times) in
    let inside : from + k < n.horizon = omega (arith, before, c.requires.end) in
    ap (λ changes. onto w changes (from + k) (told (from + k))) c.part-changes.ensures
    ∙ onto_between w (from - 1) to c.in-Some.wave.now.changes (from + k) (told (from + k)) after before
    ∙ ap (λ changes. onto w changes (from + k) (told (from + k))) in_slot.2
    ∙ onto_wave n w (from + k) in_slot.0 (told (from + k)) inside ∙ ap (λ slot. onto_slot n (from + k) w slot (told (from + k))) (sym in_slot.1))
    (c.in_ok-add_changes.ensures.told told tells)
