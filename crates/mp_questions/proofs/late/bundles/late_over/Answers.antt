use Rattle.std.proofs.Common.{◌≡◌, ◌-◌, ◌<◌, ℕ, List, All, IfOk, Vec, Global, refl, sym, ap, subst, ◌∙◌, arith}
use Rattle.std.specs.List.{filter_map}
use Rattle.mp_wave.specs.Waveform.{Waveform}
use Rattle.mp_model.specs.Waves.{level}
use Rattle.mp_questions.proofs.lemmas.causes.EventLemmas.{wave_is}
use Rattle.mp_questions.specs.declared.late.late.Late.{Late}
use Rattle.mp_questions.specs.late.Searching.{late_then}
use Rattle.mp_questions.proofs.lemmas.late.BundleLemmas.{changes_low, late_over_is, none_over, times}
use Rattle.mp_questions.proofs.late.bundles.late_over.Goals as goal

pub returns-in_default : goal.returns-in_default
returns-in_default c = c.new.ensures.items ∙ none_over c.args.of.netlist.now c.args.id c.in_default.ensures.value

pub late_among-requires-clause-within : goal.late_among-requires-clause-within
late_among-requires-clause-within c =
    let n = c.args.of.netlist.now in
    let w = c.in-Some.bundle.now.payload.0 in
    let is = c.changes.ensures.value ∙ ap (λ (x : Waveform). x.changes) (wave_is n c.args.of.waves.now w c.in-Some-of.payload.now c.args.of.are_waves (sym c.in-Some-of.ensures)) in
    subst (All (λ (x : ℕ × ℕ). x.0 < n.horizon)) (sym is) (changes_low (level n w) (n.horizon - 1) n.horizon (omega (arith, c.horizon-horizon.ensures.low, c.horizon-horizon.ensures.value)))

pub returns-in-Some-of : goal.returns-in-Some-of
returns-in-Some-of c =
    let n = c.args.of.netlist.now in
    let b = c.in-Some.bundle.now in
    let w = b.payload.0 in
    let is = c.changes.ensures.value ∙ ap (λ (x : Waveform). x.changes) (wave_is n c.args.of.waves.now w c.in-Some-of.payload.now c.args.of.are_waves (sym c.in-Some-of.ensures)) in
    subst (λ (l : List Late). IfOk c.late_among.result (λ (list : Vec Late Global). list.items ≡ l))
    (ap (λ (cs : List (ℕ × ℕ)). filter_map (late_then n c.args.id.0 b) (times cs)) is ∙ late_over_is n c.args.id.0 b (sym c.in-Some.ensures.value) c.args.id refl)
    c.late_among.ensures
