use Rattle.std.proofs.Common.{◌≡◌, Option, None, IsSome, refl, sym, ap, subst, ◌∙◌, arith, inl, inr}
use Rattle.std.proofs.lemmas.Bool.{cases_lt}
use Rattle.mp_records.specs.declared.wire_record.WireRecord.{WireRecord}
use Rattle.mp_netlist.specs.Circuit.{wire_at}
use Rattle.mp_model.specs.Waves.{slot_wave}
use Rattle.mp_simulation.specs.run.Runs.{wave_for}
use Rattle.mp_redo.proofs.rerun.finishing.wave_in.Goals as goal

pub returns-in-None : goal.returns-in-None
returns-in-None c =
    let n = c.args.change.now.new.now in
    let w = c.args.wire.0 in
    let from = c.args.from in
    let later = c.if-from-eq0.false in
    let stands : IsSome (wire_at n w) = subst IsSome c.in-Some.ensures.value refl in
    let none : wave_for (wire_at n w) c.args.toggles c.args.built ≡ None = ap (λ (slot : Option WireRecord). wave_for slot c.args.toggles c.args.built) (sym c.in-Some.ensures.value) ∙ sym c.in-None.ensures in
    elim (cases_lt from n.horizon) as (λ _. None ≡ slot_wave n w (wire_at n w)) [
      | inl early ↦ let some = subst IsSome none (c.requires.spliced (omega (arith, later)) early stands).some in let no : ⊥ = cc in absurd no
      | inr long ↦ sym none ∙ c.requires.shown long
    ]
