use Rattle.std.proofs.Common.{ℕ, ◌-◌, true, Bool, List, [], ◌∷◌, slice_index_or, take, refl, ap, sym, ◌∙◌, arith}
use Rattle.std.specs.List.{list_all}
use Rattle.std.proofs.lemmas.Bool.{and_from}
use Rattle.std.proofs.lemmas.List.{take_all}
use Rattle.std.proofs.lemmas.List.Folds.{list_all-append}
use Rattle.mp_records.specs.declared.ids.WireId.{WireId}
use Rattle.mp_steady.specs.Periods.{heard_from}
use Rattle.mp_steady.specs.WireSets.{numbers}
use Rattle.mp_steady.proofs.ControlLemmas.{has_stands}
use Rattle.mp_steady.proofs.ListLemmas.{has_at, numbers_more}
use Rattle.mp_steady.proofs.TimesLemmas.{is_soon, start_late, start_soon}
use Rattle.mp_steady.proofs.repeats.Trial.refusing.Goals as goal

abbrev none : WireId
none = record { 0 = 0 }

pub is_level_again-requires-clause-stands : goal.is_level_again-requires-clause-stands
is_level_again-requires-clause-stands c = let trial = c.args.self.now in has_stands trial.set.of.netlist.now trial.set.wires.now trial.suspect.0 trial.set.stand trial.one_of_them

pub returns-then-not-is_level_again : goal.returns-then-not-is_level_again
returns-then-not-is_level_again c =
    let trial = c.args.self.now in
    let n = trial.set.of.netlist.now in
    let wires = numbers trial.set.wires.now in
    record {
      one = trial.one_of_them;
      value = sym (start_late n wires c.args.units (heard_from n wires - c.args.units) trial.suspect.0 trial.one_of_them (sym c.is_level_again.ensures ∙ c.if-not-is_level_again.true));
    }

pub loop-wire-preserved : goal.loop-wire-preserved
loop-wire-preserved c =
    let trial = c.args.self.now in
    let n = trial.set.of.netlist.now in
    let wires = trial.set.wires.now in
    let i = c.loop-wire.wire-index in
    let soon : ℕ → Bool = is_soon n c.args.units (heard_from n (numbers wires) - c.args.units) in
    let w : ℕ = (slice_index_or wires i none).0 in
    ap (list_all soon) (numbers_more wires i none c.loop-wire-test.true) ∙ list_all-append soon (numbers (take i wires)) (w ∷ [])
    ∙ and_from (list_all soon (numbers (take i wires))) (list_all soon (w ∷ [])) c.loop-wire.invariant (and_from (soon w) true (sym c.is_level_again-in-loop-wire.ensures ∙ c.if-not-is_level_again-2.false) refl)

pub returns-then-not-is_level_again-2 : goal.returns-then-not-is_level_again-2
returns-then-not-is_level_again-2 c =
    let trial = c.args.self.now in
    let n = trial.set.of.netlist.now in
    let wires = trial.set.wires.now in
    let i = c.loop-wire.wire-index in
    let has = has_at wires i none c.loop-wire-test.true in
    record {
      one = has;
      value = sym (start_late n (numbers wires) c.args.units (heard_from n (numbers wires) - c.args.units) (slice_index_or wires i none).0 has (sym c.is_level_again-in-loop-wire.ensures ∙ c.if-not-is_level_again-2.true));
    }

pub returns-clause-value : goal.returns-clause-value
returns-clause-value c =
    let trial = c.args.self.now in
    let n = trial.set.of.netlist.now in
    let wires = trial.set.wires.now in
    let most = heard_from n (numbers wires) - c.args.units in
    let all = ap (λ (ws : List WireId). list_all (is_soon n c.args.units most) (numbers ws)) (sym (take_all c.loop-wire.wire-index wires (omega (arith, c.loop-wire-test.false)))) ∙ c.loop-wire.invariant in
    sym (start_soon n (numbers wires) c.args.units most all)
