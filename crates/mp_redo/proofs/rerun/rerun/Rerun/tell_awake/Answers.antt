use Rattle.std.proofs.Common.{rules, ◌≡◌, ◌+◌, ◌<◌, ℕ, List, [], Option, length, refl, ap, sym, subst, ◌∙◌, arith}
use Rattle.std.proofs.lemmas.List.{get_or_default}
use Rattle.mp_records.specs.declared.ports.Output.{Output}
use Rattle.mp_netlist.proofs.LimitLemmas.{horizon_within}
use Rattle.mp_kernel.specs.events.Adding.{listed}
use Rattle.mp_active.specs.compare.Comparing.{source_at, asleep_at}
use Rattle.mp_active.specs.compare.Waking.{numbers_in, AreReadAsleep, AreSourcesOf, woken}
use Rattle.mp_redo.specs.rerun.Numbered.{ports_at}
use Rattle.mp_redo.proofs.lemmas.rerun.AwakeLemmas.{read_asleep, its_sources, has_row, has_mark, awake_by, told_awake, HasBeenWoken}
use Rattle.mp_redo.proofs.rerun.rerun.Rerun.tell_awake.Goals as goal

pub index-requires : goal.index-requires
index-requires c =
    let ret = c.requires.returned in
    let low : c.args.id.0 < length c.args.self.now.inputs.items =
    has_row c.args.change.now.old.now c.args.change.now.new.now c.args.change.now.run.now c.requires.change.form ret.0 ret.1 c.args.now c.args.id.0 c.args.found.now c.args.self.now c.requires.stands ret.2 in
    search rules

pub wake-requires-clause-time : goal.wake-requires-clause-time
wake-requires-clause-time c = let most = horizon_within c.args.change.now.new.now c.requires.change.form in let below = c.requires.below in omega (arith, most, below)

pub wake-requires-clause-cursors : goal.wake-requires-clause-cursors
wake-requires-clause-cursors c = c.requires.returned.2.followed.cursors

pub wake-requires-clause-linked : goal.wake-requires-clause-linked
wake-requires-clause-linked c = c.requires.returned.2.followed.numbered.linked

pub wake-requires-clause-counted : goal.wake-requires-clause-counted
wake-requires-clause-counted c =
    let ret = c.requires.returned in
    let s = c.args.self.now in
    let m = c.args.id.0 in
    let ports = c.index.result.now in
    let row = has_row c.args.change.now.old.now c.args.change.now.new.now c.args.change.now.run.now c.requires.change.form ret.0 ret.1 c.args.now m c.args.found.now s c.requires.stands ret.2 in
    let of_ports : ports ≡ ports_at s.inputs.items m = c.index.ensures ∙ get_or_default s.inputs.items m ports [] row in
    subst (λ (xs : List (Option ℕ)). AreReadAsleep (numbers_in xs) s.comparison) (sym of_ports)
    (read_asleep c.args.change.now.old.now c.args.change.now.new.now c.args.change.now.run.now c.requires.change.form ret.0 ret.1 c.args.now m c.args.found.now s c.requires.stands ret.2)

pub wake-requires-clause-within : goal.wake-requires-clause-within
wake-requires-clause-within c =
    let ret = c.requires.returned in
    subst (λ (xs : List Output). AreSourcesOf xs c.args.self.now.comparison) (sym c.as_slice.ensures)
    (its_sources c.args.change.now.old.now c.args.change.now.new.now c.args.change.now.run.now c.requires.change.form ret.0 ret.1 c.args.now c.args.id.0 c.args.found.now c.args.self.now c.requires.stands ret.2)

pub index_mut-requires : goal.index_mut-requires
index_mut-requires c =
    let ret = c.requires.returned in
    let low : c.args.id.0 < length c.args.self.now.activity.active.items =
    has_mark c.args.change.now.old.now c.args.change.now.new.now c.args.change.now.run.now c.requires.change.form ret.0 ret.1 c.args.now c.args.id.0 c.args.found.now c.args.self.now c.requires.stands ret.2 in
    search rules

pub returns-clause-is : goal.returns-clause-is
returns-clause-is c = λ numbering since ret.
    let s = c.args.self.now in
    let m = c.args.id.0 in
    let ports = c.index.result.now in
    let row = has_row c.args.change.now.old.now c.args.change.now.new.now c.args.change.now.run.now c.requires.change.form numbering since c.args.now m c.args.found.now s c.requires.stands ret in
    let of_ports : ports ≡ ports_at s.inputs.items m = c.index.ensures ∙ get_or_default s.inputs.items m ports [] row in
    let ok = c.in_ok-wake.ensures in
    let woke : HasBeenWoken c.args.change.now.run.now (ports_at s.inputs.items m) c.args.found.now.outputs c.args.now s.comparison c.wake.new.self = record {
      kept = ok.kept;
      cursors = ok.cursors;
      complete = ok.complete;
      asleep = λ x. subst (λ (xs : List (Option ℕ)). asleep_at c.wake.new.self x + listed x (numbers_in xs) ≡ asleep_at s.comparison x) of_ports (ok.asleep x);
      sources = λ w. ok.sources w ∙ ap (λ (xs : List Output). woken xs w (source_at s.comparison w)) c.as_slice.ensures;
    } in
    awake_by c.args.change.now.old.now c.args.change.now.new.now c.args.change.now.run.now c.requires.change.form numbering since c.args.now m c.args.found.now s c.requires.stands ret _ woke refl (search rules)

pub returns-clause-told : goal.returns-clause-told
returns-clause-told c =
    let had = c.requires.returned in
    let s = c.args.self.now in
    let m = c.args.id.0 in
    let ports = c.index.result.now in
    let row = has_row c.args.change.now.old.now c.args.change.now.new.now c.args.change.now.run.now c.requires.change.form had.0 had.1 c.args.now m c.args.found.now s c.requires.stands had.2 in
    let of_ports : ports ≡ ports_at s.inputs.items m = c.index.ensures ∙ get_or_default s.inputs.items m ports [] row in
    let ok = c.in_ok-wake.ensures in
    let woke : HasBeenWoken c.args.change.now.run.now (ports_at s.inputs.items m) c.args.found.now.outputs c.args.now s.comparison c.wake.new.self = record {
      kept = ok.kept;
      cursors = ok.cursors;
      complete = ok.complete;
      asleep = λ x. subst (λ (xs : List (Option ℕ)). asleep_at c.wake.new.self x + listed x (numbers_in xs) ≡ asleep_at s.comparison x) of_ports (ok.asleep x);
      sources = λ w. ok.sources w ∙ ap (λ (xs : List Output). woken xs w (source_at s.comparison w)) c.as_slice.ensures;
    } in
    told_awake c.args.change.now.old.now c.args.change.now.new.now c.args.change.now.run.now c.requires.change.form had.0 had.1 c.args.now m c.args.found.now s c.requires.stands had.2 _ woke refl (search rules)
