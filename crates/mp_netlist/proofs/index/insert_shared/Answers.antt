use Rattle.std.proofs.Common.{◌≡◌, Some, cond, ap, ◌∙◌, rules}
use Rattle.std.proofs.lemmas.Result.{err_from_is_err_and}
use Rattle.std.specs.Arc.{arc_value}
use Rattle.std.specs.Str.{bytes_eq}
use Rattle.mp_netlist.proofs.IndexLemmas.{get-same, get-unchanged}
use Rattle.mp_netlist.proofs.index.insert_shared.Goals as goal

pub returns-in_err-make_mut-clause-err : goal.returns-in_err-make_mut-clause-err
returns-in_err-make_mut-clause-err c =
    let error = err_from_is_err_and c.from_residual.result c.from_residual.ensures.1 in
    rw error.1 (get-same (arc_value c.args.shared.now) (arc_value c.make_mut.follows.lender-at-none) (search rules))

pub returns-in_err-insert-clause-err : goal.returns-in_err-insert-clause-err
returns-in_err-insert-clause-err c =
    let error = err_from_is_err_and c.from_residual-in_err-insert.result c.from_residual-in_err-insert.ensures.1 in
    let held : arc_value (c.make_mut.follows.lender c.insert.new.self) ≡ c.insert.new.self = search rules in
    rw (error.1, held) (λ other.
    get-unchanged c.in_ok-make_mut.field-0.now c.insert.new.self c.in_err-insert.ensures.err other
    ∙ get-same (arc_value c.args.shared.now) c.in_ok-make_mut.field-0.now c.in_ok-make_mut.ensures.value other)

pub returns-clause-ok : goal.returns-clause-ok
returns-clause-ok c other =
    let held : arc_value (c.make_mut.follows.lender c.insert.new.self) ≡ c.insert.new.self = search rules in
    rw held (
    c.in_ok-insert.ensures.updates.0 other
    ∙ ap (cond (bytes_eq c.args.name other) (Some c.args.number)) (get-same (arc_value c.args.shared.now) c.in_ok-make_mut.field-0.now c.in_ok-make_mut.ensures.value other)
    )
