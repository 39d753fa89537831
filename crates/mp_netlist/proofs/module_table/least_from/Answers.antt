use Rattle.std.proofs.Common.{◌≡◌, ◌+◌, ◌<◌, None, length, get_or, take, ap, sym, ◌∙◌, arith, rules}
use Rattle.mp_netlist.specs.Least.{least_among, least_at, lesser_of}
use Rattle.mp_netlist.proofs.LeastLemmas.{least_more, least_found}
use Rattle.mp_netlist.proofs.module_table.least_from.Goals as goal

pub returns-then-eq : goal.returns-then-eq
returns-then-eq c =
    let slots = c.args.table.now in
    let m = c.loop-m.m in
    let within : m < length slots = omega arith in
    let now : c.or_that-least.result.delay ≡ least_among (take (m + 1) slots) =
    c.or_that-least.ensures ∙ c.lesser_of-found.ensures ∙ ap (lesser_of c.loop-m.least.delay) c.least_at.ensures
    ∙ ap (λ l. lesser_of l (least_at (get_or slots m None))) c.loop-m.invariant ∙ sym (least_more slots m within) in
    let same : c.or_that-least.result.delay ≡ c.args.bound = search rules in
    same ∙ least_found slots (m + 1) c.args.bound (sym now ∙ same) c.requires

pub loop-m-preserved : goal.loop-m-preserved
loop-m-preserved c =
    let slots = c.args.table.now in
    let m = c.loop-m.m in
    let within : m < length slots = omega arith in
    c.or_that-least.ensures ∙ c.lesser_of-found.ensures ∙ ap (lesser_of c.loop-m.least.delay) c.least_at.ensures
    ∙ ap (λ l. lesser_of l (least_at (get_or slots m None))) c.loop-m.invariant ∙ sym (least_more slots m within)
