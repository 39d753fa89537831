use Rattle.std.proofs.Common.{◌≡◌, Some, List, ap, sym, ◌∙◌, subst}
use Rattle.std.specs.List.{flat_map}
use Rattle.std.specs.Result.{IfOk}
use Rattle.mp_questions.specs.declared.causes.cause_link.CauseLink.{CauseLink}
use Rattle.mp_questions.specs.declared.causes.levels.Levels.{Levels}
use Rattle.mp_questions.specs.causes.Changes.{last_change}
use Rattle.mp_questions.specs.timing.Ranges.{read_time}
use Rattle.mp_questions.specs.causes.Chains.{chain_from}
use Rattle.mp_questions.specs.causes.Links.{links, links_to}
use Rattle.mp_questions.proofs.lemmas.causes.ChainLemmas.{chain_is}
use Rattle.mp_questions.proofs.causes.cause_link.links.Goals as goal

pub returns-in_default : goal.returns-in_default
unfolding links
returns-in_default c =
    let n = c.args.netlist.now in
    let moment = c.args.moment in
    let none = c.in_default.ensures.value ∙ ap (λ k. last_change k moment.wire (read_time k.horizon moment.time)) c.new-levels.ensures.netlist in
    c.new.ensures.items ∙ sym (ap (flat_map (links_to n)) (chain_is n c.new-levels.ensures.form moment.wire (read_time n.horizon moment.time) _ (sym none)))

pub returns : goal.returns
unfolding links
returns c =
    let n = c.args.netlist.now in
    let moment = c.args.moment in
    let last = c.in-Some.last in
    let some = c.in-Some.ensures.value ∙ ap (λ k. last_change k moment.wire (read_time k.horizon moment.time)) c.new-levels.ensures.netlist in
    let same : c.in_ok-tracer.tracer.levels.netlist.now ≡ n = ap (λ (levels : Levels). levels.netlist.now) c.in_ok-tracer.ensures ∙ c.new-levels.ensures.netlist in
    let all = ap (λ k. flat_map (links_to k) (chain_from k last.time (Some last))) same
    ∙ sym (ap (flat_map (links_to n)) (chain_is n c.new-levels.ensures.form moment.wire (read_time n.horizon moment.time) (Some last) (sym some))) in
    subst (λ (l : List CauseLink). IfOk c.links_from.result (λ found. found.items ≡ l)) all c.links_from.ensures
