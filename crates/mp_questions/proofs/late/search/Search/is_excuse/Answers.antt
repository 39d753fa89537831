use Rattle.std.proofs.Common.{◌≡◌, ◌==◌, ◌&&◌, ◌||◌, ℕ, Bool, false, Some, option_map, IfOk, sym, ap, subst, ◌∙◌}
use Rattle.std.specs.List.{list_any}
use Rattle.std.proofs.lemmas.Bool.{ne_eqb}
use Rattle.mp_questions.specs.causes.Changes.{change_at}
use Rattle.mp_questions.specs.causes.Causes.{DrivingPort, cause_by, driving_port, port_at, port_by}
use Rattle.mp_questions.specs.late.Sources.{sources_by}
use Rattle.mp_questions.specs.late.Lateness.{is_excused}
use Rattle.mp_questions.specs.late.Searching.{any_excused}
use Rattle.mp_questions.proofs.lemmas.late.SearchLemmas.{and_false, from_port, or_comm}
use Rattle.mp_questions.proofs.late.search.Search.is_excuse.Goals as goal
use Rattle.mp_questions.proofs.late.search.Search.is_excuse.Goals.{else-change-request-via-then-change-request+else-change-request-2, else-change-request-via-else-change-request}

pub returns-in-Some-clause-value : goal.returns-in-Some-clause-value
returns-in-Some-clause-value c =
    let n = c.args.self.now.of.netlist.now in
    let wire = c.args.change.wire in
    let t = c.args.change.time in
    let w = c.args.request.wire.0 in
    let r = c.args.request.time in
    let old = any_excused n w r c.args.self.now.pending.keys in
    let id = c.in-Port.id in
    let g : ℕ → DrivingPort = λ d. record { id = id; part = c.in-Some.part.now; delay = d } in
    let rest : DrivingPort → Bool = λ p. list_any (is_excused n w r) (sources_by n t (cause_by n t (Some p))) in
    let at : driving_port n wire.0 ≡ Some (port_at id c.in-Port.port c.in-Some.part.now) = ap (port_by n) (sym c.in-Port.ensures) ∙ ap (option_map (port_at id c.in-Port.port)) (sym c.in-Some.ensures.value) in
    let other : (wire.0 == w && t == r) ≡ false = elim c.else-change-request.branch [
      | else-change-request-via-then-change-request+else-change-request-2 x ↦ ap (λ b. (wire.0 == w) && b) (ne_eqb t r x.if-change-request-2.false) ∙ and_false (wire.0 == w)
      | else-change-request-via-else-change-request x ↦ ap (λ b. b && (t == r)) (ne_eqb wire.0 w x.if-change-request.false)
    ] in
    subst (λ b. IfOk c.push_sources.result (λ is. (is || any_excused n w r c.push_sources.new.self.pending.keys) ≡ b))
    (ap (λ d. old || rest (g d)) c.delay_of-delay.ensures
    ∙ ap (λ b. old || b) (sym (from_port n c.requires.form w r wire t other (port_at id c.in-Port.port c.in-Some.part.now) at))
    ∙ or_comm old (is_excused n w r (change_at n wire t)))
    (c.push_sources.ensures.value id)
