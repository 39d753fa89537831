use Rattle.std.proofs.Common.{◌≡◌, ◌<◌, ◌++◌, List, append_assoc, append-nil, sym, ap, ◌∙◌, subst, arith}
use Rattle.std.specs.List.{flat_map}
use Rattle.mp_questions.specs.declared.causes.levels.Levels.{Levels}
use Rattle.mp_questions.specs.declared.causes.cause_link.CauseLink.{CauseLink}
use Rattle.mp_questions.specs.causes.Causes.{cause_of, cause_seen, followed}
use Rattle.mp_questions.specs.causes.Links.{links_by, links_to}
use Rattle.mp_questions.specs.causes.Shares.{time_of}
use Rattle.mp_questions.proofs.lemmas.causes.ChainLemmas.{HasTime, followed_time, rest, rest_step}
use Rattle.mp_questions.proofs.causes.cause_link.links_from.Goals as goal

pub loop-next-smaller : goal.loop-next-smaller
loop-next-smaller c =
    let n = c.args.tracer.now.levels.netlist.now in
    let change = c.in-Some.change in
    let from = subst HasTime c.in-Some.is c.loop-next.invariant.from in
    let known : cause_seen c.cause_of-cause.result ≡ cause_of n change = c.cause_of-cause.ensures.cause ∙ ap (λ (levels : Levels). cause_of levels.netlist.now change) c.loop-next.invariant.levels in
    let next : followed (cause_of n change) ≡ c.followed-next.result = sym (c.followed-next.ensures ∙ ap followed known) in
    let earlier = followed_time n c.requires.form change from c.followed-next.result next in
    subst (λ k. time_of c.followed-next.result < k) (sym (ap time_of c.in-Some.is)) earlier.1

pub loop-next-preserved : goal.loop-next-preserved
loop-next-preserved c =
    let n = c.args.tracer.now.levels.netlist.now in
    let f = links_to n in
    let change = c.in-Some.change in
    let from = subst HasTime c.in-Some.is c.loop-next.invariant.from in
    let known : cause_seen c.cause_of-cause.result ≡ cause_of n change = c.cause_of-cause.ensures.cause ∙ ap (λ (levels : Levels). cause_of levels.netlist.now change) c.loop-next.invariant.levels in
    let next : followed (cause_of n change) ≡ c.followed-next.result = sym (c.followed-next.ensures ∙ ap followed known) in
    let earlier = followed_time n c.requires.form change from c.followed-next.result next in
    let later = flat_map f (rest n c.followed-next.result) in
    let old = c.loop-next.links.items in
    let put : c.push_links.new.links.items ≡ old ++ f change = c.in_ok-push_links.ensures ∙ ap (λ cause. old ++ links_by change cause) known in
    let step : f change ++ later ≡ flat_map f (rest n c.loop-next.next)
    = ap (λ (d : _). f change ++ flat_map f (rest n d)) (sym next) ∙ sym (ap (flat_map f) (rest_step n c.requires.form change from)) ∙ ap (λ d. flat_map f (rest n d)) (sym c.in-Some.is) in
    record {
      levels = c.cause_of-cause.ensures.levels ∙ c.loop-next.invariant.levels;
      from = earlier.0;
      within = omega (arith, earlier.1, ap time_of c.in-Some.is, c.loop-next.invariant.within);
      all = ap (λ (l : List CauseLink). l ++ later) put ∙ append_assoc old (f change) later ∙ ap (λ (l : List CauseLink). old ++ l) step ∙ c.loop-next.invariant.all;
    }

pub returns : goal.returns
returns c =
    let n = c.args.tracer.now.levels.netlist.now in
    let items = c.loop-next.links.items in
    sym (append-nil items) ∙ ap (λ d. items ++ flat_map (links_to n) (rest n d)) (sym c.in_default.is) ∙ c.loop-next.invariant.all
