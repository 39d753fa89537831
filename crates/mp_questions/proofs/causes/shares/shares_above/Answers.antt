use Rattle.std.proofs.Common.{◌≡◌, ◌-◌, ◌<◌, max, Some, None, List, Option, cond, nat_lt, option_map, length, slice_index_or, sym, ap, ◌∙◌, subst, arith}
use Rattle.mp_netlist.proofs.LimitLemmas.{horizon_within}
use Rattle.mp_questions.specs.declared.causes.levels.Levels.{Levels}
use Rattle.mp_questions.specs.declared.causes.wire_change.WireChange.{WireChange}
use Rattle.mp_questions.specs.causes.Causes.{Cause, cause_of, cause_seen, followed, port_of, port_seen}
use Rattle.mp_questions.specs.causes.Chains.{begin_by}
use Rattle.mp_questions.specs.causes.Noting.{AreByNumber}
use Rattle.mp_questions.specs.causes.Shares.{time_of}
use Rattle.mp_questions.proofs.lemmas.causes.ChainLemmas.{HasTime, followed_time, rest}
use Rattle.mp_questions.proofs.lemmas.causes.OrderLemmas.{above_by_number}
use Rattle.mp_questions.proofs.lemmas.causes.AboveLemmas.{IsShareAbove, begin_left, begin_next, shares_are, step_noted, step_room}
use Rattle.mp_questions.proofs.causes.shares.shares_above.Goals as goal

pub note-requires : goal.note-requires
note-requires c =
    let n = c.args.tracer.now.levels.netlist.now in
    let change = c.in-Some.change in
    let some = subst HasTime c.in-Some.is c.loop-next.invariant.from in
    let known : cause_seen c.cause_of-cause.result ≡ cause_of n change = c.cause_of-cause.ensures.cause ∙ ap (λ (levels : Levels). cause_of levels.netlist.now change) c.loop-next.invariant.levels in
    let next : followed (cause_of n change) ≡ c.followed-next.result = sym (c.followed-next.ensures ∙ ap followed known) in
    let port : option_map port_seen c.port_above.result ≡ cond (nat_lt c.args.from change.time) (port_of (cause_of n change)) None
    = c.port_above.ensures ∙ ap (λ (k : Cause). cond (nat_lt c.args.from change.time) (port_of k) None) known in
    let units : c.saturating_sub-units.result ≡ change.time - max c.args.from (time_of c.followed-next.result) = omega (arith, c.time_of.ensures) in
    record {
      room = λ m d low here.
          step_room n c.args.from c.requires.form change c.loop-next.next c.followed-next.result (option_map port_seen c.port_above.result) c.saturating_sub-units.result c.in-Some.is some next port units
          c.args.last m (slice_index_or c.loop-next.shares.items m d) c.requires.from (omega (arith, c.requires.within, horizon_within _ c.requires.form)) here
          (c.loop-next.invariant.each m d (omega (arith, low, c.loop-next.invariant.places)));
    }

pub loop-next-smaller : goal.loop-next-smaller
loop-next-smaller c =
    let n = c.args.tracer.now.levels.netlist.now in
    let change = c.in-Some.change in
    let some = subst HasTime c.in-Some.is c.loop-next.invariant.from in
    let known : cause_seen c.cause_of-cause.result ≡ cause_of n change = c.cause_of-cause.ensures.cause ∙ ap (λ (levels : Levels). cause_of levels.netlist.now change) c.loop-next.invariant.levels in
    let next : followed (cause_of n change) ≡ c.followed-next.result = sym (c.followed-next.ensures ∙ ap followed known) in
    let earlier = followed_time n c.requires.form change some c.followed-next.result next in
    subst (λ k. time_of c.followed-next.result < k) (sym (ap time_of c.in-Some.is)) earlier.1

pub loop-next-preserved : goal.loop-next-preserved
loop-next-preserved c =
    let n = c.args.tracer.now.levels.netlist.now in
    let all = rest n (Some c.args.last) in
    let change = c.in-Some.change in
    let some = subst HasTime c.in-Some.is c.loop-next.invariant.from in
    let known : cause_seen c.cause_of-cause.result ≡ cause_of n change = c.cause_of-cause.ensures.cause ∙ ap (λ (levels : Levels). cause_of levels.netlist.now change) c.loop-next.invariant.levels in
    let next : followed (cause_of n change) ≡ c.followed-next.result = sym (c.followed-next.ensures ∙ ap followed known) in
    let port : option_map port_seen c.port_above.result ≡ cond (nat_lt c.args.from change.time) (port_of (cause_of n change)) None
    = c.port_above.ensures ∙ ap (λ (k : Cause). cond (nat_lt c.args.from change.time) (port_of k) None) known in
    let units : c.saturating_sub-units.result ≡ change.time - max c.args.from (time_of c.followed-next.result) = omega (arith, c.time_of.ensures) in
    let earlier = followed_time n c.requires.form change some c.followed-next.result next in
    record {
      levels = c.cause_of-cause.ensures.levels ∙ c.loop-next.invariant.levels;
      from = earlier.0;
      within = omega (arith, earlier.1, ap time_of c.in-Some.is, c.loop-next.invariant.within);
      places = c.note.ensures.places ∙ c.loop-next.invariant.places;
      each = λ m d low.
          subst (IsShareAbove n c.args.from all (rest n c.followed-next.result) m) (sym (c.note.ensures.each m d (omega (arith, low, c.loop-next.invariant.places))))
          (step_noted n c.args.from c.requires.form change c.loop-next.next c.followed-next.result (option_map port_seen c.port_above.result) c.saturating_sub-units.result c.in-Some.is some next port units
          all m (slice_index_or c.loop-next.shares.items m d) (c.loop-next.invariant.each m d low));
      begin =
          ap (begin_left n c.followed-next.result) (c.begin-begin.ensures ∙ ap (begin_by change) known) ∙ begin_next n c.requires.form change c.followed-next.result some next
          ∙ sym (ap (λ (o : Option WireChange). begin_left n o c.loop-next.begin) c.in-Some.is) ∙ c.loop-next.invariant.begin;
    }

pub returns-clause-value : goal.returns-clause-value
returns-clause-value c =
    let n = c.args.tracer.now.levels.netlist.now in
    let all = rest n (Some c.args.last) in
    shares_are n c.args.from all c.loop-next.shares.items c.loop-next.invariant.places
    (λ m d low. subst (λ (l : List WireChange). IsShareAbove n c.args.from all l m (slice_index_or c.loop-next.shares.items m d)) (ap (rest n) c.in_default.is) (c.loop-next.invariant.each m d low))

pub returns-clause-order : goal.returns-clause-order
returns-clause-order c =
    let n = c.args.tracer.now.levels.netlist.now in
    subst (AreByNumber 0) (sym (returns-clause-value c)) (above_by_number n c.args.from (rest n (Some c.args.last)) 0 (length n.modules))

pub returns-clause-begin : goal.returns-clause-begin
returns-clause-begin c =
    let n = c.args.tracer.now.levels.netlist.now in
    sym (ap (λ (o : Option WireChange). begin_left n o c.loop-next.begin) c.in_default.is) ∙ c.loop-next.invariant.begin
