use Rattle.std.proofs.Common.{length, map, ap, sym, ◌∙◌, subst, arith}
use Rattle.std.proofs.lemmas.List.{map_push, length_push, length-map}
use Rattle.mp_engine.specs.declared.part_of.PartOf.{PartOf}
use Rattle.mp_engine.specs.PartsOf.{AreOthers}
use Rattle.mp_engine.proofs.JoinLemmas.{one_other}
use Rattle.mp_engine.proofs.together.start_others.Goals as goal

pub loop-part-init : goal.loop-part-init
loop-part-init g c = record {
  some = c.requires.first.0.division.some;
  lines = c.requires.lines;
  count = (let none = ap length c.new-others.ensures.items in omega (arith, none));
  others = subst (λ xs. AreOthers c.args.first.netlist.now c.args.first.division.now c.args.first.keeps (map (λ other. other.promise) xs)) (sym c.new-others.ensures.items) (λ k d low. absurd (omega arith));
}

pub loop-part-preserved : goal.loop-part-preserved
loop-part-preserved g c =
    let before = c.loop-part.invariant in
    let taken = c.in-Some.ensures.some in
    let first = taken.0 in
    let rest = taken.1 in
    let some = c.loop-part-test.true in
    let lines = before.lines in
    let count = before.count in
    let items = c.in_ok-push-in-Ok.ensures.items in
    let longer = ap length items ∙ length_push c.loop-part.others.items c.in-Ok.handle in
    let long = length-map c.loop-part.others.items (λ other. other.promise) in
    let promise = c.in-Ok.ensures.ok in
    let here = ap (λ (p : PartOf). p.part) promise in
    record {
      some = omega (arith, some);
      lines = omega (arith, first, rest, lines);
      count = omega (arith, longer, count, some);
      others = one_other c.args.first.netlist.now c.args.first.division.now c.args.first.keeps (map (λ other. other.promise) c.loop-part.others.items) (map (λ other. other.promise) c.push.new.self.items) c.in-Ok.handle.promise
          (ap (map (λ other. other.promise)) items ∙ map_push (λ other. other.promise) c.loop-part.others.items c.in-Ok.handle)
          (record {
            netlist = ap (λ (p : PartOf). p.netlist.now) promise;
            division_is = ap (λ (p : PartOf). p.division.now) promise;
            keeps_is = ap (λ (p : PartOf). p.keeps) promise;
            part = omega (arith, here, long, count, some);
          }) before.others;
    }

pub returns-clause-count : goal.returns-clause-count
returns-clause-count g c =
    let before = c.loop-part.invariant in
    let count = before.count in
    let some = before.some in
    let last = c.loop-part-test.false in
    omega (arith, count, some, last)
