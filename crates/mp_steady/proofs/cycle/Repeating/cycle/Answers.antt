use Rattle.std.proofs.Common.{◌≡◌, ◌+◌, ◌-◌, ◌<◌, ◌^◌, ◌++◌, ◌∷◌, [], length, true, false, nat_cmp, refl, ap, sym, subst, ◌∙◌, arith}
use Rattle.std.specs.Prelude.{IfSome}
use Rattle.std.specs.List.{list_any}
use Rattle.std.specs.BTreeSet.{contains}
use Rattle.std.proofs.lemmas.Bool.{not-false, not-true}
use Rattle.std.proofs.lemmas.Grind.{common_steps}
use Rattle.std.proofs.lemmas.List.{length_push}
use Rattle.std.proofs.lemmas.List.Elements.{All-nil, All-push, All-same}
use Rattle.std.proofs.lemmas.Option.{IfSome_then}
use Rattle.std.proofs.lemmas.Result.{IfOk-weaker}
use Rattle.mp_questions.specs.declared.causes.wire_change.WireChange.{WireChange}
use Rattle.mp_steady.specs.Cycles.{first_wire, from_place, is_place, most_places}
use Rattle.mp_steady.specs.WireSets.{numbers}
use Rattle.mp_steady.proofs.CycleLemmas.{IsWithin, all_within, cycle_is, found_end, found_more, found_on, found_out, found_round, from_all, from_few, key, keyed, keys_more, most_are}
use Rattle.mp_steady.proofs.cycle.Repeating.cycle.Goals as goal

pub loop-init : goal.loop-init
loop-init c =
    let n = c.args.self.set.of.netlist.now in
    let u = c.args.self.units in
    let wires = numbers c.args.self.set.wires.now in
    let items = c.new-way.ensures.items in
    let next = c.first_change-next.result in
    record {
      tracer = refl;
      keys = λ q. grind (arith, common_steps);
      small = All-same (λ (d : WireChange). d.wire.0 < 2 ^ 32) c.new-way.result.items [] items (All-nil (λ (d : WireChange). d.wire.0 < 2 ^ 32));
      few = ap length items;
      within = All-same (IsWithin n) c.new-way.result.items [] items (All-nil (IsWithin n));
      next = all_within n (first_wire n u wires) next (omega arith) c.first_change-next.ensures;
      found = ap (λ way. found_on n u way (most_places - 0) next) items ∙ cycle_is n wires u next c.first_change-next.ensures;
    }

pub returns-in_default-clause-value : goal.returns-in_default-clause-value
returns-in_default-clause-value c =
    let n = c.args.self.set.of.netlist.now in
    let u = c.args.self.units in
    let left = most_places - c.loop.counter in
    c.new.ensures.items ∙ sym (found_end n u c.loop.way.items left) ∙ sym (ap (found_on n u c.loop.way.items left) c.in_default.is) ∙ c.loop.invariant.found

pub returns-clause-value : goal.returns-clause-value
returns-clause-value c =
    let past = c.loop-test.false in
    c.new-2.ensures.items ∙ sym (found_out c.args.self.set.of.netlist.now c.args.self.units c.loop.way.items (most_places - c.loop.counter) c.loop.next (omega (arith, past, most_are))) ∙ c.loop.invariant.found

pub returns-then-not-is_new-clause-value : goal.returns-then-not-is_new-clause-value
returns-then-not-is_new-clause-value c =
    let n = c.args.self.set.of.netlist.now in
    let u = c.args.self.units in
    let way = c.loop.way.items in
    let change = c.in-Some.change in
    let left = most_places - c.loop.counter in
    let low = c.loop-test.true in
    let held : contains nat_cmp c.loop.seen c.key_of.result ≡ true = not-false (contains nat_cmp c.loop.seen c.key_of.result) (sym c.in_ok-is_new.ensures.added ∙ c.if-not-is_new.true) in
    let listed : list_any (is_place change) way ≡ true =
    sym (keyed change way c.key_of.ensures.low c.loop.invariant.small) ∙ sym (c.loop.invariant.keys (key change)) ∙ ap (contains nat_cmp c.loop.seen) (sym c.key_of.ensures.value) ∙ held in
    IfOk-weaker c.from_place.result _ _
    (λ found e. e ∙ ap (from_place change) c.as_slice.ensures.value ∙ sym (found_round n u way left change (omega (arith, low, most_are)) listed) ∙ sym (ap (found_on n u way left) c.in-Some.is) ∙ c.loop.invariant.found)
    c.from_place.ensures

pub returns-then-not-is_new-clause-few : goal.returns-then-not-is_new-clause-few
returns-then-not-is_new-clause-few c =
    let low = c.loop-test.true in
    let few = c.loop.invariant.few in
    let change = c.in-Some.change in
    IfOk-weaker c.from_place.result _ _
    (λ found e. omega (arith, ap length (e ∙ ap (from_place change) c.as_slice.ensures.value), from_few change c.loop.way.items, low, few))
    c.from_place.ensures

pub returns-then-not-is_new-clause-within : goal.returns-then-not-is_new-clause-within
returns-then-not-is_new-clause-within c =
    let n = c.args.self.set.of.netlist.now in
    let change = c.in-Some.change in
    IfOk-weaker c.from_place.result _ _
    (λ found e k d low.
    let here = All-same (IsWithin n) found.items (from_place change c.loop.way.items) (e ∙ ap (from_place change) c.as_slice.ensures.value) (from_all (IsWithin n) change c.loop.way.items c.loop.invariant.within) k d low in
    (here.from, here.within))
    c.from_place.ensures

pub loop-preserved : goal.loop-preserved
loop-preserved c =
    let n = c.args.self.set.of.netlist.now in
    let u = c.args.self.units in
    let way = c.loop.way.items in
    let change = c.in-Some.change in
    let left = most_places - c.loop.counter in
    let rest = most_places - (c.loop.counter + 1) in
    let low = c.loop-test.true in
    let grown = c.in_ok-push.ensures.items in
    let few = c.loop.invariant.few in
    let here : IsWithin n change = subst (λ o. IfSome o (IsWithin n)) c.in-Some.is c.loop.invariant.next in
    let free : contains nat_cmp c.loop.seen c.key_of.result ≡ false = not-true (contains nat_cmp c.loop.seen c.key_of.result) (sym c.in_ok-is_new.ensures.added ∙ c.if-not-is_new.false) in
    let fresh : list_any (is_place change) way ≡ false =
    sym (keyed change way c.key_of.ensures.low c.loop.invariant.small) ∙ sym (c.loop.invariant.keys (key change)) ∙ ap (contains nat_cmp c.loop.seen) (sym c.key_of.ensures.value) ∙ free in
    record {
      tracer = c.behind-next.ensures.tracer ∙ c.loop.invariant.tracer;
      keys = keys_more c.loop.seen c.insert.new.self c.key_of.result change way c.push.new.self.items c.in_ok-is_new.ensures.updates c.key_of.ensures.value grown c.loop.invariant.keys;
      small =
          All-same (λ (d : WireChange). d.wire.0 < 2 ^ 32) c.push.new.self.items (way ++ change ∷ []) grown
          (All-push (λ (d : WireChange). d.wire.0 < 2 ^ 32) way change c.loop.invariant.small c.key_of.ensures.low);
      few = omega (arith, ap length grown, length_push way change, few);
      within = All-same (IsWithin n) c.push.new.self.items (way ++ change ∷ []) grown (All-push (IsWithin n) way change c.loop.invariant.within here);
      next = IfSome_then c.behind-next.result c.behind-next.ensures.within (λ d is. record { from = is.0; within = is.1 });
      found =
          ap (λ ways. found_on n u ways rest c.behind-next.result) grown ∙ ap (found_on n u (way ++ change ∷ []) rest) c.behind-next.ensures.value
          ∙ sym (found_more n u way left rest change (omega (arith, low, most_are)) fresh) ∙ sym (ap (found_on n u way left) c.in-Some.is) ∙ c.loop.invariant.found;
    }
