use Rattle.std.proofs.Common.{◌-◌, ◌/◌, false, drop, drop_of_length-le, sym, ap, ◌∙◌, arith}
use Rattle.std.proofs.lemmas.List.{length-set}
use Rattle.std.specs.Fmt.{digits_onto}
use Rattle.std.proofs.DigitsParse.{digits_onto-nil, digits_onto_last, digits_onto_step, drop-set-cons}
use Rattle.mp_picture.proofs.level_text.put_digits.Goals as goal

pub loop-place-init : goal.loop-place-init
loop-place-init c = record {
  within = omega arith;
  room = c.told-bytes;
  rest = ap (digits_onto 64 c.args.base false c.args.number) (drop_of_length-le c.args.bytes.now {i = 64} (omega (arith, c.told-bytes))) ∙ digits_onto-nil _ _ _;
}

pub loop-place-preserved : goal.loop-place-preserved
loop-place-preserved c =
    let l = c.loop-place in
    let a = c.args in
    let written = ap (digits_onto (l.place - 1) a.base false (l.rest / a.base)) (drop-set-cons l.bytes l.place _ _ c.loop-place-test.true (omega arith) c.digit.ensures) in
    record {
      within = omega arith;
      room = length-set l.bytes (l.place - 1) c.digit.result ∙ l.invariant.room;
      rest = written ∙ sym (digits_onto_step a.base false l.rest (drop l.place l.bytes) l.place c.loop-place-test.true c.if-rest-eq0.false) ∙ l.invariant.rest;
    }

pub returns-then-rest-eq0 : goal.returns-then-rest-eq0
returns-then-rest-eq0 c =
    let l = c.loop-place in
    let a = c.args in
    let written = drop-set-cons l.bytes l.place _ _ c.loop-place-test.true (omega arith) c.digit.ensures in
    record {
      within = omega arith;
      value = written ∙ sym (digits_onto_last a.base false l.rest (drop l.place l.bytes) l.place c.loop-place-test.true c.if-rest-eq0.true) ∙ l.invariant.rest;
    }
