use Rattle.std.proofs.Common.{◌≡◌, ℕ, ◌<◌, Some, length, sym, subst, arith}
use Rattle.mp_partition.specs.runs.Marks.{is_marked}
use Rattle.mp_active.specs.declared.compare.numbers.Numbers.{Numbers}
use Rattle.mp_active.specs.compare.Numbering.{input_in}
use Rattle.mp_active.proofs.lemmas.compare.ReadingLemmas.{read_none, same_numbers, read_places, read_wires, module_more}
use Rattle.mp_active.proofs.compare.comparison.Comparison.note_readers.Goals as goal

pub loop-m-init : goal.loop-m-init
loop-m-init c = record { read = read_none c.args.self.now; few = λ x. let none = c.requires.none x in omega arith }

pub note_module-requires-clause-within : goal.note_module-requires-clause-within
note_module-requires-clause-within c =
    let all = c.requires.inputs.modules in
    let low = c.loop-m-test.true in
    let slots = c.module_slots-m-end.ensures.value in
    omega arith

pub note_module-requires-clause-below : goal.note_module-requires-clause-below
note_module-requires-clause-below c =
    subst (λ (numbers : Numbers). (p x : ℕ) → input_in c.args.inputs.now c.loop-m.m p ≡ Some x → x < length numbers.wires.items)
    (sym (same_numbers _ _ c.args.self.now c.loop-m.self c.loop-m.invariant.read)) (c.requires.inputs.below c.loop-m.m)

pub note_module-requires-clause-places : goal.note_module-requires-clause-places
note_module-requires-clause-places c = read_places _ _ c.args.self.now c.loop-m.self c.loop-m.invariant.read c.requires.places

pub note_module-requires-clause-wires : goal.note_module-requires-clause-wires
note_module-requires-clause-wires c = read_wires _ _ c.args.self.now c.loop-m.self c.loop-m.invariant.read c.requires.wires

pub note_module-requires-clause-room : goal.note_module-requires-clause-room
note_module-requires-clause-room c x =
    let few = c.loop-m.invariant.few x in
    let low = c.loop-m-test.true in
    let most = c.module_slots-m-end.ensures.few in
    omega arith

pub loop-m-preserved : goal.loop-m-preserved
loop-m-preserved c = record {
  read = module_more c.args.new.now (is_marked c.args.active.now) c.loop-m.m c.args.inputs.now c.is_active-is_active.result c.args.self.now c.loop-m.self c.note_module.new.self c.is_active-is_active.ensures c.loop-m.invariant.read c.note_module.ensures.read;
  few = λ x. let before = c.loop-m.invariant.few x in let more = c.note_module.ensures.few x in omega arith;
}
