use Rattle.std.proofs.Common.{ℕ, None, Option, List, sym, ap, ◌∙◌, arith}
use Rattle.std.specs.Prelude.{slice_index_or}
use Rattle.mp_active.proofs.lemmas.compare.ReadingLemmas.{module_absent, module_noted, few_more}
use Rattle.mp_active.proofs.compare.comparison.Comparison.note_module.Goals as goal

pub note_inputs-requires-clause-below : goal.note_inputs-requires-clause-below
note_inputs-requires-clause-below c p x at = c.requires.below p x (ap (λ (ports : List (Option ℕ)). slice_index_or ports p None) (sym c.inputs_of-ports.ensures) ∙ at)

pub note_inputs-requires-clause-room : goal.note_inputs-requires-clause-room
note_inputs-requires-clause-room c x = let room = c.requires.room x in let few = c.are_few.ensures in omega arith

pub returns-in-Some-clause-read : goal.returns-in-Some-clause-read
returns-in-Some-clause-read c =
    module_noted c.args.new.now c.args.is_active c.args.id.0 c.args.inputs.now _ c.inputs_of-ports.result c.args.self.now c.note_inputs.new.self (sym c.in-Some.ensures.value) c.inputs_of-ports.ensures c.note_inputs.ensures

pub returns-in-Some-clause-few : goal.returns-in-Some-clause-few
returns-in-Some-clause-few c x = few_more c.args.is_active c.inputs_of-ports.result _ c.args.self.now c.note_inputs.new.self x c.are_few.ensures c.note_inputs.ensures

pub returns-in-None-clause-read : goal.returns-in-None-clause-read
returns-in-None-clause-read c = module_absent c.args.new.now c.args.is_active c.args.id.0 c.args.inputs.now c.args.self.now (sym c.in-None.ensures.value)
