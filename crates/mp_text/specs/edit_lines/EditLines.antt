-- Edits as lines of a script.
use Rattle.std.specs.Prelude.{ℕ, List, [], ◌∷◌, ◌++◌, map, Option, Some, None, codes}
use Rattle.std.specs.List.{flat_map}
use Rattle.std.specs.Fmt.{decimal}
use Rattle.mp_modules.specs.Kinds.{word_of}
use Rattle.mp_records.specs.declared.edit.Edit.{Edit}
use Rattle.mp_records.specs.declared.edit.Edit.TheVariants.{Single, Batch}
use Rattle.mp_records.specs.declared.new_module.NewModule.{NewModule}
use Rattle.mp_records.specs.declared.port_names.InputName.{InputName}
use Rattle.mp_records.specs.declared.port_names.OutputName.{OutputName}
use Rattle.mp_records.specs.declared.single_edit.SingleEdit.{SingleEdit}
use Rattle.mp_records.specs.declared.single_edit.SingleEdit.TheVariants.{AddWire, RemoveWire, AddModule, RemoveModule, AddBundle, RemoveBundle, RewireInput, RewireOutput, SetInputDelay, SetDelay, SetStimulus, ClearStimulus}
use Rattle.mp_text.specs.lexing.WaveLines.{pair_text}
use Rattle.mp_text.specs.Written.{delay_text}

-- the name of a wire, `-` where there is none
abbrev pub wire_word : Option (List ℕ) → List ℕ
wire_word None = codes "-"
wire_word (Some name) = name

-- an input that is to be, as `a`, or with its delay, as `a/4`
abbrev pub input_text : InputName → List ℕ
input_text input = input.wire ++ delay_text input.delay

-- an output that is to be, as `y/3`, or without a wire, as `-/3`
abbrev pub output_text : OutputName → List ℕ
output_text output = wire_word output.wire ++ (47 ∷ decimal output.delay)

-- the words behind the first one of what adds a module
abbrev pub module_words : NewModule → List (List ℕ)
module_words new = new.name ∷ word_of new.kind ∷ (map decimal new.params ++ (codes ":" ∷ (map input_text new.inputs ++ (codes ">" ∷ map output_text new.outputs))))

-- the words that make an edit
abbrev pub edit_words : SingleEdit → List (List ℕ)
edit_words (AddWire name width level) = codes "wire" ∷ name ∷ decimal width ∷ decimal level ∷ []
edit_words (RemoveWire wire) = codes "remove" ∷ codes "wire" ∷ wire ∷ []
edit_words (AddModule new) = codes "module" ∷ module_words new
edit_words (RemoveModule part) = codes "remove" ∷ codes "module" ∷ part ∷ []
edit_words (AddBundle new) = codes "bundle" ∷ new.name ∷ new.request ∷ new.acknowledge ∷ new.payload ∷ decimal new.setup ∷ []
edit_words (RemoveBundle bundle) = codes "remove" ∷ codes "bundle" ∷ bundle ∷ []
edit_words (RewireInput part port wire) = codes "input" ∷ part ∷ decimal port ∷ wire ∷ []
edit_words (RewireOutput part port wire) = codes "output" ∷ part ∷ decimal port ∷ wire_word wire ∷ []
edit_words (SetInputDelay part port delay) = codes "indelay" ∷ part ∷ decimal port ∷ decimal delay ∷ []
edit_words (SetDelay part port delay) = codes "delay" ∷ part ∷ decimal port ∷ decimal delay ∷ []
edit_words (SetStimulus wire changes) = codes "stim" ∷ wire ∷ map pair_text changes
edit_words (ClearStimulus wire) = codes "clear" ∷ wire ∷ []

-- words with a space between each two
abbrev pub joined : List (List ℕ) → List ℕ
joined [] = []
joined (word ∷ []) = word
joined (word ∷ next ∷ words) = word ++ (32 ∷ joined (next ∷ words))

-- what makes an edit of one thing
abbrev pub single_text : SingleEdit → List ℕ
single_text edit = joined (edit_words edit)

abbrev pub module_text : NewModule → List ℕ
module_text new = joined (codes "module" ∷ module_words new)

abbrev pub stimulus_text : List ℕ → List (ℕ × ℕ) → List ℕ
stimulus_text wire changes = joined (codes "stim" ∷ wire ∷ map pair_text changes)

-- an edit of a batch behind the one before it
abbrev pub behind_text : SingleEdit → List ℕ
behind_text edit = codes " ; " ++ single_text edit

-- what makes a batch, whose edits are divided by `;`
abbrev pub batch_text : List SingleEdit → List ℕ
batch_text [] = codes "batch"
batch_text (first ∷ others) = (codes "batch " ++ single_text first) ++ flat_map behind_text others

-- the line of a script that makes an edit, without its line feed
abbrev pub edit_text : Edit → List ℕ
edit_text (Single edit) = single_text edit
edit_text (Batch edits) = batch_text edits

-- such a line for each edit
abbrev pub edit_lines : List Edit → List ℕ
edit_lines edits = flat_map (λ edit. edit_text edit ++ (10 ∷ [])) edits
