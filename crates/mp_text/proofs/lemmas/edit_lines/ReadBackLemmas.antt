-- The texts of edits are read as the edits.
use Rattle.std.proofs.Common.{◌≡◌, ℕ, ◌<◌, Bool, true, false, cond, ◌==◌, ◌&&◌, List, [], ◌∷◌, ◌++◌, length, map, All, Option, Some, None, Ok, decimal, refl, sym, ap, ◌∙◌, arith}
use Rattle.std.specs.Prelude.{codes, nat_le, IfSome}
use Rattle.std.specs.Char.{is_ascii_alphabetic}
use Rattle.std.specs.List.{list_all}
use Rattle.std.proofs.lemmas.Bool.{and_parts, eqb-true}
use Rattle.std.proofs.lemmas.Bool.Decides.{nat_tests}
use Rattle.std.proofs.lemmas.List.{append-nil, map-id}
use Rattle.std.proofs.lemmas.List.Elements.{All-head, All-tail, All-weaker}
use Rattle.mp_records.specs.declared.edit.Edit.TheVariants as edits
use Rattle.mp_records.specs.declared.port_names.InputName.{InputName}
use Rattle.mp_records.specs.declared.port_names.OutputName.{OutputName}
use Rattle.mp_records.specs.declared.new_module.NewModule.{NewModule}
use Rattle.mp_records.specs.declared.single_edit.SingleEdit.{SingleEdit}
use Rattle.mp_records.specs.declared.single_edit.SingleEdit.TheVariants.{AddWire, RemoveWire, AddModule, RemoveModule, AddBundle, RemoveBundle, RewireInput, RewireOutput, SetInputDelay, SetDelay, SetStimulus, ClearStimulus}
use Rattle.mp_records.specs.Names.{is_name, is_name_byte, begins_with_letter}
use Rattle.mp_text.specs.lexing.WordLists.{change_word, input_word, output_word, wire_or_none}
use Rattle.mp_text.specs.lexing.WaveLines.{pair_text}
use Rattle.mp_text.proofs.lemmas.lexing.PlainLemmas.{IsPlain, IsPlain-name}
use Rattle.mp_text.proofs.lemmas.lexing.ReadBackLemmas.{number_back, change_back, input_back, late_input_back, no_wire_back, wire_back}
use Rattle.mp_text.specs.declared.edit_word.EditWord.TheVariants as words
use Rattle.mp_text.specs.declared.script_line.Line.TheVariants.{Change}
use Rattle.mp_netlist.specs.declared.format.Format.TheVariants.{Large}
use Rattle.mp_text.specs.Statements.{is_mark, stated_edit}
use Rattle.mp_text.specs.ScriptLines.{line_of, line_at}
use Rattle.mp_text.specs.Written.{delay_text}
use Rattle.mp_text.proofs.StatementBackLemmas.{wire_read, bundle_read, stimulus_read, module_read, name_no_greater}
use Rattle.mp_text.proofs.WrittenLineLemmas.{line_words-spaced}
use Rattle.mp_text.specs.edit_lines.EditLines.{joined, wire_word, input_text, output_text, module_words, edit_words}
use Rattle.mp_text.specs.edit_lines.ReadBack.{IsName, IsLow, IsInputSaid, IsOutputSaid, IsModuleSaid, IsSaid, IsReadAsWritten}
use Rattle.mp_text.proofs.lemmas.edit_lines.JoinedLemmas.{joined-spaced}
use Rattle.mp_text.proofs.lemmas.edit_lines.WholeWordLemmas.{IsWhole, IsPlain-whole}
use Rattle.mp_text.proofs.lemmas.edit_lines.EditWordLemmas.{whole_words}

-- plain words are read as themselves
pub read_words : (ws : List (List ℕ)) → 0 < length ws → All IsPlain ws → line_at (joined ws) ≡ line_of ws
unfolding line_at
read_words [] some plain = absurd (omega (arith, some))
read_words (first ∷ rest) some plain =
    let text = joined-spaced first rest in
    let read = line_words-spaced first rest (All-head IsPlain first rest plain) (All-tail IsPlain first rest plain) in
    rw text (rw read refl)

-- ---- ports

input_at : (wire : List ℕ) (delay : ℕ) → IsName wire → IsLow delay → (t : Bool) → (delay == 0) ≡ t
    → input_word (wire ++ cond t [] (47 ∷ decimal delay)) ≡ Ok (record { wire = wire; delay = delay })
input_at wire delay name low true none =
    let zero : delay ≡ 0 = eqb-true delay 0 none in
    ap input_word (append-nil wire) ∙ input_back wire name ∙ ap (λ (d : ℕ). Ok (record { wire = wire; delay = d })) (sym zero)
input_at wire delay name low false some = late_input_back wire delay (IsPlain-name wire name).some low

input_said : (input : InputName) → IsInputSaid input → input_word (input_text input) ≡ Ok input
input_said input said = input_at input.wire input.delay said.0 said.1 (input.delay == 0) refl

output_at : (wire : Option (List ℕ)) (delay : ℕ) → IfSome wire IsName → IsLow delay → output_word (wire_word wire ++ (47 ∷ decimal delay)) ≡ Ok (record { wire = wire; delay = delay })
output_at None delay name low = no_wire_back delay low
output_at (Some wire) delay name low = wire_back wire delay name (IsPlain-name wire name).some low

output_said : (output : OutputName) → IsOutputSaid output → output_word (output_text output) ≡ Ok output
output_said output said = output_at output.wire output.delay said.0 said.1

-- ---- edits that texts state too

module _ (rest : List (List ℕ)) (edit : SingleEdit) where
  wire_line : stated_edit Large words.Wire rest ≡ Ok edit → line_of (codes "wire" ∷ rest) ≡ Ok (Change (edits.Single edit))
  unfolding line_of
  wire_line said = rw said refl

  module_line : stated_edit Large words.Module rest ≡ Ok edit → line_of (codes "module" ∷ rest) ≡ Ok (Change (edits.Single edit))
  unfolding line_of
  module_line said = rw said refl

  stimulus_line : stated_edit Large words.Stimulus rest ≡ Ok edit → line_of (codes "stim" ∷ rest) ≡ Ok (Change (edits.Single edit))
  unfolding line_of
  stimulus_line said = rw said refl

  bundle_line : stated_edit Large words.Bundle rest ≡ Ok edit → line_of (codes "bundle" ∷ rest) ≡ Ok (Change (edits.Single edit))
  unfolding line_of
  bundle_line said = rw said refl

module_said : (new : NewModule) → IsModuleSaid new → stated_edit Large words.Module (module_words new) ≡ Ok (AddModule new)
module_said new said =
    let unmarked = All-weaker IsInputSaid (λ i. is_mark 62 (input_text i) ≡ false) (λ i is. name_no_greater i.wire (delay_text i.delay) is.0) new.inputs said.inputs in
    let heard = All-weaker IsInputSaid (λ i. input_word (input_text i) ≡ Ok i) input_said new.inputs said.inputs in
    let reads = All-weaker IsOutputSaid (λ o. output_word (output_text o) ≡ Ok o) output_said new.outputs said.outputs in
    let inputs = map-id new.inputs in
    let outputs = map-id new.outputs in
    let read = module_read Large new.name new.kind refl new.params new.inputs new.outputs input_text (λ i. i) output_text (λ o. o) said.params unmarked heard reads said.some_inputs said.some_outputs in
    rw (inputs, outputs) at read

-- ---- edits of scripts alone

module _ (part : List ℕ) (port number : ℕ) (low : IsLow port) (fits : IsLow number) where
  input_delay_line : line_of (codes "indelay" ∷ part ∷ decimal port ∷ decimal number ∷ []) ≡ Ok (Change (edits.Single (SetInputDelay part port number)))
  unfolding line_of
  input_delay_line = let p = number_back port low in let d = number_back number fits in rw (p, d) refl

  delay_line : line_of (codes "delay" ∷ part ∷ decimal port ∷ decimal number ∷ []) ≡ Ok (Change (edits.Single (SetDelay part port number)))
  unfolding line_of
  delay_line = let p = number_back port low in let d = number_back number fits in rw (p, d) refl

input_line : (part : List ℕ) (port : ℕ) (wire : List ℕ) → IsLow port → line_of (codes "input" ∷ part ∷ decimal port ∷ wire ∷ []) ≡ Ok (Change (edits.Single (RewireInput part port wire)))
unfolding line_of
input_line part port wire low = let p = number_back port low in rw p refl

output_line : (part : List ℕ) (port : ℕ) (wire : Option (List ℕ)) → IsLow port → wire_or_none (wire_word wire) ≡ wire
    → line_of (codes "output" ∷ part ∷ decimal port ∷ wire_word wire ∷ []) ≡ Ok (Change (edits.Single (RewireOutput part port wire)))
unfolding line_of
output_line part port wire low same = let p = number_back port low in rw (p, same) refl

module _ (name : List ℕ) where
  remove_wire_line : line_of (codes "remove" ∷ codes "wire" ∷ name ∷ []) ≡ Ok (Change (edits.Single (RemoveWire name)))
  unfolding line_of
  remove_wire_line = refl

  remove_module_line : line_of (codes "remove" ∷ codes "module" ∷ name ∷ []) ≡ Ok (Change (edits.Single (RemoveModule name)))
  unfolding line_of
  remove_module_line = refl

  remove_bundle_line : line_of (codes "remove" ∷ codes "bundle" ∷ name ∷ []) ≡ Ok (Change (edits.Single (RemoveBundle name)))
  unfolding line_of
  remove_bundle_line = refl

  clear_line : line_of (codes "clear" ∷ name ∷ []) ≡ Ok (Change (edits.Single (ClearStimulus name)))
  unfolding line_of
  clear_line = refl

letter_no_dash : (b : ℕ) → is_ascii_alphabetic b ≡ true → (b == 45) ≡ false
letter_no_dash b letter = grind (arith, nat_tests)

-- a name is not `-`
not_dash : (name : List ℕ) → IsName name → wire_or_none name ≡ Some name
unfolding is_name
not_dash [] valid = refl
not_dash (b ∷ bs) valid =
    let head = and_parts (begins_with_letter (b ∷ bs) && nat_le (length (b ∷ bs)) 32) (list_all is_name_byte (b ∷ bs)) valid in
    let other = letter_no_dash b (and_parts (begins_with_letter (b ∷ bs)) (nat_le (length (b ∷ bs)) 32) head.0).0 in
    rw other refl

wire_back_at : (wire : Option (List ℕ)) → IfSome wire IsName → wire_or_none (wire_word wire) ≡ wire
wire_back_at None name = refl
wire_back_at (Some wire) name = not_dash wire name

-- ---- all of them

-- the words of an edit say the edit
pub words_read : (edit : SingleEdit) → IsSaid edit → line_of (edit_words edit) ≡ Ok (Change (edits.Single edit))
words_read (AddWire name width level) said = wire_line (name ∷ decimal width ∷ decimal level ∷ []) (AddWire name width level) (wire_read Large name width level said.1 said.2)
words_read (RemoveWire wire) said = remove_wire_line wire
words_read (AddModule new) said = module_line (module_words new) (AddModule new) (module_said new said)
words_read (RemoveModule part) said = remove_module_line part
words_read (AddBundle new) said = bundle_line (new.name ∷ new.request ∷ new.acknowledge ∷ new.payload ∷ decimal new.setup ∷ []) (AddBundle new) (bundle_read Large new said.setup)
words_read (RemoveBundle bundle) said = remove_bundle_line bundle
words_read (RewireInput part port wire) said = input_line part port wire said.1
words_read (RewireOutput part port wire) said = output_line part port wire said.1 (wire_back_at wire said.2)
words_read (SetInputDelay part port delay) said = input_delay_line part port delay said.1 said.2
words_read (SetDelay part port delay) said = delay_line part port delay said.1 said.2
words_read (SetStimulus wire changes) said =
    stimulus_line (wire ∷ map pair_text changes) (SetStimulus wire changes) (stimulus_read Large wire changes (All-weaker (λ (change : ℕ × ℕ). IsLow change.0 × IsLow change.1) (λ change. change_word (pair_text change) ≡ Ok change) (λ change low. change_back change low.0 low.1) changes said.1))
words_read (ClearStimulus wire) said = clear_line wire

pub some_edit_words : (edit : SingleEdit) → 0 < length (edit_words edit)
some_edit_words (AddWire name width level) = omega arith
some_edit_words _ = omega arith

-- each word of an edit has no gap
pub plain_words : (edit : SingleEdit) → IsSaid edit → All IsPlain (edit_words edit)
plain_words edit said = All-weaker IsWhole IsPlain IsPlain-whole (edit_words edit) (whole_words edit said)

pub read_as_written : IsReadAsWritten
read_as_written edit said = read_words (edit_words edit) (some_edit_words edit) (plain_words edit said) ∙ words_read edit said
