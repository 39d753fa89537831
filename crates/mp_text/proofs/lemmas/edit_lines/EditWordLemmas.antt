-- The words of an edit have no gaps, and none is `;`.
use Rattle.std.proofs.Common.{ℕ, Bool, true, false, cond, ◌==◌, List, [], ◌∷◌, ◌++◌, map, All, Option, Some, None, decimal, refl, arith}
use Rattle.std.specs.Prelude.{codes, IfSome}
use Rattle.std.proofs.lemmas.List.{append-nil}
use Rattle.std.proofs.lemmas.List.Elements.{All-cons, All-nil, All-map, All-append, All-weaker}
use Rattle.mp_modules.specs.declared.kind.Kind.{Kind}
use Rattle.mp_modules.specs.declared.kind.Kind.TheVariants as kinds
use Rattle.mp_modules.specs.declared.function.Function.TheVariants as functions
use Rattle.mp_modules.specs.Kinds.{word_of}
use Rattle.mp_records.specs.declared.port_names.InputName.{InputName}
use Rattle.mp_records.specs.declared.port_names.OutputName.{OutputName}
use Rattle.mp_records.specs.declared.new_module.NewModule.{NewModule}
use Rattle.mp_text.specs.lexing.WaveLines.{pair_text}
use Rattle.mp_records.specs.declared.single_edit.SingleEdit.{SingleEdit}
use Rattle.mp_records.specs.declared.single_edit.SingleEdit.TheVariants.{AddWire, RemoveWire, AddModule, RemoveModule, AddBundle, RemoveBundle, RewireInput, RewireOutput, SetInputDelay, SetDelay, SetStimulus, ClearStimulus}
use Rattle.mp_text.specs.edit_lines.EditLines.{wire_word, input_text, output_text, module_words, edit_words}
use Rattle.mp_text.specs.edit_lines.ReadBack.{IsName, IsLow, IsInputSaid, IsOutputSaid, IsModuleSaid, IsSaid}
use Rattle.mp_text.proofs.lemmas.edit_lines.WholeWordLemmas.{IsWhole, IsWhole-append, IsWhole-decimal, IsWhole-name}

abbrev pub AreWhole : List (List ℕ) → Type 0
AreWhole words = All IsWhole words

pub none : AreWhole []
none = All-nil IsWhole

pub more : (word : List ℕ) (words : List (List ℕ)) → IsWhole word → AreWhole words → AreWhole (word ∷ words)
more word words whole all = All-cons IsWhole word words whole all

-- the word of a kind
whole_kind : (kind : Kind) → IsWhole (word_of kind)
whole_kind (kinds.Function functions.Buf) = record { some = omega arith; whole = refl }
whole_kind _ = record { some = omega arith; whole = refl }

whole_byte : (b : ℕ) (word : List ℕ) → IsWhole (b ∷ []) → IsWhole word → IsWhole (b ∷ word)
whole_byte b word front back = IsWhole-append (b ∷ []) word front back

whole_slash : IsWhole (codes "/")
whole_slash = record { some = omega arith; whole = refl }

whole_equals : IsWhole (codes "=")
whole_equals = record { some = omega arith; whole = refl }

whole_delay : (name : List ℕ) (delay : ℕ) → IsWhole name → IsLow delay → (t : Bool) → IsWhole (name ++ cond t [] (47 ∷ decimal delay))
whole_delay name delay whole low true = rw (append-nil name) whole
whole_delay name delay whole low false = IsWhole-append name (47 ∷ decimal delay) whole (whole_byte 47 (decimal delay) whole_slash (IsWhole-decimal delay low))

whole_input : (input : InputName) → IsInputSaid input → IsWhole (input_text input)
whole_input input said = whole_delay input.wire input.delay (IsWhole-name input.wire said.0) said.1 (input.delay == 0)

whole_wire : (wire : Option (List ℕ)) → IfSome wire IsName → IsWhole (wire_word wire)
whole_wire None said = record { some = omega arith; whole = refl }
whole_wire (Some name) said = IsWhole-name name said

whole_output : (output : OutputName) → IsOutputSaid output → IsWhole (output_text output)
whole_output output said =
    IsWhole-append (wire_word output.wire) (47 ∷ decimal output.delay) (whole_wire output.wire said.0) (whole_byte 47 (decimal output.delay) whole_slash (IsWhole-decimal output.delay said.1))

whole_pair : (change : ℕ × ℕ) → IsLow change.0 × IsLow change.1 → IsWhole (pair_text change)
whole_pair change low =
    IsWhole-append (decimal change.0) (61 ∷ decimal change.1) (IsWhole-decimal change.0 low.0) (whole_byte 61 (decimal change.1) whole_equals (IsWhole-decimal change.1 low.1))

written_whole : {A : Type 0} (P : A → Type 0) (write : A → List ℕ) → ((a : A) → P a → IsWhole (write a)) → (things : List A) → All P things → AreWhole (map write things)
written_whole P write each things all = All-map IsWhole write things (All-weaker P (λ a. IsWhole (write a)) each things all)

whole_module : (new : NewModule) → IsModuleSaid new → AreWhole (module_words new)
whole_module new said =
    let params = written_whole IsLow decimal IsWhole-decimal new.params said.params in
    let inputs = written_whole IsInputSaid input_text whole_input new.inputs said.inputs in
    let outputs = written_whole IsOutputSaid output_text whole_output new.outputs said.outputs in
    let colon : IsWhole (codes ":") = record { some = omega arith; whole = refl } in
    let greater : IsWhole (codes ">") = record { some = omega arith; whole = refl } in
    let behind : List (List ℕ) = codes ">" ∷ map output_text new.outputs in
    let ports : List (List ℕ) = map input_text new.inputs ++ behind in
    let all_behind : AreWhole behind = more (codes ">") (map output_text new.outputs) greater outputs in
    let all_ports : AreWhole (codes ":" ∷ ports) = more (codes ":") ports colon (All-append IsWhole (map input_text new.inputs) behind inputs all_behind) in
    let words : List (List ℕ) = map decimal new.params ++ (codes ":" ∷ ports) in
    let all_words : AreWhole words = All-append IsWhole (map decimal new.params) (codes ":" ∷ ports) params all_ports in
    more new.name (word_of new.kind ∷ words) (IsWhole-name new.name said.name) (more (word_of new.kind) words (whole_kind new.kind) all_words)

whole_three : (a b c : List ℕ) → IsWhole a → IsWhole b → IsWhole c → AreWhole (a ∷ b ∷ c ∷ [])
whole_three a b c x y z = more a (b ∷ c ∷ []) x (more b (c ∷ []) y (more c [] z none))

whole_three_more : (a b c : List ℕ) (rest : List (List ℕ)) → IsWhole a → IsWhole b → IsWhole c → AreWhole rest → AreWhole (a ∷ b ∷ c ∷ rest)
whole_three_more a b c rest x y z all = more a (b ∷ c ∷ rest) x (more b (c ∷ rest) y (more c rest z all))

whole_changes : (wire : List ℕ) (changes : List (ℕ × ℕ)) → IsName wire → All (λ change. IsLow change.0 × IsLow change.1) changes → AreWhole (wire ∷ map pair_text changes)
whole_changes wire changes name low =
    more wire (map pair_text changes) (IsWhole-name wire name) (written_whole (λ (change : ℕ × ℕ). IsLow change.0 × IsLow change.1) pair_text whole_pair changes low)

-- ---- all words of an edit

pub whole_words : (edit : SingleEdit) → IsSaid edit → AreWhole (edit_words edit)
whole_words (AddWire name width level) said =
    more (codes "wire") (name ∷ decimal width ∷ decimal level ∷ []) (record { some = omega arith; whole = refl }) (whole_three name (decimal width) (decimal level) (IsWhole-name name said.0) (IsWhole-decimal width said.1) (IsWhole-decimal level said.2))
whole_words (RemoveWire wire) said = whole_three (codes "remove") (codes "wire") wire (record { some = omega arith; whole = refl }) (record { some = omega arith; whole = refl }) (IsWhole-name wire said)
whole_words (AddModule new) said = more (codes "module") (module_words new) (record { some = omega arith; whole = refl }) (whole_module new said)
whole_words (RemoveModule part) said = whole_three (codes "remove") (codes "module") part (record { some = omega arith; whole = refl }) (record { some = omega arith; whole = refl }) (IsWhole-name part said)
whole_words (AddBundle new) said =
    whole_three_more (codes "bundle") new.name new.request (new.acknowledge ∷ new.payload ∷ decimal new.setup ∷ []) (record { some = omega arith; whole = refl }) (IsWhole-name new.name said.name) (IsWhole-name new.request said.request)
    (whole_three new.acknowledge new.payload (decimal new.setup) (IsWhole-name new.acknowledge said.acknowledge) (IsWhole-name new.payload said.payload) (IsWhole-decimal new.setup said.setup))
whole_words (RemoveBundle bundle) said = whole_three (codes "remove") (codes "bundle") bundle (record { some = omega arith; whole = refl }) (record { some = omega arith; whole = refl }) (IsWhole-name bundle said)
whole_words (RewireInput part port wire) said =
    more (codes "input") (part ∷ decimal port ∷ wire ∷ []) (record { some = omega arith; whole = refl }) (whole_three part (decimal port) wire (IsWhole-name part said.0) (IsWhole-decimal port said.1) (IsWhole-name wire said.2))
whole_words (RewireOutput part port wire) said =
    more (codes "output") (part ∷ decimal port ∷ wire_word wire ∷ []) (record { some = omega arith; whole = refl }) (whole_three part (decimal port) (wire_word wire) (IsWhole-name part said.0) (IsWhole-decimal port said.1) (whole_wire wire said.2))
whole_words (SetInputDelay part port delay) said =
    more (codes "indelay") (part ∷ decimal port ∷ decimal delay ∷ []) (record { some = omega arith; whole = refl }) (whole_three part (decimal port) (decimal delay) (IsWhole-name part said.0) (IsWhole-decimal port said.1) (IsWhole-decimal delay said.2))
whole_words (SetDelay part port delay) said =
    more (codes "delay") (part ∷ decimal port ∷ decimal delay ∷ []) (record { some = omega arith; whole = refl }) (whole_three part (decimal port) (decimal delay) (IsWhole-name part said.0) (IsWhole-decimal port said.1) (IsWhole-decimal delay said.2))
whole_words (SetStimulus wire changes) said = more (codes "stim") (wire ∷ map pair_text changes) (record { some = omega arith; whole = refl }) (whole_changes wire changes said.0 said.1)
whole_words (ClearStimulus wire) said = more (codes "clear") (wire ∷ []) (record { some = omega arith; whole = refl }) (more wire [] (IsWhole-name wire said) none)
