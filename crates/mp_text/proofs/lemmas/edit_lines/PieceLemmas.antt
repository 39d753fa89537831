-- The texts of edits in pieces.
use Rattle.std.proofs.Common.{◌≡◌, ℕ, List, ◌∷◌, ◌++◌, map, append_assoc, ap, ◌∙◌}
use Rattle.std.specs.Prelude.{codes}
use Rattle.std.specs.List.{flat_map}
use Rattle.std.specs.Fmt.{decimal}
use Rattle.std.proofs.lemmas.Grind.{flat_map-append}
use Rattle.std.proofs.lemmas.List.Folds.{flat_map-map}
use Rattle.mp_modules.specs.Kinds.{word_of}
use Rattle.mp_records.specs.declared.new_module.NewModule.{NewModule}
use Rattle.mp_text.specs.lexing.WaveLines.{pair_text, changes_text}
use Rattle.mp_text.specs.Written.{spaced}
use Rattle.mp_text.specs.edit_lines.EditLines.{joined, module_words, module_text, input_text, output_text}
use Rattle.mp_text.proofs.lemmas.edit_lines.JoinedLemmas.{joined-spaced}

spaced_module : (new : NewModule) → codes "module" ++ spaced (module_words new)
    ≡ (codes "module " ++ (new.name ++ (codes " " ++ word_of new.kind)))
    ++ ((flat_map (λ param. 32 ∷ decimal param) new.params ++ (codes " :" ++ flat_map (λ input. 32 ∷ input_text input) new.inputs))
    ++ (codes " >" ++ flat_map (λ output. 32 ∷ output_text output) new.outputs))
spaced_module new = simp (flat_map-append, flat_map-map, append_assoc)

pub module_pieces : (new : NewModule) → module_text new
    ≡ (codes "module " ++ (new.name ++ (codes " " ++ word_of new.kind)))
    ++ ((flat_map (λ param. 32 ∷ decimal param) new.params ++ (codes " :" ++ flat_map (λ input. 32 ∷ input_text input) new.inputs))
    ++ (codes " >" ++ flat_map (λ output. 32 ∷ output_text output) new.outputs))
module_pieces new = joined-spaced (codes "module") (module_words new) ∙ spaced_module new

pub stimulus_pieces : (wire : List ℕ) (changes : List (ℕ × ℕ)) → joined (codes "stim" ∷ wire ∷ map pair_text changes) ≡ codes "stim " ++ (wire ++ changes_text changes)
stimulus_pieces wire changes =
    joined-spaced (codes "stim") (wire ∷ map pair_text changes) ∙ ap (λ l. codes "stim" ++ ((32 ∷ wire) ++ l)) (flat_map-map (λ w. 32 ∷ w) pair_text changes)
