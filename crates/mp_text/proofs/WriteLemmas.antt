-- The lines of a netlist's text in pieces.
use Rattle.mp_text.proofs.Names.{◌≡◌, ◌∷◌, ◌++◌, ℕ, List, [], Option, Some, append_assoc, append-nil, codes, flat_map, word_of, ModuleRecord, flat_map-map, changes_text, Circuit, Wires, Modules, Stimuli, Bundles, section_text, stimulus_words, input_text, output_text, format_line, module_line, written, written_format, arith, nat_tests, drop-cons, add-one, drop_of_length-le, ◌+◌, ◌<◌, ◌≤◌, left_none, left_as, left_then, left_whole, drop, slot_count, slot_line, wire_line, stimulus_line, bundle_line, Section}
use Rattle.std.specs.Fmt.{decimal}
use Rattle.std.proofs.lemmas.Grind.{flat_map-append}

-- the pieces of a stimulus's line
pub stimulus_pieces : (name : List ℕ) (stimulus : Option (List (ℕ × ℕ))) (changes : List (ℕ × ℕ)) → stimulus ≡ Some changes
    → stimulus_words name stimulus ≡ codes "stim" ++ ((32 ∷ name) ++ (changes_text changes ++ (10 ∷ [])))
stimulus_pieces name stimulus changes some = grind (arith, nat_tests, codes, flat_map-map, append_assoc)

-- the pieces of a module's line
pub module_pieces : (n : Circuit) (r : ModuleRecord) → module_line n (Some r)
    ≡ (codes "module " ++ (r.name ++ (codes " " ++ word_of r.kind)))
    ++ ((flat_map (λ param. 32 ∷ decimal param) r.params ++ (codes " :" ++ flat_map (λ input. 32 ∷ input_text n input) r.inputs))
    ++ (codes " >" ++ (flat_map (λ output. 32 ∷ output_text n output) r.outputs ++ codes "\n")))
module_pieces n r = simp (flat_map-append, flat_map-map, append_assoc)

-- the pieces of a netlist's text
pub written_pieces : (n : Circuit) → written n
    ≡ (format_line (written_format n) n.horizon ++ (codes "horizon " ++ (decimal n.horizon ++ codes "\n")))
    ++ (section_text n Wires ++ (section_text n Modules ++ (section_text n Stimuli ++ section_text n Bundles)))
unfolding written
written_pieces n = simp append_assoc

pub ruleset put_line_steps = (append_assoc, append-nil)

-- the lines of the slots with this number and those above
unfoldable pub lines_from : Circuit → Section → ℕ → List ℕ
lines_from n Wires k = flat_map wire_line (drop k n.wires)
lines_from n Modules k = flat_map (module_line n) (drop k n.modules)
lines_from n Stimuli k = flat_map stimulus_line (drop k n.wires)
lines_from n Bundles k = flat_map (bundle_line n) (drop k n.bundles)

pub lines_from-all : (n : Circuit) (s : Section) → lines_from n s 0 ≡ section_text n s
unfolding lines_from
lines_from-all n s = grind (arith, nat_tests)

-- the line of a slot, before those of the others
pub lines_from-next : (n : Circuit) (s : Section) (k : ℕ) → k < slot_count n s → lines_from n s k ≡ slot_line n s k ++ lines_from n s (k + 1)
unfolding lines_from
lines_from-next n s k within = grind (arith, nat_tests, drop-cons, add-one)

pub lines_from-none : (n : Circuit) (s : Section) (k : ℕ) → slot_count n s ≤ k → lines_from n s k ≡ []
unfolding lines_from
lines_from-none n s k over = grind (arith, nat_tests, drop_of_length-le)

pub ruleset sectionlinestext_put_to_steps = (lines_from-all, left_whole, left_then, left_as, lines_from-next, left_none, lines_from-none)
