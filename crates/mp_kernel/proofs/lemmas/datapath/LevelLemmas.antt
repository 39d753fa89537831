-- Levels are set and scheduled, one after the other.
use Rattle.std.proofs.Common.{◌≡◌, ℕ, ◌+◌, ◌<◌, List, [], ◌∷◌, ◌++◌, length, take, sym, ap, ◌∙◌, append-nil}
use Rattle.std.specs.Prelude.{slice_index_or}
use Rattle.std.proofs.lemmas.Grind.{flat_map-append}
use Rattle.std.proofs.lemmas.List.{take_more}
use Rattle.mp_kernel.specs.declared.events.output_port.OutputPort.{OutputPort}
use Rattle.mp_kernel.specs.events.Firing.{copy_at}
use Rattle.mp_kernel.specs.declared.datapath.level_change.LevelChange.{LevelChange}
use Rattle.mp_kernel.specs.datapath.LevelWheels.{scheduled, entry_at, copied_from}
use Rattle.mp_kernel.proofs.lemmas.datapath.WheelLemmas.{levels_append}

abbrev pub entry_of : List OutputPort → LevelChange → List (ℕ × LevelChange)
entry_of copies c = entry_at (copy_at copies c.number).wire (copy_at copies c.number).delay c.level

pub copied_next : (copies : List OutputPort) (changes : List LevelChange) (i : ℕ) (d : LevelChange) → i < length changes → (slots now new : List (List LevelChange)) →
    now ≡ scheduled slots (copied_from copies (take i changes)) → new ≡ scheduled now (entry_of copies (slice_index_or changes i d)) →
    new ≡ scheduled slots (copied_from copies (take (i + 1) changes))
copied_next copies changes i d within slots now new before then =
    let last = entry_of copies (slice_index_or changes i d) in
    let is : copied_from copies (take (i + 1) changes) ≡ copied_from copies (take i changes) ++ last =
    ap (λ (xs : List LevelChange). copied_from copies xs) (take_more changes i d within)
    ∙ flat_map-append (entry_of copies) (take i changes) (slice_index_or changes i d ∷ [])
    ∙ ap (λ xs. copied_from copies (take i changes) ++ xs) (append-nil last) in
    then ∙ ap (λ xs. scheduled xs last) before ∙ sym (levels_append slots (copied_from copies (take i changes)) last) ∙ ap (λ xs. scheduled slots xs) (sym is)
