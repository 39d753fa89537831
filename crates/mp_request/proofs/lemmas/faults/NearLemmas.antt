-- Facts about the nearest of some names.
use Rattle.std.proofs.Common.{◌≡◌, ℕ, ◌+◌, ◌<◌, ◌≤◌, List, length, drop, map, get_or, arith, drop-cons}
use Rattle.std.specs.Borrow.{Bor}
use Rattle.std.specs.Prelude.{Option, Some, None}
use Rattle.std.proofs.lemmas.List.{at_drop_all}
use Rattle.mp_records.specs.declared.wire_record.WireRecord.{WireRecord}
use Rattle.mp_netlist.specs.Slots.{slot_at}
use Rattle.mp_request.specs.faults.Nearest.{nearer, nearest_behind, wire_names}

module _ (word : List ℕ) (best : Option (List ℕ)) where
  module _ (slots : List (Option WireRecord)) (k : ℕ) where
    pub no_wire : k < length slots → slot_at slots k ≡ None → nearest_behind word best (wire_names (drop k slots)) ≡ nearest_behind word best (wire_names (drop (k + 1) slots))
    no_wire less none = grind (arith, (drop-cons slots k None less))

    pub next_wire : (r : WireRecord) → k < length slots → slot_at slots k ≡ Some r
        → nearest_behind word best (wire_names (drop k slots)) ≡ nearest_behind word (nearer word best r.name) (wire_names (drop (k + 1) slots))
    unfolding nearest_behind
    next_wire r less some = grind (arith, (drop-cons slots k None less))

    pub last_wire : length slots ≤ k → nearest_behind word best (wire_names (drop k slots)) ≡ best
    unfolding nearest_behind
    last_wire over = grind (arith, (at_drop_all (λ rest. nearest_behind word best (wire_names rest)) slots k over))

  module _ (words : List (Bor (List ℕ))) (k : ℕ) (d : Bor (List ℕ)) where
    pub next_word : k < length words
        → nearest_behind word best (map (λ name. name.now) (drop k words)) ≡ nearest_behind word (nearer word best (get_or words k d).now) (map (λ name. name.now) (drop (k + 1) words))
    unfolding nearest_behind
    next_word less = grind (arith, (drop-cons words k d less))

  pub last_word : (words : List (Bor (List ℕ))) (k : ℕ) → length words ≤ k → nearest_behind word best (map (λ name. name.now) (drop k words)) ≡ best
  unfolding nearest_behind
  last_word words k over = grind (arith, (at_drop_all (λ rest. nearest_behind word best (map (λ name. name.now) rest)) words k over))

pub ruleset near_wire_steps = (no_wire, next_wire, last_wire)

pub ruleset near_word_steps = (next_word, last_word)
