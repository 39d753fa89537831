-- The whole of a dump, read.
use Rattle.mp_exports.proofs.lemmas.vcd.Names.{All, All-head, All-tail, bytes_eq-Decides, ◌≡◌, ◌+◌, ◌-◌, ◌∷◌, ◌++◌, ℕ, List, [], append_assoc, append-nil, length, map, Some, refl, sym, ap, subst, ◌∙◌, arith, codes, and_from, le-leb, flat_map, range_with_len, WireRecord, Circuit, IsCircuit, wire_at, width_of, code, standing, declaration, value_at, unit_text, time_mark, line, opening_lines, block_start, preamble, dump, words, Variable, Given, Outside, Inside, nothing_read, takes, read_words, reading, Contains, Contains-get_or, slice_index_or, any_passes, contains_map, nat_tests}
use Rattle.mp_netlist.proofs.LimitLemmas.{horizon_within}
use Rattle.mp_exports.specs.vcd.Laws.{variable, SaysLevels}
use Rattle.mp_exports.specs.vcd.Timescales.{count_of, unit_word}
use Rattle.mp_exports.specs.declared.vcd.timescale.TimeNumber.{TimeNumber}
use Rattle.mp_exports.specs.declared.vcd.timescale.TimeNumber.TheVariants.{One, Ten, Hundred}
use Rattle.mp_exports.specs.declared.vcd.timescale.TimeUnit.{TimeUnit}
use Rattle.mp_exports.specs.declared.vcd.timescale.TimeUnit.TheVariants.{Seconds, Milliseconds, Microseconds, Nanoseconds, Picoseconds, Femtoseconds}
use Rattle.mp_exports.specs.declared.vcd.timescale.Timescale.{Timescale}
use Rattle.mp_exports.proofs.lemmas.vcd.ReadingLemmas.{Leads, leads_none, leads_both, declaring, leads_declaration, leads_time, valued, HasVariable}
use Rattle.mp_exports.proofs.lemmas.vcd.LevelReadLemmas.{given_at, leads_values, stands_in, stands_of, IsReadable, knows_first, Units, leads_units}
use Rattle.mp_model.proofs.LevelFitLemmas.{level_fits}

-- the first lines say how long a unit is
opens : (number : TimeNumber) (unit : TimeUnit) → Leads nothing_read (opening_lines (record { number = number; unit = unit })) (declaring (count_of number, unit_word unit) [])
opens One Seconds = record { each = λ rest. refl }
opens One Milliseconds = record { each = λ rest. refl }
opens One Microseconds = record { each = λ rest. refl }
opens One Nanoseconds = record { each = λ rest. refl }
opens One Picoseconds = record { each = λ rest. refl }
opens One Femtoseconds = record { each = λ rest. refl }
opens Ten Seconds = record { each = λ rest. refl }
opens Ten Milliseconds = record { each = λ rest. refl }
opens Ten Microseconds = record { each = λ rest. refl }
opens Ten Nanoseconds = record { each = λ rest. refl }
opens Ten Picoseconds = record { each = λ rest. refl }
opens Ten Femtoseconds = record { each = λ rest. refl }
opens Hundred Seconds = record { each = λ rest. refl }
opens Hundred Milliseconds = record { each = λ rest. refl }
opens Hundred Microseconds = record { each = λ rest. refl }
opens Hundred Nanoseconds = record { each = λ rest. refl }
opens Hundred Picoseconds = record { each = λ rest. refl }
opens Hundred Femtoseconds = record { each = λ rest. refl }

module _ (scale : Timescale) (n : Circuit) (circuit : IsCircuit n) where
  abbrev u : ℕ × List ℕ
  u = (count_of scale.number, unit_word scale.unit)

  leads_declarations : (vs : List Variable) (ws : List ℕ) → All (λ w. (r : WireRecord) × (wire_at n w ≡ Some r)) ws
      → Leads (declaring u vs) (flat_map (declaration n) ws) (declaring u (vs ++ map (variable n) ws))
  leads_declarations vs [] stand = rw append-nil (leads_none (declaring u vs))
  leads_declarations vs (w ∷ ws) stand =
      let here = All-head (λ w. (r : WireRecord) × (wire_at n w ≡ Some r)) w ws stand in
      rw (← append_assoc vs (variable n w ∷ []) (map (variable n) ws))
      (leads_both _ _ _ (declaration n w) _ (leads_declaration u n circuit vs w here.0 here.1) (leads_declarations (vs ++ variable n w ∷ []) ws (All-tail (λ w. (r : WireRecord) × (wire_at n w ≡ Some r)) w ws stand)))

  abbrev all_variables : List Variable
  all_variables = map (variable n) (standing n)

  abbrev first_given : List Given
  first_given = given_at n 0 (standing n) []

  has_variable : (w : ℕ) → Contains (standing n) w → HasVariable all_variables w (width_of (wire_at n w))
  has_variable w within digits few =
      any_passes (takes (code w) digits) (variable n w) all_variables (contains_map (variable n) w (standing n) within) (and_from _ _ ((bytes_eq-Decides (code w) (code w)).1 refl) (le-leb (length digits) (width_of (wire_at n w)) few))

  is_readable : (w : ℕ) → Contains (standing n) w → IsReadable n all_variables w
  is_readable w within =
      let wire = stands_of n w within in
      record { wide = omega (arith, (circuit.wires_ok w wire.0 wire.1).wide, ap width_of wire.1); declared = has_variable w within; fits = level_fits n circuit w }

  all_readable : All (IsReadable n all_variables) (standing n)
  all_readable k d within = is_readable (slice_index_or (standing n) k d) (Contains-get_or (standing n) k d within)

  all_units : Units u n all_variables (valued u Outside all_variables 0 first_given) (flat_map (unit_text n) (range_with_len 1 (n.horizon - 1))) (0 + (n.horizon - 1))
  all_units = leads_units u n all_variables (n.horizon - 1) 0 0 first_given all_readable (omega arith) (omega (arith, horizon_within n circuit)) (knows_first n)

  leads_dump : Leads nothing_read (dump scale n) (valued u Outside all_variables n.horizon all_units.given)
  unfolding dump
  leads_dump =
      let vs = all_variables in
      let starts = opens scale.number scale.unit in
      let block_starts : Leads (declaring u vs) block_start (valued u Inside vs 0 []) = record { each = λ rest. refl } in
      let block_ends : Leads (valued u Inside vs 0 first_given) (line (codes "$end")) (valued u Outside vs 0 first_given) = record { each = λ rest. refl } in
      let end = leads_time u vs all_units.time n.horizon all_units.given (omega (arith, all_units.upto, circuit.horizon_low)) (omega (arith, horizon_within n circuit)) in
      let levels = leads_both _ _ _ (flat_map (value_at n 0) (standing n)) _ (leads_values u Inside n vs 0 (standing n) [] all_readable) block_ends in
      let block = leads_both _ _ _ block_start _ block_starts levels in
      let declared = leads_both _ _ _ (flat_map (declaration n) (standing n)) _ (leads_declarations [] (standing n) (λ k d within. stands_of n (slice_index_or (standing n) k d) (Contains-get_or (standing n) k d within))) block in
      leads_both _ _ _ (preamble scale n) _ (leads_both _ _ _ (opening_lines scale) _ starts declared) (leads_both _ _ _ _ (time_mark n.horizon) all_units.leads end)

  says : SaysLevels scale n (valued u Outside all_variables n.horizon all_units.given)
  says = grind (arith, nat_tests, all_units, stands_in)

  pub says_levels : SaysLevels scale n (reading (dump scale n))
  unfolding reading
  says_levels = subst (SaysLevels scale n) (sym (ap (λ l. read_words (words l) nothing_read) (sym (append-nil (dump scale n))) ∙ leads_dump.each [])) says
