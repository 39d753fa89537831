-- The netlist of a text is a replay.
use Rattle.mp_text.proofs.Names.{◌≡◌, ◌+◌, ◌∷◌, if◌then◌else◌, ◌==◌, ℕ, Bool, true, false, cond, List, [], map, Result, Ok, Err, refl, ap, filter_map, list_all, SingleEdit, Circuit, empty_circuit, replay, replay_singles, NotAscii, BadNumber, Line, TextCode, TextState, Fresh, Formatted, Open, ◌>>=◌, TextError, lines_of, is_allowed, words_of, Statement, Format, Start, Change, stated_edit, LineError, EditError, Refused, after_single, go_on, result_map_both, subst, statement_of, in_text, text_at, after_lines, after_line, after_statement, formatted, next_line, Standard, Large, netlist_format, TextFormat, format_of, eqb-true, arith, nat_tests}
use Rattle.mp_netlist.specs.declared.format.Format.{Format as NetlistFormat}
use Rattle.std.specs.List.{cons_option}
use Rattle.mp_records.specs.declared.edit.Edit.TheVariants.{Single}
use Rattle.mp_text.specs.Statements.{Blank, Unknown}
use Rattle.mp_text.proofs.TextBackLemmas.{format_stays}
use Rattle.mp_text.specs.Laws.{format_by, horizon_of, edit_of, edit_read, statements, IsReplayed, IsReplay}

-- the lines state no horizon, and lead from one netlist to the other by their edits, in the format of these
abbrev LeadsOn : List Statement → Circuit → Circuit → Type 0
LeadsOn ss n c = (filter_map horizon_of ss ≡ []) × (replay_singles n (filter_map (edit_of n.format) ss) ≡ Ok c)

module _ (k : ℕ) (n c : Circuit) (ss : List Statement) (go : TextState → Result Circuit TextError)
    (next : (m : Circuit) → go (Open m) ≡ Ok c → LeadsOn ss m c) where
  on_edit : (read : Result SingleEdit LineError) → next_line k go (in_text read >>= λ e. result_map_both Open Refused (after_single n e)) ≡ Ok c
      → (filter_map horizon_of ss ≡ []) × (replay_singles n (cons_option (edit_read read) (filter_map (edit_of n.format) ss)) ≡ Ok c)
  on_edit (Err error) h = cc
  on_edit (Ok edit) h = by (after_single n edit) refl h
    where
      by : (made : Result Circuit EditError) → after_single n edit ≡ made → next_line k go (result_map_both Open Refused made) ≡ Ok c
          → (filter_map horizon_of ss ≡ []) × (go_on (λ m. replay_singles m (filter_map (edit_of n.format) ss)) made ≡ Ok c)
      by (Ok m) made h =
          let rest = next m h in
          (rest.0, subst (λ f. replay_singles m (filter_map (edit_of f) ss) ≡ Ok c) (format_stays n m edit made) rest.1)
      by (Err error) made h = cc

  on_statement : (s : Statement) → next_line k go (after_statement (Open n) s) ≡ Ok c → LeadsOn (s ∷ ss) n c
  unfolding after_statement
  on_statement Blank h = next n h
  on_statement Unknown h = cc
  on_statement (Format number) h = cc
  on_statement (Start horizon) h = cc
  on_statement (Change word words) h = on_edit (stated_edit n.format word words) h

-- what holds of the statements of a line that is read holds of its words
module _ (k : ℕ) (c : Circuit) (state : TextState) (go : TextState → Result Circuit TextError) (P : Statement → Type 0)
    (step : (s : Statement) → next_line k go (after_statement state s) ≡ Ok c → P s) where
  by_line : (b : Bool) (ws : List (List ℕ)) → next_line k go (in_text (cond b (Ok ws) (Err NotAscii)) >>= λ words. after_statement state (statement_of words)) ≡ Ok c → P (statement_of ws)
  by_line true ws h = step (statement_of ws) h
  by_line false ws h = cc

leads_on : (k : ℕ) (n c : Circuit) (lines : List (List ℕ)) → after_lines k (Open n) lines ≡ Ok c → LeadsOn (statements lines) n c
unfolding after_lines after_line
leads_on k n c [] h = let same : n ≡ c = cc in (refl, ap Ok same)
leads_on k n c (line ∷ lines) h =
    by_line k c (Open n) (λ after. after_lines (k + 1) after lines) (λ s. LeadsOn (s ∷ statements lines) n c)
    (on_statement k n c (statements lines) (λ after. after_lines (k + 1) after lines) (λ m. leads_on (k + 1) m c lines)) (list_all is_allowed line) (words_of line) h

-- the lines state one horizon, and lead from its empty netlist to the other by their edits
abbrev Opens : NetlistFormat → List Statement → Circuit → Type 0
Opens f ss c = (h : ℕ) × ((filter_map horizon_of ss ≡ h ∷ []) × (replay_singles (empty_circuit f h) (filter_map (edit_of f) ss) ≡ Ok c))

-- the format of a text of the form of a number
pub format_numbered : (number : ℕ) (form : TextFormat) → format_of number ≡ Ok form → netlist_format form ≡ (if number == 4 then Large else Standard)
format_numbered number form is = grind (arith, nat_tests, eqb-true)

module _ (k : ℕ) (c : Circuit) (ss : List Statement) (go : TextState → Result Circuit TextError)
    (formed : (format : TextFormat) → go (Formatted format) ≡ Ok c → Opens (netlist_format format) ss c) (next : (m : Circuit) → go (Open m) ≡ Ok c → LeadsOn ss m c) where
  on_begun : (f : NetlistFormat) (h : ℕ) (allowed : Bool) → next_line k go (cond allowed (Ok (Open (empty_circuit f h))) (Err (Line BadNumber))) ≡ Ok c → Opens f (Start (Ok h) ∷ ss) c
  on_begun f h allowed same = grind (arith, nat_tests)

  on_format : (number : ℕ) (r : Result TextFormat TextCode) → format_of number ≡ r → next_line k go (formatted r) ≡ Ok c → Opens (if number == 4 then Large else Standard) (Format (Ok number) ∷ ss) c
  on_format number r is h = grind (arith, nat_tests, format_numbered)

  opens_formatted : (format : TextFormat) (s : Statement) → next_line k go (after_statement (Formatted format) s) ≡ Ok c → Opens (netlist_format format) (s ∷ ss) c
  unfolding after_statement
  opens_formatted format s h = grind (arith, nat_tests, on_begun)

  opens_fresh : (go Fresh ≡ Ok c → Opens (format_by ss) ss c) → (s : Statement) → next_line k go (after_statement Fresh s) ≡ Ok c → Opens (format_by (s ∷ ss)) (s ∷ ss) c
  unfolding after_statement
  opens_fresh later h1 h = grind (arith, nat_tests, on_format, on_begun)

opens_behind : (k : ℕ) (c : Circuit) (lines : List (List ℕ)) (format : TextFormat) → after_lines k (Formatted format) lines ≡ Ok c → Opens (netlist_format format) (statements lines) c
unfolding after_lines after_line
opens_behind k c [] format h = cc
opens_behind k c (line ∷ lines) format h =
    by_line k c (Formatted format) (λ after. after_lines (k + 1) after lines) (λ s. Opens (netlist_format format) (s ∷ statements lines) c)
    (opens_formatted k c (statements lines) (λ after. after_lines (k + 1) after lines) (opens_behind (k + 1) c lines) (λ m. leads_on (k + 1) m c lines) format) (list_all is_allowed line) (words_of line) h

opens : (k : ℕ) (c : Circuit) (lines : List (List ℕ)) → after_lines k Fresh lines ≡ Ok c → Opens (format_by (statements lines)) (statements lines) c
unfolding after_lines after_line
opens k c [] h = cc
opens k c (line ∷ lines) h =
    by_line k c Fresh (λ after. after_lines (k + 1) after lines) (λ s. Opens (format_by (s ∷ statements lines)) (s ∷ statements lines) c)
    (opens_fresh k c (statements lines) (λ after. after_lines (k + 1) after lines) (opens_behind (k + 1) c lines) (λ m. leads_on (k + 1) m c lines) (opens (k + 1) c lines)) (list_all is_allowed line) (words_of line) h

-- a replay of edits of one thing
singles_replayed : (n : Circuit) (edits : List SingleEdit) → replay n (map Single edits) ≡ replay_singles n edits
singles_replayed n [] = refl
singles_replayed n (edit ∷ edits) = grind (arith, nat_tests, (λ (next : Circuit). singles_replayed next edits))

replayed : (lines : List (List ℕ)) (c : Circuit) → Opens (format_by (statements lines)) (statements lines) c → IsReplayed lines c
replayed lines c opened = grind (arith, nat_tests, singles_replayed)

pub text_is_replay : IsReplay
unfolding text_at
text_is_replay text c h = replayed (lines_of text) c (opens 0 c (lines_of text) (grind (arith, nat_tests, h)))
