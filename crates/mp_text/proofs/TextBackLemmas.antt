-- Lines that are written lead from netlist to netlist as their edits do.
use Rattle.mp_text.proofs.Names.{◌≡◌, ◌∷◌, ◌++◌, ℕ, List, [], append_assoc, suc, All, Option, Some, None, Ok, refl, sym, ap, subst, ◌∙◌, flat_map, slot_at, EditWord, SingleEdit, AddWire, EditError, Result, Err, Circuit, after_single, edited, go_on, in_text, next_line, refusal, replay_singles, result_map_both, Refused, unless, ◌>>=◌, ◌+◌, TextState, Open, Change, stated_edit, statement_of, spaced, written_line, IsPlain, lines_of, after_statement, after_line, after_lines, arith, nat_tests}
use Rattle.mp_netlist.specs.declared.format.Format.{Format as NetlistFormat}
use Rattle.mp_text.proofs.WrittenLineLemmas.{lines_of-written, line_words-spaced}

-- an edit leaves the format as it is
format_edited : (c : Circuit) (edit : SingleEdit) → (edited c edit).format ≡ c.format
unfolding edited
format_edited c (AddWire name width level) = refl
format_edited c _ = refl

pub format_stays : (c next : Circuit) (edit : SingleEdit) → after_single c edit ≡ Ok next → next.format ≡ c.format
format_stays c next edit made = by (refusal c edit) made
  where
    by : (error : Option EditError) → unless error (edited c edit) ≡ Ok next → next.format ≡ c.format
    by None is = let same : edited c edit ≡ next = cc in ap (λ (n : Circuit). n.format) (sym same) ∙ format_edited c edit
    by (Some error) is = cc

-- the lines of the bytes lead from a netlist of that format where the edits lead
pub record Leads (f : NetlistFormat) (bytes : List ℕ) (edits : List SingleEdit) : Type 0 where
  pub each : (k : ℕ) (c d : Circuit) → c.format ≡ f → replay_singles c edits ≡ Ok d → after_lines k (Open c) (lines_of bytes) ≡ Ok d

pub leads_nowhere : (f : NetlistFormat) → Leads f [] []
unfolding after_lines lines_of
leads_nowhere f = record { each = λ k c d is same. let e : c ≡ d = cc same in ap Ok e }

-- a written line is read as its statement
pub line_stated : (state : TextState) (first : List ℕ) (words : List (List ℕ)) → IsPlain first → All IsPlain words
    → after_line state (first ++ spaced words) ≡ after_statement state (statement_of (first ∷ words))
unfolding after_line
line_stated state first words plain all = grind (arith, nat_tests, line_words-spaced)

module _ (f : NetlistFormat) (first : List ℕ) (words : List (List ℕ)) (edit : SingleEdit) (word : EditWord) (plain : IsPlain first) (all : All IsPlain words)
    (says : statement_of (first ∷ words) ≡ Change word words) (read : stated_edit f word words ≡ Ok edit) where
  -- what the edit makes of the netlist, and the lines behind it of that
  edited_leads : (k : ℕ) (c d : Circuit) (lines : List (List ℕ)) → c.format ≡ f
      → after_line (Open c) (first ++ spaced words) ≡ result_map_both Open Refused (after_single c edit)
  unfolding after_line after_statement
  edited_leads k c d lines is =
      line_stated (Open c) first words plain all ∙ ap (after_statement (Open c)) says
      ∙ ap (λ g. in_text (stated_edit g word words) >>= λ e. result_map_both Open Refused (after_single c e)) is
      ∙ ap (λ r. in_text r >>= λ e. result_map_both Open Refused (after_single c e)) read

  -- a written line in front of others
  pub leads_line : (bytes : List ℕ) (edits : List SingleEdit) → Leads f bytes edits → Leads f (written_line first words ++ bytes) (edit ∷ edits)
  unfolding after_lines
  leads_line bytes edits rest = record {
    each = λ k c d is replayed.
        ap (after_lines k (Open c)) (lines_of-written first words bytes plain all)
        ∙ ap (next_line k (λ after. after_lines (k + 1) after (lines_of bytes))) (edited_leads k c d (lines_of bytes) is)
        ∙ on k c d is (after_single c edit) refl replayed;
  }
    where
      on : (k : ℕ) (c d : Circuit) → c.format ≡ f → (made : Result Circuit EditError) → after_single c edit ≡ made → go_on (λ next. replay_singles next edits) made ≡ Ok d
          → next_line k (λ after. after_lines (k + 1) after (lines_of bytes)) (result_map_both Open Refused made) ≡ Ok d
      on k c d is (Ok next) made replayed = rest.each (k + 1) next d (format_stays c next edit made ∙ is) replayed
      on k c d is (Err error) made replayed = cc

-- the line of a slot leads where its edit leads
pub record SlotLeads {R : Type 0} (f : NetlistFormat) (line : Option R → List ℕ) (change : Option R → List SingleEdit) (slot : Option R) : Type 0 where
  pub each : (bytes : List ℕ) (edits : List SingleEdit) → Leads f bytes edits → Leads f (line slot ++ bytes) (change slot ++ edits)

-- the lines of slots in front of others, where the line of each thing leads where its edit leads
pub leads_slots : {R : Type 0} (f : NetlistFormat) (line : Option R → List ℕ) (change : Option R → List SingleEdit) (slots : List (Option R)) (bytes : List ℕ) (edits : List SingleEdit)
    → SlotLeads f line change None → ((k : ℕ) (r : R) → slot_at slots k ≡ Some r → SlotLeads f line change (Some r)) → Leads f bytes edits → Leads f (flat_map line slots ++ bytes) (flat_map change slots ++ edits)
leads_slots f line change [] bytes edits none each rest = rest
leads_slots {R} f line change (slot ∷ slots) bytes edits none each rest =
    let later = leads_slots f line change slots bytes edits none (λ k. each (suc k)) rest in
    let here = (by slot (each 0)).each (flat_map line slots ++ bytes) (flat_map change slots ++ edits) later in
    subst (λ bs. Leads f bs ((change slot ++ flat_map change slots) ++ edits)) (sym (append_assoc (line slot) (flat_map line slots) bytes))
    (subst (λ es. Leads f (line slot ++ (flat_map line slots ++ bytes)) es) (sym (append_assoc (change slot) (flat_map change slots) edits)) here)
  where
    by : (s : Option R) → ((r : R) → s ≡ Some r → SlotLeads f line change (Some r)) → SlotLeads f line change s
    by None each = none
    by (Some r) each = each r refl
