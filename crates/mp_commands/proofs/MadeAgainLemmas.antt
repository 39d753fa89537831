-- The lines of edits, made one after the other.
use Rattle.std.specs.Prelude.{◌≡◌, ◌+◌, ◌<◌, ◌≤◌, ◌∷◌, ◌++◌}
use Rattle.mp_commands.proofs.Names.{ℕ, true, false, List, [], append_assoc, length, map, Result, Ok, Err, refl, sym, ap, subst, ◌∙◌, nat_lt, arith, append-nil, length-append, Edit, EditError, Circuit, IsCircuit, after, go_on, replay, counted_edit, LineError, lines_of, Line, Change, line_at, Kept, opened, IsKeptAfter, IsKeptNext, IsNext}
use Rattle.std.proofs.lemmas.Bool.Decides.{nat_tests}
use Rattle.mp_netlist.specs.Laws.{EditsKeepNetlists}
use Rattle.mp_version.specs.Limits.{max_edits}
use Rattle.mp_text.specs.edit_lines.EditLines.{edit_lines}
use Rattle.mp_text.specs.edit_lines.ReadBack.{AreLinesOfEdits}
use Rattle.mp_commands.specs.MadeAgain.{LeadTo, IsMadeAgain}

-- the lines of these edits
abbrev AreOf : List (List ℕ) → List Edit → Type 0
AreOf lines edits = map line_at lines ≡ map (λ edit. Ok (Change edit)) edits

-- an edit that the netlist accepts is one more, where there is room
counted : (edits : List Edit) (n : Circuit) → length edits < max_edits → counted_edit edits (Ok n) ≡ Ok n
counted edits n room = let is : nat_lt (length edits) max_edits ≡ true = grind (arith, nat_tests) in rw is refl

line_makes : (kept next : Kept) (line : List ℕ) (edit : Edit) (n : Circuit) → line_at line ≡ Ok (Change edit) → after kept.netlist edit ≡ Ok n → length kept.edits < max_edits
    → IsNext false kept line next → (next.netlist ≡ n) × (next.edits ≡ kept.edits ++ edit ∷ [])
line_makes kept next line edit n read made room after_line =
    let change : IsKeptNext false kept (Ok (Change edit)) next = subst (λ (l : Result Line LineError). IsKeptNext false kept l next) read after_line in
    let judged_is : counted_edit kept.edits (after kept.netlist edit) ≡ Ok n = ap (counted_edit kept.edits) made ∙ counted kept.edits n room in
    let is : IsKeptAfter kept edit (Ok n) next = subst (λ (r : Result Circuit EditError). IsKeptAfter kept edit r next) judged_is change in
    (is.0, is.1.edits)

-- the lines of further edits lead on
lead_on : EditsKeepNetlists → (kept last : Kept) (m : Circuit) → IsCircuit kept.netlist → (edits : List Edit) (lines : List (List ℕ)) → AreOf lines edits → replay kept.netlist edits ≡ Ok m
    → length kept.edits + length edits ≤ max_edits → LeadTo kept lines last → (last.netlist ≡ m) × (last.edits ≡ kept.edits ++ edits)
unfolding LeadTo
lead_on keeps kept last m ok [] [] read made few leads =
    let same : kept.netlist ≡ m = cc in
    (ap (λ (k : Kept). k.netlist) leads ∙ same, ap (λ (k : Kept). k.edits) leads ∙ sym (append-nil kept.edits))
lead_on keeps kept last m ok [] (line ∷ lines) read made few leads = let no : ⊥ = cc in absurd no
lead_on keeps kept last m ok (edit ∷ edits) [] read made few leads = let no : ⊥ = cc in absurd no
lead_on keeps kept last m ok (edit ∷ edits) (line ∷ lines) read made few leads =
    by (λ next whole others later room further. lead_on keeps next last m whole edits lines others later room further) (after kept.netlist edit) refl made
  where
    by : ((next : Kept) → IsCircuit next.netlist → AreOf lines edits → replay next.netlist edits ≡ Ok m → length next.edits + length edits ≤ max_edits → LeadTo next lines last
        → (last.netlist ≡ m) × (last.edits ≡ next.edits ++ edits))
        → (first : Result Circuit EditError) → after kept.netlist edit ≡ first → go_on (λ next. replay next edits) first ≡ Ok m → (last.netlist ≡ m) × (last.edits ≡ kept.edits ++ edit ∷ edits)
    by go_further (Err error) is later = cc
    by go_further (Ok n) is later =
        let here : line_at line ≡ Ok (Change edit) = cc in
        let others : AreOf lines edits = cc in
        let next = leads.0 in
        let room : length kept.edits < max_edits = omega (arith, few) in
        let one = line_makes kept next line edit n here is room leads.1 in
        let count : length next.edits ≡ length kept.edits + 1 = ap length one.1 ∙ length-append kept.edits (edit ∷ []) in
        let still = subst IsCircuit (sym one.0) (keeps kept.netlist n ok edit is) in
        let all = go_further next still others (subst (λ (c : Circuit). replay c edits ≡ Ok m) (sym one.0) later) (omega (arith, few, count)) leads.2 in
        (all.0, all.1 ∙ ap (λ l. l ++ edits) one.1 ∙ append_assoc kept.edits (edit ∷ []) edits)

pub made_again : EditsKeepNetlists → AreLinesOfEdits → IsMadeAgain
made_again keeps says n m ok edits made few last leads =
    let none : length (opened n).edits ≡ 0 = refl in
    lead_on keeps (opened n) last m ok edits (lines_of (edit_lines edits)) (says n m ok edits made) made (omega (arith, few, none)) leads
