-- The lines of what is kept, and what is kept of all.
use Rattle.std.proofs.Common.{◌≡◌, ℕ, ◌-◌, ◌≤◌, ◌&&◌, Bool, true, false, cond, nat_le, nat_lt, List, [], ◌∷◌, ◌++◌, append_assoc, All, Ok, length, take, filter, flat_map, refl, ap, ap₂, subst, ◌∙◌, arith}
use Rattle.std.specs.List.{range_with_len}
use Rattle.std.proofs.lemmas.Bool.Decides.{nat_tests}
use Rattle.std.proofs.lemmas.List.{take_all}
use Rattle.std.proofs.lemmas.List.Elements.{All-head, All-tail, All-weaker}
use Rattle.mp_streams.specs.Outgoing.{Outgoing, Puts}
use Rattle.mp_model.specs.Findings.{findings}
use Rattle.mp_model.specs.declared.finding.Finding.{Finding}
use Rattle.mp_report.specs.Lines.{finding_lines}
use Rattle.mp_questions.specs.declared.late.late.Late.{Late}
use Rattle.mp_questions.specs.late.Lateness.{all_late}
use Rattle.mp_questions.specs.timing.Ranges.{is_in_range, read_end, read_time}
use Rattle.mp_check.specs.CheckLaws.{ChecksAll, all_of}
use Rattle.mp_check.specs.CheckLines.{deadlock_line, late_line, whole_check}
use Rattle.mp_check.specs.CheckTexts.{check_text, selected_report}
use Rattle.mp_check.specs.Deadlocks.{deadlocks}
use Rattle.mp_check.specs.Notes.{wire_notes}
use Rattle.mp_check.specs.Over.{busy_note, is_over}
use Rattle.mp_check.specs.Selections.{keeps_bundle, keeps_deadlock, keeps_finding, keeps_late}
use Rattle.mp_check.specs.declared.wait.Wait.{Wait}
use Rattle.mp_check.proofs.ProblemLemmas.{IsWithin, findings_within, late_within}

-- ---- lines

module _ {X : Type 0} (keeps : X → Bool) (line : X → List ℕ) where
  -- a line, if it is kept
  abbrev pub kept : X → List ℕ
  kept x = cond (keeps x) (line x) []

  pub kept_lines : (xs : List X) → flat_map kept xs ≡ flat_map line (filter keeps xs)
  kept_lines [] = refl
  kept_lines (x ∷ others) = by (keeps x) (kept_lines others)
    where
      by : (b : Bool) → flat_map kept others ≡ flat_map line (filter keeps others) → cond b (line x) [] ++ flat_map kept others ≡ flat_map line (cond b (x ∷ filter keeps others) (filter keeps others))
      by true same = ap (λ (l : List ℕ). line x ++ l) same
      by false same = same

  -- all are written
  pub kept_over : {S T E : Type 0} {f : E → Bool} {done : T} {a b : Outgoing S} (xs : List X) (i : ℕ) → length xs ≤ i → Puts f (Ok done) a b (flat_map kept (take i xs)) → Puts f (Ok done) a b (flat_map line (filter keeps xs))
  kept_over {T = T} {E = E} {f = f} {done = done} {a = a} {b = b} xs i over puts = subst (Puts f (Ok done) a b) (ap (flat_map kept) (take_all i xs over) ∙ kept_lines xs) puts

-- ---- all of it

all_pass : {X : Type 0} (keeps : X → Bool) (xs : List X) → All (λ x. keeps x ≡ true) xs → filter keeps xs ≡ xs
all_pass keeps [] all = refl
all_pass {X = X} keeps (x ∷ others) all =
    ap (λ (b : Bool). cond b (x ∷ filter keeps others) (filter keeps others)) (All-head (λ (y : X). keeps y ≡ true) x others all)
    ∙ ap (λ (l : List X). x ∷ l) (all_pass keeps others (All-tail (λ (y : X). keeps y ≡ true) x others all))

in_all : (h to t : ℕ) → h ≤ to → IsWithin 1 (h - 1) t → is_in_range h 0 to t ≡ true
in_all h to t above within =
    let from : nat_le (read_time h 0) t ≡ true = grind (arith, nat_tests) in
    let end : nat_lt t (read_end h to) ≡ true = grind (arith, nat_tests, above, within.0, within.1) in
    ap₂ (λ (a b : Bool). a && b) from end

passed : (b : Bool) → b ≡ true → b && true ≡ true
passed b is = ap (λ (c : Bool). c && true) is

pub checks_all : ChecksAll
unfolding check_text selected_report whole_check
checks_all n to above =
    let s = all_of to in
    let found : filter (keeps_finding n s) (findings n) ≡ findings n
    = all_pass (keeps_finding n s) (findings n) (All-weaker (λ (f : Finding). IsWithin 1 (n.horizon - 1) f.time) (λ (f : Finding). keeps_finding n s f ≡ true) (λ f is. passed _ (in_all n.horizon to f.time above is)) (findings n) (findings_within n)) in
    let late : filter (keeps_late n s) (all_late n) ≡ all_late n
    = all_pass (keeps_late n s) (all_late n) (All-weaker (λ (l : Late). IsWithin 1 (n.horizon - 1) l.time) (λ (l : Late). keeps_late n s l ≡ true) (λ l is. passed _ (in_all n.horizon to l.time above is)) (all_late n) (late_within n)) in
    let locked : filter (keeps_deadlock n s) (deadlocks n) ≡ deadlocks n = all_pass (keeps_deadlock n s) (deadlocks n) (λ k d within. refl) in
    let numbers = range_with_len 0 (length n.bundles) in
    let bundles : filter (keeps_bundle n s) numbers ≡ numbers = all_pass (keeps_bundle n s) numbers (λ k d within. refl) in
    let rest : List ℕ = flat_map (deadlock_line n) (deadlocks n) ++ (wire_notes n ++ cond (is_over n) (flat_map (busy_note n) numbers) []) in
    ap (λ (fs : List Finding). (finding_lines n fs ++ flat_map (late_line n) (filter (keeps_late n s) (all_late n)))
    ++ (flat_map (deadlock_line n) (filter (keeps_deadlock n s) (deadlocks n)) ++ (wire_notes n ++ cond (is_over n) (flat_map (busy_note n) (filter (keeps_bundle n s) numbers)) []))) found
    ∙ ap (λ (ls : List Late). (finding_lines n (findings n) ++ flat_map (late_line n) ls)
    ++ (flat_map (deadlock_line n) (filter (keeps_deadlock n s) (deadlocks n)) ++ (wire_notes n ++ cond (is_over n) (flat_map (busy_note n) (filter (keeps_bundle n s) numbers)) []))) late
    ∙ ap (λ (ds : List (List Wait)). (finding_lines n (findings n) ++ flat_map (late_line n) (all_late n))
    ++ (flat_map (deadlock_line n) ds ++ (wire_notes n ++ cond (is_over n) (flat_map (busy_note n) (filter (keeps_bundle n s) numbers)) []))) locked
    ∙ ap (λ (ks : List ℕ). (finding_lines n (findings n) ++ flat_map (late_line n) (all_late n))
    ++ (flat_map (deadlock_line n) (deadlocks n) ++ (wire_notes n ++ cond (is_over n) (flat_map (busy_note n) ks) []))) bundles
    ∙ append_assoc (finding_lines n (findings n)) (flat_map (late_line n) (all_late n)) rest
