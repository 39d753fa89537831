-- What is said of a set of wires, and of what comes behind it.
use Rattle.std.proofs.Common.{◌≡◌, ℕ, Bool, true, false, not, cond, List, [], ◌∷◌, ◌++◌, append-nil, filter, length, slice_get, Option, Some, None, Ok, is_some, refl, ap, sym, ◌∙◌, ◌==◌, arith}
use Rattle.std.specs.Prelude.{◌||◌, codes}
use Rattle.std.specs.List.{flat_map}
use Rattle.std.proofs.lemmas.Bool.{eqb-false}
use Rattle.std.proofs.lemmas.List.{length-map}
use Rattle.std.proofs.lemmas.Option.{same_Some}
use Rattle.mp_streams.specs.Outgoing.{Outgoing, Puts}
use Rattle.mp_records.specs.declared.ids.WireId.{WireId}
use Rattle.mp_netlist.specs.Circuit.{Circuit}
use Rattle.mp_questions.specs.declared.causes.module_share.ModuleShare.{ModuleShare}
use Rattle.mp_questions.specs.declared.causes.wire_change.WireChange.{WireChange}
use Rattle.mp_questions.specs.causes.Shares.{by_units, has_steps, shares}
use Rattle.mp_steady.specs.Cycles.{cycle_length}
use Rattle.mp_steady.specs.Periods.{is_over, period}
use Rattle.mp_steady.specs.SteadyLines.{control_text, cycle_line, cycle_text, events_line, module_line, none_text, over_text, repeats_text, set_text, steady_text, text_of}
use Rattle.mp_steady.specs.WireSets.{all_wires, control, numbers}

-- something is said of these wires
abbrev pub is_said : Circuit → List ℕ → Bool
is_said n wires = is_over n wires || is_some (period n wires)

split_set : (n : Circuit) (over word wires : List ℕ) (first : Bool) (found : Option ℕ) (other : List ℕ)
    → set_text n over word wires first found other ≡ set_text n over word wires first found [] ++ cond (first || is_some found) [] other
split_set n over word wires true found other = sym (append-nil (set_text n over word wires true found []))
split_set n over word wires false (Some units) other = sym (append-nil (set_text n over word wires false (Some units) []))
split_set n over word wires false None other = refl

-- where it isn't, another text is written
pub text_splits : (n : Circuit) (over word wires other : List ℕ) → text_of n over word wires other ≡ text_of n over word wires [] ++ cond (is_said n wires) [] other
text_splits n over word wires other = split_set n over word wires (is_over n wires) (period n wires) other

not_true : (b : Bool) → true ≡ not b → b ≡ false
not_true true is = let no : ⊥ = cc in absurd no
not_true false is = refl

not_false : (b : Bool) → false ≡ not b → b ≡ true
not_false true is = refl
not_false false is = let no : ⊥ = cc in absurd no

pub text_said : (n : Circuit) (over word wires other : List ℕ) → false ≡ not (is_said n wires) → text_of n over word wires [] ≡ text_of n over word wires other
text_said n over word wires other is =
    sym (append-nil (text_of n over word wires [])) ∙ sym (ap (λ b. text_of n over word wires [] ++ cond b [] other) (not_false (is_said n wires) is)) ∙ sym (text_splits n over word wires other)

pub text_unsaid : (n : Circuit) (over word wires other : List ℕ) → true ≡ not (is_said n wires) → text_of n over word wires [] ++ other ≡ text_of n over word wires other
text_unsaid n over word wires other is =
    sym (ap (λ b. text_of n over word wires [] ++ cond b [] other) (not_true (is_said n wires) is)) ∙ sym (text_splits n over word wires other)

-- lines of wires by their numbers
pub lines_are : (n : Circuit) (units : ℕ) (wires : List WireId) → flat_map (λ (w : WireId). events_line n units w.0) wires ≡ flat_map (events_line n units) (numbers wires)
lines_are n units [] = refl
lines_are n units (w ∷ ws) = ap (λ l. events_line n units w.0 ++ l) (lines_are n units ws)

-- ---- what is said of a set

pub text_over : (n : Circuit) (over word wires : List ℕ) → is_over n wires ≡ true → over_text n over wires ≡ text_of n over word wires []
text_over n over word wires is = sym (ap (λ b. set_text n over word wires b (period n wires) []) is)

pub text_repeats : (n : Circuit) (over word wires : List ℕ) (units : ℕ) → is_over n wires ≡ false → Some units ≡ period n wires → repeats_text n word wires units ≡ text_of n over word wires []
text_repeats n over word wires units moving is =
    sym (ap (λ b. set_text n over word wires b (period n wires) []) moving ∙ ap (λ o. set_text n over word wires false o []) (sym is))

pub text_none : (n : Circuit) (over word wires : List ℕ) → is_over n wires ≡ false → None ≡ period n wires → [] ≡ text_of n over word wires []
text_none n over word wires moving is = sym (ap (λ b. set_text n over word wires b (period n wires) []) moving ∙ ap (λ o. set_text n over word wires false o []) (sym is))

pub said_over : (n : Circuit) (wires : List ℕ) → is_over n wires ≡ true → false ≡ not (is_said n wires)
said_over n wires is = sym (ap (λ b. not (b || is_some (period n wires))) is)

pub said_repeats : (n : Circuit) (wires : List ℕ) (units : ℕ) → is_over n wires ≡ false → Some units ≡ period n wires → false ≡ not (is_said n wires)
said_repeats n wires units moving is = sym (ap (λ b. not (b || is_some (period n wires))) moving ∙ ap (λ o. not (is_some o)) (sym is))

pub unsaid : (n : Circuit) (wires : List ℕ) → is_over n wires ≡ false → None ≡ period n wires → true ≡ not (is_said n wires)
unsaid n wires moving is = sym (ap (λ b. not (b || is_some (period n wires))) moving ∙ ap (λ o. not (is_some o)) (sym is))

-- ---- all wires, and the control

pub steady_is : (n : Circuit) (over word wires : List ℕ) → over ≡ codes "nothing changes after " → word ≡ [] → wires ≡ all_wires n → text_of n over word wires (control_text n (control n)) ≡ steady_text n
unfolding steady_text
steady_is n over word wires first second is =
    ap (λ x. text_of n x word wires (control_text n (control n))) first ∙ ap (λ x. text_of n (codes "nothing changes after ") x wires (control_text n (control n))) second
    ∙ ap (λ ws. text_of n (codes "nothing changes after ") [] ws (control_text n (control n))) is

pub control_none : (n : Circuit) (wires : List ℕ) → wires ≡ [] → none_text n (all_wires n) ≡ control_text n wires
control_none n wires is = sym (ap (control_text n) is)

pub control_is : (n : Circuit) (over word wires : List ℕ) → over ≡ codes "control stands still after " → word ≡ codes "control " → (wires ≡ [] → ⊥) → text_of n over word wires (none_text n wires) ≡ control_text n wires
control_is n over word [] first second some = absurd (some refl)
control_is n over word (w ∷ ws) first second some =
    ap (λ x. text_of n x word (w ∷ ws) (none_text n (w ∷ ws))) first ∙ ap (λ x. text_of n (codes "control stands still after ") x (w ∷ ws) (none_text n (w ∷ ws))) second

-- ---- the critical cycle

pub no_critical : (n : Circuit) (found : List WireChange) → slice_get found 0 ≡ None → [] ≡ cycle_text n found
no_critical n [] none = refl
no_critical n (c ∷ cs) none = let no : ⊥ = cc in absurd no

pub critical : (n : Circuit) (found : List WireChange) (first : WireChange) (units : ℕ) (list : List ModuleShare) → slice_get found 0 ≡ Some first → units ≡ cycle_length n found
    → list ≡ by_units (filter has_steps (shares n found)) → cycle_line n first units ++ flat_map (module_line n) list ≡ cycle_text n found
critical n [] first units list is long of = let no : ⊥ = cc in absurd no
critical n (c ∷ cs) first units list is long of =
    let same : c ≡ first = same_Some c first is in
    ap (λ d. cycle_line n d units ++ flat_map (module_line n) list) (sym same) ∙ ap (λ u. cycle_line n c u ++ flat_map (module_line n) list) long
    ∙ ap (λ l. cycle_line n c (cycle_length n (c ∷ cs)) ++ flat_map (module_line n) l) of

-- a list that isn't empty has numbers
pub some_wires : (wires : List WireId) (count : ℕ) → length wires ≡ count → (count == 0) ≡ false → numbers wires ≡ [] → ⊥
some_wires wires count long some none = eqb-false count 0 some (omega (arith, long, ap length none, length-map wires (λ (w : WireId). w.0)))

-- a success is one whatever it returns
pub puts_done : {S T U E F : Type 0} {f : F → Bool} {g : E → Bool} {done : T} {other : U} {a b : Outgoing S} {xs : List ℕ} → Puts f (Ok done) a b xs → Puts g (Ok other) a b xs
puts_done puts = record { front = puts.front; lost = puts.lost; taken = puts.taken; held = puts.held; ends = puts.ends }
