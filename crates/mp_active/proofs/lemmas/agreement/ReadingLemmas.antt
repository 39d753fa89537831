-- What modules read.
use Rattle.std.proofs.Common.{◌≡◌, ℕ, zero, suc, ◌<◌, List, [], ◌∷◌, length, map, refl, ap, sym, ◌∙◌, arith, inl, inr}
use Rattle.std.specs.Prelude.{slice_index}
use Rattle.std.proofs.lemmas.Bool.{cases_lt}
use Rattle.std.proofs.lemmas.List.{get_or-map, length-map}
use Rattle.std.proofs.lemmas.List.Elements.{All-head, All-tail}
use Rattle.mp_modules.specs.declared.memory.Memory.{Memory}
use Rattle.mp_modules.specs.Memories.{input_levels}
use Rattle.mp_modules.proofs.KindLemmas.{few_inputs}
use Rattle.mp_records.specs.declared.ports.Input.{Input}
use Rattle.mp_netlist.specs.Circuit.{Circuit, IsCircuit}
use Rattle.mp_model.specs.Levels.{input_by, inputs_by}
use Rattle.mp_model.specs.Waves.{level, state}
use Rattle.mp_model.specs.Reach.{IsApart}
use Rattle.mp_model.proofs.InputLemmas.{input_is}
use Rattle.mp_simulation.specs.bits.PortEvents.{source_of}
use Rattle.mp_simulation.proofs.lemmas.bits.PortEventLemmas.{held}
use Rattle.mp_depend.proofs.lemmas.work.StayLemmas.{old_inputs, new_inputs, together}
use Rattle.mp_active.specs.agreement.Reading.{late, AreAlike, InputsAreLate, QuietWhereAlike, SleepersReadAlike}

-- inputs have what their sources have
inputs_late : (n : Circuit) → IsCircuit n → (u : ℕ) (inputs : List Input) → map (λ i. input_by n (level n) i u) inputs ≡ map (λ source. late n source u) (map source_of inputs)
inputs_late n ok u [] = refl
inputs_late n ok u (i ∷ rest) =
    ap (λ k. k ∷ map (λ j. input_by n (level n) j u) rest) (input_is n ok i u) ∙ ap (λ ks. late n (source_of i) u ∷ ks) (inputs_late n ok u rest)

pub inputs_are_late : InputsAreLate
inputs_are_late n ok m u r at = inputs_late n ok u r.inputs

-- sources that have one list of levels are alike
alike_by : (old new : Circuit) (u : ℕ) (sources : List (ℕ × ℕ)) → ((k : ℕ) → k < length sources →
    slice_index (map (λ source. late old source u) sources) k ≡ slice_index (map (λ source. late new source u) sources) k) → AreAlike old new u sources
alike_by old new u sources same = λ k d within.
    sym (get_or-map (λ source. late old source u) sources k d 0 within) ∙ same k within ∙ get_or-map (λ source. late new source u) sources k d 0 within

levels_alike : (old new : Circuit) (u : ℕ) (sources : List (ℕ × ℕ)) → AreAlike old new u sources → map (λ source. late old source u) sources ≡ map (λ source. late new source u) sources
levels_alike old new u [] alike = refl
levels_alike old new u (x ∷ xs) alike =
    ap (λ k. k ∷ map (λ source. late old source u) xs) (All-head (λ source. late old source u ≡ late new source u) x xs alike)
    ∙ ap (λ ks. late new x u ∷ ks) (levels_alike old new u xs (All-tail (λ source. late old source u ≡ late new source u) x xs alike))

pub quiet_where_alike : QuietWhereAlike
quiet_where_alike old new old_ok new_ok revised m u r kept = (there, here)
  where
    sources : List (ℕ × ℕ)
    sources = map source_of r.inputs

    there : (IsApart old new m u → ⊥) → AreAlike old new u sources
    there not =
        let same = sym (inputs_late old old_ok u r.inputs) ∙ together old new old_ok new_ok revised m r kept u not ∙ inputs_late new new_ok u r.inputs in
        alike_by old new u sources (λ k within. ap (λ (xs : List ℕ). slice_index xs k) same)

    here : AreAlike old new u sources → IsApart old new m u → ⊥
    here alike apart = apart.differ
        (old_inputs old new old_ok new_ok revised m r kept u ∙ inputs_late old old_ok u r.inputs ∙ levels_alike old new u sources alike
        ∙ sym (inputs_late new new_ok u r.inputs) ∙ sym (new_inputs old new old_ok new_ok revised m r kept u))

-- a state has all levels at the inputs
level_kept : (levels : List ℕ) (k : ℕ) → k < 4 → slice_index (input_levels levels) k ≡ slice_index levels k
level_kept levels zero within = refl
level_kept levels (suc zero) within = refl
level_kept levels (suc (suc zero)) within = refl
level_kept levels (suc (suc (suc zero))) within = refl
level_kept levels (suc (suc (suc (suc k)))) within = absurd (omega arith)

pub sleepers_read_alike : SleepersReadAlike
sleepers_read_alike old new old_ok new_ok revised since t m r sleeps = elim (cases_lt t since) as (λ _. AreAlike old new t sources) [
  | inl begins ↦ at_begin (sleeps.agreed t (let begun = sleeps.begun in omega (arith, begun, begins)))
  | inr over ↦ (quiet_where_alike old new old_ok new_ok revised m t r sleeps.kept).0 (sleeps.quiet t over (omega arith))
]
  where
    sources : List (ℕ × ℕ)
    sources = map source_of r.inputs

    -- where the states are the same, the inputs are
    at_begin : state old m t ≡ state new m t → AreAlike old new t sources
    at_begin same =
        let was = inputs_by old (level old) r t in
        let now = inputs_by new (level new) r t in
        let one : input_levels was ≡ input_levels now = sym (held old old_ok m t r sleeps.kept.before) ∙ ap (λ (s : Memory). s.inputs) same ∙ held new new_ok m t r sleeps.kept.after in
        let few = few_inputs r.kind in
        let ports = (new_ok.modules_ok m r sleeps.kept.after).inputs in
        let many = length-map r.inputs source_of in
        alike_by old new t sources (λ k within.
        let low : k < 4 = omega (arith, within, many, ports, few) in
        ap (λ (xs : List ℕ). slice_index xs k) (sym (inputs_late old old_ok t r.inputs))
        ∙ sym (level_kept was k low) ∙ ap (λ (xs : List ℕ). slice_index xs k) one ∙ level_kept now k low
        ∙ ap (λ (xs : List ℕ). slice_index xs k) (inputs_late new new_ok t r.inputs))
