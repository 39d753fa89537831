-- The lines of a check.
use Rattle.std.proofs.Common.{◌≡◌, ℕ, ◌+◌, ◌<◌, List, [], ◌∷◌, map, max, length, get_or, take, Option, None, unwrap_or, ap, ◌∙◌}
use Rattle.std.specs.List.{fold}
use Rattle.std.proofs.lemmas.List.{take_more, map-append}
use Rattle.std.proofs.lemmas.List.Sums.{fold-append}
use Rattle.mp_netlist.specs.declared.driver.Driver.{Driver}
use Rattle.mp_netlist.specs.Circuit.{Circuit, IsCircuit, wire_at}
use Rattle.mp_netlist.proofs.DriverLemmas.{leaves_no_driver}
use Rattle.mp_model.specs.Levels.{initial_of, driven_level}
use Rattle.mp_model.specs.Waves.{level, state}
use Rattle.mp_model.proofs.BehaviourLemmas.{satisfies}
use Rattle.mp_questions.specs.timing.Events.{since}
use Rattle.mp_questions.proofs.lemmas.causes.EventLemmas.{no_last, steady_level}
use Rattle.mp_check.specs.Dead.{last_unit}
use Rattle.mp_check.specs.CheckLines.{stands_since}
use Rattle.mp_check.specs.declared.wait.Wait.{Wait}

-- a wire that doesn't stand never changes
unset_level : (n : Circuit) → IsCircuit n → (w u : ℕ) → wire_at n w ≡ None → level n w u ≡ 0
unset_level n ok w u none =
    (satisfies n ok).levels w u ∙ ap (λ (d : Driver). driven_level d n (state n) w u) (leaves_no_driver n ok w none) ∙ ap initial_of none

pub unset_since : (n : Circuit) → IsCircuit n → (w t : ℕ) → wire_at n w ≡ None → since (level n w) t ≡ 0
unset_since n ok w t none = ap (λ (last : Option ℕ). unwrap_or last 0) (no_last (level n w) (steady_level (level n w) 0 (λ u. unset_level n ok w u none)) t)

pub since_more : (n : Circuit) (ws : List Wait) (i : ℕ) (d : Wait) → i < length ws → stands_since n (take (i + 1) ws) ≡ max (stands_since n (take i ws)) (since (level n (get_or ws i d).wire.0) (last_unit n))
since_more n ws i d within =
    let f : Wait → ℕ = (λ w. since (level n w.wire.0) (last_unit n)) in
    ap (stands_since n) (take_more ws i d within) ∙ ap (fold max 0) (map-append f (take i ws) (get_or ws i d ∷ [])) ∙ fold-append max 0 (map f (take i ws)) (f (get_or ws i d) ∷ [])
