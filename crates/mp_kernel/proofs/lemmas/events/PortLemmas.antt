-- Which events the ports of a module have.
use Rattle.std.proofs.Common.{◌≡◌, ℕ, zero, suc, ◌+◌, ◌*◌, ◌<◌, ◌≤◌, Bool, true, false, cond, List, [], ◌∷◌, length, refl, sym, ap, ◌∙◌, arith}
use Rattle.std.specs.Prelude.{◌==◌}
use Rattle.std.proofs.lemmas.List.Sums.{sum_by-append}
use Rattle.mp_modules.specs.automata.Codes.{bit}
use Rattle.mp_kernel.specs.declared.events.fanout_entry.FanoutEntry.{FanoutEntry}
use Rattle.mp_kernel.specs.events.Adding.{events_for, listed}
use Rattle.mp_kernel.specs.events.Toggling.{row_at, entries_from}
use Rattle.mp_kernel.specs.events.Ports.{weight, HasPorts, listed_at, EventsAddUp}
use Rattle.mp_kernel.proofs.lemmas.events.AddingLemmas.{added_append}

-- the bits of the ports whose wires are listed, port after port
abbrev pub weighted_sum : ℕ → List ℕ → List ℕ → ℕ
weighted_sum unit [] wires = 0
weighted_sum unit (port ∷ ports) wires = unit * listed port wires + weighted_sum (unit * 2) ports wires

listed_cons : (m w : ℕ) (wires : List ℕ) → listed m (w ∷ wires) ≡ bit (w == m) + listed m wires
listed_cons m w wires = sum_by-append (λ d. cond (d == m) 1 0) (w ∷ []) wires ∙ omega arith

same_test : (a b : ℕ) → (a == b) ≡ (b == a)
same_test a b = grind arith

one_more : (unit n : ℕ) (t : Bool) → unit * (bit t + n) ≡ cond t unit 0 + unit * n
one_more unit n true = grind arith
one_more unit n false = grind arith

-- one wire more
sum_cons : (unit : ℕ) (ports : List ℕ) (w : ℕ) (wires : List ℕ) → weighted_sum unit ports (w ∷ wires) ≡ weight unit ports w + weighted_sum unit ports wires
sum_cons unit [] w wires = refl
sum_cons unit (port ∷ ports) w wires =
    let rest = sum_cons (unit * 2) ports w wires in
    let here : unit * listed port (w ∷ wires) ≡ cond (port == w) unit 0 + unit * listed port wires =
    ap (λ k. unit * k) (listed_cons port w wires) ∙ one_more unit (listed port wires) (w == port) ∙ ap (λ t. cond t unit 0 + unit * listed port wires) (same_test w port) in
    omega arith

sum_nil : (unit : ℕ) (ports : List ℕ) → weighted_sum unit ports [] ≡ 0
sum_nil unit [] = refl
sum_nil unit (port ∷ ports) = let rest = sum_nil (unit * 2) ports in let none : unit * 0 ≡ 0 = omega arith in omega arith

pub added_sum : (rows : List (List FanoutEntry)) (m : ℕ) (ports wires : List ℕ) → HasPorts rows m ports → events_for m (entries_from rows wires) ≡ weighted_sum 1 ports wires
added_sum rows m ports [] has = sym (sum_nil 1 ports)
added_sum rows m ports (w ∷ wires) has =
    added_append m (row_at rows w) (entries_from rows wires) ∙
    (let here = has.each w in let rest = added_sum rows m ports wires has in let all = sum_cons 1 ports w wires in omega arith)

-- of four ports at most
pub by_ports : (ports wires : List ℕ) → length ports ≤ 4 →
    weighted_sum 1 ports wires ≡ listed_at ports 0 wires + listed_at ports 1 wires * 2 + listed_at ports 2 wires * 4 + listed_at ports 3 wires * 8
by_ports [] wires few = refl
by_ports (a ∷ []) wires few = omega arith
by_ports (a ∷ b ∷ []) wires few = omega arith
by_ports (a ∷ b ∷ c ∷ []) wires few = omega arith
by_ports (a ∷ b ∷ c ∷ d ∷ []) wires few = omega arith
by_ports (a ∷ b ∷ c ∷ d ∷ e ∷ ports) wires few = absurd (omega arith)

pub events_add_up : EventsAddUp
events_add_up rows m ports wires e has are =
    added_sum rows m ports wires has ∙ by_ports ports wires has.few ∙
    (let a = are.first in let b = are.second in let c = are.third in let d = are.fourth in omega arith)

low_at : (ports wires : List ℕ) (p : ℕ) → ((w : ℕ) → listed w wires ≤ 1) → listed_at ports p wires ≤ 1
low_at [] wires p once = omega arith
low_at (port ∷ ports) wires zero once = once port
low_at (port ∷ ports) wires (suc p) once = low_at ports wires p once

-- where each wire is listed once at most, the events of a module have a number below 16
pub few_events : (rows : List (List FanoutEntry)) (m : ℕ) (ports wires : List ℕ) → HasPorts rows m ports → ((w : ℕ) → listed w wires ≤ 1) →
    events_for m (entries_from rows wires) < 16
few_events rows m ports wires has once =
    let sum = added_sum rows m ports wires has in
    let parts = by_ports ports wires has.few in
    let a = low_at ports wires 0 once in
    let b = low_at ports wires 1 once in
    let c = low_at ports wires 2 once in
    let d = low_at ports wires 3 once in
    omega arith
