-- What modules with data enter into the wheels when they fire, counted.
use Rattle.std.proofs.Common.{◌≡◌, ◌≢◌, ℕ, zero, suc, ◌-◌, ◌<◌, ◌≤◌, Bool, true, false, cond, List, [], Option, Some, None, option_map, All, refl, sym, ap, ◌∙◌, arith}
use Rattle.std.specs.Prelude.{◌==◌, ◌&&◌}
use Rattle.std.specs.List.{count_by, sum_by}
use Rattle.mp_records.specs.declared.ids.WireId.{WireId}
use Rattle.mp_records.specs.declared.ports.Output.{Output}
use Rattle.mp_records.specs.declared.module_record.ModuleRecord.{ModuleRecord}
use Rattle.mp_records.specs.Outputs.{output_at, delay_of}
use Rattle.mp_netlist.specs.Circuit.{Circuit}
use Rattle.mp_modules.specs.declared.automata.toggles.Toggles.{Toggles}
use Rattle.mp_modules.specs.automata.Codes.{bit}
use Rattle.mp_kernel.specs.events.Adding.{listed}
use Rattle.mp_kernel.specs.events.Firing.{entry_at, entry_if, fired_at, no_port, is_entry}
use Rattle.mp_simulation.specs.bits.Schedules.{number_of, output_port_of}
use Rattle.mp_simulation.proofs.lemmas.bits.ScheduleLemmas.{none_there, counted_own, counted_fired, port_toggle, inside, none_some, only_one, once_or_none}
use Rattle.mp_kernel.specs.datapath.LevelWheels.{entry_at as level_entry_at, entry_if as level_entry_if}
use Rattle.mp_simulation.specs.units.DataLevels.{is_data}
use Rattle.mp_simulation.specs.units.DataSeats.{drives_data, bit_port_of, bit_ports_of, level_port_of}
use Rattle.mp_simulation.proofs.lemmas.units.LevelWheelLemmas.{is_change}
use Rattle.mp_simulation.proofs.lemmas.units.AheadLemmas.{counted_entry, no_entry}

abbrev Names : ModuleRecord → ℕ → ℕ → Type 0
Names r p w = (output_at r p).wire ≡ Some (record { 0 = w })

pub unmapped : (w : ℕ) (o : Option WireId) → option_map number_of o ≡ Some w → o ≡ Some (record { 0 = w })
unmapped w None e = absurd (none_some w e)
unmapped w (Some v) e = let same : v.0 ≡ w = inside e in ap (λ (k : ℕ). Some (let id : WireId = record { 0 = k } in id)) same

-- ---- outputs of width 1

no_port_none : (k w : ℕ) (t : Bool) → count_by (is_entry k w) (entry_if t no_port) ≡ 0
no_port_none k w true = refl
no_port_none k w false = refl

bit_none_when : (n : Circuit) (o : Output) (k w : ℕ) (t is_wide : Bool) → drives_data n o.wire ≡ is_wide → o.wire ≢ Some (record { 0 = w }) →
    count_by (is_entry k w) (entry_if t (cond is_wide no_port (output_port_of o))) ≡ 0
bit_none_when n o k w t true is other = no_port_none k w t
bit_none_when n o k w t false is other = none_there k w o.delay (option_map number_of o.wire) t (λ e. other (unmapped w o.wire e))

bit_none : (n : Circuit) (r : ModuleRecord) (j k w : ℕ) (t : Bool) → (Names r j w → ⊥) → count_by (is_entry k w) (entry_if t (bit_port_of n (output_at r j))) ≡ 0
bit_none n r j k w t other = bit_none_when n (output_at r j) k w t (drives_data n (output_at r j).wire) refl other

bit_own : (n : Circuit) (r : ModuleRecord) (j k w : ℕ) (t : Bool) → Names r j w → is_data n w ≡ false →
    count_by (is_entry k w) (entry_if t (bit_port_of n (output_at r j))) ≡ bit (t && (delay_of r j - 1 == k))
bit_own n r j k w t wire none =
    let is : drives_data n (output_at r j).wire ≡ false = ap (drives_data n) wire ∙ none in
    ap (λ b. count_by (is_entry k w) (entry_if t (cond b no_port (output_port_of (output_at r j))))) is
    ∙ ap (λ (o : Option WireId). count_by (is_entry k w) (cond t (entry_at (option_map number_of o) (delay_of r j)) [])) wire
    ∙ counted_own k w (delay_of r j) t

-- nothing of a wire is entered that no output has, or that has data
pub bits_none : (n : Circuit) (r : ModuleRecord) (T : Toggles) (k w : ℕ) → ((j : ℕ) → Names r j w → ⊥) → count_by (is_entry k w) (fired_at (bit_ports_of n r) T) ≡ 0
bits_none n r T k w others =
    let sum = counted_fired k w (bit_ports_of n r) T in
    let a = bit_none n r 0 k w T.first (others 0) in
    let b = bit_none n r 1 k w T.second (others 1) in
    let c = bit_none n r 2 k w T.third (others 2) in
    omega arith

pub bits_own : (p : ℕ) → p < 3 → (n : Circuit) (r : ModuleRecord) (T : Toggles) (k w : ℕ) → Names r p w → is_data n w ≡ false → ((j : ℕ) → j ≢ p → Names r j w → ⊥) →
    count_by (is_entry k w) (fired_at (bit_ports_of n r) T) ≡ bit (port_toggle T p && (delay_of r p - 1 == k))
bits_own zero low n r T k w is none others =
    let sum = counted_fired k w (bit_ports_of n r) T in
    let a = bit_own n r 0 k w T.first is none in
    let b = bit_none n r 1 k w T.second (others 1 (λ e. omega arith)) in
    let c = bit_none n r 2 k w T.third (others 2 (λ e. omega arith)) in
    omega arith
bits_own (suc zero) low n r T k w is none others =
    let sum = counted_fired k w (bit_ports_of n r) T in
    let a = bit_none n r 0 k w T.first (others 0 (λ e. omega arith)) in
    let b = bit_own n r 1 k w T.second is none in
    let c = bit_none n r 2 k w T.third (others 2 (λ e. omega arith)) in
    omega arith
bits_own (suc (suc zero)) low n r T k w is none others =
    let sum = counted_fired k w (bit_ports_of n r) T in
    let a = bit_none n r 0 k w T.first (others 0 (λ e. omega arith)) in
    let b = bit_none n r 1 k w T.second (others 1 (λ e. omega arith)) in
    let c = bit_own n r 2 k w T.third is none in
    omega arith
bits_own (suc (suc (suc p))) low n r T k w is none others = absurd (omega arith)

pub both : (b : Bool) → b ≡ true → b ≡ false → ⊥
both true is other = cc
both false is other = cc

bit_data_when : (n : Circuit) (o : Output) (k w : ℕ) (t is_wide : Bool) → drives_data n o.wire ≡ is_wide → is_data n w ≡ true →
    count_by (is_entry k w) (entry_if t (cond is_wide no_port (output_port_of o))) ≡ 0
bit_data_when n o k w t true is wide = no_port_none k w t
bit_data_when n o k w t false is wide =
    none_there k w o.delay (option_map number_of o.wire) t
    (λ e. both (is_data n w) wide (sym (ap (drives_data n) (unmapped w o.wire e)) ∙ is))

pub bits_data : (n : Circuit) (r : ModuleRecord) (T : Toggles) (k w : ℕ) → is_data n w ≡ true → count_by (is_entry k w) (fired_at (bit_ports_of n r) T) ≡ 0
bits_data n r T k w wide =
    let sum = counted_fired k w (bit_ports_of n r) T in
    let a = bit_data_when n (output_at r 0) k w T.first (drives_data n (output_at r 0).wire) refl wide in
    let b = bit_data_when n (output_at r 1) k w T.second (drives_data n (output_at r 1).wire) refl wide in
    let c = bit_data_when n (output_at r 2) k w T.third (drives_data n (output_at r 2).wire) refl wide in
    omega arith

-- ---- the first output, if its wire has data

level_when : (k x d l : ℕ) (wire : Option ℕ) (t : Bool) → (wire ≡ Some x → ⊥) → count_by (is_change k x) (cond t (level_entry_at wire d l) []) ≡ 0
level_when k x d l wire false other = refl
level_when k x d l wire true other = no_entry k x d l wire other

own_level : (k x d l : ℕ) (t : Bool) → count_by (is_change k x) (cond t (level_entry_at (Some x) d l) []) ≡ bit (t && (d - 1 == k))
own_level k x d l false = refl
own_level k x d l true = counted_entry k x d l

none_is : (x : ℕ) → None ≡ Some x → ⊥
none_is x e = cc

level_none_by : (n : Circuit) (o : Output) (k x l : ℕ) (t is_wide : Bool) → drives_data n o.wire ≡ is_wide → (o.wire ≡ Some (record { 0 = x }) → is_data n x ≡ true → ⊥) →
    count_by (is_change k x) (level_entry_if t (cond is_wide (output_port_of o) no_port) l) ≡ 0
level_none_by n o k x l t true is other =
    level_when k x o.delay l (option_map number_of o.wire) t
    (λ e. let wire = unmapped x o.wire e in other wire (sym (ap (drives_data n) wire) ∙ is))
level_none_by n o k x l t false is other = level_when k x 1 l None t (none_is x)

-- nothing of a number is entered that isn't the wire, or has no data
pub level_none : (n : Circuit) (r : ModuleRecord) (k x l : ℕ) (t : Bool) → (Names r 0 x → is_data n x ≡ true → ⊥) → count_by (is_change k x) (level_entry_if t (level_port_of n r) l) ≡ 0
level_none n r k x l t other = level_none_by n (output_at r 0) k x l t (drives_data n (output_at r 0).wire) refl other

pub level_own : (n : Circuit) (r : ModuleRecord) (k x l : ℕ) (t : Bool) → Names r 0 x → is_data n x ≡ true →
    count_by (is_change k x) (level_entry_if t (level_port_of n r) l) ≡ bit (t && (delay_of r 0 - 1 == k))
level_own n r k x l t wire wide =
    let is : drives_data n (output_at r 0).wire ≡ true = ap (drives_data n) wire ∙ wide in
    ap (λ b. count_by (is_change k x) (level_entry_if t (cond b (output_port_of (output_at r 0)) no_port) l)) is
    ∙ ap (λ (o : Option WireId). count_by (is_change k x) (cond t (level_entry_at (option_map number_of o) (delay_of r 0) l) [])) wire
    ∙ own_level k x (delay_of r 0) l t

-- ---- of all that is due

-- where only one place enters something, and none that isn't due
pub one_place : (g : ℕ → ℕ) (q : ℕ) (due : List ℕ) → listed q due ≤ 1 → All (λ x. x ≢ q → g x ≡ 0) due → (listed q due ≡ 0 → g q ≡ 0) → sum_by g due ≡ g q
one_place g q due few others idle =
    only_one g q due others ∙ once_or_none (listed q due) (g q) (listed q due == 0) refl few idle
