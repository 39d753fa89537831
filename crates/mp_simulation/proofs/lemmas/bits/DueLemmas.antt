-- What is due in a unit can be applied.
use Rattle.std.proofs.Common.{◌≡◌, ℕ, ◌+◌, ◌%◌, ◌<◌, ◌≤◌, Bool, true, false, cond, List, [], ◌∷◌, ◌++◌, length, All, refl, ap, arith}
use Rattle.std.specs.Prelude.{◌==◌, ◌&&◌, slice_index_or}
use Rattle.std.proofs.lemmas.Bool.{eqb-true}
use Rattle.std.proofs.lemmas.List.Elements.{All-append, All-nil}
use Rattle.std.proofs.lemmas.Grind.{flat_map-append}
use Rattle.mp_model.specs.Waves.{level}
use Rattle.mp_modules.specs.automata.Codes.{bit}
use Rattle.mp_kernel.specs.declared.events.fanout_entry.FanoutEntry.{FanoutEntry}
use Rattle.mp_kernel.specs.events.Adding.{state_at, events_for, listed}
use Rattle.mp_kernel.specs.events.Toggling.{row_at, entries_from}
use Rattle.mp_kernel.proofs.lemmas.events.PortLemmas.{few_events}
use Rattle.mp_simulation.specs.bits.Changes.{change_at}
use Rattle.mp_simulation.specs.bits.Simulators.{next_slot}
use Rattle.mp_simulation.specs.bits.UnitLaws.{CanApplyWhenDue}
use Rattle.mp_simulation.proofs.lemmas.bits.ListedLemmas.{listed_here}
use Rattle.mp_simulation.proofs.lemmas.bits.ApplyLemmas.{all_waved}
use Rattle.mp_simulation.proofs.lemmas.bits.TraceLemmas.{trace_over}

all_in_rows : (P : FanoutEntry → Type 0) (rows : List (List FanoutEntry)) (xs : List ℕ) → ((x : ℕ) → All P (row_at rows x)) → All P (entries_from rows xs)
all_in_rows P rows [] each = All-nil P
all_in_rows P rows (x ∷ xs) each = All-append P (row_at rows x) (entries_from rows xs) (each x) (all_in_rows P rows xs each)

both_hold : (a b : Bool) → 0 < bit (a && b) → b ≡ true
both_hold true true some = refl
both_hold true false some = absurd (omega arith)
both_hold false b some = absurd (omega arith)

no_more : (a b : Bool) → bit (a && b) ≤ 1
no_more true true = omega arith
no_more true false = omega arith
no_more false b = omega arith

still : (r n : ℕ) (t : Bool) → (r == 0) ≡ t → n ≡ cond t 0 1 → n ≡ 0 → r ≡ 0
still r n true is once none = eqb-true r 0 is
still r n false is once none = absurd (omega arith)

pub can_apply : CanApplyWhenDue
can_apply n ok scope t s set others sound before due waved rowed =
    let wires = next_slot s ++ set in
    let waved_all = all_waved s set sound waved in
    record {
      waved = waved;
      rowed = rowed;
      over = record {
        once = λ w. let is = due.toggled w in let low = no_more (change_at n w (t + 1)) (scope.traces w) in omega arith;
        over = λ k d within.
            let w = slice_index_or (next_slot s ++ set) k d in
            let here = listed_here (next_slot s ++ set) k d within in
            let is = due.toggled w in
            let traced = both_hold (change_at n w (t + 1)) (scope.traces w) (omega arith) in
            trace_over (level n (slice_index_or (next_slot s ++ set) k d)) t _ (before.stands.waves w (waved_all k d within) traced);
      };
      adding = record {
        placed = All-append (λ (l : FanoutEntry). l.module < length s.states.items) (entries_from s.fanout (next_slot s ++ set)) (entries_from s.fanout others)
            (all_in_rows (λ (l : FanoutEntry). l.module < length s.states.items) s.fanout (next_slot s ++ set) sound.placed)
            (all_in_rows (λ (l : FanoutEntry). l.module < length s.states.items) s.fanout others sound.placed);
        events = All-append (λ (l : FanoutEntry). 0 < l.event) (entries_from s.fanout (next_slot s ++ set)) (entries_from s.fanout others)
            (all_in_rows (λ (l : FanoutEntry). 0 < l.event) s.fanout (next_slot s ++ set) sound.eventful)
            (all_in_rows (λ (l : FanoutEntry). 0 < l.event) s.fanout others sound.eventful);
        low = sound.events.low;
        room = λ q.
            let joined : entries_from s.fanout ((next_slot s ++ set) ++ others) ≡ entries_from s.fanout (next_slot s ++ set) ++ entries_from s.fanout others =
            flat_map-append (row_at s.fanout) (next_slot s ++ set) others in
            let same = ap (λ xs. events_for q xs) joined in
            let few = few_events s.fanout q (scope.inputs q) ((next_slot s ++ set) ++ others) (before.stands.layout.ports q) due.once in
            let none = ap (λ xs. listed q xs) before.due in
            let quiet = still (state_at s.states.items q % 16) (listed q s.due.items) (state_at s.states.items q % 16 == 0) refl (sound.events.once q) none in
            omega arith;
        once = sound.events.once;
      };
    }
