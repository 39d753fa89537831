-- What holds of wires, numbers and modules that sleep holds one unit later.
use Rattle.std.proofs.Common.{◌≡◌, ℕ, ◌+◌, [], sym, subst}
use Rattle.mp_netlist.specs.Circuit.{Circuit}
use Rattle.mp_partition.specs.runs.Outcomes.{Outcome}
use Rattle.mp_simulation.specs.run.Stimuli.{left_of, changes_after}
use Rattle.mp_active.specs.agreement.Sleeping.{SleepersSleepOn}
use Rattle.mp_active.specs.excerpt.Numberings.{Numbering}
use Rattle.mp_active.specs.excerpt.Setting.{AreSetOutside}
use Rattle.mp_active.specs.compare.Comparing.{HasCursors, IsComplete}
use Rattle.mp_redo.specs.declared.rerun.rerun.Rerun.{Rerun}
use Rattle.mp_redo.specs.rerun.Following.{is_tail, is_set_anew, AreTails, AreSetAnew}
use Rattle.mp_redo.specs.rerun.Joining.{NoneIsApart, HasSet}
use Rattle.mp_redo.specs.rerun.Reruns.{IsFollowed, active_of, on_of, until_of}
use Rattle.mp_redo.proofs.lemmas.rerun.ToComeLemmas.{later_to_come}

pub followed_on : (old n : Circuit) (run : Outcome) (numbering : Numbering) (since : ℕ → ℕ) (t : ℕ) (s new : Rerun) → HasSet s new → SleepersSleepOn → NoneIsApart old n (active_of s) (t + 1) →
    HasCursors run (t + 1) [] new.comparison → IsComplete run (t + 1) new.comparison → left_of new.stimuli ≡ changes_after (t + 1) (left_of s.stimuli) → left_of new.pending_outputs ≡ changes_after (t + 1) (left_of s.pending_outputs) →
    IsFollowed old n run numbering since t s → IsFollowed old n run numbering since (t + 1) new
followed_on old n run numbering since t s new kept sleep_on none cursors complete stimuli pending_outputs f =
    subst (IsFollowed old n run numbering since (t + 1)) (sym kept) (record {
      numbered = record {
        count = f.numbered.count;
        wires = f.numbered.wires;
        source = f.numbered.source;
        linked = f.numbered.linked;
        with_data = f.numbered.with_data;
        modules = f.numbered.modules;
        by_port = f.numbered.by_port;
        wired = f.numbered.wired;
      };
      modules = f.modules;
      seats = f.seats;
      ports = f.ports;
      lit = f.lit;
      sleeping = λ m r at asleep. sleep_on old n (since m) t m r (f.sleeping m r at asleep) (λ apart. none m r at asleep apart);
      sources = f.sources;
      cursors = subst (λ (r : Rerun). HasCursors run (t + 1) [] r.comparison) kept cursors;
      complete = subst (λ (r : Rerun). IsComplete run (t + 1) r.comparison) kept complete;
      counted = f.counted;
      pending_outputs = subst (AreTails n (active_of s) (until_of s) (t + 1)) (sym pending_outputs) (later_to_come n (is_tail n (active_of s) (until_of s)) t (left_of s.pending_outputs) f.pending_outputs);
      stimuli = subst (AreSetAnew n (until_of s) (t + 1)) (sym stimuli) (later_to_come n (is_set_anew n (until_of s)) t (left_of s.stimuli) f.stimuli);
    })

-- the same modules are active and the same wires on
pub set_there : (n : Circuit) (time : ℕ) (s new : Rerun) → HasSet s new → AreSetOutside n (active_of s) (on_of s) new.set.bits.items new.set.levels.items time →
    AreSetOutside n (active_of new) (on_of new) new.set.bits.items new.set.levels.items time
set_there n time s new kept are =
    subst (λ (r : Rerun). AreSetOutside n (active_of r) (on_of r) new.set.bits.items new.set.levels.items time) (sym kept)
    (record { bits = are.bits; each = are.each; levels = are.levels })

-- the same at a time that comes next
pub followed_at : (old n : Circuit) (run : Outcome) (numbering : Numbering) (since : ℕ → ℕ) (t time : ℕ) (s new : Rerun) → t + 1 ≡ time → HasSet s new → SleepersSleepOn → NoneIsApart old n (active_of s) time →
    HasCursors run time [] new.comparison → IsComplete run time new.comparison → left_of new.stimuli ≡ changes_after time (left_of s.stimuli) → left_of new.pending_outputs ≡ changes_after time (left_of s.pending_outputs) →
    IsFollowed old n run numbering since t s → IsFollowed old n run numbering since time new
followed_at old n run numbering since t time s new next kept sleep_on none cursors complete stimuli pending_outputs f =
    let back = sym next in
    subst (λ u. IsFollowed old n run numbering since u new) next
    (followed_on old n run numbering since t s new kept sleep_on (subst (NoneIsApart old n (active_of s)) back none) (subst (λ u. HasCursors run u [] new.comparison) back cursors)
    (subst (λ u. IsComplete run u new.comparison) back complete) (subst (λ u. left_of new.stimuli ≡ changes_after u (left_of s.stimuli)) back stimuli)
    (subst (λ u. left_of new.pending_outputs ≡ changes_after u (left_of s.pending_outputs)) back pending_outputs) f)
