-- What holds between two units holds on where only what is seen and listed changes.
use Rattle.std.proofs.Common.{◌≡◌, ℕ, [], refl, sym, ap, subst, ◌∙◌}
use Rattle.mp_netlist.specs.Circuit.{Circuit}
use Rattle.mp_partition.specs.runs.Outcomes.{Outcome}
use Rattle.mp_active.specs.excerpt.Numberings.{Numbering}
use Rattle.mp_active.specs.compare.Comparing.{HasCursors}
use Rattle.mp_redo.specs.declared.rerun.activity.Activity.{Activity}
use Rattle.mp_redo.specs.declared.rerun.rerun.Rerun.{Rerun}
use Rattle.mp_redo.specs.rerun.Joining.{HasLooked}
use Rattle.mp_redo.specs.rerun.Reruns.{IsRerunBy, IsRerunAt}

looked_by : (old n : Circuit) (run : Outcome) (numbering : Numbering) (since : ℕ → ℕ) (t : ℕ) (s new : Rerun) → HasLooked s new → HasCursors run t [] new.comparison →
    IsRerunBy old n run numbering since t s → IsRerunBy old n run numbering since t new
looked_by old n run numbering since t s new looked cursors is =
    let f = is.followed in
    subst (IsRerunBy old n run numbering since t) (sym looked) (record {
      shows = is.shows;
      followed = record {
        numbered = record {
          count = f.numbered.count;
          wires = f.numbered.wires;
          source = f.numbered.source;
          linked = f.numbered.linked;
          with_data = f.numbered.with_data;
          modules = f.numbered.modules;
          by_port = f.numbered.by_port;
          wired = f.numbered.wired;
        };
        modules = f.modules;
        seats = f.seats;
        ports = f.ports;
        lit = f.lit;
        sleeping = f.sleeping;
        sources = f.sources;
        cursors = subst (λ (r : Rerun). HasCursors run t [] r.comparison) looked cursors;
        complete = f.complete;
        counted = f.counted;
        pending_outputs = f.pending_outputs;
        stimuli = f.stimuli;
      };
    })

pub looked_on : (old n : Circuit) (run : Outcome) (latest t : ℕ) (s new : Rerun) → HasLooked s new → HasCursors run t [] new.comparison →
    IsRerunAt old n run latest t s → IsRerunAt old n run latest t new
looked_on old n run latest t s new looked cursors at = record {
  numbering = at.numbering;
  since = at.since;
  is = looked_by old n run at.numbering at.since t s new looked cursors at.is;
  early = at.early;
}

-- where only the modules that join are listed, nothing else changes
pub joining_looked : (s new : Rerun) → new ≡ record s { activity = record (s.activity) { joining = new.activity.joining } } → HasLooked s new
joining_looked s new kept = subst (HasLooked s) (sym kept) refl

pub joining_kept : (s new : Rerun) → new ≡ record s { activity = record (s.activity) { joining = new.activity.joining } } → new ≡ record s { activity = new.activity }
joining_kept s new kept = kept ∙ ap (λ (a : Activity). record s { activity = a }) (sym (ap (λ (r : Rerun). r.activity) kept))

-- one step after the other
pub looked_twice : (s mid new : Rerun) → HasLooked s mid → HasLooked mid new → HasLooked s new
looked_twice s mid new first second =
    second
    ∙ ap (λ (r : Rerun). record r {
      comparison = record (r.comparison) { seen = new.comparison.seen; departing = new.comparison.departing };
      activity = record (r.activity) { joining = new.activity.joining };
      set = new.set;
    }) first
