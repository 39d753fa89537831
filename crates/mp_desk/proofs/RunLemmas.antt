-- What holds in every run of the world of a desk.
use Rattle.std.proofs.Common.{◌≡◌, ℕ, ◌+◌, ◌<◌, ◌≤◌, Bool, true, false, nat_lt, List, [], ◌∷◌, ◌++◌, Result, Ok, Err, length, sum, slice_index, refl, sym, ap, ◌∙◌, subst, append_assoc, arith, length-append}
use Rattle.std.specs.Prelude.{if◌then◌else◌}
use Rattle.std.proofs.lemmas.Bool.{ltb-true}
use Rattle.std.proofs.lemmas.List.Sums.{sum_by-set}
use mathlib.Core.List.{IsPrefix}
use Rattle.mp_records.specs.declared.edit.Edit.{Edit}
use Rattle.mp_records.specs.declared.edit_error.EditError.{EditError}
use Rattle.mp_records.specs.declared.edit_error.EditError.TheVariants.{HistoryFull}
use Rattle.mp_netlist.specs.Circuit.{Circuit}
use Rattle.mp_netlist.specs.Edits.{after}
use Rattle.mp_version.specs.Limits.{max_edits}
use Rattle.mp_version.specs.Stories.{present, counted_edit}
use Rattle.mp_version.proofs.StoryLemmas.{one_more_leads}
use Rattle.mp_version.proofs.PrefixLemmas.{prefix_self, prefix_trans, prefix_length}
use Rattle.mp_desk.specs.Worlds.{World, Event, Accept, Refuse, Read, Tell, number, IsReplay, MayCome, next, IsRun, after_run, NumberOf, ReadsWell, EveryRun}

append_nil : {A : Type 0} (xs : List A) → xs ++ [] ≡ xs
append_nil [] = refl
append_nil (x ∷ xs) = ap (λ ys. x ∷ ys) (append_nil xs)

event_begins : (w : World) (s : Event) → IsPrefix w.story.edits (next w s).story.edits
event_begins w (Accept i e) = (e ∷ [], refl)
event_begins w (Refuse i e) = prefix_self w.story.edits
event_begins w (Read j) = prefix_self w.story.edits
event_begins w (Tell j k) = prefix_self w.story.edits

begins : (w : World) (run : List Event) → IsPrefix w.story.edits (after_run w run).story.edits
begins w [] = prefix_self w.story.edits
begins w (s ∷ run) = prefix_trans w.story.edits (next w s).story.edits (after_run (next w s) run).story.edits (event_begins w s) (begins (next w s) run)

event_base : (w : World) (s : Event) → (next w s).story.base ≡ w.story.base
event_base w (Accept i e) = refl
event_base w (Refuse i e) = refl
event_base w (Read j) = refl
event_base w (Tell j k) = refl

same_base : (w : World) (run : List Event) → (after_run w run).story.base ≡ w.story.base
same_base w [] = refl
same_base w (s ∷ run) = same_base (next w s) run ∙ event_base w s

-- one more edit, where there is room
abbrev in_room : Bool → Circuit → Result Circuit EditError
in_room b m = if b then Ok m else Err HistoryFull

-- an accepted edit has its netlist, and there are fewer than a session may have
accepted_leads : (edits : List Edit) (r : Result Circuit EditError) (n : Circuit) → counted_edit edits r ≡ Ok n → (r ≡ Ok n) × (length edits < max_edits)
accepted_leads edits (Err error) n is = absurd (cc is)
accepted_leads edits (Ok m) n is = by (nat_lt (length edits) max_edits) refl is
  where
    by : (b : Bool) → nat_lt (length edits) max_edits ≡ b → in_room b m ≡ Ok n → (in_room true m ≡ Ok n) × (length edits < max_edits)
    by true passes same = (same, ltb-true (length edits) max_edits passes)
    by false fails same = absurd (cc same)

event_replays : (w : World) (event : Event) → MayCome w event → IsReplay w.story → IsReplay (next w event).story
event_replays w (Accept i edit) may h =
    let n = may.1.0 in
    (n, one_more_leads w.story h.0 n edit h.1 (accepted_leads w.story.edits (after (present w.story) edit) n may.1.1).0)
event_replays w (Refuse i edit) may h = h
event_replays w (Read j) may h = h
event_replays w (Tell j k) may h = h

replays : (w : World) (run : List Event) → IsRun w run → IsReplay w.story → IsReplay (after_run w run).story
replays w [] ok h = h
replays w (event ∷ run) ok h = replays (next w event) run ok.1 (event_replays w event ok.0 h)

event_few : (w : World) (event : Event) → MayCome w event → number w ≤ max_edits → number (next w event) ≤ max_edits
event_few w (Accept i edit) may h =
    let low = (accepted_leads w.story.edits (after (present w.story) edit) may.1.0 may.1.1).1 in omega (arith, low, length-append w.story.edits (edit ∷ []))
event_few w (Refuse i edit) may h = h
event_few w (Read j) may h = h
event_few w (Tell j k) may h = h

few : (w : World) (run : List Event) → IsRun w run → number w ≤ max_edits → number (after_run w run) ≤ max_edits
few w [] ok h = h
few w (event ∷ run) ok h = few (next w event) run ok.1 (event_few w event ok.0 h)

event_counts : (w : World) (s : Event) → MayCome w s → number w + sum (next w s).counts ≡ number (next w s) + sum w.counts
event_counts w (Accept i e) may = omega (arith, sum_by-set (λ n. n) w.counts i (slice_index w.counts i + 1) 0 may.0, length-append w.story.edits (e ∷ []))
event_counts w (Refuse i e) may = refl
event_counts w (Read j) may = refl
event_counts w (Tell j k) may = refl

counts : (w : World) (run : List Event) → IsRun w run → number w + sum (after_run w run).counts ≡ number (after_run w run) + sum w.counts
counts w [] ok = refl
counts w (s ∷ run) ok =
    let a : number w + sum (next w s).counts ≡ number (next w s) + sum w.counts = event_counts w s ok.0 in
    let b : number (next w s) + sum (after_run (next w s) run).counts ≡ number (after_run (next w s) run) + sum (next w s).counts = counts (next w s) run ok.1 in
    omega (arith, a, b)

run_split : (w : World) (xs ys : List Event) → after_run w (xs ++ ys) ≡ after_run (after_run w xs) ys
run_split w [] ys = refl
run_split w (s ∷ xs) ys = run_split (next w s) xs ys

may_at : (w : World) (a : List Event) (s : Event) (b : List Event) → IsRun w (a ++ s ∷ b) → MayCome (after_run w a) s
may_at w [] s b ok = ok.0
may_at w (x ∷ a) s b ok = may_at (next w x) a s b ok.1

number_fits : (j : ℕ) (w : World) (s : Event) (k : ℕ) → MayCome w s → NumberOf j w s k → k ≤ number w
number_fits j w (Accept i e) k may h = absurd h
number_fits j w (Refuse i e) k may h = absurd h
number_fits j w (Read v) k may h = omega (arith, h.1)
number_fits j w (Tell v n) k may h = omega (arith, h.1, may)

reads_well : (w : World) (run : List Event) → IsRun w run → ReadsWell w run
reads_well w run ok before rest j e =
    let whole : after_run w run ≡ after_run (after_run w before) (Read j ∷ rest) = ap (after_run w) e ∙ run_split w before (Read j ∷ rest) in (
      subst (λ (z : World). IsPrefix (after_run w before).story.edits z.story.edits) (sym whole) (begins (after_run w before) (Read j ∷ rest)),
      (λ a b s k at is.
          let split : after_run w before ≡ after_run (after_run w a) (s ∷ b) = ap (after_run w) at ∙ run_split w a (s ∷ b) in
          let ok' : IsRun w ((a ++ s ∷ b) ++ Read j ∷ rest) = subst (IsRun w) (e ∙ ap (λ xs. xs ++ Read j ∷ rest) at) ok in
          let ok'' : IsRun w (a ++ s ∷ (b ++ Read j ∷ rest)) = subst (IsRun w) (append_assoc a (s ∷ b) (Read j ∷ rest)) ok' in
          let low : k ≤ number (after_run w a) = number_fits j (after_run w a) s k (may_at w a s (b ++ Read j ∷ rest) ok'') is in
          let up : number (after_run w a) ≤ number (after_run (after_run w a) (s ∷ b)) = prefix_length (after_run w a).story.edits (after_run (after_run w a) (s ∷ b)).story.edits (begins (after_run w a) (s ∷ b)) in
          let same : number (after_run w before) ≡ number (after_run (after_run w a) (s ∷ b)) = ap number split in omega (arith, low, up, same)),
    )

pub every_run : EveryRun
every_run w run first ok =
    let c = counts w run ok in (
      record {
        begins = begins w run;
        base = same_base w run;
        replays = replays w run ok first.replays;
        few = few w run ok first.few;
        counted = omega (arith, c, first.uncounted);
      },
      reads_well w run ok,
    )
