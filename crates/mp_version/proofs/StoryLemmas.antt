-- Stories and one more edit.
use Rattle.std.proofs.Common.{◌≡◌, List, [], ◌∷◌, ◌++◌, Result, Ok, Err, Option, refl, sym, ap, subst, ◌∙◌}
use Rattle.mp_wave.specs.Waveform.{Waveform}
use Rattle.mp_records.specs.declared.edit.Edit.{Edit}
use Rattle.mp_records.specs.declared.edit_error.EditError.{EditError}
use Rattle.mp_netlist.specs.Circuit.{Circuit}
use Rattle.mp_netlist.specs.Edits.{after, go_on}
use Rattle.mp_netlist.specs.Replays.{replay}
use Rattle.mp_model.specs.Waves.{AreWavesOf}
use Rattle.mp_version.specs.Stories.{Story, netlist_or, present, one_more}
use Rattle.mp_version.specs.Versions.{IsVersion}

go_on_alone : (r : Result Circuit EditError) → go_on (λ next. replay next []) r ≡ r
go_on_alone (Ok n) = refl
go_on_alone (Err error) = refl

-- one more edit is made on the netlist to which those before it lead
pub replay_more : (n m : Circuit) (edits : List Edit) (edit : Edit) → replay n edits ≡ Ok m → replay n (edits ++ edit ∷ []) ≡ after m edit
replay_more n m [] edit replayed =
    let same : n ≡ m = cc in
    go_on_alone (after n edit) ∙ ap (λ (c : Circuit). after c edit) same
replay_more n m (first ∷ edits) edit replayed = by (after n first) (λ next. replay_more next m edits edit) replayed
  where
    by : (r : Result Circuit EditError) → ((next : Circuit) → replay next edits ≡ Ok m → replay next (edits ++ edit ∷ []) ≡ after m edit)
        → go_on (λ next. replay next edits) r ≡ Ok m → go_on (λ next. replay next (edits ++ edit ∷ [])) r ≡ after m edit
    by (Ok next) later leads = later next leads
    by (Err error) later leads = let none : ⊥ = cc in absurd none

-- the netlist to which the edits lead
pub present_is : (story : Story) (n : Circuit) → replay story.base story.edits ≡ Ok n → present story ≡ n
present_is story n replayed = ap (netlist_or story.base) replayed

-- the edits with one more that is accepted lead to the netlist after it
pub one_more_leads : (story : Story) (n m : Circuit) (edit : Edit) → replay story.base story.edits ≡ Ok n → after (present story) edit ≡ Ok m
    → replay story.base (one_more story edit).edits ≡ Ok m
one_more_leads story n m edit replayed accepted =
    replay_more story.base n story.edits edit replayed ∙ sym (ap (λ (c : Circuit). after c edit) (present_is story n replayed)) ∙ accepted

-- the parts of a version and of the one after it
pub record AreNext (story seen : Story) (edit : Edit) (next : Story) (here netlist : Circuit) : Type 0 where
  pub seen_is : story ≡ seen
  pub base_is : next.base ≡ story.base
  pub edits_are : next.edits ≡ story.edits ++ edit ∷ []
  pub here_is : here ≡ netlist
  pub accepted : after (present seen) edit ≡ Ok netlist

next_replayed : (story seen next : Story) (n here m : Circuit) (edit : Edit) → AreNext story seen edit next here m → replay story.base story.edits ≡ Ok n → replay next.base next.edits ≡ Ok m
next_replayed story seen next n here m edit parts replayed =
    ap (λ (b : Circuit). replay b next.edits) parts.base_is
    ∙ ap (replay story.base) parts.edits_are
    ∙ one_more_leads story n m edit replayed (ap (λ (s : Story). after (present s) edit) parts.seen_is ∙ parts.accepted)

pub next_version : (story seen next : Story) (n here m : Circuit) (edit : Edit) (waves next_waves : List (Option Waveform)) → AreNext story seen edit next here m
    → IsVersion story n waves → AreWavesOf m next_waves → IsVersion next here next_waves
next_version story seen next n here m edit waves next_waves parts version are =
    let made : (c : Circuit) → Result Circuit EditError = λ c. Ok c in
    record {
      replayed = next_replayed story seen next n here m edit parts version.replayed ∙ ap made (sym parts.here_is);
      waves_are = subst (λ (c : Circuit). AreWavesOf c next_waves) (sym parts.here_is) are;
    }

pub next_present : (story seen next : Story) (n here m : Circuit) (edit : Edit) (waves : List (Option Waveform)) → AreNext story seen edit next here m
    → IsVersion story n waves → present next ≡ m
next_present story seen next n here m edit waves parts version = present_is next m (next_replayed story seen next n here m edit parts version.replayed)
