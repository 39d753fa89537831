use Rattle.std.proofs.Common.{◌≡◌, ℕ, List, length, vec_len, ap, sym, subst, rules, arith}
use Rattle.mp_version.specs.Stories.{Story}
use Rattle.mp_desk.specs.Holders.{Working}
use Rattle.mp_text.specs.lexing.Divisions.{lines_of_each}
use Rattle.mp_meeting.specs.declared.tally.Tally.{Tally}
use Rattle.mp_meeting.specs.Sittings.{DesignerTally}
use Rattle.mp_meeting.specs.Meetings.{IsMeeting}
use Rattle.mp_meeting.specs.Seats.{HasAdjourned}
use Rattle.mp_meeting.proofs.MeetLemmas.{met, seated_fresh}
use Rattle.mp_meeting.proofs.meeting.run_at.Goals as goal

pub race-sittings-requires-clause-fresh : goal.race-sittings-requires-clause-fresh
race-sittings-requires-clause-fresh g c κs within = seated_fresh c.args.staffed.designers.items c.in_ok-sittings.sittings.items c.in_ok-sittings.ensures

pub returns-clause-met : goal.returns-clause-met
returns-clause-met g c = λ base fresh.
    let met_at = c.in_ok-kept.field-0 in
    let now : Story = g.S.EditSession.story c.into_parts-session.result.0 in
    let same : g.S.EditSession.story met_at.kept.session ≡ now = ap g.S.EditSession.story (sym c.into_parts-session.ensures.session) in
    let adjourned = subst (λ (s : Story). HasAdjourned c.args.staffed.desk.opening c.race-sittings.result.0.items (vec_len c.race-sittings.result.1) s met_at.tallies.items met_at.numbers.items) same c.in_ok-kept.ensures.adjourned in
    let numbers : List ℕ = met_at.numbers.items in
    let blocks = c.args.blocks.now in
    let ds : List Working = c.args.staffed.designers.items in
    let old : List DesignerTally = c.in_ok-sittings.sittings.items in
    let new : List DesignerTally = c.race-sittings.result.0.items in
    let count : length ds ≡ length blocks = search rules in
    let same : length new ≡ length old = search rules in
    subst (λ (tallies : List Tally). IsMeeting base (lines_of_each blocks) now tallies numbers) (sym adjourned.tallies_are)
    (met now numbers base blocks ds old new (λ k d within. ap (λ (w : Working). w.seen) (fresh k d within)) c.in_ok-sittings.ensures count c.requires.some same c.race-sittings.ensures.worked adjourned.whole adjourned.told adjourned.seen
    (omega (arith, adjourned.counted, c.requires.opening)) adjourned.within)
