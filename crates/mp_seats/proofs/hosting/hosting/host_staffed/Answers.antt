use Rattle.std.proofs.Common.{◌≡◌, ◌+◌, ◌<◌, ◌∷◌, ◌++◌, [], ℕ, List, true, length, map, vec_len, All, sym, ap, subst, length-append, arith}
use mathlib.Core.List.{IsPrefix}
use Rattle.mp_version.specs.Stories.{Story}
use Rattle.mp_version.specs.Extending.{Extends}
use Rattle.mp_desk.specs.Holders.{Seeing, fresh_viewer, IsSigned}
use Rattle.mp_meeting.specs.declared.tally.Tally.{Tally}
use Rattle.mp_meeting.specs.Seats.{working, HasAdjourned}
use Rattle.mp_seats.specs.Replies.{Writing, signed_writing}
use Rattle.mp_seats.specs.hosting.Guests.{sitter, looker, just_come, just_looking}
use Rattle.mp_seats.specs.hosting.OwnSeats.{HasTalked}
use Rattle.mp_seats.proofs.lemmas.hosting.PeopleLemmas.{front_all, last_all, begin_each, sitters_came, lookers_came, sitters_extend, lookers_extend, without_last}
use Rattle.mp_seats.proofs.lemmas.hosting.StayLemmas.{first_extends}
use Rattle.mp_seats.proofs.lemmas.hosting.SeatClaims.{claimed_once, seats_signed, older_unsigned, all_seen}
use Rattle.mp_seats.proofs.hosting.hosting.host_staffed.Goals as goal

pub returns-clause-hosted : goal.returns-clause-hosted
returns-clause-hosted g c = λ start designers viewers opening.
    let now : Story = g.S.EditSession.story c.without_own-outcome.result.0.session in
    let tallies = c.without_own-outcome.result.0.tallies.items in
    let numbers = c.without_own-outcome.result.0.numbers.items in
    let sittings = c.in_ok-sittings.field-0.sittings in
    let vs = c.in_ok-sittings.field-0.viewers in
    let writing : List ℕ → Writing = signed_writing g.B.ReplyWriter.answer_text g.B.ReplyWriter.reply_text in
    let own = c.in_ok-sittings.field-0.own in
    let before = c.in_ok-adjourned.adjourned in
    let same : now ≡ g.S.EditSession.story before.kept.session = ap g.S.EditSession.story c.without_own-outcome.ensures.same.0 in
    let same_tallies : tallies ≡ before.tallies.items = ap (λ v. v.items) c.without_own-outcome.ensures.same.1 in
    let looked : All (λ (v : Seeing). Extends now v.last) (vs.items ++ c.in_ok-sittings.field-0.own ∷ []) =
    subst (λ (z : Story). All (λ (v : Seeing). Extends z v.last) (vs.items ++ c.in_ok-sittings.field-0.own ∷ [])) (sym same)
    (subst (All (λ (v : Seeing). Extends (g.S.EditSession.story before.kept.session) v.last)) c.in_ok-push.ensures.items c.in_ok-adjourned.ensures.looked) in
    let others : All (λ (v : Seeing). v ≡ fresh_viewer start) c.pop.new.self.items =
    front_all (λ (v : Seeing). v ≡ fresh_viewer start) c.pop.new.self.items c.in-Some.own (subst (All (λ (v : Seeing). v ≡ fresh_viewer start)) c.in-Some.ensures.items viewers) in
    let made = subst (λ (z : Story). IsSigned z (map working sittings.items) (vs.items ++ own ∷ [])) (sym same)
    (subst (IsSigned (g.S.EditSession.story before.kept.session) (map working sittings.items)) c.in_ok-push.ensures.items c.in_ok-adjourned.ensures.signed) in
    let authors : List ℕ = made.0 in
    let begin = made.2 in
    let read_by : All (λ (v : Seeing). IsPrefix v.signed authors) (vs.items ++ own ∷ []) = λ k v within. (made.3 k v within).begins in
    let edited = c.in_ok-sittings.ensures.designers start authors (sitters_came start c.args.staffed.designers.items c.in-Ok.sittings.items c.in-Ok.ensures designers) (begin_each authors sittings.items begin) in
    let many : vec_len vs ≡ length c.args.hall.viewers.items = omega (arith, c.in_ok-sittings.ensures.counts.1, c.in-Some.ensures.cases, c.requires.viewers, c.args.hall.viewers.ok.0) in
    let some : 0 < length c.args.hall.designers.items = omega (arith, c.requires.some, c.args.hall.designers.ok.0) in
    let pushed : vec_len c.push.new.self ≡ length c.args.hall.viewers.items + 1 =
    omega (arith, ap (λ (l : List Seeing). length l) c.in_ok-push.ensures.items, length-append vs.items (c.in_ok-sittings.field-0.own ∷ []), many, vs.ok.0, c.push.new.self.ok.0) in
    let adjourned : HasAdjourned (length start.edits) sittings.items (length c.args.hall.viewers.items) now tallies numbers =
    subst (λ (z : Story). HasAdjourned (length start.edits) sittings.items (length c.args.hall.viewers.items) z tallies numbers) (sym same)
    (subst (λ (ts : List Tally). HasAdjourned (length start.edits) sittings.items (length c.args.hall.viewers.items) (g.S.EditSession.story before.kept.session) ts numbers) (sym same_tallies)
    (subst (λ (n : ℕ). HasAdjourned n sittings.items (length c.args.hall.viewers.items) (g.S.EditSession.story before.kept.session) before.tallies.items numbers) opening
    (without_last c.args.staffed.desk.opening sittings.items (length c.args.hall.viewers.items) (g.S.EditSession.story before.kept.session) before.tallies.items numbers c.without_own-outcome.ensures.numbers.0
    (subst (λ (ns : List ℕ). HasAdjourned c.args.staffed.desk.opening sittings.items (length c.args.hall.viewers.items + 1) (g.S.EditSession.story before.kept.session) before.tallies.items ns)
    c.without_own-outcome.ensures.numbers.1
    (subst (λ (n : ℕ). HasAdjourned c.args.staffed.desk.opening sittings.items n (g.S.EditSession.story before.kept.session) before.tallies.items before.numbers.items) pushed
    c.in_ok-adjourned.ensures.adjourned))))) in
    let claimed =
    claimed_once g.row.D-Output.Denot g.D.Door.Comes g.D.Door.Leaves g.D.Door.TurnsAway (writing authors) start now c.args.hall.designers.items sittings.items edited adjourned.seen authors begin
    adjourned.counted in
    let own_fresh : looker c.in-Some.own ≡ just_looking start =
    ap looker (last_all (λ (v : Seeing). v ≡ fresh_viewer start) c.pop.new.self.items c.in-Some.own (subst (All (λ (v : Seeing). v ≡ fresh_viewer start)) c.in-Some.ensures.items viewers)) in
    let talk : HasTalked (writing authors) c.in_ok-sittings.field-0.talked start own.last (g.X.Exit.names c.args.hall.exit) c.args.lines.now c.serve.new.lines c.args.out.now c.serve.new.out =
    c.in_ok-sittings.ensures.talked start authors own_fresh (last_all (λ (v : Seeing). IsPrefix v.signed authors) vs.items own read_by) in (
      authors,
      record {
        sittings = sittings.items;
        looks = map looker vs.items;
        edited = edited;
        looked = c.in_ok-sittings.ensures.viewers start authors (lookers_came start c.pop.new.self.items others)
            (front_all (λ (v : Seeing). IsPrefix v.signed authors) vs.items own read_by);
        read = lookers_extend now vs.items (front_all (λ (v : Seeing). Extends now v.last) vs.items c.in_ok-sittings.field-0.own looked);
        adjourned = adjourned;
        claimed = claimed;
        signed = seats_signed g.row.D-Output.Denot g.D.Door.Comes g.D.Door.Leaves g.D.Door.TurnsAway (writing authors) start now authors 1 c.args.hall.designers.items sittings.items edited begin;
        older = older_unsigned g.row.D-Output.Denot g.D.Door.Comes g.D.Door.Leaves g.D.Door.TurnsAway (writing authors) start now authors 1 c.args.hall.designers.items sittings.items edited some begin;
        each = made.1;
        extends =
            first_extends g.row.D-Output.Denot g.D.Door.Comes g.D.Door.Leaves g.D.Door.TurnsAway (writing authors) true now
            (λ number. just_come number start) 1 c.args.hall.designers.items (map sitter sittings.items) edited some (sitters_extend now sittings.items adjourned.seen);
        saw =
            all_seen g.row.D-Output.Denot g.D.Door.Comes g.D.Door.Leaves g.D.Door.TurnsAway (writing authors) start now c.args.hall.designers.items sittings.items edited claimed numbers adjourned.told
            adjourned.within;
      },
      (own.last, last_all (λ (v : Seeing). Extends now v.last) vs.items own looked, talk),
    )
