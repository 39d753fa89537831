use Rattle.std.proofs.Common.{◌≡◌, ℕ, List, true, false, length, sym, ap, subst, ◌∙◌, arith}
use mathlib.Core.List.{IsPrefix}
use Rattle.mp_seats.specs.Replies.{Writing, signed_writing}
use Rattle.mp_seats.specs.Steps.{Seated}
use Rattle.mp_seats.specs.hosting.OwnSeats.{Owner, own_seat, IsOwnStep}
use Rattle.mp_seats.specs.hosting.Guests.{sitter, looker, just_come, just_looking}
use Rattle.mp_seats.specs.hosting.Stays.{AreAttended}
use Rattle.mp_seats.proofs.lemmas.hosting.PeopleLemmas.{as_many, all_through}
use Rattle.mp_seats.proofs.lemmas.hosting.StayLemmas.{all_attended, each_attended}
use Rattle.mp_seats.proofs.lemmas.hosting.OwnLemmas.{own_begins}
use Rattle.mp_seats.proofs.lemmas.talk.AnswerLemmas.{conversed_by}
use Rattle.mp_seats.proofs.hosting.service.serve.Goals as goal

pub returns-clause-counts : goal.returns-clause-counts
returns-clause-counts g c =
    let people = c.args.people in
    let sittings = c.in_ok-sittings.sittings in
    let viewers = c.in_ok-sittings.viewers in
    let old = c.in_ok-staff.staff in
    let new = c.serve_all-talked.new.staff in
    let d1 = as_many sitter (λ p. p.seat) sittings.items new.designers.items c.in_ok-sittings.ensures.designers in
    let d2 = c.serve_all-talked.ensures.designers.0 in
    let d3 = as_many (λ p. p.seat) sitter old.designers.items people.sittings.items c.in_ok-staff.ensures.designers in
    let v1 = as_many looker (λ p. p.seat) viewers.items new.viewers.items c.in_ok-sittings.ensures.viewers in
    let v2 = c.serve_all-talked.ensures.viewers.0 in
    let v3 = as_many (λ p. p.seat) looker old.viewers.items people.viewers.items c.in_ok-staff.ensures.viewers in (
      omega (arith, d1, d2, d3, sittings.ok.0, new.designers.ok.0, old.designers.ok.0, people.sittings.ok.0),
      omega (arith, v1, v2, v3, viewers.ok.0, new.viewers.ok.0, old.viewers.ok.0, people.viewers.ok.0),
    )

pub returns-clause-designers : goal.returns-clause-designers
returns-clause-designers g c = λ start authors came begin.
    let new = c.serve_all-talked.new.staff.designers in
    let old = c.in_ok-staff.staff.designers in
    let same : length new.items ≡ length old.items = omega (arith, c.serve_all-talked.ensures.designers.0, new.ok.0, old.ok.0) in
    subst
    (λ lasts. AreAttended g.row.D-Output.Denot g.D.Door.Comes g.D.Door.Leaves g.D.Door.TurnsAway (signed_writing g.B.ReplyWriter.answer_text g.B.ReplyWriter.reply_text authors) true
    (λ number. just_come number start) 1 c.args.hall.designers.items lasts)
    (sym c.in_ok-sittings.ensures.designers)
    (all_attended g.row.D-Output.Denot g.D.Door.Comes g.D.Door.Leaves g.D.Door.TurnsAway (signed_writing g.B.ReplyWriter.answer_text g.B.ReplyWriter.reply_text authors) true (λ p. p.seat) (λ p. p.door)
    (λ number. just_come number start) sitter c.args.people.sittings.items c.args.hall.designers.items old.items new.items c.in_ok-staff.ensures.designers came c.in_ok-staff.ensures.designer_doors same
    (each_attended g.row.D-Output.Denot g.D.Door.Comes g.D.Door.Leaves g.D.Door.TurnsAway (signed_writing g.B.ReplyWriter.answer_text g.B.ReplyWriter.reply_text) true (λ p. p.seat) (λ p. p.door) authors old.items new.items same c.serve_all-talked.ensures.designers.1
    (all_through (λ (s : Seated). IsPrefix s.signed authors) sitter (λ p. p.seat) c.in_ok-sittings.sittings.items new.items c.in_ok-sittings.ensures.designers begin)))

pub returns-clause-viewers : goal.returns-clause-viewers
returns-clause-viewers g c = λ start authors came begin.
    let new = c.serve_all-talked.new.staff.viewers in
    let old = c.in_ok-staff.staff.viewers in
    let same : length new.items ≡ length old.items = omega (arith, c.serve_all-talked.ensures.viewers.0, new.ok.0, old.ok.0) in
    subst
    (λ lasts. AreAttended g.row.D-Output.Denot g.D.Door.Comes g.D.Door.Leaves g.D.Door.TurnsAway (signed_writing g.B.ReplyWriter.answer_text g.B.ReplyWriter.reply_text authors) false
    (λ number. just_looking start) 1 c.args.hall.viewers.items lasts)
    (sym c.in_ok-sittings.ensures.viewers)
    (all_attended g.row.D-Output.Denot g.D.Door.Comes g.D.Door.Leaves g.D.Door.TurnsAway (signed_writing g.B.ReplyWriter.answer_text g.B.ReplyWriter.reply_text authors) false (λ p. p.seat) (λ p. p.door)
    (λ number. just_looking start) looker c.args.people.viewers.items c.args.hall.viewers.items old.items new.items c.in_ok-staff.ensures.viewers came c.in_ok-staff.ensures.viewer_doors same
    (each_attended g.row.D-Output.Denot g.D.Door.Comes g.D.Door.Leaves g.D.Door.TurnsAway (signed_writing g.B.ReplyWriter.answer_text g.B.ReplyWriter.reply_text) false (λ p. p.seat) (λ p. p.door) authors old.items new.items same c.serve_all-talked.ensures.viewers.1
    (all_through (λ (s : Seated). IsPrefix s.signed authors) looker (λ p. p.seat) c.in_ok-sittings.viewers.items new.items c.in_ok-sittings.ensures.viewers begin)))

pub returns-clause-talked : goal.returns-clause-talked
returns-clause-talked g c = λ start authors fresh begin.
    let writing : List ℕ → Writing = signed_writing g.B.ReplyWriter.answer_text g.B.ReplyWriter.reply_text in
    let last : Owner = c.serve_all-talked.new.own in
    let risen : last.seated ≡ looker c.rise-own.result = sym (c.rise-own.ensures ∙ c.into_guest.ensures) in
    let first : c.in_ok-staff.own ≡ own_seat start (g.X.Exit.names c.args.hall.exit) = c.in_ok-staff.ensures.own ∙ ap (λ (s : Seated). record { seated = s; names = g.X.Exit.names c.args.hall.exit }) fresh in
    let more : IsPrefix last.seated.signed authors = subst (λ (s : Seated). IsPrefix s.signed authors) (sym risen) begin in
    let talk = conversed_by (λ (o : Owner). o.seated.signed) (λ them. IsOwnStep (writing them) false) (λ them o line p text. own_begins (writing them) false o line p text) authors
    c.serve_all-talked.result.0 c.in_ok-staff.own last c.args.lines.now c.serve_all-talked.new.lines c.args.out.now c.serve_all-talked.new.out c.serve_all-talked.ensures.talked more in
    (last, ap (λ (s : Seated). s.seen) risen, rw first at talk)
