use Rattle.std.proofs.Common.{◌≡◌, ◌+◌, ◌<◌, ◌≤◌, ℕ, List, length, map, slice_index, slice_index_or, All, sym, ◌∙◌, subst, rules}
use Rattle.mp_version.specs.Stories.{Story}
use Rattle.mp_desk.specs.Holders.{Working, Seeing, GoesOn, ExtendsEach, BeginWithEach, accepted_by}
use Rattle.mp_meeting.specs.Sittings.{DesignerTally}
use Rattle.mp_meeting.specs.Seats.{working}
use Rattle.mp_meeting.proofs.MeetLemmas.{none_more, came_back, all_looked}
use Rattle.mp_meeting.proofs.meeting.adjourn.Goals as goal

pub returns-clause-adjourned : goal.returns-clause-adjourned
returns-clause-adjourned g c =
    let now : Story = g.S.EditSession.story c.in-Ok.kept.session in
    let new : List DesignerTally = c.args.sittings.items in
    let numbers : List ℕ = c.in_ok-numbers.numbers.items in
    let vs : List Seeing = c.as_mut_slice-2.result.now in
    let told : All (λ (n : ℕ). All (λ (s : DesignerTally). s.told ≤ n) new) numbers = rw c.as_slice.ensures.value at c.in_ok-numbers.ensures.told in
    let seen : ExtendsEach now (map working new) = subst (ExtendsEach now) c.in_ok-designers.ensures.designers c.in-Ok.ensures.seen in
    let counted : length now.edits ≡ c.args.desk.opening + accepted_by (map working new) =
    subst (λ (ws : List Working). length now.edits ≡ c.args.desk.opening + accepted_by ws) c.in_ok-designers.ensures.designers c.in-Ok.ensures.counted in
    let all : length numbers ≡ length vs = search rules in
    let long : length c.last_reads.new.viewers ≡ c.args.viewers.len = search rules in
    let lent : vs ≡ c.last_reads.new.viewers = c.as_mut_slice-2.ensures.value ∙ came_back _ c.last_reads.new.viewers c.args.viewers.items long in
    let last = subst (λ (l : List Seeing). (k : ℕ) (v : Seeing) → k < length l → slice_index numbers k ≡ length (slice_index_or l k v).last.edits) (sym lent) c.in_ok-numbers.ensures.last in
    record {
      whole = c.in_ok-designers.ensures.whole;
      seen = seen;
      counted = counted;
      tallies_are = c.in_ok-designers.ensures.tallies;
      told = told;
      within = none_more now numbers vs all last c.in-Ok.ensures.read;
      viewers_are = search rules;
    }

pub returns-clause-looked : goal.returns-clause-looked
returns-clause-looked g c =
    let now : Story = g.S.EditSession.story c.in-Ok.kept.session in
    let authors = c.in-Ok.ensures.signed.0 in
    let vs : List Seeing = c.as_mut_slice-2.result.now in
    let was : List Seeing = c.args.viewers.items in
    let long : length c.last_reads.new.viewers ≡ c.args.viewers.len = search rules in
    let lent : vs ≡ c.last_reads.new.viewers = c.as_mut_slice-2.ensures.value ∙ came_back _ c.last_reads.new.viewers was long in
    let read : All (λ (v : Seeing). GoesOn now authors v.last v.signed) c.last_reads.new.viewers = subst (All (λ (v : Seeing). GoesOn now authors v.last v.signed)) lent c.in-Ok.ensures.signed.3 in
    let first : c.as_mut_slice.result.now ≡ was = c.as_mut_slice.ensures.value in
    let later = subst (λ (l : List Seeing). (k : ℕ) (v : Seeing) → k < length c.last_reads.new.viewers
    → GoesOn (slice_index_or c.last_reads.new.viewers k v).last (slice_index_or c.last_reads.new.viewers k v).signed (slice_index_or l k v).last (slice_index_or l k v).signed) first
    c.in_ok-numbers.ensures.later in
    λ k v within. (all_looked now authors was c.last_reads.new.viewers (search rules) later read k v within).extends

pub returns-clause-signed : goal.returns-clause-signed
returns-clause-signed g c =
    let now : Story = g.S.EditSession.story c.in-Ok.kept.session in
    let authors = c.in-Ok.ensures.signed.0 in
    let vs : List Seeing = c.as_mut_slice-2.result.now in
    let was : List Seeing = c.args.viewers.items in
    let long : length c.last_reads.new.viewers ≡ c.args.viewers.len = search rules in
    let lent : vs ≡ c.last_reads.new.viewers = c.as_mut_slice-2.ensures.value ∙ came_back _ c.last_reads.new.viewers was long in
    let read : All (λ (v : Seeing). GoesOn now authors v.last v.signed) c.last_reads.new.viewers = subst (All (λ (v : Seeing). GoesOn now authors v.last v.signed)) lent c.in-Ok.ensures.signed.3 in
    let first : c.as_mut_slice.result.now ≡ was = c.as_mut_slice.ensures.value in
    let later = subst (λ (l : List Seeing). (k : ℕ) (v : Seeing) → k < length c.last_reads.new.viewers
    → GoesOn (slice_index_or c.last_reads.new.viewers k v).last (slice_index_or c.last_reads.new.viewers k v).signed (slice_index_or l k v).last (slice_index_or l k v).signed) first
    c.in_ok-numbers.ensures.later in (
      authors,
      c.in-Ok.ensures.signed.1,
      subst (BeginWithEach authors) c.in_ok-designers.ensures.designers c.in-Ok.ensures.signed.2,
      all_looked now authors was c.last_reads.new.viewers (search rules) later read,
    )
