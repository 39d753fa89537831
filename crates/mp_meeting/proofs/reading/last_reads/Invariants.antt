use Rattle.std.proofs.Common.{◌≡◌, ◌<◌, ◌≤◌, ℕ, length, vec_len, slice_index, slice_index_or, All}
use Rattle.mp_desk.specs.Holders.{Seeing, GoesOn}
use Rattle.mp_meeting.specs.Sittings.{DesignerTally}
use Rattle.mp_meeting.proofs.reading.last_reads.Given as goal

-- the viewers so far have read
abbrev pub invariant-loop-place : goal.invariant-loop-place
invariant-loop-place g l = record {
  count : vec_len l.numbers ≡ l.place;
  all : length l.viewers ≡ length l.initial.viewers;
  last : (k : ℕ) (v : Seeing) → k < l.place → slice_index l.numbers.items k ≡ length (slice_index_or l.viewers k v).last.edits;
  told : All (λ (n : ℕ). All (λ (s : DesignerTally). s.told ≤ n) l.sittings) l.numbers.items;
  later : (k : ℕ) (v : Seeing) → k < l.place → GoesOn (slice_index_or l.viewers k v).last (slice_index_or l.viewers k v).signed (slice_index_or l.initial.viewers k v).last (slice_index_or l.initial.viewers k v).signed;
  rest : (k : ℕ) (v : Seeing) → l.place ≤ k → slice_index_or l.viewers k v ≡ slice_index_or l.initial.viewers k v;
}
