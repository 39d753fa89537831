use Rattle.mp_exports.proofs.lemmas.vcd.Names.{◌≡◌, ◌≤◌, ℕ, List, length, take, vec_len, Tells, told_from, onto, changes_in}
use Rattle.mp_exports.proofs.vcd.wave_changes.add_changes.Given as goal

-- the changes so far are told
abbrev pub invariant-loop-place : goal.invariant-loop-place
invariant-loop-place l = record {
  within : l.place ≤ length (changes_in l.changes);
  from : l.agenda.from ≡ l.fn.agenda.from;
  times : vec_len l.agenda.firsts ≡ vec_len l.fn.agenda.firsts;
  told : (told : ℕ → List (ℕ × ℕ)) → Tells l.fn.agenda.firsts.items l.fn.agenda.entries.items (told_from l.fn.agenda.from told)
      → Tells l.agenda.firsts.items l.agenda.entries.items (told_from l.fn.agenda.from (λ t. onto l.wire (take l.place (changes_in l.changes)) t (told t)));
}
