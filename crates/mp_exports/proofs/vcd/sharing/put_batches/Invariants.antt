use Rattle.mp_exports.proofs.lemmas.vcd.Names.{◌≡◌, ◌-◌, ◌<◌, ◌≤◌, ◌++◌, drop, flat_map, length, vec_len, passage_text, AreMade, Left}
use Rattle.mp_exports.proofs.vcd.sharing.put_batches.Given as goal

-- the texts of the batch that is made and of the passages behind it are left
abbrev pub invariant-loop-next : goal.invariant-loop-next
invariant-loop-next g l = record {
  inside : l.next ≤ length l.passages;
  some : 0 < vec_len l.ready.rooms;
  same : vec_len l.coming.rooms ≡ vec_len l.ready.rooms;
  made : AreMade l.ready;
  left : Left (flat_map passage_text l.passages) l.fn.out l.out (flat_map passage_text l.ready.passages.now ++ flat_map passage_text (drop l.next l.passages));
}

abbrev pub decreases-loop-next : goal.decreases-loop-next
decreases-loop-next g l = length l.passages - l.next
