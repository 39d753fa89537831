use Rattle.std.proofs.Common.{◌≡◌, ℕ, ◌<◌, ◌≤◌, [], length, slice_index_or}
use Rattle.mp_modules.specs.Memories.{output_of}
use Rattle.mp_model.specs.response.Span.{extended}
use Rattle.mp_model.proofs.response.outputs.Outputs.extend.Given as goal

-- the ports so far have one more unit
abbrev pub invariant-loop-port : goal.invariant-loop-port
invariant-loop-port l = record {
  count : l.self-inside.count ≡ l.initial.self-inside.count;
  places : length l.self-inside.places ≡ 3;
  past : (p : ℕ) → p < l.port → slice_index_or l.self-inside.places p [] ≡ extended (slice_index_or l.initial.self-inside.places p []) l.time (output_of l.before p) (output_of l.now p);
  rest : (p : ℕ) → l.port ≤ p → slice_index_or l.self-inside.places p [] ≡ slice_index_or l.initial.self-inside.places p [];
}
