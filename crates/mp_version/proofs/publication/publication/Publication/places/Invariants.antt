use Rattle.std.proofs.Common.{◌≡◌, ◌≤◌, ◌∷◌, [], All, vec_len}
use Rattle.std.specs.Prelude.{vec_capacity}
use Rattle.mp_version.proofs.publication.publication.Publication.places.Given as goal

abbrev pub invariant-loop-i : goal.invariant-loop-i
invariant-loop-i g l = record {
  same : l.self ≡ l.initial.self;
  count : vec_len l.list ≡ l._i;
  room : l.count ≤ vec_capacity l.list;
  each : All (λ p. p ≡ l.initial.self ∷ []) l.list.items;
}
