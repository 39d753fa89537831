use Rattle.std.proofs.Common.{◌≡◌, ◌+◌, ◌∷◌, [], All, vec_len}
use Rattle.mp_desk.specs.Holders.{AreFresh}
use Rattle.mp_desk.proofs.staffing.designers_at.Given as goal

abbrev pub invariant-loop-pass : goal.invariant-loop-pass
invariant-loop-pass g l =
    All (λ p. p ≡ record { book = g.L.DeskName.history; story = l.writer.story } ∷ []) l.places.items × AreFresh l.writer.story l.made.items
    × (vec_len l.places + vec_len l.made ≡ vec_len l.initial.places) × (l.all.parts ≡ vec_len l.places + 1) × (l.all.amount ≡ l.initial.all.amount)

abbrev pub decreases-loop-pass : goal.decreases-loop-pass
decreases-loop-pass g l = vec_len l.places
