use Rattle.std.proofs.Common.{◌≡◌, ℕ, zero, suc, refl, ◌+◌, ◌-◌, ◌<◌, length, take, sym, ◌∙◌, arith}
use Rattle.std.proofs.lemmas.List.{length-take, get_or-take}
use Rattle.mp_modules.specs.Memories.{blank}
use Rattle.mp_partition.specs.runs.StateLists.{states_of}
use Rattle.mp_partition.proofs.lemmas.runs.KeepLemmas.{last_kept-at}
use Rattle.mp_partition.proofs.runs.checkpoints.state_before.Goals as goal

-- what isn't 0 is above it
above : (n : ℕ) → (n ≡ 0 → ⊥) → 0 < n
above zero some = absurd (some refl)
above (suc n) some = omega arith

pub returns : goal.returns
returns c =
    let ks = states_of c.args.list.now in
    let low : c.args.place - 1 < c.args.place = omega (arith, above c.args.place c.if-place-eq0.false) in
    let long = length-take c.args.place ks in
    let end : c.args.place - 1 + 1 ≡ length (take c.args.place ks) = omega (arith, long, c.requires) in
    sym (last_kept-at (take c.args.place ks) c.at.result (c.args.place - 1) blank end (get_or-take c.args.place ks (c.args.place - 1) c.at.result low ∙ sym c.at.ensures))
