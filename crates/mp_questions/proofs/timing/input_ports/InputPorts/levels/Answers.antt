use Rattle.std.proofs.Common.{◌≡◌, ℕ, List, [], ◌∷◌, slice_index}
use Rattle.mp_modules.specs.Memories.{input_levels}
use Rattle.mp_questions.proofs.timing.input_ports.InputPorts.levels.Goals as goal

levels_are : (a b c d : ℕ) (x : List ℕ) → a ≡ slice_index x 0 → b ≡ slice_index x 1 → c ≡ slice_index x 2 → d ≡ slice_index x 3 → (let levels : List ℕ = a ∷ b ∷ c ∷ d ∷ [] in levels) ≡ input_levels x
levels_are a b c d x first second third fourth = cc

pub returns : goal.returns
returns c x end heard below =
    levels_are c.level_at.result c.level_at-2.result c.level_at-3.result c.level_at-4.result (x c.args.time)
    (c.level_at.ensures (λ u. slice_index (x u) 0) end heard.first below)
    (c.level_at-2.ensures (λ u. slice_index (x u) 1) end heard.second below)
    (c.level_at-3.ensures (λ u. slice_index (x u) 2) end heard.third below)
    (c.level_at-4.ensures (λ u. slice_index (x u) 3) end heard.fourth below)
