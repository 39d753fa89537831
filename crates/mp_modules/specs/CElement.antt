-- C, the rendezvous of two events, with its finding.
use Rattle.std.specs.Prelude.{ℕ, ◌-◌, Bool, List, slice_index, not, ◌==◌, ◌&&◌, ◌||◌, if◌then◌else◌}
use Rattle.mp_modules.specs.declared.memory.Memory.{Memory}
use Rattle.mp_modules.specs.declared.rendezvous.Rendezvous.{Rendezvous}
use Rattle.mp_modules.specs.Memories.{output_of, is_event}

-- a level behind a bubble, where there is one
abbrev pub bubbled : Bool → ℕ → ℕ
bubbled bubble level = if bubble then 1 - level else level

-- the output: its inputs' level where they agree, else the former output
abbrev pub joined : Rendezvous → ℕ → List ℕ → ℕ
joined c former x =
    let a = bubbled c.bubble_a (slice_index x 0) in
    let b = bubbled c.bubble_b (slice_index x 1) in
    if a == b then a else former

-- an input changes that waited: behind its bubble it differed from the output one unit before
abbrev pub is_withdrawn_at : Bool → Memory → List ℕ → ℕ → Bool
is_withdrawn_at bubble memory x port = is_event memory x port && not (bubbled bubble (slice_index memory.inputs port) == output_of memory 0)

-- withdrawn
abbrev pub is_withdrawn : Rendezvous → Memory → List ℕ → Bool
is_withdrawn c memory x = is_withdrawn_at c.bubble_a memory x 0 || is_withdrawn_at c.bubble_b memory x 1
