-- A further unit with the same input levels changes nothing, and nothing is found at it.
use Rattle.std.specs.Prelude.{◌≡◌, ℕ, List, refl}
use Rattle.std.proofs.Common.{ap, sym, ◌∙◌}
use Rattle.mp_modules.specs.declared.core_module.CoreModule.{CoreModule}
use Rattle.mp_modules.specs.declared.core_module.CoreModule.TheVariants as parts
use Rattle.mp_modules.specs.declared.memory.Memory.{Memory}
use Rattle.mp_modules.specs.Memories.{with_one_output, output_of, seen}
use Rattle.mp_modules.specs.Findings.{no_findings}
use Rattle.mp_modules.specs.Tables.{start, settle, step, found}
use Rattle.mp_modules.specs.Quiet as quiet
use Rattle.mp_modules.specs.QuietArbiter.{arbiter_stays}

pub stepped_stays : (part : CoreModule) (memory : Memory) (x : List ℕ) → step part (step part memory x) x ≡ step part memory x
stepped_stays (parts.C c) memory x = ap (with_one_output x) (quiet.joined_stays c (output_of memory 0) x)
stepped_stays parts.Toggle memory x = quiet.toggle_stays memory x
stepped_stays parts.Select memory x = quiet.select_stays memory x
stepped_stays parts.Call memory x = quiet.call_stays memory x
stepped_stays parts.Arbiter memory x = arbiter_stays memory x

pub settled_stays : (part : CoreModule) (x : List ℕ) → step part (settle part x) x ≡ settle part x
settled_stays part x = stepped_stays part (seen x (start part)) x

-- nothing is found in a unit whose levels the state holds
none_found : (part : CoreModule) (m : Memory) (x : List ℕ) → found part (seen x m) x ≡ no_findings
none_found (parts.C c) m x = rw (quiet.none_withdrawn c m x) refl
none_found parts.Toggle m x = refl
none_found parts.Select m x = rw (quiet.none_unstable m x) refl
none_found parts.Call m x = rw (quiet.no_overlap m x, quiet.no_done_without_call m x) refl
none_found parts.Arbiter m x = rw (quiet.no_repeat_request m x, quiet.no_done_without_grant m x) refl

-- each step ends with the levels in the state
holds_levels : (part : CoreModule) (memory : Memory) (x : List ℕ) → seen x (step part memory x) ≡ step part memory x
holds_levels (parts.C c) memory x = refl
holds_levels _ memory x = refl

pub stepped_quiet : (part : CoreModule) (memory : Memory) (x : List ℕ) → found part (step part memory x) x ≡ no_findings
stepped_quiet part memory x = ap (λ (m : Memory). found part m x) (sym (holds_levels part memory x)) ∙ none_found part (step part memory x) x

pub settled_quiet : (part : CoreModule) (x : List ℕ) → found part (settle part x) x ≡ no_findings
settled_quiet part x = stepped_quiet part (seen x (start part)) x
