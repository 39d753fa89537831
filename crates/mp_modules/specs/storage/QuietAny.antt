-- A further unit with the same input levels changes nothing, and nothing is found at it: all kinds as one type.
use Rattle.std.specs.Prelude.{◌≡◌, ℕ, List, refl}
use Rattle.mp_modules.specs.declared.memory.Memory.{Memory}
use Rattle.mp_modules.specs.Findings.{no_findings}
use Rattle.mp_modules.specs.QuietModules as core
use Rattle.mp_modules.specs.storage.QuietStorage as storage
use Rattle.mp_modules.specs.storage.QuietFunctions as functions
use Rattle.mp_modules.specs.declared.storage.any_module.AnyModule.{AnyModule}
use Rattle.mp_modules.specs.declared.storage.any_module.AnyModule.TheVariants as parts
use Rattle.mp_modules.specs.storage.AnyModules.{settle, step, found}

pub settled_stays : (part : AnyModule) (x : List ℕ) → step part (settle part x) x ≡ settle part x
unfolding settle step
settled_stays (parts.Core part) x = core.settled_stays part x
settled_stays (parts.Reg part) x = storage.reg_settled_stays part x
settled_stays (parts.Function part) x = refl

pub stepped_stays : (part : AnyModule) (m : Memory) (x : List ℕ) → step part (step part m x) x ≡ step part m x
unfolding step
stepped_stays (parts.Core part) m x = core.stepped_stays part m x
stepped_stays (parts.Reg part) m x = storage.reg_stepped_stays part m x
stepped_stays (parts.Function part) m x = refl

pub settled_quiet : (part : AnyModule) (x : List ℕ) → found part (settle part x) x ≡ no_findings
unfolding settle found
settled_quiet (parts.Core part) x = core.settled_quiet part x
settled_quiet (parts.Reg part) x = storage.reg_settled_quiet part x
settled_quiet (parts.Function part) x = functions.settled_quiet part x

pub stepped_quiet : (part : AnyModule) (m : Memory) (x : List ℕ) → found part (step part m x) x ≡ no_findings
unfolding step found
stepped_quiet (parts.Core part) m x = core.stepped_quiet part m x
stepped_quiet (parts.Reg part) m x = storage.reg_stepped_quiet part m x
stepped_quiet (parts.Function part) m x = functions.stepped_quiet part m x
