-- Shares that are noted step by step.
use Rattle.std.specs.Prelude.{◌≡◌, ℕ, ◌+◌, ◌<◌, ◌≤◌, ◌^◌, Bool, List, [], ◌∷◌, if◌then◌else◌}
use Rattle.mp_questions.specs.declared.causes.module_share.ModuleShare.{ModuleShare}

-- a module of which nothing is noted
pub record IsNone (m : ℕ) (s : ModuleShare) : Type 0 where
  pub id : s.id.0 ≡ m
  pub units : s.units ≡ 0
  pub steps : s.steps ≡ 0

-- a share with a step of so many units more
abbrev pub with_step : ℕ → ModuleShare → ModuleShare
with_step more s = record { id = s.id; units = s.units + more; steps = s.steps + 1 }

-- its numbers don't grow too great by that
pub record HasRoom (more : ℕ) (s : ModuleShare) : Type 0 where
  pub units : s.units + more < 2 ^ 64
  pub steps : s.steps + 1 < 2 ^ 64

-- a share after a step, which may be in its module
abbrev pub noted : Bool → ℕ → ModuleShare → ModuleShare
noted here more s = if here then with_step more s else s

-- the numbers of the modules rise, from a first one on
abbrev pub AreByNumber : ℕ → List ModuleShare → Type 0
AreByNumber least [] = Unit {0}
AreByNumber least (s ∷ others) = (least ≤ s.id.0) × AreByNumber (s.id.0 + 1) others
