-- REG over time.
use Rattle.std.proofs.Common.{◌≡◌, ℕ, zero, suc, Bool, true, false, not, cond, refl, ap}
use Rattle.std.specs.Prelude.{◌==◌, slice_index}
use Rattle.mp_modules.specs.Quiet.{unchanged}
use Rattle.mp_modules.specs.storage.Reg.{is_open}
use Rattle.mp_modules.specs.storage.RegLaws.{kept, ChangesWhileOpen, FollowsWhileOpen}

-- a choice between a level and the former one that isn't the former
chosen : (former level : ℕ) (test : Bool) → not (former == cond test level former) ≡ true → test ≡ true
chosen former level true event = refl
chosen former level false event = let none = unchanged former in cc

pub changes_while_open : ChangesWhileOpen
changes_while_open reg x zero event = cc
changes_while_open reg x (suc t) event = chosen (kept reg x t) (slice_index (x (suc t)) 0) (is_open (x (suc t))) event

pub follows_while_open : FollowsWhileOpen
follows_while_open reg x zero is = ap (λ test. cond test (slice_index (x 0) 0) reg.initial) is
follows_while_open reg x (suc t) is = ap (λ test. cond test (slice_index (x (suc t)) 0) (kept reg x t)) is
