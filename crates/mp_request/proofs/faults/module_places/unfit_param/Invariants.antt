use Rattle.std.specs.Prelude.{◌≡◌, ◌+◌, drop, not, nat_lt}
use Rattle.std.specs.List.{position_or_len}
use Rattle.mp_modules.specs.Kinds.{param_bound}
use Rattle.mp_request.proofs.faults.module_places.unfit_param.Given as goal

-- the first is among those that are left
abbrev pub invariant-loop-place : goal.invariant-loop-place
invariant-loop-place l =
    l.place + position_or_len (λ param. not (nat_lt param (param_bound l.kind l.width))) (drop l.place l.params)
    ≡ position_or_len (λ param. not (nat_lt param (param_bound l.kind l.width))) l.params
