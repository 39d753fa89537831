-- Numbers that say which problems are alike.
use Rattle.std.specs.Prelude.{ℕ, ◌+◌, ◌*◌}
use Rattle.mp_modules.specs.Findings.{code_number}
use Rattle.mp_model.specs.declared.finding.Place.{Place}
use Rattle.mp_model.specs.declared.finding.Place.TheVariants.{Module, Bundle}
use Rattle.mp_check.specs.declared.problem.Problem.{Problem}
use Rattle.mp_check.specs.declared.problem.Problem.TheVariants.{Found, Late}

-- even for modules, odd for bundles
abbrev pub place_key : Place → ℕ
place_key (Module m) = m.0 * 2
place_key (Bundle b) = b.0 * 2 + 1

-- late data have the code 0
abbrev pub key_of : Problem → ℕ
key_of (Found f) = place_key f.place * 16 + code_number f.code
key_of (Late l) = place_key (Bundle l.bundle) * 16
