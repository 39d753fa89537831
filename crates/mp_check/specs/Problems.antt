-- Findings and late data, and what is alike of them.
use Rattle.std.specs.Prelude.{ℕ, ◌-◌, Bool, false, ◌==◌, ◌&&◌, List, ◌++◌, codes, filter, length, map, max}
use Rattle.std.specs.List.{flat_map, fold, range_with_len}
use Rattle.mp_modules.specs.Findings.{code_number, code_word}
use Rattle.mp_netlist.specs.Circuit.{Circuit}
use Rattle.mp_model.specs.Findings.{findings}
use Rattle.mp_model.specs.declared.finding.Place.{Place}
use Rattle.mp_model.specs.declared.finding.Place.TheVariants.{Module, Bundle}
use Rattle.mp_questions.specs.Once.{firsts}
use Rattle.mp_questions.specs.late.Lateness.{all_late}
use Rattle.mp_check.specs.Selections.{Selected, keeps_finding, keeps_late}
use Rattle.mp_check.specs.declared.group.Group.{Group}
use Rattle.mp_check.specs.declared.problem.Problem.{Problem}
use Rattle.mp_check.specs.declared.problem.Problem.TheVariants.{Found, Late}

-- what is found and what is late, as far as it is selected, in the order of the lines of a check
abbrev pub problems : Circuit → Selected → List Problem
problems n s = map Found (filter (keeps_finding n s) (findings n)) ++ map Late (filter (keeps_late n s) (all_late n))

abbrev pub time_of : Problem → ℕ
time_of (Found f) = f.time
time_of (Late l) = l.time

-- the module or the bundle
abbrev pub place_of : Problem → Place
place_of (Found f) = f.place
place_of (Late l) = Bundle l.bundle

abbrev pub word_of : Problem → List ℕ
word_of (Found f) = code_word f.code
word_of (Late l) = codes "late"

-- by how many units data are late
abbrev pub units_of : Problem → ℕ
units_of (Found f) = 0
units_of (Late l) = l.units

-- ---- groups

abbrev pub is_place : Place → Place → Bool
is_place (Module m) (Module k) = m.0 == k.0
is_place (Module m) (Bundle b) = false
is_place (Bundle b) (Module m) = false
is_place (Bundle b) (Bundle d) = b.0 == d.0

-- two problems are of one module or bundle and of one code
abbrev pub is_alike : Problem → Problem → Bool
is_alike (Found f) (Found g) = is_place f.place g.place && code_number f.code == code_number g.code
is_alike (Found f) (Late l) = false
is_alike (Late l) (Found f) = false
is_alike (Late l) (Late k) = l.bundle.0 == k.bundle.0

abbrev pub alike : Problem → List Problem → List Problem
alike p problems = filter (is_alike p) problems

-- the time of the last of some problems
abbrev pub last_time : List Problem → ℕ
last_time problems = fold (λ before p. time_of p) 0 problems

-- the most units by which data are late
abbrev pub most_units : List Problem → ℕ
most_units problems = fold max 0 (map units_of problems)

-- all that is like a first problem, summed up
abbrev pub group_of : List Problem → Problem → Group
group_of problems first =
    let group = alike first problems in
    record { first = first; count = length group; last = last_time group; worst = most_units group }

-- each problem is in one group, and these are in the order of their first problems
abbrev pub groups : List Problem → List Group
groups problems = map (group_of problems) (firsts is_alike problems)

-- groups by the times of their first problems, and where these are the same, in the order that they have
abbrev pub by_first : ℕ → List Group → List Group
by_first horizon found = flat_map (λ t. filter (λ (g : Group). time_of g.first == t) found) (range_with_len 1 (horizon - 1))
