-- The lines of a check in brief.
use Rattle.std.specs.Prelude.{ℕ, ◌==◌, List, [], ◌∷◌, ◌++◌, codes, if◌then◌else◌}
use Rattle.std.specs.List.{flat_map}
use Rattle.std.specs.Fmt.{decimal}
use Rattle.mp_netlist.specs.Circuit.{Circuit}
use Rattle.mp_model.specs.declared.finding.Place.{Place}
use Rattle.mp_model.specs.declared.finding.Place.TheVariants.{Module, Bundle}
use Rattle.mp_check.specs.Problems.{by_first, groups, place_of, problems, time_of, word_of}
use Rattle.mp_check.specs.Selections.{Selected, place_name}
use Rattle.mp_check.specs.declared.group.Group.{Group}
use Rattle.mp_check.specs.declared.problem.Problem.{Problem}
use Rattle.mp_check.specs.declared.problem.Problem.TheVariants.{Found, Late}

abbrev pub kind_text : Place → List ℕ
kind_text (Module m) = codes "module "
kind_text (Bundle b) = codes "bundle "

-- a number of units behind a word, for data that are late
abbrev pub units_text : Problem → List ℕ → ℕ → List ℕ
units_text (Found f) word units = []
units_text (Late l) word units = word ++ decimal units

-- how often and when, as ` 1 time, at 40`, or ` 158 times, first 95, last 5998, worst 47`
abbrev pub times_text : Group → List ℕ
times_text g =
    if g.count == 1 then codes " 1 time, at " ++ (decimal g.last ++ units_text g.first (codes ", by ") g.worst)
    else codes " " ++ (decimal g.count ++ (codes " times, first " ++ (decimal (time_of g.first) ++ (codes ", last " ++ (decimal g.last ++ units_text g.first (codes ", worst ") g.worst)))))

-- the line of a group, as `module c4 withdrawn 1 time, at 40`
abbrev pub group_line : Circuit → Group → List ℕ
group_line n g =
    kind_text (place_of g.first) ++ (place_name n (place_of g.first) ++ (32 ∷ (word_of g.first ++ (times_text g ++ (10 ∷ [])))))

-- a line for each group of what is selected
abbrev pub brief_lines : Circuit → Selected → List ℕ
brief_lines n s = flat_map (group_line n) (by_first n.horizon (groups (problems n s)))
