-- What the guide has.
use Rattle.std.specs.Prelude.{ℕ, List, map}
use Rattle.std.specs.List.{Contains}
use Rattle.mp_request.specs.declared.explain.topic.Topic.{Topic}
use Rattle.mp_request.specs.explain.Subjects.{subjects, title}

abbrev pub titles : List (List ℕ)
titles = map title subjects

-- each code, whatever it holds, each word of a check and each kind of module is told of under its title
abbrev pub TellsOfEach : Type 0
TellsOfEach = (subject : Topic) → Contains titles (title subject)
