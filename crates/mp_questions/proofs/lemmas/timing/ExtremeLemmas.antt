-- The extremes of numbers that come one after the other.
use Rattle.std.proofs.Common.{◌≡◌, ℕ, List, [], ◌∷◌, Option, Some, None, min, max, fold, refl, ◌∙◌}
use Rattle.std.specs.List.{filter_map, cons_option}
use Rattle.mp_questions.specs.declared.timing.extremes.Extremes.{Extremes}
use Rattle.mp_questions.specs.timing.Extremes.{extremes, widened, widened_by}
use Rattle.mp_questions.specs.timing.Events.{times_of}
use Rattle.mp_questions.specs.timing.Measures.{lateness}
use Rattle.mp_questions.specs.late.Lists.{units_within}
use Rattle.mp_questions.specs.declared.late.late.Late.{Late}

-- further numbers
abbrev pub widened_all : Option Extremes → List ℕ → Option Extremes
widened_all found numbers = fold widened found numbers

some_widened : (least most : ℕ) (numbers : List ℕ)
    → widened_all (Some (record { least = least; most = most })) numbers ≡ Some (record { least = fold min least numbers; most = fold max most numbers })
some_widened least most [] = refl
some_widened least most (number ∷ numbers) = some_widened (min least number) (max most number) numbers

pub extremes_are : (numbers : List ℕ) → widened_all None numbers ≡ extremes numbers
extremes_are [] = refl
extremes_are (number ∷ numbers) = some_widened number number numbers

-- numbers that some of the things have
abbrev pub widened_by_each : (ℕ → Option ℕ) → Option Extremes → List (ℕ × ℕ) → Option Extremes
widened_by_each g found changes = fold (λ (e : Option Extremes) (c : ℕ × ℕ). widened_by e (g c.0)) found changes

one_more : (found : Option Extremes) (number : Option ℕ) (numbers : List ℕ) → widened_all (widened_by found number) numbers ≡ widened_all found (cons_option number numbers)
one_more found None numbers = refl
one_more found (Some number) numbers = refl

pub each_widened : (g : ℕ → Option ℕ) (found : Option Extremes) (changes : List (ℕ × ℕ)) → widened_by_each g found changes ≡ widened_all found (filter_map g (times_of changes))
each_widened g found [] = refl
each_widened g found (c ∷ changes) = each_widened g (widened_by found (g c.0)) changes ∙ one_more found (g c.0) (filter_map g (times_of changes))

pub each_extreme : (g : ℕ → Option ℕ) (changes : List (ℕ × ℕ)) → widened_by_each g None changes ≡ extremes (filter_map g (times_of changes))
each_extreme g changes = each_widened g None changes ∙ extremes_are (filter_map g (times_of changes))

-- numbers of what is late at the times of a range
module _ (from to : ℕ) where
  abbrev pub widened_late : Option Extremes → List Late → Option Extremes
  widened_late found late = fold (λ (e : Option Extremes) (l : Late). widened_by e (units_within from to l)) found late

  late_widened : (found : Option Extremes) (late : List Late) → widened_late found late ≡ widened_all found (filter_map (units_within from to) late)
  late_widened found [] = refl
  late_widened found (l ∷ late) = late_widened (widened_by found (units_within from to l)) late ∙ one_more found (units_within from to l) (filter_map (units_within from to) late)

  pub late_extreme : (late : List Late) → widened_late None late ≡ lateness from to late
  late_extreme late = late_widened None late ∙ extremes_are (filter_map (units_within from to) late)
