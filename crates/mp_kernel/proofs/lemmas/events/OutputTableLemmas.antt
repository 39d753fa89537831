-- The outputs of modules, of which the first ones stand apart.
use Rattle.std.proofs.Common.{◌≡◌, ℕ, zero, suc, ◌+◌, ◌<◌, List, [], ◌∷◌, ◌++◌, length, take, slice_index_or, refl, ap, sym, ◌∙◌, arith}
use Rattle.std.proofs.lemmas.List.{get_or_default, length-append, take_more}
use Rattle.mp_kernel.specs.declared.events.output_port.OutputPort.{OutputPort}
use Rattle.mp_kernel.specs.declared.events.output_ports.OutputPorts.{OutputPorts}
use Rattle.mp_kernel.specs.declared.events.output_table.OtherPorts.{OtherPorts}
use Rattle.mp_kernel.specs.events.Firing.{no_port, ports_at}
use Rattle.mp_kernel.specs.events.OutputTables.{ports_by}

abbrev none : OtherPorts
none = record { second = no_port; third = no_port }

pub length_by : (firsts : List OutputPort) (others : List OtherPorts) → length firsts ≡ length others → length (ports_by firsts others) ≡ length firsts
length_by [] others same = refl
length_by (first ∷ firsts) [] same = absurd (omega arith)
length_by (first ∷ firsts) (more ∷ others) same = ap suc (length_by firsts others (omega arith))

first_at : (firsts : List OutputPort) (others : List OtherPorts) (place : ℕ) → length firsts ≡ length others → (ports_at (ports_by firsts others) place).first ≡ slice_index_or firsts place no_port
first_at [] others place same = refl
first_at (first ∷ firsts) [] place same = absurd (omega arith)
first_at (first ∷ firsts) (more ∷ others) zero same = refl
first_at (first ∷ firsts) (more ∷ others) (suc place) same = first_at firsts others place (omega arith)

second_at : (firsts : List OutputPort) (others : List OtherPorts) (place : ℕ) → length firsts ≡ length others → (ports_at (ports_by firsts others) place).second ≡ (slice_index_or others place none).second
second_at [] [] place same = refl
second_at [] (more ∷ others) place same = absurd (omega arith)
second_at (first ∷ firsts) [] place same = absurd (omega arith)
second_at (first ∷ firsts) (more ∷ others) zero same = refl
second_at (first ∷ firsts) (more ∷ others) (suc place) same = second_at firsts others place (omega arith)

third_at : (firsts : List OutputPort) (others : List OtherPorts) (place : ℕ) → length firsts ≡ length others → (ports_at (ports_by firsts others) place).third ≡ (slice_index_or others place none).third
third_at [] [] place same = refl
third_at [] (more ∷ others) place same = absurd (omega arith)
third_at (first ∷ firsts) [] place same = absurd (omega arith)
third_at (first ∷ firsts) (more ∷ others) zero same = refl
third_at (first ∷ firsts) (more ∷ others) (suc place) same = third_at firsts others place (omega arith)

-- what stands apart is as much as the whole
pub within : (firsts : List OutputPort) (others : List OtherPorts) (ports : List OutputPorts) (place : ℕ) → length firsts ≡ length others → ports_by firsts others ≡ ports → place < length ports →
    (place < length firsts) × (place < length others)
within firsts others ports place same view low =
    let many = length_by firsts others same in
    let long = ap (length {A = OutputPorts}) view in
    (omega (arith, many, long, low), omega (arith, many, long, low, same))

-- what is read of it is what the whole has
pub first_read : (firsts : List OutputPort) (others : List OtherPorts) (ports : List OutputPorts) (place : ℕ) (read : OutputPort) → length firsts ≡ length others → ports_by firsts others ≡ ports →
    place < length ports → read ≡ slice_index_or firsts place read → read ≡ (ports_at ports place).first
first_read firsts others ports place read same view low is =
    is ∙ get_or_default firsts place read no_port (within firsts others ports place same view low).0
    ∙ sym (first_at firsts others place same) ∙ ap (λ (ps : List OutputPorts). (ports_at ps place).first) view

pub others_read : (firsts : List OutputPort) (others : List OtherPorts) (ports : List OutputPorts) (place : ℕ) (read : OtherPorts) → length firsts ≡ length others → ports_by firsts others ≡ ports →
    place < length ports → read ≡ slice_index_or others place read → (read.second ≡ (ports_at ports place).second) × (read.third ≡ (ports_at ports place).third)
others_read firsts others ports place read same view low is =
    let found : read ≡ slice_index_or others place none = is ∙ get_or_default others place read none (within firsts others ports place same view low).1 in (
      ap (λ (r : OtherPorts). r.second) found ∙ sym (second_at firsts others place same) ∙ ap (λ (ps : List OutputPorts). (ports_at ps place).second) view,
      ap (λ (r : OtherPorts). r.third) found ∙ sym (third_at firsts others place same) ∙ ap (λ (ps : List OutputPorts). (ports_at ps place).third) view,
    )

-- the outputs of one module more
pub ports_push : (firsts : List OutputPort) (others : List OtherPorts) (first : OutputPort) (more : OtherPorts) → length firsts ≡ length others →
    ports_by (firsts ++ first ∷ []) (others ++ more ∷ []) ≡ ports_by firsts others ++ record { first = first; second = more.second; third = more.third } ∷ []
ports_push [] [] first more same = refl
ports_push [] (o ∷ others) first more same = absurd (omega arith)
ports_push (f ∷ firsts) [] first more same = absurd (omega arith)
ports_push (f ∷ firsts) (o ∷ others) first more same =
    ap (λ (xs : List OutputPorts). record { first = f; second = o.second; third = o.third } ∷ xs) (ports_push firsts others first more (omega arith))

-- the table of one module more of a list
pub table_next : (firsts new_firsts : List OutputPort) (others new_others : List OtherPorts) (more : OtherPorts) (ports : List OutputPorts) (i : ℕ) (blank : OutputPorts) (first : OutputPort) →
    length firsts ≡ length others → ports_by firsts others ≡ take i ports → new_firsts ≡ firsts ++ first ∷ [] → new_others ≡ others ++ more ∷ [] → i < length ports →
    first ≡ (slice_index_or ports i blank).first → more.second ≡ (slice_index_or ports i blank).second → more.third ≡ (slice_index_or ports i blank).third →
    (length new_firsts ≡ length new_others) × (ports_by new_firsts new_others ≡ take (i + 1) ports)
table_next firsts new_firsts others new_others more ports i blank first same joined pushed also low one two three =
    let here : ◌≡◌ {A = OutputPorts} (record { first = first; second = more.second; third = more.third }) (slice_index_or ports i blank) = rw (one, two, three) refl in
    let many = ap (length {A = OutputPort}) pushed ∙ length-append firsts (first ∷ []) in
    let as_many = ap (length {A = OtherPorts}) also ∙ length-append others (more ∷ []) in (
      omega (arith, many, as_many, same),
      ap (λ xs. ports_by xs new_others) pushed ∙ ap (λ xs. ports_by (firsts ++ first ∷ []) xs) also ∙ ports_push firsts others first more same
          ∙ ap (λ (xs : List OutputPorts). xs ++ record { first = first; second = more.second; third = more.third } ∷ []) joined
          ∙ ap (λ (p : OutputPorts). take i ports ++ p ∷ []) here ∙ sym (take_more ports i blank low),
    )
