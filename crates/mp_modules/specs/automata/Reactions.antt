-- What an automaton does in a unit: the rules of its modules, in their order, without levels.
use Rattle.std.specs.Prelude.{Bool, true, false, not, ◌&&◌, ◌||◌, if◌then◌else◌}
use Rattle.mp_modules.specs.declared.memory.Client.{Client}
use Rattle.mp_modules.specs.declared.memory.Client.TheVariants.{Nobody, First, Second}
use Rattle.mp_modules.specs.Clients as clients
use Rattle.mp_modules.specs.Arbiter.{is_owner_done}
use Rattle.mp_modules.specs.declared.automata.automaton.Automaton.{Automaton}
use Rattle.mp_modules.specs.declared.automata.automaton.Automaton.TheVariants.{Follow, Merge, Join, Alternate, Choose, Serve, Grant, Hold, Sleep, Meet, Pick}
use Rattle.mp_modules.specs.declared.automata.phase.Phase.{Phase}
use Rattle.mp_modules.specs.declared.automata.events.Events.{Events}
use Rattle.mp_modules.specs.declared.automata.reaction.Reaction.{Reaction}
use Rattle.mp_modules.specs.automata.Phases.{unserved}

abbrev pub differ : Bool → Bool → Bool
differ one other = if one then not other else other

abbrev pub quiet : Phase → Reaction
quiet phase = record { phase = phase; toggles = record { first = false; second = false; third = false } }

abbrev pub toggle_first : Reaction → Reaction
toggle_first r = record r { toggles = record r.toggles { first = not r.toggles.first } }

abbrev pub toggle_second : Reaction → Reaction
toggle_second r = record r { toggles = record r.toggles { second = not r.toggles.second } }

abbrev pub toggle_third : Reaction → Reaction
toggle_third r = record r { toggles = record r.toggles { third = not r.toggles.third } }

abbrev pub toggle_first_if : Bool → Reaction → Reaction
toggle_first_if toggles r = if toggles then toggle_first r else r

abbrev pub toggle_second_if : Bool → Reaction → Reaction
toggle_second_if toggles r = if toggles then toggle_second r else r

abbrev pub toggle_third_if : Bool → Reaction → Reaction
toggle_third_if toggles r = if toggles then toggle_third r else r

abbrev pub with_served : Client → Reaction → Reaction
with_served client r = record r { phase = record r.phase { served = client } }

abbrev pub with_waiting : Client → Bool → Reaction → Reaction
with_waiting client waits r = record r { phase = record r.phase { waiting = clients.with_waiting client waits r.phase.waiting } }

-- the output of a C toggles where both inputs wait
abbrev pub join_waiting : Bool → Bool → Reaction
join_waiting first second = if first && second then toggle_first (quiet (unserved false false)) else quiet (unserved first second)

abbrev pub join : Phase → Events → Reaction
join phase events = join_waiting (differ phase.waiting.first events.first) (differ phase.waiting.second events.second)

abbrev pub alternate : Bool → Bool → Reaction
alternate is_second_next event =
    if not event then quiet (unserved (differ is_second_next event) false)
    else (if is_second_next then toggle_second (quiet (unserved (differ is_second_next event) false)) else toggle_first (quiet (unserved (differ is_second_next event) false)))

abbrev pub choose : Bool → Bool → Reaction
choose is_first_chosen event =
    if not event then quiet (unserved is_first_chosen false)
    else (if is_first_chosen then toggle_first (quiet (unserved is_first_chosen false)) else toggle_second (quiet (unserved is_first_chosen false)))

abbrev pub pass_unless_held : Bool → Bool → Reaction
pass_unless_held is_held differs = toggle_first_if (not is_held && differs) (quiet (unserved is_held (is_held && differs)))

abbrev pub hold : Phase → Events → Reaction
hold phase events =
    toggle_third_if events.third (toggle_second_if events.second
    (pass_unless_held (differ phase.waiting.first (differ events.second events.third)) (differ phase.waiting.second events.first)))

-- both inputs had the levels that they wait for, or not, and whether each has its level now
abbrev pub meet_next : Bool → Bool → Bool → Reaction
meet_next met first second = toggle_first_if (differ met (first && second)) (quiet (unserved first second))

abbrev pub meet : Phase → Events → Reaction
meet phase events =
    meet_next (phase.waiting.first && phase.waiting.second) (differ phase.waiting.first events.first) (differ phase.waiting.second events.second)

-- whether the second input is chosen now, and the inputs differ now; whether another choice changed what is given; and the events of the inputs
abbrev pub pick_next : Bool → Bool → Bool → Bool → Bool → Reaction
pick_next is_second are_apart moves first second = toggle_first_if (differ moves (if is_second then second else first)) (quiet (unserved is_second are_apart))

abbrev pub pick : Phase → Events → Reaction
pick phase events =
    pick_next (differ phase.waiting.first events.third) (differ phase.waiting.second (differ events.first events.second))
    (events.third && phase.waiting.second) events.first events.second

abbrev pub is_free : Client → Bool
is_free client = clients.is_free client

abbrev pub return_to : Client → Reaction → Reaction
return_to Nobody r = r
return_to First r = with_served Nobody (toggle_second r)
return_to Second r = with_served Nobody (toggle_third r)

abbrev pub end_call : Bool → Reaction → Reaction
end_call event r = if event then return_to r.phase.served r else r

abbrev pub request_call : Client → Bool → Reaction → Reaction
request_call client event r = if event && is_free r.phase.served then with_served client (toggle_first r) else r

abbrev pub release : Bool → Bool → Reaction → Reaction
release first second r = if is_owner_done r.phase.served first second then with_served Nobody r else r

abbrev pub grant_to : Client → Reaction → Reaction
grant_to Nobody r = r
grant_to First r = with_waiting First false (with_served First (toggle_first r))
grant_to Second r = with_waiting Second false (with_served Second (toggle_second r))

abbrev pub promote : Reaction → Reaction
promote r =
    if is_free r.phase.served
    then (if r.phase.waiting.first then grant_to First r else (if r.phase.waiting.second then grant_to Second r else r))
    else r

abbrev pub is_engaged : Client → Phase → Bool
is_engaged client phase = clients.is_same client phase.served || clients.waits client phase.waiting

abbrev pub request_grant : Client → Bool → Reaction → Reaction
request_grant client false r = r
request_grant client true r =
    if is_engaged client r.phase then r
    else (if is_free r.phase.served then grant_to client r else with_waiting client true r)

abbrev pub serve : Events → Reaction → Reaction
serve events r = request_call Second events.second (request_call First events.first (end_call events.third r))

abbrev pub grant : Events → Reaction → Reaction
grant events r = request_grant Second events.second (request_grant First events.first (promote (release events.third events.fourth r)))

-- the phase after a unit with these events, and the outputs that toggle
unfoldable pub react : Automaton → Phase → Events → Reaction
react Follow phase events = toggle_first_if events.first (quiet phase)
react Merge phase events = toggle_first_if (differ events.first events.second) (quiet phase)
react Join phase events = join phase events
react Alternate phase events = alternate phase.waiting.first events.first
react Choose phase events = choose (differ phase.waiting.first events.second) events.first
react Serve phase events = serve events (quiet phase)
react Grant phase events = grant events (quiet phase)
react Hold phase events = hold phase events
react Sleep phase events = quiet phase
react Meet phase events = meet phase events
react Pick phase events = pick phase events
