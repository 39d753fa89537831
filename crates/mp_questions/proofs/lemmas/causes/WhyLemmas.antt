-- The lines of a chain, one after the other.
use Rattle.std.proofs.Common.{◌≡◌, ℕ, ◌+◌, ◌<◌, ◌≤◌, Bool, List, length, get_or, take, Some, None, Result, Ok, Err, sym, ap, subst, ◌∙◌}
use Rattle.std.specs.List.{flat_map}
use Rattle.std.proofs.lemmas.List.{take_all}
use Rattle.mp_netlist.specs.Circuit.{Circuit, IsCircuit, wire_at}
use Rattle.mp_streams.specs.Outgoing.{Outgoing, Puts}
use Rattle.mp_streams.proofs.OutLemmas.{puts_next, puts_stopped}
use Rattle.mp_questions.specs.declared.causes.moment.Moment.{Moment}
use Rattle.mp_questions.specs.declared.causes.wire_change.WireChange.{WireChange}
use Rattle.mp_questions.specs.causes.Changes.{last_change}
use Rattle.mp_questions.specs.timing.Ranges.{read_time}
use Rattle.mp_questions.specs.causes.Chains.{chain_from}
use Rattle.mp_questions.specs.causes.Why.{chain_text, declared_line, step_line, why_text}
use Rattle.mp_questions.proofs.lemmas.causes.ChainLemmas.{IsStepAt, chain_is, first_step, first_within, rest_step}

module _ (n : Circuit) (all : List WireChange) (k most : ℕ) (c : WireChange) (low : k < most) (is : IsStepAt n all k c) where
  line : step_line n c ≡ step_line n (get_or (take most all) k c)
  line = ap (step_line n) (sym (first_step n all k most c c low is))

  module _ {S T E : Type 0} {f : E → Bool} {done : T} {a b e : Outgoing S} where
    -- a line more
    pub chain_next : Puts f (Ok done) a b (flat_map (step_line n) (take k (take most all))) → Puts {T = T} f (Ok done) b e (step_line n c) → Puts {T = T} f (Ok done) a e (flat_map (step_line n) (take (k + 1) (take most all)))
    chain_next first second = puts_next (step_line n) (take most all) k c (first_within all k most low is.within) first (subst (Puts f (Ok done) b e) line second)

    -- a line failed
    pub chain_stopped : {error : E} → Puts f (Ok done) a b (flat_map (step_line n) (take k (take most all))) → Puts {T = T} f (Err error) b e (step_line n c) → Puts {T = T} f (Err error) a e (flat_map (step_line n) (take most all))
    chain_stopped {error = error} first second = puts_stopped (step_line n) (take most all) k c (first_within all k most low is.within) first (subst (Puts f (Err error) b e) line second)

-- all lines
pub chain_over : (n : Circuit) (xs : List WireChange) (k : ℕ) {S T E : Type 0} {f : E → Bool} {done : T} {a b : Outgoing S} → length xs ≤ k → Puts f (Ok done) a b (flat_map (step_line n) (take k xs))
    → Puts f (Ok done) a b (flat_map (step_line n) xs)
chain_over n xs k {T = T} {E = E} {f = f} {done = done} {a = a} {b = b} over first = subst (Puts f (Ok done) a b) (ap (flat_map (step_line n)) (take_all k xs over)) first

-- the text of a chain, and of none
pub why_is : (n : Circuit) → IsCircuit n → (moment : Moment) (steps : ℕ) (c : WireChange) → Some c ≡ last_change n moment.wire (read_time n.horizon moment.time) → 0 < c.time
    → flat_map (step_line n) (take steps (chain_from n c.time (Some c))) ≡ why_text n moment steps
unfolding why_text
why_is n ok moment steps c some from =
    let without = declared_line (wire_at n moment.wire.0) in
    let whole = rest_step n ok c from in
    ap (λ cs. flat_map (step_line n) (take steps cs)) whole
    ∙ sym (ap (chain_text n steps without) (chain_is n ok moment.wire (read_time n.horizon moment.time) (Some c) (sym some) ∙ whole))

pub declared_is : (n : Circuit) → IsCircuit n → (moment : Moment) (steps : ℕ) → None ≡ last_change n moment.wire (read_time n.horizon moment.time) → declared_line (wire_at n moment.wire.0) ≡ why_text n moment steps
unfolding why_text
declared_is n ok moment steps none = sym (ap (chain_text n steps (declared_line (wire_at n moment.wire.0))) (chain_is n ok moment.wire (read_time n.horizon moment.time) None (sym none)))

-- ---- texts under other names

-- a success is one whatever the errors are
pub puts_ok : {S T E F : Type 0} {f : F → Bool} {g : E → Bool} {done : T} {a b : Outgoing S} {xs : List ℕ} → Puts f (Ok done) a b xs → Puts {T = T} g (Ok done) a b xs
puts_ok puts = record { front = puts.front; lost = puts.lost; taken = puts.taken; held = puts.held; ends = puts.ends }

-- the same text was written
pub puts_text : {S T E : Type 0} {f : E → Bool} {r : Result T E} {a b : Outgoing S} {xs ys : List ℕ} → xs ≡ ys → Puts f r a b xs → Puts f r a b ys
puts_text {T = T} {E = E} {f = f} {r = r} {a = a} {b = b} {xs = xs} {ys = ys} is puts = subst (Puts f r a b) is puts
