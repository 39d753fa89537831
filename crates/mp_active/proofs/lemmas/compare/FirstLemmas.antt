-- Where the levels of wires come from at time 0.
use Rattle.std.proofs.Common.{◌≡◌, ◌⊎◌, ◌↔◌, ℕ, ◌+◌, ◌<◌, Bool, true, false, not, ◌||◌, IsTrue, List, [], ◌∷◌, ◌++◌, length, get_or, refl, sym, ap, ◌∙◌, arith, subst, inl, inr}
use Rattle.std.proofs.lemmas.Bool.{cases_eq, false≢true}
use Rattle.std.proofs.lemmas.List.{get_or_append_left, get_or_push}
use Rattle.mp_netlist.specs.declared.driver.Driver.{Driver}
use Rattle.mp_netlist.specs.declared.driver.Driver.TheVariants.{Nothing, Stimulus, Port}
use Rattle.mp_netlist.specs.Circuit.{Circuit, IsCircuit, Drives, stimulus_at}
use Rattle.mp_netlist.specs.Drivers.{driver, stimulus_driver}
use Rattle.mp_netlist.proofs.DriverLemmas.{finds_ports, finds_only_ports, driven_by}
use Rattle.mp_depend.specs.SetAlike.{IsSetAlike}
use Rattle.mp_depend.proofs.SetAlikeLemmas.{IsPortless, portless}
use Rattle.mp_depend.specs.work.Revisions.{IsDrivenAlike}
use Rattle.mp_active.specs.declared.compare.wire_source.WireSource.{WireSource}
use Rattle.mp_active.specs.compare.Comparing.{off, renewed}
use Rattle.mp_active.specs.compare.Reading.{turned_on_if}
use Rattle.mp_active.specs.compare.First.{IsRenewedBy, IsRenewed, IsFirst, IsNeverOrZero}

-- what is set on a wire that no port has drives it
set_driver : (n : Circuit) (w : ℕ) → ((m p : ℕ) → Drives n m p w → ⊥) → driver n w ≡ stimulus_driver (stimulus_at n w)
set_driver n w none = elim (driven_by n w) as (λ _. driver n w ≡ stimulus_driver (stimulus_at n w)) [
  | inl found ↦ absurd (none found.0 found.1 found.2)
  | inr is ↦ is
]

-- such a wire is driven alike where it is set alike
alike : (old new : Circuit) → IsCircuit old → (w : ℕ) → ((m p : ℕ) → Drives new m p w → ⊥) → IsSetAlike old new w ↔ IsDrivenAlike old new w
alike old new ok w none = (
  λ set. record {
    before = set.before;
    after = set.after;
    one = set_driver old w set.portless ∙ ap stimulus_driver set.stimulus ∙ sym (set_driver new w none);
    stimulus = set.stimulus;
    part = λ m p drives. absurd (none m.0 p (finds_only_ports new w p m drives));
  },
  λ driven. record {
    before = driven.before;
    after = driven.after;
    portless = λ m p drives. none m p (finds_only_ports new w p (record { 0 = m }) (sym driven.one ∙ finds_ports old ok m p w drives));
    stimulus = driven.stimulus;
  },
)

renewed_portless : (old new : Circuit) (active : List Bool) (w : ℕ) (found : Driver) → IsPortless found → IsRenewedBy old new active w found ↔ (IsDrivenAlike old new w → ⊥)
renewed_portless old new active w Nothing not = (λ is. is, λ is. is)
renewed_portless old new active w Stimulus not = (λ is. is, λ is. is)
renewed_portless old new active w (Port m p) not = absurd (not m p refl)

pub is_by_none : (old new : Circuit) (active : List Bool) (w : ℕ) (found : Driver) (b : Bool) → IsCircuit old → IsCircuit new → found ≡ driver new w → IsPortless found →
    IsTrue b ↔ IsSetAlike old new w → IsTrue (not b) ↔ IsRenewed old new active w
is_by_none old new active w found b old_ok new_ok is not_port set =
    subst (λ (d : Driver). IsTrue (not b) ↔ IsRenewedBy old new active w d) is (
      λ yes. (renewed_portless old new active w found not_port).1 (λ driven. false≢true (opposite b yes ∙ set.1 ((alike old new old_ok w none).1 driven))),
      λ yes. decided b (λ e. (renewed_portless old new active w found not_port).0 yes ((alike old new old_ok w none).0 (set.0 e))),
    )
  where
    none : (m p : ℕ) → Drives new m p w → ⊥
    none = portless new new_ok w found is not_port

    opposite : (v : Bool) → not v ≡ true → false ≡ v
    opposite true e = e
    opposite false e = refl

    decided : (v : Bool) → (v ≡ true → ⊥) → not v ≡ true
    decided true denied = absurd (denied refl)
    decided false denied = refl

-- what comes from the new run is on, and what doesn't is off
pub is_first : (old new : Circuit) (active : List Bool) (w : ℕ) (is_new : Bool) (source : WireSource) → (is_new ≡ true → source ≡ renewed) → (is_new ≡ false → source ≡ off) →
    IsTrue is_new ↔ IsRenewed old new active w → IsFirst old new active w false source
is_first old new active w true source new_is old_is is = record {
  either = inl (new_is refl);
  never = (λ e. is.0 refl, λ yes. ap (λ (s : WireSource). s.until) (new_is refl));
}
is_first old new active w false source new_is old_is is = record {
  either = inr (old_is refl);
  never = (λ e. let zero = ap (λ (s : WireSource). s.until) (old_is refl) in let no : ⊥ = omega arith in absurd no, λ yes. absurd (false≢true (is.1 yes)));
}

-- one source more
pub first_more : (old new : Circuit) (active : List Bool) (sources : List WireSource) (source : WireSource) (w : ℕ) → length sources ≡ w →
    ((k : ℕ) → k < w → IsFirst old new active k false (get_or sources k off)) → IsFirst old new active w false source →
    (k : ℕ) → k < w + 1 → IsFirst old new active k false (get_or (sources ++ source ∷ []) k off)
first_more old new active sources source w long each here k less = elim (cases_eq k w) as (λ _. IsFirst old new active k false (get_or (sources ++ source ∷ []) k off)) [
  | inl own ↦ subst (IsFirst old new active k false) (sym (get_or_push sources source off k (long ∙ sym own))) (subst (λ j. IsFirst old new active j false source) (sym own) here)
  | inr other ↦ subst (IsFirst old new active k false) (sym (get_or_append_left sources (source ∷ []) off k (omega arith))) (each k (omega arith))
]

-- wires that are read are on, too
pub first_read : (old new : Circuit) (active : List Bool) (w : ℕ) (read : Bool) (was is : WireSource) → IsFirst old new active w false was → is ≡ turned_on_if read was → IsFirst old new active w read is
first_read old new active w read was is first turned = record {
  either = elim first.either as (λ _. (is ≡ renewed) ⊎ (is ≡ record off { is_on = read })) [
    | inl new_is ↦ inl (turned ∙ ap (turned_on_if read) new_is ∙ ap (λ b. record renewed { is_on = b }) (or_true read))
    | inr old_is ↦ inr (turned ∙ ap (turned_on_if read) old_is ∙ ap (λ b. record off { is_on = b }) (or_false read))
  ];
  never = (λ e. first.never.0 (sym (ap (λ (s : WireSource). s.until) turned) ∙ e), λ yes. ap (λ (s : WireSource). s.until) turned ∙ first.never.1 yes);
}
  where
    or_true : (b : Bool) → (b || true) ≡ true
    or_true true = refl
    or_true false = refl

    or_false : (b : Bool) → (b || false) ≡ b
    or_false true = refl
    or_false false = refl

pub never_or_zero : (old new : Circuit) (active : List Bool) (w : ℕ) (read : Bool) (source : WireSource) → IsFirst old new active w read source → IsNeverOrZero source
never_or_zero old new active w read source first = elim first.either as (λ _. IsNeverOrZero source) [
  | inl new_is ↦ inl (ap (λ (s : WireSource). s.until) new_is)
  | inr old_is ↦ inr (ap (λ (s : WireSource). s.until) old_is)
]
