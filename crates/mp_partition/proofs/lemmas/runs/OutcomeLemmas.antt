-- What an evaluation gives, slot by slot.
use Rattle.std.proofs.Common.{◌≡◌, ℕ, ◌+◌, ◌≤◌, ◌%◌, true, false, ◌⊎◌, List, [], ◌∷◌, ◌++◌, Option, None, option_map, nat_lt, ◌==◌, length, refl, ap, sym, ◌∙◌, arith, inl, inr}
use Rattle.std.specs.Prelude.{◌&&◌, if◌then◌else◌}
use Rattle.std.proofs.lemmas.Bool.{cases_Bool, cases_lt, cases_eq, and_parts, ltb-true, eqb-true}
use Rattle.std.proofs.lemmas.List.{get_or_past, get_or_append_left, get_or_push, length_push}
use Rattle.mp_modules.specs.Memories.{blank}
use Rattle.mp_records.specs.declared.module_record.ModuleRecord.{ModuleRecord}
use Rattle.mp_netlist.specs.Slots.{slot_at}
use Rattle.mp_netlist.specs.Circuit.{Circuit, wire_at, module_at}
use Rattle.mp_netlist.specs.Limits.{checkpoint_units}
use Rattle.mp_model.specs.Waves.{slot_wave}
use Rattle.mp_partition.specs.runs.Checkpoints.{kept_at}
use Rattle.mp_partition.specs.runs.Outcomes.{Outcome, AreSlots, checkpoint_of}
use Rattle.mp_partition.specs.runs.Runs.{AreCheckpoints, checkpoint}

-- one slot more
pub slots_push : {X : Type 0} (size : ℕ) (f : ℕ → Option X) (slots : List (Option X)) (slot : Option X) → slot ≡ f size → AreSlots size f slots → AreSlots (size + 1) f (slots ++ slot ∷ [])
slots_push size f slots slot is are = record {
  places = length_push slots slot ∙ ap (λ k. k + 1) are.places;
  each = λ k low. elim (cases_eq k size) as (λ _. slot_at (slots ++ slot ∷ []) k ≡ f k) [
    | inl same ↦ get_or_push slots slot None k (are.places ∙ sym same) ∙ is ∙ ap f (sym same)
    | inr other ↦ get_or_append_left slots (slot ∷ []) None k (let places = are.places in omega (arith, low, other, places)) ∙ are.each k (omega (arith, low, other))
  ];
}

-- every slot, also behind the last
pub slot_is : {X : Type 0} (size : ℕ) (f : ℕ → Option X) (slots : List (Option X)) → ((k : ℕ) → size ≤ k → f k ≡ None) → AreSlots size f slots → (k : ℕ) → slot_at slots k ≡ f k
slot_is size f slots none are k = elim (cases_lt k size) as (λ _. slot_at slots k ≡ f k) [
  | inl low ↦ are.each k low
  | inr past ↦ get_or_past slots k None (let places = are.places in omega (arith, past, places)) ∙ sym (none k past)
]

pub no_wave : (n : Circuit) (w : ℕ) → length n.wires ≤ w → slot_wave n w (wire_at n w) ≡ None
no_wave n w past = ap (slot_wave n w) (get_or_past n.wires w None past)

-- where no module stands
pub no_module : {X : Type 0} (n : Circuit) (f : ModuleRecord → X) (m : ℕ) → length n.modules ≤ m → option_map f (module_at n m) ≡ None
no_module n f m past = ap (option_map f) (get_or_past n.modules m None past)

-- what is kept of a run is what it tells
pub checkpoint_is : (n : Circuit) (m c : ℕ) (run : Outcome) → run.horizon ≡ n.horizon → AreCheckpoints n run.kept → checkpoint_of run m c ≡ checkpoint n m c
checkpoint_is n m c run same are =
    ap (λ h. if nat_lt c h && c % checkpoint_units h == 0 then option_map (λ ks. kept_at ks c blank) (slot_at run.kept m) else None) same ∙ by (cases_Bool (nat_lt c n.horizon && c % checkpoint_units n.horizon == 0))
  where
    by : (nat_lt c n.horizon && c % checkpoint_units n.horizon == 0 ≡ true) ⊎ (nat_lt c n.horizon && c % checkpoint_units n.horizon == 0 ≡ false)
        → (if nat_lt c n.horizon && c % checkpoint_units n.horizon == 0 then option_map (λ ks. kept_at ks c blank) (slot_at run.kept m) else None) ≡ checkpoint n m c
    by (inl passes) =
        let parts = and_parts (nat_lt c n.horizon) (c % checkpoint_units n.horizon == 0) passes in
        rw passes (are.each m c (eqb-true (c % checkpoint_units n.horizon) 0 parts.1) (ltb-true c n.horizon parts.0))
    by (inr fails) = rw fails refl
