-- Who reads a number asleep, when one module more sleeps.
use Rattle.std.proofs.Common.{◌≡◌, ◌≢◌, ℕ, ◌+◌, ◌*◌, ◌<◌, ◌≤◌, Bool, true, false, cond, List, [], ◌∷◌, Option, Some, None, length, map, zero, suc, refl, ap, sym, subst, ◌∙◌, arith, inl, inr}
use Rattle.std.specs.Prelude.{◌==◌}
use Rattle.std.proofs.lemmas.List.{length-map}
use Rattle.std.proofs.lemmas.List.Sums.{count_by-le-length}
use Rattle.std.proofs.lemmas.Bool.{cases_Bool}
use Rattle.std.proofs.lemmas.Option.{none-some}
use Rattle.mp_modules.proofs.KindLemmas.{few_inputs}
use Rattle.mp_records.specs.declared.module_record.ModuleRecord.{ModuleRecord}
use Rattle.mp_netlist.specs.Circuit.{Circuit, IsCircuit, module_at}
use Rattle.mp_netlist.specs.Slots.{slot_at}
use Rattle.mp_simulation.specs.bits.PortEvents.{source_of}
use Rattle.mp_kernel.specs.events.Adding.{listed}
use Rattle.mp_active.specs.excerpt.Numberings.{Numbering, ReadsNumbers}
use Rattle.mp_redo.specs.rerun.Numbered.{reads_asleep, readers_asleep}

module _ (active after : ℕ → Bool) (numbering : Numbering) (x : ℕ) where
  reads_alike : (m : ℕ) (slot : Option ModuleRecord) → after m ≡ active m → reads_asleep after numbering x m slot ≡ reads_asleep active numbering x m slot
  reads_alike m None same = refl
  reads_alike m (Some r) same = ap (λ b. cond b 0 (listed x (numbering.inputs m))) same

  readers_alike : (first : ℕ) (slots : List (Option ModuleRecord)) → ((q : ℕ) → first ≤ q → after q ≡ active q) → readers_asleep after numbering x first slots ≡ readers_asleep active numbering x first slots
  readers_alike first [] same = refl
  readers_alike first (slot ∷ slots) same =
      ap (λ k. k + readers_asleep after numbering x (first + 1) slots) (reads_alike first slot (same first (omega arith)))
      ∙ ap (λ k. reads_asleep active numbering x first slot + k) (readers_alike (first + 1) slots (λ q low. same q (omega (arith, low))))

  -- what is read by one module more
  module _ (m : ℕ) (r : ModuleRecord) (on : active m ≡ true) (off : after m ≡ false) (others : (q : ℕ) → q ≢ m → after q ≡ active q) where
    reads_more : (first : ℕ) (slot : Option ModuleRecord) → first ≡ m → slot ≡ Some r → reads_asleep after numbering x first slot ≡ reads_asleep active numbering x first slot + listed x (numbering.inputs m)
    reads_more first slot here at =
        let is : reads_asleep after numbering x first slot ≡ listed x (numbering.inputs m) =
        ap (reads_asleep after numbering x first) at ∙ ap (λ k. reads_asleep after numbering x k (Some r)) here ∙ ap (λ b. cond b 0 (listed x (numbering.inputs m))) off in
        let was : reads_asleep active numbering x first slot ≡ 0 =
        ap (reads_asleep active numbering x first) at ∙ ap (λ k. reads_asleep active numbering x k (Some r)) here ∙ ap (λ b. cond b 0 (listed x (numbering.inputs m))) on in
        omega (arith, is, was)

    pub readers_more : (first k : ℕ) (slots : List (Option ModuleRecord)) → first + k ≡ m → slot_at slots k ≡ Some r
        → readers_asleep after numbering x first slots ≡ readers_asleep active numbering x first slots + listed x (numbering.inputs m)
    readers_more first k [] here at = absurd (none-some r at)
    readers_more first zero (slot ∷ slots) here at =
        let one = reads_more first slot (omega (arith, here)) at in
        let rest = readers_alike (first + 1) slots (λ q low. others q (λ same. let no : ⊥ = omega (arith, low, same, here) in no)) in
        omega (arith, one, rest)
    readers_more first (suc k) (slot ∷ slots) here at =
        let one = reads_alike first slot (others first (λ same. let no : ⊥ = omega (arith, same, here) in no)) in
        let rest = readers_more (first + 1) k slots (omega (arith, here)) at in
        omega (arith, one, rest)

inputs_short : (n : Circuit) → IsCircuit n → (m : ℕ) (r : ModuleRecord) → module_at n m ≡ Some r → length r.inputs ≤ 4
inputs_short n ok m r at = let same = (ok.modules_ok m r at).inputs in let few = few_inputs r.kind in omega arith

-- what one module reads isn't much
pub read_few : (n : Circuit) → IsCircuit n → (numbering : Numbering) (x m : ℕ) (r : ModuleRecord) → module_at n m ≡ Some r → ReadsNumbers numbering m r → listed x (numbering.inputs m) ≤ 4
read_few n ok numbering x m r at reads =
    let most = count_by-le-length (λ d. d == x) (numbering.inputs m) in
    let one : length (map numbering.source (numbering.inputs m)) ≡ length (numbering.inputs m) = length-map (numbering.inputs m) numbering.source in
    let other : length (map source_of r.inputs) ≡ length r.inputs = length-map r.inputs source_of in
    let same : length (map numbering.source (numbering.inputs m)) ≡ length (map source_of r.inputs) = ap length reads in
    let short = inputs_short n ok m r at in
    omega (arith, most, one, other, same, short)

-- so all don't read much either
module _ (n : Circuit) (ok : IsCircuit n) (active : ℕ → Bool) (numbering : Numbering) (x : ℕ) (reads : (m : ℕ) (r : ModuleRecord) → module_at n m ≡ Some r → ReadsNumbers numbering m r) where
  reads_few : (m : ℕ) (slot : Option ModuleRecord) → module_at n m ≡ slot → reads_asleep active numbering x m slot ≤ 4
  reads_few m None at = omega arith
  reads_few m (Some r) at = elim (cases_Bool (active m)) as (λ _. cond (active m) 0 (listed x (numbering.inputs m)) ≤ 4) [
    | inl on ↦ subst (λ b. cond b 0 (listed x (numbering.inputs m)) ≤ 4) (sym on) (omega arith)
    | inr off ↦ subst (λ b. cond b 0 (listed x (numbering.inputs m)) ≤ 4) (sym off) (read_few n ok numbering x m r at (reads m r at))
  ]

  pub readers_few : (first : ℕ) (slots : List (Option ModuleRecord)) → ((k : ℕ) → k < length slots → module_at n (first + k) ≡ slot_at slots k) → readers_asleep active numbering x first slots ≤ 4 * length slots
  readers_few first [] are = omega arith
  readers_few first (slot ∷ slots) are =
      let here : module_at n first ≡ slot = let e : first + 0 ≡ first = omega arith in ap (module_at n) (sym e) ∙ are 0 (omega arith) in
      let one = reads_few first slot here in
      let rest = readers_few (first + 1) slots (λ k low. let e : first + suc k ≡ first + 1 + k = omega arith in ap (module_at n) (sym e) ∙ are (suc k) (omega (arith, low))) in
      omega (arith, one, rest)
