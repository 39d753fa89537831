-- The runs of parts, each from its own thread.
use Rattle.std.proofs.Common.{◌≡◌, ℕ, ◌+◌, ◌<◌, Bool, List, [], ◌∷◌, ◌++◌, length, slice_index_or, refl, sym, ap, ◌∙◌, subst, arith, inl, inr}
use Rattle.std.proofs.lemmas.Bool.{cases_lt}
use Rattle.std.proofs.lemmas.List.{get_or_push, get_or_append_left, length_push}
use Rattle.mp_netlist.specs.Circuit.{Circuit}
use Rattle.mp_partition.specs.declared.regions.division.Division.{Division}
use Rattle.mp_partition.specs.regions.Regions.{region}
use Rattle.mp_partition.specs.regions.Divisions.{heard_by}
use Rattle.mp_partition.specs.declared.merging.part_run.PartRun.{PartRun}
use Rattle.mp_partition.specs.merging.PartRuns.{IsPartRun, AreRuns}
use Rattle.mp_engine.specs.declared.part_of.PartOf.{PartOf}
use Rattle.mp_engine.specs.PartsOf.{AreOthers, IsOther, IsRunOf}

-- the first parts have given their runs, and the others are still to
pub record AreJoined (n : Circuit) (division : Division) (keeps : Bool) (others : List PartOf) (runs : List PartRun) : Type 0 where
  pub count : length runs + length others ≡ division.parts
  pub others_are : AreOthers n division keeps others
  pub each : (k : ℕ) (d : PartRun) → k < length runs → IsPartRun (region n division.homes.items k (heard_by division.heard.items k)) keeps (slice_index_or runs k d)

run_at : (n : Circuit) (division : Division) (keeps : Bool) (k : ℕ) (it : PartOf) (run : PartRun) → it.netlist.now ≡ n → it.division.now ≡ division → it.part ≡ k → it.keeps ≡ keeps → IsRunOf it run
    → IsPartRun (region n division.homes.items k (heard_by division.heard.items k)) keeps run
run_at n division keeps k it run netlist same part keeps_is is =
    subst (λ b. IsPartRun (region n division.homes.items k (heard_by division.heard.items k)) b run) keeps_is
    (subst (λ p. IsPartRun (region n division.homes.items p (heard_by division.heard.items p)) it.keeps run) part
    (subst (λ (d : Division). IsPartRun (region n d.homes.items it.part (heard_by d.heard.items it.part)) it.keeps run) same
    (subst (λ (m : Circuit). IsPartRun (region m it.division.now.homes.items it.part (heard_by it.division.now.heard.items it.part)) it.keeps run) netlist is)))

pub first_joined : (n : Circuit) (division : Division) (keeps : Bool) (others : List PartOf) (runs : List PartRun) (first : PartRun) → runs ≡ first ∷ [] → length others + 1 ≡ division.parts
    → IsPartRun (region n division.homes.items 0 (heard_by division.heard.items 0)) keeps first → AreOthers n division keeps others → AreJoined n division keeps others runs
first_joined n division keeps others runs first is count first_is others_are = record {
  count = let one = ap (length {A = PartRun}) is in omega (arith, one, count);
  others_are = others_are;
  each = λ k d low.
      let one : length runs ≡ 1 = ap (length {A = PartRun}) is in
      let zeroth : 0 ≡ k = omega (arith, low, one) in
      subst (λ p. IsPartRun (region n division.homes.items p (heard_by division.heard.items p)) keeps (slice_index_or runs p d)) zeroth
      (subst (λ (xs : List PartRun). IsPartRun (region n division.homes.items 0 (heard_by division.heard.items 0)) keeps (slice_index_or xs 0 d)) (sym is) first_is);
}

-- the next is the last of the others
pub one_joined : (n : Circuit) (division : Division) (keeps : Bool) (others rest : List PartOf) (runs more : List PartRun) (it : PartOf) (run : PartRun) → others ≡ rest ++ it ∷ [] → more ≡ runs ++ run ∷ [] → IsRunOf it run
    → AreJoined n division keeps others runs → AreJoined n division keeps rest more
one_joined n division keeps others rest runs more it run left got is before =
    let fewer : length others ≡ length rest + 1 = ap (length {A = PartOf}) left ∙ length_push rest it in
    let longer : length more ≡ length runs + 1 = ap (length {A = PartRun}) got ∙ length_push runs run in
    let count = before.count in
    let at : slice_index_or others (length rest) it ≡ it = ap (λ (xs : List PartOf). slice_index_or xs (length rest) it) left ∙ get_or_push rest it it (length rest) refl in
    let last : IsOther n division keeps (length rest) it = subst (λ (x : PartOf). IsOther n division keeps (length rest) x) at (before.others_are (length rest) it (omega (arith, fewer))) in
    let part = last.part in
    let here : it.part ≡ length runs = omega (arith, part, count, fewer) in
    record {
      count = omega (arith, count, fewer, longer);
      others_are = λ k d low.
          subst (λ (x : PartOf). IsOther n division keeps k x) (ap (λ (xs : List PartOf). slice_index_or xs k d) left ∙ get_or_append_left rest (it ∷ []) d k low) (before.others_are k d (omega (arith, low, fewer)));
      each = λ k d low. elim (cases_lt k (length runs)) as (λ _. IsPartRun (region n division.homes.items k (heard_by division.heard.items k)) keeps (slice_index_or more k d)) [
        | inl earlier ↦
            subst (λ (x : PartRun). IsPartRun (region n division.homes.items k (heard_by division.heard.items k)) keeps x) (sym (ap (λ (xs : List PartRun). slice_index_or xs k d) got ∙ get_or_append_left runs (run ∷ []) d k earlier)) (before.each k d earlier)
        | inr past ↦
            let now : length runs ≡ k = omega (arith, past, low, longer) in
            subst (λ (x : PartRun). IsPartRun (region n division.homes.items k (heard_by division.heard.items k)) keeps x) (sym (ap (λ (xs : List PartRun). slice_index_or xs k d) got ∙ get_or_push runs run d k now))
            (run_at n division keeps k it run last.netlist last.division_is (here ∙ now) last.keeps_is is)
      ];
    }

pub all_joined : (n : Circuit) (division : Division) (keeps : Bool) (others : List PartOf) (runs : List PartRun) → length others ≡ 0 → AreJoined n division keeps others runs → AreRuns n division.homes.items division.heard.items division.parts keeps runs
all_joined n division keeps others runs none are = record {
  places = let count = are.count in omega (arith, count, none);
  each = λ k d low. are.each k d (let count = are.count in omega (arith, count, none, low));
}

-- one more of the others
pub one_other : (n : Circuit) (division : Division) (keeps : Bool) (others more : List PartOf) (it : PartOf) → more ≡ others ++ it ∷ [] → IsOther n division keeps (length others) it → AreOthers n division keeps others → AreOthers n division keeps more
one_other n division keeps others more it is last before k d low = elim (cases_lt k (length others)) as (λ _. IsOther n division keeps k (slice_index_or more k d)) [
  | inl earlier ↦ subst (λ (x : PartOf). IsOther n division keeps k x) (sym (ap (λ (xs : List PartOf). slice_index_or xs k d) is ∙ get_or_append_left others (it ∷ []) d k earlier)) (before k d earlier)
  | inr past ↦
      let longer = ap (length {A = PartOf}) is ∙ length_push others it in
      let now : length others ≡ k = omega (arith, past, low, longer) in
      subst (λ (x : PartOf). IsOther n division keeps k x) (sym (ap (λ (xs : List PartOf). slice_index_or xs k d) is ∙ get_or_push others it d k now)) (subst (λ j. IsOther n division keeps j it) now last)
]
