-- The greatest of some numbers, one by one, and whether a bundle is busy.
use Rattle.std.proofs.Common.{◌≡◌, ◌≢◌, ℕ, ◌+◌, ◌<◌, true, false, not, List, [], ◌∷◌, ◌++◌, map, max, length, get_or, take, ap, sym, ◌∙◌, arith}
use Rattle.std.specs.Prelude.{codes}
use Rattle.std.specs.Fmt.{decimal}
use Rattle.std.specs.List.{range_with_len}
use Rattle.std.proofs.lemmas.List.{take_more, map-append}
use Rattle.std.proofs.lemmas.List.Sums.{fold-append}
use Rattle.mp_records.specs.declared.bundle_record.BundleRecord.{BundleRecord}
use Rattle.mp_records.specs.declared.ports.Input.{Input}
use Rattle.mp_netlist.specs.Circuit.{Circuit}
use Rattle.mp_model.specs.Findings.{is_busy}
use Rattle.mp_model.specs.Waves.{level}
use Rattle.mp_report.proofs.TimeLemmas.{times_more}
use Rattle.mp_questions.specs.timing.Events.{since}
use Rattle.mp_questions.proofs.lemmas.timing.EventLemmas.{same_true, same_false}
use Rattle.mp_check.specs.Dead.{last_unit}
use Rattle.mp_check.specs.Over.{busy_line, greatest}

pub greatest_next : (f : ℕ → ℕ) (k : ℕ) → greatest (map f (range_with_len 0 (k + 1))) ≡ max (greatest (map f (range_with_len 0 k))) (f k)
greatest_next f k =
    ap (λ l. greatest (map f l)) (times_more 0 k) ∙ ap greatest (map-append f (range_with_len 0 k) ((0 + k) ∷ []))
    ∙ fold-append max 0 (map f (range_with_len 0 k)) (f (0 + k) ∷ []) ∙ ap (λ j. max (greatest (map f (range_with_len 0 k))) (f j)) (let e : 0 + k ≡ k = omega arith in e)

pub longest_next : (inputs : List Input) (i : ℕ) (d : Input) → i < length inputs
    → greatest (map (λ (j : Input). j.delay) (take (i + 1) inputs)) ≡ max (greatest (map (λ (j : Input). j.delay) (take i inputs))) (get_or inputs i d).delay
longest_next inputs i d within =
    ap (λ l. greatest (map (λ (j : Input). j.delay) l)) (take_more inputs i d within) ∙ ap greatest (map-append (λ (j : Input). j.delay) (take i inputs) (get_or inputs i d ∷ []))
    ∙ fold-append max 0 (map (λ (j : Input). j.delay) (take i inputs)) ((get_or inputs i d).delay ∷ [])

-- ---- whether a bundle is busy, by the levels of its request and its acknowledge

pub busy_since : (n : Circuit) (b : BundleRecord) (name : List ℕ) (time : ℕ) → name ≡ b.name → time ≡ since (level n b.request.0) (last_unit n)
    → codes "note bundle " ++ (name ++ (codes " is busy since " ++ (decimal time ++ codes "\n"))) ≡ busy_line n b
busy_since n b name time named is =
    ap (λ l. codes "note bundle " ++ (l ++ (codes " is busy since " ++ (decimal time ++ codes "\n")))) named
    ∙ ap (λ u. codes "note bundle " ++ (b.name ++ (codes " is busy since " ++ (decimal u ++ codes "\n")))) is

module _ (n : Circuit) (b : BundleRecord) (t x y : ℕ) (requested : x ≡ level n b.request.0 t) (acknowledged : y ≡ level n b.acknowledge.0 t) where
  pub idle : x ≡ y → is_busy n b t ≡ false
  idle same = ap not (same_true (level n b.request.0 t) (level n b.acknowledge.0 t) (sym requested ∙ same ∙ acknowledged))

  pub busy : x ≢ y → is_busy n b t ≡ true
  busy differ = ap not (same_false (level n b.request.0 t) (level n b.acknowledge.0 t) (λ same. differ (requested ∙ same ∙ sym acknowledged)))
