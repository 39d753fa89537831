-- What becomes of a module, unit by unit, and since when its levels are what they are.
use Rattle.std.proofs.Common.{◌≡◌, ℕ, ◌+◌, ◌≤◌, Bool, true, false, not, cond, ◌==◌, List, Option, Some, zero, suc, refl, sym, ap, subst, ◌∙◌, add-one, arith}
use Rattle.std.specs.Prelude.{unwrap_or}
use Rattle.mp_modules.specs.declared.memory.Memory.{Memory}
use Rattle.mp_modules.specs.declared.memory.Client.TheVariants.{First, Second}
use Rattle.mp_modules.specs.Memories.{input_levels, output_of}
use Rattle.mp_modules.specs.storage.AnyModules.{settle, step}
use Rattle.mp_modules.specs.storage.QuietAny.{settled_stays, stepped_stays}
use Rattle.mp_modules.specs.declared.storage.any_module.AnyModule.{AnyModule}
use Rattle.mp_records.specs.declared.module_record.ModuleRecord.{ModuleRecord}
use Rattle.mp_netlist.specs.Circuit.{Circuit, IsCircuit, module_at}
use Rattle.mp_model.specs.Levels.{built, inputs_by}
use Rattle.mp_model.specs.Waves.{level, state}
use Rattle.mp_model.proofs.BehaviourLemmas.{satisfies}
use Rattle.mp_model.proofs.StepLemmas.{step_padded, settle_padded}
use Rattle.mp_questions.specs.timing.Events.{last_event, since}
use Rattle.mp_questions.specs.timing.Waits.{given, waiting}
use Rattle.mp_questions.specs.timing.Hearing.{marked, bit, no_marks, IsWatch}
use Rattle.mp_questions.specs.declared.timing.marks.Marks.{Marks}
use Rattle.mp_questions.specs.declared.timing.client_watch.ClientWatch.{ClientWatch}
use Rattle.mp_questions.proofs.lemmas.timing.EventLemmas.{no_event, last_quiet}

-- ---- since when, one unit further

marked_by : (b : Bool) (last t : ℕ) (o : Option ℕ) → last ≡ unwrap_or o 0 → cond b last t ≡ unwrap_or (cond (not b) (Some t) o) 0
marked_by true last t o is = is
marked_by false last t o is = refl

pub since_next : (f : ℕ → ℕ) (t last : ℕ) → last ≡ since f t → marked last (t + 1) (f t) (f (t + 1)) ≡ since f (t + 1)
since_next f t last is = subst (λ (k : ℕ). marked last k (f t) (f k) ≡ since f k) (sym (add-one t)) (marked_by (f t == f (suc t)) last (suc t) (last_event f t) is)

pub since_stays : (f : ℕ → ℕ) (t : ℕ) → f (t + 1) ≡ f t → since f t ≡ since f (t + 1)
since_stays f t same = ap (λ (o : Option ℕ). unwrap_or o 0) (sym (last_quiet f t (no_event f t (sym same))))

-- marks that moved a unit further, from one state to another
pub record HaveMoved (t : ℕ) (before now : Memory) (old new : Marks) : Type 0 where
  pub first_output : new.first_output ≡ marked old.first_output t (output_of before 0) (output_of now 0)
  pub second_output : new.second_output ≡ marked old.second_output t (output_of before 1) (output_of now 1)
  pub third_output : new.third_output ≡ marked old.third_output t (output_of before 2) (output_of now 2)
  pub first_waiting : new.first_waiting ≡ marked old.first_waiting t (bit before.waiting.first) (bit now.waiting.first)
  pub second_waiting : new.second_waiting ≡ marked old.second_waiting t (bit before.waiting.second) (bit now.waiting.second)

module _ (n : Circuit) (ok : IsCircuit n) (m : ℕ) (r : ModuleRecord) (at : module_at n m ≡ Some r) where
  abbrev part : AnyModule
  part = built n r

  abbrev x : ℕ → List ℕ
  x t = inputs_by n (level n) r t

  again : (t : ℕ) → step part (state n m t) (x t) ≡ state n m t
  again zero =
      let first = (satisfies n ok).settled m r at in
      ap (λ (s : Memory). step part s (x 0)) first ∙ settled_stays part (x 0) ∙ sym first
  again (suc t) =
      let last : state n m (suc t) ≡ step part (state n m t) (x (suc t)) = subst (λ (k : ℕ). state n m k ≡ step part (state n m t) (x k)) (add-one t) ((satisfies n ok).stepped m t r at) in
      ap (λ (s : Memory). step part s (x (suc t))) last ∙ stepped_stays part (state n m t) (x (suc t)) ∙ sym last

  -- where the inputs stay, the state stays
  pub state_stays : (t : ℕ) → input_levels (x (t + 1)) ≡ input_levels (x t) → state n m (t + 1) ≡ state n m t
  state_stays t same =
      (satisfies n ok).stepped m t r at ∙ sym (step_padded part (state n m t) (x (t + 1))) ∙ ap (step part (state n m t)) same ∙ step_padded part (state n m t) (x t) ∙ again t

  -- ---- a watch

  pub watch_first : (w : ClientWatch) → w.memory ≡ settle part (input_levels (x 0)) → w.marks ≡ no_marks → IsWatch n m r 0 w
  watch_first w memory none = record {
    memory = memory ∙ settle_padded part (x 0) ∙ sym ((satisfies n ok).settled m r at);
    marks = record {
      first_output = ap (λ (k : Marks). k.first_output) none;
      second_output = ap (λ (k : Marks). k.second_output) none;
      third_output = ap (λ (k : Marks). k.third_output) none;
      first_waiting = ap (λ (k : Marks). k.first_waiting) none;
      second_waiting = ap (λ (k : Marks). k.second_waiting) none;
    };
  }

  mark_is : (look : Memory → ℕ) (f : ℕ → ℕ) (t last new : ℕ) (before now : Memory) → before ≡ state n m t → now ≡ state n m (t + 1) → ((u : ℕ) → look (state n m u) ≡ f u)
      → last ≡ since f t → new ≡ marked last (t + 1) (look before) (look now) → new ≡ since f (t + 1)
  mark_is look f t last new before now was is looks known moved =
      moved ∙ ap (λ v. marked last (t + 1) v (look now)) (ap look was ∙ looks t) ∙ ap (marked last (t + 1) (f t)) (ap look is ∙ looks (t + 1)) ∙ since_next f t last known

  watch_next : (t : ℕ) (w new : ClientWatch) → IsWatch n m r t w → new.memory ≡ step part w.memory (input_levels (x (t + 1))) → HaveMoved (t + 1) w.memory new.memory w.marks new.marks → IsWatch n m r (t + 1) new
  watch_next t w new is stepped moved =
      let was = is.memory in
      let now : new.memory ≡ state n m (t + 1) =
      stepped ∙ ap (λ (s : Memory). step part s (input_levels (x (t + 1)))) was ∙ step_padded part (state n m t) (x (t + 1)) ∙ sym ((satisfies n ok).stepped m t r at) in
      record {
        memory = now;
        marks = record {
          first_output = mark_is (λ (s : Memory). output_of s 0) (given n m 0) t w.marks.first_output new.marks.first_output w.memory new.memory was now (λ u. refl) is.marks.first_output moved.first_output;
          second_output = mark_is (λ (s : Memory). output_of s 1) (given n m 1) t w.marks.second_output new.marks.second_output w.memory new.memory was now (λ u. refl) is.marks.second_output moved.second_output;
          third_output = mark_is (λ (s : Memory). output_of s 2) (given n m 2) t w.marks.third_output new.marks.third_output w.memory new.memory was now (λ u. refl) is.marks.third_output moved.third_output;
          first_waiting = mark_is (λ (s : Memory). bit s.waiting.first) (waiting n m First) t w.marks.first_waiting new.marks.first_waiting w.memory new.memory was now (λ u. refl) is.marks.first_waiting moved.first_waiting;
          second_waiting = mark_is (λ (s : Memory). bit s.waiting.second) (waiting n m Second) t w.marks.second_waiting new.marks.second_waiting w.memory new.memory was now (λ u. refl) is.marks.second_waiting moved.second_waiting;
        };
      }

  pub watch_turn : (t time : ℕ) (w new : ClientWatch) → t + 1 ≡ time → IsWatch n m r t w → new.memory ≡ step part w.memory (input_levels (x time)) → HaveMoved time w.memory new.memory w.marks new.marks → IsWatch n m r time new
  watch_turn t time w new next is stepped moved =
      subst (λ (k : ℕ). new.memory ≡ step part w.memory (input_levels (x k)) → HaveMoved k w.memory new.memory w.marks new.marks → IsWatch n m r k new) next (watch_next t w new is) stepped moved

  look_stays : (look : Memory → ℕ) (f : ℕ → ℕ) (t last : ℕ) → state n m (t + 1) ≡ state n m t → ((u : ℕ) → look (state n m u) ≡ f u) → last ≡ since f t → last ≡ since f (t + 1)
  look_stays look f t last same looks known = known ∙ since_stays f t (sym (looks (t + 1)) ∙ ap look same ∙ looks t)

  watch_stays : (t : ℕ) (w : ClientWatch) → input_levels (x (t + 1)) ≡ input_levels (x t) → IsWatch n m r t w → IsWatch n m r (t + 1) w
  watch_stays t w quiet is =
      let same = state_stays t quiet in
      record {
        memory = is.memory ∙ sym same;
        marks = record {
          first_output = look_stays (λ (s : Memory). output_of s 0) (given n m 0) t w.marks.first_output same (λ u. refl) is.marks.first_output;
          second_output = look_stays (λ (s : Memory). output_of s 1) (given n m 1) t w.marks.second_output same (λ u. refl) is.marks.second_output;
          third_output = look_stays (λ (s : Memory). output_of s 2) (given n m 2) t w.marks.third_output same (λ u. refl) is.marks.third_output;
          first_waiting = look_stays (λ (s : Memory). bit s.waiting.first) (waiting n m First) t w.marks.first_waiting same (λ u. refl) is.marks.first_waiting;
          second_waiting = look_stays (λ (s : Memory). bit s.waiting.second) (waiting n m Second) t w.marks.second_waiting same (λ u. refl) is.marks.second_waiting;
        };
      }

  -- over so many units in which the inputs stay
  pub watch_later : (k t : ℕ) (w : ClientWatch) → ((u : ℕ) → t ≤ u → u ≤ t + k → input_levels (x u) ≡ input_levels (x t)) → IsWatch n m r t w → IsWatch n m r (t + k) w
  watch_later zero t w quiet is = let same : t ≡ t + 0 = omega arith in subst (λ (u : ℕ). IsWatch n m r u w) same is
  watch_later (suc k) t w quiet is =
      let same : t + k + 1 ≡ t + suc k = omega arith in
      subst (λ (u : ℕ). IsWatch n m r u w) same
      (watch_stays (t + k) w (quiet (t + k + 1) (omega arith) (omega arith) ∙ sym (quiet (t + k) (omega arith) (omega arith)))
      (watch_later k t w (λ u low high. quiet u low (omega (arith, high))) is))
