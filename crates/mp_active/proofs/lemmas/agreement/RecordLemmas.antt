-- Records of modules that aren't different are one.
use Rattle.std.proofs.Common.{◌≡◌, ◌≢◌, ℕ, List, [], ◌∷◌, refl, ap, ◌∙◌, sym, inl, inr}
use Rattle.std.specs.Prelude.{Option, None, Some}
use Rattle.std.proofs.lemmas.Bool.{cases_eq}
use Rattle.mp_modules.specs.declared.kind.Kind.{Kind}
use Rattle.mp_modules.specs.Kinds.{kind_named, word_of}
use Rattle.mp_modules.proofs.WordLemmas.{by_word}
use Rattle.mp_records.specs.declared.ids.WireId.{WireId}
use Rattle.mp_records.specs.declared.ports.Input.{Input}
use Rattle.mp_records.specs.declared.ports.Output.{Output}
use Rattle.mp_records.specs.declared.module_record.ModuleRecord.{ModuleRecord}
use Rattle.mp_depend.proofs.lemmas.work.SameLemmas.{same, same_lists}

-- two things of a kind that aren't different are one
abbrev pub AreTold : Type 0 → Type 0
AreTold A = (x y : A) → (x ≢ y → ⊥) → x ≡ y

-- what is told of a part
part_of : {A B : Type 0} (f : A → B) → AreTold B → (x y : A) → (x ≢ y → ⊥) → f x ≡ f y
part_of f told x y not = told (f x) (f y) (λ differ. not (λ e. differ (ap f e)))

one_number : AreTold ℕ
one_number x y not = elim (cases_eq x y) as (λ _. x ≡ y) [
  | inl e ↦ e
  | inr differ ↦ absurd (not differ)
]

one_text : AreTold (List ℕ)
one_text x y not = same x y (same_lists x y) not

one_kind : AreTold Kind
one_kind x y not =
    let word = part_of word_of one_text x y not in
    let named : Some x ≡ Some y = sym (by_word x) ∙ ap kind_named word ∙ by_word y in
    cc

one_option : {A : Type 0} → AreTold A → AreTold (Option A)
one_option told None None not = refl
one_option told None (Some y) not = absurd (not (λ e. cc))
one_option told (Some x) None not = absurd (not (λ e. cc))
one_option told (Some x) (Some y) not = ap (λ z. Some z) (told x y (λ differ. not (λ e. differ (cc))))

one_list : {A : Type 0} → AreTold A → AreTold (List A)
one_list told [] [] not = refl
one_list told [] (y ∷ ys) not = absurd (not (λ e. cc))
one_list told (x ∷ xs) [] not = absurd (not (λ e. cc))
one_list told (x ∷ xs) (y ∷ ys) not =
    ap (λ z. z ∷ xs) (told x y (λ differ. not (λ e. differ (cc)))) ∙ ap (λ zs. y ∷ zs) (one_list told xs ys (λ differ. not (λ e. differ (cc))))

abbrev wire_of : ℕ → WireId
wire_of w = record { 0 = w }

one_wire : AreTold WireId
one_wire x y not = ap wire_of (part_of (λ (w : WireId). w.0) one_number x y not)

abbrev input_of : WireId → ℕ → Input
input_of wire delay = record { wire = wire; delay = delay }

one_input : AreTold Input
one_input x y not =
    ap (λ w. input_of w x.delay) (part_of (λ (i : Input). i.wire) one_wire x y not) ∙ ap (input_of y.wire) (part_of (λ (i : Input). i.delay) one_number x y not)

abbrev output_of : Option WireId → ℕ → Output
output_of wire delay = record { wire = wire; delay = delay }

one_output : AreTold Output
one_output x y not =
    ap (λ w. output_of w x.delay) (part_of (λ (o : Output). o.wire) (one_option one_wire) x y not) ∙ ap (output_of y.wire) (part_of (λ (o : Output). o.delay) one_number x y not)

abbrev module_of : List ℕ → Kind → List ℕ → List Input → List Output → ModuleRecord
module_of name kind params ins outs = record { name = name; kind = kind; params = params; inputs = ins; outputs = outs }

one_module : AreTold ModuleRecord
one_module x y not =
    ap (λ name. module_of name x.kind x.params x.inputs x.outputs) (part_of (λ (r : ModuleRecord). r.name) one_text x y not)
    ∙ ap (λ kind. module_of y.name kind x.params x.inputs x.outputs) (part_of (λ (r : ModuleRecord). r.kind) one_kind x y not)
    ∙ ap (λ params. module_of y.name y.kind params x.inputs x.outputs) (part_of (λ (r : ModuleRecord). r.params) one_text x y not)
    ∙ ap (λ ins. module_of y.name y.kind y.params ins x.outputs) (part_of (λ (r : ModuleRecord). r.inputs) (one_list one_input) x y not)
    ∙ ap (module_of y.name y.kind y.params y.inputs) (part_of (λ (r : ModuleRecord). r.outputs) (one_list one_output) x y not)

pub one_slot : AreTold (Option ModuleRecord)
one_slot = one_option one_module
