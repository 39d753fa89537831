use Rattle.std.proofs.Common.{◌≡◌, ◌≢◌, ◌<◌, ℕ, List, suc, cond, Some, sym, ap, ◌∙◌, arith}
use Rattle.mp_modules.specs.CElement.{bubbled}
use Rattle.mp_modules.specs.Tables.{rendezvous}
use Rattle.mp_modules.specs.declared.kind.Kind.TheVariants as kinds
use Rattle.mp_modules.specs.declared.rendezvous.Rendezvous.{Rendezvous}
use Rattle.mp_records.specs.declared.module_record.ModuleRecord.{ModuleRecord}
use Rattle.mp_netlist.specs.Circuit.{Circuit, IsCircuit, IsModule, module_at}
use Rattle.mp_questions.specs.timing.Events.{since}
use Rattle.mp_questions.specs.timing.TimingLaws.{first_level, second_level}
use Rattle.mp_questions.specs.timing.Waits.{apart, given, heard}
use Rattle.mp_questions.proofs.lemmas.timing.ApartLemmas.{since_low}
use Rattle.mp_questions.proofs.lemmas.timing.HeldLemmas.{first_of_c, second_of_c, c_output, since_behind}
use Rattle.mp_questions.proofs.lemmas.timing.WaitLemmas.{agreed, first_missing, second_missing}
use Rattle.mp_questions.proofs.timing.missing.missing_input.Goals as goal

-- a level behind the bubble of a C
behind_a : (c : Rendezvous) (params own : List ℕ) (a v level : ℕ) → a ≡ bubbled c.bubble_a v → c ≡ rendezvous params → params ≡ own → v ≡ level → a ≡ bubbled (rendezvous own).bubble_a level
behind_a c params own a v level is made from at =
    is ∙ ap (λ (k : Rendezvous). bubbled k.bubble_a v) (made ∙ ap rendezvous from) ∙ ap (bubbled (rendezvous own).bubble_a) at

behind_b : (c : Rendezvous) (params own : List ℕ) (b v level : ℕ) → b ≡ bubbled c.bubble_b v → c ≡ rendezvous params → params ≡ own → v ≡ level → b ≡ bubbled (rendezvous own).bubble_b level
behind_b c params own b v level is made from at =
    is ∙ ap (λ (k : Rendezvous). bubbled k.bubble_b v) (made ∙ ap rendezvous from) ∙ ap (bubbled (rendezvous own).bubble_b) at

-- the output while the inputs differ
output_is : (n : Circuit) (m : ℕ) (r : ModuleRecord) (t s out : ℕ) (c : Rendezvous) → IsCircuit n → IsModule n r → module_at n m ≡ Some r → r.kind ≡ kinds.C → c ≡ rendezvous r.params → first_level n r t ≢ second_level n r t
    → t < n.horizon → s ≡ since (apart (heard n r 0) (heard n r 1)) t → (s ≡ 0 → out ≡ cond c.initial 1 0) → ((e : ℕ) → s ≡ suc e → e < n.horizon → out ≡ bubbled c.bubble_a (heard n r 0 e)) → out ≡ given n m 0 t
output_is n m r t s out c ok form stands kind made differ within s_is never last =
    let a = rendezvous r.params in
    let behind = since_behind (heard n r 0) (heard n r 1) (first_of_c n ok r form kind) (second_of_c n ok r form kind) a.bubble_a a.bubble_b t in
    let low = since_low (apart (heard n r 0) (heard n r 1)) t in
    c_output n m r ok stands kind t differ s out (s_is ∙ sym behind) (λ none. never none ∙ ap (λ (k : Rendezvous). cond k.initial 1 0) made)
    (λ e some. last e some (omega (arith, some, s_is, low, within)) ∙ ap (λ (k : Rendezvous). bubbled k.bubble_a (heard n r 0 e)) made)

pub returns-then-a-b-clause-value : goal.returns-then-a-b-clause-value
returns-then-a-b-clause-value c m stands =
    let at = c.args.at.now in
    let n = at.netlist.now in
    let r = c.args.found.now in
    let t = at.time in
    let hears = c.of-ears.ensures in
    let bubbles = c.from_params-bubbles.result in
    let params = c.as_slice.result.now in
    let is_a = behind_a bubbles params r.params c.bubbled-a.result c.level_at.result (heard n r 0 t) c.bubbled-a.ensures c.from_params-bubbles.ensures c.as_slice.ensures (c.level_at.ensures (heard n r 0) n.horizon hears.first at.within) in
    let is_b = behind_b bubbles params r.params c.bubbled-b.result c.level_at-2.result (heard n r 1 t) c.bubbled-b.ensures c.from_params-bubbles.ensures c.as_slice.ensures (c.level_at-2.ensures (heard n r 1) n.horizon hears.second at.within) in
    agreed n m r t c.bubbled-a.result c.bubbled-b.result is_a is_b c.if-a-b.true

pub returns-then-a-output-clause-value : goal.returns-then-a-output-clause-value
returns-then-a-output-clause-value c m stands =
    let at = c.args.at.now in
    let n = at.netlist.now in
    let r = c.args.found.now in
    let t = at.time in
    let hears = c.of-ears.ensures in
    let bubbles = c.from_params-bubbles.result in
    let params = c.as_slice.result.now in
    let is_a = behind_a bubbles params r.params c.bubbled-a.result c.level_at.result (heard n r 0 t) c.bubbled-a.ensures c.from_params-bubbles.ensures c.as_slice.ensures (c.level_at.ensures (heard n r 0) n.horizon hears.first at.within) in
    let is_b = behind_b bubbles params r.params c.bubbled-b.result c.level_at-2.result (heard n r 1 t) c.bubbled-b.ensures c.from_params-bubbles.ensures c.as_slice.ensures (c.level_at-2.ensures (heard n r 1) n.horizon hears.second at.within) in
    let made = c.from_params-bubbles.ensures ∙ ap rendezvous c.as_slice.ensures in
    let ok = c.horizon-horizon.ensures.form in
    let s_is =
    c.apart_since-since_apart.ensures (heard n r 0) (heard n r 1) n.horizon hears.first hears.second at.within (first_of_c n ok r c.requires.form c.requires.kind)
    (second_of_c n ok r c.requires.form c.requires.kind) in
    let output =
    output_is n m r t c.apart_since-since_apart.result c.joined_before-output.result bubbles ok c.requires.form stands c.requires.kind made (λ same. c.if-a-b.false (is_a ∙ same ∙ sym is_b)) at.within s_is
    c.joined_before-output.ensures.first (λ e some below. c.joined_before-output.ensures.later (heard n r 0) n.horizon e hears.first some below) in
    first_missing n m r t c.bubbled-a.result c.bubbled-b.result is_a is_b c.if-a-b.false c.joined_before-output.result output c.if-a-output.true

pub returns-clause-value : goal.returns-clause-value
returns-clause-value c m stands =
    let at = c.args.at.now in
    let n = at.netlist.now in
    let r = c.args.found.now in
    let t = at.time in
    let hears = c.of-ears.ensures in
    let bubbles = c.from_params-bubbles.result in
    let params = c.as_slice.result.now in
    let is_a = behind_a bubbles params r.params c.bubbled-a.result c.level_at.result (heard n r 0 t) c.bubbled-a.ensures c.from_params-bubbles.ensures c.as_slice.ensures (c.level_at.ensures (heard n r 0) n.horizon hears.first at.within) in
    let is_b = behind_b bubbles params r.params c.bubbled-b.result c.level_at-2.result (heard n r 1 t) c.bubbled-b.ensures c.from_params-bubbles.ensures c.as_slice.ensures (c.level_at-2.ensures (heard n r 1) n.horizon hears.second at.within) in
    let made = c.from_params-bubbles.ensures ∙ ap rendezvous c.as_slice.ensures in
    let ok = c.horizon-horizon.ensures.form in
    let s_is =
    c.apart_since-since_apart.ensures (heard n r 0) (heard n r 1) n.horizon hears.first hears.second at.within (first_of_c n ok r c.requires.form c.requires.kind)
    (second_of_c n ok r c.requires.form c.requires.kind) in
    let output =
    output_is n m r t c.apart_since-since_apart.result c.joined_before-output.result bubbles ok c.requires.form stands c.requires.kind made (λ same. c.if-a-b.false (is_a ∙ same ∙ sym is_b)) at.within s_is
    c.joined_before-output.ensures.first (λ e some below. c.joined_before-output.ensures.later (heard n r 0) n.horizon e hears.first some below) in
    second_missing n m r t c.bubbled-a.result c.bubbled-b.result is_a is_b c.if-a-b.false c.joined_before-output.result output c.if-a-output.false
