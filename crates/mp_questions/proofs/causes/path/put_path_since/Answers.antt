use Rattle.std.proofs.Common.{◌≡◌, ◌++◌, ℕ, Some, List, filter, refl, ap, sym, ◌∙◌}
use Rattle.std.specs.List.{flat_map}
use Rattle.mp_streams.proofs.OutLemmas.{puts_as, puts_none, puts_unmade}
use Rattle.mp_streams.specs.declared.write_error.WriteError.TheVariants.{WriteFailed, OutOfMemory}
use Rattle.mp_netlist.specs.Circuit.{Circuit}
use Rattle.mp_questions.specs.declared.causes.levels.Levels.{Levels}
use Rattle.mp_questions.specs.declared.causes.module_share.ModuleShare.{ModuleShare}
use Rattle.mp_questions.specs.causes.Changes.{last_change}
use Rattle.mp_questions.specs.timing.Ranges.{read_time}
use Rattle.mp_questions.specs.causes.Chains.{begin_of}
use Rattle.mp_questions.specs.causes.Shares.{shares_above, has_steps, by_units}
use Rattle.mp_questions.specs.causes.Paths.{before_line, share_line}
use Rattle.mp_questions.proofs.lemmas.causes.ChainLemmas.{rest}
use Rattle.mp_questions.proofs.lemmas.causes.AboveLemmas.{no_text, text_is}
use Rattle.mp_questions.proofs.lemmas.causes.WhyLemmas.{puts_ok, puts_text}
use Rattle.mp_questions.proofs.causes.path.put_path_since.Goals as goal

pub returns-in_default : goal.returns-in_default
returns-in_default g c =
    let n = c.args.netlist.now in
    let none = c.in_default.ensures.value ∙ ap (λ (k : Circuit). last_change k c.args.moment.wire (read_time k.horizon c.args.moment.time)) c.new-levels.ensures.netlist in
    puts_text (sym (no_text n c.new-levels.ensures.form c.args.moment c.args.from none)) (puts_none c.args.out.now)

pub returns-in_err-tracer : goal.returns-in_err-tracer
returns-in_err-tracer g c = puts_unmade _ OutOfMemory _ _ c.from_residual.ensures.1 refl

pub returns-in_err-found : goal.returns-in_err-found
returns-in_err-found g c = puts_unmade _ OutOfMemory _ _ c.from_residual-in_err-found.ensures.1 refl

pub returns-in_err-put_above : goal.returns-in_err-put_above
returns-in_err-put_above g c =
    let n = c.args.netlist.now in
    let last = c.in-Some.last in
    let f = c.read_time-since.result in
    let some = c.in-Some.ensures.value ∙ ap (λ (k : Circuit). last_change k c.args.moment.wire (read_time k.horizon c.args.moment.time)) c.new-levels.ensures.netlist in
    let same : c.in_ok-tracer.tracer.levels.netlist.now ≡ n = ap (λ (levels : Levels). levels.netlist.now) c.in_ok-tracer.ensures ∙ c.new-levels.ensures.netlist in
    let at : f ≡ read_time n.horizon c.args.from = c.read_time-since.ensures.value ∙ ap (λ (h : ℕ). read_time h c.args.from) c.horizon.ensures.value in
    let found = c.in_ok-found.ensures.value ∙ ap (λ (k : Circuit). shares_above k f (rest k (Some last))) same in
    let begin = c.in_ok-found.ensures.begin ∙ ap (λ (k : Circuit). begin_of k (rest k (Some last))) same in
    let list = c.as_slice.ensures.value ∙ c.by_units-shares.ensures ∙ ap (λ (ss : List ModuleShare). by_units (filter has_steps ss)) found in
    let text =
    ap (λ (ss : List ModuleShare). flat_map (share_line n) ss ++ before_line f c.in_ok-found.found.begin) list
    ∙ ap (λ (b : ℕ). flat_map (share_line n) (by_units (filter has_steps (shares_above n f (rest n (Some last))))) ++ before_line f b) begin
    ∙ ap (λ (t : ℕ). flat_map (share_line n) (by_units (filter has_steps (shares_above n t (rest n (Some last))))) ++ before_line t (begin_of n (rest n (Some last)))) at
    ∙ sym (text_is n c.new-levels.ensures.form c.args.moment c.args.from last c.in-Some.ensures.from some) in
    puts_as _ WriteFailed c.from_residual-in_err-put_above.ensures.1 refl (puts_text text c.in_err-put_above.ensures)

pub returns : goal.returns
returns g c =
    let n = c.args.netlist.now in
    let last = c.in-Some.last in
    let f = c.read_time-since.result in
    let some = c.in-Some.ensures.value ∙ ap (λ (k : Circuit). last_change k c.args.moment.wire (read_time k.horizon c.args.moment.time)) c.new-levels.ensures.netlist in
    let same : c.in_ok-tracer.tracer.levels.netlist.now ≡ n = ap (λ (levels : Levels). levels.netlist.now) c.in_ok-tracer.ensures ∙ c.new-levels.ensures.netlist in
    let at : f ≡ read_time n.horizon c.args.from = c.read_time-since.ensures.value ∙ ap (λ (h : ℕ). read_time h c.args.from) c.horizon.ensures.value in
    let found = c.in_ok-found.ensures.value ∙ ap (λ (k : Circuit). shares_above k f (rest k (Some last))) same in
    let begin = c.in_ok-found.ensures.begin ∙ ap (λ (k : Circuit). begin_of k (rest k (Some last))) same in
    let list = c.as_slice.ensures.value ∙ c.by_units-shares.ensures ∙ ap (λ (ss : List ModuleShare). by_units (filter has_steps ss)) found in
    let text =
    ap (λ (ss : List ModuleShare). flat_map (share_line n) ss ++ before_line f c.in_ok-found.found.begin) list
    ∙ ap (λ (b : ℕ). flat_map (share_line n) (by_units (filter has_steps (shares_above n f (rest n (Some last))))) ++ before_line f b) begin
    ∙ ap (λ (t : ℕ). flat_map (share_line n) (by_units (filter has_steps (shares_above n t (rest n (Some last))))) ++ before_line t (begin_of n (rest n (Some last)))) at
    ∙ sym (text_is n c.new-levels.ensures.form c.args.moment c.args.from last c.in-Some.ensures.from some) in
    puts_ok (puts_text text c.in_ok-put_above.ensures)
