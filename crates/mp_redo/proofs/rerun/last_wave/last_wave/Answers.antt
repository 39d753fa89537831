use Rattle.std.proofs.Common.{◌≡◌, ℕ, ◌+◌, ◌-◌, ◌<◌, ◌^◌, List, [], Some, None, length, slice_index_or, ap, sym, subst, ◌∙◌, arith}
use Rattle.std.proofs.lemmas.List.{get_or_default}
use Rattle.std.proofs.lemmas.Option.{same_Some}
use Rattle.mp_wave.specs.Waveform.{Waveform, level_of}
use Rattle.mp_wave.specs.Building.{Building}
use Rattle.mp_records.specs.declared.module_record.ModuleRecord.{ModuleRecord}
use Rattle.mp_records.specs.declared.ports.Output.{Output}
use Rattle.mp_records.specs.Outputs.{output_in, output_at, delay_of}
use Rattle.mp_netlist.proofs.LimitLemmas.{horizon_within}
use Rattle.mp_model.specs.Tracks.{AreTimesIn, unchanged, held_all}
use Rattle.mp_model.specs.Waves.{level}
use Rattle.mp_model.specs.response.Pieces.{put_off}
use Rattle.mp_active.specs.compare.Comparing.{old_wave}
use Rattle.mp_active.proofs.lemmas.agreement.SourceLemmas.{drove, output_stands}
use Rattle.mp_redo.proofs.lemmas.rerun.OldStateLemmas.{old_level}
use Rattle.mp_redo.proofs.lemmas.rerun.LastLemmas.{port_count, output_delay, times_later, last_levels}
use Rattle.mp_redo.proofs.rerun.last_wave.last_wave.Goals as goal

-- the output at a port, read from a slice that has the record's outputs
read_at : (items outputs : List Output) (p : ℕ) → items ≡ outputs → p < length outputs → output_in outputs p ≡ slice_index_or items p (record { wire = None; delay = 0 })
read_at items outputs p same inside =
    get_or_default outputs p (record { wire = None; delay = 1 }) (record { wire = None; delay = 0 }) inside ∙ ap (λ (xs : List Output). slice_index_or xs p (record { wire = None; delay = 0 })) (sym same)

-- the changes at a port, read from a slice that has them
read_changes : (ports outputs : List (List (ℕ × ℕ))) (p : ℕ) (here changes : List (ℕ × ℕ)) → ports ≡ outputs → p < length ports → here ≡ slice_index_or ports p here → changes ≡ here → changes ≡ slice_index_or outputs p []
read_changes ports outputs p here changes same inside is e = e ∙ is ∙ get_or_default ports p here [] inside ∙ ap (λ (xs : List (List (ℕ × ℕ))). slice_index_or xs p []) same

pub bounds-ports-port : goal.bounds-ports-port
bounds-ports-port c =
    let is = c.requires.change in
    let count = port_count c.args.change.now.old.now is.old_form c.args.id.0 c.saturating_sub-first.result (c.args.now + 1) c.args.found.now c.in_ok-piece.piece c.requires.kept.before c.in_ok-piece.ensures in
    let port = c.requires.port in
    subst (λ (xs : List (List (ℕ × ℕ))). c.args.port < length xs) (sym c.ports-ports.ensures) (omega (arith, count, port))

pub hold_later-held-requires : goal.hold_later-held-requires
hold_later-held-requires c =
    let old = c.args.change.now.old.now in
    let is = c.requires.change in
    let id = c.args.id.0 in
    let r = c.args.found.now in
    let p = c.args.port in
    let piece = c.in_ok-piece.piece in
    let first = c.saturating_sub-first.result in
    let count = port_count old is.old_form id first (c.args.now + 1) r piece c.requires.kept.before c.in_ok-piece.ensures in
    let port = c.requires.port in
    let delay = output_delay old is.old_form id p r c.requires.kept.before port in
    let some = delay.0 in
    let short = delay.1 in
    let most = horizon_within c.args.change.now.new.now is.form in
    let below = c.requires.below in
    let long = c.requires.long in
    let same = is.revision.horizon in
    let read = read_at c.as_slice-outputs.result.now r.outputs p c.as_slice-outputs.ensures port in
    let late : delay_of r p ≡ (slice_index_or c.as_slice-outputs.result.now p (record { wire = None; delay = 0 })).delay = ap (λ (o : Output). o.delay) read in
    let end = c.horizon-horizon.ensures.value in
    let begins = c.saturating_sub-first.ensures in
    let inside : p < length c.ports-ports.result.now = subst (λ (xs : List (List (ℕ × ℕ))). p < length xs) (sym c.ports-ports.ensures) (omega (arith, count, port)) in
    let changes = read_changes c.ports-ports.result.now piece.outputs p c.index-ports-port.result c.as_slice.result.now c.ports-ports.ensures inside c.index-ports-port.is c.as_slice.ensures in
    subst (λ k. AreTimesIn k (2 ^ 32 - 1) (put_off (slice_index_or c.as_slice-outputs.result.now p (record { wire = None; delay = 0 })).delay c.as_slice.result.now)) (sym (ap (λ (b : Building). b.next) c.new-wave.ensures))
    (subst (λ (xs : List (ℕ × ℕ)). AreTimesIn 1 (2 ^ 32 - 1) (put_off (slice_index_or c.as_slice-outputs.result.now p (record { wire = None; delay = 0 })).delay xs)) (sym changes)
    (subst (λ d. AreTimesIn 1 (2 ^ 32 - 1) (put_off d (slice_index_or piece.outputs p []))) late
    (times_later old is.old_form id p c.args.now first r piece c.requires.kept.before some (omega (arith, most, below, short)) c.in_ok-piece.ensures (omega (arith, count, port)) (omega (arith, begins, late, end, same))
    (omega (arith, begins, late, end, long)))))

pub returns-in-Ok-clause-levels : goal.returns-in-Ok-clause-levels
returns-in-Ok-clause-levels c = λ w u drives from upto.
    let old = c.args.change.now.old.now in
    let new = c.args.change.now.new.now in
    let is = c.requires.change in
    let id = c.args.id.0 in
    let r = c.args.found.now in
    let p = c.args.port in
    let piece = c.in_ok-piece.piece in
    let first = c.saturating_sub-first.result in
    let count = port_count old is.old_form id first (c.args.now + 1) r piece c.requires.kept.before c.in_ok-piece.ensures in
    let port = c.requires.port in
    let delay = output_delay old is.old_form id p r c.requires.kept.before port in
    let some = delay.0 in
    let short = delay.1 in
    let most = horizon_within new is.form in
    let below = c.requires.below in
    let long = c.requires.long in
    let same = is.revision.horizon in
    let read = read_at c.as_slice-outputs.result.now r.outputs p c.as_slice-outputs.ensures port in
    let late : delay_of r p ≡ (slice_index_or c.as_slice-outputs.result.now p (record { wire = None; delay = 0 })).delay = ap (λ (o : Output). o.delay) read in
    let end = c.horizon-horizon.ensures.value in
    let begins = c.saturating_sub-first.ensures in
    let inside : p < length c.ports-ports.result.now = subst (λ (xs : List (List (ℕ × ℕ))). p < length xs) (sym c.ports-ports.ensures) (omega (arith, count, port)) in
    let changes = read_changes c.ports-ports.result.now piece.outputs p c.index-ports-port.result c.as_slice.result.now c.ports-ports.ensures inside c.index-ports-port.is c.as_slice.ensures in
    let was = drove old new id p w (c.requires.kept.before ∙ sym c.requires.kept.after) drives in
    let part : drives.part ≡ r = same_Some drives.part r (sym drives.stands ∙ c.requires.kept.after) in
    let wire : (slice_index_or c.as_slice-outputs.result.now p (record { wire = None; delay = 0 })).wire ≡ Some (record { 0 = w }) =
    ap (λ (o : Output). o.wire) (sym read) ∙ ap (λ (x : ModuleRecord). (output_at x p).wire) (sym part) ∙ drives.output in
    let last : c.horizon-horizon.result - 1 ≡ old.horizon - 1 = omega (arith, end, same) in
    let level0 : c.old_level.result ≡ level old w (old.horizon - 1) =
    c.old_level.ensures w wire ∙ ap (level_of (old_wave c.args.change.now.run.now w)) last
    ∙ old_level old is.old_form c.args.change.now.run.now is.run w (old.horizon - 1) (output_stands old is.old_form id p w was) (omega (arith, same, below)) in
    let made : c.finish.result ≡ (held_all (unchanged c.old_level.result) (put_off (delay_of r p) (slice_index_or piece.outputs p []))).wave =
    c.finish.ensures.value ∙ ap (λ (b : Building). b.wave) c.in-Ok.ensures
    ∙ ap (λ (b : Building). (held_all b (put_off (slice_index_or c.as_slice-outputs.result.now p (record { wire = None; delay = 0 })).delay c.as_slice.result.now)).wave) c.new-wave.ensures
    ∙ ap (λ (xs : List (ℕ × ℕ)). (held_all (unchanged c.old_level.result) (put_off (slice_index_or c.as_slice-outputs.result.now p (record { wire = None; delay = 0 })).delay xs)).wave) changes
    ∙ ap (λ d. (held_all (unchanged c.old_level.result) (put_off d (slice_index_or piece.outputs p []))).wave) (sym late) in
    ap (λ (v : Waveform). level_of v u) made
    ∙ last_levels old is.old_form id p c.args.now first r piece c.requires.kept.before some (omega (arith, most, below, short)) c.in_ok-piece.ensures (omega (arith, count, port)) (omega (arith, begins, late, end, same))
    (omega (arith, begins, late, end, long)) c.old_level.result w was level0 u (omega (arith, from, same)) upto
