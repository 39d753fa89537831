use Rattle.std.specs.Prelude.{◌≡◌, ◌++◌}
use Rattle.mp_commands.proofs.lemmas.answers.Names.{refl, ap, left_as, left_failed, puts_as, puts_unmade, entry_line, work_text}
use Rattle.mp_streams.specs.declared.write_error.WriteError.TheVariants.{WriteFailed, OutOfMemory}
use Rattle.mp_commands.proofs.answers.work_lines.put_work_lines.Goals as goal

pub returns-in_err-entries : goal.returns-in_err-entries
returns-in_err-entries g c = puts_unmade _ OutOfMemory _ _ c.from_residual.ensures.1 refl

pub returns-in_err-put_entry : goal.returns-in_err-put_entry
returns-in_err-put_entry g c =
    let n = c.args.netlist.now in
    let r = c.from_residual-in_err-put_entry in
    let next : work_text n c.loop-entry.entries ≡ entry_line n c.in-Some.entry ++ work_text n c.next.new.self = ap (work_text n) c.in-Some.ensures.steps in
    left_failed (work_text n c.next.new.self) (left_as next c.loop-entry.invariant) r.result r.ensures.0 (puts_as r.result WriteFailed r.ensures.1 refl c.in_err-put_entry.ensures)
