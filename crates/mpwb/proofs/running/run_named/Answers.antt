use Rattle.mpwb.specs.CommandTexts.{text_of}
use Rattle.mpwb.proofs.CommandLemmas.{any_some, runs_as}
use Rattle.mpwb.proofs.running.run_named.Goals as goal

pub returns-in_default-clause-written : goal.returns-in_default-clause-written
returns-in_default-clause-written g c =
    runs_as c.args.command.now c.args.options.now _ (g.S.Source.left c.args.source.now) c.run_view.result c.args.out.now c.run_view.new.out (text_of c.args.command.now)
    c.view_of.ensures.valid c.view_of.ensures.text c.view_of.ensures.wires c.view_of.ensures.places c.run_view.ensures.written

pub returns-in_default-clause-taken : goal.returns-in_default-clause-taken
returns-in_default-clause-taken g c = any_some (text_of c.args.command.now) c.run_view.ensures.taken

pub returns-in_default-clause-read_faults : goal.returns-in_default-clause-read_faults
returns-in_default-clause-read_faults g c = any_some (text_of c.args.command.now) c.run_view.ensures.read_faults
