use Rattle.mp_depend.proofs.recording.rerun_recorder.RerunRecorder.finish.Goals as goal

pub returns-clause-work_spans : goal.returns-clause-work_spans
returns-clause-work_spans c = λ old kept live is. is.worked
