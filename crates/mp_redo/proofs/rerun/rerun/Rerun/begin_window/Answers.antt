use Rattle.std.proofs.Common.{◌≡◌, ℕ, ◌+◌, ◌-◌, subst, arith}
use Rattle.mp_depend.specs.work.Work.{block_of, window_end, IsWindow}
use Rattle.mp_depend.proofs.lemmas.work.WindowLemmas.{window_within}
use Rattle.mp_depend.specs.recording.Live.{AreAtWork}
use Rattle.mp_redo.specs.rerun.Reruns.{active_of}
use Rattle.mp_redo.proofs.lemmas.rerun.WindowLemmas.{end_is, window_begun}
use Rattle.mp_redo.proofs.rerun.rerun.Rerun.begin_window.Goals as goal

pub enter_window-requires-clause-window : goal.enter_window-requires-clause-window
enter_window-requires-clause-window g c =
    let new = c.args.change.now.new.now in
    let ends : c.window_end-self.result ≡ window_end new c.args.time =
    end_is new c.args.change.now.least c.horizon.result c.args.time c.window_end-self.result c.window_end-self.ensures c.horizon.ensures.value c.requires.change.least in
    record { below = c.requires.below; begins = c.requires.begins; ends = ends }

pub enter_window-requires-clause-work : goal.enter_window-requires-clause-work
enter_window-requires-clause-work g c =
    let change = c.args.change.now in
    let some = c.requires.some in
    let next : c.args.time - 1 + 1 ≡ c.args.time = omega (arith, some) in
    subst (λ (t : ℕ). AreAtWork change.old.now change.new.now (block_of change.new.now.horizon c.args.time) t (active_of c.begin_block.new.self)) next c.in_ok-begin_block.ensures.work

pub enter_window-requires-clause-listed : goal.enter_window-requires-clause-listed
enter_window-requires-clause-listed g c = c.in_ok-begin_block.ensures.recorder.listed

pub returns-clause-end : goal.returns-clause-end
returns-clause-end g c =
    let new = c.args.change.now.new.now in
    let time = c.args.time in
    let ends : c.window_end-self.result ≡ window_end new time =
    end_is new c.args.change.now.least c.horizon.result time c.window_end-self.result c.window_end-self.ensures c.horizon.ensures.value c.requires.change.least in
    let window : IsWindow new time c.window_end-self.result = record { below = c.requires.below; begins = c.requires.begins; ends = ends } in
    (window_within new c.requires.change.form time c.window_end-self.result window).1

pub returns-clause-after : goal.returns-clause-after
returns-clause-after g c =
    let change = c.args.change.now in
    let old = change.old.now in
    let new = change.new.now in
    let ok = c.requires.change in
    let time = c.args.time in
    let ends : c.window_end-self.result ≡ window_end new time =
    end_is new change.least c.horizon.result time c.window_end-self.result c.window_end-self.ensures c.horizon.ensures.value ok.least in
    record {
      from = time;
      is = window_begun old new ok.old_form ok.form ok.revision change.run.now time c.window_end-self.result c.begin_block.new.self c.requires.some c.requires.below c.requires.begins ends c.in_ok-begin_block.ensures;
    }
