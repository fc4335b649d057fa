use Rattle.qp_run_parts.proofs.RunLemmas.{qv-runs}
use Rattle.qp_run_parts.proofs.runs.run_in_turn.Goals as goal

pub returns : goal.returns
returns g c = record {
  run =
      qv-runs c.args.system.now c.args.stimuli.now c.args.budget c.requires.sound c.requires.fit (λ run. run.journal) c.qv_with_rests.result
      c.qv_with_rests.ensures.run;
  rests = c.qv_with_rests.ensures.rests;
}
