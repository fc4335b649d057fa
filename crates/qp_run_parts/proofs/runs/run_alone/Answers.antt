use Rattle.qp_run_parts.proofs.RunLemmas.{sim-runs}
use Rattle.qp_run_parts.proofs.runs.run_alone.Goals as goal

pub returns : goal.returns
returns g c = record {
  run =
      sim-runs c.args.system.now c.args.stimuli.now c.args.budget c.requires.sound c.requires.fit (λ run. run.journal) c.sim_with_rests.result
      c.sim_with_rests.ensures.run;
  rests = c.sim_with_rests.ensures.rests;
}
