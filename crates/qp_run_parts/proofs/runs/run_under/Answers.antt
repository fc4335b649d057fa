use Rattle.std.proofs.Common.{refl}
use Rattle.qp_run_parts.specs.declared.ran.Ran.TheVariants.{Threaded}
use Rattle.qp_run_parts.proofs.SealLemmas.{sealed-on}
use Rattle.qp_run_parts.proofs.runs.run_under.Goals as goal

pub returns-in-Qk-clause-sealed : goal.returns-in-Qk-clause-sealed
returns-in-Qk-clause-sealed g c = sealed-on c.args.system.now (λ run. run.sealed.journal) Threaded (λ run. refl) c.run_qk.result c.map-in-Qk.result c.map-in-Qk.ensures.cases c.run_qk.ensures.sealed

pub returns-in-Port-clause-sealed : goal.returns-in-Port-clause-sealed
returns-in-Port-clause-sealed g c = sealed-on c.args.system.now (λ run. run.sealed.journal) Threaded (λ run. refl) c.run_port.result c.map-in-Port.result c.map-in-Port.ensures.cases c.run_port.ensures.sealed

pub returns-in-Wait-clause-sealed : goal.returns-in-Wait-clause-sealed
returns-in-Wait-clause-sealed g c = sealed-on c.args.system.now (λ run. run.sealed.journal) Threaded (λ run. refl) c.run_wait.result c.map-in-Wait.result c.map-in-Wait.ensures.cases c.run_wait.ensures.sealed
