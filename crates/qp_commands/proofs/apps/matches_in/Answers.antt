use Rattle.std.proofs.Common.{◌≡◌, ◌∙◌, false, inl, inr, sym, true}
use Rattle.clap.specs.Words.{app_of}
use Rattle.clap.specs.declared.error.kind.ErrorKind.TheVariants.{OutOfMemory}
use Rattle.qp_commands.proofs.WordApps.{found-refused, found-taken}
use Rattle.qp_commands.proofs.apps.matches_in.Goals as goal

pub returns-in-Ok : goal.returns-in-Ok
returns-in-Ok c = found-taken (app_of c.args.command) _ c.in-Ok.found c.requires (c.in-Ok.ensures.kinds c.requires) c.in-Ok.ensures.matches

pub returns : goal.returns
returns c = elim (c.in-Err.ensures.kinds c.requires) [
  | inl memory ↦
      let is : c.kind.result ≡ OutOfMemory = c.kind.ensures ∙ memory in
      let same = rw is at c.eq.ensures in
      let bad : false ≡ true = sym c.if-eq.false ∙ same in
      cc
  | inr among ↦ found-refused (app_of c.args.command) _ _ among
]
