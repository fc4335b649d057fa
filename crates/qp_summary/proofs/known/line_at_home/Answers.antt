use Rattle.qp_summary.proofs.KnownLemmas.{home-first}
use Rattle.qp_summary.proofs.known.line_at_home.Goals as goal

pub known_line-requires : goal.known_line-requires
known_line-requires c = record { turns = rw (home-first c.args.sys.now c.args.j.now c.args.d.now.priority c.if-j-ne-PORT.true) c.requires.first; rests = c.requires.rests }
