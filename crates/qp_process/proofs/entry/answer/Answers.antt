use Rattle.std.proofs.Common.{◌∙◌, ap}
use Rattle.std.specs.IoError.{error_kind}
use Rattle.qp_run_parts.specs.Notes.{names_file}
use Rattle.qp_process.proofs.ProcessLemmas.{unread-plain}
use Rattle.qp_process.proofs.entry.answer.Goals as goal

pub tell-status-requires : goal.tell-status-requires
tell-status-requires g c = ap names_file c.unread.ensures ∙ unread-plain (error_kind c.in-Err.error)
