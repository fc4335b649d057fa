-- Why arguments could not be had.
use Rattle.std.proofs.Common.{◌≡◌, false, refl}
use Rattle.std.specs.declared.io.ErrorKind.{ErrorKind}
use Rattle.std.specs.declared.io.ErrorKind.TheVariants.{InvalidData}
use Rattle.qp_run_parts.specs.Notes.{names_file}
use Rattle.qp_process.specs.Process.{unread_answer}

-- the line names no file
pub unread-plain : (kind : ErrorKind) → names_file (unread_answer kind) ≡ false
unread-plain InvalidData = refl
unread-plain kind = refl
