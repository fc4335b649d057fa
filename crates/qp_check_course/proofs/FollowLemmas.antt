-- Whether an object's records follow its chart, decided by the states of its course.
use Rattle.std.proofs.Common.{◌≡◌, List}
use Rattle.qp_model.specs.declared.systems.System.{System}
use Rattle.qp_model.specs.declared.systems.ObjectDef.{ObjectDef}
use Rattle.qp_model.specs.Told.{Told}
use Rattle.qp_model.specs.Pieces.{Piece, records_in}
use Rattle.qp_model.specs.Course.{Cut, FollowsTo}
use Rattle.qp_check_calls.specs.Decides.{Decides}
use Rattle.qp_check_calls.proofs.BeginLemmas.{reads-begin}
use Rattle.qp_check_calls.proofs.OpenLemmas.{open-begin, open-next}
use Rattle.qp_check_calls.proofs.ReadLemmas.{reads-next, reads-whole}
use Rattle.qp_check_calls.proofs.SomeLemmas.{open-reads}
use Rattle.qp_check_course.specs.Decided.{reads_to, HasChart}
use Rattle.qp_check_course.specs.Passing.{told_to}
use Rattle.qp_check_course.specs.Followable.{IsFollowable}
use Rattle.qp_check_course.proofs.DecidedLemmas.{read-decides, told-decides}

module _ (sys : System) (d : ObjectDef) (f : IsFollowable sys d) where
  its-chart : HasChart sys d f.its
  its-chart = record { is = f.is_its; able = f.able }

  -- of pieces
  pub pieces-decided : (cut : Cut) (ps : List Piece) → Decides (reads_to sys d f.its cut ps) (FollowsTo sys d cut ps)
  pieces-decided cut ps = read-decides sys d f.its its-chart reads-begin reads-whole reads-next open-begin open-next open-reads cut ps

  -- of records alone
  pub records-decided : (cut : Cut) (g : List Told) → Decides (told_to sys d f.its cut g) ((ps : List Piece) × (records_in ps ≡ g) × FollowsTo sys d cut ps)
  records-decided cut g = told-decides sys d f.its its-chart reads-begin reads-whole reads-next open-begin open-next open-reads cut g
