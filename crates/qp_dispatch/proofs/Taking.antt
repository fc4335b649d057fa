-- An object may take up an entry that the lane has just taken, and go on with it.
use Rattle.std.proofs.Common.{ℕ, ◌≤◌, length}
use Rattle.qp_calls.specs.declared.tokens.HeldEntry.{HeldEntry}
use Rattle.qp_calls.specs.LaneView.{LaneView}
use Rattle.qp_calls.specs.Clauses.{TakesIt}
use Rattle.qp_calls.specs.Deferring.{StandAll, kept_in}
use Rattle.qp_calls.proofs.CountLemmas.{stand-more, taken-hands}
use Rattle.qp_dispatch.specs.declared.lasting.Lasting.{Lasting}
use Rattle.qp_dispatch.specs.Resume.{IsTaken}

-- the deferred entries stood, and stand beside it
pub taken-is : (k : Lasting) (me : ℕ) (e : HeldEntry) (v w : LaneView) → StandAll k.list.entries.items v → length (kept_in k.list) ≤ k.list.entries.capacity → TakesIt me e v w → IsTaken k e w
taken-is k me e v w all few t = record { stand = stand-more k.list.entries.items e v w all t.stands (taken-hands me e v w t) t.adds.grows.sys; few = few }
