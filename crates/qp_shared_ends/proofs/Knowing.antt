-- A lane has read each entry whose event it knows.
use Rattle.std.proofs.Common.{⊎_elim, ◌==◌, ◌||◌, List, [], false, IsTrue}
use Rattle.std.proofs.lemmas.Bool.{or_left, or_cases}
use Rattle.qp_model.specs.declared.bodies.Entry.{Entry}
use Rattle.qp_model.specs.Told.{ToldItem}
use Rattle.qp_calls.specs.Tokens.{token_of, stands, hands_after}
use Rattle.qp_calls.specs.LaneView.{handled_in, is_known}
use Rattle.qp_table.specs.Lane.{lane_of, has_content}
use Rattle.qp_table.proofs.Hands.{held-in, read-has}
use Rattle.qp_shared_lane.specs.declared.lane.LaneState.{LaneState}
use Rattle.qp_shared_lane.specs.Holds.{told_by}
use Rattle.qp_shared_lane.specs.Lane.{state_view}
use Rattle.qp_shared_ends.specs.Joining.{table_of}

abbrev told-of : LaneState → List ToldItem
told-of l = told_by l.log l.numbers.list (table_of l)

pub known-read : (l : LaneState) (e : Entry) → IsTrue (is_known (state_view l) e) → IsTrue (has_content (table_of l).contents e)
unfolding is_known lane_of
known-read l e is = ⊎_elim
    (λ three. ⊎_elim
    (λ two. ⊎_elim (λ static. or_left (e.pool == 0) _ static) (λ held. read-has (table_of l).contents e (l.holds.read e (held-in (told-of l) (table_of l) e.pool e.block e.name l.holds.hands held)).0) (or_cases (e.pool == 0) (stands (token_of e) (hands_after [] (told-of l))) two))
    (λ handled. l.holds.handled e handled)
    (or_cases ((e.pool == 0) || stands (token_of e) (hands_after [] (told-of l))) (handled_in (token_of e) (told-of l)) three))
    (λ beside. absurd (cc))
    (or_cases (((e.pool == 0) || stands (token_of e) (hands_after [] (told-of l))) || handled_in (token_of e) (told-of l)) false is)
