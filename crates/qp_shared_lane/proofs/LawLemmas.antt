-- The laws of lanes.
use Rattle.qp_shared_lane.specs.Laws.{RecordsKeepTheLane, TableRecordsKeepTheLane, SideRecordsKeepTheLane, NotesKeepTheLane, LooksKeepTheLane, LogsKeepTheLane, SpareGivesRoom, HandsStand, LanesTellTheirLogs, OwnMembersAreKnown, WorldsNameTables}
use Rattle.qp_shared_lane.proofs.Keeping.{records_keep, looks_keep}
use Rattle.qp_shared_lane.proofs.Adding.{table-records, side-records, notes-keep}
use Rattle.qp_shared_lane.proofs.Logging.{logs-keep}
use Rattle.qp_shared_lane.proofs.Standing.{spare-gives, hands-stand, tells-log}
use Rattle.qp_shared_lane.proofs.Subscribing.{member-own}
use Rattle.qp_shared_lane.proofs.Worlds.{worlds_name}

pub records_keep_the_lane : RecordsKeepTheLane
records_keep_the_lane world sys by count ceiling g numbers v s h more u z rec number t w k holds put goes side adds = records_keep world sys by count ceiling g numbers v s h more u z rec number t w k holds put goes side adds

pub looks_keep_the_lane : LooksKeepTheLane
looks_keep_the_lane world sys by count ceiling g numbers v s u z w k x holds goes side adds = looks_keep world sys by count ceiling g numbers v s u z w k x holds goes side adds

pub worlds_name_tables : WorldsNameTables
worlds_name_tables a b c d n m e = worlds_name a b c d n m e

pub table_records_keep_the_lane : TableRecordsKeepTheLane
table_records_keep_the_lane world sys by count ceiling g numbers v s h more u rec number t w k holds put step = table-records world sys by count ceiling g numbers v s h more u rec number t w k holds put step

pub notes_keep_the_lane : NotesKeepTheLane
notes_keep_the_lane world sys by count ceiling g numbers v s h more rec number t holds put note = notes-keep world sys by count ceiling g numbers v s h more rec number t holds put note

pub side_records_keep_the_lane : SideRecordsKeepTheLane
side_records_keep_the_lane world sys by count ceiling g numbers v s h more z rec number t w k holds put step = side-records world sys by count ceiling g numbers v s h more z rec number t w k holds put step

pub logs_keep_the_lane : LogsKeepTheLane
logs_keep_the_lane world sys by count ceiling g numbers v s h z holds recs view stops answered = logs-keep world sys by count ceiling g numbers v s h z holds recs view stops answered

pub spare_gives_room : SpareGivesRoom
spare_gives_room sys count ceiling g numbers v s holds spare = spare-gives sys count ceiling g numbers v s holds spare

pub hands_stand : HandsStand
hands_stand sys count ceiling g numbers v s holds t is = hands-stand sys count ceiling g numbers v s holds t is

pub lanes_tell_their_logs : LanesTellTheirLogs
lanes_tell_their_logs world sys by count ceiling g numbers v s holds = tells-log world sys by count ceiling g numbers v s holds

pub own_members_are_known : OwnMembersAreKnown
own_members_are_known sys count ceiling g numbers v s holds o n = member-own o n g.recs.items s holds.side_lane holds.same_side
