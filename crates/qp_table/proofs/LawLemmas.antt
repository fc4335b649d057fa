-- The laws of looks and lanes.
use Rattle.qp_table.specs.Laws.{LooksKeepTheRule, ReadsKeepTheRule, ShownPoolsKeepTheRule, EmptyPoolsKeepTheRule, SeenQueuesKeepTheRule, EmptyQueuesKeepTheRule, FullQueuesKeepTheRule, NoEntryKeepsTheRule, NoLastInKeepsTheRule, HoldersLearnTheEvent, NewViewsKeepTheRule, OnlookersKeepTheRule, GrantsKeepTheRule, HandOversKeepTheRule, JoinsKeepTheRule, StartMeetsTheRule, RecordsAreLawful, WholeIsKnown}
use Rattle.qp_table.specs.First.{SoundSystemsStart}
use Rattle.qp_table.specs.TwoTables.{WholeLanesAreLawful}
use Rattle.qp_table.proofs.Looks.{looks, looks_from, learns, shows-short, shows-no_block, shows-seen, shows-nil, shows-full, shows-no_entry, shows-no_lifo}
use Rattle.qp_table.proofs.Lanes.{adds-nothing, looks-on, grants, hands-over, joins}
use Rattle.qp_table.proofs.Ends.{opens, whole}
use Rattle.qp_table.proofs.Start.{starts}
use Rattle.qp_table.proofs.Thin.{words-joined}

pub looks_keep_the_rule : LooksKeepTheRule
looks_keep_the_rule sys words views holds id v at_id w low = looks sys words views holds id v at_id w low

pub reads_keep_the_rule : ReadsKeepTheRule
reads_keep_the_rule sys words views holds id v at_id p b low = looks_from sys words views holds id v at_id p b low

pub shown_pools_keep_the_rule : ShownPoolsKeepTheRule
shown_pools_keep_the_rule sys words views holds id v at_id o p reserve r room pool few says = shows-short sys words views holds id v at_id room p pool o reserve r says few

pub empty_pools_keep_the_rule : EmptyPoolsKeepTheRule
empty_pools_keep_the_rule sys words views holds id v at_id o p r room pool none says = shows-no_block sys words views holds id v at_id room p pool o r says none

pub seen_queues_keep_the_rule : SeenQueuesKeepTheRule
seen_queues_keep_the_rule sys words views holds id v at_id o a r room object says = shows-seen sys words views holds id v at_id room a object o r says

pub empty_queues_keep_the_rule : EmptyQueuesKeepTheRule
empty_queues_keep_the_rule sys words views holds id v at_id a r room object none says = shows-nil sys words views holds id v at_id room a object r says none

pub full_queues_keep_the_rule : FullQueuesKeepTheRule
full_queues_keep_the_rule sys words views holds id v at_id o a margin r room object few says = shows-full sys words views holds id v at_id room a object o margin r says few

pub no_entry_keeps_the_rule : NoEntryKeepsTheRule
no_entry_keeps_the_rule sys words views holds id v at_id o a r room object full says = shows-no_entry sys words views holds id v at_id room a object o r says full

pub no_last_in_keeps_the_rule : NoLastInKeepsTheRule
no_last_in_keeps_the_rule sys words views holds id v at_id o a r room object full says = shows-no_lifo sys words views holds id v at_id room a object o r says full

pub holders_learn_the_event : HoldersLearnTheEvent
holders_learn_the_event sys words views holds id v at_id p b k block mine = learns sys words views holds id v at_id p b k block mine

pub new_views_keep_the_rule : NewViewsKeepTheRule
new_views_keep_the_rule sys words views holds = adds-nothing sys words views holds

pub onlookers_keep_the_rule : OnlookersKeepTheRule
onlookers_keep_the_rule sys words views holds id v at_id other w apart there empty = looks-on sys words views holds id v at_id other w apart there empty

pub grants_keep_the_rule : GrantsKeepTheRule
grants_keep_the_rule sys words views holds id v at_id other w apart there n few mine idle = grants sys words views holds id v at_id other w apart there n few mine idle

pub hand_overs_keep_the_rule : HandOversKeepTheRule
hand_overs_keep_the_rule sys words views holds id v at_id other w apart there t unused = hands-over sys words views holds id v at_id other w apart there t unused

pub joins_keep_the_rule : JoinsKeepTheRule
joins_keep_the_rule sys words views holds id v at_id other w apart there = joins sys words views holds id v at_id other w apart there

pub start_meets_the_rule : StartMeetsTheRule
start_meets_the_rule sys words xs fitting shows cells serves zeros = opens sys words xs fitting shows cells serves zeros

pub sound_systems_start : SoundSystemsStart
sound_systems_start sys words sound wide each = starts sys words sound wide each

pub records_are_lawful : RecordsAreLawful
records_are_lawful sys words views holds = holds.leaves.law

pub whole_lanes_are_lawful : WholeLanesAreLawful
whole_lanes_are_lawful sys lanes table side thin beside law others = words-joined sys lanes table side thin beside law others

pub whole_is_known : WholeIsKnown
whole_is_known sys words views holds id v at_id all = whole sys words views holds id v at_id all
