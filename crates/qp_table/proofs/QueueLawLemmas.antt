-- The laws of the steps on queues and cells.
use Rattle.qp_table.specs.QueueLaws.{ClaimsKeepTheRule, LaysKeepTheRule, EmptiesKeepTheRule, FreesKeepTheRule, LastInClaimsKeepTheRule}
use Rattle.qp_table.proofs.Cells.{lays, empties}
use Rattle.qp_table.proofs.QueueSteps.{claims, frees, lifos}

pub claims_keep_the_rule : ClaimsKeepTheRule
claims_keep_the_rule sys words views holds id v at_id o a e r room object mine some_free says = claims sys words views holds id v at_id a object room o e r says mine some_free

pub lays_keep_the_rule : LaysKeepTheRule
lays_keep_the_rule sys words views holds id v at_id a j e object inside mine = lays sys words views holds id v at_id a object j e inside mine

pub empties_keep_the_rule : EmptiesKeepTheRule
empties_keep_the_rule sys words views holds id v at_id a j object has_log front full serves idle = empties sys words views holds id v at_id a object has_log j front full serves idle

pub frees_keep_the_rule : FreesKeepTheRule
frees_keep_the_rule sys words views holds id v at_id a j e r room object mine serves says = frees sys words views holds id v at_id a object room j e r says mine serves

pub last_in_claims_keep_the_rule : LastInClaimsKeepTheRule
last_in_claims_keep_the_rule sys words views holds id v at_id a j e r room object front mine some_free serves idle says = lifos sys words views holds id v at_id a object room j e r says front mine some_free serves idle
