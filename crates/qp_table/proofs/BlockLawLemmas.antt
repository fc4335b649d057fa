-- The laws of the steps on pools and blocks.
use Rattle.std.proofs.Common.{refl}
use Rattle.qp_table.specs.BlockLaws.{GivesKeepTheRule, FillsKeepTheRule, FirstReferencesKeepTheRule, ReferencesKeepTheRule, DropsKeepTheRule, BacksKeepTheRule, HoldersReadTheEvent}
use Rattle.qp_table.proofs.Contents.{fills_in, reads}
use Rattle.qp_table.proofs.Steps.{gives, begins, doubles, drops, puts_back}

pub gives_keep_the_rule : GivesKeepTheRule
gives_keep_the_rule sys words views holds id v at_id o p b n sig pars r room block first says content short new = gives sys words views holds id v at_id room o p b block n sig pars r says content short first new

pub fills_keep_the_rule : FillsKeepTheRule
fills_keep_the_rule sys words views holds id v at_id p b j event block mine told inside = fills_in sys words views holds id v at_id p b block event told mine j inside _ refl

pub first_references_keep_the_rule : FirstReferencesKeepTheRule
first_references_keep_the_rule sys words views holds id v at_id o p b r room block says mine written = begins sys words views holds id v at_id room o p b block _ r says mine written refl

pub references_keep_the_rule : ReferencesKeepTheRule
references_keep_the_rule sys words views holds id v at_id o p b k r room block says mine = doubles sys words views holds id v at_id room o p b block k _ r says mine refl

pub drops_keep_the_rule : DropsKeepTheRule
drops_keep_the_rule sys words views holds id v at_id o p b k r room block says mine = drops sys words views holds id v at_id room o p b block k _ r says mine refl

pub backs_keep_the_rule : BacksKeepTheRule
backs_keep_the_rule sys words views holds id v at_id o p b n r room block says mine new = puts_back sys words views holds id v at_id room o p b block n r says mine new

pub holders_read_the_event : HoldersReadTheEvent
holders_read_the_event sys words views holds id v at_id p b k j block mine inside = reads sys words views holds id v at_id p b block k j mine inside
