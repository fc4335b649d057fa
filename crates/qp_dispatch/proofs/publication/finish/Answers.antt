use Rattle.std.proofs.Common.{◌≡◌, true, false, [], ap, is_some, ◌∙◌}
use Rattle.qp_dispatch.proofs.PartLemmas.{cut-lost, stand-in}
use Rattle.qp_dispatch.proofs.PublishLemmas.{goes-published}
use Rattle.qp_dispatch.proofs.publication.finish.Goals as goal
use Rattle.qp_dispatch.proofs.publication.finish.Goals.{then-raised, else-raised}

pub publish_end-requires-clause-stands : goal.publish_end-requires-clause-stands
publish_end-requires-clause-stands g c = stand-in c.args.lasting.now.list.entries.items c.args.publication.entry [] _ c.requires.stand

pub returns-in-Err : goal.returns-in-Err
returns-in-Err g c = λ at. cut-lost c.args.me at [] c.args.lasting.now (record { publication = c.args.publication; ceiling = c.args.former }) c.in-Err.fault _ _ c.in-Err.ensures

pub returns-after-raised : goal.returns-after-raised
returns-after-raised g c = λ at.
    let was : c.is_some-raised.result ≡ true → c.if-raised.ceiling ≡ c.args.former =
    λ e. elim c.if-raised.branch [ then-raised w ↦ w.ceiling-is | else-raised w ↦ let isnt = w.if-raised.false in absurd (cc) ] in
    let not : c.is_some-raised.result ≡ false → c.if-raised.ceiling ≡ c.args.ceiling.now =
    λ e. elim c.if-raised.branch [ then-raised w ↦ let is = w.if-raised.true in absurd (cc) | else-raised w ↦ w.ceiling-is ] in
    goes-published c.args.me c.args.ceiling.now c.if-raised.ceiling at c.args.lasting.now c.args.publication c.args.former c.in-Ok.field-0 c.is_some-raised.result _ _ c.requires.some c.requires.left
    c.requires.former (stand-in c.args.lasting.now.list.entries.items c.args.publication.entry [] _ c.requires.stand) (c.is_some-raised.ensures ∙ ap is_some c.ceiling.ensures) was not c.in-Ok.ensures
