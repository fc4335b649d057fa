use Rattle.std.proofs.Common.{◌≡◌, ◌∙◌, ◌==◌, true, false, ap, sym, subst, arith}
use Rattle.std.proofs.lemmas.Bool.Decides.{nat_tests}
use Rattle.qp_model.specs.History.{all_items}
use Rattle.qp_model.specs.Told.{OfEvent}
use Rattle.qp_model.specs.Knowing.{event_known}
use Rattle.qp_check_knowledge.specs.KnownWords.{IsKnownBlock}
use Rattle.qp_check_knowledge.proofs.KnownFactLemmas.{event-known, event-static}
use Rattle.qp_check_knowledge.proofs.knowledge.Knowledge.event_of.Goals as goal

pub returns-then-e-eq0 : goal.returns-then-e-eq0
returns-then-e-eq0 c =
    let yes : (c.args.e.pool == 0) ≡ true = grind (arith, nat_tests, c.if-e-eq0.true) in
    ap (λ xs. OfEvent (record { sig = c.args.e.block; pars = xs })) c.new.ensures ∙ sym (ap event_known (event-static c.args.self.now.sys.now c.args.self.now.journal.now c.args.e yes))

pub event_at-requires : goal.event_at-requires
event_at-requires c = (c.requires.blocks_are c.args.e.pool c.args.e.block c.in-Some.block.now (sym c.in-Some.ensures.value)).steps.rise

pub returns-in-Some : goal.returns-in-Some
returns-in-Some c =
    let no : (c.args.e.pool == 0) ≡ false = grind (arith, nat_tests, c.if-e-eq0.false) in
    let block = c.in-Some.block.now in
    c.event_at.ensures
    ∙ ap event_known (event-known c.args.self.now.sys.now c.args.self.now.journal.now c.args.e no block (c.requires.blocks_are c.args.e.pool c.args.e.block block (sym c.in-Some.ensures.value)))

pub event_at-requires-in-None : goal.event_at-requires-in-None
event_at-requires-in-None c = c.in_ok-block-in-None.ensures.steps.rise

pub returns-in_ok-block-in-None : goal.returns-in_ok-block-in-None
returns-in_ok-block-in-None c =
    let no : (c.args.e.pool == 0) ≡ false = grind (arith, nat_tests, c.if-e-eq0.false) in
    let block = c.in_ok-block-in-None.block in
    let known : IsKnownBlock (all_items c.args.self.now.journal.now.lanes) c.args.e.pool c.args.e.block block =
    subst (λ l. IsKnownBlock (all_items l) c.args.e.pool c.args.e.block block) c.requires.same c.in_ok-block-in-None.ensures in
    c.event_at-in-None.ensures ∙ ap event_known (event-known c.args.self.now.sys.now c.args.self.now.journal.now c.args.e no block known)
