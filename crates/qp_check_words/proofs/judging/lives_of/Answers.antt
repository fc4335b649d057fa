use Rattle.std.proofs.Common.{◌≡◌, ◌∙◌, ◌&&◌, ap, sym, true, false, subst}
use Rattle.std.specs.Option.{MatchOption}
use Rattle.std.proofs.lemmas.Result.{IfOk-weaker}
use Rattle.qp_model.specs.Machine.{is_allowed}
use Rattle.qp_model.specs.References.{references}
use Rattle.qp_model.specs.Lives.{has_lives}
use Rattle.qp_check_lanes.specs.GivenBlocks.{block_key}
use Rattle.qp_check_lanes.specs.Groups.{of_key}
use Rattle.qp_check_lanes.specs.Standing.{empties}
use Rattle.qp_check_words.specs.Judging.{lives_of}
use Rattle.qp_check_lanes.proofs.BlockLifeLemmas.{own-lives}
use Rattle.qp_check_words.proofs.judging.lives_of.Goals as goal

pub returns-in-Some : goal.returns-in-Some
unfolding lives_of
returns-in-Some c =
    let block = c.args.block.now in
    let facts = subst (λ o. MatchOption o (is_allowed references block ≡ false) (λ v. (is_allowed references block ≡ true) × (v.items ≡ empties block))) c.in-Some.is c.in_ok-flags.ensures in
    let own = c.on-own.ensures ∙ ap (λ n. of_key block_key n c.args.pool.now) c.from.ensures in
    IfOk-weaker c.has_lives.result _ _
    (λ r told. told block (c.deref.ensures.value ∙ facts.1) ∙ ap (λ n. has_lives n c.on-own.result.now block) c.from-in-Some.ensures ∙ ap (λ o. has_lives c.args.b o block) own ∙ own-lives c.args.b c.args.pool.now block
    ∙ ap (λ t. t && has_lives c.args.b c.args.pool.now block) (sym facts.0))
    c.has_lives.ensures
