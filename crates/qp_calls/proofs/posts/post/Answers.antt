use Rattle.std.proofs.Common.{◌≡◌, [], true, ap, sym, ◌∙◌}
use Rattle.qp_model.specs.Parts.{is_static}
use Rattle.qp_calls.specs.Clauses.{event_of}
use Rattle.qp_calls.proofs.NoteLemmas.{static-bare}
use Rattle.qp_calls.proofs.posts.post.Goals as goal

pub returns-then-is_static : goal.returns-then-is_static
returns-then-is_static g c =
    let fixed : is_static c.args.sys.now c.args.ev.now.sig ≡ true = ap (λ n. is_static c.args.sys.now n) (sym c.from.ensures) ∙ sym c.is_static.ensures ∙ c.if-is_static.true in
    let bare : c.args.ev.now.pars.items ≡ [] = static-bare c.args.sys.now (event_of c.args.ev.now) c.requires.sound c.requires.event fixed in
    rw (bare, c.requires.reserve fixed) c.post_static.ensures
