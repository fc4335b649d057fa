use Rattle.std.proofs.Common.{◌≡◌, Some}
use Rattle.qp_stim.proofs.PartsLemmas.{parts_left-cut}
use Rattle.qp_stim.proofs.tokens.Tokens.next.Goals as goal

pub returns : goal.returns
returns c =
    let was : c.args.self.rest ≡ Some c.in_ok-self.field-0 = c.in_ok-self.was in
    parts_left-cut 32 c.args.self.rest c.in_ok-self.field-0 c.cut.result.0.now c.cut.result.1 was c.cut.ensures.front c.cut.ensures.rest
