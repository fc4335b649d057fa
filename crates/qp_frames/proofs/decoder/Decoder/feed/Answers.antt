use Rattle.std.proofs.Common.{◌∙◌, Ok, Err, sym, ap}
use Rattle.std.specs.Prelude.{⊤}
use Rattle.qp_frames.specs.Stream.{state_of}
use Rattle.qp_frames.proofs.FeedLemmas.{bytes-fit, goes-fault, stands-next, stands-same}
use Rattle.qp_frames.proofs.decoder.Decoder.feed.Goals as goal

pub returns-in-Some-clause-stands : goal.returns-in-Some-clause-stands
returns-in-Some-clause-stands c =
    λ before led. stands-same c.args.piece.now before (bytes-fit c.args.piece.now (λ i. (c.type_inv.piece i).fits)) c.args.self.now c.in-Some.fault (sym c.self.view_is ∙ ap (state_of c.self.inside.stream) c.in-Some.is) led

pub returns-in-Err-clause-stands : goal.returns-in-Err-clause-stands
returns-in-Err-clause-stands c =
    let old = sym c.self.view_is ∙ ap (state_of c.self.inside.stream) c.in-None.is in
    λ before led. stands-next c.args.piece.now before (bytes-fit c.args.piece.now (λ i. (c.type_inv.piece i).fits)) (Ok c.self.inside.stream) (Err c.in-Err.fault)
    (goes-fault ⊤ c.take_bytes.new.self c.in-Err.fault _ c.in-Err.ensures) (rw old at led)

pub returns-in-Ok-clause-stands : goal.returns-in-Ok-clause-stands
returns-in-Ok-clause-stands c =
    let old = sym c.self.view_is ∙ ap (state_of c.self.inside.stream) c.in-None.is in
    λ before led. rw c.in-None.is (stands-next c.args.piece.now before (bytes-fit c.args.piece.now (λ i. (c.type_inv.piece i).fits)) (Ok c.self.inside.stream) (Ok c.take_bytes.new.self) c.in-Ok.ensures (rw old at led))
