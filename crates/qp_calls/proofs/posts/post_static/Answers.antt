use Rattle.std.proofs.Common.{[], None, refl, sym, true}
use Rattle.qp_calls.specs.declared.tokens.HeldEntry.TheVariants as token
use Rattle.qp_calls.proofs.Answering.{answers-room, post-answers, static-here}
use Rattle.qp_calls.proofs.Posting.{made-static}
use Rattle.qp_calls.proofs.posts.post_static.Goals as goal

pub returns : goal.returns
returns g c =
    let lane = g.O.Ops.lane in
    let fixed = static-here _ _ (lane c.args.ops.now).sys c.args.sig true c.room.ensures.stays refl c.requires.fixed in
    answers-room None _ c.post_entry.result _ (lane c.room.new.self) _ c.room.ensures.stays
    (post-answers None c.args.to (record { sig = c.args.sig; pars = [] }) c.args.margin None (token.Static c.args.sig) c.post_entry.result _ _ (lane c.room.new.self) _ refl
    (made-static (lane c.room.new.self).sys (record { sig = c.args.sig; pars = [] }) None (lane c.room.new.self) refl (sym fixed)) c.post_entry.ensures)
