use Rattle.std.proofs.Common.{refl, sym, ◌∙◌, ap, subst, ◌≡◌, true}
use Rattle.qp_model.specs.Ends.{is_spill}
use Rattle.qp_model.specs.Record.{item_of}
use Rattle.qp_plain.specs.Repeat.{CountsDown, SetsTo, is_still}
use Rattle.qp_plain.proofs.RepeatFacts.{rest-still, rest-regular}
use Rattle.qp_plain.proofs.world.PlainWorld.repeat.Goals as goal

pub give_again-requires-clause-says : goal.give_again-requires-clause-says
unfolding item_of
give_again-requires-clause-says c = (_, _, sym c.body.ensures ∙ c.in-New.is)

pub give_again-requires-clause-room : goal.give_again-requires-clause-room
unfolding item_of
give_again-requires-clause-room c = c.requires.room (ap is_spill (sym c.body.ensures ∙ c.in-New.is))

pub back_again-requires-clause-says : goal.back_again-requires-clause-says
unfolding item_of
back_again-requires-clause-says c = (_, _, sym c.body.ensures ∙ c.in-Back.is)

pub back_again-requires-clause-room : goal.back_again-requires-clause-room
unfolding item_of
back_again-requires-clause-room c = c.requires.room (ap is_spill (sym c.body.ensures ∙ c.in-Back.is))

pub inc_again-requires-clause-says : goal.inc_again-requires-clause-says
unfolding item_of
inc_again-requires-clause-says c = (_, sym c.body.ensures ∙ c.in-Inc.is)

pub inc_again-requires-clause-room : goal.inc_again-requires-clause-room
unfolding item_of
inc_again-requires-clause-room c = c.requires.room (ap is_spill (sym c.body.ensures ∙ c.in-Inc.is))

pub dec_again-requires-clause-says : goal.dec_again-requires-clause-says
unfolding item_of
dec_again-requires-clause-says c = (_, _, sym c.body.ensures ∙ c.in-Dec.is)

pub dec_again-requires-clause-room : goal.dec_again-requires-clause-room
unfolding item_of
dec_again-requires-clause-room c = c.requires.room (ap is_spill (sym c.body.ensures ∙ c.in-Dec.is))

pub post_again-requires-clause-says : goal.post_again-requires-clause-says
unfolding item_of
post_again-requires-clause-says c = (_, _, _, sym c.body.ensures ∙ c.in-Post.is)

pub post_again-requires-clause-room : goal.post_again-requires-clause-room
unfolding item_of
post_again-requires-clause-room c = c.requires.room (ap is_spill (sym c.body.ensures ∙ c.in-Post.is))

pub lifo_again-requires-clause-says : goal.lifo_again-requires-clause-says
unfolding item_of
lifo_again-requires-clause-says c = (_, _, _, sym c.body.ensures ∙ c.in-Lifo.is)

pub lifo_again-requires-clause-room : goal.lifo_again-requires-clause-room
unfolding item_of
lifo_again-requires-clause-room c = c.requires.room (ap is_spill (sym c.body.ensures ∙ c.in-Lifo.is))

pub take_again-requires-clause-says : goal.take_again-requires-clause-says
unfolding item_of
take_again-requires-clause-says c = (_, _, _, _, sym c.body.ensures ∙ c.in-Took.is)

pub take_again-requires-clause-room : goal.take_again-requires-clause-room
unfolding item_of
take_again-requires-clause-room c = c.requires.room (ap is_spill (sym c.body.ensures ∙ c.in-Took.is))

pub subscribe_again-requires-clause-says : goal.subscribe_again-requires-clause-says
unfolding item_of
subscribe_again-requires-clause-says c = (_, sym c.body.ensures ∙ c.in-Sub.is)

pub subscribe_again-requires-clause-room : goal.subscribe_again-requires-clause-room
unfolding item_of
subscribe_again-requires-clause-room c = c.requires.room (ap is_spill (sym c.body.ensures ∙ c.in-Sub.is))

pub unsubscribe_again-requires-clause-says : goal.unsubscribe_again-requires-clause-says
unfolding item_of
unsubscribe_again-requires-clause-says c = (_, sym c.body.ensures ∙ c.in-Unsub.is)

pub unsubscribe_again-requires-clause-room : goal.unsubscribe_again-requires-clause-room
unfolding item_of
unsubscribe_again-requires-clause-room c = c.requires.room (ap is_spill (sym c.body.ensures ∙ c.in-Unsub.is))

pub arm_again-requires-clause-says : goal.arm_again-requires-clause-says
unfolding item_of
arm_again-requires-clause-says c = (_, sym c.body.ensures ∙ c.in-Arm.is)

pub arm_again-requires-clause-room : goal.arm_again-requires-clause-room
unfolding item_of
arm_again-requires-clause-room c = c.requires.room (ap is_spill (sym c.body.ensures ∙ c.in-Arm.is))

pub set_again-requires-clause-says : goal.set_again-requires-clause-says
unfolding item_of
set_again-requires-clause-says c = subst (SetsTo _ _) (sym (sym c.body.ensures ∙ c.in-Disarm.is)) (refl, refl)

pub set_again-requires-clause-room : goal.set_again-requires-clause-room
unfolding item_of
set_again-requires-clause-room c = c.requires.room (ap is_spill (sym c.body.ensures ∙ c.in-Disarm.is))

pub set_again-requires-in-Rearm-clause-says : goal.set_again-requires-in-Rearm-clause-says
unfolding item_of
set_again-requires-in-Rearm-clause-says c = subst (SetsTo _ _) (sym (sym c.body.ensures ∙ c.in-Rearm.is)) (refl, refl)

pub set_again-requires-in-Rearm-clause-room : goal.set_again-requires-in-Rearm-clause-room
unfolding item_of
set_again-requires-in-Rearm-clause-room c = c.requires.room (ap is_spill (sym c.body.ensures ∙ c.in-Rearm.is))

pub tick_again-requires-clause-says : goal.tick_again-requires-clause-says
unfolding item_of
tick_again-requires-clause-says c = subst (CountsDown _) (sym (sym c.body.ensures ∙ c.in-Tick.is)) refl

pub tick_again-requires-clause-room : goal.tick_again-requires-clause-room
unfolding item_of
tick_again-requires-clause-room c = c.requires.room (ap is_spill (sym c.body.ensures ∙ c.in-Tick.is))

pub tick_again-requires-in-Fire-clause-says : goal.tick_again-requires-in-Fire-clause-says
unfolding item_of
tick_again-requires-in-Fire-clause-says c = subst (CountsDown _) (sym (sym c.body.ensures ∙ c.in-Fire.is)) refl

pub tick_again-requires-in-Fire-clause-room : goal.tick_again-requires-in-Fire-clause-room
unfolding item_of
tick_again-requires-in-Fire-clause-room c = c.requires.room (ap is_spill (sym c.body.ensures ∙ c.in-Fire.is))

pub nil_again-requires-clause-says : goal.nil_again-requires-clause-says
unfolding item_of
nil_again-requires-clause-says c = sym c.body.ensures ∙ c.in-Nil.is

pub nil_again-requires-clause-room : goal.nil_again-requires-clause-room
unfolding item_of
nil_again-requires-clause-room c = c.requires.room (ap is_spill (sym c.body.ensures ∙ c.in-Nil.is))

pub spill_again-requires-clause-says : goal.spill_again-requires-clause-says
unfolding item_of
spill_again-requires-clause-says c = (_, sym c.body.ensures ∙ c.in-Spill.is)

pub note_again-requires-clause-still : goal.note_again-requires-clause-still
unfolding item_of
note_again-requires-clause-still c =
    let d = c.in_default in
    let still : is_still c.body.result ≡ true = rest-still c.body.result (record {
      new = d.not-New;
      back = d.not-Back;
      inc = d.not-Inc;
      dec = d.not-Dec;
      post = d.not-Post;
      lifo = d.not-Lifo;
      took = d.not-Took;
      sub = d.not-Sub;
      unsub = d.not-Unsub;
      arm = d.not-Arm;
      disarm = d.not-Disarm;
      rearm = d.not-Rearm;
      tick = d.not-Tick;
      fire = d.not-Fire;
      nil = d.not-Nil;
      spill = d.not-Spill;
    }) in
    ap is_still (sym c.body.ensures) ∙ still

pub note_again-requires-clause-room : goal.note_again-requires-clause-room
unfolding item_of
note_again-requires-clause-room c = c.requires.room (ap is_spill (sym c.body.ensures) ∙ rest-regular c.body.result c.in_default.not-Spill)
