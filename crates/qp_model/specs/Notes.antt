-- Notes: the records that draw no number and show none.
use Rattle.std.specs.Prelude.{Bool, true, false}
use Rattle.qp_model.specs.declared.bodies.Body.{Body}
use Rattle.qp_model.specs.declared.bodies.Body.TheVariants as body

abbrev pub is_note : Body → Bool
is_note body.Begin = true
is_note (body.Run state row) = true
is_note body.Unhandled = true
is_note (body.Exit state) = true
is_note (body.Enter state) = true
is_note (body.Init state) = true
is_note (body.Say value) = true
is_note body.Done = true
is_note (body.Lock ceiling) = true
is_note (body.Unlock ceiling) = true
is_note (body.Defer e) = true
is_note body.NoDefer = true
is_note (body.Recall e) = true
is_note body.NoRecall = true
is_note (body.Flush e) = true
is_note (body.Stim i k) = true
is_note body.Settle = true
is_note (body.BadTicks t ticks interval) = true
is_note body.Spent = true
is_note (body.Spill len) = true
is_note (body.Look k floor) = true
is_note (body.Rest k) = true
is_note _ = false
