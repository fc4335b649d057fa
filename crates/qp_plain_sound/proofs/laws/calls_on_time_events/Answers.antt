use Rattle.qp_plain_sound.proofs.CallSides.{arm-done, arm-refused, disarm-idle, disarm-done, rearm-done, tick-idle, tick-down, tick-fires}
use Rattle.qp_plain_sound.proofs.laws.calls_on_time_events.Goals as goal

pub returns : goal.returns
returns c = record {
  done = arm-done;
  refused = arm-refused;
  idle = disarm-idle;
  disarmed = disarm-done;
  rearmed = rearm-done;
  idle_tick = tick-idle;
  down = tick-down;
  fired = tick-fires;
}
