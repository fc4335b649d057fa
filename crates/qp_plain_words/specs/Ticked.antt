-- What a tick makes of a time event.
use Rattle.std.specs.Prelude.{◌≡◌, ℕ, ◌+◌, ◌<◌}
use Rattle.qp_model.specs.TimeEvents.{Clock}
use Rattle.qp_calls.specs.declared.answers.Tick.{Tick}
use Rattle.qp_calls.specs.declared.answers.Tick.TheVariants as ticked

-- one more operation, after which the counter is this
abbrev pub counted_down : Clock → ℕ → Clock
counted_down s counter = record { count = s.count + 1; counter = counter; interval = s.interval }

abbrev pub TicksTo : Clock → Clock → Tick → Type 0
TicksTo old new ticked.Idle = (old.counter ≡ 0) × (new ≡ old)
TicksTo old new ticked.Down = (new ≡ counted_down old new.counter) × (0 < new.counter) × (old.counter ≡ new.counter + 1)
TicksTo old new ticked.Fired = (old.counter ≡ 1) × (new ≡ counted_down old old.interval)
