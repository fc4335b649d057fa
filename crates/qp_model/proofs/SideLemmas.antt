-- Signals and time events: their words when an operation is added, or what they hold is shown.
use Rattle.std.proofs.Common.{◌≡◌, ℕ, suc, ◌+◌, ◌<◌, ◌==◌, nat_lt, true, false, List, [], ◌∷◌, ◌++◌, refl, arith}
use Rattle.std.proofs.lemmas.Bool.Decides.{nat_tests}
use Rattle.qp_chart.specs.StateTree.{has}
use Rattle.qp_model.specs.declared.record.Rec.{Rec}
use Rattle.qp_model.specs.declared.words.Word.TheVariants as word
use Rattle.qp_model.specs.declared.bodies.Body.TheVariants.{Pub, Sub, Unsub, Same, Arm, Disarm, Rearm, Idle, Tick, Fire, Armed}
use Rattle.qp_model.specs.Record.{item_of}
use Rattle.qp_model.specs.Lists.{without_all}
use Rattle.qp_model.specs.History.{Draws, drawn_as}
use Rattle.qp_model.specs.Subscribers.{Subscribers, subscribers, bits_of_set}
use Rattle.qp_model.specs.TimeEvents.{Clock, time_event}
use Rattle.qp_model.proofs.WordLemmas.{Held, held-draws, held-shows}
use Rattle.qp_model.proofs.LineLemmas.{same_number}
use Rattle.qp_model.proofs.WordLawLemmas.{subscribers-counts, time_event-counts}

-- A record at the end of a lane that stands among others, for the signal's word, which has these subscribers.
module _ (before : List (List Rec)) (lane : List Rec) (behind : List (List Rec)) (r : Rec) (sig : ℕ) (s : Subscribers)
    (old : Held Subscribers subscribers (word.Signal sig) (before ++ lane ∷ behind) s) where
  signal_draws : drawn_as (word.Signal sig) s.count (Draws (word.Signal sig) (suc s.count)) ≡ true
  signal_draws = rw (same_number sig, same_number (suc s.count)) refl

  pub held-sub : (o : ℕ) → item_of r ≡ record { of = o; body = Sub sig s.count } → has s.members o ≡ false
      → Held Subscribers subscribers (word.Signal sig) (before ++ (lane ++ r ∷ []) ∷ behind) (record { count = s.count + 1; members = o ∷ without_all o s.members })
  held-sub o is new = held-draws before lane behind r _ is subscribers (word.Signal sig) s subscribers-counts old signal_draws (rw (same_number s.count, new) refl)

  pub held-unsub : (o : ℕ) → item_of r ≡ record { of = o; body = Unsub sig s.count } → has s.members o ≡ true
      → Held Subscribers subscribers (word.Signal sig) (before ++ (lane ++ r ∷ []) ∷ behind) (record { count = s.count + 1; members = without_all o s.members })
  held-unsub o is member = held-draws before lane behind r _ is subscribers (word.Signal sig) s subscribers-counts old signal_draws (rw (same_number s.count, member) refl)

  pub held-same : (o : ℕ) → item_of r ≡ record { of = o; body = Same sig s.count } → Held Subscribers subscribers (word.Signal sig) (before ++ (lane ++ r ∷ []) ∷ behind) s
  held-same o is = held-shows before lane behind r _ is subscribers (word.Signal sig) s subscribers-counts old (rw (same_number sig) refl) (same_number sig) refl

  pub held-pub : (o : ℕ) → item_of r ≡ record { of = o; body = Pub sig s.count (bits_of_set s.members) }
      → Held Subscribers subscribers (word.Signal sig) (before ++ (lane ++ r ∷ []) ∷ behind) s
  held-pub o is =
      held-shows before lane behind r _ is subscribers (word.Signal sig) s subscribers-counts old (rw (same_number sig) refl) (same_number sig) (same_number (bits_of_set s.members))

-- The same for a timer's word, with this counter and interval.
module _ (before : List (List Rec)) (lane : List Rec) (behind : List (List Rec)) (r : Rec) (t : ℕ) (s : Clock)
    (old : Held Clock time_event (word.Timer t) (before ++ lane ∷ behind) s) where
  timer_draws : drawn_as (word.Timer t) s.count (Draws (word.Timer t) (suc s.count)) ≡ true
  timer_draws = rw (same_number t, same_number (suc s.count)) refl

  pub held-arm : (o ticks interval : ℕ) → item_of r ≡ record { of = o; body = Arm t s.count ticks interval } → s.counter ≡ 0
      → Held Clock time_event (word.Timer t) (before ++ (lane ++ r ∷ []) ∷ behind) (record { count = s.count + 1; counter = ticks; interval = interval })
  held-arm o ticks interval is idle = held-draws before lane behind r _ is time_event (word.Timer t) s time_event-counts old timer_draws (rw (same_number s.count, idle) refl)

  pub held-disarm : (o : ℕ) → item_of r ≡ record { of = o; body = Disarm t s.count s.counter } → 0 < s.counter
      → Held Clock time_event (word.Timer t) (before ++ (lane ++ r ∷ []) ∷ behind) (record { count = s.count + 1; counter = 0; interval = s.interval })
  held-disarm o is armed =
      let above : (s.counter == 0) ≡ false = grind (arith, nat_tests) in
      held-draws before lane behind r _ is time_event (word.Timer t) s time_event-counts old timer_draws (rw (same_number s.count, same_number s.counter, above) refl)

  pub held-rearm : (o ticks : ℕ) → item_of r ≡ record { of = o; body = Rearm t s.count s.counter ticks }
      → Held Clock time_event (word.Timer t) (before ++ (lane ++ r ∷ []) ∷ behind) (record { count = s.count + 1; counter = ticks; interval = s.interval })
  held-rearm o ticks is =
      held-draws before lane behind r _ is time_event (word.Timer t) s time_event-counts old timer_draws (rw (same_number s.count, same_number s.counter) refl)

  pub held-tick : (o counter : ℕ) → item_of r ≡ record { of = o; body = Tick t s.count counter } → s.counter ≡ counter + 1 → 0 < counter
      → Held Clock time_event (word.Timer t) (before ++ (lane ++ r ∷ []) ∷ behind) (record { count = s.count + 1; counter = counter; interval = s.interval })
  held-tick o counter is less above =
      let one_less : (s.counter == counter + 1) ≡ true = grind (arith, nat_tests) in
      let left : nat_lt 0 counter ≡ true = grind (arith, nat_tests) in
      held-draws before lane behind r _ is time_event (word.Timer t) s time_event-counts old timer_draws (rw (same_number s.count, one_less, left) refl)

  pub held-fire : (o : ℕ) → item_of r ≡ record { of = o; body = Fire t s.count s.interval } → s.counter ≡ 1
      → Held Clock time_event (word.Timer t) (before ++ (lane ++ r ∷ []) ∷ behind) (record { count = s.count + 1; counter = s.interval; interval = s.interval })
  held-fire o is last =
      let one : (s.counter == 1) ≡ true = grind (arith, nat_tests) in
      held-draws before lane behind r _ is time_event (word.Timer t) s time_event-counts old timer_draws (rw (same_number s.count, one, same_number s.interval) refl)

  pub held-idle : (o : ℕ) → item_of r ≡ record { of = o; body = Idle t s.count } → s.counter ≡ 0 → Held Clock time_event (word.Timer t) (before ++ (lane ++ r ∷ []) ∷ behind) s
  held-idle o is idle = held-shows before lane behind r _ is time_event (word.Timer t) s time_event-counts old (rw (same_number t) refl) (same_number t) (rw idle refl)

  pub held-armed : (o : ℕ) → item_of r ≡ record { of = o; body = Armed t s.count s.counter } → 0 < s.counter → Held Clock time_event (word.Timer t) (before ++ (lane ++ r ∷ []) ∷ behind) s
  held-armed o is armed =
      let above : (s.counter == 0) ≡ false = grind (arith, nat_tests) in
      held-shows before lane behind r _ is time_event (word.Timer t) s time_event-counts old (rw (same_number t) refl) (same_number t) (rw (same_number s.counter, above) refl)
