-- The steps of one seat by itself: where each is allowed, and what it does.
use Rattle.std.specs.Prelude.{◌≡◌, ℕ, Bool, false, List}
use Rattle.qp_model.specs.declared.systems.System.{System}
use Rattle.qp_core_steps.specs.Blocks.{may_give, SeatGives, may_fill, Fills, may_make, SeatMakes, may_drop, SeatDrops, may_back, Backs}
use Rattle.qp_core_steps.specs.Queues.{may_claim, SeatClaims, may_lay, Lays, may_empty, SeatEmpties, may_free, Frees, may_lifo, Lifos}
use Rattle.qp_core_steps.specs.Looks.{may_look, looked, may_read, may_peek}
use Rattle.qp_core_steps.specs.declared.seats.Seat.{Seat}
use Rattle.qp_core_steps.specs.declared.ops.Op.{Op}
use Rattle.qp_core_steps.specs.declared.ops.Op.TheVariants as op

-- the steps of one seat
abbrev pub may_step : System → ℕ → List ℕ → Seat → Op → Bool
may_step sys lanes words x (op.Give p ev) = may_give sys lanes words x p ev.sig ev.pars.items
may_step sys lanes words x (op.Fill p b j n) = may_fill lanes x p b j n
may_step sys lanes words x (op.Make p b) = may_make sys lanes x p b
may_step sys lanes words x (op.Drop p b k) = may_drop sys lanes x p b k
may_step sys lanes words x (op.Back p b) = may_back sys lanes x p b
may_step sys lanes words x (op.Look w rec) = may_look sys lanes words x w rec
may_step sys lanes words x (op.Read p b j) = may_read sys x p b j
may_step sys lanes words x (op.Peek a) = may_peek sys lanes x a
may_step sys lanes words x (op.Split into set) = false
may_step sys lanes words x (op.Join from) = false
may_step sys lanes words x (op.Claim a p b k) = may_claim sys lanes words x a p b k
may_step sys lanes words x (op.Lay a) = may_lay lanes x a
may_step sys lanes words x (op.Empty a) = may_empty sys lanes words x a
may_step sys lanes words x (op.Free a) = may_free sys lanes x a
may_step sys lanes words x (op.Lifo a p b k) = may_lifo sys lanes words x a p b k

abbrev pub Steps_one : System → List ℕ → Seat → Op → List ℕ → Seat → Type 0
Steps_one sys words x (op.Give p ev) words' x' = SeatGives words x p ev.sig ev.pars.items words' x'
Steps_one sys words x (op.Fill p b j n) words' x' = Fills words x p b j n words' x'
Steps_one sys words x (op.Make p b) words' x' = SeatMakes words x p b words' x'
Steps_one sys words x (op.Drop p b k) words' x' = SeatDrops words x p b k words' x'
Steps_one sys words x (op.Back p b) words' x' = Backs words x p b words' x'
Steps_one sys words x (op.Look w rec) words' x' = (words' ≡ words) × (x' ≡ looked words x w rec)
Steps_one sys words x (op.Read p b j) words' x' = (words' ≡ words) × (x' ≡ x)
Steps_one sys words x (op.Peek a) words' x' = (words' ≡ words) × (x' ≡ x)
Steps_one sys words x (op.Split into set) words' x' = ⊥
Steps_one sys words x (op.Join from) words' x' = ⊥
Steps_one sys words x (op.Claim a p b k) words' x' = SeatClaims sys words x a p b k words' x'
Steps_one sys words x (op.Lay a) words' x' = Lays words x a words' x'
Steps_one sys words x (op.Empty a) words' x' = SeatEmpties sys words x a words' x'
Steps_one sys words x (op.Free a) words' x' = Frees words x a words' x'
Steps_one sys words x (op.Lifo a p b k) words' x' = Lifos sys words x a p b k words' x'
