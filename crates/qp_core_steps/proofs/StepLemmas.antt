-- A step of one seat keeps the rule.
use Rattle.std.proofs.Common.{◌≡◌, ℕ, ◌<◌, nat_lt, List, Bool, true, false, length, sym, subst, Ok, Err}
use Rattle.std.specs.declared.result.Result.{Result}
use Rattle.qp_base.specs.declared.faults.Memory.{Memory}
use Rattle.qp_model.specs.declared.systems.System.{System}
use Rattle.qp_core_steps.specs.Words.{StepsAs}
use Rattle.qp_core_steps.specs.Keeps.{HasOwn, StepKeeps}
use Rattle.qp_core_steps.specs.Steps.{may_step, Steps_one}
use Rattle.qp_core_steps.specs.declared.seats.Seat.{Seat}
use Rattle.qp_core_steps.specs.declared.ops.Op.{Op}
use Rattle.qp_core_steps.specs.declared.ops.Op.TheVariants as op
use Rattle.qp_core_steps.proofs.BlockLemmas.{give-keeps, fill-keeps, make-keeps, drop-keeps, back-keeps}
use Rattle.qp_core_steps.proofs.QueueLemmas.{claim-keeps, lay-keeps, empty-keeps, free-keeps, lifo-keeps}
use Rattle.qp_core_steps.proofs.LookLemmas.{rest-keeps, look-keeps}

step-keeps : (sys : System) (lanes : ℕ) (words : List ℕ) (x : Seat) → (nat_lt x.number lanes ≡ true → 0 < length x.logs) → (words' : List ℕ) (x' : Seat) (step : Op) → may_step sys lanes words x step ≡ true → Steps_one sys words x step words' x' → StepKeeps sys words x words' x'
step-keeps sys lanes words x own words' x' (op.Give p ev) may made = give-keeps sys lanes words x own words' x' p ev.sig ev.pars.items may made
step-keeps sys lanes words x own words' x' (op.Fill p b j n) may made = fill-keeps sys lanes words x own words' x' p b j n may made
step-keeps sys lanes words x own words' x' (op.Make p b) may made = make-keeps sys lanes words x own words' x' p b may made
step-keeps sys lanes words x own words' x' (op.Drop p b k) may made = drop-keeps sys lanes words x own words' x' p b k may made
step-keeps sys lanes words x own words' x' (op.Back p b) may made = back-keeps sys lanes words x own words' x' p b may made
step-keeps sys lanes words x own words' x' (op.Look w rec) may made = subst (λ (z : List ℕ × Seat). StepKeeps sys words x z.0 z.1) (λ i. (sym made.0 i, sym made.1 i)) (look-keeps sys lanes words x own w rec may)
step-keeps sys lanes words x own words' x' (op.Read p b j) may made = subst (λ (z : List ℕ × Seat). StepKeeps sys words x z.0 z.1) (λ i. (sym made.0 i, sym made.1 i)) (rest-keeps sys lanes words x own)
step-keeps sys lanes words x own words' x' (op.Peek a) may made = subst (λ (z : List ℕ × Seat). StepKeeps sys words x z.0 z.1) (λ i. (sym made.0 i, sym made.1 i)) (rest-keeps sys lanes words x own)
step-keeps sys lanes words x own words' x' (op.Split into set) may made = absurd made
step-keeps sys lanes words x own words' x' (op.Join from) may made = absurd made
step-keeps sys lanes words x own words' x' (op.Claim a p b k) may made = claim-keeps sys lanes words x own words' x' a p b k may made
step-keeps sys lanes words x own words' x' (op.Lay a) may made = lay-keeps sys lanes words x own words' x' a may made
step-keeps sys lanes words x own words' x' (op.Empty a) may made = empty-keeps sys lanes words x own words' x' a may made
step-keeps sys lanes words x own words' x' (op.Free a) may made = free-keeps sys lanes words x own words' x' a may made
step-keeps sys lanes words x own words' x' (op.Lifo a p b k) may made = lifo-keeps sys lanes words x own words' x' a p b k may made

-- and so does one that isn't made
pub step-kept : (sys : System) (lanes : ℕ) (words : List ℕ) (x : Seat) (words' : List ℕ) (x' : Seat) (step : Op) (r : Result Bool Memory)
    → StepsAs (may_step sys lanes words x step) (Steps_one sys words x step words' x') ((words' ≡ words) × (x' ≡ x)) r → HasOwn lanes x → StepKeeps sys words x words' x'
step-kept sys lanes words x words' x' step r made own = go r made
  where
    same : (words' ≡ words) × (x' ≡ x) → StepKeeps sys words x words' x'
    same e = subst (λ (z : List ℕ × Seat). StepKeeps sys words x z.0 z.1) (λ i. (sym e.0 i, sym e.1 i)) (rest-keeps sys lanes words x own)

    go : (r : Result Bool Memory) → StepsAs (may_step sys lanes words x step) (Steps_one sys words x step words' x') ((words' ≡ words) × (x' ≡ x)) r → StepKeeps sys words x words' x'
    go (Ok true) h = step-keeps sys lanes words x own words' x' step (sym h.0) h.1
    go (Ok false) h = same h.1
    go (Err e) h = same h
