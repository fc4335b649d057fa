-- A queue has no more entries than cells.
use Rattle.std.proofs.Common.{ℕ, arith, IsTrue}
use Rattle.qp_model.specs.declared.systems.System.{System}
use Rattle.qp_model.specs.WordLaw.{is_object}
use Rattle.qp_table.specs.Rule.{queue_at}
use Rattle.qp_table.specs.After.{WordSteps}
use Rattle.qp_table.specs.declared.view.View.{View}
use Rattle.qp_table.proofs.Marks.{line-shows}
use Rattle.qp_shared_loops.specs.Ends.{FitsCells}

pub with-short : (sys : System) (id : ℕ) (v : View) (a : ℕ) (f : ℕ → ℕ) (T : ℕ → View → Type 0) → IsTrue (is_object sys a) → WordSteps sys id v (queue_at a) f T → WordSteps sys id v (queue_at a) f (λ n u. T n u × FitsCells sys a n)
with-short sys id v a f T object steps words views holds at small =
    let z = steps words views holds at small in
    let s = line-shows sys words views holds a object in let s0 = s.0 in let s1 = s.1 in let s2 = s.2 in
    let q = holds.queues.queue a object in let c = q.counted in let sh = q.short in
    (z.0, z.1, (z.2, omega arith))
