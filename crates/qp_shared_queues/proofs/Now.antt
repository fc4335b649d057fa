-- What an empty take has seen.
use Rattle.std.proofs.Common.{◌≡◌, ℕ, ◌+◌, ◌&&◌, eqb, Bool, true, false, [], ◌∷◌, ◌++◌, cond, refl, ap, ◌∙◌, None}
use Rattle.qp_model.specs.declared.systems.System.{System}
use Rattle.qp_calls.specs.declared.answers.Counts as counts
use Rattle.qp_table.specs.After.{noted, glanced}
use Rattle.qp_table.specs.QueueLaws.{f_in, l_in, m_in}
use Rattle.qp_table.specs.Rule.{queue_at}
use Rattle.qp_table.specs.Told.{nil_rec}
use Rattle.qp_table.specs.declared.view.View.{View}
use Rattle.qp_shared_loops.specs.Ends.{TakeEnds}
use Rattle.qp_shared_queues.specs.Now.{counts_in_word, ReadsNow}

-- with the record or without it, the word was seen once
either-sees : (told : Bool) (a x : ℕ) (v : View) → (cond {A = View} told (noted v (queue_at a) x (nil_rec a x)) (glanced v (queue_at a) x)).seen ≡ v.seen ++ record { word = queue_at a; value = x } ∷ []
either-sees true a x v = refl
either-sees false a x v = refl

pub empty-reads : (sys : System) (is_new : ℕ → Bool) (a x : ℕ) (v u : View) → TakeEnds sys is_new a v x None u
    → (c : counts.Counts) → c ≡ counts_in_word x → ReadsNow a v u c
empty-reads sys is_new a x v u ends c is =
    (x, ap (λ (z : View). z.seen) ends.0.0 ∙ either-sees (eqb (f_in x + l_in x) (m_in x) && is_new x) a x v, is)
