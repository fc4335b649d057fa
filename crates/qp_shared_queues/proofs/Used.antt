-- The blocks that a lane has used stay the same at each call on a queue.
use Rattle.std.proofs.Common.{◌≡◌, ℕ, ◌+◌, ◌&&◌, List, Bool, true, false, cond, Option, Some, None, refl, ap, ◌∙◌, eqb}
use Rattle.qp_model.specs.declared.systems.System.{System}
use Rattle.qp_model.specs.declared.bodies.Entry as model
use Rattle.qp_calls.specs.Clauses.{entry_of}
use Rattle.qp_calls.specs.declared.tokens.HeldEntry as token
use Rattle.qp_table.specs.Rule.{queue_at}
use Rattle.qp_table.specs.After.{glanced, noted, emptied, learned}
use Rattle.qp_table.specs.QueueLaws.{f_in, l_in, m_in}
use Rattle.qp_table.specs.declared.view.Spot.{Spot}
use Rattle.qp_table.specs.declared.view.View.{View}
use Rattle.qp_table.specs.Told.{freed, nil_rec}
use Rattle.qp_shared_loops.specs.Ends.{seeing, PostEnds, PostFirstEnds, TakeEnds}
use Rattle.qp_shared_lane.specs.Used.{HasEnds}
use Rattle.qp_shared_lane.proofs.Used.{ends-same}

post-used : (sys : System) (a o : ℕ) (margin : Option ℕ) (e : model.Entry) (v : View) (x : ℕ) (b : Bool) (u : View) → PostEnds sys a o margin e v x b u → u.used ≡ v.used
post-used sys a o margin e v x true u ends = ap (λ (z : View). z.used) ends.is
post-used sys a o margin e v x false u ends = ap (λ (z : View). z.used) ends.is

pub post-ended : (sys : System) (a o : ℕ) (margin : Option ℕ) (e : model.Entry) (v : View) (x : ℕ) (b : Bool) (u : View) (at : List ℕ) → PostEnds sys a o margin e v x b u → HasEnds at v.used → HasEnds at u.used
post-ended sys a o margin e v x b u at ends has = ends-same at v u (post-used sys a o margin e v x b u ends) has

lifo-used : (sys : System) (a : ℕ) (e : model.Entry) (v : View) (x : ℕ) (b : Bool) (u : View) → PostFirstEnds sys a e v x b u → u.used ≡ v.used
lifo-used sys a e v x true u ends = ap (λ (z : View). z.used) ends.is
lifo-used sys a e v x false u ends = ap (λ (z : View). z.used) ends.is

pub lifo-ended : (sys : System) (a : ℕ) (e : model.Entry) (v : View) (x : ℕ) (b : Bool) (u : View) (at : List ℕ) → PostFirstEnds sys a e v x b u → HasEnds at v.used → HasEnds at u.used
lifo-ended sys a e v x b u at ends has = ends-same at v u (lifo-used sys a e v x b u ends) has

either-used : (t : Bool) (x y : View) (used : List Spot) → x.used ≡ used → y.used ≡ used → (cond {A = View} t x y).used ≡ used
either-used true x y used p q = p
either-used false x y used p q = q

take-used : (sys : System) (is_new : ℕ → Bool) (a : ℕ) (v : View) (x : ℕ) (q : Option token.HeldEntry) (u : View) → TakeEnds sys is_new a v x q u → u.used ≡ v.used
take-used sys is_new a v x (Some e) u ends =
    let done : View = freed a ends.0.cell (entry_of e) (emptied (seeing ends.0.glances v) a ends.0.cell (entry_of e)) x in
    ap (λ (z : View). z.used) ends.0.is ∙ either-used (eqb (entry_of e).pool 0) done (learned done (entry_of e) ends.0.event) v.used refl refl
take-used sys is_new a v x None u ends =
    ap (λ (z : View). z.used) ends.0.0 ∙ either-used (eqb (f_in x + l_in x) (m_in x) && is_new x) (noted v (queue_at a) x (nil_rec a x)) (glanced v (queue_at a) x) v.used refl refl

pub take-ended : (sys : System) (is_new : ℕ → Bool) (a : ℕ) (v : View) (x : ℕ) (q : Option token.HeldEntry) (u : View) (at : List ℕ) → TakeEnds sys is_new a v x q u → HasEnds at v.used → HasEnds at u.used
take-ended sys is_new a v x q u at ends has = ends-same at v u (take-used sys is_new a v x q u ends) has
