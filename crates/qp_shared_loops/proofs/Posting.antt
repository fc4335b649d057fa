-- Looks and tries of a post.
use Rattle.std.proofs.Common.{◌≡◌, ◌≢◌, ℕ, ◌<◌, Bool, cond, sym, ap, ◌∙◌}
use Rattle.std.proofs.lemmas.Bool.{lt-leb}
use Rattle.std.specs.declared.option.Option.{Option}
use Rattle.std.specs.Option.{unwrap_or}
use Rattle.qp_model.specs.declared.systems.System.{System}
use Rattle.qp_model.specs.declared.bodies.Entry.{Entry}
use Rattle.qp_model.specs.Sites.{ring_of}
use Rattle.qp_table.specs.Rule.{queue_at, mark_in}
use Rattle.qp_table.specs.After.{glanced, noted}
use Rattle.qp_table.specs.declared.view.View.{View}
use Rattle.qp_table.specs.Told.{free_in, refusal_rec, eyed_for, EyeTold, TryTold}
use Rattle.qp_shared_loops.specs.Ends.{seeing}
use Rattle.qp_shared_loops.proofs.Following.{Seen, queue-then, sees-one, sees-then}

module _ (ring a o : ℕ) (margin : Option ℕ) (v : View) (x : ℕ) where
  pub eyed-some : unwrap_or margin 0 < free_in ring x → eyed_for ring a o margin v x ≡ glanced v (queue_at a) x
  eyed-some lt = ap (λ (t : Bool). cond {A = View} t (noted v (queue_at a) x (refusal_rec margin o a x)) (glanced v (queue_at a) x)) (lt-leb _ _ lt)

module _ (sys : System) (a o : ℕ) (margin : Option ℕ) where
  pub looked-on : (v u : View) (n : ℕ) → EyeTold sys a o margin v n u → unwrap_or margin 0 < free_in (ring_of sys a) n → Seen sys a v u n
  looked-on v u n t enough =
      let is : u ≡ glanced v (queue_at a) n = t.0 ∙ eyed-some (ring_of sys a) a o margin v n enough in
      record { is = is ∙ ap (λ (z : View). seeing z.seen v) (sym is); more = sees-one v u _ is; told = t.1 }

  module _ (e : Entry) (v z u : View) (old n : ℕ) (seen : Seen sys a v z old) (told : TryTold sys a o margin e z old n u) where
    pub claims-on : n ≢ old → unwrap_or margin 0 < free_in (ring_of sys a) n → Seen sys a v u n × (mark_in (queue_at a) old < mark_in (queue_at a) n)
    claims-on other enough =
        let t = told.1 other in let s = looked-on z u n t.1 enough in
        (record { is = s.is ∙ ap (λ (y : View). seeing u.seen y) seen.is; more = sees-then v.seen z.seen u.seen seen.more s.more; told = queue-then sys a v z u old n n seen s.told }, t.0)
