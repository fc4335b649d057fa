-- Looks and tries of a last-in post.
use Rattle.std.proofs.Common.{◌≡◌, ◌≢◌, ℕ, ◌+◌, ◌<◌, Bool, cond, sym, ap, subst, ◌∙◌, arith, ne_eqb}
use Rattle.qp_model.specs.declared.systems.System.{System}
use Rattle.qp_model.specs.declared.bodies.Entry.{Entry}
use Rattle.qp_model.specs.declared.words.Word.TheVariants as word
use Rattle.qp_model.specs.Sites.{ring_of}
use Rattle.qp_table.specs.Rule.{queue_at, mark_in}
use Rattle.qp_table.specs.After.{glanced, noted, full_rec}
use Rattle.qp_table.specs.declared.view.View.{View}
use Rattle.qp_table.specs.Told.{free_in, eyed_last, EyeLastTold, put_first_at, LastTold}
use Rattle.qp_shared_loops.specs.Ends.{seeing, PutsFirst}
use Rattle.qp_shared_loops.proofs.Following.{Seen, queue-then, sees-one, sees-then, more-there, last-fits, last-is}

module _ (ring a : ℕ) (v : View) (x : ℕ) where
  eyed-free : 0 < free_in ring x → eyed_last ring a v x ≡ glanced v (queue_at a) x
  eyed-free some = ap (λ (t : Bool). cond {A = View} t (noted v (queue_at a) x (full_rec a x)) (glanced v (queue_at a) x)) (ne_eqb (free_in ring x) 0 (λ e. absurd (omega arith)))

module _ (sys : System) (a : ℕ) where
  pub looked-free : (v u : View) (n : ℕ) → EyeLastTold sys a v n u → 0 < free_in (ring_of sys a) n → Seen sys a v u n
  looked-free v u n t some =
      let is : u ≡ glanced v (queue_at a) n = t.0 ∙ eyed-free (ring_of sys a) a v n some in
      record { is = is ∙ ap (λ (z : View). seeing z.seen v) (sym is); more = sees-one v u _ is; told = t.1 }

  module _ (e : Entry) (v z u : View) (old n : ℕ) (seen : Seen sys a v z old) (told : LastTold sys a e z old n u) where
    pub puts-first : n ≡ old → 0 < free_in (ring_of sys a) old → PutsFirst sys a e v n u
    puts-first same enough = let t = told.0 same in subst (λ x. PutsFirst sys a e v x u) (sym same) (record {
      glances = z.seen;
      more = seen.more;
      is = t.0 ∙ ap (λ (y : View). put_first_at sys a e y old) seen.is;
      enough = enough;
      fits = last-fits a old (more-there sys (word.Queue a) z u old (old + 2097152) (last-is sys a v z old seen) t.1.saw (λ e. omega arith));
      told = queue-then sys a v z u old old (old + 2097152) seen t.1;
    })

    pub puts-on : n ≢ old → 0 < free_in (ring_of sys a) n → Seen sys a v u n × (mark_in (queue_at a) old < mark_in (queue_at a) n)
    puts-on other some =
        let t = told.1 other in let s = looked-free z u n t.1 some in
        (record { is = s.is ∙ ap (λ (y : View). seeing u.seen y) seen.is; more = sees-then v.seen z.seen u.seen seen.more s.more; told = queue-then sys a v z u old n n seen s.told }, t.0)
