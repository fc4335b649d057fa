-- Who takes a reference knows its event.
use Rattle.std.proofs.Common.{◌≡◌, ℕ, ◌<◌, ◌&&◌, ◌||◌, List, [], ◌∷◌, ◌++◌, Bool, true, false, cond, set, get_or, refl, sym, ap, subst, ◌∙◌, arith, eqb, eq-eqb, ne_eqb, IsTrue}
use Rattle.std.specs.List.{list_any}
use Rattle.std.proofs.lemmas.Bool.{or_right}
use Rattle.qp_model.specs.declared.systems.System.{System}
use Rattle.qp_model.specs.declared.bodies.Entry.{Entry}
use Rattle.qp_table.specs.Counting.{many}
use Rattle.qp_table.specs.Rule.{queue_at, is_ref, is_entry}
use Rattle.qp_table.specs.After.{WordSteps, learned}
use Rattle.qp_table.specs.declared.view.Content.{Content}
use Rattle.qp_table.specs.declared.view.View.{View}
use Rattle.qp_table.proofs.Counting.{many-snoc}
use Rattle.qp_table.specs.Lane.{has_content}
use Rattle.qp_table.specs.Told.{freed, FreeTold}
use Rattle.qp_table.proofs.Found.{get-set}
use Rattle.qp_table.proofs.Reading.{word-is}
use Rattle.qp_shared_loops.specs.Ends.{KnowsEvent}

entry-here : (e : Entry) → is_entry e e ≡ true
entry-here e = λ i. (eq-eqb e.pool e.pool refl i && eq-eqb e.block e.block refl i) && eq-eqb e.name e.name refl i

content-last : (e : Entry) (event : List ℕ) (qs : List Content) → list_any (λ (q : Content). is_entry e q.entry) (qs ++ record { entry = e; event = event } ∷ []) ≡ true
content-last e event [] = ap (λ (t : Bool). t || false) (entry-here e)
content-last e event (q ∷ qs) = or_right (is_entry e q.entry) (list_any (λ (q : Content). is_entry e q.entry) (qs ++ record { entry = e; event = event } ∷ [])) (content-last e event qs)

module _ (sys : System) (v : View) (a j : ℕ) (e : Entry) (n : ℕ) (u : View) (told : FreeTold sys a j e v n u) (pos : 0 < e.pool) where
  off : eqb e.pool 0 ≡ false
  off = ne_eqb e.pool 0 (λ z. absurd (omega arith))

  pub is-learned : u ≡ learned (freed a j e v n) e told.0
  is-learned = told.1 ∙ ap (λ (t : Bool). cond {A = View} t (freed a j e v n) (learned (freed a j e v n) e told.0)) off

  pub hands-then : u.hands ≡ v.hands ++ e ∷ []
  hands-then = ap (λ (z : View). z.hands) is-learned ∙ ap (λ (t : Bool). cond {A = List Entry} t v.hands (v.hands ++ e ∷ [])) off

  mine : 0 < many (is_ref e.pool e.block e.name) u.hands
  mine = subst (λ (xs : List Entry). 0 < many (is_ref e.pool e.block e.name) xs) (sym hands-then)
      (let m = many-snoc (is_ref e.pool e.block e.name) v.hands e in let one : cond {A = ℕ} (is_ref e.pool e.block e.name e) 1 0 ≡ 1 = ap (λ (t : Bool). cond {A = ℕ} t 1 0) (entry-here e) in omega arith)

  pub known-then : IsTrue (has_content u.contents e)
  known-then = subst (λ (z : View). IsTrue (has_content z.contents e)) (sym is-learned) (or_right (eqb e.pool 0) _ (content-last e told.0 v.contents))

pub with-event : (sys : System) (id : ℕ) (v : View) (a j : ℕ) (e : Entry) (f : ℕ → ℕ) → WordSteps sys id v (queue_at a) f (FreeTold sys a j e v) → WordSteps sys id v (queue_at a) f (λ n u. FreeTold sys a j e v n u × KnowsEvent sys e u)
with-event sys id v a j e f steps words views holds at small =
    let z = steps words views holds at small in (
      z.0,
      z.1,
      (
        z.2,
        λ pos. (word-is sys (set words (queue_at a) (f (get_or words (queue_at a) 0))) (set views id z.0) z.1 id z.0 (get-set views id v z.0 at) e.pool e.block e.name pos (mine sys v a j e (get_or words (queue_at a) 0) z.0 z.2 pos) (known-then sys v a j e (get_or words (queue_at a) 0) z.0 z.2 pos) 0).0,
      ),
    )
