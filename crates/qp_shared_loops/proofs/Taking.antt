-- Looks of a take, the front cell, and the entry that is freed.
use Rattle.std.proofs.Common.{◌≡◌, ◌≢◌, ℕ, ◌+◌, ◌-◌, ◌*◌, ◌%◌, ◌<◌, ◌≤◌, ◌&&◌, List, Bool, cond, refl, sym, ap, subst, ◌∙◌, arith, eqb, eq-eqb, ne_eqb, IsTrue}
use Rattle.std.specs.Prelude.{length}
use Rattle.std.specs.List.{list_any}
use Rattle.qp_model.specs.declared.systems.System.{System}
use Rattle.qp_model.specs.declared.bodies.Entry.{Entry}
use Rattle.qp_model.specs.Sites.{ring_of}
use Rattle.qp_table.specs.Counting.{many}
use Rattle.qp_table.specs.Rule.{queue_at, mark_in, Codable, is_place, is_serve, on_queue}
use Rattle.qp_table.specs.After.{HasRoom, glanced, noted, emptied, learned, place}
use Rattle.qp_table.specs.QueueLaws.{f_in, l_in, m_in, cells_of}
use Rattle.qp_table.specs.declared.view.SeatLog.{SeatLog}
use Rattle.qp_table.specs.declared.view.View.{View}
use Rattle.qp_table.proofs.Counting.{many-snoc}
use Rattle.qp_table.proofs.Marks.{high-mark}
use Rattle.qp_table.specs.Told.{QueueTold, NilTold, nil_rec, freed, FreeTold}
use Rattle.qp_shared_words.specs.Fronts.{KnowsFront}
use Rattle.qp_shared_loops.specs.Ends.{seeing, KnowsEvent, LoopTakes}
use Rattle.qp_shared_loops.proofs.Following.{Seen, queue-then, sees-one}

-- Entries as cells have them.

-- The look.

module _ (sys : System) (is_new : ℕ → Bool) (a : ℕ) (v z : View) (x : ℕ) (told : NilTold sys is_new a v x z) (some : f_in x + l_in x ≢ m_in x) where
  looked : z ≡ glanced v (queue_at a) x
  looked = told.0 ∙ ap (λ (t : Bool). cond {A = View} (t && is_new x) (noted v (queue_at a) x (nil_rec a x)) (glanced v (queue_at a) x)) (ne_eqb (f_in x + l_in x) (m_in x) some)

  pub seen-some : Seen sys a v z x
  seen-some = record { is = looked ∙ ap (λ (y : View). seeing y.seen v) (sym looked); more = sees-one v z _ looked; told = told.1 }

-- behind its look the lane knows the front of the queue
pub knows-front : (sys : System) (a ring j : ℕ) (v z : View) (x : ℕ) → Seen sys a v z x → HasRoom v → IsTrue (list_any (is_serve a) v.serves) → many (on_queue a) v.takes ≡ 0 → ring ≡ ring_of sys a → j ≡ (m_in x + ring * l_in x) % (ring + 1) → KnowsFront sys a j z
knows-front sys a ring j v z x seen room serves idle ring_is j_is =
    let mine = seen.told.own serves in
    let last : ring ≡ cells_of sys a - 1 = omega arith in
    subst (KnowsFront sys a j) (sym seen.is) (record {
      serves = serves;
      log = subst (λ (gs : List SeatLog). 0 < length gs) (sym room.is) (omega arith);
      idle = idle;
      cell = j_is ∙ (λ i. (mine.1 i + last i * mine.0 i) % (ring_is i + 1));
    })

pub take-there : (a j : ℕ) (e : Entry) (z u : View) → u ≡ emptied z a j e → 0 < many (is_place a j e) u.takes
take-there a j e z u is = subst (λ (y : View). 0 < many (is_place a j e) y.takes) (sym is)
    (let m = many-snoc (is_place a j e) z.takes (place a j e 0) in let one : cond {A = ℕ} (is_place a j e (place a j e 0)) 1 0 ≡ 1 = here in omega arith)
  where
    here : cond {A = ℕ} (is_place a j e (place a j e 0)) 1 0 ≡ 1
    here = λ i. cond {A = ℕ} ((eq-eqb a a refl i && eq-eqb j j refl i) && ((eq-eqb e.pool e.pool refl i && eq-eqb e.block e.block refl i) && eq-eqb e.name e.name refl i)) 1 0

-- what was told of a view in which a take is under way
queue-emptied : (sys : System) (a j : ℕ) (e : Entry) (v u : View) (n x : ℕ) → QueueTold sys a (emptied v a j e) u n x → QueueTold sys a v u n x
queue-emptied sys a j e v u n x t = record {
  found = record { le = t.found.le; same = t.found.same };
  saw = record { here = t.saw.here; value = t.saw.value; others = t.saw.others; le = t.saw.le; same = t.saw.same };
  mark = t.mark;
  small = t.small;
  takes = t.takes;
  own = t.own;
}

module _ (sys : System) (a : ℕ) (v z w u : View) (x n j : ℕ) (e : Entry) (seen : Seen sys a v z x) (some : f_in x + l_in x ≢ m_in x) (serves : IsTrue (list_any (is_serve a) v.serves)) (taken : w ≡ emptied z a j e) (told : FreeTold sys a j e w n u) where
  freed-told : QueueTold sys a z u n (n + 4398046511104)
  freed-told = queue-emptied sys a j e z u n (n + 4398046511104) (subst (λ (y : View). QueueTold sys a y u n (n + 4398046511104)) taken told.2)

  then-told : QueueTold sys a v u n (n + 4398046511104)
  then-told = queue-then sys a v z u x n (n + 4398046511104) seen freed-told

  -- the counts of last-in posts and takes are the lane's own, and no first-in post is undone
  one-there : m_in n < f_in n + l_in n
  one-there =
      let mine = seen.told.own serves in let still = then-told.own serves in
      let l : l_in n ≡ l_in x = still.0 ∙ sym mine.0 in let m : m_in n ≡ m_in x = still.1 ∙ sym mine.1 in
      let up : mark_in (queue_at a) x ≤ mark_in (queue_at a) n = subst (λ k. mark_in (queue_at a) k ≤ mark_in (queue_at a) n) seen.told.saw.value freed-told.found.le in
      let hx = high-mark (queue_at a) x (omega arith) in let hn = high-mark (queue_at a) n (omega arith) in
      let few = seen.told.takes in
      omega arith

  pub takes-it : Codable sys e → KnowsEvent sys e u → LoopTakes sys a e v n u
  takes-it codable knows = record {
    glances = z.seen;
    more = seen.more;
    cell = j;
    event = told.0;
    is = told.1 ∙ ap (λ (y : View). cond {A = View} (eqb e.pool 0) (freed a j e y n) (learned (freed a j e y n) e told.0)) (taken ∙ ap (λ (y : View). emptied y a j e) seen.is);
    codable = codable;
    content = told.3;
    knows = knows;
    some = one-there;
    told = then-told;
  }
