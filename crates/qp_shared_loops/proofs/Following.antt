-- One step on a word behind another.
use Rattle.std.proofs.Common.{◌≡◌, ◌≢◌, ℕ, ◌+◌, ◌-◌, ◌/◌, ◌%◌, ◌<◌, ◌≤◌, List, [], ◌∷◌, ◌++◌, append_assoc, sym, ap, subst, ◌∙◌, arith}
use Rattle.std.proofs.lemmas.List.{append-nil}
use Rattle.std.specs.declared.option.Option.{Option}
use Rattle.std.specs.Option.{unwrap_or}
use Rattle.qp_model.specs.declared.systems.System.{System}
use Rattle.qp_model.specs.declared.bodies.Entry.{Entry}
use Rattle.qp_model.specs.declared.words.Word.{Word}
use Rattle.qp_model.specs.declared.words.Word.TheVariants as word
use Rattle.qp_model.specs.Sites.{ring_of}
use Rattle.qp_table.specs.Rule.{queue_at, mark_in}
use Rattle.qp_table.specs.After.{HasRoom, InHand, SeesMore}
use Rattle.qp_table.specs.declared.view.Glance.{Glance}
use Rattle.qp_table.specs.declared.view.View.{View}
use Rattle.qp_table.proofs.Marks.{high-mark}
use Rattle.qp_table.specs.Words.{place_of, value_seen, Ahead}
use Rattle.qp_table.specs.Telling.{Saw, OwnTold}
use Rattle.qp_table.proofs.Gaining.{saw-then}
use Rattle.qp_table.specs.Told.{QueueTold, free_in}
use Rattle.qp_shared_loops.specs.Ends.{seeing}

pub sees-none : (xs : List Glance) → SeesMore xs xs
sees-none xs = ([], sym (append-nil xs))

pub sees-then : (xs ys zs : List Glance) → SeesMore xs ys → SeesMore ys zs → SeesMore xs zs
sees-then xs ys zs a b = (a.0 ++ b.0, b.1 ∙ (ap (λ (l : List Glance). l ++ b.0) a.1 ∙ append_assoc xs a.0 b.0))

pub sees-one : (v u : View) (g : Glance) → u ≡ seeing (v.seen ++ g ∷ []) v → SeesMore v.seen u.seen
sees-one v u g is = (g ∷ [], ap (λ (z : View). z.seen) is)

-- Only what was seen has changed, and of a queue's word x was seen last
pub record Seen (sys : System) (a : ℕ) (v u : View) (x : ℕ) : Type 0 where
  pub is : u ≡ seeing u.seen v
  pub more : SeesMore v.seen u.seen
  pub told : QueueTold sys a v u x x

module _ (v u : View) (is : u ≡ seeing u.seen v) where
  pub keeps-room : HasRoom v → HasRoom u
  keeps-room r = subst HasRoom (sym is) (record { own = r.own; others = r.others; is = r.is; room = r.room })

  pub keeps-hand : (sys : System) (e : Entry) → InHand sys e v → InHand sys e u
  keeps-hand sys e h = subst (InHand sys e) (sym is) (record { static = h.static; pooled = h.pooled })

  own-before : (a l m : ℕ) → OwnTold a l m u → OwnTold a l m v
  own-before a l m h = subst (OwnTold a l m) is h

-- what is found behind something seen is ahead of what was seen before
pub ahead-then : (sys : System) (w : Word) (v z : View) (y n : ℕ) → Saw sys w v z y → Ahead sys w z n → Ahead sys w v n
ahead-then sys w v z y n a b =
    let le : mark_in (place_of w) y ≤ mark_in (place_of w) n = subst (λ k. mark_in (place_of w) k ≤ mark_in (place_of w) n) a.value b.le in
    let le' = a.le in record {
      le = omega arith;
      same = λ e. let s : mark_in (place_of w) (value_seen sys w v.seen) ≡ mark_in (place_of w) y = omega arith in
          a.same s ∙ (sym a.value ∙ b.same (ap (mark_in (place_of w)) (a.value ∙ sym (a.same s)) ∙ e));
    }

pub queue-then : (sys : System) (a : ℕ) (v z u : View) (y n x : ℕ) → Seen sys a v z y → QueueTold sys a z u n x → QueueTold sys a v u n x
queue-then sys a v z u y n x seen told = record {
  found = ahead-then sys (word.Queue a) v z y n seen.told.saw told.found;
  saw = saw-then sys (word.Queue a) v z u y x seen.told.saw told.saw;
  mark = told.mark;
  small = told.small;
  takes = told.takes;
  own = own-before v z seen.is a _ _ told.own;
}

-- a word that is another than it was last seen has had more operations
pub more-there : (sys : System) (w : Word) (z u : View) (x n : ℕ) → value_seen sys w z.seen ≡ x → Saw sys w z u n → x ≢ n → mark_in (place_of w) x < mark_in (place_of w) n
more-there sys w z u x n last saw other =
    let le : mark_in (place_of w) x ≤ mark_in (place_of w) n = subst (λ k. mark_in (place_of w) k ≤ mark_in (place_of w) n) last saw.le in
    let ne : mark_in (place_of w) x ≢ mark_in (place_of w) n = λ e. other (sym last ∙ saw.same (ap (mark_in (place_of w)) last ∙ e)) in
    omega arith

pub last-fits : (a x : ℕ) → mark_in (queue_at a) x < mark_in (queue_at a) (x + 2097152) → x / 2097152 % 2097152 + 1 < 2097152
last-fits a x more =
    let h = high-mark (queue_at a) x (omega arith) in let h' = high-mark (queue_at a) (x + 2097152) (omega arith) in omega arith

-- of what was seen last
module _ (sys : System) (a : ℕ) (v u : View) (x : ℕ) (seen : Seen sys a v u x) where
  pub last-is : value_seen sys (word.Queue a) u.seen ≡ x
  last-is = seen.told.saw.value

  pub risen : mark_in (queue_at a) (value_seen sys (word.Queue a) v.seen) ≤ mark_in (queue_at a) x
  risen = seen.told.saw.le

  pub few-takes : x / 4398046511104 ≤ 3000000
  few-takes = let s = seen.told.small in let t = seen.told.takes in omega arith

  pub mark-below : mark_in (queue_at a) x < 8000000
  mark-below = subst (λ k. k < 8000000) (sym seen.told.mark) (let s = seen.told.small in let t = seen.told.takes in omega arith)

-- more entries are free than the margin, or too few, by the numbers of a function
module _ (sys : System) (a ring least : ℕ) (margin : Option ℕ) (f x : ℕ) (ring_is : ring ≡ ring_of sys a) (least_is : least ≡ unwrap_or margin 0) (f_is : f ≡ free_in ring x) where
  pub enough-free : least < f → unwrap_or margin 0 < free_in (ring_of sys a) x
  enough-free lt = subst (λ (z : ℕ × ℕ). z.0 < z.1) (λ i. (least_is i, (f_is ∙ ap (λ r. free_in r x) ring_is) i)) lt

-- counts of tries
pub no-tries : (s a b : ℕ) → a ≤ b → s + a ≤ s + b
no-tries s a b le = omega arith

pub one-try : (s s1 s2 m m1 m2 : ℕ) → s2 ≡ s1 + 1 → s1 + m ≤ s + m1 → m1 < m2 → s2 + m ≤ s + m2
one-try s s1 s2 m m1 m2 e le lt = omega arith

pub less-left : (n m1 m2 : ℕ) → m1 < n → m1 < m2 → n - m2 < n - m1
less-left n m1 m2 lt more = omega arith
