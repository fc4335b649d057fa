-- Queues that are empty, by the counts of their words and by the records.
use Rattle.std.proofs.Common.{◌≡◌, ℕ, ◌+◌, ◌<◌, ◌≤◌, ◌==◌, Bool, true, false, ◌&&◌, List, [], ◌∷◌, ◌++◌, length, take, drop, get_or, slice_get, refl, sym, ◌∙◌, ap, subst, arith, append_assoc, IsTrue, Some, if◌then◌else◌}
use Rattle.std.specs.List.{count_by, find, list_all}
use Rattle.std.specs.Option.{is_some}
use Rattle.std.proofs.lemmas.Bool.{and_parts, eqb-true, ne_eqb, eq-eqb}
use Rattle.std.proofs.lemmas.Bool.Decides.{nat_tests}
use Rattle.std.proofs.lemmas.List.{take_more, take-append-drop, take_all}
use Rattle.std.proofs.lemmas.Option.{slice_get-get_or}
use Rattle.qp_model.specs.declared.words.Word.TheVariants as word
use Rattle.qp_model.specs.declared.systems.ObjectDef.{ObjectDef}
use Rattle.qp_model.specs.OneOrder.{all_empty, enters, leaves}
use Rattle.qp_model.specs.Sites.{object_at}
use Rattle.qp_model.specs.WordLaw.{is_object}
use Rattle.qp_model.specs.Line.{Line}
use Rattle.qp_model.proofs.FitsLemmas.{all-append}
use Rattle.qp_model.proofs.ObjectLemmas.{object-there}
use Rattle.qp_calls.specs.declared.answers.Counts as counts
use Rattle.qp_calls.specs.LaneView.{Counts}
use Rattle.qp_plain_sound.specs.View.{view_of, shown_in}
use Rattle.qp_plain_sound.specs.WordStates.{line_in}
use Rattle.qp_plain_sound.proofs.EntryCounts.{entered-counts, left-counts}
use Rattle.qp_plain_words.specs.Queue.{Queue}
use Rattle.qp_plain.specs.declared.world.PlainWorld.{PlainWorld}
use Rattle.qp_plain.specs.Book.{lists_of}
use Rattle.qp_plain.specs.NewWorld.{log_in}
use Rattle.qp_plain.specs.WorldView.{world_view}
use Rattle.qp_plain.proofs.Calling.{queue-at}

-- as many entries were posted to the object as it took
abbrev pub is_empty : PlainWorld → ObjectDef → Bool
is_empty w d = count_by (λ x. enters d.priority x.item) (log_in w) == count_by (λ x. leaves d.priority x.item) (log_in w)

one-fails : {X : Type 0} (p : X → Bool) (xs : List X) (y : X) (ys : List X) → p y ≡ false → list_all p (xs ++ y ∷ ys) ≡ false
one-fails p [] y ys h = rw h refl
one-fails p (x ∷ xs) y ys h = go (p x) (one-fails p xs y ys h)
  where
    go : (u : Bool) → list_all p (xs ++ y ∷ ys) ≡ false → (u && list_all p (xs ++ y ∷ ys)) ≡ false
    go true k = k
    go false k = refl

-- the same by the line of the queue
pub empty-line : (w : PlainWorld) (d : ObjectDef) → IsTrue (is_object w.sys.now d.priority) → (line_in w.sys.now (lists_of w.book) d.priority).f + (line_in w.sys.now (lists_of w.book) d.priority).l ≡ (line_in w.sys.now (lists_of w.book) d.priority).m
    → is_empty w d ≡ true
empty-line w d object is =
    eq-eqb _ _ (entered-counts w.sys.now (lists_of w.book) w.book.order.items w.holds.world d.priority object ∙ is ∙ sym (left-counts w.sys.now (lists_of w.book) w.book.order.items w.holds.world d.priority object))

pub full-line : (w : PlainWorld) (d : ObjectDef) → IsTrue (is_object w.sys.now d.priority) → ((line_in w.sys.now (lists_of w.book) d.priority).f + (line_in w.sys.now (lists_of w.book) d.priority).l ≡ (line_in w.sys.now (lists_of w.book) d.priority).m → ⊥)
    → is_empty w d ≡ false
full-line w d object is =
    ne_eqb _ _ (λ same. is (sym (entered-counts w.sys.now (lists_of w.book) w.book.order.items w.holds.world d.priority object) ∙ same ∙ left-counts w.sys.now (lists_of w.book) w.book.order.items w.holds.world d.priority object))

-- An object at a place of the list.

pub record Here (w : PlainWorld) (i : ℕ) (d : ObjectDef) : Type 0 where
  pub object : IsTrue (is_object w.sys.now d.priority)
  pub more : take (i + 1) w.sys.now.objects ≡ take i w.sys.now.objects ++ d ∷ []
  pub split : w.sys.now.objects ≡ take i w.sys.now.objects ++ d ∷ drop (i + 1) w.sys.now.objects

pub here : (w : PlainWorld) (ys : List ObjectDef) (i : ℕ) (d : ObjectDef) → ys ≡ w.sys.now.objects → i < length ys → d ≡ get_or ys i d → Here w i d
unfolding is_object object_at
here w ys i d same lt is =
    let at : slice_get w.sys.now.objects i ≡ Some d = ap (λ zs. slice_get zs i) (sym same) ∙ slice_get-get_or ys i d lt ∙ ap Some (sym is) in
    let front : take (i + 1) ys ≡ take i ys ++ d ∷ [] = take_more ys i d lt ∙ ap (λ x. take i ys ++ x ∷ []) (sym is) in
    let whole : ys ≡ take i ys ++ d ∷ drop (i + 1) ys =
    sym (take-append-drop (i + 1) ys) ∙ ap (λ zs. zs ++ drop (i + 1) ys) front ∙ append_assoc (take i ys) (d ∷ []) (drop (i + 1) ys) in
    record {
      object = object-there d.priority w.sys.now.objects i d at refl;
      more = subst (λ zs. take (i + 1) zs ≡ take i zs ++ d ∷ []) same front;
      split = subst (λ zs. zs ≡ take i zs ++ d ∷ drop (i + 1) zs) same whole;
    }

-- Its queue, by the counts of its word.
module _ (w : PlainWorld) (i k : ℕ) (d : ObjectDef) (q : Queue) (at : Here w i d) (place : k ≡ d.priority) (its : q ≡ get_or w.queues.items k q) (c : counts.Counts)
    (firsts : c.f ≡ q.line.f) (lasts : c.l ≡ q.line.l) (takes : c.m ≡ q.line.m) where
  its_line : q.line ≡ line_in w.sys.now (lists_of w.book) d.priority
  its_line = ap (λ (x : Queue). x.line) (queue-at w d.priority k q at.object place its)

  pub empty-more : list_all (is_empty w) (take i w.sys.now.objects) ≡ true → c.f + c.l ≡ c.m → list_all (is_empty w) (take (i + 1) w.sys.now.objects) ≡ true
  empty-more before none =
      let one : is_empty w d ≡ true = empty-line w d at.object (omega (arith, none, firsts ∙ ap (λ x. x.f) its_line, lasts ∙ ap (λ x. x.l) its_line, takes ∙ ap (λ x. x.m) its_line)) in
      let last : list_all (is_empty w) (d ∷ []) ≡ true = rw one refl in
      ap (list_all (is_empty w)) at.more ∙ all-append (is_empty w) (take i w.sys.now.objects) (d ∷ []) before last

  pub empty-not : (c.f + c.l ≡ c.m → ⊥) → false ≡ all_empty w.sys.now (log_in w)
  unfolding all_empty
  empty-not some =
      let one : is_empty w d ≡ false = full-line w d at.object (λ none. some (omega (arith, none, firsts ∙ ap (λ x. x.f) its_line, lasts ∙ ap (λ x. x.l) its_line, takes ∙ ap (λ x. x.m) its_line))) in
      sym (ap (list_all (is_empty w)) at.split ∙ one-fails (is_empty w) (take i w.sys.now.objects) d (drop (i + 1) w.sys.now.objects) one)

pub empty-all : (w : PlainWorld) (i : ℕ) → list_all (is_empty w) (take i w.sys.now.objects) ≡ true → length w.sys.now.objects ≤ i → true ≡ all_empty w.sys.now (log_in w)
unfolding all_empty
empty-all w i before all = sym (ap (list_all (is_empty w)) (sym (take_all i w.sys.now.objects all)) ∙ before)

pub place-there : (w : PlainWorld) (a k : ℕ) → IsTrue (is_object w.sys.now a) → k ≡ a → k < length w.queues.items
place-there w a k h at = let few = w.holds.limits.objects a h in omega (arith, few.1, at, w.holds.queues_hold.long)

-- What a world with empty queues shows.

found : (to : ℕ) (p : ObjectDef → Bool) (ds : List ObjectDef) → is_some (find (λ x. x.priority == to) ds) ≡ true → list_all p ds ≡ true → (d : ObjectDef) × (d.priority ≡ to) × (p d ≡ true)
found to p [] some all = absurd (cc)
found to p (x ∷ xs) some all =
    let parts = and_parts (p x) (list_all p xs) all in
    go (x.priority == to) refl some (λ h. found to p xs h parts.1) parts.0
  where
    go : (u : Bool) → (x.priority == to) ≡ u → is_some (if u then Some x else find (λ y. y.priority == to) xs) ≡ true
        → (is_some (find (λ y. y.priority == to) xs) ≡ true → (d : ObjectDef) × (d.priority ≡ to) × (p d ≡ true)) → p x ≡ true → (d : ObjectDef) × (d.priority ≡ to) × (p d ≡ true)
    go true is h ih first = let same : x.priority ≡ to = grind (arith, nat_tests) in (x, same, first)
    go false is h ih first = ih h

pub rests-counts : (w : PlainWorld) → all_empty w.sys.now (log_in w) ≡ true → (p : ℕ) → IsTrue (is_object w.sys.now p)
    → (f l m : ℕ) × ((world_view w).shown (word.Queue p) ≡ Counts f l m) × (f + l ≡ m)
unfolding all_empty is_object object_at view_of shown_in
rests-counts w empty p object =
    let line : Line = line_in w.sys.now (lists_of w.book) p in
    let one = found p (is_empty w) w.sys.now.objects object empty in
    let same : count_by (λ x. enters one.0.priority x.item) (log_in w) ≡ count_by (λ x. leaves one.0.priority x.item) (log_in w) = eqb-true _ _ one.2 in
    let its : count_by (λ x. enters p x.item) (log_in w) ≡ count_by (λ x. leaves p x.item) (log_in w) =
    subst (λ a. count_by (λ x. enters a x.item) (log_in w) ≡ count_by (λ x. leaves a x.item) (log_in w)) one.1 same in (
      line.f,
      line.l,
      line.m,
      refl,
      sym (entered-counts w.sys.now (lists_of w.book) w.book.order.items w.holds.world p object) ∙ its
          ∙ left-counts w.sys.now (lists_of w.book) w.book.order.items w.holds.world p object,
    )
