-- Where a lane notes that a subscriber stays one, or that none comes, the history has it so: the lane makes all changes of its objects.
use Rattle.std.proofs.Common.{◌≡◌, ℕ, suc, ◌≤◌, nat_le, Bool, true, false, ◌&&◌, cond, List, [], ◌∷◌, ◌++◌, length, refl, sym, ◌∙◌, ap, subst, Some, None, Option, arith, eqb, eqb-true, IsTrue}
use Rattle.std.specs.List.{filter, list_all, cons_option}
use Rattle.std.proofs.lemmas.Bool.{and_parts}
use Rattle.std.proofs.lemmas.Bool.Decides.{nat_tests}
use Rattle.std.proofs.lemmas.List.{append_assoc, append-nil}
use Rattle.std.proofs.lemmas.List.Elements.{filter-append, filter_map-append}
use Rattle.std.proofs.lemmas.List.Folds.{list_all-append}
use Rattle.qp_chart.specs.StateTree.{has}
use Rattle.qp_model.specs.declared.record.Rec.{Rec}
use Rattle.qp_model.specs.declared.systems.System.{System}
use Rattle.qp_model.specs.declared.words.Word.TheVariants as word
use Rattle.qp_model.specs.declared.bodies.Body.{Body}
use Rattle.qp_model.specs.declared.bodies.Body.TheVariants.{Same, Sub, Unsub}
use Rattle.qp_model.specs.Record.{Item}
use Rattle.qp_model.specs.Told.{Known, ToldItem}
use Rattle.qp_model.specs.Lists.{never_falls}
use Rattle.qp_model.specs.History.{Draws, touch, touch_of, same_word, mark_of, marks, marks_rise, numbered, hist, lane_items, all_items}
use Rattle.qp_model.specs.Knowing.{set_at}
use Rattle.qp_model.specs.Machine.{after, is_shown, shown_by}
use Rattle.qp_model.specs.Subscribers.{subscribers}
use Rattle.qp_model.specs.WordLaw.{Words, is_signal}
use Rattle.qp_model.proofs.HistoryLemmas.{same_word-refl}
use Rattle.qp_model.proofs.TakenLemmas.{list_all-at}
use Rattle.qp_model.proofs.WordLemmas.{all_items-append}
use Rattle.qp_plain_sound.specs.Sound.{facts_in}
use Rattle.qp_shared_lane.specs.Holds.{member_over, ChangeIs, SubscriberIs, KnowSubscribers}
use Rattle.qp_shared_ends.proofs.Changes.{changes, is_change, change-draws, AtLeast, InOrder, numbered-front, numbered-order, numbered-filter, take-hist, member-after, numbered-drawn, member-changes}

le-of : (a b : ℕ) → nat_le a b ≡ true → a ≤ b
le-of a b h = grind (arith, nat_tests)

abbrev pub same_at : ℕ → ℕ → ℕ → Item
same_at o s n = record { of = o; body = Same s n }

drawn-mark : (s : ℕ) (i : Item) (m : ℕ) → touch i ≡ Draws (word.Signal s) m → mark_of (word.Signal s) (touch i) ≡ Some m
drawn-mark s i m h = let same = same_word-refl (word.Signal s) in rw (h, same) refl

mark-self : (o s n : ℕ) → mark_of (word.Signal s) (touch (same_at o s n)) ≡ Some n
mark-self o s n = let same = same_word-refl (word.Signal s) in rw same refl

all-behind : (p : ℕ → Bool) (x : Option ℕ) (xs : List ℕ) → list_all p (cons_option x xs) ≡ true → list_all p xs ≡ true
all-behind p None xs h = h
all-behind p (Some x) xs h = (and_parts (p x) (list_all p xs) h).1

falls-behind : (x : Option ℕ) (xs : List ℕ) → never_falls (cons_option x xs) ≡ true → never_falls xs ≡ true
falls-behind None xs h = h
falls-behind (Some x) xs h = (and_parts (list_all (λ y. nat_le x y) xs) (never_falls xs) h).1

-- The changes before a record that shows n draw lower numbers, in their order
module _ (o s n : ℕ) (rest : List Item) where
  least : (m : ℕ) (xs : List Item) → list_all (λ y. nat_le m y) (marks (word.Signal s) (xs ++ same_at o s n ∷ rest)) ≡ true → AtLeast (word.Signal s) m (filter (is_change o s) xs) × (m ≤ n)
  least m [] h = (tt, le-of m n (and_parts (nat_le m n) (list_all (λ y. nat_le m y) (marks (word.Signal s) rest)) (subst (λ x. list_all (λ y. nat_le m y) (cons_option x (marks (word.Signal s) rest)) ≡ true) (mark-self o s n) h)).0)
  least m (i ∷ xs) h = let r = least m xs (all-behind (λ y. nat_le m y) (mark_of (word.Signal s) (touch i)) (marks (word.Signal s) (xs ++ same_at o s n ∷ rest)) h) in (go (is_change o s i) refl r.0, r.1)
    where
      go : (b : Bool) → is_change o s i ≡ b → AtLeast (word.Signal s) m (filter (is_change o s) xs) → AtLeast (word.Signal s) m (cond b (i ∷ filter (is_change o s) xs) (filter (is_change o s) xs))
      go false e r = r
      go true e r =
          let d = change-draws o s i.of i.body e in
          let first = subst (λ x. list_all (λ y. nat_le m y) (cons_option x (marks (word.Signal s) (xs ++ same_at o s n ∷ rest))) ≡ true) (drawn-mark s i (suc d.0) d.1) h in
          (suc d.0, d.1, le-of m (suc d.0) (and_parts (nat_le m (suc d.0)) (list_all (λ y. nat_le m y) (marks (word.Signal s) (xs ++ same_at o s n ∷ rest))) first).0, r)

  in-order : (xs : List Item) → never_falls (marks (word.Signal s) (xs ++ same_at o s n ∷ rest)) ≡ true → InOrder (word.Signal s) n (filter (is_change o s) xs)
  in-order [] h = tt
  in-order (i ∷ xs) h = go (is_change o s i) refl (in-order xs (falls-behind (mark_of (word.Signal s) (touch i)) (marks (word.Signal s) (xs ++ same_at o s n ∷ rest)) h))
    where
      go : (b : Bool) → is_change o s i ≡ b → InOrder (word.Signal s) n (filter (is_change o s) xs) → InOrder (word.Signal s) n (cond b (i ∷ filter (is_change o s) xs) (filter (is_change o s) xs))
      go false e r = r
      go true e r =
          let d = change-draws o s i.of i.body e in
          let rising = subst (λ x. never_falls (cons_option x (marks (word.Signal s) (xs ++ same_at o s n ∷ rest))) ≡ true) (drawn-mark s i (suc d.0) d.1) h in
          let l = least (suc d.0) xs (and_parts (list_all (λ y. nat_le (suc d.0) y) (marks (word.Signal s) (xs ++ same_at o s n ∷ rest))) (never_falls (marks (word.Signal s) (xs ++ same_at o s n ∷ rest))) rising).0 in
          (suc d.0, d.1, omega arith, l.1, l.0, r)

-- Those behind it draw no lower ones: a lane changes subscribers after all that it saw
abbrev pub Reaches : ℕ → ℕ → List Item → Type 0
Reaches s n before = (k : ℕ) → list_all (λ m. nat_le m k) (marks (word.Signal s) before) ≡ true → n ≤ k

reaches-more : (s n : ℕ) (before : List Item) (i : Item) → Reaches s n before → Reaches s n (before ++ i ∷ [])
reaches-more s n before i r k h = r k (and_parts (list_all (λ m. nat_le m k) (marks (word.Signal s) before)) (list_all (λ m. nat_le m k) (marks (word.Signal s) (i ∷ [])))
    (sym (list_all-append (λ m. nat_le m k) (marks (word.Signal s) before) (marks (word.Signal s) (i ∷ []))) ∙ subst (λ l. list_all (λ m. nat_le m k) l ≡ true) (filter_map-append (λ i. mark_of (word.Signal s) (touch i)) before (i ∷ [])) h)).0

pub reaches-same : (o s n : ℕ) (before : List Item) → Reaches s n (before ++ same_at o s n ∷ [])
reaches-same o s n before k h =
    let two = sym (list_all-append (λ m. nat_le m k) (marks (word.Signal s) before) (marks (word.Signal s) (same_at o s n ∷ []))) ∙ subst (λ l. list_all (λ m. nat_le m k) l ≡ true) (filter_map-append (λ i. mark_of (word.Signal s) (touch i)) before (same_at o s n ∷ [])) h in
    let last = (and_parts (list_all (λ m. nat_le m k) (marks (word.Signal s) before)) (list_all (λ m. nat_le m k) (marks (word.Signal s) (same_at o s n ∷ []))) two).1 in
    le-of n k (and_parts (nat_le n k) true (subst (λ x. list_all (λ m. nat_le m k) (cons_option x []) ≡ true) (mark-self o s n) last)).0

-- the records of what is told
abbrev pub bare : ToldItem → Item
bare t = record { of = t.of; body = t.told.body }

abbrev pub bare_all : List ToldItem → List Item
bare_all [] = []
bare_all (t ∷ ts) = bare t ∷ bare_all ts

-- a change of subscribers in a lane
record Changed (serves : ℕ → Bool) (before : List Item) (o s of : ℕ) (b : Body) : Type 0 where
  n : ℕ
  draws : touch_of of b ≡ Draws (word.Signal s) (suc n)
  served : IsTrue (serves o)
  above : list_all (λ m. nat_le m n) (marks (word.Signal s) before) ≡ true

changed-at : (serves : ℕ → Bool) (before : List Item) (o s of sig n : ℕ) (b : Body) → (eqb sig s && eqb of o) ≡ true → touch_of of b ≡ Draws (word.Signal sig) (suc n) → ChangeIs serves before of sig n → Changed serves before o s of b
changed-at serves before o s of sig n b h draws c = let p = and_parts (eqb sig s) (eqb of o) h in let same = eqb-true sig s p.0 in let mine = eqb-true of o p.1 in record {
  n = n;
  draws = draws ∙ ap (λ z. Draws (word.Signal z) (suc n)) same;
  served = subst (λ z. IsTrue (serves z)) mine c.0;
  above = subst (λ z. list_all (λ m. nat_le m n) (marks (word.Signal z) before) ≡ true) same c.1;
}

change-is : (serves : ℕ → Bool) (before : List Item) (o s of : ℕ) (b : Body) (k : Known) → changes o s of b ≡ true → SubscriberIs serves before of b k → Changed serves before o s of b
change-is serves before o s of (Sub sig n) k h c = changed-at serves before o s of sig n (Sub sig n) h refl c
change-is serves before o s of (Unsub sig n) k h c = changed-at serves before o s of sig n (Unsub sig n) h refl c
change-is serves before o s of _ k h c = absurd (cc)

pub behind-same : (serves : ℕ → Bool) (o s n : ℕ) (before : List Item) (ts : List ToldItem) → KnowSubscribers serves before ts → Reaches s n before → AtLeast (word.Signal s) (suc n) (filter (is_change o s) (bare_all ts))
unfolding KnowSubscribers
behind-same serves o s n before [] h r = tt
behind-same serves o s n before (t ∷ ts) h r = go (is_change o s (bare t)) refl (behind-same serves o s n (before ++ bare t ∷ []) ts h.1 (reaches-more s n before (bare t) r))
  where
    go : (b : Bool) → is_change o s (bare t) ≡ b → AtLeast (word.Signal s) (suc n) (filter (is_change o s) (bare_all ts)) → AtLeast (word.Signal s) (suc n) (cond b (bare t ∷ filter (is_change o s) (bare_all ts)) (filter (is_change o s) (bare_all ts)))
    go false e l = l
    go true e l = let c = change-is serves before o s t.of t.told.body t.told.known e h.0 in (suc c.n, c.draws, (let z = r c.n c.above in omega arith), l)

-- a lane that doesn't serve the object makes no change of it
pub none-other : (serves : ℕ → Bool) (o s : ℕ) (before : List Item) (ts : List ToldItem) → KnowSubscribers serves before ts → serves o ≡ false → filter (is_change o s) (bare_all ts) ≡ []
unfolding KnowSubscribers
none-other serves o s before [] h off = refl
none-other serves o s before (t ∷ ts) h off = go (is_change o s (bare t)) refl (none-other serves o s (before ++ bare t ∷ []) ts h.1 off)
  where
    go : (b : Bool) → is_change o s (bare t) ≡ b → filter (is_change o s) (bare_all ts) ≡ [] → cond b (bare t ∷ filter (is_change o s) (bare_all ts)) (filter (is_change o s) (bare_all ts)) ≡ []
    go false e l = l
    go true e l = let c = change-is serves before o s t.of t.told.body t.told.known e h.0 in let yes = c.served in absurd (cc)

module _ (sys : System) (js : List (List Rec)) (law : Words sys js) (o s : ℕ) (signal : IsTrue (is_signal sys s)) (front : List (List Rec)) (lane : List Rec) (back : List (List Rec)) (parts : js ≡ front ++ lane ∷ back)
    (before_it : filter (is_change o s) (all_items front) ≡ []) (behind_it : filter (is_change o s) (all_items back) ≡ []) where
  abbrev p : Item → Bool
  p = is_change o s

  items-parts : all_items js ≡ (all_items front ++ lane_items lane) ++ all_items back
  unfolding all_items
  items-parts = ap all_items parts ∙ (all_items-append front (lane ∷ back) ∙ sym (append_assoc (all_items front) (lane_items lane) (all_items back)))

  changes-parts : filter p (all_items js) ≡ filter p (lane_items lane)
  changes-parts =
      ap (filter p) items-parts ∙ (filter-append p (all_items front ++ lane_items lane) (all_items back)
      ∙ (ap (λ l. filter p (all_items front ++ lane_items lane) ++ l) behind_it ∙ (append-nil (filter p (all_items front ++ lane_items lane))
      ∙ (filter-append p (all_items front) (lane_items lane) ∙ ap (λ l. l ++ filter p (lane_items lane)) before_it))))

  module _ (n : ℕ) (before rest : List Item) (lane_is : lane_items lane ≡ before ++ same_at o s n ∷ rest) (above : AtLeast (word.Signal s) (suc n) (filter p rest)) where
    ordered : InOrder (word.Signal s) n (filter p before)
    unfolding marks_rise
    ordered = in-order o s n rest before
        (subst (λ l. never_falls (marks (word.Signal s) l) ≡ true) lane_is
        (list_all-at (λ (l : List Rec). never_falls (marks (word.Signal s) (lane_items l))) front lane back (subst (λ ls. list_all (λ (l : List Rec). never_falls (marks (word.Signal s) (lane_items l))) ls ≡ true) parts (law.signals s signal).marks)))

    shown-parts : all_items js ≡ (all_items front ++ before) ++ same_at o s n ∷ (rest ++ all_items back)
    shown-parts = items-parts ∙ (ap (λ l. (all_items front ++ l) ++ all_items back) lane_is ∙ (ap (λ l. l ++ all_items back) (sym (append_assoc (all_items front) before (same_at o s n ∷ rest))) ∙ append_assoc (all_items front ++ before) (same_at o s n ∷ rest) (all_items back)))

    short : n ≤ length (hist (word.Signal s) (all_items js))
    unfolding is_shown shown_by
    short =
        let one = list_all-at (λ i. shown_by subscribers (word.Signal s) (hist (word.Signal s) (all_items js)) i.body (touch i)) (all_items front ++ before) (same_at o s n) (rest ++ all_items back)
        (subst (λ l. list_all (λ i. shown_by subscribers (word.Signal s) (hist (word.Signal s) (all_items js)) i.body (touch i)) l ≡ true) shown-parts (law.signals s signal).shown) in
        within (same_word (word.Signal s) (word.Signal s)) (same_word-refl (word.Signal s)) one
      where
        within : (t : Bool) → t ≡ true → cond t (nat_le n (length (hist (word.Signal s) (all_items js))) && true) true ≡ true → n ≤ length (hist (word.Signal s) (all_items js))
        within true e h = le-of n (length (hist (word.Signal s) (all_items js))) (and_parts (nat_le n (length (hist (word.Signal s) (all_items js)))) true h).0
        within false e h = absurd (cc)

    pub member-there : has (set_at (facts_in sys js) s n) o ≡ member_over o s false before
    unfolding set_at after
    member-there =
        ap (λ l. has (after subscribers l).members o) (take-hist (word.Signal s) (all_items js) n (law.signals s signal).numbers short)
        ∙ (member-after o s (record { count = 0; members = [] }) (numbered (word.Signal s) (all_items js) n) (numbered-drawn (word.Signal s) (all_items js) n)
        ∙ (sym (member-changes o s false (numbered (word.Signal s) (all_items js) n))
        ∙ (ap (member_over o s false)
        (numbered-filter (word.Signal s) p (all_items js) n
        ∙ (ap (λ l. numbered (word.Signal s) l n) (changes-parts ∙ (ap (filter p) lane_is ∙ filter-append p before (same_at o s n ∷ rest)))
        ∙ (numbered-front (word.Signal s) (suc n) n (filter p before) (filter p rest) above (omega arith) ∙ numbered-order (word.Signal s) n (filter p before) ordered)))
        ∙ member-changes o s false before)))
