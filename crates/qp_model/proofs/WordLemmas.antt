-- What a word keeps when a record is added at the end of a lane that stands among others.
use Rattle.std.proofs.Common.{◌≡◌, ℕ, suc, ◌≤◌, ◌==◌, nat_lt, nat_le, Bool, true, false, not, ◌&&◌, ◌||◌, cond, List, [], ◌∷◌, ◌++◌, length, take, map, refl, sym, ◌∙◌, ap, Option, Some, None, append_assoc, append-nil, arith}
use Rattle.std.specs.List.{list_all, cons_option}
use Rattle.std.proofs.lemmas.Bool.{and_from, and_parts}
use Rattle.std.proofs.lemmas.List.{map-append, take_all}
use Rattle.std.proofs.lemmas.List.Elements.{filter_map-append}
use Rattle.std.proofs.lemmas.Bool.Decides.{nat_tests}
use Rattle.qp_model.specs.declared.record.Rec.{Rec}
use Rattle.qp_model.specs.declared.words.Word.{Word}
use Rattle.qp_model.specs.declared.bodies.Body.{Body}
use Rattle.qp_model.specs.Record.{Item, item_of}
use Rattle.qp_model.specs.Lists.{never_falls}
use Rattle.qp_model.specs.History.{touch, Touch, Draws, Shows, Neither, same_word, mark_of, marks, marks_rise, drawn_on, shown_on, drawn_below, drawn_as, hist, total, is_numbered, lane_items, all_items}
use Rattle.qp_model.specs.Machine.{Machine, after, is_allowed, is_shown, shown_by}
use Rattle.qp_model.specs.WordLaw.{Keeps}
use Rattle.qp_model.proofs.ListLemmas.{list_all-middle, never_falls-last}
use Rattle.qp_model.proofs.HistoryLemmas.{length-hist, hist-draws, hist-other, is_numbered-draws, is_numbered-other}
use Rattle.qp_model.proofs.MachineLemmas.{Counts, after-append, is_allowed-append, count-after, is_shown-draws, is_shown-other, shown_by-none}

-- the word keeps its law, and holds s after all its operations
pub record Held (S : Type 0) (m : Machine S) (w : Word) (lanes : List (List Rec)) (s : S) : Type 0 where
  pub keeps : Keeps S m w lanes
  pub state : after m (hist w (all_items lanes)) ≡ s

pub all_items-append : (xs ys : List (List Rec)) → all_items (xs ++ ys) ≡ all_items xs ++ all_items ys
unfolding all_items
all_items-append [] ys = refl
all_items-append (x ∷ xs) ys = rw (all_items-append xs ys) (sym (append_assoc (lane_items x) (all_items xs) (all_items ys)))

-- the mark of what draws or shows a word is at most the number of its operations
pub mark_within : {S : Type 0} (m : Machine S) (w : Word) (count : ℕ) (history : List Item) (b : Body) (t : Touch) (n : ℕ)
    → length history ≡ count → drawn_below w count t ≡ true → shown_by m w history b t ≡ true → mark_of w t ≡ Some n → n ≤ count
unfolding shown_by
mark_within m w count history b (Draws v k) n len below shown is = go (same_word v w) below is
  where
    go : (same : Bool) → (not same || (nat_lt 0 k && nat_le k count)) ≡ true → cond same (Some k) None ≡ Some n → n ≤ count
    go true e f = let is : k ≡ n = cc in grind (arith, nat_tests)
    go false e f = let wrong : n ≤ count = cc in wrong
mark_within m w count history b (Shows v k) n len below shown is = go (same_word v w) shown is
  where
    go : (same : Bool) → cond same (nat_le k (length history) && m.says (after m (take k history)) b) true ≡ true → cond same (Some k) None ≡ Some n → n ≤ count
    go true e f = let is : k ≡ n = cc in let le : nat_le k (length history) ≡ true = (and_parts _ _ e).0 in grind (arith, nat_tests)
    go false e f = let wrong : n ≤ count = cc in wrong
mark_within m w count history b Neither n len below shown is = let wrong : n ≤ count = cc in wrong

pub mark-draws : (w : Word) (n : ℕ) (t : Touch) → drawn_as w n t ≡ true → mark_of w t ≡ Some (suc n)
mark-draws w n (Draws v k) h =
    let same : same_word v w ≡ true = (and_parts _ _ h).0 in
    let here : (k == suc n) ≡ true = (and_parts _ _ h).1 in
    let is : k ≡ suc n = grind (arith, nat_tests) in
    rw (same, is) refl
mark-draws w n _ h = cc

pub mark-none : (w : Word) (t : Touch) → mark_of w t ≡ None → (drawn_on w t ≡ false) × (shown_on w t ≡ false)
mark-none w (Draws v k) h = (go (same_word v w) h, refl)
  where
    go : (same : Bool) → cond same (Some k) None ≡ None → same ≡ false
    go true e = cc
    go false e = refl
mark-none w (Shows v k) h = (refl, go (same_word v w) h)
  where
    go : (same : Bool) → cond same (Some k) None ≡ None → same ≡ false
    go true e = cc
    go false e = refl
mark-none w Neither h = (refl, refl)

shown-not_drawn : (w : Word) (t : Touch) → shown_on w t ≡ true → drawn_on w t ≡ false
shown-not_drawn w (Draws v k) h = cc
shown-not_drawn w _ h = refl

-- a record that shows w at a place of its history, and says what w held there
shown_by-says : {S : Type 0} (m : Machine S) (w : Word) (history : List Item) (b : Body) (t : Touch) (n : ℕ) → mark_of w t ≡ Some n
    → n ≤ length history → m.says (after m (take n history)) b ≡ true → shown_by m w history b t ≡ true
unfolding shown_by
shown_by-says m w history b (Shows v k) n mark le says = go (same_word v w) mark
  where
    go : (same : Bool) → cond same (Some k) None ≡ Some n → cond same (nat_le k (length history) && m.says (after m (take k history)) b) true ≡ true
    go true e =
        let is : k ≡ n = cc in
        let test : nat_le n (length history) ≡ true = grind (arith, nat_tests) in
        rw is (and_from _ _ test says)
    go false e = refl
shown_by-says m w history b _ n mark le says = refl

-- the marks of a lane on w are at most a number that is at least the count of w's operations
module _ {S : Type 0} (m : Machine S) (w : Word) (items : List Item) (n : ℕ) (numbers : is_numbered w items ≡ true) (more : total w items ≤ n) where
  one_mark : (i : Item) → drawn_below w (total w items) (touch i) ≡ true → shown_by m w (hist w items) i.body (touch i) ≡ true
      → list_all (λ x. nat_le x n) (cons_option (mark_of w (touch i)) []) ≡ true
  one_mark i below said = go (mark_of w (touch i)) refl
    where
      go : (o : Option ℕ) → mark_of w (touch i) ≡ o → list_all (λ x. nat_le x n) (cons_option o []) ≡ true
      go None was = refl
      go (Some k) was =
          let le : k ≤ total w items = mark_within m w (total w items) (hist w items) i.body (touch i) k (length-hist w items numbers) below said was in
          let test : nat_le k n ≡ true = grind (arith, nat_tests) in
          rw test refl

  pub marks_within : (lane : List Item) → list_all (λ i. drawn_below w (total w items) (touch i)) lane ≡ true → list_all (λ i. shown_by m w (hist w items) i.body (touch i)) lane ≡ true
      → list_all (λ x. nat_le x n) (marks w lane) ≡ true
  marks_within [] below said = refl
  marks_within (i ∷ is) below said =
      joined (mark_of w (touch i)) (one_mark i (and_parts _ _ below).0 (and_parts _ _ said).0) (marks_within is (and_parts _ _ below).1 (and_parts _ _ said).1)
    where
      joined : (o : Option ℕ) → list_all (λ x. nat_le x n) (cons_option o []) ≡ true → list_all (λ x. nat_le x n) (marks w is) ≡ true → list_all (λ x. nat_le x n) (cons_option o (marks w is)) ≡ true
      joined None h k = k
      joined (Some x) h k = and_from _ _ (and_parts _ _ h).0 k

-- one lane among others changes
marks_rise-change : (w : Word) (before behind : List (List Rec)) (old new : List Rec) → (never_falls (marks w (lane_items old)) ≡ true → never_falls (marks w (lane_items new)) ≡ true)
    → marks_rise w (before ++ old ∷ behind) ≡ true → marks_rise w (before ++ new ∷ behind) ≡ true
unfolding marks_rise
marks_rise-change w [] behind old new go h = and_from _ _ (go (and_parts _ _ h).0) (and_parts _ _ h).1
marks_rise-change w (x ∷ before) behind old new go h = and_from _ _ (and_parts _ _ h).0 (marks_rise-change w before behind old new go (and_parts _ _ h).1)

module _ (before : List (List Rec)) (lane : List Rec) (behind : List (List Rec)) where
  -- the records of all lanes, with the end of this one in their middle
  pub all_items-split : all_items (before ++ lane ∷ behind) ≡ (all_items before ++ lane_items lane) ++ all_items behind
  unfolding all_items
  all_items-split = all_items-append before (lane ∷ behind) ∙ sym (append_assoc (all_items before) (lane_items lane) (all_items behind))

  module _ (r : Rec) (i : Item) (is : item_of r ≡ i) where
    pub all_items-grown : all_items (before ++ (lane ++ r ∷ []) ∷ behind) ≡ (all_items before ++ lane_items lane) ++ i ∷ all_items behind
    unfolding all_items lane_items
    all_items-grown =
        all_items-append before ((lane ++ r ∷ []) ∷ behind)
        ∙ rw (map-append item_of lane (r ∷ []), is, append_assoc (map item_of lane) (i ∷ []) (all_items behind))
        (sym (append_assoc (all_items before) (map item_of lane) (i ∷ all_items behind)))

    marks-grown : (w : Word) → marks w (lane_items (lane ++ r ∷ [])) ≡ marks w (lane_items lane) ++ cons_option (mark_of w (touch i)) []
    unfolding lane_items
    marks-grown w =
        rw (map-append item_of lane (r ∷ []), is) (filter_map-append (λ j. mark_of w (touch j)) (map item_of lane) (i ∷ []))

    module _ {S : Type 0} (m : Machine S) (w : Word) (s : S) (counts : Counts S m) (old : Held S m w (before ++ lane ∷ behind) s) where
      xs : List Item
      xs = all_items before ++ lane_items lane

      ys : List Item
      ys = all_items behind

      numbers : is_numbered w (xs ++ ys) ≡ true
      unfolding xs ys
      numbers = rw (sym all_items-split) old.keeps.numbers

      allowed : is_allowed m (hist w (xs ++ ys)) ≡ true
      unfolding xs ys
      allowed = rw (sym all_items-split) old.keeps.allowed

      shown : is_shown m w (xs ++ ys) ≡ true
      unfolding xs ys
      shown = rw (sym all_items-split) old.keeps.shown

      holds : after m (hist w (xs ++ ys)) ≡ s
      unfolding xs ys
      holds = rw (sym all_items-split) old.state

      -- the word has had as many operations as its state counts
      count-total : m.count s ≡ total w (xs ++ ys)
      count-total = ap m.count (sym holds) ∙ count-after m counts (hist w (xs ++ ys)) allowed ∙ length-hist w (xs ++ ys) numbers

      -- the marks of the lane are at most n
      lane_within : (n : ℕ) → m.count s ≤ n → list_all (λ x. nat_le x n) (marks w (lane_items lane)) ≡ true
      unfolding is_numbered is_shown xs
      lane_within n more =
          marks_within m w (xs ++ ys) n numbers (omega (arith, count-total)) (lane_items lane)
          (list_all-middle (λ j. drawn_below w (total w (xs ++ ys)) (touch j)) (all_items before) (lane_items lane) ys (and_parts _ _ numbers).0)
          (list_all-middle (λ j. shown_by m w (hist w (xs ++ ys)) j.body (touch j)) (all_items before) (lane_items lane) ys shown)

      marks-more : (n : ℕ) → mark_of w (touch i) ≡ Some n → m.count s ≤ n → marks_rise w (before ++ (lane ++ r ∷ []) ∷ behind) ≡ true
      marks-more n mark more =
          marks_rise-change w before behind lane (lane ++ r ∷ [])
          (λ rising. rw (marks-grown w, mark) (never_falls-last (marks w (lane_items lane)) n rising (lane_within n more)))
          old.keeps.marks

      -- a record that draws the word's next number, and is allowed
      pub held-draws : drawn_as w (m.count s) (touch i) ≡ true → m.may s i ≡ true → Held S m w (before ++ (lane ++ r ∷ []) ∷ behind) (m.next s i)
      unfolding xs ys
      held-draws draws may =
          let next : drawn_as w (total w (xs ++ ys)) (touch i) ≡ true = rw (sym count-total) draws in
          let allows : m.may (after m (hist w (xs ++ ys))) i ≡ true = rw holds may in
          let ends : hist w (xs ++ i ∷ ys) ≡ hist w (xs ++ ys) ++ i ∷ [] = hist-draws w xs i ys numbers next in
          record {
            keeps = record {
              numbers = rw all_items-grown (is_numbered-draws w xs i ys numbers next);
              allowed = rw (all_items-grown, ends) (is_allowed-append m (hist w (xs ++ ys)) i allowed allows);
              shown = rw all_items-grown (is_shown-draws m w xs i ys numbers next shown);
              marks = marks-more (suc (m.count s)) (mark-draws w (m.count s) (touch i) draws) (omega arith);
            };
            state = rw (all_items-grown, ends, after-append m (hist w (xs ++ ys)) i, holds) refl;
          }

      -- its history has the record at its end
      pub hist-held-draws : drawn_as w (m.count s) (touch i) ≡ true → hist w (all_items (before ++ (lane ++ r ∷ []) ∷ behind)) ≡ hist w (all_items (before ++ lane ∷ behind)) ++ i ∷ []
      unfolding xs ys
      hist-held-draws draws =
          let next : drawn_as w (total w (xs ++ ys)) (touch i) ≡ true = rw (sym count-total) draws in
          rw (all_items-grown, all_items-split) (hist-draws w xs i ys numbers next)

      -- a record that draws nothing on the word, and shows nothing wrong of it, where the lane's marks stay in order
      stays : drawn_on w (touch i) ≡ false → shown_by m w (hist w (xs ++ ys)) i.body (touch i) ≡ true
          → marks_rise w (before ++ (lane ++ r ∷ []) ∷ behind) ≡ true → Held S m w (before ++ (lane ++ r ∷ []) ∷ behind) s
      unfolding xs ys
      stays other said rise =
          let same : hist w (xs ++ i ∷ ys) ≡ hist w (xs ++ ys) = hist-other w xs i ys other in
          record {
            keeps = record {
              numbers = rw all_items-grown (is_numbered-other w xs i ys other numbers);
              allowed = rw (all_items-grown, same) allowed;
              shown = rw all_items-grown (is_shown-other m w xs i ys other said shown);
              marks = rise;
            };
            state = rw (all_items-grown, same) holds;
          }

      -- a record that shows what the word holds now
      pub held-shows : mark_of w (touch i) ≡ Some (m.count s) → shown_on w (touch i) ≡ true → m.says s i.body ≡ true
          → Held S m w (before ++ (lane ++ r ∷ []) ∷ behind) s
      unfolding xs ys
      held-shows mark shows says =
          let long : length (hist w (xs ++ ys)) ≡ m.count s = length-hist w (xs ++ ys) numbers ∙ sym count-total in
          let whole : take (m.count s) (hist w (xs ++ ys)) ≡ hist w (xs ++ ys) = take_all (m.count s) (hist w (xs ++ ys)) (omega arith) in
          let now : m.says (after m (take (m.count s) (hist w (xs ++ ys)))) i.body ≡ true = rw (whole, holds) says in
          stays (shown-not_drawn w (touch i) shows)
          (shown_by-says m w (hist w (xs ++ ys)) i.body (touch i) (m.count s) mark (omega arith) now)
          (marks-more (m.count s) mark (omega arith))

      -- a record that is on another word, or on none
      pub held-other : mark_of w (touch i) ≡ None → Held S m w (before ++ (lane ++ r ∷ []) ∷ behind) s
      unfolding xs ys
      held-other none =
          stays (mark-none w (touch i) none).0
          (shown_by-none m w (hist w (xs ++ ys)) i.body (touch i) (mark-none w (touch i) none).1)
          (marks_rise-change w before behind lane (lane ++ r ∷ []) (λ rising. rw (marks-grown w, none) (still rising)) old.keeps.marks)
        where
          still : never_falls (marks w (lane_items lane)) ≡ true → never_falls (marks w (lane_items lane) ++ []) ≡ true
          still rising = rw append-nil rising

    -- where the record draws nothing on the word, its history stays
    pub hist-stays : (w : Word) → drawn_on w (touch i) ≡ false → hist w (all_items (before ++ (lane ++ r ∷ []) ∷ behind)) ≡ hist w (all_items (before ++ lane ∷ behind))
    hist-stays w other = rw (all_items-grown, all_items-split) (hist-other w (all_items before ++ lane_items lane) i (all_items behind) other)
