-- The marks of the records that don't stand in the order yet.
use Rattle.std.proofs.Common.{◌≡◌, ◌≢◌, ◌∙◌, ℕ, zero, suc, ◌+◌, ◌^◌, ◌≤◌, ◌<◌, ◌==◌, nat_lt, nat_le, Bool, true, false, not, ◌&&◌, ◌||◌, Option, Some, None, List, [], ◌∷◌, ◌++◌, length, get_or, set, replicate, refl, sym, ap, subst, arith, add-one, lit<, MatchOption, get_or-set_same, get_or-set_other}
use Rattle.std.specs.Prelude.{IsTrue, is_some, slice_get}
use Rattle.std.specs.List.{AllByRecursion}
use Rattle.std.specs.Option.{option_and_then}
use Rattle.std.proofs.lemmas.Bool.{and_parts, or_right}
use Rattle.std.proofs.lemmas.Bool.Decides.{nat_tests}
use Rattle.std.proofs.Math.Bool.{or-false, and-true, and-false}
use Rattle.qp_model.specs.declared.record.Rec.{Rec}
use Rattle.qp_model.specs.declared.words.Word.{Word}
use Rattle.qp_model.specs.Record.{Item, item_of}
use Rattle.qp_model.specs.History.{Touch, Draws, Shows, Neither, same_word}
use Rattle.qp_model.specs.Places.{RecordPlace, item_at, must_precede, touch_at, touch_first}
use Rattle.qp_check_lanes.specs.Keys.{key_of}
use Rattle.qp_replay.specs.Orders.{is_record}
use Rattle.qp_replay.specs.Marks.{has_mark}
use Rattle.qp_replay.specs.Remaining.{Blocks, HasNext, IsRemaining, LaneFronts, draws_mark, front, head, record_place, record_in, shows_mark}
use Rattle.qp_replay.specs.declared.marks.Marks.{Marks}

-- one record more in a lane, under a test that none passes where there is no record
pub record_in-more : (f : Option Item → Bool) → f None ≡ false → (xs : List Rec) (r : Rec) (k : ℕ)
    → f (record_in (xs ++ r ∷ []) k) ≡ (f (record_in xs k) || (f (Some (item_of r)) && (length xs == k)))
unfolding record_in
record_in-more f none [] r zero = rw none (sym (and-true (f (Some (item_of r)))))
record_in-more f none [] r (suc k) = let no : (0 == suc k) ≡ false = grind (arith, nat_tests) in rw (none, no) (sym (and-false (f (Some (item_of r)))))
record_in-more f none (x ∷ xs) r zero =
    let no : (length (x ∷ xs) == 0) ≡ false = grind (arith, nat_tests) in
    rw no (sym (ap (λ b. f (Some (item_of x)) || b) (and-false (f (Some (item_of r)))) ∙ or-false (f (Some (item_of x)))))
record_in-more f none (x ∷ xs) r (suc k) = let same : (length (x ∷ xs) == suc k) ≡ (length xs == k) = grind (arith, nat_tests) in rw same (record_in-more f none xs r k)

-- one lane more
pub item_at-more : (f : Option Item → Bool) → f None ≡ false → (xs : List (List Rec)) (l : List Rec) (n k : ℕ)
    → f (item_at (xs ++ l ∷ []) (record_place n k)) ≡ (f (item_at xs (record_place n k)) || ((length xs == n) && f (record_in l k)))
unfolding item_at record_in
item_at-more f none [] l zero k = rw none refl
item_at-more f none [] l (suc n) k = let no : (0 == suc n) ≡ false = grind (arith, nat_tests) in rw (none, no) refl
item_at-more f none (x ∷ xs) l zero k =
    let no : (length (x ∷ xs) == 0) ≡ false = grind (arith, nat_tests) in
    rw no (sym (or-false (f (record_in x k))))
item_at-more f none (x ∷ xs) l (suc n) k = let same : (length (x ∷ xs) == suc n) ≡ (length xs == n) = grind (arith, nat_tests) in rw same (item_at-more f none xs l n k)

-- marks that are put, record by record and lane by lane
pub put-none : (f : Option Item → Bool) → f None ≡ false → (h b : Bool) (k : ℕ) → h ≡ (h || (b && f (record_in [] k)))
unfolding record_in
put-none f none h b k = rw none (sym (ap (λ c. h || c) (and-false b) ∙ or-false h))

pub put-next : (f : Option Item → Bool) → f None ≡ false → (xs : List Rec) (r : Rec) (k : ℕ) (first b has more : Bool) → has ≡ (first || (b && f (record_in xs k)))
    → more ≡ (has || (f (Some (item_of r)) && (b && (length xs == k)))) → more ≡ (first || (b && f (record_in (xs ++ r ∷ []) k)))
put-next f none xs r k first b has more was is =
    is ∙ ap (λ h. h || (f (Some (item_of r)) && (b && (length xs == k)))) was ∙ go first b (f (record_in xs k)) (f (Some (item_of r))) (length xs == k)
    ∙ ap (λ c. first || (b && c)) (sym (record_in-more f none xs r k))
  where
    go : (first b F D E : Bool) → ((first || (b && F)) || (D && (b && E))) ≡ (first || (b && (F || (D && E))))
    go true b F D E = refl
    go false false F D E = and-false D
    go false true F D E = refl

pub lane-next : (f : Option Item → Bool) → f None ≡ false → (xs : List (List Rec)) (l : List Rec) (n k : ℕ) (has more : Bool) → has ≡ f (item_at xs (record_place n k))
    → more ≡ (has || ((length xs == n) && f (record_in l k))) → more ≡ f (item_at (xs ++ l ∷ []) (record_place n k))
lane-next f none xs l n k has more was is = is ∙ ap (λ h. h || ((length xs == n) && f (record_in l k))) was ∙ sym (item_at-more f none xs l n k)

-- no lane has a record where there is none
pub no-lane : (n k : ℕ) → item_at [] (record_place n k) ≡ None
unfolding item_at
no-lane n k = refl

-- whether there is a record, by the length of its lane
lane-test : (l : List Rec) (k : ℕ) → is_some (record_in l k) ≡ nat_lt k (length l)
unfolding record_in
lane-test [] k = grind (arith, nat_tests)
lane-test (x ∷ xs) zero = grind (arith, nat_tests)
lane-test (x ∷ xs) (suc k) = lane-test xs k ∙ grind (arith, nat_tests)

pub record-test : (lanes : List (List Rec)) (n k : ℕ) → is_record lanes (record_place n k) ≡ nat_lt k (length (get_or lanes n []))
unfolding is_record item_at record_in
record-test [] n k = grind (arith, nat_tests)
record-test (l ∷ ls) zero k = lane-test l k
record-test (l ∷ ls) (suc n) k = record-test ls n k

-- the record that is found
pub item_at-found : (lanes : List (List Rec)) (n k : ℕ) (l : List Rec) (r : Rec) → n < length lanes → get_or lanes n l ≡ l → k < length l → get_or l k r ≡ r → item_at lanes (record_place n k) ≡ Some (item_of r)
unfolding item_at
item_at-found [] n k l r within is small found = absurd (omega (arith, within))
item_at-found (x ∷ lanes) zero k l r within is small found = ap (λ l. option_and_then (λ r. Some (item_of r)) (slice_get l k)) is ∙ go l k small found
  where
    go : (l : List Rec) (k : ℕ) → k < length l → get_or l k r ≡ r → option_and_then (λ r. Some (item_of r)) (slice_get l k) ≡ Some (item_of r)
    go [] k small found = absurd (omega (arith, small))
    go (x ∷ xs) zero small found = ap (λ r. Some (item_of r)) found
    go (x ∷ xs) (suc k) small found = go xs k (omega (arith, small)) found
item_at-found (x ∷ lanes) (suc n) k l r within is small found = item_at-found lanes n k l r (omega (arith, within)) is small found

-- a lane with a record is one of the lanes
pub lane-of : (lanes : List (List Rec)) (n k : ℕ) → IsTrue (is_record lanes (record_place n k)) → (n < length lanes) × (k < length (get_or lanes n []))
lane-of lanes n k h =
    let within : k < length (get_or lanes n []) = grind (arith, nat_tests, record-test lanes n k, h) in
    (go lanes n within, within)
  where
    go : (lanes : List (List Rec)) (n : ℕ) → k < length (get_or lanes n []) → n < length lanes
    go [] n less = absurd (omega (arith, less))
    go (l ∷ ls) zero less = omega arith
    go (l ∷ ls) (suc n) less = let remaining : n < length ls = go ls n less in omega (arith, remaining)

-- what draws a number with a mark, and what shows one
pub draws-touch : (w : Word) (m : ℕ) (t : Touch) → draws_mark w m t ≡ true → (v : Word) × (t ≡ Draws v m) × (same_word v w ≡ true)
draws-touch w m (Draws v n) h =
    let parts = and_parts _ _ h in
    let same : n ≡ m = grind (arith, nat_tests, parts.1) in
    (v, ap (λ k. Draws v k) same, parts.0)
draws-touch w m (Shows v n) h = absurd (cc h)
draws-touch w m Neither h = absurd (cc h)

pub shows-touch : (w : Word) (m : ℕ) (t : Touch) → shows_mark w m t ≡ true → (v : Word) × (t ≡ Shows v m) × (same_word v w ≡ true)
shows-touch w m (Shows v n) h =
    let parts = and_parts _ _ h in
    let same : n ≡ m = grind (arith, nat_tests, parts.1) in
    (v, ap (λ k. Shows v k) same, parts.0)
shows-touch w m (Draws v n) h = absurd (cc h)
shows-touch w m Neither h = absurd (cc h)

-- a record that isn't in the order yet and whose touch comes first
blocks : (st : LaneFronts) (n : ℕ) (x : RecordPlace) (t : Touch) → front st x.lane ≤ x.at → touch_at (item_at st.lanes (head st n)) ≡ t
    → is_some (item_at st.lanes x) ≡ true → touch_first (touch_at (item_at st.lanes x)) t ≡ true → Blocks st n x
unfolding is_record must_precede
blocks st n x t behind is stands first = record {
  waits = record { stands = stands; behind = behind };
  first = rw is (or_right _ _ first);
}

-- a record that draws a number or shows its word is there
drawn-there : (o : Option Item) (v : Word) (m : ℕ) → touch_at o ≡ Draws v m → is_some o ≡ true
drawn-there None v m is = absurd (cc is)
drawn-there (Some i) v m is = refl

shown-there : (o : Option Item) (v : Word) (m : ℕ) → touch_at o ≡ Shows v m → is_some o ≡ true
shown-there None v m is = absurd (cc is)
shown-there (Some i) v m is = refl

pub draw-blocks : (st : LaneFronts) (draws shows : Marks) (n : ℕ) (v : Word) (m l p : ℕ) (t : Touch) → IsRemaining st.lanes st.fronts draws shows → touch_at (item_at st.lanes (head st n)) ≡ t
    → has_mark draws (key_of v) (m, l, p) ≡ true → ((u : Word) → same_word u v ≡ true → touch_first (Draws u m) t ≡ true) → Blocks st n (record_place l p)
draw-blocks st draws shows n v m l p t remaining is has first =
    let parts = and_parts (nat_le (front st l) p) (draws_mark v m (touch_at (item_at st.lanes (record_place l p)))) (sym (remaining.draws_are v m l p) ∙ has) in
    let found = draws-touch v m (touch_at (item_at st.lanes (record_place l p))) parts.1 in
    let behind : front st l ≤ p = grind (arith, nat_tests, parts.0) in
    blocks st n (record_place l p) t behind is (drawn-there (item_at st.lanes (record_place l p)) found.0 m found.1) (rw found.1 (first found.0 found.2))

pub show-blocks : (st : LaneFronts) (draws shows : Marks) (n : ℕ) (v : Word) (m l p : ℕ) (t : Touch) → IsRemaining st.lanes st.fronts draws shows → touch_at (item_at st.lanes (head st n)) ≡ t
    → has_mark shows (key_of v) (m, l, p) ≡ true → ((u : Word) → same_word u v ≡ true → touch_first (Shows u m) t ≡ true) → Blocks st n (record_place l p)
show-blocks st draws shows n v m l p t remaining is has first =
    let parts = and_parts (nat_le (front st l) p) (shows_mark v m (touch_at (item_at st.lanes (record_place l p)))) (sym (remaining.shows_are v m l p) ∙ has) in
    let found = shows-touch v m (touch_at (item_at st.lanes (record_place l p))) parts.1 in
    let behind : front st l ≤ p = grind (arith, nat_tests, parts.0) in
    blocks st n (record_place l p) t behind is (shown-there (item_at st.lanes (record_place l p)) found.0 m found.1) (rw found.1 (first found.0 found.2))

-- what blocks a lane touches its word
blocked-by : (st : LaneFronts) (n : ℕ) (x : RecordPlace) → Blocks st n x → touch_first (touch_at (item_at st.lanes x)) (touch_at (item_at st.lanes (head st n))) ≡ true
unfolding must_precede
blocked-by st n x b = go (x.lane == n) (nat_lt x.at (front st n)) refl refl b.first
  where
    go : (same less : Bool) → (x.lane == n) ≡ same → nat_lt x.at (front st n) ≡ less → ((same && less) || touch_first (touch_at (item_at st.lanes x)) (touch_at (item_at st.lanes (head st n)))) ≡ true
        → touch_first (touch_at (item_at st.lanes x)) (touch_at (item_at st.lanes (head st n))) ≡ true
    go false less e f h = h
    go true false e f h = h
    go true true e f h =
        let is : x.lane ≡ n = grind (arith, nat_tests) in
        let behind : front st n ≤ x.at = subst (λ k. front st k ≤ x.at) is b.waits.behind in
        let less : x.at < front st n = grind (arith, nat_tests) in
        absurd (omega (arith, behind, less))

waits-draws : (st : LaneFronts) (draws shows : Marks) (x : RecordPlace) (u v : Word) (m : ℕ) → IsRemaining st.lanes st.fronts draws shows → front st x.lane ≤ x.at → touch_at (item_at st.lanes x) ≡ Draws u m → same_word u v ≡ true
    → has_mark draws (key_of v) (m, x.lane, x.at) ≡ true
waits-draws st draws shows x u v m remaining behind is same =
    let le : nat_le (front st x.lane) x.at ≡ true = grind (arith, nat_tests, behind) in
    let eq : (m == m) ≡ true = grind (arith, nat_tests) in
    remaining.draws_are v m x.lane x.at ∙ rw (le, is, same, eq) refl

waits-shows : (st : LaneFronts) (draws shows : Marks) (x : RecordPlace) (u v : Word) (m : ℕ) → IsRemaining st.lanes st.fronts draws shows → front st x.lane ≤ x.at → touch_at (item_at st.lanes x) ≡ Shows u m → same_word u v ≡ true
    → has_mark shows (key_of v) (m, x.lane, x.at) ≡ true
waits-shows st draws shows x u v m remaining behind is same =
    let le : nat_le (front st x.lane) x.at ≡ true = grind (arith, nat_tests, behind) in
    let eq : (m == m) ≡ true = grind (arith, nat_tests) in
    remaining.shows_are v m x.lane x.at ∙ rw (le, is, same, eq) refl

-- nothing blocks a record that draws a number, where no lower mark is left
pub draw-free : (st : LaneFronts) (draws shows : Marks) (n : ℕ) (v : Word) (mark : ℕ) → IsRemaining st.lanes st.fronts draws shows → touch_at (item_at st.lanes (head st n)) ≡ Draws v mark
    → ((e : ℕ × ℕ × ℕ) → has_mark draws (key_of v) e ≡ true → mark ≤ e.0) → ((e : ℕ × ℕ × ℕ) → has_mark shows (key_of v) e ≡ true → mark ≤ e.0) → (x : RecordPlace) → Blocks st n x → ⊥
draw-free st draws shows n v mark remaining is drawn shown x b = go (touch_at (item_at st.lanes x)) refl (sym (ap (touch_first (touch_at (item_at st.lanes x))) is) ∙ blocked-by st n x b)
  where
    go : (t : Touch) → touch_at (item_at st.lanes x) ≡ t → touch_first (touch_at (item_at st.lanes x)) (Draws v mark) ≡ true → ⊥
    go (Draws u m) e h =
        let parts = and_parts _ _ (ap (λ t. touch_first t (Draws v mark)) (sym e) ∙ h) in
        let le : mark ≤ m = drawn (m, x.lane, x.at) (waits-draws st draws shows x u v m remaining b.waits.behind e parts.0) in
        let less : m < mark = grind (arith, nat_tests, parts.1) in
        omega (arith, le, less)
    go (Shows u m) e h =
        let parts = and_parts _ _ (ap (λ t. touch_first t (Draws v mark)) (sym e) ∙ h) in
        let le : mark ≤ m = shown (m, x.lane, x.at) (waits-shows st draws shows x u v m remaining b.waits.behind e parts.0) in
        let less : m < mark = grind (arith, nat_tests, parts.1) in
        omega (arith, le, less)
    go Neither e h = let wrong = ap (λ t. touch_first t (Draws v mark)) (sym e) ∙ h in cc wrong

-- nothing blocks a record that shows its word, where no number below what it shows is left
pub show-free : (st : LaneFronts) (draws shows : Marks) (n : ℕ) (v : Word) (mark : ℕ) → IsRemaining st.lanes st.fronts draws shows → touch_at (item_at st.lanes (head st n)) ≡ Shows v mark
    → ((e : ℕ × ℕ × ℕ) → has_mark draws (key_of v) e ≡ true → mark < e.0) → (x : RecordPlace) → Blocks st n x → ⊥
show-free st draws shows n v mark remaining is drawn x b = go (touch_at (item_at st.lanes x)) refl (sym (ap (touch_first (touch_at (item_at st.lanes x))) is) ∙ blocked-by st n x b)
  where
    go : (t : Touch) → touch_at (item_at st.lanes x) ≡ t → touch_first (touch_at (item_at st.lanes x)) (Shows v mark) ≡ true → ⊥
    go (Draws u m) e h =
        let parts = and_parts _ _ (ap (λ t. touch_first t (Shows v mark)) (sym e) ∙ h) in
        let less : mark < m = drawn (m, x.lane, x.at) (waits-draws st draws shows x u v m remaining b.waits.behind e parts.0) in
        let le : m ≤ mark = grind (arith, nat_tests, parts.1) in
        omega (arith, le, less)
    go (Shows u m) e h = let wrong = ap (λ t. touch_first t (Shows v mark)) (sym e) ∙ h in cc wrong
    go Neither e h = let wrong = ap (λ t. touch_first t (Shows v mark)) (sym e) ∙ h in cc wrong

-- nothing blocks a record that is on no word
pub none-free : (st : LaneFronts) (n : ℕ) → touch_at (item_at st.lanes (head st n)) ≡ Neither → (x : RecordPlace) → Blocks st n x → ⊥
none-free st n is x b = go (touch_at (item_at st.lanes x)) (sym (ap (touch_first (touch_at (item_at st.lanes x))) is) ∙ blocked-by st n x b)
  where
    go : (t : Touch) → touch_first t Neither ≡ true → ⊥
    go (Draws u m) h = cc h
    go (Shows u m) h = cc h
    go Neither h = cc h

-- the marks that are left after the next record of a lane; G is whether that record has the mark
pub passed : (fronts : List ℕ) (lane n k : ℕ) (F G : Bool) → lane < length fronts → (n ≡ lane → k ≡ get_or fronts lane 0 → F ≡ G)
    → ((nat_le (get_or fronts n 0) k && F) && not (G && ((lane == n) && (get_or fronts lane 0 == k)))) ≡ (nat_le (get_or (set fronts lane (get_or fronts lane 0 + 1)) n 0) k && F)
passed fronts lane n k F G within same = go (lane == n) (get_or fronts lane 0 == k) refl refl
  where
    all-true : (a : Bool) → (a && not (G && false)) ≡ a
    all-true true = ap not (and-false G)
    all-true false = refl

    go : (here there : Bool) → (lane == n) ≡ here → (get_or fronts lane 0 == k) ≡ there
        → ((nat_le (get_or fronts n 0) k && F) && not (G && (here && there))) ≡ (nat_le (get_or (set fronts lane (get_or fronts lane 0 + 1)) n 0) k && F)
    go false there e f =
        let apart : n ≢ lane = grind (arith, nat_tests) in
        let still : get_or (set fronts lane (get_or fronts lane 0 + 1)) n 0 ≡ get_or fronts n 0 = rw get_or-set_other in
        all-true _ ∙ ap (λ a. nat_le a k && F) (sym still)
    go true there e f =
        let is : lane ≡ n = grind (arith, nat_tests) in
        let at : get_or fronts n 0 ≡ get_or fronts lane 0 = ap (λ i. get_or fronts i 0) (sym is) in
        let next : get_or (set fronts lane (get_or fronts lane 0 + 1)) lane 0 ≡ get_or fronts lane 0 + 1 = rw get_or-set_same in
        let now : get_or (set fronts lane (get_or fronts lane 0 + 1)) n 0 ≡ get_or fronts lane 0 + 1 = ap (λ i. get_or (set fronts lane (get_or fronts lane 0 + 1)) i 0) (sym is) ∙ next in
        ap (λ a. (nat_le a k && F) && not (G && there)) at ∙ here (get_or fronts lane 0) there f (same (sym is)) ∙ ap (λ a. nat_le a k && F) (sym now)
      where
        here : (a : ℕ) (there : Bool) → (a == k) ≡ there → (k ≡ a → F ≡ G) → ((nat_le a k && F) && not (G && there)) ≡ (nat_le (a + 1) k && F)
        here a true e same =
            let is : k ≡ a = grind (arith, nat_tests) in
            let past : nat_le (a + 1) k ≡ false = grind (arith, nat_tests) in
            let le : nat_le a k ≡ true = grind (arith, nat_tests) in
            rw (past, le) (gone F G (same is))
          where
            gone : (F G : Bool) → F ≡ G → (F && not (G && true)) ≡ false
            gone false G h = refl
            gone true true h = refl
            gone true false h = cc
        here a false e same =
            let apart : a ≢ k = grind (arith, nat_tests) in
            let le : nat_le a k ≡ nat_le (a + 1) k = grind (arith, nat_tests) in
            all-true _ ∙ ap (λ b. b && F) le

-- nothing is passed at first
pub no-front : (size n : ℕ) → get_or {A = ℕ} (replicate size 0) n 0 ≡ 0
no-front zero n = refl
no-front (suc size) zero = refl
no-front (suc size) (suc n) = no-front size n

pub none-passed : (size n k : ℕ) (F : Bool) → F ≡ (nat_le (get_or {A = ℕ} (replicate size 0) n 0) k && F)
none-passed size n k F = let none = no-front size n in let le : nat_le 0 k ≡ true = grind (arith, nat_tests) in rw (none, le) refl

pub one-front-more : (n : ℕ) (fs gs : List ℕ) → fs ≡ replicate n 0 → gs ≡ fs ++ 0 ∷ [] → gs ≡ replicate (n + 1) 0
one-front-more n fs gs was is = is ∙ ap (λ l. l ++ 0 ∷ []) was ∙ go n ∙ ap (λ k. replicate {A = ℕ} k 0) (sym (add-one n))
  where
    go : (n : ℕ) → replicate {A = ℕ} n 0 ++ 0 ∷ [] ≡ replicate (suc n) 0
    go zero = refl
    go (suc n) = ap (λ l. 0 ∷ l) (go n)

pub length-fronts : (n : ℕ) → length (replicate {A = ℕ} n 0) ≡ n
length-fronts zero = refl
length-fronts (suc n) = ap suc (length-fronts n)

-- a lane is short
pub lane-small : (lanes : List (List Rec)) → AllByRecursion (λ l. length l < 2 ^ 32) lanes → (n : ℕ) → length (get_or lanes n []) < 2 ^ 32
lane-small [] small n = lit< tt
lane-small (l ∷ ls) small zero = small.0
lane-small (l ∷ ls) small (suc n) = lane-small ls small.1 n

-- the next record of a lane, by the parts of what holds the lanes and fronts
pub next-at : (st : LaneFronts) (lanes : List (List Rec)) (n k : ℕ) → st.lanes ≡ lanes → k ≡ front st n → HasNext st n → IsTrue (is_record lanes (record_place n k))
next-at st lanes n k same at next = ap (λ l. is_record l (record_place n k)) (sym same) ∙ ap (λ k. is_record st.lanes (record_place n k)) at ∙ next

pub touch-of : (st : LaneFronts) (lanes : List (List Rec)) (n k : ℕ) (t : Touch) → st.lanes ≡ lanes → k ≡ front st n → t ≡ touch_at (item_at lanes (record_place n k)) → t ≡ touch_at (item_at st.lanes (head st n))
touch-of st lanes n k t same at is = is ∙ ap (λ l. touch_at (item_at l (record_place n k))) (sym same) ∙ ap (λ k. touch_at (item_at st.lanes (record_place n k))) at

pub match-map : {A : Type 0} (r : Option A) (P P' : Type 0) (Q Q' : A → Type 0) → MatchOption r P Q → (P → P') → ((x : A) → Q x → Q' x) → MatchOption r P' Q'
match-map None P P' Q Q' h none some = none h
match-map (Some x) P P' Q Q' h none some = some x h

pub passed-mark : (fronts : List ℕ) (lane n k l p x : ℕ) (F G has new : Bool) → lane < length fronts → (n ≡ lane → k ≡ get_or fronts lane 0 → F ≡ G) → l ≡ lane → p ≡ get_or fronts lane 0 → x ≡ get_or fronts lane 0
    → has ≡ (nat_le (get_or fronts n 0) k && F) → new ≡ (has && not (G && ((l == n) && (p == k)))) → new ≡ (nat_le (get_or (set fronts lane (x + 1)) n 0) k && F)
passed-mark fronts lane n k l p x F G has new within same there at is had gone =
    gone ∙ ap (λ h. h && not (G && ((l == n) && (p == k)))) had ∙ ap (λ l. (nat_le (get_or fronts n 0) k && F) && not (G && ((l == n) && (p == k)))) there
    ∙ ap (λ p. (nat_le (get_or fronts n 0) k && F) && not (G && ((lane == n) && (p == k)))) at ∙ passed fronts lane n k F G within same
    ∙ ap (λ x. nat_le (get_or (set fronts lane (x + 1)) n 0) k && F) (sym is)
