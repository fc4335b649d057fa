-- An object takes what its queue gives, in order.
use Rattle.std.proofs.Common.{◌≡◌, ◌≢◌, ℕ, suc, zero, ◌+◌, ◌<◌, ◌≤◌, ◌==◌, nat_lt, nat_le, Bool, true, false, not, ◌&&◌, ◌||◌, cond, List, [], ◌∷◌, ◌++◌, length, drop, refl, sym, ◌∙◌, ap, subst, Some, None, append_assoc, append-nil, arith}
use Rattle.std.specs.Prelude.{IsTrue, ⊤}
use Rattle.std.specs.declared.option.Option.{Option}
use Rattle.std.specs.Option.{unwrap_or, is_some}
use Rattle.std.specs.List.{list_all, filter, filter_map, slice_get, cons_option}
use Rattle.std.proofs.lemmas.Bool.{and_parts}
use Rattle.std.proofs.lemmas.Bool.Decides.{nat_tests}
use Rattle.std.proofs.lemmas.List.Elements.{filter_map-append, filter-append}
use Rattle.qp_model.specs.declared.words.Word.{Word}
use Rattle.qp_model.specs.declared.words.Word.TheVariants as word
use Rattle.qp_model.specs.declared.bodies.Entry.{Entry}
use Rattle.qp_model.specs.declared.bodies.Body.{Body}
use Rattle.qp_model.specs.declared.bodies.Body.TheVariants as body
use Rattle.qp_model.specs.Record.{Item}
use Rattle.qp_model.specs.declared.record.Rec.{Rec}
use Rattle.qp_model.specs.declared.stimulus.Stim.{Stim}
use Rattle.qp_model.specs.declared.systems.System.{System}
use Rattle.qp_model.specs.declared.journals.Journal.{Journal}
use Rattle.qp_model.specs.Knowing.{Facts, told, records_of, ceiling_after}
use Rattle.qp_model.specs.Line.{Line, line}
use Rattle.qp_model.specs.Sites.{ring_of}
use Rattle.qp_model.specs.WordLaw.{Keeps, is_object}
use Rattle.qp_model.specs.Kernels.{port}
use Rattle.qp_model.specs.Home.{lane_at, home_of, by_object}
use Rattle.qp_model.specs.Lawful.{Lawful, SourceLanes, facts_of, lanes_before}
use Rattle.qp_model.specs.Laws.{taken_entry, entries_taken_by, entries_taken_in}
use Rattle.qp_model.specs.Lists.{never_falls}
use Rattle.qp_model.specs.History.{Touch, Draws, touch, touch_of, same_word, drawn_as, drawn_below, mark_of, marks, numbered, lane_items, all_items, hist, total, is_numbered, marks_rise}
use Rattle.qp_model.proofs.ListLemmas.{filter-none, list_all-middle}
use Rattle.qp_model.proofs.WordLemmas.{all_items-append}

-- the record draws a number of w, and this is its mark
pub record DrawsMark (w : Word) (i : Item) (m : ℕ) : Type 0 where
  pub draws : touch i ≡ Draws w m
  pub same : same_word w w ≡ true

drawn-at : (w : Word) (i : Item) (m n : ℕ) → DrawsMark w i m → m ≡ suc n → drawn_as w n (touch i) ≡ true
drawn-at w i m n h e = let test : (m == suc n) ≡ true = grind (arith, nat_tests, e) in rw (h.draws, h.same) test

drawn-not : (w : Word) (i : Item) (m n : ℕ) → DrawsMark w i m → m ≢ suc n → drawn_as w n (touch i) ≡ false
drawn-not w i m n h e = let test : (m == suc n) ≡ false = grind (arith, nat_tests, e) in rw (h.draws, h.same) test

-- each record draws a number of w, with a mark of at least m
abbrev AtLeast : Word → ℕ → List Item → Type 0
AtLeast w m [] = ⊤
AtLeast w m (i ∷ is) = (n : ℕ) × DrawsMark w i n × (m ≤ n) × AtLeast w m is

-- records in the order of their marks, which are 1 to count
abbrev InOrder : Word → ℕ → List Item → Type 0
InOrder w count [] = ⊤
InOrder w count (i ∷ is) = (n : ℕ) × DrawsMark w i n × (0 < n) × (n ≤ count) × AtLeast w n is × InOrder w count is

filter-below : (w : Word) (m n : ℕ) (is : List Item) → AtLeast w m is → suc n < m → filter (λ i. drawn_as w n (touch i)) is ≡ []
filter-below w m n [] h below = refl
filter-below w m n (i ∷ is) (k, draws, least, rest) below =
    let other : k ≢ suc n = λ e. absurd (omega (arith, e, least, below)) in
    rw (drawn-not w i k n draws other) (filter-below w m n is rest below)

numbered-below : (w : Word) (m n : ℕ) (is : List Item) → AtLeast w m is → n < m → numbered w is n ≡ []
unfolding numbered
numbered-below w m zero is h below = refl
numbered-below w m (suc n) is h below =
    let less : n < m = omega (arith, below) in
    rw (numbered-below w m n is h less, filter-below w m n is h below) refl

-- a record whose mark is not above the others' comes first
numbered-cons : (w : Word) (m n : ℕ) (i : Item) (is : List Item) → DrawsMark w i m → 0 < m → AtLeast w m is → m ≤ n → numbered w (i ∷ is) n ≡ i ∷ numbered w is n
unfolding numbered
numbered-cons w m zero i is h some least within = absurd (omega (arith, some, within))
numbered-cons w m (suc n) i is h some least within = go (nat_le m n) refl (λ le. numbered-cons w m n i is h some least le)
  where
    go : (b : Bool) → nat_le m n ≡ b → (m ≤ n → numbered w (i ∷ is) n ≡ i ∷ numbered w is n) → numbered w (i ∷ is) (suc n) ≡ i ∷ numbered w is (suc n)
    go true e before =
        let le : m ≤ n = grind (arith, nat_tests, e) in
        let other : m ≢ suc n = λ is. absurd (omega (arith, is, le)) in
        rw (before le, drawn-not w i m n h other) refl
    go false e before =
        let last : m ≡ suc n = grind (arith, nat_tests, e, within) in
        let less : n < m = omega (arith, last) in
        rw (numbered-below w m n (i ∷ is) (m, h, omega arith, least) less, numbered-below w m n is least less, drawn-at w i m n h last) refl

-- records in the order of their marks are their own history
numbered-order : (w : Word) (n : ℕ) (is : List Item) → InOrder w n is → numbered w is n ≡ is
unfolding numbered
numbered-order w n [] h = numbered-none w n
  where
    numbered-none : (w : Word) (n : ℕ) → numbered w [] n ≡ []
    numbered-none w zero = refl
    numbered-none w (suc n) = rw (numbered-none w n) refl
numbered-order w n (i ∷ is) (m, draws, some, within, least, rest) = numbered-cons w m n i is draws some least within ∙ ap (λ xs. i ∷ xs) (numbered-order w n is rest)

-- what f gives of the records that pass p
module _ {A B : Type 0} (f : A → Option B) (p : A → Bool) (gives : (x : A) → p x ≡ false → f x ≡ None) where
  pub filter_map-filter : (xs : List A) → filter_map f (filter p xs) ≡ filter_map f xs
  filter_map-filter [] = refl
  filter_map-filter (x ∷ xs) = go (p x) refl (filter_map-filter xs)
    where
      go : (b : Bool) → p x ≡ b → filter_map f (filter p xs) ≡ filter_map f xs → filter_map f (cond b (x ∷ filter p xs) (filter p xs)) ≡ filter_map f (x ∷ xs)
      go true e h = ap (λ ys. cons_option (f x) ys) h
      go false e h = h ∙ ap (λ o. cons_option o (filter_map f xs)) (sym (gives x e))

  -- also where another test is asked before
  filter_map-filter_of : (q : A → Bool) (xs : List A) → filter_map f (filter q (filter p xs)) ≡ filter_map f (filter q xs)
  filter_map-filter_of q [] = refl
  filter_map-filter_of q (x ∷ xs) = outer (p x) refl (filter_map-filter_of q xs)
    where
      outer : (b : Bool) → p x ≡ b → filter_map f (filter q (filter p xs)) ≡ filter_map f (filter q xs)
          → filter_map f (filter q (cond b (x ∷ filter p xs) (filter p xs))) ≡ filter_map f (cond (q x) (x ∷ filter q xs) (filter q xs))
      outer true e h = inner (q x)
        where
          inner : (c : Bool) → filter_map f (cond c (x ∷ filter q (filter p xs)) (filter q (filter p xs))) ≡ filter_map f (cond c (x ∷ filter q xs) (filter q xs))
          inner true = ap (λ ys. cons_option (f x) ys) h
          inner false = h
      outer false e h = inner (q x)
        where
          inner : (c : Bool) → filter_map f (filter q (filter p xs)) ≡ filter_map f (cond c (x ∷ filter q xs) (filter q xs))
          inner true = h ∙ ap (λ o. cons_option o (filter_map f (filter q xs))) (sym (gives x e))
          inner false = h

-- the records by which o takes, and their entries
abbrev pub is_taking : Body → Bool
is_taking b = is_some (taken_entry b)

abbrev pub takes_for : ℕ → Item → Bool
takes_for o i = (i.of == o) && is_taking i.body

abbrev pub entry_for : ℕ → Item → Option Entry
entry_for o i = cond (i.of == o) (taken_entry i.body) None

entry_for-not : (o : ℕ) (i : Item) → takes_for o i ≡ false → entry_for o i ≡ None
entry_for-not o i h = go (i.of == o) (taken_entry i.body) h
  where
    go : (b : Bool) (e : Option Entry) → (b && is_some e) ≡ false → cond b e None ≡ None
    go false e h = refl
    go true None h = refl
    go true (Some e) h = absurd (cc)

-- a take of o draws a number of its queue
taking-draws : (o of : ℕ) (b : Body) → of ≡ o → is_taking b ≡ true → (m : ℕ) × (touch_of of b ≡ Draws (word.Queue o) m)
taking-draws o of (body.Took f l m e) same h = (f + l + m, ap (λ x. Draws (word.Queue x) (f + l + m)) same)
taking-draws o of _ same h = absurd (cc)

takes-mark : (o : ℕ) (i : Item) → takes_for o i ≡ true → (m : ℕ) × DrawsMark (word.Queue o) i m
takes-mark o i h =
    let test : (i.of == o) ≡ true = (and_parts _ _ h).0 in
    let same : i.of ≡ o = grind (arith, nat_tests, test) in
    let self : (o == o) ≡ true = grind (arith, nat_tests) in
    let drawn = taking-draws o i.of i.body same (and_parts _ _ h).1 in
    (drawn.0, record { draws = drawn.1; same = self })

never_falls-rest : (o : Option ℕ) (xs : List ℕ) → never_falls (cons_option o xs) ≡ true → never_falls xs ≡ true
never_falls-rest None xs h = h
never_falls-rest (Some x) xs h = (and_parts _ _ h).1

all-rest : (p : ℕ → Bool) (o : Option ℕ) (xs : List ℕ) → list_all p (cons_option o xs) ≡ true → list_all p xs ≡ true
all-rest p None xs h = h
all-rest p (Some x) xs h = (and_parts _ _ h).1

mark-draws : (w : Word) (i : Item) (m : ℕ) → DrawsMark w i m → mark_of w (touch i) ≡ Some m
mark-draws w i m h = rw (h.draws, h.same) refl

-- the takes of o in a lane whose later marks are at least m
takes-least : (o m : ℕ) (is : List Item) → list_all (λ y. nat_le m y) (marks (word.Queue o) is) ≡ true → AtLeast (word.Queue o) m (filter (takes_for o) is)
takes-least o m [] h = tt
takes-least o m (i ∷ is) h = go (takes_for o i) refl (takes-least o m is (all-rest _ (mark_of (word.Queue o) (touch i)) _ h))
  where
    go : (b : Bool) → takes_for o i ≡ b → AtLeast (word.Queue o) m (filter (takes_for o) is) → AtLeast (word.Queue o) m (cond b (i ∷ filter (takes_for o) is) (filter (takes_for o) is))
    go false e rest = rest
    go true e rest =
        let drawn = takes-mark o i e in
        let mark : mark_of (word.Queue o) (touch i) ≡ Some drawn.0 = mark-draws (word.Queue o) i drawn.0 drawn.1 in
        let first : list_all (λ y. nat_le m y) (cons_option (Some drawn.0) (marks (word.Queue o) is)) ≡ true = subst (λ x. list_all (λ y. nat_le m y) (cons_option x (marks (word.Queue o) is)) ≡ true) mark h in
        let test : nat_le m drawn.0 ≡ true = (and_parts _ _ first).0 in
        (drawn.0, drawn.1, grind (arith, nat_tests, test), rest)

-- the takes of o in a lane stand in the order of their numbers
takes-order : (o n : ℕ) (is : List Item) → never_falls (marks (word.Queue o) is) ≡ true → list_all (λ i. drawn_below (word.Queue o) n (touch i)) is ≡ true
    → InOrder (word.Queue o) n (filter (takes_for o) is)
takes-order o n [] rise below = tt
takes-order o n (i ∷ is) rise below = go (takes_for o i) refl (takes-order o n is (never_falls-rest (mark_of (word.Queue o) (touch i)) _ rise) (and_parts _ _ below).1)
  where
    go : (b : Bool) → takes_for o i ≡ b → InOrder (word.Queue o) n (filter (takes_for o) is) → InOrder (word.Queue o) n (cond b (i ∷ filter (takes_for o) is) (filter (takes_for o) is))
    go false e rest = rest
    go true e rest =
        let drawn = takes-mark o i e in
        let mark : mark_of (word.Queue o) (touch i) ≡ Some drawn.0 = mark-draws (word.Queue o) i drawn.0 drawn.1 in
        let rising : never_falls (cons_option (Some drawn.0) (marks (word.Queue o) is)) ≡ true = subst (λ x. never_falls (cons_option x (marks (word.Queue o) is)) ≡ true) mark rise in
        let here : drawn_below (word.Queue o) n (touch i) ≡ true = (and_parts _ _ below).0 in
        let limit : (nat_lt 0 drawn.0 && nat_le drawn.0 n) ≡ true = within n drawn.0 (touch i) drawn.1.draws drawn.1.same here in
        let low : nat_lt 0 drawn.0 ≡ true = (and_parts _ _ limit).0 in
        let high : nat_le drawn.0 n ≡ true = (and_parts _ _ limit).1 in
        (drawn.0, drawn.1, grind (arith, nat_tests, low), grind (arith, nat_tests, high), takes-least o drawn.0 is (and_parts _ _ rising).0, rest)
      where
        within : (n m : ℕ) (t : Touch) → t ≡ Draws (word.Queue o) m → same_word (word.Queue o) (word.Queue o) ≡ true → drawn_below (word.Queue o) n t ≡ true → (nat_lt 0 m && nat_le m n) ≡ true
        within n m t is same below =
            let at : (not (same_word (word.Queue o) (word.Queue o)) || (nat_lt 0 m && nat_le m n)) ≡ true = subst (λ x. drawn_below (word.Queue o) n x ≡ true) is below in
            let at2 : (not true || (nat_lt 0 m && nat_le m n)) ≡ true = subst (λ x. (not x || (nat_lt 0 m && nat_le m n)) ≡ true) same at in at2

-- of a word's numbers only the takes of o have entries of o
numbered-takes : (o n : ℕ) (items : List Item) → filter_map (entry_for o) (numbered (word.Queue o) items n) ≡ filter_map (entry_for o) (numbered (word.Queue o) (filter (takes_for o) items) n)
unfolding numbered
numbered-takes o zero items = refl
numbered-takes o (suc n) items =
    filter_map-append (entry_for o) (numbered (word.Queue o) items n) (filter (λ i. drawn_as (word.Queue o) n (touch i)) items)
    ∙ ap (λ xs. xs ++ filter_map (entry_for o) (filter (λ i. drawn_as (word.Queue o) n (touch i)) items)) (numbered-takes o n items)
    ∙ ap (λ xs. filter_map (entry_for o) (numbered (word.Queue o) (filter (takes_for o) items) n) ++ xs)
    (sym (filter_map-filter_of (entry_for o) (takes_for o) (entry_for-not o) (λ i. drawn_as (word.Queue o) n (touch i)) items))
    ∙ sym (filter_map-append (entry_for o) (numbered (word.Queue o) (filter (takes_for o) items) n) (filter (λ i. drawn_as (word.Queue o) n (touch i)) (filter (takes_for o) items)))

pub drop-head : {A : Type 0} (n : ℕ) (xs : List A) (y : A) (ys : List A) → drop n xs ≡ y ∷ ys → (slice_get xs n ≡ Some y) × (drop (n + 1) xs ≡ ys)
drop-head zero [] y ys e = absurd (cc)
drop-head (suc n) [] y ys e = absurd (cc)
drop-head zero (x ∷ xs) y ys e = let first : x ≡ y = cc in let rest : xs ≡ ys = cc in (ap (λ z. Some z) first, rest)
drop-head (suc n) (x ∷ xs) y ys e =
    let behind = drop-head n xs y ys e in
    let next : suc n + 1 ≡ suc (n + 1) = omega arith in
    (behind.0, rw next behind.1)

-- records without an object take nothing
none-alone : (o : ℕ) (is : List Item) → 0 < o → list_all (λ i. i.of == 0) is ≡ true → filter (takes_for o) is ≡ []
none-alone o is some alone = filter-none (takes_for o) (λ i. i.of == 0) is (λ i e. let zero_of : i.of ≡ 0 = grind (arith, nat_tests, e) in let other : (i.of == o) ≡ false = grind (arith, nat_tests, zero_of, some) in rw other refl) alone

-- nor do the lanes of sources
pub none-in-sources : (sys : System) (j : Journal) (o : ℕ) → 0 < o → (ls : List (List Rec)) (n : ℕ) (stimuli : List (List Stim))
    → drop n j.lanes ≡ ls → SourceLanes sys j n stimuli → length ls ≡ length stimuli → filter (takes_for o) (all_items ls) ≡ []
unfolding SourceLanes all_items
none-in-sources sys j o some [] n stimuli at h len = refl
none-in-sources sys j o some (l ∷ ls) n [] at h len = absurd (omega (arith, len))
none-in-sources sys j o some (l ∷ ls) n (ss ∷ more) at h len =
    let behind = drop-head n j.lanes l ls at in
    let here : lane_at j n ≡ l = ap (λ x. unwrap_or x []) behind.0 in
    let alone : list_all (λ i. i.of == 0) (lane_items l) ≡ true = subst (λ x. list_all (λ i. i.of == 0) (lane_items x) ≡ true) here h.0.alone in
    let shorter : length ls ≡ length more = omega (arith, len) in
    filter-append (takes_for o) (lane_items l) (all_items ls)
    ∙ rw (none-alone o (lane_items l) some alone, none-in-sources sys j o some ls (n + 1) more behind.1 h.1 shorter) refl

-- what an object's own list takes
pub told-takes : (w : Facts) (o c : ℕ) (is : List Item) → entries_taken_in (records_of w o c is) ≡ filter_map (entry_for o) is
unfolding entries_taken_in records_of told
told-takes w o c [] = refl
told-takes w o c (i ∷ is) = go (i.of == o) (told-takes w o (ceiling_after c i.body) is)
  where
    go : (b : Bool) → filter_map (λ t. taken_entry t.body) (records_of w o (ceiling_after c i.body) is) ≡ filter_map (entry_for o) is
        → filter_map (λ t. taken_entry t.body) (cond b (told w o c i.body ∷ records_of w o (ceiling_after c i.body) is) (records_of w o (ceiling_after c i.body) is))
        ≡ cons_option (cond b (taken_entry i.body) None) (filter_map (entry_for o) is)
    go true h = ap (λ xs. cons_option (taken_entry i.body) xs) h
    go false h = h

pub list_all-at : {A : Type 0} (p : A → Bool) (xs : List A) (y : A) (ys : List A) → list_all p (xs ++ y ∷ ys) ≡ true → p y ≡ true
list_all-at p [] y ys h = (and_parts _ _ h).0
list_all-at p (x ∷ xs) y ys h = list_all-at p xs y ys (and_parts _ _ h).1

-- where all takes of o stand in one lane, they are those of the queue's history, in its order
module _ (o ring : ℕ) (front : List (List Rec)) (lane : List Rec) (back : List (List Rec)) (keeps : Keeps Line (line ring) (word.Queue o) (front ++ lane ∷ back))
    (before : filter (takes_for o) (all_items front) ≡ []) (behind : filter (takes_for o) (all_items back) ≡ []) where
  all_items-parts : all_items (front ++ lane ∷ back) ≡ (all_items front ++ lane_items lane) ++ all_items back
  unfolding all_items
  all_items-parts = all_items-append front (lane ∷ back) ∙ sym (append_assoc (all_items front) (lane_items lane) (all_items back))

  takes-parts : filter (takes_for o) (all_items (front ++ lane ∷ back)) ≡ filter (takes_for o) (lane_items lane)
  takes-parts =
      ap (filter (takes_for o)) all_items-parts ∙ filter-append (takes_for o) (all_items front ++ lane_items lane) (all_items back)
      ∙ rw (behind, append-nil (filter (takes_for o) (all_items front ++ lane_items lane)), filter-append (takes_for o) (all_items front) (lane_items lane), before) refl

  takes-ordered : InOrder (word.Queue o) (total (word.Queue o) (all_items (front ++ lane ∷ back))) (filter (takes_for o) (lane_items lane))
  unfolding is_numbered marks_rise
  takes-ordered =
      let n = total (word.Queue o) (all_items (front ++ lane ∷ back)) in
      let below : list_all (λ i. drawn_below (word.Queue o) n (touch i)) (all_items (front ++ lane ∷ back)) ≡ true = (and_parts _ _ keeps.numbers).0 in
      let parts : list_all (λ i. drawn_below (word.Queue o) n (touch i)) ((all_items front ++ lane_items lane) ++ all_items back) ≡ true =
      subst (λ xs. list_all (λ i. drawn_below (word.Queue o) n (touch i)) xs ≡ true) all_items-parts below in
      takes-order o n (lane_items lane)
      (list_all-at (λ l. never_falls (marks (word.Queue o) (lane_items l))) front lane back keeps.marks)
      (list_all-middle (λ i. drawn_below (word.Queue o) n (touch i)) (all_items front) (lane_items lane) (all_items back) parts)

  pub history-takes : filter_map (entry_for o) (hist (word.Queue o) (all_items (front ++ lane ∷ back))) ≡ filter_map (entry_for o) (lane_items lane)
  unfolding hist
  history-takes =
      let n = total (word.Queue o) (all_items (front ++ lane ∷ back)) in
      numbered-takes o n (all_items (front ++ lane ∷ back))
      ∙ ap (λ xs. filter_map (entry_for o) (numbered (word.Queue o) xs n)) takes-parts
      ∙ ap (filter_map (entry_for o)) (numbered-order (word.Queue o) n (filter (takes_for o) (lane_items lane)) takes-ordered)
      ∙ filter_map-filter (entry_for o) (takes_for o) (entry_for-not o) (lane_items lane)

-- under a kernel
pub kernel_takes : (sys : System) (stimuli : List (List Stim)) (j : Journal) → Lawful sys stimuli j → j.kernel ≢ port → (o : ℕ) → 0 < o → IsTrue (is_object sys o)
    → entries_taken_in (by_object (facts_of sys j) j o) ≡ entries_taken_by o (hist (word.Queue o) (all_items j.lanes))
unfolding by_object entries_taken_by home_of all_items facts_of
kernel_takes sys stimuli j h other o some is = go (j.kernel == port) refl j.lanes refl
  where
    alone : (j.kernel == port) ≡ false → home_of sys j o ≡ 0
    alone e = rw e refl

    one_before : (j.kernel == port) ≡ false → lanes_before sys j ≡ 1
    one_before e = rw e refl

    go : (b : Bool) → (j.kernel == port) ≡ b → (lanes : List (List Rec)) → j.lanes ≡ lanes
        → entries_taken_in (by_object (facts_of sys j) j o) ≡ entries_taken_by o (hist (word.Queue o) (all_items j.lanes))
    go true e lanes at = let is : j.kernel ≡ port = grind (arith, nat_tests, e) in absurd (other is)
    go false e [] at =
        let count : length j.lanes ≡ lanes_before sys j + length stimuli = grind (arith, nat_tests, h.sources.count) in
        let one : lanes_before sys j ≡ 1 = one_before e in
        let none : length j.lanes ≡ 0 = ap length at in
        absurd (omega (arith, count, one, none))
    go false e (l ∷ ls) at =
        let count : length j.lanes ≡ lanes_before sys j + length stimuli = grind (arith, nat_tests, h.sources.count) in
        let one : lanes_before sys j ≡ 1 = one_before e in
        let whole : length j.lanes ≡ suc (length ls) = ap length at in
        let rest : length ls ≡ length stimuli = omega (arith, count, one, whole) in
        let sources : SourceLanes sys j 1 stimuli = subst (λ n. SourceLanes sys j n stimuli) one h.sources.lanes in
        let keeps : Keeps Line (line (ring_of sys o)) (word.Queue o) (l ∷ ls) = subst (Keeps Line (line (ring_of sys o)) (word.Queue o)) at (h.words.queues o is) in
        let behind : filter (takes_for o) (all_items ls) ≡ [] = none-in-sources sys j o some ls 1 stimuli (ap (drop 1) at) sources rest in
        let given : filter_map (entry_for o) (hist (word.Queue o) (all_items (l ∷ ls))) ≡ filter_map (entry_for o) (lane_items l) = history-takes o (ring_of sys o) [] l ls keeps refl behind in
        let home : lane_at j (home_of sys j o) ≡ l = ap (lane_at j) (alone e) ∙ ap (λ x. unwrap_or (slice_get x 0) []) at in
        told-takes (facts_of sys j) o 0 (lane_items (lane_at j (home_of sys j o)))
        ∙ ap (λ x. filter_map (entry_for o) (lane_items x)) home
        ∙ sym given ∙ ap (λ x. filter_map (entry_for o) (hist (word.Queue o) (all_items x))) (sym at)
