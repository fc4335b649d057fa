-- A world along a serial order of a lawful journal: its records are those of a front of the order, and its hands are its owners' together.
use Rattle.std.proofs.Common.{◌≡◌, ◌≢◌, ◌∙◌, ℕ, zero, suc, ◌+◌, ◌<◌, ◌≤◌, ◌==◌, Bool, true, false, cond, List, [], ◌∷◌, ◌++◌, length, drop, take, refl, sym, ap, subst, arith, ◌⊎◌, inl, inr, Some, length-append, length-set}
use Rattle.std.specs.Prelude.{slice_get}
use Rattle.std.specs.List.{AllByRecursion, list_all}
use Rattle.std.specs.Option.{option_and_then, unwrap_or}
use Rattle.std.proofs.lemmas.Bool.{cases_eq, and_parts}
use Rattle.std.proofs.lemmas.Bool.Decides.{nat_tests}
use Rattle.std.proofs.lemmas.List.{append-nil}
use Rattle.std.proofs.lemmas.List.Elements.{filter-append}
use Rattle.qp_model.specs.declared.record.Rec.{Rec}
use Rattle.qp_model.specs.declared.stimulus.Stim.{Stim}
use Rattle.qp_model.specs.declared.words.Word.{Word}
use Rattle.qp_model.specs.declared.words.Word.TheVariants as word
use Rattle.qp_model.specs.declared.systems.System.{System}
use Rattle.qp_model.specs.declared.journals.Journal.{Journal}
use Rattle.qp_model.specs.declared.bodies.Body.{Body}
use Rattle.qp_model.specs.declared.bodies.Body.TheVariants as item
use Rattle.qp_model.specs.Record.{Item, item_of}
use Rattle.qp_model.specs.Told.{Known, Left, Told}
use Rattle.qp_model.specs.History.{Touch, Draws, Shows, Neither, all_items, drawn_as, drawn_on, hist, is_numbered, lane_items, total, touch, touch_of}
use Rattle.qp_model.specs.Knowing.{Facts, ceiling_after, ceiling_over, known_of, references_after, records_of, told}
use Rattle.qp_model.specs.Places.{IsSerial, RecordPlace, is_next, item_at, items_at}
use Rattle.qp_model.specs.WordLaw.{Keeps, is_block}
use Rattle.qp_model.specs.Machine.{Machine, after}
use Rattle.qp_model.specs.References.{references}
use Rattle.qp_model.specs.Sound.{IsSound}
use Rattle.qp_model.specs.Home.{lane_at}
use Rattle.qp_model.specs.Lawful.{Lawful, facts_of}
use Rattle.qp_model.proofs.HistoryLemmas.{hist-draws, hist-other, length-hist, same_word-refl}
use Rattle.qp_model.proofs.KnowingLemmas.{records_of-append, same_word-is, next-draws}
use Rattle.qp_stim.specs.Rules.{StimuliFit}
use Rattle.qp_calls.specs.Counting.{count_of, one_if, times}
use Rattle.qp_calls.specs.Tokens.{Token, Held, Loose, hands_by, hands_of, stands}
use Rattle.qp_plain_sound.specs.Log.{lane_recs, with_record}
use Rattle.qp_plain_sound.specs.May.{May}
use Rattle.qp_plain_sound.specs.Sound.{BlockIn, SoundWorld, facts_in, hands_in, is_good, names_block, sum_below}
use Rattle.qp_plain_sound.specs.WordStates.{refs_in}
use Rattle.qp_plain_sound.proofs.Logs.{lane-set_other, lane-set_same}
use Rattle.qp_plain_sound.proofs.Times.{all-stands, stands-times, sum-change, sum-same, times-append}
use Rattle.qp_plain_sound.proofs.WorldLemmas as front_of
use Rattle.qp_plain_sound.proofs.WorldLemmas.{hands_now, world-more}
use Rattle.qp_replay.specs.Numbers.{has_word, is_on}
use Rattle.qp_replay.proofs.NamedRecords.{SureBody, all-from, named-records, sure-records}
use Rattle.qp_model.specs.Ends.{spills_in}
use Rattle.qp_replay.proofs.LaneSpills.{SpillLast}
use Rattle.qp_replay.proofs.NextMay.{Knows, TookGood, claims, hands-same, LeftAlike, next-may}
use Rattle.qp_replay.proofs.NextRecords.{history, items-push, next}
use Rattle.qp_replay.proofs.Histories.{on_word}
use Rattle.qp_replay.proofs.CallRecords.{Claims, Lin, Uses, hands_told, told-append}
use Rattle.qp_model.proofs.NumberLemmas.{every-append}
use Rattle.qp_model.proofs.ListLemmas.{take-next}

-- the records of an owner in a lane, and what they leave in its hands
unfoldable pub local : System → Journal → List (List Rec) → ℕ → ℕ → List Token
unfolding facts_of records_of lane_items
local sys j W a o = hands_told [] (records_of (facts_of sys j) o 0 (lane_items (lane_recs W a)))

-- how often a token is in the hands of all owners, of so many lanes and objects
unfoldable pub owned : System → Journal → List (List Rec) → ℕ → ℕ → Token → ℕ
unfolding local sum_below
owned sys j W lanes objects t = sum_below lanes (λ a. sum_below objects (λ o. count_of t (local sys j W a o)))

pub record Along (sys : System) (j : Journal) (objects : ℕ) (A : List RecordPlace) (W : List (List Rec)) (O : List ℕ) : Type 0 where
  pub wide : length W ≡ length j.lanes
  pub fronts : (a : ℕ) → lane_recs W a ≡ take (length (lane_recs W a)) (lane_recs j.lanes a)
  pub counts : (a : ℕ) → length (lane_recs W a) ≡ times (λ y. y.lane == a) A
  pub hists : (w : Word) → hist w (all_items W) ≡ on_word w (items_at j.lanes A)
  pub sums : (t : Token) → count_of t (hands_in sys W O) ≡ owned sys j W (length j.lanes) objects t
  pub took : (a : ℕ) → AllByRecursion (λ i. TookGood sys i.body) (lane_items (lane_recs W a))

-- a record of the journal, at a place
pub record Found (lanes : List (List Rec)) (x : RecordPlace) (r : Rec) : Type 0 where
  pub within : x.lane < length lanes
  pub place : x.at < length (lane_recs lanes x.lane)
  pub is : slice_get (lane_recs lanes x.lane) x.at ≡ Some r

lane-get : (lanes : List (List Rec)) (a : ℕ) → unwrap_or (slice_get lanes a) [] ≡ lane_recs lanes a
lane-get [] a = refl
lane-get (l ∷ ls) zero = refl
lane-get (l ∷ ls) (suc a) = lane-get ls a

pub get-lane : (lanes : List (List Rec)) (a : ℕ) → a < length lanes → slice_get lanes a ≡ Some (lane_recs lanes a)
get-lane [] a less = absurd (omega (arith, less))
get-lane (l ∷ ls) zero less = refl
get-lane (l ∷ ls) (suc a) less = get-lane ls a (omega (arith, less))

-- a list by what stands before a place of it
cut-at : {A : Type 0} (xs : List A) (n : ℕ) (y : A) → slice_get xs n ≡ Some y → xs ≡ take n xs ++ y ∷ drop (suc n) xs
cut-at [] n y at = absurd (cc)
cut-at (x ∷ xs) zero y at = let same : x ≡ y = cc in ap (λ z. z ∷ xs) same
cut-at (x ∷ xs) (suc n) y at = ap (λ zs. x ∷ zs) (cut-at xs n y at)

pub found-item : (lanes : List (List Rec)) (x : RecordPlace) (r : Rec) → Found lanes x r → item_at lanes x ≡ Some (item_of r)
unfolding item_at
found-item lanes x r f =
    ap (λ o. option_and_then (λ lane. option_and_then (λ r. Some (item_of r)) (slice_get lane x.at)) o) (get-lane lanes x.lane f.within)
    ∙ ap (λ o. option_and_then (λ r. Some (item_of r)) o) f.is

-- what holds of all records holds of one
pub at-record : (P : Item → Type 0) (lanes : List (List Rec)) (a : ℕ) → AllByRecursion P (all_items lanes) → AllByRecursion P (lane_items (lane_recs lanes a))
unfolding all_items lane_items
at-record P [] a h = tt
at-record P (l ∷ ls) zero h = front (lane_items l) (all_items ls) h
  where
    front : (xs ys : List Item) → AllByRecursion P (xs ++ ys) → AllByRecursion P xs
    front [] ys h = tt
    front (x ∷ xs) ys h = (h.0, front xs ys h.1)
at-record P (l ∷ ls) (suc a) h = at-record P ls a (back (lane_items l) (all_items ls) h)
  where
    back : (xs ys : List Item) → AllByRecursion P (xs ++ ys) → AllByRecursion P ys
    back [] ys h = h
    back (x ∷ xs) ys h = back xs ys h.1

items-take : (P : Item → Type 0) (l : List Rec) (n : ℕ) → AllByRecursion P (lane_items l) → AllByRecursion P (lane_items (take n l))
unfolding lane_items
items-take P l zero h = tt
items-take P [] (suc n) h = tt
items-take P (r ∷ rs) (suc n) h = (h.0, items-take P rs n h.1)

pub items-get : (P : Item → Type 0) (l : List Rec) (n : ℕ) (r : Rec) → AllByRecursion P (lane_items l) → slice_get l n ≡ Some r → P (item_of r)
unfolding lane_items
items-get P [] n r h at = absurd (cc)
items-get P (x ∷ xs) zero r h at = let same : x ≡ r = cc in subst (λ y. P (item_of y)) same h.0
items-get P (x ∷ xs) (suc n) r h at = items-get P xs n r h.1 at

lane-append : (xs ys : List Rec) → lane_items (xs ++ ys) ≡ lane_items xs ++ lane_items ys
unfolding lane_items
lane-append [] ys = refl
lane-append (x ∷ xs) ys = ap (λ is. item_of x ∷ is) (lane-append xs ys)

-- the record at a place of an owner's list uses what those before have left
lin-at : (sys : System) (o : ℕ) (P : Claims) (H : List Token) (g : List Told) (t : Told) (h : List Told) → Lin sys o P H (g ++ t ∷ h) → AllByRecursion P.Knows g → Uses o P (hands_told H g) t.body
lin-at sys o P H [] t h l k = l.0
lin-at sys o P H (u ∷ g) t h l k = lin-at sys o P (hands_by H u) g t h (l.1 k.0) k.1

-- what is known of an owner's records, by what is known of the lane's
known-records : (sys : System) (w : Facts) (o c : ℕ) (is : List Item) → AllByRecursion (λ i. SureBody sys i.body) is → AllByRecursion (λ i. TookGood sys i.body) is → AllByRecursion (Knows sys) (records_of w o c is)
unfolding records_of told
known-records sys w o c [] sure took = tt
known-records sys w o c (i ∷ is) sure took = go (i.of == o) (known-records sys w o (ceiling_after c i.body) is sure.1 took.1)
  where
    go : (b : Bool) → AllByRecursion (Knows sys) (records_of w o (ceiling_after c i.body) is)
        → AllByRecursion (Knows sys) (cond b (told w o c i.body ∷ records_of w o (ceiling_after c i.body) is) (records_of w o (ceiling_after c i.body) is))
    go true rest = (record { sure = sure.0; took = took.0 }, rest)
    go false rest = rest

-- one of the summands is at most the sum
part-of : (n a : ℕ) (f : ℕ → ℕ) → a < n → f a ≤ sum_below n f
unfolding sum_below
part-of zero a f less = absurd (omega (arith, less))
part-of (suc n) a f less = go (a == n) refl (part-of n a f)
  where
    go : (b : Bool) → (a == n) ≡ b → (a < n → f a ≤ sum_below n f) → f a ≤ sum_below n f + f n
    go true e later = let is : a ≡ n = grind (arith, nat_tests, e) in let same = ap f is in omega (arith, same)
    go false e later = let below : a < n = grind (arith, nat_tests, e, less) in let le = later below in omega (arith, le)

pub owned-part : (sys : System) (j : Journal) (W : List (List Rec)) (lanes objects a o : ℕ) (t : Token) → a < lanes → o < objects → count_of t (local sys j W a o) ≤ owned sys j W lanes objects t
unfolding owned
owned-part sys j W lanes objects a o t lane object =
    let inner = part-of objects o (λ p. count_of t (local sys j W a p)) object in
    let outer = part-of lanes a (λ b. sum_below objects (λ p. count_of t (local sys j W b p))) lane in
    omega (arith, inner, outer)

times-empty : {A : Type 0} (p : A → Bool) (xs : List A) → xs ≡ [] → times p xs ≡ 0
unfolding times
times-empty p [] is = refl
times-empty p (x ∷ xs) is = absurd (cc)

suc-is : (x y : ℕ) → (suc x == suc y) ≡ true → x ≡ y
suc-is x y h = grind (arith, nat_tests, h)

take-one : {A : Type 0} (xs : List A) (y : A) (ys : List A) (n : ℕ) → n ≡ length xs + 1 → take n (xs ++ y ∷ ys) ≡ xs ++ y ∷ []
take-one [] y ys zero is = absurd (omega (arith, is))
take-one [] y ys (suc zero) is = refl
take-one [] y ys (suc (suc n)) is = absurd (omega (arith, is))
take-one (x ∷ xs) y ys zero is = absurd (omega (arith, is))
take-one (x ∷ xs) y ys (suc n) is = ap (λ zs. x ∷ zs) (take-one xs y ys n (omega (arith, is)))

-- The next record.
module _ (sys : System) (stimuli : List (List Stim)) (j : Journal) (sound : IsSound sys) (fit : StimuliFit sys stimuli) (lawful : Lawful sys stimuli j)
    (owners : (a o : ℕ) → Lin sys o (claims sys) [] (records_of (facts_of sys j) o 0 (lane_items (lane_at j a)))) (order A B : List RecordPlace) (x : RecordPlace) (r : Rec) (serial : IsSerial j.lanes order)
    (split : order ≡ A ++ x ∷ B) (found : Found j.lanes x r) (place : times (λ y. y.lane == x.lane) A ≡ x.at) (W : List (List Rec)) (O : List ℕ) (world : SoundWorld sys W O) (objects : ℕ)
    (along : Along sys j objects A W O) (bound : (item_of r).of < objects) where
  abbrev a : ℕ
  a = x.lane

  abbrev i : Item
  i = item_of r

  abbrev o : ℕ
  o = i.of

  abbrev front : List Rec
  front = lane_recs W a

  front-length : length front ≡ x.at
  front-length = along.counts a ∙ place

  front-is : front ≡ take x.at (lane_recs j.lanes a)
  front-is = along.fronts a ∙ ap (λ n. take n (lane_recs j.lanes a)) front-length

  -- the lane: the world's records, this one, and others
  lane-is : lane_recs j.lanes a ≡ front ++ r ∷ drop (suc x.at) (lane_recs j.lanes a)
  lane-is = cut-at (lane_recs j.lanes a) x.at r found.is ∙ ap (λ l. l ++ r ∷ drop (suc x.at) (lane_recs j.lanes a)) (sym front-is)

  abbrev rest : List Item
  rest = lane_items (drop (suc x.at) (lane_recs j.lanes a))

  abbrev before : List Told
  before = records_of (facts_of sys j) o 0 (lane_items front)

  abbrev ceiling : ℕ
  ceiling = ceiling_over 0 (lane_items front)

  abbrev this : Told
  this = told (facts_of sys j) o ceiling i.body

  own-list : records_of (facts_of sys j) o 0 (lane_items (lane_at j a)) ≡ before ++ this ∷ records_of (facts_of sys j) o (ceiling_after ceiling i.body) rest
  unfolding records_of lane_items
  own-list =
      ap (λ l. records_of (facts_of sys j) o 0 (lane_items l)) (lane-get j.lanes a ∙ lane-is) ∙ ap (records_of (facts_of sys j) o 0) (lane-append front (r ∷ drop (suc x.at) (lane_recs j.lanes a)))
      ∙ records_of-append (facts_of sys j) o 0 (lane_items front) (i ∷ rest)
      ∙ ap (λ b. before ++ cond b (this ∷ records_of (facts_of sys j) o (ceiling_after ceiling i.body) rest) (records_of (facts_of sys j) o (ceiling_after ceiling i.body) rest)) self
    where
      self : (o == o) ≡ true
      self = grind (arith, nat_tests)

  sure : AllByRecursion (λ k. SureBody sys k.body) (lane_items (lane_recs j.lanes a))
  sure = at-record (λ k. SureBody sys k.body) j.lanes a (sure-records sys stimuli j sound fit lawful)

  pub sure-this : SureBody sys i.body
  sure-this = items-get (λ k. SureBody sys k.body) (lane_recs j.lanes a) x.at r sure found.is

  known-before : AllByRecursion (Knows sys) before
  known-before =
      known-records sys (facts_of sys j) o 0 (lane_items front)
      (subst (λ l. AllByRecursion (λ k. SureBody sys k.body) (lane_items l)) (sym front-is) (items-take (λ k. SureBody sys k.body) (lane_recs j.lanes a) x.at sure)) (along.took a)

  pub uses-this : Uses o (claims sys) (local sys j W a o) i.body
  unfolding local told
  uses-this = lin-at sys o (claims sys) [] before this (records_of (facts_of sys j) o (ceiling_after ceiling i.body) rest) (subst (Lin sys o (claims sys) []) own-list (owners a o)) known-before

  pub few-there : (t : Token) → count_of t (local sys j W a o) ≤ count_of t (hands_in sys W O)
  few-there t = let part = owned-part sys j W (length j.lanes) objects a o t found.within bound in let all = along.sums t in omega (arith, part, all)

  -- it may come next
  pub may-this : May sys W (hands_in sys W O) o i.body
  may-this =
      next-may sys j.lanes order A B x i serial split (found-item j.lanes x r found) lawful.words W O along.hists world (local sys j W a o) few-there o i.body refl uses-this
      (λ p n c from sig pars is pool. sure-this.blocks p n c from sig pars is pool)

  -- no `spill` stands in its lane yet
  pub unspilled : SpillLast (lane_items (lane_at j a)) → spills_in (lane_items front) ≡ false
  unfolding lane_items
  unspilled last = last (lane_items front) i rest (ap lane_items (lane-get j.lanes a ∙ lane-is) ∙ lane-append front (r ∷ drop (suc x.at) (lane_recs j.lanes a)))

  -- The world with this record.
  abbrev more : List (List Rec)
  more = with_record W a r

  within : a < length W
  within = let wide = along.wide in let less = found.within in omega (arith, wide, less)

  pub world-next : SoundWorld sys more (O ++ a ∷ [])
  world-next = world-more sys W O a r o i.body world within refl may-this

  lane-here : lane_recs more a ≡ front ++ r ∷ []
  lane-here = lane-set_same W a (front ++ r ∷ []) within

  lane-other : (k : ℕ) → k ≢ a → lane_recs more k ≡ lane_recs W k
  lane-other k differ = lane-set_other W a k (front ++ r ∷ []) differ

  -- by cases on the lane
  by-lane : (P : ℕ → Type 0) → P a → ((k : ℕ) → k ≢ a → P k) → (k : ℕ) → P k
  by-lane P here others k = go (cases_eq k a)
    where
      go : (k ≡ a) ⊎ (k ≢ a) → P k
      go (inl is) = subst P (sym is) here
      go (inr differ) = others k differ

  longer : length (front ++ r ∷ []) ≡ suc x.at
  longer = let sum = length-append front (r ∷ []) in let n = front-length in omega (arith, sum, n)

  fronts-next : (k : ℕ) → lane_recs more k ≡ take (length (lane_recs more k)) (lane_recs j.lanes k)
  fronts-next = by-lane (λ k. lane_recs more k ≡ take (length (lane_recs more k)) (lane_recs j.lanes k)) here (λ k differ. subst (λ l. l ≡ take (length l) (lane_recs j.lanes k)) (sym (lane-other k differ)) (along.fronts k))
    where
      here : lane_recs more a ≡ take (length (lane_recs more a)) (lane_recs j.lanes a)
      here =
          lane-here ∙ ap (λ l. l ++ r ∷ []) front-is ∙ take-next (lane_recs j.lanes a) x.at r found.is ∙ ap (λ n. take n (lane_recs j.lanes a)) (sym (ap length lane-here ∙ longer))

  counts-next : (k : ℕ) → length (lane_recs more k) ≡ times (λ y. y.lane == k) (A ++ x ∷ [])
  unfolding times
  counts-next = by-lane (λ k. length (lane_recs more k) ≡ times (λ y. y.lane == k) (A ++ x ∷ [])) here others
    where
      here : length (lane_recs more a) ≡ times (λ y. y.lane == a) (A ++ x ∷ [])
      here =
          let self : one_if (a == a) ≡ 1 = (let yes : (a == a) ≡ true = grind (arith, nat_tests) in ap one_if yes) in
          let sum = times-append (λ y. y.lane == a) A (x ∷ []) in
          let long = ap length lane-here ∙ longer in
          omega (arith, self, sum, long, place)

      others : (k : ℕ) → k ≢ a → length (lane_recs more k) ≡ times (λ y. y.lane == k) (A ++ x ∷ [])
      others k differ =
          let no : one_if (a == k) ≡ 0 = (let not_it : (a == k) ≡ false = grind (arith, nat_tests, differ) in ap one_if not_it) in
          let sum = times-append (λ y. y.lane == k) A (x ∷ []) in
          let same = ap length (lane-other k differ) in
          let old = along.counts k in
          omega (arith, no, sum, same, old)

  -- Histories.
  abbrev early : List Item
  early = front_of.front sys W O a r o i.body world within refl may-this

  abbrev late : List Item
  late = front_of.rest sys W O a r o i.body world within refl may-this

  named : is_on (has_word sys) (touch i) ≡ true
  named =
      items-get (λ k. is_on (has_word sys) (touch k) ≡ true) (lane_recs j.lanes a) x.at r
      (at-record (λ k. is_on (has_word sys) (touch k) ≡ true) j.lanes a (all-from (λ k. is_on (has_word sys) (touch k)) (all_items j.lanes) (named-records sys stimuli j sound fit lawful))) found.is

  numbers-of : (w : Word) → has_word sys w ≡ true → is_numbered w (all_items W) ≡ true
  numbers-of (word.Pool p) h = (world.sound.words.pools p h).numbers
  numbers-of (word.Block p b) h = (world.sound.words.blocks p b h).numbers
  numbers-of (word.Queue c) h = (world.sound.words.queues c h).numbers
  numbers-of (word.Signal s) h = (world.sound.words.signals s h).numbers
  numbers-of (word.Timer t) h = (world.sound.words.timers t h).numbers

  on-named : (w : Word) (t : Touch) → drawn_on w t ≡ true → is_on (has_word sys) t ≡ true → has_word sys w ≡ true
  on-named w (Draws v mark) on h = subst (λ u. has_word sys u ≡ true) (same_word-is v w on) h
  on-named w (Shows v mark) on h = absurd (cc)
  on-named w Neither on h = absurd (cc)

  pub hists-next : (w : Word) → hist w (all_items more) ≡ on_word w (items_at j.lanes (A ++ x ∷ []))
  unfolding total
  hists-next w = go (drawn_on w (touch i)) refl
    where
      before_items : all_items W ≡ early ++ late
      before_items = front_of.items_before sys W O a r o i.body world within refl may-this

      after_items : all_items more ≡ early ++ i ∷ late
      after_items = front_of.items_after sys W O a r o i.body world within refl may-this

      whole : (b : Bool) → drawn_on w (touch i) ≡ b → on_word w (items_at j.lanes (A ++ x ∷ [])) ≡ on_word w (items_at j.lanes A) ++ cond b (i ∷ []) []
      whole b e =
          ap (on_word w) (items-push j.lanes A x i (found-item j.lanes x r found)) ∙ filter-append (λ k. drawn_on w (touch k)) (items_at j.lanes A) (i ∷ [])
          ∙ ap (λ u. on_word w (items_at j.lanes A) ++ cond u (i ∷ []) []) e

      go : (b : Bool) → drawn_on w (touch i) ≡ b → hist w (all_items more) ≡ on_word w (items_at j.lanes (A ++ x ∷ []))
      go false e =
          ap (hist w) after_items ∙ hist-other w early i late e ∙ sym (ap (hist w) before_items) ∙ along.hists w ∙ sym (append-nil (on_word w (items_at j.lanes A))) ∙ sym (whole false e)
      go true e =
          let numbers : is_numbered w (all_items W) ≡ true = numbers-of w (on-named w (touch i) e named) in
          let next_one = next-draws w (items_at j.lanes A) (touch i) e (next sys j.lanes order A B x i serial split (found-item j.lanes x r found) lawful.words W O along.hists) in
          let so_far : total w (items_at j.lanes A) ≡ total w (all_items W) = sym (ap length (along.hists w)) ∙ length-hist w (all_items W) numbers in
          let draws : drawn_as w (total w (early ++ late)) (touch i) ≡ true = subst (λ n. drawn_as w n (touch i) ≡ true) (so_far ∙ ap (total w) before_items) next_one in
          ap (hist w) after_items ∙ hist-draws w early i late (subst (λ z. is_numbered w z ≡ true) before_items numbers) draws
          ∙ ap (λ h. h ++ i ∷ []) (sym (ap (hist w) before_items) ∙ along.hists w) ∙ sym (whole true e)

  -- Hands.
  alone : (p b k : ℕ) → stands (Held p b k) (hands_in sys W O) ≡ true → stands (Loose p b false) (hands_in sys W O) ≡ false
  alone p b k held = go (stands (Loose p b false) (hands_in sys W O)) refl
    where
      block : is_block sys p b ≡ true
      block = all-stands (names_block sys) (Held p b k) (hands_in sys W O) world.sound.tokens held

      ok : BlockIn sys W (hands_in sys W O) p b
      ok = world.sound.block p b block

      go : (u : Bool) → stands (Loose p b false) (hands_in sys W O) ≡ u → u ≡ false
      go false e = refl
      go true e =
          let fresh = ok.fresh_is (stands-times (Loose p b false) (hands_in sys W O) e) in
          let some = stands-times (Held p b k) (hands_in sys W O) held in
          let own = ok.owned k in
          let none = times-empty (λ y. y == k) (refs_in W p b).names fresh.0 in
          absurd (omega (arith, some, own, none))

  -- the history of a word on which the record draws a number
  hist-more : (w : Word) → drawn_on w (touch i) ≡ true → hist w (all_items more) ≡ hist w (all_items W) ++ i ∷ []
  hist-more w on =
      hists-next w ∙ ap (on_word w) (items-push j.lanes A x i (found-item j.lanes x r found)) ∙ filter-append (λ k. drawn_on w (touch k)) (items_at j.lanes A) (i ∷ [])
      ∙ ap (λ u. on_word w (items_at j.lanes A) ++ cond u (i ∷ []) []) on ∙ ap (λ h. h ++ i ∷ []) (sym (along.hists w))

  hist-law : {S : Type 0} (m : Machine S) (w : Word) → Keeps S m w j.lanes → drawn_on w (touch i) ≡ true → hist w (all_items j.lanes) ≡ hist w (all_items W) ++ i ∷ on_word w (items_at j.lanes B)
  hist-law m w keeps on =
      history sys j.lanes order A B x i serial split (found-item j.lanes x r found) lawful.words W O along.hists m w keeps
      ∙ ap (λ u. hist w (all_items W) ++ cond u (i ∷ on_word w (items_at j.lanes B)) (on_word w (items_at j.lanes B))) on

  -- what is known beside a dropped reference is what the law book tells
  left-same : (p b d k : ℕ) → i.body ≡ item.Dec p b d k → references_after (facts_of sys j) p b d ≡ references_after (facts_in sys more) p b d
  unfolding references_after facts_of is_next total
  left-same p b d k is = ap (λ h. length (after references h).names) (law ∙ sym now)
    where
      w : Word
      w = word.Block p b

      draws : touch i ≡ Draws (word.Block p b) (suc d)
      draws = ap (λ c. touch_of o c) is

      on : drawn_on (word.Block p b) (touch i) ≡ true
      on = ap (drawn_on (word.Block p b)) draws ∙ same_word-refl (word.Block p b)

      number : d ≡ length (hist (word.Block p b) (all_items W))
      number =
          let test : (suc d == suc (length (on_word (word.Block p b) (items_at j.lanes A)))) ≡ true =
          subst (λ t. is_next (items_at j.lanes A) t ≡ true) draws (next sys j.lanes order A B x i serial split (found-item j.lanes x r found) lawful.words W O along.hists) in
          let same : d ≡ length (on_word (word.Block p b) (items_at j.lanes A)) = suc-is d (length (on_word (word.Block p b) (items_at j.lanes A))) test in
          same ∙ sym (ap length (along.hists (word.Block p b)))

      block : is_block sys p b ≡ true
      block = (subst (Uses o (claims sys) (local sys j W a o)) is uses-this).0

      law : take (d + 1) (hist (word.Block p b) (all_items j.lanes)) ≡ hist (word.Block p b) (all_items W) ++ i ∷ []
      law =
          ap (take (d + 1)) (hist-law references (word.Block p b) (lawful.words.blocks p b block) on)
          ∙ take-one (hist (word.Block p b) (all_items W)) i (on_word (word.Block p b) (items_at j.lanes B)) (d + 1) (omega (arith, number))

      now : take (d + 1) (hist (word.Block p b) (all_items more)) ≡ hist (word.Block p b) (all_items W) ++ i ∷ []
      now = ap (take (d + 1)) (hist-more (word.Block p b) on) ∙ take-one (hist (word.Block p b) (all_items W)) i [] (d + 1) (omega (arith, number))

  abbrev known_now : Known
  known_now = known_of (facts_in sys more) o 0 i.body

  left-alike : LeftAlike sys o (local sys j W a o) (hands_in sys W O) few-there alone i.body known_now this.known
  unfolding told
  left-alike = go i.body refl
    where
      go : (b : Body) → i.body ≡ b → LeftAlike sys o (local sys j W a o) (hands_in sys W O) few-there alone b (known_of (facts_in sys more) o 0 b) (known_of (facts_of sys j) o ceiling b)
      go (item.Dec p b d k) is = (references_after (facts_in sys more) p b d, refl, ap Left (left-same p b d k is))
      go b is = tt

  hands-next : hands_in sys more (O ++ a ∷ []) ≡ hands_of (hands_in sys W O) i.body known_now
  hands-next = hands_now sys W O a r o i.body world within refl may-this

  local-here : local sys j more a o ≡ hands_of (local sys j W a o) i.body this.known
  unfolding local records_of lane_items hands_by told
  local-here =
      ap (λ l. hands_told [] (records_of (facts_of sys j) o 0 (lane_items l))) lane-here
      ∙ ap (λ is. hands_told [] (records_of (facts_of sys j) o 0 is)) (lane-append front (r ∷ []))
      ∙ ap (hands_told []) (records_of-append (facts_of sys j) o 0 (lane_items front) (i ∷ []))
      ∙ ap (λ u. hands_told [] (before ++ cond u (this ∷ []) [])) self
      ∙ told-append sys o (claims sys) [] before (this ∷ [])
    where
      self : (o == o) ≡ true
      self = grind (arith, nat_tests)

  local-other : (p : ℕ) → o ≢ p → local sys j more a p ≡ local sys j W a p
  unfolding local records_of lane_items told
  local-other p differ =
      ap (λ l. hands_told [] (records_of (facts_of sys j) p 0 (lane_items l))) lane-here
      ∙ ap (λ is. hands_told [] (records_of (facts_of sys j) p 0 is)) (lane-append front (r ∷ []))
      ∙ ap (hands_told []) (records_of-append (facts_of sys j) p 0 (lane_items front) (i ∷ []))
      ∙ ap (λ u. hands_told [] (records_of (facts_of sys j) p 0 (lane_items front) ++ cond u (told (facts_of sys j) p (ceiling_over 0 (lane_items front)) i.body ∷ []) [])) none
      ∙ ap (hands_told []) (append-nil (records_of (facts_of sys j) p 0 (lane_items front)))
    where
      none : (o == p) ≡ false
      none = grind (arith, nat_tests, differ)

  local-lane : (b p : ℕ) → a ≢ b → local sys j more b p ≡ local sys j W b p
  unfolding local
  local-lane b p differ = ap (λ l. hands_told [] (records_of (facts_of sys j) p 0 (lane_items l))) (lane-other b (λ e. differ (sym e)))

  sums-next : (t : Token) → count_of t (hands_in sys more (O ++ a ∷ [])) ≡ owned sys j more (length j.lanes) objects t
  unfolding owned
  sums-next t =
      let old = along.sums t in
      let hands = ap (count_of t) hands-next in
      let here = ap (count_of t) local-here in
      let same = hands-same sys o (local sys j W a o) (hands_in sys W O) few-there alone i.body known_now this.known t left-alike uses-this in
      let inner = sum-change objects o (λ p. count_of t (local sys j W a p)) (λ p. count_of t (local sys j more a p)) bound (λ p differ. ap (count_of t) (local-other p differ)) in
      let outer = sum-change (length j.lanes) a (λ b. sum_below objects (λ p. count_of t (local sys j W b p))) (λ b. sum_below objects (λ p. count_of t (local sys j more b p))) found.within
      (λ b differ. sum-same objects (λ p. count_of t (local sys j W b p)) (λ p. count_of t (local sys j more b p)) (λ p less. ap (count_of t) (local-lane b p differ))) in
      omega (arith, old, hands, here, same, inner, outer)

  took-this : TookGood sys i.body
  unfolding May
  took-this = go i.body (λ m. m) may-this
    where
      go : (b : Body) → (May sys W (hands_in sys W O) o b → May sys W (hands_in sys W O) o b) → May sys W (hands_in sys W O) o b → TookGood sys b
      go (item.Took f l m e) same may =
          let take = may.2 in
          let all = world.sound.entries o take.queue.object in
          (and_parts (is_good sys e) (list_all (is_good sys) take.others) (subst (λ es. list_all (is_good sys) es ≡ true) take.front all)).0
      go b same may = tt

  took-next : (k : ℕ) → AllByRecursion (λ i. TookGood sys i.body) (lane_items (lane_recs more k))
  unfolding lane_items
  took-next = by-lane (λ k. AllByRecursion (λ i. TookGood sys i.body) (lane_items (lane_recs more k))) here (λ k differ. subst (λ l. AllByRecursion (λ i. TookGood sys i.body) (lane_items l)) (sym (lane-other k differ)) (along.took k))
    where
      here : AllByRecursion (λ i. TookGood sys i.body) (lane_items (lane_recs more a))
      here =
          subst (λ l. AllByRecursion (λ i. TookGood sys i.body) (lane_items l)) (sym lane-here)
          (subst (AllByRecursion (λ i. TookGood sys i.body)) (sym (lane-append front (r ∷ []))) (every-append (λ i. TookGood sys i.body) (lane_items front) (i ∷ []) (along.took a) (took-this, tt)))

  -- the world goes on along the order
  pub along-next : Along sys j objects (A ++ x ∷ []) more (O ++ a ∷ [])
  along-next = record {
    wide = length-set W a (front ++ r ∷ []) ∙ along.wide;
    fronts = fronts-next;
    counts = counts-next;
    hists = hists-next;
    sums = sums-next;
    took = took-next;
  }
