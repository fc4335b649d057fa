-- Wherever the kernel rests no entry waits: the look before it saw every queue empty, and nothing stands between them that touches a queue.
use Rattle.std.proofs.Common.{◌≡◌, ◌≢◌, ◌∙◌, ℕ, ◌+◌, ◌<◌, ◌≤◌, ◌==◌, nat_le, nat_lt, Bool, true, false, ◌&&◌, ◌||◌, cond, List, [], ◌∷◌, ◌++◌, length, map, drop, take, refl, sym, ap, subst, arith, append_assoc, Some}
use Rattle.std.specs.Prelude.{IsTrue, slice_get}
use Rattle.std.specs.List.{AllByRecursion, filter, find}
use Rattle.std.specs.Option.{unwrap_or}
use Rattle.std.proofs.lemmas.Bool.{and_parts}
use Rattle.std.proofs.lemmas.Bool.Decides.{nat_tests}
use Rattle.qp_chart.specs.StateTree.{has}
use Rattle.qp_model.specs.declared.record.Rec.{Rec}
use Rattle.qp_model.specs.declared.bodies.Entry.{Entry}
use Rattle.qp_model.specs.declared.bodies.Body.TheVariants as body
use Rattle.qp_model.specs.declared.journals.Journal.{Journal}
use Rattle.qp_model.specs.declared.systems.ObjectDef.{ObjectDef}
use Rattle.qp_model.specs.declared.systems.System.{System}
use Rattle.qp_model.specs.declared.words.Word.{Word}
use Rattle.qp_model.specs.declared.words.Word.TheVariants as word
use Rattle.qp_model.specs.History.{all_items, hist, lane_items, numbered, total, touch}
use Rattle.qp_model.specs.Home.{lane_at}
use Rattle.qp_model.specs.KernelLane.{above}
use Rattle.qp_model.specs.KernelLaws.{RestsWhereAllAreEmpty, SeesEach}
use Rattle.qp_model.specs.Kernels.{port}
use Rattle.qp_model.specs.Lawful.{lanes_before, one_thread, source_lanes}
use Rattle.qp_model.specs.Line.{Line, counts_are, line}
use Rattle.qp_model.specs.Machine.{after, is_allowed, is_shown, shown_by}
use Rattle.qp_model.specs.OneOrder.{Placed, order, spills_from, with_stimuli, items_placed}
use Rattle.qp_model.specs.Places.{in_order, is_next}
use Rattle.qp_model.specs.Record.{Item}
use Rattle.qp_model.specs.Sites.{object_at, ring_of}
use Rattle.qp_model.specs.WordLaw.{Keeps, is_object}
use Rattle.qp_model.proofs.LawLemmas.{kernel_rests_where_all_are_empty}
use Rattle.qp_model.proofs.HistoryLemmas.{length-hist, in_order-at, in_order-front, total-append}
use Rattle.qp_model.proofs.LineLemmas.{IsLine, line_is, same_number}
use Rattle.qp_model.proofs.MachineLemmas.{is_allowed-front}
use Rattle.qp_model.proofs.ListLemmas.{every-front, has-reverse, every-there}
use Rattle.qp_model_order.specs.Placing.{all_placed, LooksNone}
use Rattle.qp_model_order.specs.RunOrder.{placed}
use Rattle.qp_model_order.proofs.MergeLemmas.{stimuli-append, stimuli-none}
use Rattle.qp_model_order.proofs.StimLemmas.{items-placed}
use Rattle.qp_model_order.specs.RestLaws.{IsIdleAtRests, RestsWhereNothingWaits, queue_after, run_records}
use Rattle.qp_model_order.proofs.OrderLemmas.{OfRecord, parted, spills-source, stimuli-all}
use Rattle.qp_model_order.proofs.PrefixLemmas.{Stands, draws, first-part, first-taken, history-first, stands-all, stands-each}

-- ---- the look before a rest

seen : ℕ → ℕ → ℕ → ℕ → Item
seen p f l m = record { of = 0; body = body.Seen p f l m }

-- its `seen` of the queue of p
record SeesEmpty (p : ℕ) (is : List Item) : Type 0 where
  front : List Item
  back : List Item
  f : ℕ
  l : ℕ
  m : ℕ
  at : is ≡ front ++ record { of = 0; body = body.Seen p f l m } ∷ back
  empty : f + l ≤ m

sees-at : (ps : List ℕ) (is : List Item) (p : ℕ) → SeesEach ps is → has ps p ≡ true → SeesEmpty p is
sees-at [] [] p sees there = absurd (cc)
sees-at [] (i ∷ is) p sees there = absurd sees
sees-at (q ∷ qs) [] p sees there = absurd sees
sees-at (q ∷ qs) (i ∷ is) p (f, l, m, at, empty, others) there = by (q == p) refl there (λ h. sees-at qs is p others h)
  where
    by : (b : Bool) → (q == p) ≡ b → has (q ∷ qs) p ≡ true → (has qs p ≡ true → SeesEmpty p is) → SeesEmpty p (i ∷ is)
    by true e h later =
        let same : q ≡ p = grind (arith, nat_tests, e) in
        record { front = []; back = is; f = f; l = l; m = m; at = rw (at, same) refl; empty = empty }
    by false e h later =
        let found = later (rw e at h) in
        record { front = i ∷ found.front; back = found.back; f = found.f; l = found.l; m = found.m; at = ap (λ js. i ∷ js) found.at; empty = found.empty }

-- they are no looks, and draw nothing
sees-look_none : (ps : List ℕ) (is : List Item) → SeesEach ps is → LooksNone is
sees-look_none [] [] sees = tt
sees-look_none [] (i ∷ is) sees = absurd sees
sees-look_none (q ∷ qs) [] sees = tt
sees-look_none (q ∷ qs) (i ∷ is) (f, l, m, at, empty, others) = (rw at refl, sees-look_none qs is others)

sees-undrawn : (w : Word) (ps : List ℕ) (is : List Item) → SeesEach ps is → total w is ≡ 0
unfolding total
sees-undrawn w [] [] sees = refl
sees-undrawn w [] (i ∷ is) sees = absurd sees
sees-undrawn w (q ∷ qs) [] sees = refl
sees-undrawn w (q ∷ qs) (i ∷ is) (f, l, m, at, empty, others) = rw at (sees-undrawn w qs is others)

-- ---- each object is above the base

object-above : (ds : List ObjectDef) (d : ObjectDef) → find (λ e. e.priority == d.priority) ds ≡ Some d → 0 < d.priority
    → has (map (λ e. e.priority) (filter (λ e. nat_lt 0 e.priority) ds)) d.priority ≡ true
object-above [] d found some = absurd (cc)
object-above (e ∷ es) d found some = by (e.priority == d.priority) refl (λ f. object-above es d f some)
  where
    rest : (b : Bool) → has (map (λ e. e.priority) (filter (λ e. nat_lt 0 e.priority) es)) d.priority ≡ true
        → has (map (λ e. e.priority) (cond b (e ∷ filter (λ e. nat_lt 0 e.priority) es) (filter (λ e. nat_lt 0 e.priority) es))) d.priority ≡ true
    rest true h = rw h (by_or (e.priority == d.priority))
      where
        by_or : (a : Bool) → (a || true) ≡ true
        by_or true = refl
        by_or false = refl
    rest false h = h

    by : (b : Bool) → (e.priority == d.priority) ≡ b
        → (find (λ e. e.priority == d.priority) es ≡ Some d → has (map (λ e. e.priority) (filter (λ e. nat_lt 0 e.priority) es)) d.priority ≡ true)
        → has (map (λ e. e.priority) (filter (λ e. nat_lt 0 e.priority) (e ∷ es))) d.priority ≡ true
    by true same later =
        let is : e.priority ≡ d.priority = grind (arith, nat_tests, same) in
        let kept : nat_lt 0 e.priority ≡ true = grind (arith, nat_tests, some, is) in
        rw (kept, same) refl
    by false other later = rest (nat_lt 0 e.priority) (later (rw other at found))

-- ---- the queue of an object by what was seen of it

no-entries : (es : List Entry) (f l m : ℕ) → length es + m ≡ f + l → f + l ≤ m → es ≡ []
no-entries [] f l m counted empty = refl
no-entries (e ∷ es) f l m counted empty = absurd (omega (arith, counted, empty))

module _ (ring a : ℕ) (lanes : List (List Rec)) (keeps : Keeps Line (line ring) (word.Queue a) lanes) (xs : List Item)
    (each : AllByRecursion (Stands (all_items lanes)) xs) (order : in_order [] xs ≡ true)
    (f l m : ℕ) (mark : total (word.Queue a) xs ≡ f + l + m) (empty : f + l ≤ m)
    (stands : Stands (all_items lanes) (record { of = 0; body = body.Seen a f l m })) where
  abbrev all : List Item
  all = all_items lanes

  abbrev w : Word
  w = word.Queue a

  history : filter (draws w all keeps.numbers) xs ≡ numbered w all (f + l + m)
  history = subst (λ n. filter (draws w all keeps.numbers) xs ≡ numbered w all n) mark (history-first w all keeps.numbers xs each order)

  shown : (nat_le (f + l + m) (length (hist w all)) && counts_are f l m (after (line ring) (take (f + l + m) (hist w all)))) ≡ true
  unfolding is_shown shown_by
  shown =
      let says = stands-each (λ i. shown_by (line ring) w (hist w all) i.body (touch i)) all (record { of = 0; body = body.Seen a f l m }) stands keeps.shown in
      rw (same_number a) at says

  within : f + l + m ≤ total w all
  within =
      let long : nat_le (f + l + m) (length (hist w all)) ≡ true = (and_parts _ _ shown).0 in
      grind (arith, nat_tests, long, length-hist w all keeps.numbers)

  abbrev state : Line
  state = after (line ring) (numbered w all (f + l + m))

  counts : counts_are f l m state ≡ true
  counts =
      let says : counts_are f l m (after (line ring) (take (f + l + m) (hist w all))) ≡ true = (and_parts (nat_le (f + l + m) (length (hist w all))) _ shown).1 in
      rw (first-taken w all keeps.numbers (f + l + m) within) at says

  its-line : IsLine ring state
  its-line =
      let parts = first-part w all keeps.numbers (f + l + m) within in
      let allowed : is_allowed (line ring) (numbered w all (f + l + m) ++ parts.0) ≡ true = rw parts.1 at keeps.allowed in
      line_is ring (numbered w all (f + l + m)) (is_allowed-front (line ring) (numbered w all (f + l + m)) parts.0 allowed)

  pub seen-empty : (after (line ring) (filter (draws w all keeps.numbers) xs)).entries ≡ []
  seen-empty =
      let two = and_parts ((state.f == f) && (state.l == l)) (state.m == m) counts in
      let one = and_parts (state.f == f) (state.l == l) two.0 in
      let f_says : (state.f == f) ≡ true = one.0 in
      let l_says : (state.l == l) ≡ true = one.1 in
      let m_says : (state.m == m) ≡ true = two.1 in
      let f_is : state.f ≡ f = grind (arith, nat_tests, f_says) in
      let l_is : state.l ≡ l = grind (arith, nat_tests, l_says) in
      let m_is : state.m ≡ m = grind (arith, nat_tests, m_says) in
      let counted : length state.entries + m ≡ f + l = omega (arith, its-line.counted, f_is, l_is, m_is) in
      ap (λ h. (after (line ring) h).entries) history ∙ no-entries state.entries f l m counted empty

-- ---- the records of a journal with one thread

sources-stand : (items pre : List Item) (lanes : List (List Rec)) → items ≡ pre ++ all_items lanes
    → AllByRecursion (AllByRecursion (Stands items)) (map (λ lane. lane_items lane) lanes)
unfolding all_items
sources-stand items pre [] is = tt
sources-stand items pre (l ∷ ls) is = (
  stands-all items pre (lane_items l) (all_items ls) is,
  sources-stand items (pre ++ lane_items l) ls (is ∙ sym (append_assoc pre (lane_items l) (all_items ls))),
)

zero-stands : (lanes : List (List Rec)) → AllByRecursion (Stands (all_items lanes)) (lane_items (unwrap_or (slice_get lanes 0) []))
unfolding all_items lane_items
zero-stands [] = tt
zero-stands (l ∷ ls) = stands-all (all_items (l ∷ ls)) [] (lane_items l) (all_items ls) refl

others-stand : (lanes : List (List Rec)) → AllByRecursion (AllByRecursion (Stands (all_items lanes))) (map (λ lane. lane_items lane) (drop 1 lanes))
unfolding all_items
others-stand [] = tt
others-stand (l ∷ ls) = sources-stand (all_items (l ∷ ls)) (lane_items l) ls refl

items-all : (P : Item → Type 0) (xs : List Placed) → AllByRecursion (OfRecord P) xs → AllByRecursion P (items_placed xs)
items-all P [] h = tt
items-all P (x ∷ xs) h = (h.0, items-all P xs h.1)

items-append : (xs ys : List Placed) → items_placed (xs ++ ys) ≡ items_placed xs ++ items_placed ys
items-append [] ys = refl
items-append (x ∷ xs) ys = ap (λ is. x.item ∷ is) (items-append xs ys)

-- what stands in lane 0 before a rest
module _ (sys : System) (lanes : List (List Rec)) (cuts : Bool) (sources : List (List Item)) (lane0 front back : List Item) (rest : Item)
    (lane : lane0 ≡ front ++ rest ∷ back) (own : AllByRecursion (Stands (all_items lanes)) lane0)
    (others : AllByRecursion (AllByRecursion (Stands (all_items lanes))) sources)
    (numbers : in_order [] (items_placed (with_stimuli cuts sources front)) ≡ true)
    (look : List Item) (empties : List Item) (parts : front ≡ look ++ empties) (sees : SeesEach (above sys 0) empties)
    (d : ObjectDef) (found : object_at sys d.priority ≡ Some d) (some : 0 < d.priority)
    (keeps : Keeps Line (line (ring_of sys d.priority)) (word.Queue d.priority) lanes) where
  abbrev its_queue : Word
  its_queue = word.Queue d.priority

  abbrev before : List Item
  before = items_placed (with_stimuli cuts sources front)

  abbrev earlier : List Item
  earlier = items_placed (with_stimuli cuts sources look)

  before-is : before ≡ earlier ++ empties
  before-is =
      ap (λ is. items_placed (with_stimuli cuts sources is)) parts
      ∙ ap items_placed (stimuli-append cuts sources look empties ∙ ap (λ xs. with_stimuli cuts sources look ++ xs) (stimuli-none cuts sources empties (sees-look_none (above sys 0) empties sees)))
      ∙ items-append (with_stimuli cuts sources look) (all_placed 0 empties)
      ∙ ap (λ is. earlier ++ is) (items-placed 0 empties)

  each : AllByRecursion (Stands (all_items lanes)) before
  each =
      let in_front : AllByRecursion (Stands (all_items lanes)) front = every-front (Stands (all_items lanes)) front (rest ∷ back) (rw lane at own) in
      items-all (Stands (all_items lanes)) (with_stimuli cuts sources front) (stimuli-all (Stands (all_items lanes)) cuts sources front others in_front)

  looked : SeesEmpty d.priority empties
  unfolding above object_at
  looked =
      sees-at (above sys 0) empties d.priority sees
      (has-reverse (map (λ e. e.priority) (filter (λ e. nat_lt 0 e.priority) sys.objects)) d.priority ∙ object-above sys.objects d found some)

  abbrev its : Item
  its = record { of = 0; body = body.Seen d.priority looked.f looked.l looked.m }

  whole : before ≡ (earlier ++ looked.front) ++ its ∷ looked.back
  whole = before-is ∙ ap (λ is. earlier ++ is) looked.at ∙ sym (append_assoc earlier looked.front (its ∷ looked.back))

  seen-stands : Stands (all_items lanes) its
  seen-stands = let there : AllByRecursion (Stands (all_items lanes)) ((earlier ++ looked.front) ++ its ∷ looked.back) = rw whole at each in
      every-there (Stands (all_items lanes)) (earlier ++ looked.front) its looked.back there

  mark : total its_queue before ≡ looked.f + looked.l + looked.m
  unfolding is_next
  mark =
      let next : is_next ([] ++ (earlier ++ looked.front)) (touch its) ≡ true = in_order-at [] (earlier ++ looked.front) its looked.back (rw whole at numbers) in
      let shows : looked.f + looked.l + looked.m ≡ total its_queue (earlier ++ looked.front) = grind (arith, nat_tests, next) in
      let none : total its_queue empties ≡ 0 = sees-undrawn its_queue (above sys 0) empties sees in
      let in_two : total its_queue empties ≡ total its_queue looked.front + total its_queue (its ∷ looked.back) = ap (total its_queue) looked.at ∙ total-append its_queue looked.front (its ∷ looked.back) in
      omega (arith, shows, none, in_two, ap (total its_queue) before-is, total-append its_queue earlier empties, total-append its_queue earlier looked.front)

  pub rest-empty : (queue_after sys d.priority before).entries ≡ []
  unfolding queue_after
  rest-empty = seen-empty (ring_of sys d.priority) d.priority lanes keeps before each numbers looked.f looked.l looked.m mark looked.empty seen-stands

one-before : (sys : System) (j : Journal) → j.kernel ≢ port → lanes_before sys j ≡ 1
one-before sys j other = by (j.kernel == port) refl
  where
    by : (b : Bool) → (j.kernel == port) ≡ b → lanes_before sys j ≡ 1
    by true e = let is : j.kernel ≡ port = grind (arith, nat_tests, e) in absurd (other is)
    by false e = rw e refl

there-is : (sys : System) (d : ObjectDef) → object_at sys d.priority ≡ Some d → IsTrue (is_object sys d.priority)
unfolding is_object
there-is sys d found = rw found refl

tail-source : (cuts : Bool) (sources : List (List Item)) → AllByRecursion (λ x. 0 < x.lane) (cond cuts [] (spills_from 1 sources))
tail-source true sources = tt
tail-source false sources = spills-source 1 sources (omega arith)

pub rests-idle : RestsWhereNothingWaits
unfolding IsIdleAtRests run_records order one_thread source_lanes RestsWhereAllAreEmpty
rests-idle sys stimuli j lawful other cuts one before behind n is d found some =
    let sources : List (List Item) = source_lanes sys j in
    let lane0 : List Item = lane_items (lane_at j 0) in
    let rest : Item = record { of = 0; body = body.Rest n } in
    let at = parted cuts sources lane0 (cond cuts [] (spills_from 1 sources)) before rest behind (tail-source cuts sources) is in
    let look = kernel_rests_where_all_are_empty sys stimuli j lawful other at.front at.back n at.lane in
    let whole : in_order [] (items_placed (before ++ placed 0 rest ∷ behind)) ≡ true = rw is at one.numbers in
    let in_parts : in_order [] (items_placed before ++ items_placed (placed 0 rest ∷ behind)) ≡ true = rw (items-append before (placed 0 rest ∷ behind)) at whole in
    let numbers : in_order [] (items_placed before) ≡ true = in_order-front [] (items_placed before) (items_placed (placed 0 rest ∷ behind)) in_parts in
    let parts : at.front ≡ (look.0 ++ record { of = 0; body = body.Look look.2 0 } ∷ []) ++ look.1 =
    look.3 ∙ sym (append_assoc look.0 (record { of = 0; body = body.Look look.2 0 } ∷ []) look.1) in
    let others : AllByRecursion (AllByRecursion (Stands (all_items j.lanes))) sources = rw (one-before sys j other) (others-stand j.lanes) in
    rw at.merged
    (rest-empty sys j.lanes cuts sources lane0 at.front at.back rest at.lane (zero-stands j.lanes) others (rw at.merged at numbers)
    (look.0 ++ record { of = 0; body = body.Look look.2 0 } ∷ []) look.1 parts look.4 d found some (lawful.words.queues d.priority (there-is sys d found)))
