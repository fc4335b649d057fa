-- A world in which nothing has happened.
use Rattle.std.proofs.Common.{◌≡◌, ℕ, zero, suc, ◌+◌, ◌-◌, ◌<◌, ◌≤◌, ◌==◌, nat_lt, Bool, true, false, cond, List, [], ◌∷◌, ◌++◌, length, map, get_or, slice_get, slice_set, replicate, refl, sym, ◌∙◌, ap, subst, arith, is_some, Option, Some, None, length-append}
use Rattle.std.specs.List.{list_all, AllByRecursion, find}
use Rattle.std.specs.Option.{option_map_or}
use Rattle.std.proofs.lemmas.Bool.{and_from, and_parts, not-true}
use Rattle.std.proofs.lemmas.Bool.Decides.{nat_tests}
use Rattle.std.proofs.lemmas.List.{length-set, length-replicate}
use Rattle.std.proofs.lemmas.List.Sums.{sum_by-cons}
use Rattle.qp_base.specs.declared.event.Ev.{Ev}
use Rattle.qp_model.specs.declared.record.Rec.{Rec}
use Rattle.qp_model.specs.declared.words.Word.TheVariants as word
use Rattle.qp_model.specs.declared.systems.System.{System}
use Rattle.qp_model.specs.declared.systems.ObjectDef.{ObjectDef}
use Rattle.qp_model.specs.declared.systems.PoolDef.{PoolDef}
use Rattle.qp_model.specs.Machine.{after, after_from}
use Rattle.qp_model.specs.Lists.{count_up}
use Rattle.qp_model.specs.FreeBlocks.{free_blocks}
use Rattle.qp_model.specs.References.{references}
use Rattle.qp_model.specs.Line.{line}
use Rattle.qp_model.specs.Subscribers.{subscribers, bits_of_set}
use Rattle.qp_model.specs.TimeEvents.{time_event}
use Rattle.qp_model.specs.Sites.{object_at, ring_of, blocks_of}
use Rattle.qp_model.specs.Sound.{IsSound, IsSoundPool, IsSoundObject}
use Rattle.qp_model.specs.WordLaw.{is_object}
use Rattle.qp_calls.specs.LaneView.{IsNew, codes_in}
use Rattle.qp_plain_words.specs.declared.block.BlockWord.{BlockWord}
use Rattle.qp_plain_words.specs.Sets.{are_members}
use Rattle.qp_plain_sound.specs.Log.{empty_lanes}
use Rattle.qp_plain_sound.specs.View.{view_of}
use Rattle.qp_plain_sound.specs.WordStates.{pool_in, refs_in, line_in, set_in, clock_in, cell_in, cell_after}
use Rattle.qp_plain_sound.proofs.NewLemmas.{new-sound, new-lane, hist-none}
use Rattle.qp_plain_sound.proofs.Standing.{block-pool}
use Rattle.qp_calls_log.specs.declared.log.Log.{Log}
use Rattle.qp_plain.specs.declared.book.Book.{Book}
use Rattle.qp_plain.specs.Books.{places_of, log_recs, all_places}
use Rattle.qp_plain.specs.Book.{lists_of, logs_of, purses_of}
use Rattle.qp_plain.specs.Fresh.{tabulated, free_pool, first_queue, is_fresh_log, no_recs, IsNewBook}
use Rattle.qp_plain.specs.Tables.{PoolsHold, BlocksHold, CellsHold, QueuesHold, SignalsHold, TimersHold, Limits, block_place, no_pool, free_block, no_queue, no_signal, no_clock}
use Rattle.qp_plain.specs.World.{WorldHolds, StopIs, fits_stop, no_codes}
use Rattle.qp_plain.proofs.Holding.{pool-in, signal-in, timer-in}
use Rattle.qp_model.proofs.ListLemmas.{each-at}

-- Lists made by a function.
pub length-made : {X : Type 0} (f : ℕ → X) (n : ℕ) → length (tabulated f n) ≡ n
unfolding tabulated
length-made f zero = refl
length-made f (suc n) = let later = length-made f n in let both = length-append (tabulated f n) (f n ∷ []) in omega (arith, later, both)

pub made-more : {X : Type 0} (f : ℕ → X) (n : ℕ) (x : X) → x ≡ f n → tabulated f n ++ x ∷ [] ≡ tabulated f (n + 1)
unfolding tabulated
made-more f n x is = let up : n + 1 ≡ suc n = omega arith in ap (λ y. tabulated f n ++ y ∷ []) is ∙ ap (tabulated f) (sym up)

get-front : {X : Type 0} (xs ys : List X) (k : ℕ) (d : X) → k < length xs → get_or (xs ++ ys) k d ≡ get_or xs k d
get-front [] ys k d lt = absurd (omega (arith, lt))
get-front (x ∷ xs) ys zero d lt = refl
get-front (x ∷ xs) ys (suc k) d lt = get-front xs ys k d (omega (arith, lt))

get-end : {X : Type 0} (xs : List X) (x : X) (k : ℕ) (d : X) → k ≡ length xs → get_or (xs ++ x ∷ []) k d ≡ x
get-end [] x zero d e = refl
get-end [] x (suc k) d e = absurd (omega (arith, e))
get-end (y ∷ ys) x zero d e = absurd (omega (arith, e))
get-end (y ∷ ys) x (suc k) d e = get-end ys x k d (omega (arith, e))

pub get-made : {X : Type 0} (f : ℕ → X) (n k : ℕ) (d : X) → k < n → get_or (tabulated f n) k d ≡ f k
unfolding tabulated
get-made f zero k d lt = absurd (omega (arith, lt))
get-made f (suc n) k d lt = go (nat_lt k n) refl (get-made f n k d)
  where
    go : (b : Bool) → nat_lt k n ≡ b → (k < n → get_or (tabulated f n) k d ≡ f k) → get_or (tabulated f n ++ f n ∷ []) k d ≡ f k
    go true e earlier =
        let less : k < n = grind (arith, nat_tests) in
        let long = length-made f n in
        get-front (tabulated f n) (f n ∷ []) k d (omega (arith, less, long)) ∙ earlier less
    go false e earlier =
        let most : n ≤ k = grind (arith, nat_tests) in
        let long = length-made f n in
        let same : n ≡ k = omega (arith, most, lt) in
        get-end (tabulated f n) (f n) k d (omega (arith, same, long)) ∙ ap f same

pub get-copies : {X : Type 0} (n k : ℕ) (x : X) → get_or (replicate n x) k x ≡ x
get-copies zero k x = refl
get-copies (suc n) zero x = refl
get-copies (suc n) (suc k) x = get-copies n k x

-- Lanes without a record.
pub all-more : (logs : List Log) (g : Log) → list_all is_fresh_log logs ≡ true → is_fresh_log g ≡ true → list_all is_fresh_log (logs ++ g ∷ []) ≡ true
all-more [] g h here = and_from _ _ here refl
all-more (x ∷ xs) g h here = and_from _ _ (and_parts _ _ h).0 (all-more xs g (and_parts _ _ h).1 here)

pub all-put : (logs : List Log) (k : ℕ) (g : Log) → list_all is_fresh_log logs ≡ true → is_fresh_log g ≡ true → list_all is_fresh_log (slice_set logs k g) ≡ true
all-put [] k g h here = refl
all-put (x ∷ xs) zero g h here = and_from _ _ here (and_parts _ _ h).1
all-put (x ∷ xs) (suc k) g h here = and_from _ _ (and_parts _ _ h).0 (all-put xs k g (and_parts _ _ h).1 here)

-- what is known of such a lane
pub record NewLog (g : Log) : Type 0 where
  pub recs : g.recs.items ≡ []
  pub spare : g.spare ≡ 0
  pub spilled : g.spilled ≡ false
  pub stops : no_codes g.stops.list ≡ true
  pub answered : no_codes g.answered.list ≡ true

pub new-parts : (g : Log) → is_fresh_log g ≡ true → NewLog g
new-parts g h =
    let a = and_parts _ _ h in
    let b = and_parts _ _ a.0 in
    let c = and_parts _ _ a.1 in
    let d = and_parts _ _ c.1 in
    let none : (g.spare == 0) ≡ true = b.1 in
    record { recs = nothing g.recs.items b.0; spare = grind (arith, nat_tests, none); spilled = not-true g.spilled c.0; stops = d.0; answered = d.1 }
  where
    nothing : (rs : List Rec) → no_recs rs ≡ true → rs ≡ []
    nothing [] e = refl
    nothing (r ∷ rs) e = absurd (cc)

pub is-new : (g : Log) → g.recs.items ≡ [] → g.spare ≡ 0 → g.spilled ≡ false → g.stops.list ≡ [] → g.answered.list ≡ [] → is_fresh_log g ≡ true
is-new g recs spare spilled stops answered = rw (recs, spare, spilled, stops, answered) refl

lists-none : (logs : List Log) → list_all is_fresh_log logs ≡ true → map log_recs logs ≡ empty_lanes (length logs)
lists-none [] h = refl
lists-none (g ∷ gs) h =
    let new = new-parts g (and_parts _ _ h).0 in
    ap (λ x. x ∷ map log_recs gs) new.recs ∙ ap (λ xs. [] ∷ xs) (lists-none gs (and_parts _ _ h).1)

pub places-new : (logs : List Log) → list_all is_fresh_log logs ≡ true → all_places logs ≡ length logs
places-new [] h = refl
places-new (g ∷ gs) h =
    let new = new-parts g (and_parts _ _ h).0 in
    let one : places_of g ≡ 1 = rw (new.spare, new.spilled) refl in
    let later : all_places gs ≡ length gs = places-new gs (and_parts _ _ h).1 in
    let sum = sum_by-cons places_of g gs in
    omega (arith, one, later, sum)

stops-new : (logs : List Log) → list_all is_fresh_log logs ≡ true → list_all (fits_stop 0) logs ≡ true
stops-new [] h = refl
stops-new (g ∷ gs) h =
    let new = new-parts g (and_parts _ _ h).0 in
    and_from _ _ (and_from _ _ new.stops (none g.answered.list new.answered)) (stops-new gs (and_parts _ _ h).1)
  where
    none : (cs : List ℕ) → no_codes cs ≡ true → no_codes (codes_in cs) ≡ true
    none [] e = refl
    none (c ∷ cs) e = absurd (cc)

pub book-lists : (n : ℕ) (b : Book) → IsNewBook n b → lists_of b ≡ empty_lanes n
book-lists n b new = lists-none (logs_of b) new.all ∙ ap empty_lanes (length-set b.others.items b.at b.here ∙ new.long)

pub stop-new : (n : ℕ) (b : Book) → IsNewBook n b → StopIs 0 (logs_of b)
stop-new n b new = record { few = omega arith; fits = stops-new (logs_of b) new.all; handed = refl }

pools-new : (sys : System) (n : ℕ) → PoolsHold sys (empty_lanes n) (tabulated (free_pool sys) (length sys.pools))
unfolding pool_in after after_from
pools-new sys n = record {
  long = length-made (free_pool sys) (length sys.pools);
  pool = λ p h.
      let at = pool-in sys p h in
      let up : suc (p - 1) ≡ p = omega (arith, at.0) in
      get-made (free_pool sys) (length sys.pools) (p - 1) no_pool (omega (arith, at.0, at.1))
      ∙ ap (λ x. record { count = 0; free = count_up 0 (blocks_of sys x) }) up ∙ sym (ap (after (free_blocks (blocks_of sys p))) (hist-none (word.Pool p) n));
}

blocks-new : (sys : System) (n : ℕ) (table : List BlockWord) → table ≡ replicate 480 free_block → BlocksHold sys (empty_lanes n) table
unfolding refs_in after after_from
blocks-new sys n table is = record {
  long = ap length is ∙ length-replicate 480 free_block;
  ops = λ p b h. ap (λ xs. (get_or xs (block_place p b) free_block).ops) is ∙ ap (λ w. w.ops) (get-copies 480 (block_place p b) free_block) ∙ sym (ap (λ x. (after references x).count) (hist-none (word.Block p b) n));
  refs = λ p b h. ap (λ xs. (get_or xs (block_place p b) free_block).refs) is ∙ ap (λ w. w.refs) (get-copies 480 (block_place p b) free_block) ∙ sym (ap (λ x. length (after references x).names) (hist-none (word.Block p b) n));
}

cells-new : (sys : System) (n : ℕ) (table : List Ev) → length table ≡ 480 → CellsHold sys (empty_lanes n) table
unfolding cell_in cell_after
cells-new sys n table long = record {
  long = long;
  event = λ p b h ev is.
      let none : cell_in (empty_lanes n) p b ≡ None = ap (cell_after b None) (hist-none (word.Pool p) n) in
      let wrong : None ≡ Some ev = sym none ∙ is in absurd (cc);
}

queues-new : (sys : System) (n : ℕ) → Limits sys → QueuesHold sys (empty_lanes n) (tabulated (first_queue sys) 33)
unfolding line_in after after_from
queues-new sys n limits = record {
  long = length-made (first_queue sys) 33;
  queue = λ a h.
      let at = limits.objects a h in
      get-made (first_queue sys) 33 a no_queue (omega (arith, at.1))
      ∙ sym (ap (λ x. record { line = after (line (ring_of sys a)) x; ring = ring_of sys a }) (hist-none (word.Queue a) n));
}

signals-new : (sys : System) (n : ℕ) → SignalsHold sys (empty_lanes n) (tabulated (λ k. no_signal) (length sys.signals))
unfolding set_in after after_from are_members
signals-new sys n = record {
  long = length-made (λ k. no_signal) (length sys.signals);
  signal = λ g h.
      let at = signal-in sys g h in
      let is = get-made (λ k. no_signal) (length sys.signals) (g - 4) no_signal (omega (arith, at.0, at.1)) in
      let set = ap (after subscribers) (hist-none (word.Signal g) n) in
      record {
        ops = ap (λ w. w.ops) is ∙ sym (ap (λ s. s.count) set);
        set = ap (λ w. w.set) is ∙ sym (ap (λ s. bits_of_set s.members) set);
        members = ap (λ s. are_members s.members) set;
      };
}

timers-new : (sys : System) (n : ℕ) → TimersHold sys (empty_lanes n) (tabulated (λ k. no_clock) (length sys.timers))
unfolding clock_in after after_from
timers-new sys n = record {
  long = length-made (λ k. no_clock) (length sys.timers);
  timer = λ t h.
      let at = timer-in sys t h in
      get-made (λ k. no_clock) (length sys.timers) (t - 1) no_clock (omega (arith, at.0, at.1)) ∙ sym (ap (after time_event) (hist-none (word.Timer t) n));
}

pub blocks-few : (sys : System) → IsSound sys → (p : ℕ) → blocks_of sys p ≤ 32
blocks-few sys sound p = go (slice_get sys.pools (p - 1)) refl
  where
    go : (d : Option PoolDef) → slice_get sys.pools (p - 1) ≡ d → option_map_or (λ x. x.blocks) d 0 ≤ 32
    go None e = omega arith
    go (Some d) e = let pool : IsSoundPool d = each-at IsSoundPool sys.pools (p - 1) d sound.pools e in pool.few_blocks

object-some : (sys : System) (xs : List ObjectDef) (a : ℕ) → AllByRecursion (λ d. d.priority ≤ 32) xs → AllByRecursion (IsSoundObject sys.charts) xs
    → is_some (find (λ d. d.priority == a) xs) ≡ true → (0 < a) × (a ≤ 32)
object-some sys [] a few all h = absurd (cc)
object-some sys (x ∷ xs) a few all h = go (x.priority == a) refl h (object-some sys xs a few.1 all.1)
  where
    go : (u : Bool) → (x.priority == a) ≡ u → is_some (cond u (Some x) (find (λ d. d.priority == a) xs)) ≡ true
        → (is_some (find (λ d. d.priority == a) xs) ≡ true → (0 < a) × (a ≤ 32)) → (0 < a) × (a ≤ 32)
    go true e k later =
        let is : x.priority ≡ a = grind (arith, nat_tests) in
        let most : x.priority ≤ 32 = few.0 in
        let some : 1 ≤ x.priority = all.0.some_priority in
        (omega (arith, is, some), omega (arith, is, most))
    go false e k later = later k

pub limits-of : (sys : System) → IsSound sys → Limits sys
unfolding is_object object_at
limits-of sys sound = record {
  pools = sound.few_pools;
  blocks = λ p b h. let at = block-pool sys p b h in let few = blocks-few sys sound p in omega (arith, at.1, few);
  objects = λ a h. object-some sys sys.objects a sound.priorities sound.objects h;
}

-- All of it.
pub world-new : (sys : System) (n : ℕ) (b : Book) (blocks : List BlockWord) (cells : List Ev) → IsSound sys → IsNewBook n b → blocks ≡ replicate 480 free_block → length cells ≡ 480
    → WorldHolds sys (lists_of b) b.order.items (tabulated (free_pool sys) (length sys.pools)) blocks cells (tabulated (first_queue sys) 33) (tabulated (λ k. no_signal) (length sys.signals)) (tabulated (λ k. no_clock) (length sys.timers))
world-new sys n b blocks cells sound new blocks_are long =
    let lists = book-lists n b new in
    let limits = limits-of sys sound in
    subst (λ ls. WorldHolds sys ls b.order.items (tabulated (free_pool sys) (length sys.pools)) blocks cells (tabulated (first_queue sys) 33) (tabulated (λ k. no_signal) (length sys.signals)) (tabulated (λ k. no_clock) (length sys.timers))) (sym lists)
    (subst (λ xs. WorldHolds sys (empty_lanes n) xs (tabulated (free_pool sys) (length sys.pools)) blocks cells (tabulated (first_queue sys) 33) (tabulated (λ k. no_signal) (length sys.signals)) (tabulated (λ k. no_clock) (length sys.timers))) (sym new.order)
    (record {
      world = new-sound sys n sound;
      limits = limits;
      pools_hold = pools-new sys n;
      blocks_hold = blocks-new sys n blocks blocks_are;
      cells_hold = cells-new sys n cells long;
      queues_hold = queues-new sys n limits;
      signals_hold = signals-new sys n;
      timers_hold = timers-new sys n;
    }))

-- and what is seen of its lane
pub view-new : (sys : System) (n : ℕ) (b : Book) → 0 < n → IsNewBook n b → IsNew (view_of sys (lists_of b) b.order.items b.at b.here.spare 0 b.here.stops.list b.here.answered.list (purses_of b))
view-new sys n b some new =
    let here = new-parts b.here new.here in
    let stops = empty b.here.stops.list here.stops in
    let answered = empty b.here.answered.list here.answered in
    subst (λ x. IsNew (view_of sys x b.order.items b.at b.here.spare 0 b.here.stops.list b.here.answered.list (purses_of b))) (sym (book-lists n b new))
    (subst (λ x. IsNew (view_of sys (empty_lanes n) x b.at b.here.spare 0 b.here.stops.list b.here.answered.list (purses_of b))) (sym new.order)
    (subst (λ x. IsNew (view_of sys (empty_lanes n) [] x b.here.spare 0 b.here.stops.list b.here.answered.list (purses_of b))) (sym new.at)
    (subst (λ x. IsNew (view_of sys (empty_lanes n) [] 0 x 0 b.here.stops.list b.here.answered.list (purses_of b))) (sym here.spare)
    (subst (λ x. IsNew (view_of sys (empty_lanes n) [] 0 0 0 x b.here.answered.list (purses_of b))) (sym stops)
    (subst (λ x. IsNew (view_of sys (empty_lanes n) [] 0 0 0 [] x (purses_of b))) (sym answered) (new-lane sys n 0 0 (purses_of b) some))))))
  where
    empty : (cs : List ℕ) → no_codes cs ≡ true → cs ≡ []
    empty [] e = refl
    empty (c ∷ cs) e = absurd (cc)
