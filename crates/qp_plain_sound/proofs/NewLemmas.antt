-- A world without records.
use Rattle.std.proofs.Common.{◌≡◌, ℕ, zero, suc, ◌+◌, ◌-◌, ◌<◌, ◌≤◌, ◌==◌, Bool, true, false, cond, List, [], ◌∷◌, length, slice_get, refl, sym, ◌∙◌, ap, subst, arith, IsTrue, Option, Some, None}
use Rattle.std.specs.List.{find, AllByRecursion}
use Rattle.std.specs.Option.{is_some, option_map_or}
use Rattle.std.proofs.lemmas.Bool.{and_parts}
use Rattle.std.proofs.lemmas.Bool.Decides.{nat_tests}
use Rattle.qp_model.specs.declared.words.Word.{Word}
use Rattle.qp_model.specs.declared.words.Word.TheVariants as word
use Rattle.qp_model.specs.declared.systems.System.{System}
use Rattle.qp_model.specs.declared.systems.ObjectDef.{ObjectDef}
use Rattle.qp_model.specs.declared.systems.SignalDef.{SignalDef}
use Rattle.qp_model.specs.Lists.{count_up, all_below}
use Rattle.qp_model.specs.History.{hist, total, numbered, is_numbered, marks_rise, all_items, lane_items}
use Rattle.qp_model.specs.Machine.{Machine, after, is_allowed, is_shown}
use Rattle.qp_model.specs.FreeBlocks.{free_blocks}
use Rattle.qp_model.specs.References.{references}
use Rattle.qp_model.specs.Line.{line}
use Rattle.qp_model.specs.Subscribers.{subscribers}
use Rattle.qp_model.specs.TimeEvents.{time_event}
use Rattle.qp_model.specs.Lives.{HasLives, life_of, edges, edges_empty, lives_cover, lives_referred, refs_at}
use Rattle.qp_model.specs.Knowing.{told_lane}
use Rattle.qp_model.specs.Settled.{all_settled}
use Rattle.qp_model.specs.Places.{in_order}
use Rattle.qp_model.specs.Parts.{is_static, params_of}
use Rattle.qp_model.specs.Sites.{object_at, ring_of, blocks_of}
use Rattle.qp_model.specs.Sound.{IsSound, IsSoundSignal}
use Rattle.qp_model.specs.WordLaw.{Keeps, Words, is_object}
use Rattle.qp_calls.specs.Counting.{times}
use Rattle.qp_calls.specs.LaneView.{FreeBlocks, first_shown}
use Rattle.qp_calls.specs.Tokens.{Token, hands_after}
use Rattle.qp_plain_sound.specs.Log.{empty_lanes, lane_recs, log_of}
use Rattle.qp_plain_sound.specs.WordStates.{pool_in, life_in, refs_in, line_in, set_in}
use Rattle.qp_plain_sound.specs.Sound.{Sound, BlockIn, EventIn, hands_in, told_log, queued, queues, entries_in, is_token_of, all_made}
use Rattle.qp_plain_sound.specs.View.{view_of, shown_in, own_of_line}
use Rattle.qp_plain_sound.specs.Laws.{NewWorldIsSound, NewLaneIsNew}
use Rattle.qp_plain_sound.proofs.EndLemmas.{sum-none}
use Rattle.qp_model.proofs.ListLemmas.{each-at}
use Rattle.qp_model.proofs.HistoryLemmas.{no-hist, no-total}

pub no-items : (n : ℕ) → all_items (empty_lanes n) ≡ []
unfolding all_items lane_items
no-items zero = refl
no-items (suc n) = no-items n

no-marks : (w : Word) (n : ℕ) → marks_rise w (empty_lanes n) ≡ true
unfolding marks_rise lane_items
no-marks w zero = refl
no-marks w (suc n) = no-marks w n

pub no-lane : (n a : ℕ) → lane_recs (empty_lanes n) a ≡ []
no-lane zero a = refl
no-lane (suc n) zero = refl
no-lane (suc n) (suc a) = no-lane n a

pub none-numbered : (w : Word) → is_numbered w [] ≡ true
unfolding is_numbered all_below total
none-numbered w = refl

none-shown : {S : Type 0} (m : Machine S) (w : Word) → is_shown m w [] ≡ true
unfolding is_shown
none-shown m w = refl

none-allowed : {S : Type 0} (m : Machine S) → is_allowed m [] ≡ true
unfolding is_allowed
none-allowed m = refl

pub hist-none : (w : Word) (n : ℕ) → hist w (all_items (empty_lanes n)) ≡ []
hist-none w n = ap (hist w) (no-items n) ∙ no-hist w

keeps-none : {S : Type 0} (m : Machine S) (w : Word) (n : ℕ) → Keeps S m w (empty_lanes n)
keeps-none m w n = record {
  numbers = ap (is_numbered w) (no-items n) ∙ none-numbered w;
  allowed = ap (is_allowed m) (hist-none w n) ∙ none-allowed m;
  shown = ap (is_shown m w) (no-items n) ∙ none-shown m w;
  marks = no-marks w n;
}

no-lives : (b : ℕ) → HasLives b [] []
unfolding is_allowed edges_empty edges refs_at lives_cover lives_referred all_below after
no-lives b = record { alternate = refl; empty = refl; cover = refl; referred = refl }

words-none : (sys : System) (n : ℕ) → Words sys (empty_lanes n)
words-none sys n = record {
  pools = λ p h. keeps-none (free_blocks (blocks_of sys p)) (word.Pool p) n;
  blocks = λ p b h. keeps-none references (word.Block p b) n;
  lives = λ p b h. subst (λ x. HasLives b x (hist (word.Block p b) (all_items (empty_lanes n)))) (sym (hist-none (word.Pool p) n))
      (subst (λ x. HasLives b [] x) (sym (hist-none (word.Block p b) n)) (no-lives b));
  queues = λ a h. keeps-none (line (ring_of sys a)) (word.Queue a) n;
  signals = λ s h. keeps-none subscribers (word.Signal s) n;
  timers = λ t h. keeps-none time_event (word.Timer t) n;
}

-- What words hold at first.

pool-first : (sys : System) (n p : ℕ) → pool_in sys (empty_lanes n) p ≡ record { count = 0; free = count_up 0 (blocks_of sys p) }
unfolding pool_in after
pool-first sys n p = ap (after (free_blocks (blocks_of sys p))) (hist-none (word.Pool p) n)

life-first : (n p b : ℕ) → life_in (empty_lanes n) p b ≡ record { out = false; edge = 0 }
unfolding life_in after
life-first n p b = ap (after (life_of b)) (hist-none (word.Pool p) n)

refs-first : (n p b : ℕ) → refs_in (empty_lanes n) p b ≡ record { count = 0; names = [] }
unfolding refs_in after
refs-first n p b = ap (after references) (hist-none (word.Block p b) n)

line-first : (sys : System) (n a : ℕ) → line_in sys (empty_lanes n) a ≡ record { entries = []; f = 0; l = 0; m = 0 }
unfolding line_in after
line-first sys n a = ap (after (line (ring_of sys a))) (hist-none (word.Queue a) n)

set-first : (n s : ℕ) → set_in (empty_lanes n) s ≡ record { count = 0; members = [] }
unfolding set_in after
set-first n s = ap (after subscribers) (hist-none (word.Signal s) n)

queued-first : (sys : System) (n : ℕ) (t : Token) → queued sys (empty_lanes n) t ≡ 0
unfolding queued entries_in times
queued-first sys n t = sum-none queues (λ a. times (is_token_of t) (entries_in sys (empty_lanes n) a)) (λ a. go a (is_object sys a))
  where
    go : (a : ℕ) (u : Bool) → times (is_token_of t) (cond u (line_in sys (empty_lanes n) a).entries []) ≡ 0
    go a true = ap (λ q. times (is_token_of t) q.entries) (line-first sys n a)
    go a false = refl

block-first : (sys : System) (n p b : ℕ) → BlockIn sys (empty_lanes n) [] p b
unfolding times
block-first sys n p b = record {
  owned = λ r. ap (λ x. 0 + x) (queued-first sys n _) ∙ ap (λ x. times (λ y. y == r) x.names) (sym (refs-first n p b));
  lone = omega arith;
  fresh_is = λ some. absurd (omega (arith, some));
  used_is = λ some. absurd (omega (arith, some));
  kept = λ out empty. let wrong : false ≡ true = sym (ap (λ x. x.out) (life-first n p b)) ∙ out in absurd (cc);
  idle = λ out. ap (λ x. x.names) (refs-first n p b);
}

event-first : (sys : System) (n p b : ℕ) → EventIn sys (empty_lanes n) p b
event-first sys n p b = record {
  good = λ out. let wrong : false ≡ true = sym (ap (λ x. x.out) (life-first n p b)) ∙ out in absurd (cc);
  same = λ r stands. let wrong = rw (refs-first n p b) at stands in absurd (cc);
}

hands-first : (sys : System) (n : ℕ) → hands_in sys (empty_lanes n) [] ≡ []
unfolding hands_in told_log log_of hands_after
hands-first sys n = refl

sound-first : (sys : System) (n : ℕ) → Sound sys (empty_lanes n) []
sound-first sys n = record {
  words = words-none sys n;
  block = λ p b h. block-first sys n p b;
  event = λ p b h. event-first sys n p b;
  tokens = refl;
  entries = λ a h. rw (line-first sys n a) refl;
  subscribed = λ s h. rw (set-first n s) refl;
}

-- What the system has.

object-few : (xs : List ObjectDef) (a : ℕ) → AllByRecursion (λ d. d.priority ≤ 32) xs → is_some (find (λ d. d.priority == a) xs) ≡ true → a < queues
object-few [] a all h = absurd (cc)
object-few (x ∷ xs) a all h = go (x.priority == a) refl h (object-few xs a all.1)
  where
    go : (u : Bool) → (x.priority == a) ≡ u → is_some (cond u (Some x) (find (λ d. d.priority == a) xs)) ≡ true → (is_some (find (λ d. d.priority == a) xs) ≡ true → a < queues) → a < queues
    go true e k later = let is : x.priority ≡ a = grind (arith, nat_tests) in let few : x.priority ≤ 32 = all.0 in omega (arith, is, few)
    go false e k later = later k

few-objects : (sys : System) → IsSound sys → (a : ℕ) → IsTrue (is_object sys a) → a < queues
unfolding is_object object_at
few-objects sys sound a h = object-few sys.objects a sound.priorities h

bare-signals : (sys : System) → IsSound sys → (sig : ℕ) → IsTrue (is_static sys sig) → params_of sys sig ≡ 0
unfolding is_static
bare-signals sys sound sig h = go (slice_get sys.signals (sig - 4)) refl (and_parts _ _ h).1
  where
    go : (d : Option SignalDef) → slice_get sys.signals (sig - 4) ≡ d → option_map_or (λ x. x.fixed) d false ≡ true → option_map_or (λ x. x.params) d 0 ≡ 0
    go None e k = refl
    go (Some d) e k = let signal : IsSoundSignal sys.pools d = each-at (IsSoundSignal sys.pools) sys.signals (sig - 4) d sound.signals e in signal.bare k

pub new-sound : NewWorldIsSound
unfolding all_settled all_made log_of times in_order
new-sound sys n sound = record {
  orders = λ a. sym (ap length (no-lane n a));
  sound = subst (Sound sys (empty_lanes n)) (sym (hands-first sys n)) (sound-first sys n);
  numbered = refl;
  settled = rw (no-items n) refl;
  logged = refl;
  made = rw (no-items n) refl;
  few = few-objects sys sound;
  bare = bare-signals sys sound;
}

length-count_up : (from n : ℕ) → length (count_up from n) ≡ n
length-count_up from zero = refl
length-count_up from (suc n) = ap suc (length-count_up (from + 1) n)

pub new-lane : NewLaneIsNew
unfolding view_of shown_in lane_items told_lane
new-lane sys n at spare purses lt = record {
  told = rw (no-lane n at) refl;
  by = refl;
  stops = refl;
  answered = refl;
  asked = refl;
  mark = λ w. ap (total w) (no-items n) ∙ no-total w;
  shown = λ w. shown w;
  own = λ a. ap own_of_line (line-first sys n a);
  hands = hands-first sys n;
  happened = refl;
}
  where
    shown : (w : Word) → shown_in sys (empty_lanes n) w ≡ first_shown sys w
    shown (word.Pool p) = ap (λ x. FreeBlocks (length x.free)) (pool-first sys n p) ∙ ap FreeBlocks (length-count_up 0 (blocks_of sys p))
    shown (word.Block p b) = rw (refs-first n p b) refl
    shown (word.Queue a) = rw (line-first sys n a) refl
    shown _ = refl
