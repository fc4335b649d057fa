-- A lane where nothing has happened.
use Rattle.std.proofs.Common.{◌≡◌, ℕ, zero, suc, ◌+◌, ◌-◌, ◌*◌, ◌/◌, ◌%◌, Bool, true, false, ◌&&◌, cond, List, [], ◌∷◌, length, refl, sym, ◌∙◌, ap, subst, arith, eqb, ltb, nat_le, IsTrue}
use Rattle.std.specs.Prelude.{Option, None, Some, slice_get, count_ones}
use Rattle.std.specs.Option.{option_map_or}
use Rattle.std.specs.List.{list_all, list_any}
use Rattle.qp_model.specs.declared.systems.System.{System}
use Rattle.qp_model.specs.declared.bodies.Entry.{Entry}
use Rattle.qp_model.specs.declared.words.Word.{Word}
use Rattle.qp_model.specs.declared.words.Word.TheVariants as word
use Rattle.qp_model.specs.Lists.{count_up}
use Rattle.qp_model.specs.History.{marks, lane_items}
use Rattle.qp_model.specs.Machine.{after, after_from, is_allowed, allowed_from}
use Rattle.qp_model.specs.Sites.{blocks_of}
use Rattle.qp_model.specs.WordLaw.{is_signal, is_timer}
use Rattle.qp_model.specs.Sound.{IsSound, IsSoundSignal}
use Rattle.qp_model.proofs.ListLemmas.{every-at}
use Rattle.qp_model.specs.Parts.{is_static, params_of}
use Rattle.qp_model.specs.declared.systems.SignalDef.{SignalDef}
use Rattle.qp_calls.specs.LaneView.{Shown, FreeBlocks, first_shown, codes_in, handled_in, ceiling_in, own_after}
use Rattle.qp_calls.specs.Tokens.{Token, Held, Loose, token_of, hands_after}
use Rattle.qp_calls_log.specs.declared.log.Log.{Log}
use Rattle.qp_table.specs.Rule.{mark_in, bits_value, is_serve}
use Rattle.qp_table.specs.After.{empty_view}
use Rattle.qp_table.specs.declared.view.Serve.{Serve}
use Rattle.qp_table.specs.declared.view.View.{View}
use Rattle.qp_table.proofs.Bounds.{map-small}
use Rattle.qp_table.proofs.Start.{fitting, object-within}
use Rattle.qp_table.specs.Words.{place_of, is_here, first_value, value_seen, latest, mark_seen, shown_seen, as_shown}
use Rattle.qp_table.specs.Lane.{own_recs, on_table_of, tell_lane, event_seen, lane_number, tokens, tokens_of_view, lane_mark, lane_of}
use Rattle.qp_side.specs.Rule.{SideFitting, signal_at, timer_at}
use Rattle.qp_side.specs.Told.{last_seen}
use Rattle.qp_side.specs.declared.view.SideView.{SideView}
use Rattle.qp_shared_lane.specs.Holds.{LaneHolds, on_side_of, told_by, borne_out, KnowSubscribers, AreFormer}
use Rattle.qp_side.specs.Seat.{side_mark}
use Rattle.qp_shared_lane.specs.Lane.{lane_with}
use Rattle.qp_shared_ends.proofs.Maps.{free-ascend}
use Rattle.qp_table.proofs.Maps.{ones-length}
use Rattle.qp_shared_ends.proofs.SeatPasts.{first-mark}
use Rattle.qp_shared.specs.Starting.{IsBareLog, AreFirstViews, IsNewLaneOf}

pub side-fitting : (sys : System) → IsSound sys → SideFitting sys
side-fitting sys sound = record { few_signals = sound.few_signals; few_timers = sound.few_timers; objects = λ o h. let w = object-within sys sound o h in (w.0, w.1) }

-- a static event has no parameters
static-params : (sys : System) → IsSound sys → (sig : ℕ) → is_static sys sig ≡ true → params_of sys sig ≡ 0
unfolding is_static
static-params sys sound sig fixed = go (slice_get sys.signals (sig - 4)) refl
  where
    go : (o : Option SignalDef) → slice_get sys.signals (sig - 4) ≡ o → option_map_or (λ d. d.params) o 0 ≡ 0
    go None at = refl
    go (Some d) at =
        let here : nat_le 4 sig && d.fixed ≡ true = rw at at fixed in
        (every-at (IsSoundSignal sys.pools) sys.signals sound.signals (sig - 4) d at).bare (grind arith)

-- views with nothing but a number, numbers to give, and objects
abbrev pub first_view : ℕ → List ℕ → List Serve → View
first_view n ks xs = record empty_view { logs = record { number = n; recs = [] } ∷ []; lane_numbers = ks; serves = xs }

abbrev pub first_side : ℕ → List ℕ → List Serve → SideView
first_side n ks xs = record { view = first_view n ks xs; stops = []; answered = [] }

module _ (sys : System) (sound : IsSound sys) (count n : ℕ) (g : Log) (bare : IsBareLog g) (ks js : List ℕ) (xs : List Serve) where
  abbrev v : View
  v = first_view n ks xs

  abbrev s : SideView
  s = first_side n js xs

  pub nothing-told : told_by g [] v ≡ []
  unfolding tell_lane
  nothing-told = ap (λ rs. tell_lane (event_seen v.contents) rs []) bare.recs

  no-tokens : (t : Token) → tokens t (hands_after [] []) ≡ tokens_of_view v t
  unfolding hands_after
  no-tokens (Held p b k) = refl
  no-tokens (Loose p b true) = refl
  no-tokens (Loose p b false) = refl

  none-behind : (k : ℕ) (w : Word) → list_all (λ m. nat_le m k) (marks w (lane_items [])) ≡ true
  unfolding lane_items
  none-behind k w = refl

  no-recs-table : on_table_of [] ≡ own_recs v
  unfolding on_table_of own_recs lane_items
  no-recs-table = refl

  no-recs-side : on_side_of [] ≡ own_recs s.view
  unfolding on_side_of own_recs lane_items
  no-recs-side = refl

  same-number : lane_number s.view ≡ lane_number v
  unfolding lane_number
  same-number = refl

  number-is : lane_number v ≡ n
  unfolding lane_number
  number-is = refl

  pub first-holds : 1 + length ks ≡ cond (eqb n 0) (50 - count) 1 → 1 + length js ≡ cond (eqb n 0) (50 - count) 1 → LaneHolds sys count 0 g [] v s
  unfolding KnowSubscribers AreFormer ceiling_in lane_number
  first-holds rights side_rights = record {
    fitting = fitting sys sound;
    side_fitting = side-fitting sys sound;
    bare = static-params sys sound;
    lane = refl;
    side_lane = refl;
    number = refl;
    same = ap on_table_of bare.recs ∙ no-recs-table;
    same_side = ap on_side_of bare.recs ∙ no-recs-side;
    serves = λ o. refl;
    stops = bare.stops;
    answered = ap codes_in bare.answered;
    beside = sym (ap length bare.recs);
    hands = λ t. ap (λ ts. tokens t (hands_after [] ts)) nothing-told ∙ no-tokens t;
    read = λ e l. absurd (omega arith);
    handled = λ e h. absurd (no-handled e (subst (λ ts. handled_in (token_of e) ts ≡ true) nothing-told h));
    still = record { fills = refl; claims = refl; takes = refl; done = refl; begun = λ p b. omega arith };
    placed = λ p b l. absurd (omega arith);
    worn = λ p b k l. absurd (omega arith);
    behind = λ w on. subst (λ rs. list_all (λ m. nat_le m (mark_seen sys v.seen w)) (marks w (lane_items rs)) ≡ true) (sym bare.recs) (none-behind (mark_seen sys v.seen w) w);
    side_behind = λ k is. subst (λ rs. list_all (λ m. nat_le m (mark_in (signal_at k) (last_seen (signal_at k) s))) (marks (word.Signal k) (lane_items rs)) ≡ true) (sym bare.recs) (none-behind (mark_in (signal_at k) (last_seen (signal_at k) s)) (word.Signal k));
    borne = subst (λ ts. list_all (borne_out sys v.seen) ts ≡ true) (sym nothing-told) refl;
    subscribers = subst (KnowSubscribers (λ o. list_any (is_serve o) v.serves) []) (sym nothing-told) tt;
    formers = subst (AreFormer 0) (sym nothing-told) tt;
    ceiling_is = ap (ceiling_in 0) nothing-told;
    rights = rights;
    side_rights = side_rights;
  }
    where
      no-handled : (e : Entry) → handled_in (token_of e) [] ≡ true → ⊥
      no-handled e h = cc

  zero-mark : (w : ℕ) → mark_in w 0 ≡ 0
  zero-mark w = go (ltb w 4224)
    where
      go : (t : Bool) → cond {A = ℕ} t (0 / 4294967296) (0 % 2097152 + 0 / 2097152 % 2097152 + 0 / 4398046511104) ≡ 0
      go true = refl
      go false = refl

  both-zero : (t : Bool) (x : ℕ) → x ≡ 0 → cond {A = ℕ} t x 0 ≡ 0
  both-zero true x e = e
  both-zero false x e = refl

  mark-first : (w : Word) → mark_seen sys [] w ≡ 0
  unfolding mark_seen value_seen latest
  mark-first w = go (is_here sys w) refl
    where
      go : (t : Bool) → is_here sys w ≡ t → cond {A = ℕ} t (mark_in (place_of w) (first_value sys w)) 0 ≡ 0
      go true here = first-mark sys (fitting sys sound) w here
      go false here = refl

  side-first : (w : ℕ) → mark_in w (last_seen w s) ≡ 0
  unfolding latest
  side-first w = zero-mark w

  no-mark : (w : Word) → lane_mark sys v.seen (side_mark sys s) w ≡ 0
  no-mark (word.Signal k) = both-zero (is_signal sys k) (mark_in (signal_at k) (last_seen (signal_at k) s)) (side-first (signal_at k))
  no-mark (word.Timer k) = both-zero (is_timer sys k) (mark_in (timer_at k) (last_seen (timer_at k) s)) (side-first (timer_at k))
  no-mark (word.Pool p) = mark-first (word.Pool p)
  no-mark (word.Block p b) = mark-first (word.Block p b)
  no-mark (word.Queue a) = mark-first (word.Queue a)

  length-up : (from k : ℕ) → length (count_up from k) ≡ k
  length-up from zero = refl
  length-up from (suc k) = let r = length-up (from + 1) k in omega arith

  as-first : (w : Word) → IsTrue (is_here sys w) → as_shown w (first_value sys w) ≡ first_shown sys w
  unfolding after after_from is_allowed allowed_from
  as-first (word.Pool p) here =
      let few = ((fitting sys sound).small p here).1 in let up = free-ascend (blocks_of sys p) [] refl in
      let small = map-small (blocks_of sys p) (count_up 0 (blocks_of sys p)) few up in
      let bits : (0 * 4294967296 + bits_value (count_up 0 (blocks_of sys p))) % 4294967296 ≡ bits_value (count_up 0 (blocks_of sys p)) = omega arith in
      ap FreeBlocks (ap count_ones bits ∙ (ones-length 0 (blocks_of sys p) (count_up 0 (blocks_of sys p)) up ∙ length-up 0 (blocks_of sys p)))
  as-first (word.Block p b) here = refl
  as-first (word.Queue a) here = refl
  as-first (word.Signal k) here = absurd (cc)
  as-first (word.Timer k) here = absurd (cc)

  shown-first : (w : Word) → shown_seen sys [] w ≡ first_shown sys w
  unfolding shown_seen value_seen latest
  shown-first w = go (is_here sys w) refl
    where
      go : (t : Bool) → is_here sys w ≡ t → cond {A = Shown} t (as_shown w (first_value sys w)) (first_shown sys w) ≡ first_shown sys w
      go true here = as-first w here
      go false here = refl

  pub first-starts : (world : List ℕ) → IsNewLaneOf world sys n (lane_with world sys 0 g [] v s)
  unfolding lane_of own_after hands_after lane_number
  first-starts world = record {
    new = record {
      told = nothing-told;
      by = refl;
      stops = bare.stops;
      answered = ap codes_in bare.answered;
      asked = ap length bare.answered;
      mark = no-mark;
      shown = shown-first;
      own = λ a. ap (own_after a (record { l = 0; m = 0 })) nothing-told;
      hands = ap (hands_after []) nothing-told;
      happened = refl;
    };
    world_is = refl;
    sys_is = refl;
    number_is = refl;
    plan = refl;
    aside = refl;
  }

-- the same of views that are equal to these
module _ (sys : System) (sound : IsSound sys) (count n : ℕ) (g : Log) (bare : IsBareLog g) (nums : List ℕ) (none : nums ≡ []) (u : View) (z : SideView) (views : AreFirstViews n count u z) where
  pub holds-at : LaneHolds sys count 0 g nums u z
  holds-at = subst (λ (x : List ℕ × View × SideView). LaneHolds sys count 0 g x.0 x.1 x.2) (λ i. (sym none i, sym views.table i, sym views.side i))
      (first-holds sys sound count n g bare views.numbers views.side_numbers u.serves views.rights views.side_rights)

  pub starts-at : (world : List ℕ) → IsNewLaneOf world sys n (lane_with world sys 0 g nums u z)
  starts-at world = subst (λ (x : List ℕ × View × SideView). IsNewLaneOf world sys n (lane_with world sys 0 g x.0 x.1 x.2)) (λ i. (sym none i, sym views.table i, sym views.side i))
      (first-starts sys sound count n g bare views.numbers views.side_numbers u.serves world)
