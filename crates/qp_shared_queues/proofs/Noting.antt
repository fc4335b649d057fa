-- Records that show a queue and move no token: `seen`, `nil`, and those of posts that find too few free entries.
use Rattle.std.proofs.Common.{◌≡◌, ℕ, ◌+◌, ◌/◌, ◌%◌, ◌<◌, List, [], ◌∷◌, true, false, refl, sym, ap, subst, ◌∙◌}
use Rattle.std.specs.List.{list_any}
use Rattle.qp_model.specs.declared.record.Rec.{Rec}
use Rattle.qp_model.specs.declared.systems.System.{System}
use Rattle.qp_model.specs.declared.words.Word.TheVariants as word
use Rattle.qp_model.specs.declared.bodies.Entry.{Entry}
use Rattle.qp_model.specs.declared.bodies.Body.{Body}
use Rattle.qp_model.specs.declared.bodies.Body.TheVariants.{Nil, Seen as seen_body, Full, NoEntry, NoLifo}
use Rattle.qp_model.specs.Record.{item_of}
use Rattle.qp_model.specs.Told.{Known, Nothing, Event, plain, for_object}
use Rattle.qp_model.specs.History.{touch_of}
use Rattle.qp_table.specs.TwoTables.{on_table}
use Rattle.qp_table.specs.Counting.{many}
use Rattle.qp_table.specs.Rule.{queue_at, mark_in, is_entry, is_serve}
use Rattle.qp_table.specs.After.{noted, SeesMore}
use Rattle.qp_table.specs.declared.view.Glance.{Glance}
use Rattle.qp_table.specs.declared.view.View.{View}
use Rattle.qp_calls.specs.LaneView.{AddsOf, Own, own_of}
use Rattle.qp_calls.specs.Clauses.{ShowsQueue}
use Rattle.qp_calls.specs.Tokens.{Token, token_of, hands_by, hands_after, handles}
use Rattle.qp_calls_log.specs.declared.log.Log.{Log}
use Rattle.qp_table.specs.Lane.{event_seen, known_with, told_as, tokens}
use Rattle.qp_table.specs.Telling.{Saw, OwnTold, Touches}
use Rattle.qp_table.proofs.Gaining.{mark-rises}
use Rattle.qp_shared_loops.specs.Ends.{seeing}
use Rattle.qp_shared_lane.specs.declared.lane.LaneState.{LaneState}
use Rattle.qp_shared_lane.specs.Holds.{is_borne_out}
use Rattle.qp_shared_lane.specs.Lane.{state_view}
use Rattle.qp_shared_lane.specs.More.{IsPut, OnTable}
use Rattle.qp_shared_queues.proofs.Views.{Alike, same-tokens, grown-still, read-still, worn-still, placed-still, still-alike, sees-last}
use Rattle.qp_shared_queues.proofs.Lane.{then_view, ThenHolds, told_in, says-then, holds-then, adds-then, own-then}

-- A record that shows the queue of a after k operations, and moves no token
pub record IsNeutral (a k o : ℕ) (b : Body) : Type 0 where
  pub touches : Touches (word.Queue a) k (for_object o (plain b))
  pub on : on_table (touch_of o b) ≡ true
  pub known : (ev : Entry → Event) → known_with ev b 0 ≡ Nothing
  pub hands : (hands : List Token) → hands_by hands (plain b) ≡ hands
  pub handles : (t : Token) → handles t b ≡ false
  pub borne : (sys : System) (seen : List Glance) → is_borne_out sys seen b Nothing ≡ true
  pub own : (c : Own) → own_of a c o b ≡ c

pub neutral-seen : (a f l m : ℕ) → IsNeutral a (f + l + m) 0 (seen_body a f l m)
unfolding hands_by
neutral-seen a f l m = record { touches = record { marks = λ y. refl; only = λ y. refl }; on = refl; known = λ ev. refl; hands = λ hs. refl; handles = λ t. refl; borne = λ sys seen. refl; own = λ c. refl }

pub neutral-nil : (a f l m : ℕ) → IsNeutral a (f + l + m) a (Nil f l m)
unfolding hands_by
neutral-nil a f l m = record { touches = record { marks = λ y. refl; only = λ y. refl }; on = refl; known = λ ev. refl; hands = λ hs. refl; handles = λ t. refl; borne = λ sys seen. refl; own = λ c. refl }

pub neutral-full : (a f l m o margin : ℕ) → IsNeutral a (f + l + m) o (Full a f l m margin)
unfolding hands_by
neutral-full a f l m o margin = record { touches = record { marks = λ y. refl; only = λ y. refl }; on = refl; known = λ ev. refl; hands = λ hs. refl; handles = λ t. refl; borne = λ sys seen. refl; own = λ c. refl }

pub neutral-no_entry : (a f l m o : ℕ) → IsNeutral a (f + l + m) o (NoEntry a f l m)
unfolding hands_by
neutral-no_entry a f l m o = record { touches = record { marks = λ y. refl; only = λ y. refl }; on = refl; known = λ ev. refl; hands = λ hs. refl; handles = λ t. refl; borne = λ sys seen. refl; own = λ c. refl }

pub neutral-no_lifo : (a f l m o : ℕ) → IsNeutral a (f + l + m) o (NoLifo a f l m)
unfolding hands_by
neutral-no_lifo a f l m o = record { touches = record { marks = λ y. refl; only = λ y. refl }; on = refl; known = λ ev. refl; hands = λ hs. refl; handles = λ t. refl; borne = λ sys seen. refl; own = λ c. refl }

module _ (l : LaneState) (a o x k : ℕ) (b : Body) (glances : List Glance) (rec q : Rec) (u : View) (h : Log) (more : List ℕ)
    (is : u ≡ noted (seeing glances l.seat.me.0) (queue_at a) x q) (seen : SeesMore l.seat.me.0.seen glances) (saw : Saw l.sys.now (word.Queue a) l.seat.me.0 u x) (mark_is : mark_in (queue_at a) x ≡ k)
    (put : IsPut rec 0 l.log l.numbers.list h more) (says : item_of rec ≡ record { of = o; body = b }) (q_says : item_of q ≡ record { of = o; body = b }) (neutral : IsNeutral a k o b) where
  alike : Alike l.seat.me.0 u
  alike = record {
    lane_numbers = ap (λ (z : View). z.lane_numbers) is;
    serves = λ o. ap (λ (z : View). list_any (is_serve o) z.serves) is;
    fresh = ap (λ (z : View). z.fresh) is;
    used = ap (λ (z : View). z.used) is;
    fills = ap (λ (z : View). z.fills) is;
    claims = ap (λ (z : View). z.claims) is;
    takes = ap (λ (z : View). z.takes) is;
    gives = ap (λ (z : View). z.gives) is;
  }

  contents : u.contents ≡ l.seat.me.0.contents
  contents = ap (λ (z : View). z.contents) is

  hands : u.hands ≡ l.seat.me.0.hands
  hands = ap (λ (z : View). z.hands) is

  on : OnTable l.sys.now (hands_after [] (told_in l)) l.seat.me.0 u rec 0 (for_object o (plain b)) (word.Queue a) k
  on = record {
    as_seen = q;
    says = says ∙ sym q_says;
    logs = ap (λ (z : View). z.logs) is;
    told = ap (λ i. told_as (event_seen u.contents) i 0) says ∙ ap (λ (c : Known). record { of = o; told = record { body = b; known = c } }) (neutral.known (event_seen u.contents));
    on = neutral.on;
    found = x;
    saw = saw;
    mark = mark_is;
    touches = neutral.touches;
    seen = sees-last l.seat.me.0 u glances (record { word = queue_at a; value = x }) seen (ap (λ (z : View). z.seen) is);
    lane_numbers = alike.lane_numbers;
    serves = alike.serves;
    grown = grown-still l.seat.me.0 u contents;
    read = read-still l.seat.me.0 u contents (λ e mine. subst (λ (xs : List Entry). 0 < many (is_entry e) xs) hands mine) l.holds.read;
    still = still-alike l.seat.me.0 u alike l.holds.still;
    placed = placed-still l.seat.me.0 u alike.fresh alike.used l.holds.placed;
    worn = worn-still l.sys.now l.seat.me.0 u alike.used (mark-rises l.sys.now (word.Queue a) l.seat.me.0 u x saw) l.holds.worn;
    hands_are = λ t. ap (tokens t) (neutral.hands (hands_after [] (told_in l))) ∙ (l.holds.hands t ∙ sym (same-tokens l.seat.me.0 u hands alike.fresh alike.used t));
    handled = λ e handled. let no = neutral.handles (token_of e) in absurd (cc);
    borne = neutral.borne l.sys.now u.seen;
  }

  pub noted-holds : ThenHolds l h more u
  noted-holds = holds-then l a x k u saw mark_is o (plain b) h more rec put on

  pub noted-adds : h.spare + 1 ≡ l.log.spare → AddsOf o (plain b ∷ []) (state_view l) (then_view l h more u)
  noted-adds spare = adds-then l a x k u saw mark_is o (plain b) h more rec put on spare

  pub noted-shows : (f lc m : ℕ) → x % 2097152 ≡ f → x / 2097152 % 2097152 ≡ lc → x / 4398046511104 ≡ m → OwnTold a lc m l.seat.me.0 → ShowsQueue a f lc m (then_view l h more u)
  noted-shows f lc m ef el em told = record {
    says = says-then l a x k u saw mark_is h more f lc m ef el em;
    own = own-then l a x k u saw mark_is o (plain b) h more rec put on lc m lc m (λ c c_is. neutral.own c ∙ c_is) told;
  }
