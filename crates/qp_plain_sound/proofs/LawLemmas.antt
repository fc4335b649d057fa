-- The laws of a world of one thread.
use Rattle.std.proofs.Common.{◌≡◌, ◌≢◌, ℕ, suc, ◌+◌, ◌<◌, ◌≤◌, ◌==◌, nat_lt, Bool, true, false, not, ◌&&◌, ◌||◌, cond, List, [], ◌∷◌, ◌++◌, length, drop, slice_set, refl, sym, ◌∙◌, ap, subst, arith, inl, inr, Some}
use Rattle.std.specs.List.{list_all, list_any, fold}
use Rattle.std.proofs.lemmas.Bool.{and_from, and_parts}
use Rattle.std.proofs.lemmas.Bool.Decides.{nat_tests}
use Rattle.qp_model.specs.declared.record.Rec.{Rec}
use Rattle.qp_model.specs.declared.systems.System.{System}
use Rattle.qp_model.specs.declared.bodies.Body.{Body}
use Rattle.qp_model.specs.declared.bodies.Body.TheVariants.{Took, Nil, Seen, New, Short, Inc, Dec, Back, Post, Lifo, Full, Pub, Sub, Unsub, Same, Arm, Disarm, Rearm, Idle, Tick, Fire, NoEntry, NoBlock, Armed, NoLifo}
use Rattle.std.specs.Option.{unwrap_or}
use Rattle.qp_model.specs.declared.bodies.Entry.{Entry}
use Rattle.qp_model.specs.Record.{Item, item_of, body_of, entry}
use Rattle.qp_model.specs.Ends.{is_spill}
use Rattle.qp_model.specs.Told.{ToldItem, for_object}
use Rattle.qp_model.specs.History.{lane_items, all_items}
use Rattle.qp_model.specs.Knowing.{Facts, known_of, told, told_lane, ceiling_after}
use Rattle.qp_model.specs.Settled.{AllSettled, is_settled, all_settled}
use Rattle.qp_model.proofs.KnowingLemmas.{told_lane-stays, records_of-told}
use Rattle.qp_model.proofs.SettledLemmas.{all_settled-from}
use Rattle.qp_calls.specs.LaneView.{Gains, LaneView, ceiling_in, is_known, mark_after, own_after}
use Rattle.qp_calls.specs.LaneLaws.{is_caused, is_caused_in}
use Rattle.qp_calls.specs.Notes.{IsNote, MayNote, note_told, told_note, stop_code, last_code}
use Rattle.qp_calls.specs.Tokens.{Token, hands_after}
use Rattle.qp_plain_sound.specs.Log.{lane_recs, log_of, first_placed, with_record}
use Rattle.qp_model.specs.OneOrder.{items_placed}
use Rattle.qp_plain_sound.specs.Sound.{SoundWorld, facts_in, hands_in, is_made}
use Rattle.qp_plain_sound.specs.May.{May}
use Rattle.qp_plain_sound.specs.View.{view_of, event_in}
use Rattle.qp_plain_sound.specs.Step.{WorldStep, Grown, before, behind, MayCome}
use Rattle.qp_plain_sound.specs.Laws.{StaysSound, LaneGainsIt, NoteIsAdded, LanesAreTheLog, LogGrowsAtItsEnd, OtherLanesStay, LaneKeepsItsLimit, LaneKeepsItsCauses, StopHasItsCause, CausesStay, WordsAreFew, LogIsNumbered, ToldByTheBook}
use Rattle.qp_plain_sound.proofs.Logs.{log-grows, lanes-log, lane-set_other}
use Rattle.qp_plain_sound.proofs.LogTotals.{total-log}
use Rattle.qp_plain_sound.proofs.CallEvents.{held-has, held-same, event-its}
use Rattle.qp_plain_sound.proofs.ViewLemmas.{any-told, all-lane, known-made}
use Rattle.qp_plain_sound.proofs.WorldLemmas as world
use Rattle.qp_plain_sound.proofs.CallParts.{world-after, gains, event_of-same}
use Rattle.qp_model.proofs.HistoryLemmas.{total-length}

pub stays-sound : StaysSound
stays-sound s o b old grown says may = world-after s o b old grown says may

pub lane-gains : LaneGainsIt
lane-gains s o b old grown says may = gains s o b old grown says may

pub lanes-are_log : LanesAreTheLog
lanes-are_log lanes order orders a = lanes-log lanes order orders a

pub log-at_end : LogGrowsAtItsEnd
log-at_end lanes more order longer at r orders grown = log-grows lanes more order longer at r orders grown

-- Notes.

note-may : (sys : System) (lanes : List (List Rec)) (hands : List Token) (o : ℕ) (v : LaneView) (b : Body) → IsNote b v → May sys lanes hands o b
unfolding May
note-may sys lanes hands o v (New p n b from sig pars) h = let wrong : false ≡ true = h.0 in absurd (cc)
note-may sys lanes hands o v (Inc p b r) h = let wrong : false ≡ true = h.0 in absurd (cc)
note-may sys lanes hands o v (Dec p b d k) h = let wrong : false ≡ true = h.0 in absurd (cc)
note-may sys lanes hands o v (Back p n b to) h = let wrong : false ≡ true = h.0 in absurd (cc)
note-may sys lanes hands o v (Short p n free reserve) h = let wrong : false ≡ true = h.0 in absurd (cc)
note-may sys lanes hands o v (NoBlock p n free) h = let wrong : false ≡ true = h.0 in absurd (cc)
note-may sys lanes hands o v (Post a f l m e) h = let wrong : false ≡ true = h.0 in absurd (cc)
note-may sys lanes hands o v (Lifo f l m e) h = let wrong : false ≡ true = h.0 in absurd (cc)
note-may sys lanes hands o v (Took f l m e) h = let wrong : false ≡ true = h.0 in absurd (cc)
note-may sys lanes hands o v (Seen p f l m) h = let wrong : false ≡ true = h.0 in absurd (cc)
note-may sys lanes hands o v (Nil f l m) h = let wrong : false ≡ true = h.0 in absurd (cc)
note-may sys lanes hands o v (Full a f l m margin) h = let wrong : false ≡ true = h.0 in absurd (cc)
note-may sys lanes hands o v (NoEntry a f l m) h = let wrong : false ≡ true = h.0 in absurd (cc)
note-may sys lanes hands o v (NoLifo a f l m) h = let wrong : false ≡ true = h.0 in absurd (cc)
note-may sys lanes hands o v (Sub sig n) h = let wrong : false ≡ true = h.0 in absurd (cc)
note-may sys lanes hands o v (Unsub sig n) h = let wrong : false ≡ true = h.0 in absurd (cc)
note-may sys lanes hands o v (Same sig n) h = let wrong : false ≡ true = h.0 in absurd (cc)
note-may sys lanes hands o v (Pub sig n set) h = let wrong : false ≡ true = h.0 in absurd (cc)
note-may sys lanes hands o v (Arm t n ticks interval) h = let wrong : false ≡ true = h.0 in absurd (cc)
note-may sys lanes hands o v (Disarm t n former) h = let wrong : false ≡ true = h.0 in absurd (cc)
note-may sys lanes hands o v (Rearm t n former ticks) h = let wrong : false ≡ true = h.0 in absurd (cc)
note-may sys lanes hands o v (Idle t n) h = let wrong : false ≡ true = h.0 in absurd (cc)
note-may sys lanes hands o v (Armed t n counter) h = let wrong : false ≡ true = h.0 in absurd (cc)
note-may sys lanes hands o v (Tick t n counter) h = let wrong : false ≡ true = h.0 in absurd (cc)
note-may sys lanes hands o v (Fire t n reload) h = let wrong : false ≡ true = h.0 in absurd (cc)
note-may sys lanes hands o v _ h = tt

note-told : (w : Facts) (o c : ℕ) (v : LaneView) (b : Body) → IsNote b v → told w o c b ≡ note_told c b
unfolding told known_of
note-told w o c v (Took f l m e) h = let wrong : false ≡ true = h.0 in absurd (cc)
note-told w o c v (New p n b from sig pars) h = let wrong : false ≡ true = h.0 in absurd (cc)
note-told w o c v (Dec p b d k) h = let wrong : false ≡ true = h.0 in absurd (cc)
note-told w o c v (Same sig n) h = let wrong : false ≡ true = h.0 in absurd (cc)
note-told w o c v _ h = refl

pub note-added : NoteIsAdded
unfolding MayNote told_note item_of
note-added s old grown note =
    let may : MayCome s s.rec.of (body_of s.rec) = note-may s.sys s.lanes (hands_in s.sys s.lanes s.order) s.rec.of (before s) (body_of s.rec) note in (
      world-after s s.rec.of (body_of s.rec) old grown refl may,
      subst (λ t. Gains (for_object s.rec.of t ∷ []) (before s) (behind s)) (note-told (facts_in s.sys s.more) s.rec.of (ceiling_in 0 (before s).told) (before s) (body_of s.rec) note)
          (gains s s.rec.of (body_of s.rec) old grown refl may),
    )

-- Other lanes.

module _ (sys : System) (lanes : List (List Rec)) (order : List ℕ) (at : ℕ) (r : Rec) (o : ℕ) (b : Body) (old : SoundWorld sys lanes order) (within : at < length lanes)
    (is : item_of r ≡ record { of = o; body = b }) (may : May sys lanes (hands_in sys lanes order) o b) (k : ℕ) (other : (k == at) ≡ false) where
  lane_kept : lane_recs (with_record lanes at r) k ≡ lane_recs lanes k
  lane_kept = let differ : k ≢ at = grind (arith, nat_tests) in lane-set_other lanes at k (lane_recs lanes at ++ r ∷ []) differ

  lane_settled : AllSettled (world.front sys lanes order at r o b old within is may ++ world.rest sys lanes order at r o b old within is may) (lane_items (lane_recs lanes k))
  unfolding all_settled
  lane_settled =
      subst (λ z. AllSettled z (lane_items (lane_recs lanes k))) (world.items_before sys lanes order at r o b old within is may)
      (all_settled-from (all_items lanes) (lane_items (lane_recs lanes k)) (all-lane (λ j. is_settled (all_items lanes) j.body) lanes k old.settled))

  told-kept : told_lane (facts_in sys (with_record lanes at r)) 0 (lane_items (lane_recs (with_record lanes at r) k)) ≡ told_lane (facts_in sys lanes) 0 (lane_items (lane_recs lanes k))
  told-kept =
      ap (λ l. told_lane (facts_in sys (with_record lanes at r)) 0 (lane_items l)) lane_kept
      ∙ ap (λ z. told_lane (record { sys = sys; items = z }) 0 (lane_items (lane_recs lanes k))) (world.items_after sys lanes order at r o b old within is may)
      ∙ told_lane-stays sys (world.front sys lanes order at r o b old within is may) (record { of = o; body = b }) (world.rest sys lanes order at r o b old within is may)
      (world.later sys lanes order at r o b old within is may) 0 (lane_items (lane_recs lanes k)) lane_settled
      ∙ sym (ap (λ z. told_lane (record { sys = sys; items = z }) 0 (lane_items (lane_recs lanes k))) (world.items_before sys lanes order at r o b old within is may))

event-kept : (s : WorldStep) (o : ℕ) (b : Body) → SoundWorld s.sys s.lanes s.order → Grown s.lanes s.order s.at s.rec s.more s.longer → item_of s.rec ≡ record { of = o; body = b } → MayCome s o b
    → (e : Entry) → is_made (all_items s.lanes) e ≡ true → event_in s.sys s.more e ≡ event_in s.sys s.lanes e
unfolding event_in
event-kept s o b old grown says may e made = ap (λ x. unwrap_or x (record { sig = 0; pars = [] })) (event_of-same s o b old grown says may e made)

pub others-stay : OtherLanesStay
unfolding view_of mark_after own_after hands_after is_known
others-stay s o b old grown says may k spare by stops answered purses other =
    let g = gains s o b old grown says may in
    record {
      told = subst (λ ls. told_lane (facts_in s.sys ls) 0 (lane_items (lane_recs ls k)) ≡ told_lane (facts_in s.sys s.lanes) 0 (lane_items (lane_recs s.lanes k))) (sym grown.lanes_are)
          (told-kept s.sys s.lanes s.order s.at s.rec o b old grown.within says may k other);
      mark = λ w. g.mark w;
      rise = λ w. g.rise w;
      shown = λ w same. g.shown w same;
      own = λ a. g.own a;
      event = λ e known. event-kept s o b old grown says may e (known-made s.sys s.lanes s.order k e old known);
      hands = g.hands;
    }

-- The laws of a lane.

count-told : (w : Facts) (c a : ℕ) (is : List Item)
    → fold (λ n t. n + cond (not (is_spill t.told.body)) 1 0) a (told_lane w c is) ≡ fold (λ n i. n + cond (not (is_spill i.body)) 1 0) a is
unfolding told_lane told
count-told w c a [] = refl
count-told w c a (i ∷ is) = count-told w (ceiling_after c i.body) (a + cond (not (is_spill i.body)) 1 0) is

pub limit-kept : LaneKeepsItsLimit
unfolding view_of
limit-kept sys lanes order at spare by stops answered purses h =
    let same = count-told (facts_in sys lanes) 0 0 (lane_items (lane_recs lanes at)) in
    subst (λ n. n + spare ≤ 1000000) (sym same) h

caused-told : (w : Facts) (items : List Item) (code : ℕ) → is_caused (told_lane w 0 items) code ≡ is_caused_in items code
caused-told w items code = ap (λ u. (code == 7) || (nat_lt 0 code && u)) (any-told (λ b. stop_code b == code) w 0 items)

pub causes-kept : LaneKeepsItsCauses
unfolding view_of
causes-kept sys lanes order at spare by stops answered purses h = go stops h
  where
    go : (codes : List ℕ) → list_all (is_caused_in (lane_items (lane_recs lanes at))) codes ≡ true
        → list_all (λ code. is_caused (told_lane (facts_in sys lanes) 0 (lane_items (lane_recs lanes at))) code) codes ≡ true
    go [] k = refl
    go (code ∷ codes) k = and_from _ _ (caused-told (facts_in sys lanes) (lane_items (lane_recs lanes at)) code ∙ (and_parts _ _ k).0) (go codes (and_parts _ _ k).1)

last-caused : (code : ℕ) (ts : List ToldItem) → 0 < code → last_code ts ≡ code → list_any (λ t. stop_code t.told.body == code) ts ≡ true
unfolding last_code
last-caused code [] some is = absurd (omega (arith, some, is))
last-caused code (t ∷ []) some is = let here : (stop_code t.told.body == code) ≡ true = grind (arith, nat_tests) in rw here refl
last-caused code (t ∷ u ∷ ts) some is = or_right _ _ (last-caused code (u ∷ ts) some is)
  where
    or_right : (a b : Bool) → b ≡ true → (a || b) ≡ true
    or_right true b h = refl
    or_right false b h = h

pub stop-caused : StopHasItsCause
unfolding view_of
stop-caused sys lanes order at spare by stops answered purses code (inl seven) = let is : (code == 7) ≡ true = grind (arith, nat_tests) in rw is refl
stop-caused sys lanes order at spare by stops answered purses code (inr last) =
    or_right (code == 7) _
    (and_from _ _ (above code last.0)
    (sym (any-told (λ b. stop_code b == code) (facts_in sys lanes) 0 (lane_items (lane_recs lanes at))) ∙ last-caused code _ last.0 last.1))
  where
    or_right : (a b : Bool) → b ≡ true → (a || b) ≡ true
    or_right true b h = refl
    or_right false b h = h

    above : (n : ℕ) → 0 < n → nat_lt 0 n ≡ true
    above n h = grind (arith, nat_tests)

any-more : (p : Item → Bool) (xs ys : List Item) → list_any p xs ≡ true → list_any p (xs ++ ys) ≡ true
any-more p [] ys h = absurd (cc)
any-more p (x ∷ xs) ys h = go (p x) h (any-more p xs ys)
  where
    go : (u : Bool) → (u || list_any p xs) ≡ true → (list_any p xs ≡ true → list_any p (xs ++ ys) ≡ true) → (u || list_any p (xs ++ ys)) ≡ true
    go true k later = refl
    go false k later = later k

pub causes-stay : CausesStay
causes-stay items more [] h = refl
causes-stay items more (code ∷ codes) h = and_from _ _ (go (code == 7) (nat_lt 0 code) (and_parts _ _ h).0) (causes-stay items more codes (and_parts _ _ h).1)
  where
    go : (u v : Bool) → (u || (v && list_any (λ i. stop_code i.body == code) items)) ≡ true → (u || (v && list_any (λ i. stop_code i.body == code) (items ++ more))) ≡ true
    go true v k = refl
    go false true k = any-more (λ i. stop_code i.body == code) items more k
    go false false k = absurd (cc)

-- No word has had more operations than the world has records.

log-short : (lanes : List (List Rec)) (order : List ℕ) → length (items_placed (log_of lanes order)) ≤ length order
unfolding log_of
log-short lanes [] = omega arith
log-short lanes (x ∷ order) = go (lane_recs lanes x) (log-short (slice_set lanes x (drop 1 (lane_recs lanes x))) order)
  where
    go : (l : List Rec) → length (items_placed (log_of (slice_set lanes x (drop 1 (lane_recs lanes x))) order)) ≤ length order
        → length (items_placed (first_placed x l (log_of (slice_set lanes x (drop 1 (lane_recs lanes x))) order))) ≤ suc (length order)
    go [] later = omega (arith, later)
    go (r ∷ rs) later = omega (arith, later)

pub words-few : WordsAreFew
words-few lanes order orders w =
    let same = total-log w lanes order orders in
    let few = total-length w (items_placed (log_of lanes order)) in
    let short = log-short lanes order in
    omega (arith, same, few, short)

-- Each number is that of the operations so far.
pub log-numbered : LogIsNumbered
log-numbered sys lanes order old = old.numbered

-- What contracts see is what the law book has.
pub by-the_book : ToldByTheBook
unfolding view_of
by-the_book sys lanes order at spare by stops answered purses old = record {
  words = old.sound.words;
  told = refl;
  marks = λ w. refl;
  objects = λ o. records_of-told (facts_in sys lanes) o 0 (lane_items (lane_recs lanes at));
  events = λ h stand.
      let e = held-has sys lanes order old h stand.1 in
      let is = held-same sys lanes order old h stand.1 ∙ e.1 in
      is ∙ ap Some (sym (event-its sys lanes (entry h.pool h.block h.name) e.0 is));
  hands = λ k. refl;
}
