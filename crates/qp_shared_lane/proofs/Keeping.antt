-- A record more keeps what ties a lane's records to what it knows, and is all that the lane gains; so does a look without a record.
use Rattle.std.proofs.Common.{◌≡◌, ⊎_elim, ℕ, ◌+◌, ◌==◌, nat_le, ◌||◌, List, [], ◌∷◌, ◌++◌, Bool, true, false, cond, eqb, ◌-◌, length, length-append, refl, sym, ap, subst, ◌∙◌, arith, IsTrue}
use Rattle.std.specs.List.{list_all, list_any}
use Rattle.std.proofs.lemmas.Bool.{or_left}
use Rattle.qp_model.specs.declared.record.Rec.{Rec}
use Rattle.qp_model.specs.declared.systems.System.{System}
use Rattle.qp_model.specs.declared.words.Word.{Word}
use Rattle.qp_model.specs.declared.words.Word.TheVariants as word
use Rattle.qp_model.specs.declared.bodies.Entry.{Entry}
use Rattle.qp_model.specs.Record.{item_of}
use Rattle.qp_model.specs.Told.{ToldItem}
use Rattle.qp_model.specs.History.{mark_of, touch, touch_of, lane_items, marks}
use Rattle.qp_model.specs.Knowing.{ceiling_after}
use Rattle.qp_table.specs.Rule.{mark_in, is_serve}
use Rattle.qp_table.specs.declared.view.View.{View}
use Rattle.qp_calls.specs.Tokens.{Token, token_of, stands, hands_after, handles}
use Rattle.qp_calls.specs.LaneView.{Shown, Gains, Looks, codes_in, handled_in, is_known, ceiling_in}
use Rattle.qp_calls.proofs.HandLemmas.{hands-append}
use Rattle.qp_calls_log.specs.declared.log.Log.{Log}
use Rattle.qp_table.specs.Words.{mark_seen, shown_seen}
use Rattle.qp_table.specs.Lane.{lane_of, lane_mark, on_table_of, tell_lane, event_seen, tokens, tokens_of_view}
use Rattle.qp_table.specs.Telling.{Rises, Touches}
use Rattle.qp_table.specs.ViewLaws.{ViewKeeps}
use Rattle.qp_table.proofs.Hands.{held-in, any-more, read-has}
use Rattle.qp_table.proofs.Saying.{tell-more}
use Rattle.qp_table.proofs.ViewLawLemmas.{records_gain, looks_show}
use Rattle.qp_side.specs.Rule.{signal_at}
use Rattle.qp_side.specs.Told.{last_seen}
use Rattle.qp_side.specs.declared.view.SideView.{SideView}
use Rattle.qp_shared_lane.specs.Holds.{LaneHolds, told_by, on_side_of, AreRead, IsBehind, IsSideBehind, AreFormer, FormerIs, borne_out, KnowSubscribers}
use Rattle.qp_side.specs.Seat.{side_mark}
use Rattle.qp_shared_lane.specs.Lane.{lane_context, lane_with}
use Rattle.qp_shared_lane.specs.More.{IsPut, ViewFollows, SideFollows, KeepsContents, AddsRecord, AddsNothing}
use Rattle.qp_shared_lane.specs.Laws.{RecordsKeepTheLane, LooksKeepTheLane}
use Rattle.qp_shared_lane.proofs.Telling.{tell-same, all-le, marks-more, borne-more, borne-still, subscribers-more, told-bare, ceiling-more, former-more}

one-of : {P : Type 0} (a b c d : Bool) → (((a || b) || c) || d) ≡ true → (a ≡ true → P) → (b ≡ true → P) → (c ≡ true → P) → (d ≡ true → P) → P
one-of true b c d h x y z w = x refl
one-of false true c d h x y z w = y refl
one-of false false true d h x y z w = z refl
one-of false false false true h x y z w = w refl
one-of false false false false h x y z w = absurd (cc)

module _ (sys : System) (count ceiling : ℕ) (g : Log) (numbers : List ℕ) (v : View) (s : SideView) (holds : LaneHolds sys count ceiling g numbers v s) where
  abbrev before : List ToldItem
  before = told_by g numbers v

  -- a look or a step leaves what was told
  pub told-still : (u : View) → KeepsContents v u → tell_lane (event_seen u.contents) g.recs.items numbers ≡ before
  told-still u grown = tell-same (event_seen v.contents) (event_seen u.contents) g.recs.items numbers (λ e h. (grown e (holds.handled e h)).1)

  -- what contracts see of the events of entries is kept
  pub keeps-events : (world : List ℕ) (by : ℕ) (u : View) → KeepsContents v u → (e : Entry) → IsTrue (is_known (lane_with world sys by g numbers v s) e) → event_seen u.contents e ≡ event_seen v.contents e
  unfolding is_known lane_of
  keeps-events world by u grown e h = one-of (e.pool == 0) (stands (token_of e) (hands_after [] before)) (handled_in (token_of e) before) false h
      (λ is. (grown e (or_left (e.pool == 0) _ is)).1)
      (λ is. (grown e (read-has v.contents e (holds.read e (held-in before v e.pool e.block e.name holds.hands is)).0)).1)
      (λ is. (grown e (holds.handled e is)).1)
      (λ is. absurd (cc))

  pub keeps-all : (world : List ℕ) (by : ℕ) (u : View) → ViewFollows sys v u → ViewKeeps (lane_with world sys by g numbers v s) v u
  keeps-all world by u goes = record { serves = goes.serves; events = keeps-events world by u goes.grown }

  module _ (h : Log) (more : List ℕ) (u : View) (z : SideView) (rec : Rec) (number : ℕ) (t : ToldItem)
      (put : IsPut rec number g numbers h more) (goes : ViewFollows sys v u) (side : SideFollows sys s z) (adds : AddsRecord sys (λ o. list_any (is_serve o) v.serves) g.recs.items (hands_after [] before) ceiling u z rec number t) where
    pub told-is : told_by h more u ≡ before ++ t ∷ []
    told-is = (λ i. tell_lane (event_seen u.contents) (put.recs i) (put.numbers_are i))
        ∙ (tell-more (event_seen u.contents) g.recs.items numbers rec number holds.beside ∙ (λ i. told-still u goes.grown i ++ adds.told i ∷ []))

    hands-are : (x : Token) → tokens x (hands_after [] (told_by h more u)) ≡ tokens_of_view u x
    unfolding hands_after
    hands-are x = ap (λ (ts : List ToldItem). tokens x (hands_after [] ts)) told-is ∙ (ap (tokens x) (hands-append [] before (t ∷ [])) ∙ adds.hands_are x)

    are-read : AreRead (told_by h more u) u
    are-read e is = ⊎_elim (λ old. (goes.grown e (holds.handled e old)).0) (λ new. adds.handled e new)
        (any-more (λ (x : ToldItem). handles (token_of e) x.told.body) before t (subst (λ (ts : List ToldItem). IsTrue (handled_in (token_of e) ts)) told-is is))

    mark-is : (w : Word) → mark_of w (touch_of t.of t.told.body) ≡ mark_of w (touch (item_of rec))
    mark-is w = ap (λ (x : ToldItem). mark_of w (touch_of x.of x.told.body)) (sym adds.told)

    is-behind : IsBehind sys h.recs.items u
    is-behind w on = ap (λ (rs : List Rec). list_all (λ m. nat_le m (mark_seen sys u.seen w)) (marks w (lane_items rs))) put.recs
        ∙ marks-more w (mark_seen sys v.seen w) (mark_seen sys u.seen w) g.recs.items rec (goes.rise w) (λ n e. adds.marked w n on (mark-is w ∙ e)) (holds.behind w on)

    bears-out : IsTrue (list_all (borne_out sys u.seen) (told_by h more u))
    bears-out = ap (list_all (borne_out sys u.seen)) told-is
        ∙ subst (λ xs. list_all (borne_out sys xs) (before ++ t ∷ []) ≡ true) (sym goes.seen.1)
        (borne-more sys v.seen goes.seen.0 before t holds.borne (subst (λ xs. borne_out sys xs t ≡ true) goes.seen.1 adds.borne))

    serves-are : ◌≡◌ {A = ℕ → Bool} (λ o. list_any (is_serve o) u.serves) (λ o. list_any (is_serve o) v.serves)
    serves-are = (λ i o. goes.serves o i)

    know-subscribers : KnowSubscribers (λ o. list_any (is_serve o) u.serves) [] (told_by h more u)
    know-subscribers = subst (λ (f : ℕ → Bool). KnowSubscribers f [] (told_by h more u)) (sym serves-are)
        (subst (KnowSubscribers (λ o. list_any (is_serve o) v.serves) []) (sym told-is)
        (subscribers-more (λ o. list_any (is_serve o) v.serves) [] (lane_items g.recs.items) before t (told-bare (event_seen v.contents) g.recs.items numbers holds.beside) holds.subscribers adds.subscriber))

    is-side_behind : IsSideBehind sys h.recs.items z
    is-side_behind k on = ap (λ (rs : List Rec). list_all (λ m. nat_le m (mark_in (signal_at k) (last_seen (signal_at k) z))) (marks (word.Signal k) (lane_items rs))) put.recs
        ∙ marks-more (word.Signal k) (mark_in (signal_at k) (last_seen (signal_at k) s)) (mark_in (signal_at k) (last_seen (signal_at k) z)) g.recs.items rec (side.rise k on)
        (λ n e. adds.side_marked k n on (mark-is (word.Signal k) ∙ e)) (holds.side_behind k on)

    are-former : AreFormer 0 (told_by h more u)
    are-former = subst (AreFormer 0) (sym told-is) (former-more 0 before t holds.formers (subst (λ c. FormerIs c t.told.body t.told.known) (sym holds.ceiling_is) adds.former))

    pub more-holds : LaneHolds sys count (ceiling_after ceiling t.told.body) h more u z
    more-holds = record {
      fitting = holds.fitting;
      side_fitting = holds.side_fitting;
      bare = holds.bare;
      lane = goes.logs ∙ holds.lane;
      side_lane = side.logs ∙ holds.side_lane;
      number = side.number ∙ (holds.number ∙ sym goes.number);
      same = ap on_table_of put.recs ∙ adds.same;
      same_side = ap on_side_of put.recs ∙ adds.same_side;
      serves = λ o. ap (list_any (is_serve o)) side.serves ∙ (holds.serves o ∙ sym (goes.serves o));
      stops = put.stops ∙ (holds.stops ∙ sym side.stops);
      answered = ap codes_in put.answered ∙ (holds.answered ∙ sym side.answered);
      beside = let a = ap length put.recs in let b = ap length put.numbers_are in let c = holds.beside in omega (arith, length-append g.recs.items (rec ∷ []), length-append numbers (number ∷ []));
      hands = hands-are;
      read = goes.read;
      handled = are-read;
      still = goes.still;
      placed = goes.placed;
      worn = goes.worn;
      behind = is-behind;
      side_behind = is-side_behind;
      borne = bears-out;
      subscribers = know-subscribers;
      formers = are-former;
      ceiling_is = ap (ceiling_in 0) told-is ∙ (ceiling-more 0 before t ∙ ap (λ c. ceiling_after c t.told.body) holds.ceiling_is);
      rights = (λ i. goes.logs i + length (goes.lane_numbers i)) ∙ (holds.rights ∙ ap (λ (n : ℕ). cond {A = ℕ} (eqb n 0) (50 - count) 1) (sym goes.number));
      side_rights = (λ i. side.logs i + length (side.lane_numbers i)) ∙ (holds.side_rights ∙ ap (λ (n : ℕ). cond {A = ℕ} (eqb n 0) (50 - count) 1) (sym goes.number));
    }

    -- and what contracts see of it
    module _ (world : List ℕ) (by : ℕ) where
      after-is : lane_of (record (lane_context world sys by g v s) { side = side_mark sys z }) (before ++ t ∷ []) h.spare u ≡ lane_with world sys by h more u z
      after-is = (λ i. lane_of (record { world = world; sys = sys; number = sym goes.number i; by = by; stops = sym put.stops i; answered = sym put.answered i; side = side_mark sys z }) (sym told-is i) h.spare u)

      pub more-gains : (w : Word) (k : ℕ) → Rises w k (lane_mark sys v.seen (side_mark sys s)) (lane_mark sys u.seen (side_mark sys z)) (shown_seen sys v.seen) (shown_seen sys u.seen) → Touches w k t
          → Gains (t ∷ []) (lane_with world sys by g numbers v s) (lane_with world sys by h more u z)
      more-gains w k rises touches = subst (Gains (t ∷ []) (lane_with world sys by g numbers v s)) after-is
          (records_gain (lane_context world sys by g v s) (side_mark sys z) before g.spare h.spare v u w k t rises touches (keeps-all world by u goes))

  fun-is : (u : View) → ViewFollows sys v u → ◌≡◌ {A = ℕ → Bool} (λ o. list_any (is_serve o) v.serves) (λ o. list_any (is_serve o) u.serves)
  fun-is u goes = (λ i o. sym (goes.serves o) i)

  module _ (u : View) (z : SideView) (goes : ViewFollows sys v u) (side : SideFollows sys s z) (adds : AddsNothing v u s z) where
    pub still-told : told_by g numbers u ≡ before
    still-told = told-still u goes.grown

    still-read : AreRead (told_by g numbers u) u
    still-read e is = (goes.grown e (holds.handled e (subst (λ (ts : List ToldItem). IsTrue (handled_in (token_of e) ts)) still-told is))).0

    still-behind : IsBehind sys g.recs.items u
    still-behind w on = all-le (mark_seen sys v.seen w) (mark_seen sys u.seen w) (marks w (lane_items g.recs.items)) (goes.rise w) (holds.behind w on)

    still-side_behind : IsSideBehind sys g.recs.items z
    still-side_behind k on = all-le (mark_in (signal_at k) (last_seen (signal_at k) s)) (mark_in (signal_at k) (last_seen (signal_at k) z)) (marks (word.Signal k) (lane_items g.recs.items)) (side.rise k on) (holds.side_behind k on)

    pub look-holds : LaneHolds sys count ceiling g numbers u z
    look-holds = record {
      fitting = holds.fitting;
      side_fitting = holds.side_fitting;
      bare = holds.bare;
      lane = goes.logs ∙ holds.lane;
      side_lane = side.logs ∙ holds.side_lane;
      number = side.number ∙ (holds.number ∙ sym goes.number);
      same = holds.same ∙ sym adds.same;
      same_side = holds.same_side ∙ sym adds.same_side;
      serves = λ o. ap (list_any (is_serve o)) side.serves ∙ (holds.serves o ∙ sym (goes.serves o));
      stops = holds.stops ∙ sym side.stops;
      answered = holds.answered ∙ sym side.answered;
      beside = holds.beside;
      hands = λ x. ap (λ (ts : List ToldItem). tokens x (hands_after [] ts)) still-told ∙ (holds.hands x ∙ sym (adds.hands_are x));
      read = goes.read;
      handled = still-read;
      still = goes.still;
      placed = goes.placed;
      worn = goes.worn;
      behind = still-behind;
      side_behind = still-side_behind;
      borne = ap (list_all (borne_out sys u.seen)) still-told ∙ subst (λ xs. list_all (borne_out sys xs) before ≡ true) (sym goes.seen.1) (borne-still sys v.seen goes.seen.0 before holds.borne);
      subscribers = subst (λ (f : ℕ → Bool). KnowSubscribers f [] (told_by g numbers u)) (fun-is u goes) (subst (KnowSubscribers (λ o. list_any (is_serve o) v.serves) []) (sym still-told) holds.subscribers);
      formers = subst (AreFormer 0) (sym still-told) holds.formers;
      ceiling_is = ap (ceiling_in 0) still-told ∙ holds.ceiling_is;
      rights = (λ i. goes.logs i + length (goes.lane_numbers i)) ∙ (holds.rights ∙ ap (λ (n : ℕ). cond {A = ℕ} (eqb n 0) (50 - count) 1) (sym goes.number));
      side_rights = (λ i. side.logs i + length (side.lane_numbers i)) ∙ (holds.side_rights ∙ ap (λ (n : ℕ). cond {A = ℕ} (eqb n 0) (50 - count) 1) (sym goes.number));
    }

    module _ (world : List ℕ) (by : ℕ) where
      look-is : lane_of (record (lane_context world sys by g v s) { side = side_mark sys z }) before g.spare u ≡ lane_with world sys by g numbers u z
      look-is = (λ i. lane_of (record { world = world; sys = sys; number = sym goes.number i; by = by; stops = g.stops.list; answered = g.answered.list; side = side_mark sys z }) (sym still-told i) g.spare u)

      pub look-looks : (w : Word) (k : ℕ) (x : Shown) → Rises w k (lane_mark sys v.seen (side_mark sys s)) (lane_mark sys u.seen (side_mark sys z)) (shown_seen sys v.seen) (shown_seen sys u.seen) → shown_seen sys u.seen w ≡ x
          → Looks w k x (lane_with world sys by g numbers v s) (lane_with world sys by g numbers u z)
      look-looks w k x rises says = subst (Looks w k x (lane_with world sys by g numbers v s)) look-is
          (looks_show (lane_context world sys by g v s) (side_mark sys z) before g.spare v u w k x rises says (keeps-all world by u goes))

pub records_keep : RecordsKeepTheLane
records_keep world sys by count ceiling g numbers v s h more u z rec number t w k holds put goes side adds = record {
  holds = more-holds sys count ceiling g numbers v s holds h more u z rec number t put goes side adds;
  told = told-is sys count ceiling g numbers v s holds h more u z rec number t put goes side adds;
  gains = more-gains sys count ceiling g numbers v s holds h more u z rec number t put goes side adds world by w k;
}

pub looks_keep : LooksKeepTheLane
looks_keep world sys by count ceiling g numbers v s u z w k x holds goes side adds = record {
  holds = look-holds sys count ceiling g numbers v s holds u z goes side adds;
  told = still-told sys count ceiling g numbers v s holds u z goes side adds;
  looks = look-looks sys count ceiling g numbers v s holds u z goes side adds world by w k x;
}
