-- All lanes of a table are sealed into a journal of their records.
use Rattle.std.proofs.Common.{◌≡◌, ℕ, zero, suc, ◌+◌, ◌<◌, ◌≤◌, ◌==◌, nat_le, Bool, true, false, ◌||◌, cond, List, [], ◌∷◌, ◌++◌, length, map, get_or, refl, sym, ◌∙◌, ap, subst, Some, arith, eqb, eqb-true, eq-eqb, IsTrue}
use Rattle.std.specs.Prelude.{slice_get}
use Rattle.std.specs.Option.{unwrap_or}
use Rattle.std.specs.List.{filter, list_all, list_any}
use Rattle.std.proofs.lemmas.Bool.{and_from}
use Rattle.std.proofs.lemmas.Bool.Decides.{nat_tests}
use Rattle.std.proofs.lemmas.List.Elements.{filter-append}
use Rattle.qp_chart.specs.StateTree.{has}
use Rattle.qp_model.specs.declared.record.Rec.{Rec}
use Rattle.qp_model.specs.declared.systems.System.{System}
use Rattle.qp_model.specs.declared.journals.Journal.{Journal}
use Rattle.qp_model.specs.declared.bodies.Entry.{Entry}
use Rattle.qp_model.specs.declared.words.Word.{Word}
use Rattle.qp_model.specs.declared.words.Word.TheVariants as word
use Rattle.qp_model.specs.Record.{Item}
use Rattle.qp_model.specs.Told.{ToldItem}
use Rattle.qp_model.specs.History.{touch, marks, total as total_of, lane_items, all_items}
use Rattle.qp_model.specs.Home.{lane_at}
use Rattle.qp_model.specs.Knowing.{event_of_entry, free_before, references_after, told_lane}
use Rattle.qp_model.specs.End.{end_of, has_room}
use Rattle.qp_model.specs.Lawful.{facts_of}
use Rattle.qp_model.specs.WordLaw.{Words, is_object}
use Rattle.qp_model_order.specs.SourceRun.{untold_all}
use Rattle.qp_calls.specs.LaneView.{LaneView, is_known}
use Rattle.qp_calls.specs.Tokens.{Token, Held, Loose, same_token, hands_after}
use Rattle.qp_plain_sound.specs.Sound.{Sound, facts_in}
use Rattle.qp_plain_sound.specs.View.{shown_in}
use Rattle.qp_port_law.specs.Sealed.{is_event_table_word, is_behind, hands_of_all, IsLaneAt, SealsLanes}
use Rattle.qp_table.specs.Counting.{Each, sum_over, many}
use Rattle.qp_table.specs.TwoTables.{on_table, on_side, Thins}
use Rattle.qp_table.specs.Rule.{is_spot, is_ref, is_entry, is_serve, IsKnown}
use Rattle.qp_table.specs.After.{views_joined}
use Rattle.qp_table.specs.declared.view.Glance.{Glance}
use Rattle.qp_table.specs.declared.view.SeatLog.{SeatLog}
use Rattle.qp_table.specs.declared.view.View.{View}
use Rattle.qp_table.proofs.Counting.{total-at, total-append}
use Rattle.qp_table.proofs.Views.{SawFrom}
use Rattle.qp_side.specs.Told.{both_of}
use Rattle.qp_side.specs.Rule.{stop_at}
use Rattle.qp_side.specs.Laws.{IsSideWhole}
use Rattle.qp_side.specs.declared.view.SideView.{SideView}
use Rattle.qp_table.specs.Words.{mark_seen, shown_seen}
use Rattle.qp_table.specs.Lane.{tokens, tokens_of_view, own_of_logs, own_recs, on_table_of, event_seen, lane_mark, lane_of}
use Rattle.qp_table.specs.Telling.{is_on_table as is_on_table_too}
use Rattle.qp_shared_lane.specs.declared.lane.LaneState.{LaneState}
use Rattle.qp_shared_lane.specs.Holds.{LaneHolds, on_side_of, told_by}
use Rattle.qp_side.specs.Seat.{side_mark}
use Rattle.qp_shared_lane.specs.Lane.{state_view}
use Rattle.qp_shared_ends.specs.Lanes.{lanes_recs}
use Rattle.qp_shared_ends.specs.SeatEnd.{AtEnd}
use Rattle.qp_shared_ends.specs.End.{AreHands}
use Rattle.qp_shared_ends.specs.Joining.{table_of, side_of, recs_in, all_joined, all_both}
use Rattle.qp_shared_ends.specs.Laws.{LanesAreSealed}
use Rattle.qp_shared_ends.proofs.Histories.{words-whole}
use Rattle.qp_shared_ends.proofs.Sounding.{block-in}
use Rattle.qp_shared_ends.proofs.Sides.{side-words, subscribers-known}
use Rattle.qp_shared_ends.proofs.Contents.{event-in, tokens-named, entries-good}
use Rattle.qp_shared_ends.proofs.Pasts.{free-seen, left-seen}
use Rattle.qp_shared_ends.proofs.Marks.{mark-known, mark-says}
use Rattle.qp_shared_ends.proofs.Changes.{is_change}
use Rattle.qp_shared_ends.proofs.Members.{same_at, bare, bare_all, behind-same, reaches-same, none-other, member-there}
use Rattle.qp_shared_ends.proofs.Events.{event-read}
use Rattle.qp_shared_ends.proofs.Knowing.{known-read}
use Rattle.qp_shared_ends.proofs.Telling.{bare-tell, Truths, recs-told}
use Rattle.qp_shared_ends.proofs.Parts.{flat, joined-part, both-part, flat-map, each-flat, many-flat, Cut, cut, mapped, map-at, map-parts, any-many, many-none, all-zero}

-- the records of one lane, on one of the tables
one-lane : (t : Item → Bool) (recs : List Rec) (gs : List SeatLog) (js : List (List Rec)) (others : List SeatLog) → length gs ≡ 1 → filter t (lane_items recs) ≡ own_of_logs gs → Thins t js (lanes_recs others) → Thins t (recs ∷ js) (lanes_recs (gs ++ others))
one-lane t recs [] js others one same thin = absurd (omega arith)
one-lane t recs (g ∷ []) js others one same thin = (same, thin)
one-lane t recs (g ∷ h ∷ gs) js others one same thin = absurd (omega arith)

pub untold-bare : (ts : List ToldItem) → untold_all ts ≡ bare_all ts
untold-bare [] = refl
untold-bare (t ∷ ts) = ap (λ l. bare t ∷ l) (untold-bare ts)

-- a lane whose list has one that passes
some-place : {X A : Type 0} (p : A → Bool) (f : X → List A) (xs : List X) → 0 < many p (flat f xs) → (n : ℕ) × (x : X) × (slice_get xs n ≡ Some x) × (0 < many p (f x))
some-place p f [] l = absurd (omega arith)
some-place {X} {A} p f (x ∷ xs) l = go (many p (f x)) refl (some-place p f xs)
  where
    go : (n : ℕ) → many p (f x) ≡ n → (0 < many p (flat f xs) → (n : ℕ) × (y : X) × (slice_get xs n ≡ Some y) × (0 < many p (f y))) → (n : ℕ) × (y : X) × (slice_get (x ∷ xs) n ≡ Some y) × (0 < many p (f y))
    go zero e r = let z = r (let a = total-append (λ y. cond (p y) 1 0) (f x) (flat f xs) in omega arith) in (suc z.0, z.1, z.2, z.3)
    go (suc n) e r = (0, x, refl, omega arith)

code-there : (k : ℕ) (xs : List ℕ) → 0 < many (eqb k) xs → has xs k ≡ true
code-there k [] l = absurd (omega arith)
code-there k (x ∷ xs) l = go (eqb k x) refl l (code-there k xs)
  where
    or-on : (b : Bool) → (b || true) ≡ true
    or-on true = refl
    or-on false = refl

    go : (t : Bool) → eqb k x ≡ t → 0 < cond t 1 0 + many (eqb k) xs → (0 < many (eqb k) xs → has xs k ≡ true) → (eqb x k || has xs k) ≡ true
    go true e l r = λ i. eq-eqb x k (sym (eqb-true k x e)) i || has xs k
    go false e l r = ap (λ b. eqb x k || b) (r (omega arith)) ∙ or-on (eqb x k)

-- each code that passes for all passes for one of them
code-each : (P : ℕ → Type 0) (k : ℕ) (xs : List ℕ) → Each P xs → has xs k ≡ true → P k
code-each P k [] e h = absurd (cc)
code-each P k (x ∷ xs) e h = go (eqb x k) refl h (code-each P k xs e.1)
  where
    go : (t : Bool) → eqb x k ≡ t → (t || has xs k) ≡ true → (has xs k ≡ true → P k) → P k
    go true is h r = subst P (eqb-true x k is) e.0
    go false is h r = r h

module _ (sys : System) where
  -- the facts of a lane of the system
  holds-of : (l : LaneState) → l.sys.now ≡ sys → LaneHolds sys l.count l.ceiling l.log l.numbers.list (table_of l) (side_of l)
  holds-of l e = subst (λ z. LaneHolds z l.count l.ceiling l.log l.numbers.list (table_of l) (side_of l)) e l.holds

  abbrev told-of : LaneState → List ToldItem
  told-of l = told_by l.log l.numbers.list (table_of l)

  abbrev serves-of : LaneState → ℕ → Bool
  serves-of l o = list_any (is_serve o) (table_of l).serves

  table-thin : (ls : List LaneState) → Each (λ (l : LaneState). l.sys.now ≡ sys) ls → Thins (λ i. on_table (touch i)) (map recs_in ls) (lanes_recs (flat (λ l. (table_of l).logs) ls))
  unfolding on_table_of own_recs
  table-thin [] e = tt
  table-thin (l ∷ ls) e = let h = holds-of l e.0 in one-lane (λ i. on_table (touch i)) (recs_in l) (table_of l).logs (map recs_in ls) (flat (λ l. (table_of l).logs) ls) h.lane h.same (table-thin ls e.1)

  side-thin : (ls : List LaneState) → Each (λ (l : LaneState). l.sys.now ≡ sys) ls → Thins (λ i. on_side (touch i)) (map recs_in ls) (lanes_recs (flat (λ l. (side_of l).view.logs) ls))
  unfolding on_side_of own_recs
  side-thin [] e = tt
  side-thin (l ∷ ls) e = let h = holds-of l e.0 in one-lane (λ i. on_side (touch i)) (recs_in l) (side_of l).view.logs (map recs_in ls) (flat (λ l. (side_of l).view.logs) ls) h.side_lane h.same_side (side-thin ls e.1)

  -- all hands
  hands-sum : (ls : List LaneState) → Each (λ (l : LaneState). l.sys.now ≡ sys) ls → (t : Token) → tokens t (hands_of_all (map state_view ls)) ≡ sum_over (λ l. tokens_of_view (table_of l) t) ls
  unfolding lane_of
  hands-sum [] e t = refl
  hands-sum (l ∷ ls) e t =
      let a = total-append (λ x. cond (same_token t x) 1 0) (hands_after [] (told-of l)) (hands_of_all (map state_view ls)) in
      let h = (holds-of l e.0).hands t in let r = hands-sum ls e.1 t in omega arith

  lane-known : (o s : ℕ) (ls : List LaneState) → Each (λ (l : LaneState). l.sys.now ≡ sys) ls → Each (λ l. many (is_serve o) (table_of l).serves ≡ 0) ls → filter (is_change o s) (all_items (map recs_in ls)) ≡ []
  unfolding all_items
  lane-known o s [] e z = refl
  lane-known o s (l ∷ ls) e z = let h = holds-of l e.0 in
      filter-append (is_change o s) (lane_items (recs_in l)) (all_items (map recs_in ls))
      ∙ (λ i. (ap (filter (is_change o s)) (sym (bare-tell (event_seen (table_of l).contents) (recs_in l) l.numbers.list h.beside)) ∙ none-other (serves-of l) o s [] (told-of l) h.subscribers (many-none (is_serve o) (table_of l).serves z.0)) i
      ++ lane-known o s ls e.1 z.1 i)

  lane-room : (ls : List LaneState) → list_all (λ (lane : List Rec). has_room (lane_items lane)) (map recs_in ls) ≡ true
  unfolding has_room
  lane-room [] = refl
  lane-room (l ∷ ls) = and_from _ _ (let f = l.log.few in grind (arith, nat_tests)) (lane-room ls)

  each-at : {X : Type 0} (P : X → Type 0) (xs : List X) (n : ℕ) (x : X) → slice_get xs n ≡ Some x → Each P xs → P x
  each-at P [] n x at e = absurd (cc)
  each-at P (y ∷ ys) zero x at e = subst P (let is : y ≡ x = cc in is) e.0
  each-at P (y ∷ ys) (suc n) x at e = each-at P ys n x at e.1

  front-of : {X : Type 0} (P : X → Type 0) (xs ys : List X) → Each P (xs ++ ys) → Each P xs
  front-of P [] ys e = tt
  front-of P (x ∷ xs) ys e = (e.0, front-of P xs ys e.1)

  back-of : {X : Type 0} (P : X → Type 0) (xs ys : List X) → Each P (xs ++ ys) → Each P ys
  back-of P [] ys e = e
  back-of P (x ∷ xs) ys e = back-of P xs ys e.1

  table-mark : (seen : List Glance) (side : Word → ℕ) (x : Word) → is_event_table_word x ≡ true → lane_mark sys seen side x ≡ mark_seen sys seen x
  table-mark seen side (word.Pool p) on = refl
  table-mark seen side (word.Block p b) on = refl
  table-mark seen side (word.Queue a) on = refl
  table-mark seen side (word.Signal s) on = absurd (cc)
  table-mark seen side (word.Timer t) on = absurd (cc)

module _ (sys : System) (first : LaneState) (others : List LaneState) (of : Each (λ (l : LaneState). l.sys.now ≡ sys) (first ∷ others)) (end : AtEnd sys (all_joined (table_of first) (map table_of others)))
    (side : IsSideWhole sys (all_both (side_of first) (map side_of others))) where
  abbrev ls : List LaneState
  ls = first ∷ others

  abbrev v : View
  v = all_joined (table_of first) (map table_of others)

  abbrev s : SideView
  s = all_both (side_of first) (map side_of others)

  abbrev js : List (List Rec)
  js = map recs_in ls

  part : {A : Type 0} (f : View → List A) → ((x y : View) → f (views_joined x y) ≡ f x ++ f y) → f v ≡ flat (λ l. f (table_of l)) ls
  part f h = joined-part f h (table_of first) (map table_of others) ∙ flat-map f table_of ls

  side-part : {A : Type 0} (f : SideView → List A) → ((x y : SideView) → f (both_of x y) ≡ f x ++ f y) → f s ≡ flat (λ l. f (side_of l)) ls
  side-part f h = both-part f h (side_of first) (map side_of others) ∙ flat-map f side_of ls

  thin : Thins (λ i. on_table (touch i)) js (lanes_recs v.logs)
  thin = subst (λ (gs : List SeatLog). Thins (λ i. on_table (touch i)) js (lanes_recs gs)) (sym (part (λ x. x.logs) (λ x y. refl))) (table-thin sys ls of)

  beside : Thins (λ i. on_side (touch i)) js (lanes_recs s.view.logs)
  beside = subst (λ (gs : List SeatLog). Thins (λ i. on_side (touch i)) js (lanes_recs gs)) (sym (side-part (λ x. x.view.logs) (λ x y. refl))) (side-thin sys ls of)

  counts : (t : Token) → sum_over (λ l. tokens_of_view (table_of l) t) ls ≡ tokens_of_view v t
  counts (Held p b r) = sym (many-flat (is_ref p b r) (λ l. (table_of l).hands) ls) ∙ ap (many (is_ref p b r)) (sym (part (λ x. x.hands) (λ x y. refl)))
  counts (Loose p b false) = sym (many-flat (is_spot p b) (λ l. (table_of l).fresh) ls) ∙ ap (many (is_spot p b)) (sym (part (λ x. x.fresh) (λ x y. refl)))
  counts (Loose p b true) = sym (many-flat (is_spot p b) (λ l. (table_of l).used) ls) ∙ ap (many (is_spot p b)) (sym (part (λ x. x.used) (λ x y. refl)))

  hands : AreHands (hands_of_all (map state_view ls)) v
  hands = record {
    counts = λ t. hands-sum sys ls of t ∙ counts t;
    pooled = λ e l. pooled-in ls of e (subst (λ (xs : List Entry). 0 < many (is_entry e) xs) (part (λ x. x.hands) (λ x y. refl)) l);
  }
    where
      pooled-in : (ks : List LaneState) → Each (λ (l : LaneState). l.sys.now ≡ sys) ks → (e : Entry) → 0 < many (is_entry e) (flat (λ l. (table_of l).hands) ks) → 0 < e.pool
      pooled-in ks are e l = let z = some-place (is_entry e) (λ l. (table_of l).hands) ks l in ((holds-of sys z.1 (each-at sys (λ (l : LaneState). l.sys.now ≡ sys) ks z.0 z.1 z.2 are)).read e z.3).1

  law : Words sys js
  law = words-whole sys end.words end.views end.holds end.id v end.is end.all js thin (lanes_recs s.view.logs) beside (side-words sys s side)

  sound : Sound sys js (hands_of_all (map state_view ls))
  sound = record {
    words = law;
    block = λ p b h. block-in sys v end js thin (hands_of_all (map state_view ls)) hands p b h;
    event = λ p b h. event-in sys v end js thin p b h;
    tokens = tokens-named sys v end js thin (hands_of_all (map state_view ls)) hands;
    entries = λ a h. entries-good sys v end js thin a h;
    subscribed = λ n h. subscribers-known sys s side js beside n h;
  }

  abbrev IsCode : ℕ → Type 0
  IsCode k = (k ≡ get_or side.words stop_at 0) × (0 < many (eqb k) s.stops)

  -- one object is served by one lane
  serves-once : (o : ℕ) → sum_over (λ l. many (is_serve o) (table_of l).serves) ls ≤ 1
  serves-once o =
      let a = many-flat (is_serve o) (λ l. (table_of l).serves) ls in let b = ap (many (is_serve o)) (part (λ x. x.serves) (λ x y. refl)) in
      let t = total-at (λ (z : View). many (is_serve o) z.serves) end.views end.id v end.is in let q = end.holds.queues.serves o in let c = cond-le (is_object sys o) in omega arith
    where
      cond-le : (t : Bool) → cond {A = ℕ} t 1 0 ≤ 1
      cond-le true = omega arith
      cond-le false = omega arith

  module _ (n : ℕ) (l : LaneState) (at : slice_get ls n ≡ Some l) where
    mine : l.sys.now ≡ sys
    mine = each-at sys (λ (l : LaneState). l.sys.now ≡ sys) ls n l at of

    h : LaneHolds sys l.count l.ceiling l.log l.numbers.list (table_of l) (side_of l)
    h = holds-of sys l mine

    saw : Each (SawFrom end.words end.holds.was) (table_of l).seen
    saw = each-flat (SawFrom end.words end.holds.was) (λ l. (table_of l).seen) ls n l at (subst (Each (SawFrom end.words end.holds.was)) (part (λ x. x.seen) (λ x y. refl)) (end.holds.seen.each end.id v end.is))

    known : Each (IsKnown sys end.holds.lanes end.holds.now) (table_of l).contents
    known = each-flat (IsKnown sys end.holds.lanes end.holds.now) (λ l. (table_of l).contents) ls n l at (subst (Each (IsKnown sys end.holds.lanes end.holds.now)) (part (λ x. x.contents) (λ x y. refl)) (end.holds.contents end.id v end.is))

    others-none : (o : ℕ) (c : Cut ls n l) → IsTrue (serves-of sys l o) → Each (λ l. many (is_serve o) (table_of l).serves ≡ 0) c.front × Each (λ l. many (is_serve o) (table_of l).serves ≡ 0) c.back
    others-none o c served =
        let once = serves-once o in let all = ap (sum_over (λ (l : LaneState). many (is_serve o) (table_of l).serves)) c.is in
        let parts = total-append (λ (l : LaneState). many (is_serve o) (table_of l).serves) c.front (l ∷ c.back) in let one = any-many (is_serve o) (table_of l).serves served in
        (all-zero (λ (l : LaneState). many (is_serve o) (table_of l).serves) c.front (omega arith), all-zero (λ (l : LaneState). many (is_serve o) (table_of l).serves) c.back (omega arith))

    truths : Truths sys (facts_in sys js) (table_of l).seen (table_of l).contents (serves-of sys l) (lane_items (recs_in l))
    unfolding free_before references_after
    truths = record {
      free = λ p k m pool there. free-seen sys v end js thin p pool (table_of l).seen saw k m there;
      left = λ p b d k block there. left-seen sys v end js thin p b block (table_of l).seen saw (d + 1) k there;
      event = λ e there. event-read sys v end js thin (table_of l).contents known e there;
      same = λ o sig k before ts signal served is later.
          let c = cut ls n l at in let none = others-none o c served in let all = subst (Each (λ (l : LaneState). l.sys.now ≡ sys)) c.is of in
          let behind = back-of sys (λ (l : LaneState). l.sys.now ≡ sys) c.front (l ∷ c.back) all in
          member-there sys js law o sig signal (map recs_in c.front) (recs_in l) (map recs_in c.back) (ap (map recs_in) c.is ∙ map-parts recs_in c.front (l ∷ c.back))
          (lane-known sys o sig c.front (front-of sys (λ (l : LaneState). l.sys.now ≡ sys) c.front (l ∷ c.back) all) none.0) (lane-known sys o sig c.back behind.1 none.1)
          k before (bare_all ts) is (behind-same (serves-of sys l) o sig k (before ++ same_at o sig k ∷ []) ts later (reaches-same o sig k before));
    }

    told : told_lane (facts_in sys js) 0 (lane_items (recs_in l)) ≡ told-of sys l
    told = recs-told sys (facts_in sys js) (table_of l).seen (table_of l).contents (serves-of sys l) (lane_items (recs_in l)) truths 0 [] (recs_in l) l.numbers.list h.beside refl h.borne h.formers h.subscribers h.handled

    seen-known : (x : Word) → is_event_table_word x ≡ true → (state_view l).mark x ≤ total_of x (all_items js)
    unfolding lane_of
    seen-known x on = subst (λ z. lane_mark z (table_of l).seen (side_mark z (side_of l)) x ≤ total_of x (all_items js)) (sym mine)
        (let m = table-mark sys (table_of l).seen (side_mark sys (side_of l)) x on in let k = mark-known sys v end js thin law (table_of l).seen saw x on in omega arith)

    seen-says : (x : Word) → is_event_table_word x ≡ true → (state_view l).mark x ≡ total_of x (all_items js) → (state_view l).shown x ≡ shown_in sys js x
    unfolding lane_of
    seen-says x on = subst (λ z. lane_mark z (table_of l).seen (side_mark z (side_of l)) x ≡ total_of x (all_items js) → shown_seen z (table_of l).seen x ≡ shown_in sys js x) (sym mine)
        (λ e. mark-says sys v end js thin law (table_of l).seen saw x on (sym (table-mark sys (table_of l).seen (side_mark sys (side_of l)) x on) ∙ e))

    on-too : (x : Word) → is_event_table_word x ≡ true → is_on_table_too x ≡ true
    on-too (word.Pool p) on = refl
    on-too (word.Block p b) on = refl
    on-too (word.Queue a) on = refl
    on-too (word.Signal s) on = absurd (cc)
    on-too (word.Timer t) on = absurd (cc)

    marks-behind : (x : Word) → is_event_table_word x ≡ true → is_behind x ((state_view l).mark x) (state_view l).told ≡ true
    unfolding lane_of
    marks-behind x on = subst (λ z. is_behind x (lane_mark z (table_of l).seen (side_mark z (side_of l)) x) (told-of sys l) ≡ true) (sym mine)
        (subst (λ k. is_behind x k (told-of sys l) ≡ true) (sym (table-mark sys (table_of l).seen (side_mark sys (side_of l)) x on))
        (subst (λ is. list_all (λ m. nat_le m (mark_seen sys (table_of l).seen x)) (marks x is) ≡ true)
        (sym (untold-bare (told-of sys l) ∙ bare-tell (event_seen (table_of l).contents) (recs_in l) l.numbers.list h.beside)) (h.behind x (on-too x on))))

    event-known : (e : Entry) → IsTrue (is_known (state_view l) e) → event_of_entry (facts_in sys js) e ≡ Some ((state_view l).event e)
    unfolding lane_of
    event-known e is = event-read sys v end js thin (table_of l).contents known e (known-read l e is)

    code-is : (code : ℕ) → has (state_view l).answered code ≡ true → IsCode code
    unfolding lane_of
    code-is code there =
        let mine_codes = each-flat IsCode (λ l. (side_of l).answered) ls n l at (subst (Each IsCode) (side-part (λ x. x.answered) (λ x y. refl)) side.codes) in
        code-each IsCode code (side_of l).answered mine_codes (subst (λ xs. has xs code ≡ true) h.answered there)

    code-handed : (code : ℕ) → has (state_view l).answered code ≡ true → (m : ℕ) × (u : LaneView) × IsLaneAt (map state_view ls) m u × (has u.stops code ≡ true)
    unfolding lane_of
    code-handed code there =
        let one = code-is code there in
        let some_ = some-place (eqb code) (λ l. (side_of l).stops) ls (subst (λ xs. 0 < many (eqb code) xs) (side-part (λ x. x.stops) (λ x y. refl)) one.1) in
        let hu = holds-of sys some_.1 (each-at sys (λ (l : LaneState). l.sys.now ≡ sys) ls some_.0 some_.1 some_.2 of) in
        (some_.0, state_view some_.1, map-at state_view ls some_.0 some_.1 some_.2, subst (λ xs. has xs code ≡ true) (sym hu.stops) (code-there code (side_of some_.1).stops some_.3))

  lane-is : (j : Journal) → j.lanes ≡ js → (n : ℕ) (l : LaneState) → slice_get ls n ≡ Some l → lane_at j n ≡ recs_in l
  lane-is j e n l at = ap (λ z. unwrap_or (slice_get z n) []) e ∙ ap (λ z. unwrap_or z []) (map-at recs_in ls n l at)

  length-map : {X Y : Type 0} (f : X → Y) (xs : List X) → length (map f xs) ≡ length xs
  length-map f [] = refl
  length-map f (x ∷ xs) = ap suc (length-map f xs)

  pub seals : (kernel budget : ℕ) (j : Journal) → j.kernel ≡ kernel → j.budget ≡ budget → j.lanes ≡ js → (j.end == end_of (all_items j.lanes)) ≡ true → SealsLanes sys kernel budget (map state_view ls) j
  unfolding facts_of lane_of
  seals kernel budget j k b e stated = record {
    kernel_is = k;
    budget_is = b;
    stated = stated;
    count = ap length e ∙ (length-map recs_in ls ∙ sym (length-map state_view ls));
    room = subst (λ z. list_all (λ (lane : List Rec). has_room (lane_items lane)) z ≡ true) (sym e) (lane-room sys ls);
    told = λ n u at. let z = mapped state_view ls n u at in
        subst (λ (w : LaneView). told_lane (facts_of sys j) 0 (lane_items (lane_at j n)) ≡ w.told) z.2
        ((λ i. told_lane (record { sys = sys; items = all_items (e i) }) 0 (lane_items (lane-is j e n z.0 z.1 i))) ∙ told n z.0 z.1);
    sound = subst (λ z. Sound sys z (hands_of_all (map state_view ls))) (sym e) sound;
    known = λ n u x at on. let z = mapped state_view ls n u at in subst (λ (w : LaneView). w.mark x ≤ total_of x (all_items j.lanes)) z.2 (subst (λ y. (state_view z.0).mark x ≤ total_of x (all_items y)) (sym e) (seen-known n z.0 z.1 x on));
    says = λ n u x at on. let z = mapped state_view ls n u at in subst (λ (w : LaneView). w.mark x ≡ total_of x (all_items j.lanes) → w.shown x ≡ shown_in sys j.lanes x) z.2
        (subst (λ y. (state_view z.0).mark x ≡ total_of x (all_items y) → (state_view z.0).shown x ≡ shown_in sys y x) (sym e) (seen-says n z.0 z.1 x on));
    behind = λ n u x at on. let z = mapped state_view ls n u at in subst (λ (w : LaneView). is_behind x (w.mark x) w.told ≡ true) z.2 (marks-behind n z.0 z.1 x on);
    events = λ n u x at is. let z = mapped state_view ls n u at in
        subst (λ (w : LaneView). event_of_entry (facts_of sys j) x ≡ Some (w.event x)) z.2
        ((λ i. event_of_entry (record { sys = sys; items = all_items (e i) }) x) ∙ event-known n z.0 z.1 x (subst (λ (w : LaneView). IsTrue (is_known w x)) (sym z.2) is));
    handed = λ n code u at there. let z = mapped state_view ls n u at in code-handed n z.0 z.1 code (subst (λ (w : LaneView). has w.answered code ≡ true) (sym z.2) there);
    one_code = λ n m code other u w at beside there and. let z = mapped state_view ls n u at in let y = mapped state_view ls m w beside in
        (code-is n z.0 z.1 code (subst (λ (x : LaneView). has x.answered code ≡ true) (sym z.2) there)).0 ∙ sym (code-is m y.0 y.1 other (subst (λ (x : LaneView). has x.answered other ≡ true) (sym y.2) and)).0;
  }

pub lanes_are_sealed : LanesAreSealed
lanes_are_sealed sys kernel budget first others j of end side k b e stated = seals sys first others of end side kernel budget j k b e stated
