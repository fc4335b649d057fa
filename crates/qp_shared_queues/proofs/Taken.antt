-- What contracts see of takes, by how they end.
use Rattle.std.proofs.Common.{◌≡◌, ℕ, zero, suc, ◌+◌, ◌-◌, ◌<◌, ◌≤◌, ◌&&◌, ◌||◌, nat_le, List, [], ◌∷◌, ◌++◌, Bool, true, false, cond, refl, sym, ap, subst, ◌∙◌, arith, eqb, eq-eqb, ne_eqb, IsTrue, Some, None, Option, if◌then◌else◌}
use Rattle.std.specs.Prelude.{slice_get}
use Rattle.std.specs.Option.{option_map_or}
use Rattle.std.proofs.lemmas.Bool.{and_parts, or_left, or_right}
use Rattle.std.proofs.lemmas.Bool.Decides.{nat_tests}
use Rattle.std.proofs.lemmas.Option.{slice_get_within}
use Rattle.std.specs.List.{list_any}
use Rattle.qp_model.specs.declared.record.Rec.{Rec}
use Rattle.qp_model.specs.declared.systems.System.{System}
use Rattle.qp_model.specs.declared.systems.SignalDef.{SignalDef}
use Rattle.qp_model.specs.declared.bodies.Entry as model
use Rattle.qp_model.specs.declared.bodies.Body.TheVariants.{Took}
use Rattle.qp_model.specs.Parts.{is_static, params_of}
use Rattle.qp_model.specs.Record.{item_of}
use Rattle.qp_model.specs.Told.{Event, told_took, for_object}
use Rattle.qp_table.specs.Counting.{many}
use Rattle.qp_table.specs.Rule.{queue_at, mark_in, is_entry, is_serve, Codable}
use Rattle.qp_table.specs.After.{emptied, learned, gained, SeesMore}
use Rattle.qp_table.specs.QueueLaws.{f_in, l_in, m_in}
use Rattle.qp_table.specs.declared.view.Content.{Content}
use Rattle.qp_table.specs.declared.view.View.{View}
use Rattle.qp_table.proofs.Marks.{high-mark}
use Rattle.qp_calls.specs.LaneView.{LaneView, Gains}
use Rattle.qp_calls.specs.declared.tokens.HeldEntry.{HeldEntry}
use Rattle.qp_calls.specs.declared.tokens.HeldEntry.TheVariants as token
use Rattle.qp_calls.specs.Clauses.{entry_of, IsEvent, EntryStands, EventIs, TakesIt}
use Rattle.qp_calls.specs.Tokens.{Held, stands, hands_by, hands_after}
use Rattle.qp_calls.proofs.HandLemmas.{held-first}
use Rattle.qp_calls_log.specs.declared.log.Log.{Log}
use Rattle.qp_table.specs.Lane.{lane_of, event_seen, has_content}
use Rattle.qp_table.specs.Told.{freed}
use Rattle.qp_shared_loops.specs.Ends.{seeing, IsReference, KnowsEvent, LoopTakes}
use Rattle.qp_shared_lane.specs.declared.lane.LaneState.{LaneState}
use Rattle.qp_shared_lane.specs.Lane.{state_view}
use Rattle.qp_shared_lane.specs.More.{KeepsContents, IsPut}
use Rattle.qp_shared_lane.specs.Holds.{IsRead}
use Rattle.qp_shared_queues.proofs.Views.{Alike, sees-last, grown-still, read-still}
use Rattle.qp_shared_queues.proofs.Lane.{then_view, ThenHolds, lane-mark-was, lane-mark-then}
use Rattle.qp_shared_queues.proofs.Posting.{bump-serves, claims-gone}
use Rattle.qp_shared_queues.proofs.Taking.{grown-more, read-more, takes-raised, taken-holds, taken-adds, taken-shows}

-- a static signal's event
static-event : (sys : System) (sig : ℕ) → is_static sys sig ≡ true → params_of sys sig ≡ 0 → IsEvent sys (record { sig = sig; pars = [] })
unfolding is_static
static-event sys sig h bare = go (slice_get sys.signals (sig - 4)) refl (and_parts _ _ h).1
  where
    go : (d : Option SignalDef) → slice_get sys.signals (sig - 4) ≡ d → option_map_or (λ x. x.fixed) d false ≡ true → IsEvent sys (record { sig = sig; pars = [] })
    go None e k = absurd (cc)
    go (Some d) e k =
        let low : nat_le 4 sig ≡ true = (and_parts _ _ h).0 in
        let from : 4 ≤ sig = grind (arith, nat_tests) in
        let within = slice_get_within sys.signals (sig - 4) d e in
        record { from = from; within = omega (arith, within, from); params = sym bare }

event-good : (sys : System) (u : View) (r : HeldEntry) → Codable sys (entry_of r) → KnowsEvent sys (entry_of r) u → IsReference r → ((sig : ℕ) → IsTrue (is_static sys sig) → params_of sys sig ≡ 0) → IsEvent sys (event_seen u.contents (entry_of r))
unfolding entry_of event_seen
event-good sys u (token.Static sig) codable knows named bare = let s = (codable.static refl).0 in static-event sys sig s (bare sig s)
event-good sys u (token.Pool p) codable knows named bare = let k = knows named in record { from = k.from; within = k.within; params = k.params }

fixed-then : (l : LaneState) (u : View) (h : Log) (more : List ℕ) (r : HeldEntry) → EventIs r (then_view l h more u)
unfolding lane_of event_seen
fixed-then l u h more (token.Static sig) = refl
fixed-then l u h more (token.Pool p) = tt

stands-then : (sys : System) (a : ℕ) (r : HeldEntry) (old new : LaneView) (f lc m : ℕ) (ev : Event) → new.sys ≡ sys → Gains (for_object a (told_took f lc m (entry_of r) ev) ∷ []) old new → Codable sys (entry_of r) → IsReference r → EntryStands r new
unfolding entry_of hands_after hands_by
stands-then sys a (token.Static sig) old new f lc m ev sys_is gains codable named = subst (λ s. IsTrue (is_static s sig)) (sym sys_is) (codable.static refl).0
stands-then sys a (token.Pool p) old new f lc m ev sys_is gains codable named = (
  named,
  subst (λ hs. IsTrue (stands (Held p.pool p.block p.name) hs)) (sym (gains.hands ∙ ap (λ (t : Bool). if t then old.hands else Held p.pool p.block p.name ∷ old.hands) (ne_eqb p.pool 0 (λ z. absurd (omega arith))))) (held-first p.pool p.block p.name old.hands),
)

content-last : (qs : List Content) (e : model.Entry) (event : List ℕ) → IsTrue (has_content (qs ++ record { entry = e; event = event } ∷ []) e)
content-last qs e event = or_right (eqb e.pool 0) _ (go qs)
  where
    go : (qs : List Content) → list_any (λ (q : Content). is_entry e q.entry) (qs ++ record { entry = e; event = event } ∷ []) ≡ true
    go [] = ap (λ (t : Bool). t || false) (λ i. (eq-eqb e.pool e.pool refl i && eq-eqb e.block e.block refl i) && eq-eqb e.name e.name refl i)
    go (q ∷ qs) = or_right (is_entry e q.entry) (list_any (λ (q : Content). is_entry e q.entry) (qs ++ record { entry = e; event = event } ∷ [])) (go qs)

module _ (l : LaneState) (a x : ℕ) (r : HeldEntry) (u : View) (h : Log) (more : List ℕ) (rec : Rec) (c : LoopTakes l.sys.now a (entry_of r) l.seat.me.0 x u) (put : IsPut rec 0 l.log l.numbers.list h more) (says : item_of rec ≡ record { of = a; body = Took (f_in x) (l_in x) (m_in x + 1) (entry_of r) }) where
  abbrev e : model.Entry
  e = entry_of r

  abbrev done : View
  done = freed a c.cell e (emptied (seeing c.glances l.seat.me.0) a c.cell e) x

  -- the parts that are so whether the entry is static or a reference
  part : {A : Type 0} (f : View → A) (y : A) → f done ≡ y → f (learned done e c.event) ≡ y → f u ≡ y
  part f y x1 x2 = ap f c.is ∙ go (eqb e.pool 0)
    where
      go : (t : Bool) → f (cond {A = View} t done (learned done e c.event)) ≡ y
      go true = x1
      go false = x2

  gone : done.takes ≡ l.seat.me.0.takes
  gone = claims-gone a c.cell e 0 l.seat.me.0.takes l.holds.still.takes

  alike : Alike l.seat.me.0 u
  alike = record {
    lane_numbers = part (λ (z : View). z.lane_numbers) l.seat.me.0.lane_numbers refl refl;
    serves = λ o. part (λ (z : View). list_any (is_serve o) z.serves) (list_any (is_serve o) l.seat.me.0.serves) (bump-serves a 0 1 o l.seat.me.0.serves) (bump-serves a 0 1 o l.seat.me.0.serves);
    fresh = part (λ (z : View). z.fresh) l.seat.me.0.fresh refl refl;
    used = part (λ (z : View). z.used) l.seat.me.0.used refl refl;
    fills = part (λ (z : View). z.fills) l.seat.me.0.fills refl refl;
    claims = part (λ (z : View). z.claims) l.seat.me.0.claims refl refl;
    takes = part (λ (z : View). z.takes) l.seat.me.0.takes gone gone;
    gives = part (λ (z : View). z.gives) l.seat.me.0.gives refl refl;
  }

  logs : u.logs ≡ done.logs
  logs = part (λ (z : View). z.logs) done.logs refl refl

  hands : u.hands ≡ gained e l.seat.me.0.hands
  hands = part (λ (z : View). z.hands) (gained e l.seat.me.0.hands) refl refl

  sees : SeesMore l.seat.me.0.seen u.seen
  sees = sees-last l.seat.me.0 u c.glances (record { word = queue_at a; value = x + 4398046511104 }) c.more (part (λ (z : View). z.seen) done.seen refl refl)

  -- what was read of entries
  module _ (off : eqb e.pool 0 ≡ false) where
    learns : u.contents ≡ l.seat.me.0.contents ++ record { entry = e; event = c.event } ∷ []
    learns = ap (λ (z : View). z.contents) c.is ∙ ap (λ (t : Bool). (cond {A = View} t done (learned done e c.event)).contents) off

    pos : 0 < e.pool
    pos = go e.pool off
      where
        go : (p : ℕ) → eqb p 0 ≡ false → 0 < p
        go zero is = absurd (cc)
        go (suc p) is = omega arith

    holds-it : u.hands ≡ l.seat.me.0.hands ++ e ∷ []
    holds-it = hands ∙ ap (λ (t : Bool). cond {A = List model.Entry} t l.seat.me.0.hands (l.seat.me.0.hands ++ e ∷ [])) off

  knows : (t : Bool) → eqb e.pool 0 ≡ t → KeepsContents l.seat.me.0 u × IsRead u × IsTrue (has_content u.contents e)
  knows true is =
      let same : u.contents ≡ l.seat.me.0.contents = ap (λ (z : View). z.contents) c.is ∙ ap (λ (t : Bool). (cond {A = View} t done (learned done e c.event)).contents) is in
      let mine : u.hands ≡ l.seat.me.0.hands = hands ∙ ap (λ (t : Bool). cond {A = List model.Entry} t l.seat.me.0.hands (l.seat.me.0.hands ++ e ∷ [])) is in
      (grown-still l.seat.me.0 u same, read-still l.seat.me.0 u same (λ d there. subst (λ (xs : List model.Entry). 0 < many (is_entry d) xs) mine there) l.holds.read, or_left (eqb e.pool 0) _ is)
  knows false is =
      let k = c.content (pos is) in let has = subst (λ (qs : List Content). IsTrue (has_content qs e)) (sym (learns is)) (content-last l.seat.me.0.contents e c.event) in
      (grown-more l.seat.me.0 u (record { entry = e; event = c.event }) (learns is), read-more l.sys.now l.seat.me.0 u (record { entry = e; event = c.event }) e (learns is) (holds-it is) has k.1 (pos is) c.codable l.holds.read, has)

  mark_is : mark_in (queue_at a) (x + 4398046511104) ≡ f_in x + l_in x + (m_in x + 1)
  mark_is = let r = takes-raised x in let r0 = r.0 in let r1 = r.1 in let r2 = r.2 in let m = c.told.mark in omega arith

  pub take-holds : ThenHolds l h more u
  take-holds = let k = knows (eqb e.pool 0) refl in
      taken-holds l a (x + 4398046511104) e (f_in x) (l_in x) (m_in x + 1) rec u h more logs alike hands k.0 k.1 k.2 sees c.told.saw mark_is put says

  -- what contracts see of it
  pub takes-it-for : IsReference r → ((sig : ℕ) → IsTrue (is_static l.sys.now sig) → params_of l.sys.now sig ≡ 0) → h.spare + 1 ≡ l.log.spare → TakesIt a r (state_view l) (then_view l h more u)
  unfolding lane_of
  takes-it-for named bare spare =
      let k = knows (eqb e.pool 0) refl in
      let adds = taken-adds l a (x + 4398046511104) e (f_in x) (l_in x) (m_in x + 1) rec u h more logs alike hands k.0 k.1 k.2 sees c.told.saw mark_is put says spare in
      let raised = takes-raised x in
      record {
        f = f_in x;
        l = l_in x;
        m = m_in x + 1;
        adds = adds;
        some = let s = c.some in omega arith;
        up = let was = lane-mark-was l a (x + 4398046511104) _ u c.told.saw mark_is in let now = lane-mark-then l a (x + 4398046511104) _ u c.told.saw mark_is h more in let le = c.told.found.le in let hm = high-mark (queue_at a) x (omega arith) in omega arith;
        stands = stands-then l.sys.now a r (state_view l) (then_view l h more u) (f_in x) (l_in x) (m_in x + 1) (event_seen u.contents e) refl adds.grows c.codable named;
        event = event-good l.sys.now u r c.codable c.knows named bare;
        fixed = fixed-then l u h more r;
        shows = taken-shows l a (x + 4398046511104) e (f_in x) (l_in x) (m_in x + 1) rec u h more logs alike hands k.0 k.1 k.2 sees c.told.saw mark_is put says (m_in x) raised.0 raised.1 raised.2 refl c.told.own;
      }
