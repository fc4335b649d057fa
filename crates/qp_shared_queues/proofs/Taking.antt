-- Records of takes: an entry comes into the hands, and what was read of it is known.
use Rattle.std.proofs.Common.{◌≡◌, ℕ, ◌+◌, ◌/◌, ◌%◌, ◌<◌, ◌==◌, ◌&&◌, ◌||◌, List, [], ◌∷◌, ◌++◌, Bool, true, false, cond, refl, sym, ap, subst, ◌∙◌, arith, eqb, eqb-true, eq-eqb, lt-ltb, nat_lt, IsTrue, if◌then◌else◌}
use Rattle.std.specs.List.{list_any}
use Rattle.std.proofs.lemmas.Bool.{and_from, and_parts, or_left}
use Rattle.std.proofs.lemmas.List.Folds.{list_any-append}
use Rattle.qp_model.specs.declared.record.Rec.{Rec}
use Rattle.qp_model.specs.declared.systems.System.{System}
use Rattle.qp_model.specs.declared.words.Word.TheVariants as word
use Rattle.qp_model.specs.declared.bodies.Entry.{Entry}
use Rattle.qp_model.specs.declared.bodies.Body.TheVariants.{Took}
use Rattle.qp_model.specs.Record.{item_of}
use Rattle.qp_model.specs.Told.{Event, Told, told_took, for_object}
use Rattle.qp_table.specs.Counting.{many}
use Rattle.qp_table.specs.Rule.{queue_at, mark_in, is_ref, is_spot, is_entry, event_of_content, Codable}
use Rattle.qp_table.specs.After.{rec_of, logged, gained, SeesMore}
use Rattle.qp_table.specs.QueueLaws.{f_in, l_in, m_in}
use Rattle.qp_table.specs.declared.view.Content.{Content}
use Rattle.qp_table.specs.declared.view.View.{View}
use Rattle.qp_table.proofs.Counting.{many-snoc}
use Rattle.qp_table.proofs.QueueSteps.{took-says}
use Rattle.qp_calls.specs.LaneView.{AddsOf, Own, own_of}
use Rattle.qp_calls.specs.Clauses.{ShowsQueue}
use Rattle.qp_calls.specs.Tokens.{Token, Held, Loose, same_token, token_of, with_entry, hands_by, hands_after}
use Rattle.qp_calls_log.specs.declared.log.Log.{Log}
use Rattle.qp_table.specs.Lane.{event_read as event_known, event_seen, has_content, is_read, told_as, tokens, tokens_of_view}
use Rattle.qp_table.specs.Telling.{Touches, OwnTold, Saw}
use Rattle.qp_table.proofs.Gaining.{mark-rises}
use Rattle.qp_table.proofs.Hands.{refs-in}
use Rattle.qp_table.specs.Told.{HasPlace}
use Rattle.qp_shared_lane.specs.declared.lane.LaneState.{LaneState}
use Rattle.qp_shared_lane.specs.Holds.{IsRead}
use Rattle.qp_shared_lane.specs.Lane.{state_view}
use Rattle.qp_shared_lane.specs.More.{KeepsContents, IsPut, OnTable}
use Rattle.qp_shared_queues.proofs.Views.{Alike, worn-still, placed-still, still-alike}
use Rattle.qp_shared_queues.proofs.Lane.{then_view, ThenHolds, told_in, says-then, holds-then, adds-then, own-then}
use Rattle.qp_shared_queues.proofs.Posting.{entries-same}

-- the tokens with the entry's
tokens-gained : (e : Entry) (hands : List Token) (v u : View) → u.hands ≡ gained e v.hands → u.fresh ≡ v.fresh → u.used ≡ v.used → ((t : Token) → tokens t hands ≡ tokens_of_view v t) → (t : Token) → tokens t (with_entry e hands) ≡ tokens_of_view u t
tokens-gained e hands v u hands_are fresh used all t = go (e.pool == 0) refl t
  where
    go : (c : Bool) → (e.pool == 0) ≡ c → (t : Token) → tokens t (with_entry e hands) ≡ tokens_of_view u t
    go true is (Held p b r) = ap (λ (c : Bool). tokens (Held p b r) (if c then hands else token_of e ∷ hands)) is ∙ (all (Held p b r) ∙ sym (ap (many (is_ref p b r)) hands_are ∙ ap (λ (c : Bool). many (is_ref p b r) (cond {A = List Entry} c v.hands (v.hands ++ e ∷ []))) is))
    go true is (Loose p b false) = ap (λ (c : Bool). tokens (Loose p b false) (if c then hands else token_of e ∷ hands)) is ∙ (all (Loose p b false) ∙ sym (ap (many (is_spot p b)) fresh))
    go true is (Loose p b true) = ap (λ (c : Bool). tokens (Loose p b true) (if c then hands else token_of e ∷ hands)) is ∙ (all (Loose p b true) ∙ sym (ap (many (is_spot p b)) used))
    go false is (Held p b r) =
        let seen = refs-in p b r e.pool e.block e.name v.hands in
        let both = all (Held p b r) in
        let x : tokens (Held p b r) (with_entry e hands) ≡ cond {A = ℕ} (same_token (Held p b r) (token_of e)) 1 0 + tokens (Held p b r) hands = ap (λ (c : Bool). tokens (Held p b r) (if c then hands else token_of e ∷ hands)) is in
        let y : many (is_ref p b r) u.hands ≡ many (is_ref p b r) (v.hands ++ e ∷ []) = ap (many (is_ref p b r)) hands_are ∙ ap (λ (c : Bool). many (is_ref p b r) (cond {A = List Entry} c v.hands (v.hands ++ e ∷ []))) is in
        x ∙ (omega arith ∙ sym y)
    go false is (Loose p b false) = ap (λ (c : Bool). tokens (Loose p b false) (if c then hands else token_of e ∷ hands)) is ∙ (omega arith ∙ (all (Loose p b false) ∙ sym (ap (many (is_spot p b)) fresh)))
    go false is (Loose p b true) = ap (λ (c : Bool). tokens (Loose p b true) (if c then hands else token_of e ∷ hands)) is ∙ (omega arith ∙ (all (Loose p b true) ∙ sym (ap (many (is_spot p b)) used)))

-- One content more.

has-more : (qs : List Content) (q : Content) (d : Entry) → IsTrue (has_content qs d) → IsTrue (has_content (qs ++ q ∷ []) d)
has-more qs q d h = go (eqb d.pool 0) h
  where
    go : (t : Bool) → (t || list_any (λ (p : Content). is_entry d p.entry) qs) ≡ true → (t || list_any (λ (p : Content). is_entry d p.entry) (qs ++ q ∷ [])) ≡ true
    go true h = refl
    go false h = list_any-append (λ (p : Content). is_entry d p.entry) qs (q ∷ []) ∙ or_left (list_any (λ (p : Content). is_entry d p.entry) qs) _ h

known-more : (qs : List Content) (q : Content) (d : Entry) → list_any (λ (p : Content). is_entry d p.entry) qs ≡ true → event_known (qs ++ q ∷ []) d ≡ event_known qs d
known-more [] q d h = absurd (cc)
known-more (p ∷ ps) q d h = go (is_entry d p.entry) h (known-more ps q d)
  where
    go : (t : Bool) → (t || list_any (λ (p : Content). is_entry d p.entry) ps) ≡ true → (list_any (λ (p : Content). is_entry d p.entry) ps ≡ true → event_known (ps ++ q ∷ []) d ≡ event_known ps d)
        → cond {A = Event} t (event_of_content p.event) (event_known (ps ++ q ∷ []) d) ≡ cond {A = Event} t (event_of_content p.event) (event_known ps d)
    go true h r = refl
    go false h r = r h

event-more : (qs : List Content) (q : Content) (d : Entry) → IsTrue (has_content qs d) → event_seen (qs ++ q ∷ []) d ≡ event_seen qs d
unfolding event_seen
event-more qs q d h = go (eqb d.pool 0) h
  where
    go : (t : Bool) → (t || list_any (λ (p : Content). is_entry d p.entry) qs) ≡ true → cond {A = Event} t (record { sig = d.block; pars = [] }) (event_known (qs ++ q ∷ []) d) ≡ cond {A = Event} t (record { sig = d.block; pars = [] }) (event_known qs d)
    go true h = refl
    go false h = known-more qs q d h

pub grown-more : (v u : View) (q : Content) → u.contents ≡ v.contents ++ q ∷ [] → KeepsContents v u
grown-more v u q is d h = (
  subst (λ (qs : List Content). IsTrue (has_content qs d)) (sym is) (has-more v.contents q d h),
  ap (λ (qs : List Content). event_seen qs d) is ∙ event-more v.contents q d h,
)

entry-is : (d e : Entry) → is_entry d e ≡ true → e ≡ d
entry-is d e h =
    let t = and_parts (eqb e.pool d.pool && eqb e.block d.block) (eqb e.name d.name) h in let u = and_parts (eqb e.pool d.pool) (eqb e.block d.block) t.0 in
    (λ i. record { pool = eqb-true e.pool d.pool u.0 i; block = eqb-true e.block d.block u.1 i; name = eqb-true e.name d.name t.1 i })

pub read-more : (sys : System) (v u : View) (q : Content) (e : Entry) → u.contents ≡ v.contents ++ q ∷ [] → u.hands ≡ v.hands ++ e ∷ [] → IsTrue (has_content u.contents e) → HasPlace e.pool e.block → 0 < e.pool → Codable sys e → IsRead v → IsRead u
read-more sys v u q e contents hands has place pos codable read d mine = go (is_entry d e) refl
  where
    go : (t : Bool) → is_entry d e ≡ t → IsTrue (is_read u.contents d) × (0 < d.pool) × (d.name < 281474976710656)
    go true is = subst (λ (c : Entry). IsTrue (is_read u.contents c) × (0 < c.pool) × (c.name < 281474976710656)) (entry-is d e is) (
      and_from (has_content u.contents e) (nat_lt e.pool 16 && nat_lt e.block 32) has (and_from (nat_lt e.pool 16) (nat_lt e.block 32) (lt-ltb e.pool 16 place.1) (lt-ltb e.block 32 place.2)),
      pos,
      (codable.pooled pos).2,
    )
    go false is =
        let m = many-snoc (is_entry d) v.hands e in let h = ap (many (is_entry d)) hands in let z = ap (λ (t : Bool). cond {A = ℕ} t 1 0) is in
        let r = read d (omega arith) in let p = and_parts (has_content v.contents d) (nat_lt d.pool 16 && nat_lt d.block 32) r.0 in
        (and_from (has_content u.contents d) (nat_lt d.pool 16 && nat_lt d.block 32) (subst (λ (qs : List Content). IsTrue (has_content qs d)) (sym contents) (has-more v.contents q d p.0)) p.1, r.1, r.2)

pub took-own : (a f lc m lo mo : ℕ) (e : Entry) (c : Own) → c ≡ record { l = lo; m = mo } → own_of a c a (Took f lc m e) ≡ record { l = lo; m = mo + 1 }
took-own a f lc m lo mo e c is = ap (λ (t : Bool). if t then record { l = c.l; m = c.m + 1 } else c) (eq-eqb a a refl) ∙ (λ i. record { l = (is i).l; m = (is i).m + 1 })

took-touches : (a f lc m : ℕ) (e : Entry) (ev : Event) → Touches (word.Queue a) (f + lc + m) (for_object a (told_took f lc m e ev))
took-touches a f lc m e ev = record { marks = λ y. refl; only = λ y. refl }

took-hands : (hands : List Token) (f lc m : ℕ) (e : Entry) (ev : Event) → hands_by hands (told_took f lc m e ev) ≡ with_entry e hands
unfolding hands_by
took-hands hands f lc m e ev = refl

-- a count of takes raised by one
pub takes-raised : (x : ℕ) → (f_in (x + 4398046511104) ≡ f_in x) × (l_in (x + 4398046511104) ≡ l_in x) × (m_in (x + 4398046511104) ≡ m_in x + 1)
takes-raised x = (omega arith, omega arith, omega arith)

module _ (l : LaneState) (a x : ℕ) (e : Entry) (f lc m : ℕ) (rec : Rec) (u : View) (h : Log) (more : List ℕ)
    (logs : u.logs ≡ logged (rec_of 5 a (f ∷ lc ∷ m ∷ e.pool ∷ e.block ∷ e.name ∷ [])) l.seat.me.0.logs) (alike : Alike l.seat.me.0 u) (hands : u.hands ≡ gained e l.seat.me.0.hands) (grown : KeepsContents l.seat.me.0 u) (read : IsRead u) (has : IsTrue (has_content u.contents e)) (sees : SeesMore l.seat.me.0.seen u.seen)
    (saw : Saw l.sys.now (word.Queue a) l.seat.me.0 u x) (mark_is : mark_in (queue_at a) x ≡ f + lc + m)
    (put : IsPut rec 0 l.log l.numbers.list h more) (says : item_of rec ≡ record { of = a; body = Took f lc m e }) where
  abbrev g : Told
  g = told_took f lc m e (event_seen u.contents e)

  on : OnTable l.sys.now (hands_after [] (told_in l)) l.seat.me.0 u rec 0 (for_object a g) (word.Queue a) (f + lc + m)
  on = record {
    as_seen = rec_of 5 a (f ∷ lc ∷ m ∷ e.pool ∷ e.block ∷ e.name ∷ []);
    says = says ∙ sym (took-says a f lc m e);
    logs = logs;
    told = ap (λ i. told_as (event_seen u.contents) i 0) says;
    on = refl;
    found = x;
    saw = saw;
    mark = mark_is;
    touches = took-touches a f lc m e (event_seen u.contents e);
    seen = sees;
    lane_numbers = alike.lane_numbers;
    serves = alike.serves;
    grown = grown;
    read = read;
    still = still-alike l.seat.me.0 u alike l.holds.still;
    placed = placed-still l.seat.me.0 u alike.fresh alike.used l.holds.placed;
    worn = worn-still l.sys.now l.seat.me.0 u alike.used (mark-rises l.sys.now (word.Queue a) l.seat.me.0 u x saw) l.holds.worn;
    hands_are = λ t. ap (tokens t) (took-hands (hands_after [] (told_in l)) f lc m e (event_seen u.contents e)) ∙ tokens-gained e (hands_after [] (told_in l)) l.seat.me.0 u hands alike.fresh alike.used l.holds.hands t;
    handled = λ d handled. subst (λ (c : Entry). IsTrue (has_content u.contents c)) (sym (entries-same d e handled)) has;
    borne = refl;
  }

  pub taken-holds : ThenHolds l h more u
  taken-holds = holds-then l a x (f + lc + m) u saw mark_is a g h more rec put on

  pub taken-adds : h.spare + 1 ≡ l.log.spare → AddsOf a (g ∷ []) (state_view l) (then_view l h more u)
  taken-adds spare = adds-then l a x (f + lc + m) u saw mark_is a g h more rec put on spare

  pub taken-shows : (mo : ℕ) → x % 2097152 ≡ f → x / 2097152 % 2097152 ≡ lc → x / 4398046511104 ≡ m → mo + 1 ≡ m → OwnTold a lc mo l.seat.me.0 → ShowsQueue a f lc m (then_view l h more u)
  taken-shows mo ef el em up told = record {
    says = says-then l a x (f + lc + m) u saw mark_is h more f lc m ef el em;
    own = own-then l a x (f + lc + m) u saw mark_is a g h more rec put on lc mo lc m (λ c c_is. took-own a f lc m lc mo e c c_is ∙ ap (λ n. record { l = lc; m = n }) up) told;
  }
