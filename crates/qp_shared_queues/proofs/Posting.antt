-- Records that post an entry: it goes out of the hands.
use Rattle.std.proofs.Common.{◌≡◌, ℕ, zero, suc, ◌+◌, ◌/◌, ◌%◌, ◌<◌, ◌==◌, ◌&&◌, ◌||◌, List, [], ◌∷◌, ◌++◌, Bool, true, false, cond, refl, sym, ap, subst, ◌∙◌, arith, eqb, eq-eqb, IsTrue, if◌then◌else◌}
use Rattle.std.specs.List.{list_any}
use Rattle.std.proofs.lemmas.Bool.{or_left}
use Rattle.qp_model.specs.declared.record.Rec.{Rec}
use Rattle.qp_model.specs.declared.systems.System.{System}
use Rattle.qp_model.specs.declared.words.Word.TheVariants as word
use Rattle.qp_model.specs.declared.bodies.Entry.{Entry}
use Rattle.qp_model.specs.declared.bodies.Body.{Body}
use Rattle.qp_model.specs.declared.bodies.Body.TheVariants.{Post, Lifo}
use Rattle.qp_model.specs.Record.{item_of}
use Rattle.qp_model.specs.Told.{Known, Nothing, Event, plain, for_object}
use Rattle.qp_model.specs.History.{touch_of}
use Rattle.qp_table.specs.TwoTables.{on_table}
use Rattle.qp_table.specs.Counting.{many, without}
use Rattle.qp_table.specs.Rule.{queue_at, mark_in, is_ref, is_spot, is_entry, is_place, is_serve}
use Rattle.qp_table.specs.After.{logged, hands_without, place, bump, SeesMore}
use Rattle.qp_table.specs.declared.view.CellPlace.{CellPlace}
use Rattle.qp_table.specs.declared.view.Content.{Content}
use Rattle.qp_table.specs.declared.view.Glance.{Glance}
use Rattle.qp_table.specs.declared.view.Serve.{Serve}
use Rattle.qp_table.specs.declared.view.View.{View}
use Rattle.qp_calls.specs.LaneView.{AddsOf, Own, own_of}
use Rattle.qp_calls.specs.Clauses.{ShowsQueue}
use Rattle.qp_calls.specs.Tokens.{Token, Held, Loose, same_token, token_of, take_out, stands, without_entry, hands_by, hands_after, handles}
use Rattle.qp_calls.proofs.HandLemmas.{same-equal}
use Rattle.qp_calls_log.specs.declared.log.Log.{Log}
use Rattle.qp_table.specs.Lane.{event_seen, has_content, known_with, told_as, tokens, tokens_of_view}
use Rattle.qp_table.specs.Telling.{Saw, OwnTold, Touches}
use Rattle.qp_table.proofs.Gaining.{mark-rises}
use Rattle.qp_table.proofs.Hands.{tokens-out, refs-out, held-in, read-has, without-le}
use Rattle.qp_shared_lane.specs.declared.lane.LaneState.{LaneState}
use Rattle.qp_shared_lane.specs.Holds.{is_borne_out}
use Rattle.qp_shared_lane.specs.Lane.{state_view}
use Rattle.qp_shared_lane.specs.More.{IsPut, OnTable}
use Rattle.qp_shared_queues.proofs.Views.{Alike, grown-still, read-still, worn-still, placed-still, still-alike}
use Rattle.qp_shared_queues.proofs.Lane.{then_view, ThenHolds, told_in, says-then, holds-then, adds-then, own-then}

-- A record that touches the queue of a, after k operations, and posts the entry e
pub record IsPost (a k o : ℕ) (e : Entry) (b : Body) : Type 0 where
  pub touches : Touches (word.Queue a) k (for_object o (plain b))
  pub on : on_table (touch_of o b) ≡ true
  pub known : (ev : Entry → Event) → known_with ev b 0 ≡ Nothing
  pub hands : (hands : List Token) → hands_by hands (plain b) ≡ without_entry e hands
  pub handles : (t : Token) → handles t b ≡ same_token t (token_of e)
  pub borne : (sys : System) (seen : List Glance) → is_borne_out sys seen b Nothing ≡ true

pub post-is : (a f l m o : ℕ) (e : Entry) → IsPost a (f + l + m) o e (Post a f l m e)
unfolding hands_by
post-is a f l m o e = record { touches = record { marks = λ y. refl; only = λ y. refl }; on = refl; known = λ ev. refl; hands = λ hs. refl; handles = λ t. refl; borne = λ sys seen. refl }

pub lifo-is : (a f l m : ℕ) (e : Entry) → IsPost a (f + l + m) a e (Lifo f l m e)
unfolding hands_by
lifo-is a f l m e = record { touches = record { marks = λ y. refl; only = λ y. refl }; on = refl; known = λ ev. refl; hands = λ hs. refl; handles = λ t. refl; borne = λ sys seen. refl }

pub post-own : (a f l m o : ℕ) (e : Entry) (c : Own) → own_of a c o (Post a f l m e) ≡ c
post-own a f l m o e c = refl

pub lifo-own : (a f lc m lo mo : ℕ) (e : Entry) (c : Own) → c ≡ record { l = lo; m = mo } → own_of a c a (Lifo f lc m e) ≡ record { l = lo + 1; m = mo }
lifo-own a f lc m lo mo e c is = ap (λ (t : Bool). if t then record { l = c.l + 1; m = c.m } else c) (eq-eqb a a refl) ∙ (λ i. record { l = (is i).l + 1; m = (is i).m })

-- A view that a post leaves.

spent-fewer : (e d : Entry) (hands : List Entry) → 0 < many (is_entry d) (hands_without e hands) → 0 < many (is_entry d) hands
spent-fewer e d hands = go (eqb e.pool 0)
  where
    go : (t : Bool) → 0 < many (is_entry d) (cond {A = List Entry} t hands (without (is_entry e) hands)) → 0 < many (is_entry d) hands
    go true h = h
    go false h = let l = without-le (is_entry e) (is_entry d) hands in omega arith

pub bump-serves : (a l m o : ℕ) (xs : List Serve) → list_any (is_serve o) (bump a l m xs) ≡ list_any (is_serve o) xs
bump-serves a l m o [] = refl
bump-serves a l m o (x ∷ xs) = (λ i. one (eqb x.object a) i || bump-serves a l m o xs i)
  where
    one : (t : Bool) → is_serve o (cond {A = Serve} t (record x { lifos = x.lifos + l; takes = x.takes + m }) x) ≡ is_serve o x
    one true = refl
    one false = refl

pub claims-gone : (a j : ℕ) (e : Entry) (k : ℕ) (xs : List CellPlace) → xs ≡ [] → without (is_place a j e) (xs ++ place a j e k ∷ []) ≡ xs
claims-gone a j e k xs none = ap (λ (ys : List CellPlace). without (is_place a j e) (ys ++ place a j e k ∷ [])) none
    ∙ (ap (λ (t : Bool). cond {A = List CellPlace} t [] (place a j e k ∷ [])) (λ i. (eq-eqb a a refl i && eq-eqb j j refl i) && ((eq-eqb e.pool e.pool refl i && eq-eqb e.block e.block refl i) && eq-eqb e.name e.name refl i))
    ∙ sym none)

-- the tokens without the entry's
tokens-spent : (e : Entry) (hands : List Token) (v u : View) → u.hands ≡ hands_without e v.hands → u.fresh ≡ v.fresh → u.used ≡ v.used → ((t : Token) → tokens t hands ≡ tokens_of_view v t)
    → (0 < e.pool → IsTrue (stands (token_of e) hands)) → (0 < e.pool → 0 < many (is_entry e) v.hands) → (t : Token) → tokens t (without_entry e hands) ≡ tokens_of_view u t
tokens-spent e hands v u hands_are fresh used all stands_there mine t = go (e.pool == 0) refl t
  where
    pos : (p : ℕ) → (p == 0) ≡ false → 0 < p
    pos zero is = absurd (cc)
    pos (suc p) is = omega arith

    go : (c : Bool) → (e.pool == 0) ≡ c → (t : Token) → tokens t (without_entry e hands) ≡ tokens_of_view u t
    go true is (Held p b r) = ap (λ (c : Bool). tokens (Held p b r) (if c then hands else take_out (token_of e) hands)) is ∙ (all (Held p b r) ∙ sym (ap (many (is_ref p b r)) hands_are ∙ ap (λ (c : Bool). many (is_ref p b r) (cond {A = List Entry} c v.hands (without (is_entry e) v.hands))) is))
    go true is (Loose p b false) = ap (λ (c : Bool). tokens (Loose p b false) (if c then hands else take_out (token_of e) hands)) is ∙ (all (Loose p b false) ∙ sym (ap (many (is_spot p b)) fresh))
    go true is (Loose p b true) = ap (λ (c : Bool). tokens (Loose p b true) (if c then hands else take_out (token_of e) hands)) is ∙ (all (Loose p b true) ∙ sym (ap (many (is_spot p b)) used))
    go false is (Held p b r) =
        let out = tokens-out (Held p b r) (token_of e) hands (stands_there (pos e.pool is)) in
        let seen = refs-out p b r e.pool e.block e.name v.hands (mine (pos e.pool is)) in
        let both = all (Held p b r) in
        let x : tokens (Held p b r) (without_entry e hands) ≡ tokens (Held p b r) (take_out (token_of e) hands) = ap (λ (c : Bool). tokens (Held p b r) (if c then hands else take_out (token_of e) hands)) is in
        let y : many (is_ref p b r) u.hands ≡ many (is_ref p b r) (without (is_ref e.pool e.block e.name) v.hands) = ap (many (is_ref p b r)) hands_are ∙ ap (λ (c : Bool). many (is_ref p b r) (cond {A = List Entry} c v.hands (without (is_entry e) v.hands))) is in
        x ∙ (omega arith ∙ sym y)
    go false is (Loose p b false) =
        let out = tokens-out (Loose p b false) (token_of e) hands (stands_there (pos e.pool is)) in
        ap (λ (c : Bool). tokens (Loose p b false) (if c then hands else take_out (token_of e) hands)) is ∙ (omega arith ∙ (all (Loose p b false) ∙ sym (ap (many (is_spot p b)) fresh)))
    go false is (Loose p b true) =
        let out = tokens-out (Loose p b true) (token_of e) hands (stands_there (pos e.pool is)) in
        ap (λ (c : Bool). tokens (Loose p b true) (if c then hands else take_out (token_of e) hands)) is ∙ (omega arith ∙ (all (Loose p b true) ∙ sym (ap (many (is_spot p b)) used)))

-- of two entries with one token
pub entries-same : (d e : Entry) → same_token (token_of d) (token_of e) ≡ true → d ≡ e
entries-same d e h =
    let z = same-equal (token_of d) (token_of e) h in
    (λ i. record { pool = (parts (z i)).pool; block = (parts (z i)).block; name = (parts (z i)).name })
  where
    parts : Token → Entry
    parts (Held p b r) = record { pool = p; block = b; name = r }
    parts (Loose p b u) = record { pool = 0; block = 0; name = 0 }

-- The entry is static, or stands in the hands that the lane tells of
abbrev pub StandsIn : Entry → LaneState → Type 0
StandsIn e l = 0 < e.pool → IsTrue (stands (token_of e) (hands_after [] (told_in l)))

module _ (l : LaneState) (e : Entry) (there : StandsIn e l) where
  pub in-view : 0 < e.pool → 0 < many (is_entry e) l.seat.me.0.hands
  in-view pos = held-in (told_in l) l.seat.me.0 e.pool e.block e.name l.holds.hands (there pos)

  entry-read : IsTrue (has_content l.seat.me.0.contents e)
  entry-read = go (eqb e.pool 0) refl
    where
      pos : (p : ℕ) → eqb p 0 ≡ false → 0 < p
      pos zero is = absurd (cc)
      pos (suc p) is = omega arith

      go : (t : Bool) → eqb e.pool 0 ≡ t → IsTrue (has_content l.seat.me.0.contents e)
      go true is = or_left (eqb e.pool 0) _ is
      go false is = read-has l.seat.me.0.contents e (l.holds.read e (in-view (pos e.pool is))).0

  module _ (a o x k : ℕ) (b : Body) (rec q : Rec) (u : View) (h : Log) (more : List ℕ)
      (logs : u.logs ≡ logged q l.seat.me.0.logs) (alike : Alike l.seat.me.0 u) (hands : u.hands ≡ hands_without e l.seat.me.0.hands) (contents : u.contents ≡ l.seat.me.0.contents) (sees : SeesMore l.seat.me.0.seen u.seen)
      (saw : Saw l.sys.now (word.Queue a) l.seat.me.0 u x) (mark_is : mark_in (queue_at a) x ≡ k)
      (put : IsPut rec 0 l.log l.numbers.list h more) (says : item_of rec ≡ record { of = o; body = b }) (q_says : item_of q ≡ record { of = o; body = b }) (post : IsPost a k o e b) where
    on : OnTable l.sys.now (hands_after [] (told_in l)) l.seat.me.0 u rec 0 (for_object o (plain b)) (word.Queue a) k
    on = record {
      as_seen = q;
      says = says ∙ sym q_says;
      logs = logs;
      told = ap (λ i. told_as (event_seen u.contents) i 0) says ∙ ap (λ (c : Known). record { of = o; told = record { body = b; known = c } }) (post.known (event_seen u.contents));
      on = post.on;
      found = x;
      saw = saw;
      mark = mark_is;
      touches = post.touches;
      seen = sees;
      lane_numbers = alike.lane_numbers;
      serves = alike.serves;
      grown = grown-still l.seat.me.0 u contents;
      read = read-still l.seat.me.0 u contents (λ d mine. spent-fewer e d l.seat.me.0.hands (subst (λ (xs : List Entry). 0 < many (is_entry d) xs) hands mine)) l.holds.read;
      still = still-alike l.seat.me.0 u alike l.holds.still;
      placed = placed-still l.seat.me.0 u alike.fresh alike.used l.holds.placed;
      worn = worn-still l.sys.now l.seat.me.0 u alike.used (mark-rises l.sys.now (word.Queue a) l.seat.me.0 u x saw) l.holds.worn;
      hands_are = λ t. ap (tokens t) (post.hands (hands_after [] (told_in l))) ∙ tokens-spent e (hands_after [] (told_in l)) l.seat.me.0 u hands alike.fresh alike.used l.holds.hands there in-view t;
      handled = λ d handled. let same = sym (post.handles (token_of d)) ∙ handled in subst (λ (c : Entry). IsTrue (has_content u.contents c)) (sym (entries-same d e same)) (subst (λ (qs : List Content). IsTrue (has_content qs e)) (sym contents) entry-read);
      borne = post.borne l.sys.now u.seen;
    }

    pub posted-holds : ThenHolds l h more u
    posted-holds = holds-then l a x k u saw mark_is o (plain b) h more rec put on

    pub posted-adds : h.spare + 1 ≡ l.log.spare → AddsOf o (plain b ∷ []) (state_view l) (then_view l h more u)
    posted-adds spare = adds-then l a x k u saw mark_is o (plain b) h more rec put on spare

    pub posted-shows : (f lc m lo mo : ℕ) → x % 2097152 ≡ f → x / 2097152 % 2097152 ≡ lc → x / 4398046511104 ≡ m → ((c : Own) → c ≡ record { l = lo; m = mo } → own_of a c o b ≡ record { l = lc; m = m }) → OwnTold a lo mo l.seat.me.0 → ShowsQueue a f lc m (then_view l h more u)
    posted-shows f lc m lo mo ef el em step told = record {
      says = says-then l a x k u saw mark_is h more f lc m ef el em;
      own = own-then l a x k u saw mark_is o (plain b) h more rec put on lo mo lc m step told;
    }
