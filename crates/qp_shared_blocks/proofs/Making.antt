-- A reference is made: the first one to a block, and another one.
use Rattle.std.proofs.Common.{◌≡◌, ℕ, suc, ◌+◌, ◌-◌, ◌/◌, ◌%◌, ◌<◌, ◌≤◌, ◌==◌, ◌&&◌, ◌||◌, List, [], ◌∷◌, ◌++◌, Bool, true, false, cond, nat_lt, refl, sym, ap, subst, ◌∙◌, arith, eqb, eqb-true, eq-eqb, IsTrue, if◌then◌else◌}
use Rattle.std.specs.List.{list_any}
use Rattle.std.proofs.lemmas.Bool.{and_from, and_parts, or_left, or_right}
use Rattle.std.proofs.lemmas.Bool.Decides.{nat_tests}
use Rattle.std.proofs.lemmas.List.Folds.{list_any-append}
use Rattle.qp_model.specs.declared.record.Rec.{Rec}
use Rattle.qp_model.specs.declared.words.Word.{Word}
use Rattle.qp_model.specs.declared.words.Word.TheVariants as word
use Rattle.qp_model.specs.declared.bodies.Entry.{Entry}
use Rattle.qp_model.specs.declared.bodies.Body.TheVariants.{Inc}
use Rattle.qp_model.specs.Record.{Item, item_of}
use Rattle.qp_model.specs.Told.{ToldItem, Event, plain, for_object}
use Rattle.qp_table.specs.Counting.{many, without}
use Rattle.qp_table.specs.Rule.{block_at, mark_in, is_ref, is_spot, is_entry, is_serve, event_of_content}
use Rattle.qp_table.specs.After.{rec_of, ref}
use Rattle.qp_table.specs.declared.view.Content.{Content}
use Rattle.qp_table.specs.declared.view.View.{View}
use Rattle.qp_table.proofs.Counting.{many-snoc, many-without}
use Rattle.qp_table.proofs.Marks.{low-mark}
use Rattle.qp_table.proofs.Steps.{inc-says}
use Rattle.qp_calls.specs.Tokens.{Hold, Token, Held, Loose, same_token, token_of, take_out, stands, hands_by, hands_after, handles}
use Rattle.qp_calls.specs.LaneView.{References}
use Rattle.qp_calls.specs.Clauses.{Makes, MakesMore, StandsFresh}
use Rattle.qp_calls.specs.declared.tokens.Fresh.{Fresh}
use Rattle.qp_calls.proofs.HandLemmas.{same-equal}
use Rattle.qp_calls_log.specs.declared.log.Log.{Log}
use Rattle.qp_table.specs.Words.{mark_seen, shown_seen}
use Rattle.qp_table.specs.Lane.{lane_of, event_read, event_seen, tokens, tokens_of_view, has_content, is_read, told_as}
use Rattle.qp_table.specs.Telling.{Saw}
use Rattle.qp_table.proofs.Gaining.{mark-here, mark-was, mark-rises, shown-here}
use Rattle.qp_table.proofs.Hands.{tokens-out, refs-in, eq-turned, without-le}
use Rattle.qp_table.specs.Told.{FirstTold, HasPlace}
use Rattle.qp_shared_lane.specs.declared.lane.LaneState.{LaneState}
use Rattle.qp_shared_lane.specs.Holds.{LaneHolds, told_by, IsRead}
use Rattle.qp_shared_lane.specs.Lane.{world_of_lane, lane_with, state_view}
use Rattle.qp_shared_lane.specs.More.{IsPut, KeepsContents, OnTable}
use Rattle.qp_shared_lane.specs.Laws.{LaneGainsRecord}
use Rattle.qp_shared_lane.proofs.LawLemmas.{table_records_keep_the_lane}
use Rattle.qp_shared_blocks.specs.Ends.{AnotherTold}
use Rattle.qp_shared_blocks.proofs.Lanes.{fresh-place, fresh}
use Rattle.qp_shared_blocks.proofs.Begun.{still-first, spot-same}
use Rattle.qp_shared_blocks.proofs.Parts.{still-same, placed-same, worn-same, held-parts}
use Rattle.qp_shared_blocks.proofs.Gives.{and-off}
use Rattle.qp_model.proofs.ListLemmas.{and-true}

-- What was read, with one event more.

event-more : (qs : List Content) (q : Content) (e : Entry) → list_any (λ (c : Content). is_entry e c.entry) qs ≡ true → event_read (qs ++ q ∷ []) e ≡ event_read qs e
event-more [] q e h = absurd (cc)
event-more (x ∷ qs) q e h = go (is_entry e x.entry) h (event-more qs q e)
  where
    go : (t : Bool) → (t || list_any (λ (c : Content). is_entry e c.entry) qs) ≡ true → (list_any (λ (c : Content). is_entry e c.entry) qs ≡ true → event_read (qs ++ q ∷ []) e ≡ event_read qs e)
        → cond {A = Event} t (event_of_content x.event) (event_read (qs ++ q ∷ []) e) ≡ cond {A = Event} t (event_of_content x.event) (event_read qs e)
    go true h r = refl
    go false h r = r h

has-more : (qs : List Content) (q : Content) (e : Entry) → IsTrue (has_content qs e) → IsTrue (has_content (qs ++ q ∷ []) e)
has-more qs q e h = go (eqb e.pool 0) h
  where
    go : (t : Bool) → (t || list_any (λ (c : Content). is_entry e c.entry) qs) ≡ true → (t || list_any (λ (c : Content). is_entry e c.entry) (qs ++ q ∷ [])) ≡ true
    go true h = refl
    go false h = list_any-append (λ (c : Content). is_entry e c.entry) qs (q ∷ []) ∙ or_left (list_any (λ (c : Content). is_entry e c.entry) qs) _ h

seen-more : (qs : List Content) (q : Content) (e : Entry) → IsTrue (has_content qs e) → event_seen (qs ++ q ∷ []) e ≡ event_seen qs e
unfolding event_seen
seen-more qs q e h = go (eqb e.pool 0) h
  where
    go : (t : Bool) → (t || list_any (λ (c : Content). is_entry e c.entry) qs) ≡ true → cond {A = Event} t (record { sig = e.block; pars = [] }) (event_read (qs ++ q ∷ []) e) ≡ cond {A = Event} t (record { sig = e.block; pars = [] }) (event_read qs e)
    go true h = refl
    go false h = event-more qs q e h

pub grown-more : (v u : View) (q : Content) → u.contents ≡ v.contents ++ q ∷ [] → KeepsContents v u
grown-more v u q is e has = (subst (λ (qs : List Content). IsTrue (has_content qs e)) (sym is) (has-more v.contents q e has), ap (λ (qs : List Content). event_seen qs e) is ∙ seen-more v.contents q e has)

-- the new reference is known
has-last : (qs : List Content) (q : Content) (e : Entry) → is_entry e q.entry ≡ true → IsTrue (has_content (qs ++ q ∷ []) e)
has-last qs q e h = or_right (eqb e.pool 0) _ (list_any-append (λ (c : Content). is_entry e c.entry) qs (q ∷ []) ∙ or_right (list_any (λ (c : Content). is_entry e c.entry) qs) _ (or_left (is_entry e q.entry) false h))

entry-is : (d e : Entry) → is_entry e d ≡ true → d ≡ e
entry-is d e h = let t = and_parts (eqb d.pool e.pool && eqb d.block e.block) (eqb d.name e.name) h in let u = and_parts (eqb d.pool e.pool) (eqb d.block e.block) t.0 in
    let x = eqb-true d.pool e.pool u.0 in let y = eqb-true d.block e.block u.1 in let z = eqb-true d.name e.name t.1 in (λ i. record { pool = x i; block = y i; name = z i })

entry-self : (e : Entry) → is_entry e e ≡ true
entry-self e = and_from (eqb e.pool e.pool && eqb e.block e.block) (eqb e.name e.name) (and_from (eqb e.pool e.pool) (eqb e.block e.block) (eq-eqb e.pool e.pool refl) (eq-eqb e.block e.block refl)) (eq-eqb e.name e.name refl)

pub read-more : (v u : View) (p b k : ℕ) (event : List ℕ) → u.contents ≡ v.contents ++ record { entry = ref p b k; event = event } ∷ [] → u.hands ≡ v.hands ++ ref p b k ∷ [] → HasPlace p b → k < 281474976710656 → IsRead v → IsRead u
read-more v u p b k event contents hands place small read e h = bool-dec (is_entry e (ref p b k))
    (λ is. subst (λ (d : Entry). IsTrue (is_read u.contents d) × (0 < d.pool) × (d.name < 281474976710656)) (entry-is (ref p b k) e is) (newest, place.0, small))
    (λ other. let z = read e (let i = ap (many (is_entry e)) hands in let s = many-snoc (is_entry e) v.hands (ref p b k) in let o = ap (λ (t : Bool). cond {A = ℕ} t 1 0) other in omega arith) in
    let y = and_parts (has_content v.contents e) (nat_lt e.pool 16 && nat_lt e.block 32) z.0 in
    (and_from (has_content u.contents e) (nat_lt e.pool 16 && nat_lt e.block 32) (subst (λ (qs : List Content). IsTrue (has_content qs e)) (sym contents) (has-more v.contents (record { entry = ref p b k; event = event }) e y.0)) y.1, z.1, z.2))
  where
    bool-dec : (b : Bool) {P : Type 0} → (b ≡ true → P) → (b ≡ false → P) → P
    bool-dec true t f = t refl
    bool-dec false t f = f refl

    lt-of : (x y : ℕ) → x < y → nat_lt x y ≡ true
    lt-of x y h = grind (arith, nat_tests)

    newest : IsTrue (is_read u.contents (ref p b k))
    newest = and_from (has_content u.contents (ref p b k)) (nat_lt p 16 && nat_lt b 32) (subst (λ (qs : List Content). IsTrue (has_content qs (ref p b k))) (sym contents) (has-last v.contents (record { entry = ref p b k; event = event }) (ref p b k) (entry-self (ref p b k))))
        (and_from (nat_lt p 16) (nat_lt b 32) (lt-of p 16 place.1) (lt-of b 32 place.2))

pub known-more : (v u : View) (p b k : ℕ) (event : List ℕ) → u.contents ≡ v.contents ++ record { entry = ref p b k; event = event } ∷ [] → (e : Entry) → IsTrue (handles (token_of e) (Inc p b k)) → IsTrue (has_content u.contents e)
known-more v u p b k event contents e h = subst (λ (d : Entry). IsTrue (has_content u.contents d)) (sym (held-parts e p b k (same-equal (token_of e) (Held p b k) h)))
    (subst (λ (qs : List Content). IsTrue (has_content qs (ref p b k))) (sym contents) (has-last v.contents (record { entry = ref p b k; event = event }) (ref p b k) (entry-self (ref p b k))))

-- Hands.

loose-false : (q c p b : ℕ) → same_token (Loose q c false) (Loose p b false) ≡ (eqb p q && eqb b c)
loose-false q c p b = and-true ((q == p) && (c == b)) ∙ (λ i. sym (eq-turned p q) i && sym (eq-turned b c) i)

-- the first reference: the block is no longer loose
pub began-hands : (hands : List Token) (v u : View) (p b k : ℕ) → ((t : Token) → tokens t hands ≡ tokens_of_view v t) → IsTrue (stands (Loose p b false) hands) → 0 < many (is_spot p b) v.fresh
    → u.hands ≡ v.hands ++ ref p b k ∷ [] → u.fresh ≡ without (is_spot p b) v.fresh → u.used ≡ v.used → (t : Token) → tokens t (Held p b k ∷ take_out (Loose p b false) hands) ≡ tokens_of_view u t
began-hands hands v u p b k all here mine refs fresh used t = go t (tokens-out t (Loose p b false) hands here) (all t)
  where
    go : (t : Token) → tokens t (take_out (Loose p b false) hands) + cond (same_token t (Loose p b false)) 1 0 ≡ tokens t hands → tokens t hands ≡ tokens_of_view v t → tokens t (Held p b k ∷ take_out (Loose p b false) hands) ≡ tokens_of_view u t
    go (Held q c s) out was = let r = refs-in q c s p b k v.hands in let i = ap (many (is_ref q c s)) refs in omega arith
    go (Loose q c false) out was =
        let m = many-without (is_spot p b) (is_spot q c) (eqb p q && eqb b c) (λ x e. spot-same q c p b x e) v.fresh mine in
        let i = ap (many (is_spot q c)) fresh in let z = ap (λ (t : Bool). cond {A = ℕ} t 1 0) (loose-false q c p b) in omega arith
    go (Loose q c true) out was = let i = ap (many (is_spot q c)) used in let z = ap (λ (t : Bool). cond {A = ℕ} t 1 0) (and-off ((q == p) && (c == b))) in omega arith

-- another one: nothing of the block is loose
take-none : (x : Token) (hands : List Token) → tokens x hands ≡ 0 → take_out x hands ≡ hands
unfolding take_out
take-none x [] h = refl
take-none x (y ∷ ys) h = go (same_token x y) h (take-none x ys)
  where
    go : (t : Bool) → cond {A = ℕ} t 1 0 + tokens x ys ≡ 0 → (tokens x ys ≡ 0 → take_out x ys ≡ ys) → (if t then ys else y ∷ take_out x ys) ≡ y ∷ ys
    go true h r = absurd (omega arith)
    go false h r = ap (λ zs. y ∷ zs) (r (omega arith))

pub nothing-loose : (hands : List Token) (v : View) (p b : ℕ) → ((t : Token) → tokens t hands ≡ tokens_of_view v t) → many (is_spot p b) v.fresh ≡ 0 → take_out (Loose p b false) hands ≡ hands
nothing-loose hands v p b all none = take-none (Loose p b false) hands (all (Loose p b false) ∙ none)

pub doubled-hands : (hands : List Token) (v u : View) (p b k : ℕ) → ((t : Token) → tokens t hands ≡ tokens_of_view v t) → u.hands ≡ v.hands ++ ref p b k ∷ [] → u.fresh ≡ v.fresh → u.used ≡ v.used → (t : Token) → tokens t (Held p b k ∷ hands) ≡ tokens_of_view u t
doubled-hands hands v u p b k all refs fresh used t = go t (all t)
  where
    go : (t : Token) → tokens t hands ≡ tokens_of_view v t → tokens t (Held p b k ∷ hands) ≡ tokens_of_view u t
    go (Held q c s) was = let r = refs-in q c s p b k v.hands in let i = ap (many (is_ref q c s)) refs in omega arith
    go (Loose q c false) was = let i = ap (many (is_spot q c)) fresh in omega arith
    go (Loose q c true) was = let i = ap (many (is_spot q c)) used in omega arith

-- What either tells of its word.
module _ (l : LaneState) (p b : ℕ) (u : View) (n : ℕ) (place : HasPlace p b) (saw : Saw l.sys.now (word.Block p b) l.seat.me.0 u (n + 4294967297)) (few : n % 4294967296 < 4294967295) where
  pub made-mark : mark_in (block_at p b) (n + 4294967297) ≡ suc (n / 4294967296)
  made-mark = let p1 = place.1 in let p2 = place.2 in let f = few in low-mark (block_at p b) (n + 4294967297) (omega arith) ∙ omega arith

  pub made-now : mark_seen l.sys.now u.seen (word.Block p b) ≡ suc (n / 4294967296)
  made-now = mark-here l.sys.now (word.Block p b) l.seat.me.0 u (n + 4294967297) saw ∙ made-mark

  pub made-rises : (y : Word) → mark_seen l.sys.now l.seat.me.0.seen y ≤ mark_seen l.sys.now u.seen y
  made-rises = mark-rises l.sys.now (word.Block p b) l.seat.me.0 u (n + 4294967297) saw

  pub made-shows : (count : ℕ) → suc (n % 4294967296) ≡ count → shown_seen l.sys.now u.seen (word.Block p b) ≡ References count
  made-shows count is = shown-here l.sys.now (word.Block p b) l.seat.me.0 u (n + 4294967297) saw ∙ ap References (let f = few in omega arith)

-- The first reference.
module _ (l : LaneState) (f : Fresh) (u : View) (n : ℕ) (g : Log) (more : List ℕ) (r : Rec) (small : n < 18446744073709551616) (stand : StandsFresh f (state_view l)) (unused : f.used ≡ false) (told : FirstTold l.sys.now l.by f.pool f.block l.seat.me.0 n u)
    (put : IsPut r 0 l.log l.numbers.list g more) (is : item_of r ≡ record { of = l.by; body = Inc f.pool f.block (n / 4294967296) }) where
  abbrev v : View
  v = l.seat.me.0

  abbrev w : Word
  w = word.Block f.pool f.block

  abbrev last : ToldItem
  last = for_object l.by (plain (Inc f.pool f.block (n / 4294967296)))

  place : HasPlace f.pool f.block
  place = fresh-place l f stand unused

  mine : 0 < many (is_spot f.pool f.block) v.fresh
  mine = fresh l f stand unused

  here : IsTrue (stands (Loose f.pool f.block false) (hands_after [] (told_by l.log l.numbers.list v)))
  unfolding lane_of
  here = subst (λ b. IsTrue (stands (Loose f.pool f.block b) (hands_after [] (told_by l.log l.numbers.list v)))) unused stand.1

  few : n % 4294967296 < 4294967295
  few = let z = told.3 in omega arith

  step : OnTable l.sys.now (hands_after [] (told_by l.log l.numbers.list v)) v u r 0 last w (suc (n / 4294967296))
  unfolding hands_by
  step = record {
    as_seen = rec_of 17 l.by (f.pool ∷ f.block ∷ (n / 4294967296) ∷ []);
    says = is ∙ sym (inc-says l.by f.pool f.block (n / 4294967296));
    logs = ap (λ (z : View). z.logs) told.1;
    told = ap (λ (i : Item). told_as (event_seen u.contents) i 0) is;
    on = refl;
    found = n + 4294967297;
    saw = told.2.saw;
    mark = made-mark l f.pool f.block u n place told.2.saw few;
    touches = record { marks = λ y. refl; only = λ y. refl };
    seen = (record { word = block_at f.pool f.block; value = n + 4294967297 } ∷ [], ap (λ (z : View). z.seen) told.1);
    lane_numbers = ap (λ (z : View). z.lane_numbers) told.1;
    serves = λ o. ap (λ (z : View). list_any (is_serve o) z.serves) told.1;
    grown = grown-more v u (record { entry = ref f.pool f.block (n / 4294967296); event = told.0 }) (ap (λ (z : View). z.contents) told.1);
    read = read-more v u f.pool f.block (n / 4294967296) told.0 (ap (λ (z : View). z.contents) told.1) (ap (λ (z : View). z.hands) told.1) place (omega arith) l.holds.read;
    still = still-first f.pool f.block v u (ap (λ (z : View). z.fills) told.1) (ap (λ (z : View). z.claims) told.1) (ap (λ (z : View). z.takes) told.1) (ap (λ (z : View). z.gives) told.1) (ap (λ (z : View). z.fresh) told.1) mine l.holds.still;
    placed = λ q c h. l.holds.placed q c (let i = ap (λ (z : View). many (is_spot q c) z.fresh) told.1 in let j = ap (λ (z : View). many (is_spot q c) z.used) told.1 in let k = without-le (is_spot f.pool f.block) (is_spot q c) v.fresh in omega arith);
    worn = worn-same l.sys.now v u (made-rises l f.pool f.block u n place told.2.saw few) (ap (λ (z : View). z.used) told.1) l.holds.worn;
    hands_are = began-hands (hands_after [] (told_by l.log l.numbers.list v)) v u f.pool f.block (n / 4294967296) l.holds.hands here mine (ap (λ (z : View). z.hands) told.1) (ap (λ (z : View). z.fresh) told.1) (ap (λ (z : View). z.used) told.1);
    handled = known-more v u f.pool f.block (n / 4294967296) told.0 (ap (λ (z : View). z.contents) told.1);
    borne = refl;
  }

  first-kept : LaneGainsRecord (world_of_lane l) l.sys.now l.by l.count l.ceiling l.log l.numbers.list v l.side.seat.me.0 g more u l.side.seat.me.0 l.ceiling last
  first-kept = table_records_keep_the_lane (world_of_lane l) l.sys.now l.by l.count l.ceiling l.log l.numbers.list v l.side.seat.me.0 g more u r 0 last w (suc (n / 4294967296)) l.holds put step

  pub first-kept-holds : LaneHolds l.sys.now l.count l.ceiling g more u l.side.seat.me.0
  first-kept-holds = first-kept.holds

  pub first-makes : g.spare + 1 ≡ l.log.spare → Makes f.pool f.block 1 (state_view l) (lane_with (world_of_lane l) l.sys.now l.by g more u l.side.seat.me.0) (record { pool = f.pool; block = f.block; name = n / 4294967296 })
  unfolding lane_of
  first-makes spare = record {
    adds = record { grows = first-kept.gains; spare = spare };
    its_pool = refl;
    its_block = refl;
    draws = record {
      up = let a = told.2.found.le in let x = mark-was l.sys.now w v u (n + 4294967297) told.2.saw in let y = made-now l f.pool f.block u n place told.2.saw few in
          let p = place.1 in let b = place.2 in let z = low-mark (block_at f.pool f.block) n (omega arith) in omega arith;
      says = made-shows l f.pool f.block u n place told.2.saw few 1 (let z = told.3 in omega arith);
    };
  }

-- the same, by what was read of the block
module _ (l : LaneState) (f : Fresh) (p b : ℕ) (same : record { pool = p; block = b; used = f.used } ≡ f) (stand : StandsFresh f (state_view l)) (unused : f.used ≡ false) (u : View) (n : ℕ) (g : Log) (more : List ℕ) (r : Rec) (small : n < 18446744073709551616)
    (told : FirstTold l.words.now.shared.key l.by p b l.seat.me.0 n u) (put : IsPut r 0 l.log l.numbers.list g more) (is : item_of r ≡ record { of = l.by; body = Inc p b (n / 4294967296) }) where
  first-told : FirstTold l.sys.now l.by f.pool f.block l.seat.me.0 n u
  first-told = subst (λ (x : Fresh). FirstTold l.sys.now l.by x.pool x.block l.seat.me.0 n u) same (subst (λ s. FirstTold s l.by p b l.seat.me.0 n u) l.key told)

  first-is : item_of r ≡ record { of = l.by; body = Inc f.pool f.block (n / 4294967296) }
  first-is = is ∙ ap (λ (x : Fresh). record { of = l.by; body = Inc x.pool x.block (n / 4294967296) }) same

  pub first-holds : LaneHolds l.sys.now l.count l.ceiling g more u l.side.seat.me.0
  first-holds = first-kept-holds l f u n g more r small stand unused first-told put first-is

  pub first-clause : (made : Hold) → made ≡ record { pool = p; block = b; name = n / 4294967296 } → g.spare + 1 ≡ l.log.spare → Makes f.pool f.block 1 (state_view l) (lane_with (world_of_lane l) l.sys.now l.by g more u l.side.seat.me.0) made
  first-clause made is spare = subst (Makes f.pool f.block 1 (state_view l) (lane_with (world_of_lane l) l.sys.now l.by g more u l.side.seat.me.0)) (sym (is ∙ ap (λ (x : Fresh). record { pool = x.pool; block = x.block; name = n / 4294967296 }) same))
      (first-makes l f u n g more r small stand unused first-told put first-is spare)

-- Another reference.
module _ (l : LaneState) (h : Hold) (u : View) (n : ℕ) (g : Log) (more : List ℕ) (r : Rec) (small : n < 18446744073709551616) (told : AnotherTold l.sys.now l.by h.pool h.block l.seat.me.0 n u)
    (put : IsPut r 0 l.log l.numbers.list g more) (is : item_of r ≡ record { of = l.by; body = Inc h.pool h.block (n / 4294967296) }) where
  abbrev before : View
  before = l.seat.me.0

  abbrev block : Word
  block = word.Block h.pool h.block

  abbrev newest : ToldItem
  newest = for_object l.by (plain (Inc h.pool h.block (n / 4294967296)))

  there : HasPlace h.pool h.block
  there = told.0.7

  less : n % 4294967296 < 4294967295
  less = told.1

  loose : take_out (Loose h.pool h.block false) (hands_after [] (told_by l.log l.numbers.list before)) ≡ hands_after [] (told_by l.log l.numbers.list before)
  loose = nothing-loose (hands_after [] (told_by l.log l.numbers.list before)) before h.pool h.block l.holds.hands told.0.4

  again : OnTable l.sys.now (hands_after [] (told_by l.log l.numbers.list before)) before u r 0 newest block (suc (n / 4294967296))
  unfolding hands_by
  again = record {
    as_seen = rec_of 17 l.by (h.pool ∷ h.block ∷ (n / 4294967296) ∷ []);
    says = is ∙ sym (inc-says l.by h.pool h.block (n / 4294967296));
    logs = ap (λ (z : View). z.logs) told.0.1;
    told = ap (λ (i : Item). told_as (event_seen u.contents) i 0) is;
    on = refl;
    found = n + 4294967297;
    saw = told.0.2.saw;
    mark = made-mark l h.pool h.block u n there told.0.2.saw less;
    touches = record { marks = λ y. refl; only = λ y. refl };
    seen = (record { word = block_at h.pool h.block; value = n + 4294967297 } ∷ [], ap (λ (z : View). z.seen) told.0.1);
    lane_numbers = ap (λ (z : View). z.lane_numbers) told.0.1;
    serves = λ o. ap (λ (z : View). list_any (is_serve o) z.serves) told.0.1;
    grown = grown-more before u (record { entry = ref h.pool h.block (n / 4294967296); event = told.0.0 }) (ap (λ (z : View). z.contents) told.0.1);
    read = read-more before u h.pool h.block (n / 4294967296) told.0.0 (ap (λ (z : View). z.contents) told.0.1) (ap (λ (z : View). z.hands) told.0.1) there (omega arith) l.holds.read;
    still = still-same before u (ap (λ (z : View). z.fills) told.0.1) (ap (λ (z : View). z.claims) told.0.1) (ap (λ (z : View). z.takes) told.0.1) (ap (λ (z : View). z.gives) told.0.1) (ap (λ (z : View). z.fresh) told.0.1) l.holds.still;
    placed = placed-same before u (ap (λ (z : View). z.fresh) told.0.1) (ap (λ (z : View). z.used) told.0.1) l.holds.placed;
    worn = worn-same l.sys.now before u (made-rises l h.pool h.block u n there told.0.2.saw less) (ap (λ (z : View). z.used) told.0.1) l.holds.worn;
    hands_are = λ t. ap (λ hs. tokens t (Held h.pool h.block (n / 4294967296) ∷ hs)) loose
        ∙ doubled-hands (hands_after [] (told_by l.log l.numbers.list before)) before u h.pool h.block (n / 4294967296) l.holds.hands (ap (λ (z : View). z.hands) told.0.1) (ap (λ (z : View). z.fresh) told.0.1) (ap (λ (z : View). z.used) told.0.1) t;
    handled = known-more before u h.pool h.block (n / 4294967296) told.0.0 (ap (λ (z : View). z.contents) told.0.1);
    borne = refl;
  }

  inc-kept : LaneGainsRecord (world_of_lane l) l.sys.now l.by l.count l.ceiling l.log l.numbers.list before l.side.seat.me.0 g more u l.side.seat.me.0 l.ceiling newest
  inc-kept = table_records_keep_the_lane (world_of_lane l) l.sys.now l.by l.count l.ceiling l.log l.numbers.list before l.side.seat.me.0 g more u r 0 newest block (suc (n / 4294967296)) l.holds put again

  pub inc-kept-holds : LaneHolds l.sys.now l.count l.ceiling g more u l.side.seat.me.0
  inc-kept-holds = inc-kept.holds

  pub inc-makes : g.spare + 1 ≡ l.log.spare → MakesMore h (state_view l) (lane_with (world_of_lane l) l.sys.now l.by g more u l.side.seat.me.0) (record { pool = h.pool; block = h.block; name = n / 4294967296 })
  unfolding lane_of hands_after hands_by
  inc-makes spare = record {
    others = n % 4294967296;
    makes = record {
      adds = record { grows = inc-kept.gains; spare = spare };
      its_pool = refl;
      its_block = refl;
      draws = record {
        up = let a = told.0.2.found.le in let x = mark-was l.sys.now block before u (n + 4294967297) told.0.2.saw in let y = made-now l h.pool h.block u n there told.0.2.saw less in
            let p = there.1 in let b = there.2 in let z = low-mark (block_at h.pool h.block) n (omega arith) in omega arith;
        says = made-shows l h.pool h.block u n there told.0.2.saw less (suc (n % 4294967296)) refl;
      };
    };
    hands = inc-kept.gains.hands ∙ ap (λ hs. Held h.pool h.block (n / 4294967296) ∷ hs) loose;
  }

module _ (l : LaneState) (h : Hold) (p b k : ℕ) (same : record { pool = p; block = b; name = k } ≡ h) (u : View) (n : ℕ) (g : Log) (more : List ℕ) (r : Rec) (small : n < 18446744073709551616)
    (told : AnotherTold l.words.now.shared.key l.by p b l.seat.me.0 n u) (put : IsPut r 0 l.log l.numbers.list g more) (is : item_of r ≡ record { of = l.by; body = Inc p b (n / 4294967296) }) where
  inc-told : AnotherTold l.sys.now l.by h.pool h.block l.seat.me.0 n u
  inc-told = subst (λ (x : Hold). AnotherTold l.sys.now l.by x.pool x.block l.seat.me.0 n u) same (subst (λ s. AnotherTold s l.by p b l.seat.me.0 n u) l.key told)

  inc-is : item_of r ≡ record { of = l.by; body = Inc h.pool h.block (n / 4294967296) }
  inc-is = is ∙ ap (λ (x : Hold). record { of = l.by; body = Inc x.pool x.block (n / 4294967296) }) same

  pub inc-holds : LaneHolds l.sys.now l.count l.ceiling g more u l.side.seat.me.0
  inc-holds = inc-kept-holds l h u n g more r small inc-told put inc-is

  pub inc-clause : (made : Hold) → made ≡ record { pool = p; block = b; name = n / 4294967296 } → g.spare + 1 ≡ l.log.spare → MakesMore h (state_view l) (lane_with (world_of_lane l) l.sys.now l.by g more u l.side.seat.me.0) made
  inc-clause made is spare = subst (MakesMore h (state_view l) (lane_with (world_of_lane l) l.sys.now l.by g more u l.side.seat.me.0)) (sym (is ∙ ap (λ (x : Hold). record { pool = x.pool; block = x.block; name = n / 4294967296 }) same))
      (inc-makes l h u n g more r small inc-told put inc-is spare)
