-- A block is given out, or too few are free.
use Rattle.std.proofs.Common.{◌≡◌, ℕ, suc, ◌+◌, ◌-◌, ◌*◌, ◌/◌, ◌%◌, ◌<◌, ◌≤◌, ◌==◌, ◌&&◌, ◌||◌, List, [], ◌∷◌, ◌++◌, append_assoc, Bool, true, false, cond, length, nat_lt, nat_le, refl, sym, ap, subst, ◌∙◌, arith, eqb, eqb-true, eq-eqb, IsTrue, Option, Some, None, if◌then◌else◌}
use Rattle.std.specs.Prelude.{count_ones}
use Rattle.std.specs.Option.{unwrap_or}
use Rattle.std.specs.List.{list_any}
use Rattle.std.proofs.lemmas.Bool.{and_from, and_parts, or_left, or_right}
use Rattle.std.proofs.lemmas.Bool.Decides.{nat_tests}
use Rattle.std.proofs.lemmas.List.Folds.{list_any-append}
use Rattle.qp_model.specs.declared.record.Rec.{Rec}
use Rattle.qp_model.specs.declared.systems.System.{System}
use Rattle.qp_model.specs.declared.words.Word.{Word}
use Rattle.qp_model.specs.declared.words.Word.TheVariants as word
use Rattle.qp_model.specs.declared.bodies.Body.TheVariants.{New, NoBlock}
use Rattle.qp_model.specs.Record.{Item, item_of}
use Rattle.qp_model.specs.Told.{ToldItem, Event, told_new, plain, for_object}
use Rattle.qp_model.specs.History.{mark_of, touch, touch_of, same_word}
use Rattle.qp_model.specs.WordLaw.{is_pool}
use Rattle.qp_table.specs.TwoTables.{on_side, on_table}
use Rattle.qp_table.specs.Counting.{many}
use Rattle.qp_table.specs.Rule.{pool_at, block_at, mark_in, is_ref, is_spot, is_entry, is_serve, IsContent}
use Rattle.qp_table.specs.After.{rec_of, spot}
use Rattle.qp_table.specs.declared.view.Glance.{Glance}
use Rattle.qp_table.specs.declared.view.View.{View}
use Rattle.qp_table.proofs.Counting.{many-snoc}
use Rattle.qp_table.proofs.Marks.{low-mark}
use Rattle.qp_table.proofs.Steps.{new-says}
use Rattle.qp_table.proofs.Looks.{short-says, no_block-says}
use Rattle.qp_calls.specs.Tokens.{Token, Held, Loose, same_token, token_of, hands_by, hands_after, handles}
use Rattle.qp_calls.specs.LaneView.{Shown, Gains, FreeBlocks, References, first_shown}
use Rattle.qp_calls.specs.Clauses.{FitsPool, GivesOut, GivesNone as NoneGiven, FewTries, shortage_of}
use Rattle.qp_calls.specs.declared.tokens.Fresh.{Fresh}
use Rattle.qp_calls_log.specs.declared.log.Log.{Log}
use Rattle.qp_table.specs.Words.{value_seen, mark_seen, shown_seen, as_shown}
use Rattle.qp_table.specs.Lane.{lane_of, lane_mark, tokens, tokens_of_view, event_seen, told_as, lane_number}
use Rattle.qp_table.specs.Telling.{Saw, Touches, TouchesTwo, Rises}
use Rattle.qp_table.proofs.Gaining.{mark-here, mark-was, mark-else, mark-rises, shown-here, shown-else, bool-dec}
use Rattle.qp_table.proofs.ViewLawLemmas.{seen_words_rise, gives_gain}
use Rattle.qp_table.proofs.Saying.{same-more, logged-one, logged-number}
use Rattle.qp_table.proofs.Hands.{eq-turned}
use Rattle.qp_table.specs.Asked.{size_of}
use Rattle.qp_table.specs.Told.{HasPlace, free_of, shortage_rec}
use Rattle.qp_shared_loops.specs.Ends.{LoopGives, LoopGivesNone, GiveEnds, was_seen_as, word_without}
use Rattle.qp_shared_loops.specs.declared.gives.Life.{Life}
use Rattle.qp_shared_lane.specs.declared.lane.LaneState.{LaneState}
use Rattle.qp_shared_lane.specs.Holds.{LaneHolds, told_by, was_seen, is_borne_out, IsPlaced}
use Rattle.qp_side.specs.Seat.{side_mark}
use Rattle.qp_shared_lane.specs.Lane.{world_of_lane, lane_with, state_view}
use Rattle.qp_shared_lane.specs.More.{IsPut, OnTable, ViewFollows, SideFollows, AddsRecord}
use Rattle.qp_shared_lane.specs.Laws.{LaneGainsRecord, RecordKept}
use Rattle.qp_shared_lane.proofs.LawLemmas.{records_keep_the_lane, table_records_keep_the_lane}
use Rattle.qp_shared_lane.proofs.Adding.{side-skips}
use Rattle.qp_shared_lane.proofs.Keeping.{keeps-all}
use Rattle.qp_shared_blocks.proofs.Begun.{still-given}
use Rattle.qp_shared_blocks.proofs.Parts.{grown-same, read-fewer, still-same, placed-same, worn-same}
use Rattle.qp_model.proofs.ListLemmas.{and-true}

-- What the event needs.

pub fits-pool : (l : LaneState) (p : ℕ) (ev : Event) → FitsPool (state_view l).sys p ev → IsTrue (is_pool l.sys.now p)
unfolding lane_of
fits-pool l p ev fits = let a = fits.some in let b = fits.there in let x : nat_lt 0 p ≡ true = grind (arith, nat_tests) in let y : nat_le p (length l.sys.now.pools) ≡ true = grind (arith, nat_tests) in and_from (nat_lt 0 p) (nat_le p (length l.sys.now.pools)) x y

pub fits-small : (l : LaneState) (p : ℕ) (ev : Event) → FitsPool (state_view l).sys p ev → p < 16
fits-small l p ev fits = (l.holds.fitting.small p (fits-pool l p ev fits)).0

pub fits-size : (l : LaneState) (p : ℕ) (ev : Event) → FitsPool (state_view l).sys p ev → length ev.pars ≤ size_of l.sys.now p
unfolding lane_of
fits-size l p ev fits = fits.size

pub fits-content : (l : LaneState) (p : ℕ) (ev : Event) → FitsPool (state_view l).sys p ev → IsContent l.sys.now ev.sig ev.pars
unfolding lane_of
fits-content l p ev fits = record { from = fits.event.from; within = fits.event.within; params = fits.event.params }

-- The pool's word before, by what the lane had seen of it.

module _ (l : LaneState) (p : ℕ) (u : View) (x : ℕ) (small : p < 16) (saw : Saw l.sys.now (word.Pool p) l.seat.me.0 u x) where
  pub pool-was : mark_seen l.sys.now l.seat.me.0.seen (word.Pool p) ≡ mark_in (pool_at p) (value_seen l.sys.now (word.Pool p) l.seat.me.0.seen)
  pool-was = mark-was l.sys.now (word.Pool p) l.seat.me.0 u x saw

  pub pool-now : mark_seen l.sys.now u.seen (word.Pool p) ≡ x / 4294967296
  pool-now = mark-here l.sys.now (word.Pool p) l.seat.me.0 u x saw ∙ low-mark (pool_at p) x (omega arith)

-- Too few free blocks.

module _ (l : LaneState) (p : ℕ) (reserve : Option ℕ) (u : View) (x : ℕ) (g : Log) (more : List ℕ) (r : Rec) (small : p < 16) (told : LoopGivesNone l.sys.now p l.by reserve l.seat.me.0 x u)
    (put : IsPut r 0 l.log l.numbers.list g more) (is : item_of r ≡ record { of = l.by; body = shortage_of reserve p (x / 4294967296) (free_of x) }) where
  abbrev v : View
  v = l.seat.me.0

  abbrev n : ℕ
  n = x / 4294967296

  abbrev last : ToldItem
  last = for_object l.by (plain (shortage_of reserve p n (free_of x)))

  record-says : (reserve : Option ℕ) → free_of x ≤ unwrap_or reserve 0 → item_of (shortage_rec reserve l.by p x) ≡ record { of = l.by; body = shortage_of reserve p n (free_of x) }
  record-says (Some k) few = short-says l.by p n (free_of x) k
  record-says None few = no_block-says l.by p n ∙ ap (λ k. record { of = l.by; body = NoBlock p n k }) (let f = few in omega arith)

  told-is : (reserve : Option ℕ) → told_as (event_seen u.contents) (record { of = l.by; body = shortage_of reserve p n (free_of x) }) 0 ≡ for_object l.by (plain (shortage_of reserve p n (free_of x)))
  told-is (Some k) = refl
  told-is None = refl

  on-is : (reserve : Option ℕ) → on_table (touch_of l.by (shortage_of reserve p n (free_of x))) ≡ true
  on-is (Some k) = refl
  on-is None = refl

  touches-is : (reserve : Option ℕ) → Touches (word.Pool p) n (for_object l.by (plain (shortage_of reserve p n (free_of x))))
  touches-is (Some k) = record { marks = λ y. refl; only = λ y. refl }
  touches-is None = record { marks = λ y. refl; only = λ y. refl }

  hands-is : (reserve : Option ℕ) (hands : List Token) → hands_by hands (plain (shortage_of reserve p n (free_of x))) ≡ hands
  unfolding hands_by
  hands-is (Some k) hands = refl
  hands-is None hands = refl

  handles-is : (reserve : Option ℕ) (t : Token) → handles t (shortage_of reserve p n (free_of x)) ≡ false
  handles-is (Some k) t = refl
  handles-is None t = refl

  borne-is : (reserve : Option ℕ) → is_borne_out l.sys.now u.seen (shortage_of reserve p n (free_of x)) (plain (shortage_of reserve p n (free_of x))).known ≡ true
  borne-is (Some k) = refl
  borne-is None = refl

  step : OnTable l.sys.now (hands_after [] (told_by l.log l.numbers.list v)) v u r 0 last (word.Pool p) n
  step = record {
    as_seen = shortage_rec reserve l.by p x;
    says = is ∙ sym (record-says reserve told.few);
    logs = ap (λ (z : View). z.logs) told.is;
    told = ap (λ (i : Item). told_as (event_seen u.contents) i 0) is ∙ told-is reserve;
    on = on-is reserve;
    found = x;
    saw = told.told.saw;
    mark = low-mark (pool_at p) x (omega arith);
    touches = touches-is reserve;
    seen = (told.more.0 ++ record { word = pool_at p; value = x } ∷ [], ap (λ (z : View). z.seen) told.is ∙ (ap (λ gs. gs ++ record { word = pool_at p; value = x } ∷ []) told.more.1 ∙ append_assoc v.seen told.more.0 (record { word = pool_at p; value = x } ∷ [])));
    lane_numbers = ap (λ (z : View). z.lane_numbers) told.is;
    serves = λ o. ap (λ (z : View). list_any (is_serve o) z.serves) told.is;
    grown = grown-same v u (ap (λ (z : View). z.contents) told.is);
    read = read-fewer v u (ap (λ (z : View). z.contents) told.is) (λ e. let i = ap (λ (z : View). many (is_entry e) z.hands) told.is in omega arith) l.holds.read;
    still = still-same v u (ap (λ (z : View). z.fills) told.is) (ap (λ (z : View). z.claims) told.is) (ap (λ (z : View). z.takes) told.is) (ap (λ (z : View). z.gives) told.is) (ap (λ (z : View). z.fresh) told.is) l.holds.still;
    placed = placed-same v u (ap (λ (z : View). z.fresh) told.is) (ap (λ (z : View). z.used) told.is) l.holds.placed;
    worn = worn-same l.sys.now v u (mark-rises l.sys.now (word.Pool p) v u x told.told.saw) (ap (λ (z : View). z.used) told.is) l.holds.worn;
    hands_are = λ t. ap (tokens t) (hands-is reserve (hands_after [] (told_by l.log l.numbers.list v))) ∙ (l.holds.hands t ∙ same-tokens t);
    handled = λ e h. let off = handles-is reserve (token_of e) in absurd (cc);
    borne = borne-is reserve;
  }
    where
      same-tokens : (t : Token) → tokens_of_view v t ≡ tokens_of_view u t
      same-tokens (Held q c s) = ap (λ (z : View). many (is_ref q c s) z.hands) (sym told.is)
      same-tokens (Loose q c false) = ap (λ (z : View). many (is_spot q c) z.fresh) (sym told.is)
      same-tokens (Loose q c true) = ap (λ (z : View). many (is_spot q c) z.used) (sym told.is)

  short-kept : LaneGainsRecord (world_of_lane l) l.sys.now l.by l.count l.ceiling l.log l.numbers.list v l.side.seat.me.0 g more u l.side.seat.me.0 l.ceiling last
  short-kept = table_records_keep_the_lane (world_of_lane l) l.sys.now l.by l.count l.ceiling l.log l.numbers.list v l.side.seat.me.0 g more u r 0 last (word.Pool p) n l.holds put step

  pub short-kept-holds : LaneHolds l.sys.now l.count l.ceiling g more u l.side.seat.me.0
  short-kept-holds = short-kept.holds

  pub short-gives : g.spare + 1 ≡ l.log.spare → NoneGiven p reserve n (free_of x) (state_view l) (lane_with (world_of_lane l) l.sys.now l.by g more u l.side.seat.me.0)
  unfolding lane_of
  short-gives spare = record {
    adds = record { grows = short-kept.gains; spare = spare };
    few = told.few;
    says = shown-here l.sys.now (word.Pool p) v u x told.told.saw;
  }

  pub short-tries : (before after : ℕ) → before ≤ after → after + mark_in (pool_at p) (value_seen l.sys.now (word.Pool p) v.seen) ≤ before + 1 + mark_in (pool_at p) x → FewTries (word.Pool p) 0 before after (state_view l) (lane_with (world_of_lane l) l.sys.now l.by g more u l.side.seat.me.0)
  unfolding lane_of
  short-tries before after up few = record { up = up; few = let a = pool-was l p u x small told.told.saw in let b = pool-now l p u x small told.told.saw in let c = low-mark (pool_at p) x (omega arith) in omega arith }

-- A block.

any-as : (seen : List Glance) (w x : ℕ) (test : ℕ → Bool) → test x ≡ true → was_seen_as seen w x ≡ true → was_seen seen w test ≡ true
any-as [] w x test t h = absurd (cc)
any-as (g ∷ gs) w x test t h = go (eqb g.word w) (eqb g.value x) refl h (any-as gs w x test t)
  where
    go : (a b : Bool) → eqb g.value x ≡ b → ((a && b) || was_seen_as gs w x) ≡ true → (was_seen_as gs w x ≡ true → was_seen gs w test ≡ true) → ((a && test g.value) || was_seen gs w test) ≡ true
    go true true e h r = or_left (test g.value) (was_seen gs w test) (ap test (eqb-true g.value x e) ∙ t)
    go true false e h r = or_right (test g.value) (was_seen gs w test) (r h)
    go false true e h r = r h
    go false false e h r = r h

seen-append : (xs ys : List Glance) (w : ℕ) (test : ℕ → Bool) → was_seen xs w test ≡ true → was_seen (xs ++ ys) w test ≡ true
seen-append xs ys w test h = list_any-append (λ (g : Glance). eqb g.word w && test g.value) xs ys ∙ or_left (was_seen xs w test) (was_seen ys w test) h

pub and-off : (x : Bool) → (x && false) ≡ false
and-off true = refl
and-off false = refl

loose-false : (q c p b : ℕ) → same_token (Loose q c false) (Loose p b false) ≡ (eqb p q && eqb b c)
loose-false q c p b = and-true ((q == p) && (c == b)) ∙ (λ i. sym (eq-turned p q) i && sym (eq-turned b c) i)

new-hands : (hands : List Token) (v u : View) (p b from : ℕ) → ((t : Token) → tokens t hands ≡ tokens_of_view v t) → u.hands ≡ v.hands → u.fresh ≡ v.fresh ++ spot p b from ∷ [] → u.used ≡ v.used → (t : Token) → tokens t (Loose p b false ∷ hands) ≡ tokens_of_view u t
new-hands hands v u p b from all refs fresh used t = go t (all t)
  where
    go : (t : Token) → tokens t hands ≡ tokens_of_view v t → tokens t (Loose p b false ∷ hands) ≡ tokens_of_view u t
    go (Held q c s) was = let i = ap (many (is_ref q c s)) refs in omega arith
    go (Loose q c false) was = let i = ap (many (is_spot q c)) fresh in let s = many-snoc (is_spot q c) v.fresh (spot p b from) in let z = ap (λ (t : Bool). cond {A = ℕ} t 1 0) (loose-false q c p b) in omega arith
    go (Loose q c true) was = let i = ap (many (is_spot q c)) used in let z = ap (λ (t : Bool). cond {A = ℕ} t 1 0) (and-off ((q == p) && (c == b))) in omega arith

new-placed : (v u : View) (p b from : ℕ) → u.fresh ≡ v.fresh ++ spot p b from ∷ [] → u.used ≡ v.used → HasPlace p b → IsPlaced v → IsPlaced u
new-placed v u p b from fresh used place placed q c h = bool-dec (is_spot q c (spot p b from))
    (λ e. let z = and_parts (eqb p q) (eqb b c) e in subst (λ x. HasPlace x c) (eqb-true p q z.0) (subst (λ x. HasPlace p x) (eqb-true b c z.1) place))
    (λ e. placed q c (let i = ap (many (is_spot q c)) fresh in let j = ap (many (is_spot q c)) used in let s = many-snoc (is_spot q c) v.fresh (spot p b from) in let z = ap (λ (t : Bool). cond {A = ℕ} t 1 0) e in omega arith))

module _ (l : LaneState) (p : ℕ) (reserve : Option ℕ) (ev : Event) (b from : ℕ) (u : View) (x : ℕ) (g : Log) (more : List ℕ) (r : Rec) (small : p < 16) (told : LoopGives l.sys.now p l.by reserve ev.sig ev.pars l.seat.me.0 x b from u)
    (put : IsPut r (free_of x) l.log l.numbers.list g more) (is : item_of r ≡ record { of = l.by; body = New p (x / 4294967296) b from ev.sig ev.pars }) where
  abbrev was : View
  was = l.seat.me.0

  abbrev number : ℕ
  number = x / 4294967296

  abbrev newest : ToldItem
  newest = for_object l.by (told_new p number b from ev.sig ev.pars (free_of x))

  abbrev pool : Word
  pool = word.Pool p

  abbrev block : Word
  block = word.Block p b

  apart : same_word pool block ≡ false
  apart = refl

  turned : same_word block pool ≡ false
  turned = refl

  pool-mark : mark_in (pool_at p) (word_without x b) ≡ suc number
  pool-mark = low-mark (pool_at p) (word_without x b) (omega arith) ∙ (let c = told.counted in omega arith)

  block-mark : mark_in (block_at p b) (from * 4294967296) ≡ from
  block-mark = let q = told.place.1 in let c = told.place.2 in low-mark (block_at p b) (from * 4294967296) (omega arith) ∙ omega arith

  mid-mark : mark_seen l.sys.now told.mid.seen pool ≡ suc number
  mid-mark = mark-here l.sys.now pool was told.mid (word_without x b) told.told.saw ∙ pool-mark

  end-mark : mark_seen l.sys.now u.seen pool ≡ suc number
  end-mark = mark-else l.sys.now block told.mid u (from * 4294967296) told.shown.saw pool turned ∙ mid-mark

  rises : (y : Word) → mark_seen l.sys.now was.seen y ≤ mark_seen l.sys.now u.seen y
  rises y = let a = mark-rises l.sys.now pool was told.mid (word_without x b) told.told.saw y in let c = mark-rises l.sys.now block told.mid u (from * 4294967296) told.shown.saw y in omega arith

  abbrev two : List Glance
  two = record { word = pool_at p; value = word_without x b } ∷ record { word = block_at p b; value = from * 4294967296 } ∷ []

  seen-is : u.seen ≡ told.glances ++ two
  seen-is = ap (λ (z : View). z.seen) told.is ∙ append_assoc told.glances (record { word = pool_at p; value = word_without x b } ∷ []) (record { word = block_at p b; value = from * 4294967296 } ∷ [])

  follows : ViewFollows l.sys.now was u
  follows = record {
    logs = ap (λ (z : View). length z.logs) told.is ∙ logged-one (rec_of 15 l.by (p ∷ number ∷ b ∷ from ∷ ev.sig ∷ ev.pars)) was.logs;
    number = logged-number (rec_of 15 l.by (p ∷ number ∷ b ∷ from ∷ ev.sig ∷ ev.pars)) was u (ap (λ (z : View). z.logs) told.is);
    lane_numbers = ap (λ (z : View). z.lane_numbers) told.is;
    serves = λ o. ap (λ (z : View). list_any (is_serve o) z.serves) told.is;
    grown = grown-same was u (ap (λ (z : View). z.contents) told.is);
    read = read-fewer was u (ap (λ (z : View). z.contents) told.is) (λ e. let i = ap (λ (z : View). many (is_entry e) z.hands) told.is in omega arith) l.holds.read;
    still = still-given p b (ev.sig ∷ ev.pars) from was u (ap (λ (z : View). z.fills) told.is) (ap (λ (z : View). z.claims) told.is) (ap (λ (z : View). z.takes) told.is) (ap (λ (z : View). z.gives) told.is) (ap (λ (z : View). z.fresh) told.is) l.holds.still;
    placed = new-placed was u p b from (ap (λ (z : View). z.fresh) told.is) (ap (λ (z : View). z.used) told.is) told.place l.holds.placed;
    worn = worn-same l.sys.now was u rises (ap (λ (z : View). z.used) told.is) l.holds.worn;
    rise = rises;
    seen = (told.more.0 ++ two, seen-is ∙ (ap (λ gs. gs ++ two) told.more.1 ∙ append_assoc was.seen told.more.0 two));
  }

  side-still : SideFollows l.sys.now l.side.seat.me.0 l.side.seat.me.0
  side-still = record { logs = refl; number = refl; lane_numbers = refl; serves = refl; rise = λ k there. omega arith; stops = refl; answered = refl }

  touches : TouchesTwo pool (suc number) block from newest
  touches = record { marks = λ y. refl; shows = λ y. refl; apart = apart }

  marked : (y : Word) (k : ℕ) → mark_of y (touch_of l.by (New p number b from ev.sig ev.pars)) ≡ Some k → k ≤ mark_seen l.sys.now u.seen y
  marked (word.Pool q) k e = go (p == q) refl e
    where
      some-is : (i j : ℕ) → Some i ≡ Some j → i ≡ j
      some-is i j e = ap (λ (o : Option ℕ). unwrap_or o 0) e

      go : (t : Bool) → (p == q) ≡ t → (if t then Some (suc number) else None) ≡ Some k → k ≤ mark_seen l.sys.now u.seen (word.Pool q)
      go true is e = subst (λ z. k ≤ mark_seen l.sys.now u.seen (word.Pool z)) (eqb-true p q is) (let m = end-mark in let s = some-is (suc number) k e in omega arith)
      go false is e = absurd (cc)
  marked (word.Block q c) k e = absurd (cc)
  marked (word.Queue q) k e = absurd (cc)
  marked (word.Signal q) k e = absurd (cc)
  marked (word.Timer q) k e = absurd (cc)

  adds : AddsRecord l.sys.now (λ o. list_any (is_serve o) was.serves) l.log.recs.items (hands_after [] (told_by l.log l.numbers.list was)) l.ceiling u l.side.seat.me.0 r (free_of x) newest
  unfolding hands_by
  adds = record {
    told = ap (λ (i : Item). told_as (event_seen u.contents) i (free_of x)) is;
    same = same-more was l.log.recs.items r (rec_of 15 l.by (p ∷ number ∷ b ∷ from ∷ ev.sig ∷ ev.pars)) l.holds.lane l.holds.same (is ∙ sym (new-says l.by p number b from ev.sig ev.pars)) (ap (λ (i : Item). on_table (touch i)) (new-says l.by p number b from ev.sig ev.pars)) u (ap (λ (z : View). z.logs) told.is);
    same_side = side-skips l.log.recs.items r (ap (λ (i : Item). on_side (touch i)) is) ∙ l.holds.same_side;
    hands_are = new-hands (hands_after [] (told_by l.log l.numbers.list was)) was u p b from l.holds.hands (ap (λ (z : View). z.hands) told.is) (ap (λ (z : View). z.fresh) told.is) (ap (λ (z : View). z.used) told.is);
    handled = λ e h. let wrong : false ≡ true = h in absurd (cc);
    marked = λ y k on e. marked y k e;
    side_marked = λ j k there e. absurd (cc);
    borne = and_from _ _ told.told.saw.here (subst (λ gs. was_seen gs (pool_at p) (λ y. eqb (y / 4294967296) number && eqb (count_ones (y % 4294967296)) (free_of x)) ≡ true) (sym seen-is)
        (seen-append told.glances two (pool_at p) (λ y. eqb (y / 4294967296) number && eqb (count_ones (y % 4294967296)) (free_of x))
        (any-as told.glances (pool_at p) x (λ y. eqb (y / 4294967296) number && eqb (count_ones (y % 4294967296)) (free_of x)) (and_from _ _ (eq-eqb (x / 4294967296) (x / 4294967296) refl) (eq-eqb (count_ones (x % 4294967296)) (count_ones (x % 4294967296)) refl)) told.looked)));
    subscriber = tt;
    former = tt;
  }

  kept : RecordKept (world_of_lane l) l.sys.now l.by l.count l.ceiling l.log l.numbers.list was l.side.seat.me.0 g more u l.side.seat.me.0 newest pool (suc number)
  kept = records_keep_the_lane (world_of_lane l) l.sys.now l.by l.count l.ceiling l.log l.numbers.list was l.side.seat.me.0 g more u l.side.seat.me.0 r (free_of x) newest pool (suc number) l.holds put follows side-still adds

  pub given-holds : LaneHolds l.sys.now l.count l.ceiling g more u l.side.seat.me.0
  given-holds = kept.holds

  after-is : lane_of (record { world = world_of_lane l; sys = l.sys.now; number = lane_number was; by = l.by; stops = l.log.stops.list; answered = l.log.answered.list; side = side_mark l.sys.now l.side.seat.me.0 }) (told_by l.log l.numbers.list was ++ newest ∷ []) g.spare u
      ≡ lane_with (world_of_lane l) l.sys.now l.by g more u l.side.seat.me.0
  after-is = (λ i. lane_of (record { world = world_of_lane l; sys = l.sys.now; number = sym follows.number i; by = l.by; stops = sym put.stops i; answered = sym put.answered i; side = side_mark l.sys.now l.side.seat.me.0 }) (sym kept.told i) g.spare u)

  pool-rises : Rises pool (suc number) (lane_mark l.sys.now was.seen (side_mark l.sys.now l.side.seat.me.0)) (lane_mark l.sys.now told.mid.seen (side_mark l.sys.now l.side.seat.me.0)) (shown_seen l.sys.now was.seen) (shown_seen l.sys.now told.mid.seen)
  pool-rises = subst (λ k. Rises pool k (lane_mark l.sys.now was.seen (side_mark l.sys.now l.side.seat.me.0)) (lane_mark l.sys.now told.mid.seen (side_mark l.sys.now l.side.seat.me.0)) (shown_seen l.sys.now was.seen) (shown_seen l.sys.now told.mid.seen)) pool-mark
      (seen_words_rise l.sys.now (side_mark l.sys.now l.side.seat.me.0) pool was told.mid (word_without x b) told.told.saw).0

  block-rises : Rises block from (lane_mark l.sys.now told.mid.seen (side_mark l.sys.now l.side.seat.me.0)) (lane_mark l.sys.now u.seen (side_mark l.sys.now l.side.seat.me.0)) (shown_seen l.sys.now told.mid.seen) (shown_seen l.sys.now u.seen)
  block-rises = subst (λ k. Rises block k (lane_mark l.sys.now told.mid.seen (side_mark l.sys.now l.side.seat.me.0)) (lane_mark l.sys.now u.seen (side_mark l.sys.now l.side.seat.me.0)) (shown_seen l.sys.now told.mid.seen) (shown_seen l.sys.now u.seen)) block-mark
      (seen_words_rise l.sys.now (side_mark l.sys.now l.side.seat.me.0) block told.mid u (from * 4294967296) told.shown.saw).0

  gained : Gains (newest ∷ []) (state_view l) (lane_with (world_of_lane l) l.sys.now l.by g more u l.side.seat.me.0)
  gained = subst (Gains (newest ∷ []) (state_view l)) after-is
      (gives_gain (record { world = world_of_lane l; sys = l.sys.now; number = lane_number was; by = l.by; stops = l.log.stops.list; answered = l.log.answered.list; side = side_mark l.sys.now l.side.seat.me.0 }) (told_by l.log l.numbers.list was) l.log.spare g.spare was told.mid u pool block (suc number) from newest
      pool-rises block-rises touches (keeps-all l.sys.now l.count l.ceiling l.log l.numbers.list was l.side.seat.me.0 l.holds (world_of_lane l) l.by u follows))

  shown-of : mark_seen l.sys.now was.seen pool ≡ number → shown_seen l.sys.now was.seen pool ≡ FreeBlocks (free_of x)
  unfolding shown_seen
  shown-of same =
      let a = mark-was l.sys.now pool was told.mid (word_without x b) told.told.saw in let k = low-mark (pool_at p) x (omega arith) in
      let value : value_seen l.sys.now pool was.seen ≡ x = told.told.found.same (omega arith) in
      ap (λ (t : Bool). cond {A = Shown} t (as_shown pool (value_seen l.sys.now pool was.seen)) (first_shown l.sys.now pool)) told.told.saw.here ∙ ap (as_shown pool) value

  test : (a c : ℕ) → a < c → nat_lt a c ≡ true
  test a c h = grind (arith, nat_tests)

  free-less : free_of (word_without x b) ≡ free_of x - 1
  free-less = let e = told.left in omega arith

  out : g.spare + 1 ≡ l.log.spare → GivesOut p reserve ev (record { pool = p; block = b; used = false }) (state_view l) (lane_with (world_of_lane l) l.sys.now l.by g more u l.side.seat.me.0)
  unfolding lane_of
  out spare = record {
    number = number;
    from = from;
    free = free_of x;
    adds = record { grows = gained; spare = spare };
    its_pool = refl;
    unused = refl;
    enough = test (unwrap_or reserve 0) (free_of x) told.enough;
    draws = record {
      up = let a = told.told.found.le in let y = mark-was l.sys.now pool was told.mid (word_without x b) told.told.saw in let z = end-mark in let k = low-mark (pool_at p) x (omega arith) in omega arith;
      says = shown-else l.sys.now block told.mid u (from * 4294967296) told.shown.saw pool turned ∙ (shown-here l.sys.now pool was told.mid (word_without x b) told.told.saw ∙ ap FreeBlocks free-less);
    };
    was = λ same. shown-of same;
    bare = shown-here l.sys.now block told.mid u (from * 4294967296) told.shown.saw ∙ ap References (omega arith);
  }

  pub given-out : (f : Fresh) → f ≡ record { pool = p; block = b; used = false } → g.spare + 1 ≡ l.log.spare → GivesOut p reserve ev f (state_view l) (lane_with (world_of_lane l) l.sys.now l.by g more u l.side.seat.me.0)
  given-out f f_is spare = subst (λ (y : Fresh). GivesOut p reserve ev y (state_view l) (lane_with (world_of_lane l) l.sys.now l.by g more u l.side.seat.me.0)) (sym f_is) (out spare)

  pub given-tries : (before after : ℕ) → before ≤ after → after + mark_in (pool_at p) (value_seen l.sys.now (word.Pool p) was.seen) ≤ before + 1 + mark_in (pool_at p) x → FewTries (word.Pool p) 1 before after (state_view l) (lane_with (world_of_lane l) l.sys.now l.by g more u l.side.seat.me.0)
  unfolding lane_of
  given-tries before after up few = record { up = up; few = let a = mark-was l.sys.now pool was told.mid (word_without x b) told.told.saw in let c = end-mark in let k = low-mark (pool_at p) x (omega arith) in omega arith }

-- The same, by what the tries ended with.

module _ (l : LaneState) (p : ℕ) (reserve : Option ℕ) (ev : Event) (x : ℕ) (o : Option Life) (life : Life) (is_given : o ≡ Some life) (u : View) (ends : GiveEnds l.words.now.shared.key p l.by reserve ev.sig ev.pars l.seat.me.0 x o u) (fits : FitsPool (state_view l).sys p ev)
    (g : Log) (more : List ℕ) (r : Rec) (k : ℕ) (put : IsPut r k l.log l.numbers.list g more) (k_is : k ≡ free_of x) (is : item_of r ≡ record { of = l.by; body = New p (x / 4294967296) life.block life.from ev.sig ev.pars }) where
  gave : LoopGives l.sys.now p l.by reserve ev.sig ev.pars l.seat.me.0 x life.block life.from u
  gave = subst (λ s. GiveEnds s p l.by reserve ev.sig ev.pars l.seat.me.0 x (Some life) u) l.key (subst (λ q. GiveEnds l.words.now.shared.key p l.by reserve ev.sig ev.pars l.seat.me.0 x q u) is_given ends)

  put-free : IsPut r (free_of x) l.log l.numbers.list g more
  put-free = subst (λ n. IsPut r n l.log l.numbers.list g more) k_is put

  pub give-holds : LaneHolds l.sys.now l.count l.ceiling g more u l.side.seat.me.0
  give-holds = given-holds l p reserve ev life.block life.from u x g more r (fits-small l p ev fits) gave put-free is

  pub give-out : (f : Fresh) → f ≡ record { pool = p; block = life.block; used = false } → g.spare + 1 ≡ l.log.spare → GivesOut p reserve ev f (state_view l) (lane_with (world_of_lane l) l.sys.now l.by g more u l.side.seat.me.0)
  give-out = given-out l p reserve ev life.block life.from u x g more r (fits-small l p ev fits) gave put-free is

  pub give-tries : (before after : ℕ) → before ≤ after → after + mark_in (pool_at p) (value_seen l.words.now.shared.key (word.Pool p) l.seat.me.0.seen) ≤ before + 1 + mark_in (pool_at p) x → FewTries (word.Pool p) 1 before after (state_view l) (lane_with (world_of_lane l) l.sys.now l.by g more u l.side.seat.me.0)
  give-tries before after up few = given-tries l p reserve ev life.block life.from u x g more r (fits-small l p ev fits) gave put-free is before after up
      (subst (λ s. after + mark_in (pool_at p) (value_seen s (word.Pool p) l.seat.me.0.seen) ≤ before + 1 + mark_in (pool_at p) x) l.key few)

module _ (l : LaneState) (p : ℕ) (reserve : Option ℕ) (ev : Event) (x : ℕ) (o : Option Life) (none_given : o ≡ None) (u : View) (ends : GiveEnds l.words.now.shared.key p l.by reserve ev.sig ev.pars l.seat.me.0 x o u) (fits : FitsPool (state_view l).sys p ev)
    (g : Log) (more : List ℕ) (r : Rec) (put : IsPut r 0 l.log l.numbers.list g more) (k : ℕ) (k_is : k ≡ free_of x) (is : item_of r ≡ record { of = l.by; body = shortage_of reserve p (x / 4294967296) k }) where
  gave-none : LoopGivesNone l.sys.now p l.by reserve l.seat.me.0 x u
  gave-none = subst (λ s. GiveEnds s p l.by reserve ev.sig ev.pars l.seat.me.0 x None u) l.key (subst (λ q. GiveEnds l.words.now.shared.key p l.by reserve ev.sig ev.pars l.seat.me.0 x q u) none_given ends)

  says-free : item_of r ≡ record { of = l.by; body = shortage_of reserve p (x / 4294967296) (free_of x) }
  says-free = is ∙ ap (λ n. record { of = l.by; body = shortage_of reserve p (x / 4294967296) n }) k_is

  pub none-holds : LaneHolds l.sys.now l.count l.ceiling g more u l.side.seat.me.0
  none-holds = short-kept-holds l p reserve u x g more r (fits-small l p ev fits) gave-none put says-free

  pub none-given : g.spare + 1 ≡ l.log.spare → NoneGiven p reserve (x / 4294967296) k (state_view l) (lane_with (world_of_lane l) l.sys.now l.by g more u l.side.seat.me.0)
  none-given spare = subst (λ n. NoneGiven p reserve (x / 4294967296) n (state_view l) (lane_with (world_of_lane l) l.sys.now l.by g more u l.side.seat.me.0)) (sym k_is) (short-gives l p reserve u x g more r (fits-small l p ev fits) gave-none put says-free spare)

  pub none-tries : (before after : ℕ) → before ≤ after → after + mark_in (pool_at p) (value_seen l.words.now.shared.key (word.Pool p) l.seat.me.0.seen) ≤ before + 1 + mark_in (pool_at p) x → FewTries (word.Pool p) 0 before after (state_view l) (lane_with (world_of_lane l) l.sys.now l.by g more u l.side.seat.me.0)
  none-tries before after up few = short-tries l p reserve u x g more r (fits-small l p ev fits) gave-none put says-free before after up
      (subst (λ s. after + mark_in (pool_at p) (value_seen s (word.Pool p) l.seat.me.0.seen) ≤ before + 1 + mark_in (pool_at p) x) l.key few)

-- at most the reserve is free where none was given
pub none-few : (sys : System) (p o : ℕ) (reserve : Option ℕ) (sig : ℕ) (pars : List ℕ) (v : View) (x : ℕ) (q : Option Life) (u : View) → GiveEnds sys p o reserve sig pars v x q u → q ≡ None → free_of x ≤ unwrap_or reserve 0
none-few sys p o reserve sig pars v x q u ends none_given = (few (subst (λ z. GiveEnds sys p o reserve sig pars v x z u) none_given ends))
  where
    few : LoopGivesNone sys p o reserve v x u → free_of x ≤ unwrap_or reserve 0
    few g = g.few
