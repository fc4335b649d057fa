-- A used block comes back.
use Rattle.std.proofs.Common.{◌≡◌, ℕ, suc, ◌+◌, ◌-◌, ◌*◌, ◌/◌, ◌%◌, ◌^◌, ◌<◌, ◌≤◌, ◌==◌, ◌&&◌, List, [], ◌∷◌, Bool, true, false, cond, slice_index, refl, sym, ap, subst, ◌∙◌, arith, eqb, eqb-true, IsTrue}
use Rattle.std.specs.Prelude.{count_ones}
use Rattle.std.specs.List.{list_any}
use Rattle.std.proofs.lemmas.Bool.{and_parts}
use Rattle.std.proofs.lemmas.Nat.{pow_pos, zero_from_ones}
use mathlib.Core.Logic.{dite}
use native.Mathlib.Decide.{ℕ_discrete}
use Rattle.qp_model.specs.declared.record.Rec.{Rec}
use Rattle.qp_model.specs.declared.systems.System.{System}
use Rattle.qp_model.specs.declared.words.Word.{Word}
use Rattle.qp_model.specs.declared.words.Word.TheVariants as word
use Rattle.qp_model.specs.declared.bodies.Body.TheVariants.{Back}
use Rattle.qp_model.specs.Record.{Item, item_of}
use Rattle.qp_model.specs.Told.{ToldItem, plain, for_object}
use Rattle.qp_table.specs.Counting.{many, without}
use Rattle.qp_table.specs.Rule.{pool_at, mark_in, is_ref, is_spot, is_spot_at, is_entry, is_serve}
use Rattle.qp_table.specs.After.{rec_of}
use Rattle.qp_table.specs.declared.view.Glance.{Glance}
use Rattle.qp_table.specs.declared.view.Spot.{Spot}
use Rattle.qp_table.specs.declared.view.View.{View}
use Rattle.qp_table.proofs.Counting.{many-without}
use Rattle.qp_table.proofs.Marks.{low-mark}
use Rattle.qp_table.proofs.Steps.{back-says}
use Rattle.qp_calls.specs.Tokens.{Token, Held, Loose, same_token, take_out, stands, hands_by, hands_after}
use Rattle.qp_calls.specs.LaneView.{Gains, FreeBlocks}
use Rattle.qp_calls.specs.Clauses.{GoesBack, StandsFresh}
use Rattle.qp_calls.specs.declared.tokens.Fresh.{Fresh}
use Rattle.qp_calls_log.specs.declared.log.Log.{Log}
use Rattle.qp_table.specs.Words.{place_of, is_here, value_seen, mark_seen}
use Rattle.qp_table.specs.Lane.{lane_of, tokens, tokens_of_view, event_seen, told_as}
use Rattle.qp_table.proofs.Gaining.{mark-here, mark-was, mark-rises, shown-here}
use Rattle.qp_table.proofs.Hands.{tokens-out, loose-true}
use Rattle.qp_table.specs.Told.{HasPlace}
use Rattle.qp_shared_lane.specs.declared.lane.LaneState.{LaneState}
use Rattle.qp_shared_lane.specs.Holds.{LaneHolds, told_by}
use Rattle.qp_shared_lane.specs.Lane.{world_of_lane, lane_with, state_view}
use Rattle.qp_shared_lane.specs.More.{IsPut, OnTable}
use Rattle.qp_shared_lane.specs.Laws.{LaneGainsRecord}
use Rattle.qp_shared_lane.proofs.LawLemmas.{table_records_keep_the_lane}
use Rattle.qp_shared_blocks.specs.Ends.{ReturnTold}
use Rattle.qp_shared_blocks.proofs.Lanes.{used-place, used}
use Rattle.qp_shared_blocks.proofs.Used.{end-known}
use Rattle.qp_shared_blocks.proofs.Parts.{grown-same, read-fewer, still-same}

without-le : {A : Type 0} (p q : A → Bool) (xs : List A) → many q (without p xs) ≤ many q xs
without-le p q [] = omega arith
without-le {A} p q (x ∷ xs) = go (p x) (without-le p q xs)
  where
    go : (t : Bool) → many q (without p xs) ≤ many q xs → many q (cond t xs (x ∷ without p xs)) ≤ cond (q x) 1 0 + many q xs
    go true h = omega arith
    go false h = omega arith

and-off : (x : Bool) → (x && false) ≡ false
and-off true = refl
and-off false = refl

spot-same : (q c p b : ℕ) (x : Spot) → is_spot p b x ≡ true → is_spot q c x ≡ (eqb p q && eqb b c)
spot-same q c p b x h = let z = and_parts (eqb x.pool p) (eqb x.block b) h in (λ i. eqb (eqb-true x.pool p z.0 i) q && eqb (eqb-true x.block b z.1 i) c)

-- the hands without the block
pub back-hands : (hands : List Token) (v u : View) (p b : ℕ) → ((t : Token) → tokens t hands ≡ tokens_of_view v t) → IsTrue (stands (Loose p b true) hands) → 0 < many (is_spot p b) v.used
    → u.hands ≡ v.hands → u.fresh ≡ v.fresh → u.used ≡ without (is_spot p b) v.used → (t : Token) → tokens t (take_out (Loose p b true) hands) ≡ tokens_of_view u t
back-hands hands v u p b all here mine refs fresh gone t = go t (tokens-out t (Loose p b true) hands here) (all t)
  where
    go : (t : Token) → tokens t (take_out (Loose p b true) hands) + cond (same_token t (Loose p b true)) 1 0 ≡ tokens t hands → tokens t hands ≡ tokens_of_view v t → tokens t (take_out (Loose p b true) hands) ≡ tokens_of_view u t
    go (Held q c s) out was = let i = ap (many (is_ref q c s)) refs in omega arith
    go (Loose q c false) out was = let i = ap (many (is_spot q c)) fresh in let z = ap (λ (t : Bool). cond {A = ℕ} t 1 0) (and-off ((q == p) && (c == b))) in omega arith
    go (Loose q c true) out was =
        let m = many-without (is_spot p b) (is_spot q c) (eqb p q && eqb b c) (λ x e. spot-same q c p b x e) v.used mine in
        let i = ap (many (is_spot q c)) gone in let z = ap (λ (t : Bool). cond {A = ℕ} t 1 0) (loose-true q c p b) in omega arith

-- a mark is at most that of the value seen
mark-most : (sys : System) (seen : List Glance) (w : Word) → mark_seen sys seen w ≤ mark_in (place_of w) (value_seen sys w seen)
unfolding mark_seen
mark-most sys seen w = go (is_here sys w)
  where
    go : (t : Bool) → cond {A = ℕ} t (mark_in (place_of w) (value_seen sys w seen)) 0 ≤ mark_in (place_of w) (value_seen sys w seen)
    go true = omega arith
    go false = omega arith

module _ (l : LaneState) (f : Fresh) (u : View) (m n : ℕ) (g : Log) (more : List ℕ) (r : Rec) (stand : StandsFresh f (state_view l)) (old : f.used ≡ true) (end : 0 < many (is_spot_at f.pool f.block m) l.seat.me.0.used)
    (told : ReturnTold l.sys.now l.by f.pool f.block m l.seat.me.0 n u) (put : IsPut r 0 l.log l.numbers.list g more) (is : item_of r ≡ record { of = l.by; body = Back f.pool (n / 4294967296) f.block m }) where
  abbrev v : View
  v = l.seat.me.0

  abbrev w : Word
  w = word.Pool f.pool

  abbrev x : ℕ
  x = n + (4294967296 + 2 ^ f.block)

  abbrev last : ToldItem
  last = for_object l.by (plain (Back f.pool (n / 4294967296) f.block m))

  place : HasPlace f.pool f.block
  place = used-place l f stand old

  mine : 0 < many (is_spot f.pool f.block) v.used
  mine = used l f stand old

  here : IsTrue (stands (Loose f.pool f.block true) (hands_after [] (told_by l.log l.numbers.list v)))
  unfolding lane_of
  here = subst (λ b. IsTrue (stands (Loose f.pool f.block b) (hands_after [] (told_by l.log l.numbers.list v)))) old stand.1

  room-left : n % 4294967296 + 2 ^ f.block < 4294967296
  room-left = told.1

  mark-is : mark_in (pool_at f.pool) x ≡ suc (n / 4294967296)
  mark-is = let p = place.1 in let s = room-left in low-mark (pool_at f.pool) x (omega arith) ∙ omega arith

  rises : (y : Word) → mark_seen l.sys.now v.seen y ≤ mark_seen l.sys.now u.seen y
  rises = mark-rises l.sys.now w v u x told.0.1.saw

  -- the lane has seen the end of the block's life, and no more
  end-is : mark_seen l.sys.now v.seen (word.Block f.pool f.block) ≡ m
  end-is = let a = l.holds.worn f.pool f.block m end in let b = mark-most l.sys.now v.seen (word.Block f.pool f.block) in let c = told.0.2 in omega arith

  step : OnTable l.sys.now (hands_after [] (told_by l.log l.numbers.list v)) v u r 0 last w (suc (n / 4294967296))
  unfolding hands_by
  step = record {
    as_seen = rec_of 19 l.by (f.pool ∷ (n / 4294967296) ∷ f.block ∷ m ∷ []);
    says = is ∙ sym (back-says l.by f.pool (n / 4294967296) f.block m);
    logs = ap (λ (z : View). z.logs) told.0.0;
    told = ap (λ (i : Item). told_as (event_seen u.contents) i 0) is;
    on = refl;
    found = x;
    saw = told.0.1.saw;
    mark = mark-is;
    touches = record { marks = λ y. refl; only = λ y. refl };
    seen = (record { word = pool_at f.pool; value = x } ∷ [], ap (λ (z : View). z.seen) told.0.0);
    lane_numbers = ap (λ (z : View). z.lane_numbers) told.0.0;
    serves = λ o. ap (λ (z : View). list_any (is_serve o) z.serves) told.0.0;
    grown = grown-same v u (ap (λ (z : View). z.contents) told.0.0);
    read = read-fewer v u (ap (λ (z : View). z.contents) told.0.0) (λ e. let i = ap (λ (z : View). many (is_entry e) z.hands) told.0.0 in omega arith) l.holds.read;
    still = still-same v u (ap (λ (z : View). z.fills) told.0.0) (ap (λ (z : View). z.claims) told.0.0) (ap (λ (z : View). z.takes) told.0.0) (ap (λ (z : View). z.gives) told.0.0) (ap (λ (z : View). z.fresh) told.0.0) l.holds.still;
    placed = λ q c h. l.holds.placed q c (let i = ap (λ (z : View). many (is_spot q c) z.fresh) told.0.0 in let j = ap (λ (z : View). many (is_spot q c) z.used) told.0.0 in let k = without-le (is_spot f.pool f.block) (is_spot q c) v.used in omega arith);
    worn = λ q c k h. let j = ap (λ (z : View). many (is_spot_at q c k) z.used) told.0.0 in let o = without-le (is_spot f.pool f.block) (is_spot_at q c k) v.used in let a = l.holds.worn q c k (omega arith) in let b = rises (word.Block q c) in omega arith;
    hands_are = back-hands (hands_after [] (told_by l.log l.numbers.list v)) v u f.pool f.block l.holds.hands here mine (ap (λ (z : View). z.hands) told.0.0) (ap (λ (z : View). z.fresh) told.0.0) (ap (λ (z : View). z.used) told.0.0);
    handled = λ e h. let wrong : false ≡ true = h in absurd (cc);
    borne = refl;
  }

  pub back-kept : LaneGainsRecord (world_of_lane l) l.sys.now l.by l.count l.ceiling l.log l.numbers.list v l.side.seat.me.0 g more u l.side.seat.me.0 l.ceiling last
  back-kept = table_records_keep_the_lane (world_of_lane l) l.sys.now l.by l.count l.ceiling l.log l.numbers.list v l.side.seat.me.0 g more u r 0 last w (suc (n / 4294967296)) l.holds put step

  some-free : 0 < count_ones (x % 4294967296)
  some-free = dite (ℕ_discrete (count_ones (x % 4294967296)) 0)
      (λ none. let zero_now = zero_from_ones (x % 4294967296) none in let pos = pow_pos f.block in let s = room-left in absurd (omega arith))
      (λ some_. omega arith)

  pub goes-back : g.spare + 1 ≡ l.log.spare → GoesBack f (state_view l) (lane_with (world_of_lane l) l.sys.now l.by g more u l.side.seat.me.0)
  unfolding lane_of
  goes-back spare = record {
    number = n / 4294967296;
    others = count_ones (x % 4294967296) - 1;
    adds = record { grows = subst (λ k. Gains (for_object l.by (plain (Back f.pool (n / 4294967296) f.block k)) ∷ []) (state_view l) (lane_with (world_of_lane l) l.sys.now l.by g more u l.side.seat.me.0)) (sym end-is) back-kept.gains; spare = spare };
    draws = record {
      up = let a = told.0.1.found.le in let y = mark-was l.sys.now w v u x told.0.1.saw in let z = mark-here l.sys.now w v u x told.0.1.saw in let k = mark-is in
          let p = place.1 in let b = low-mark (pool_at f.pool) n (omega arith) in omega arith;
      says = shown-here l.sys.now w v u x told.0.1.saw ∙ ap FreeBlocks (let s = some-free in omega arith);
    };
  }

-- the same, by what was read of the token; the lane remembers where the block's life ended
module _ (l : LaneState) (f : Fresh) (p b : ℕ) (same : record { pool = p; block = b; used = f.used } ≡ f) (stand : StandsFresh f (state_view l)) (old : f.used ≡ true) (u : View) (m n : ℕ) (g : Log) (more : List ℕ) (r : Rec)
    (known : m ≡ slice_index l.ends.at (32 * p + b)) (told : ReturnTold l.words.now.shared.key l.by p b m l.seat.me.0 n u) (put : IsPut r 0 l.log l.numbers.list g more) (is : item_of r ≡ record { of = l.by; body = Back p (n / 4294967296) b m }) where
  end-of : 0 < many (is_spot_at f.pool f.block m) l.seat.me.0.used
  end-of = end-known l.ends.at l.seat.me.0.used f.pool f.block m l.ended (used-place l f stand old) (used l f stand old) (subst (λ (x : Fresh). m ≡ slice_index l.ends.at (32 * x.pool + x.block)) same known)

  told-of : ReturnTold l.sys.now l.by f.pool f.block m l.seat.me.0 n u
  told-of = subst (λ (x : Fresh). ReturnTold l.sys.now l.by x.pool x.block m l.seat.me.0 n u) same (subst (λ s. ReturnTold s l.by p b m l.seat.me.0 n u) l.key told)

  is-of : item_of r ≡ record { of = l.by; body = Back f.pool (n / 4294967296) f.block m }
  is-of = is ∙ ap (λ (x : Fresh). record { of = l.by; body = Back x.pool (n / 4294967296) x.block m }) same

  pub back-holds : LaneHolds l.sys.now l.count l.ceiling g more u l.side.seat.me.0
  back-holds = (back-kept l f u m n g more r stand old end-of told-of put is-of).holds

  pub back-clause : g.spare + 1 ≡ l.log.spare → GoesBack f (state_view l) (lane_with (world_of_lane l) l.sys.now l.by g more u l.side.seat.me.0)
  back-clause = goes-back l f u m n g more r stand old end-of told-of put is-of
