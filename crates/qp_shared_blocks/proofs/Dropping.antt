-- A reference is dropped.
use Rattle.std.proofs.Common.{◌≡◌, ℕ, zero, suc, ◌+◌, ◌-◌, ◌/◌, ◌%◌, ◌<◌, ◌≤◌, ◌==◌, ◌&&◌, List, [], ◌∷◌, ◌++◌, Bool, true, false, cond, refl, sym, ap, subst, ◌∙◌, arith, eqb, eq-eqb, ne_eqb, IsTrue}
use Rattle.std.specs.List.{list_any}
use Rattle.std.proofs.lemmas.Bool.{and_from}
use Rattle.qp_model.specs.declared.record.Rec.{Rec}
use Rattle.qp_model.specs.declared.systems.System.{System}
use Rattle.qp_model.specs.declared.words.Word.{Word}
use Rattle.qp_model.specs.declared.words.Word.TheVariants as word
use Rattle.qp_model.specs.declared.bodies.Body.TheVariants.{Dec}
use Rattle.qp_model.specs.Record.{Item, item_of}
use Rattle.qp_model.specs.Told.{ToldItem, Left, dropped, for_object}
use Rattle.qp_table.specs.Counting.{many, without}
use Rattle.qp_table.specs.Rule.{block_at, mark_in, is_ref, is_spot, is_spot_at, is_serve}
use Rattle.qp_table.specs.After.{rec_of, spot, ref}
use Rattle.qp_table.specs.declared.view.Spot.{Spot}
use Rattle.qp_table.specs.declared.view.View.{View}
use Rattle.qp_table.proofs.Counting.{many-snoc}
use Rattle.qp_table.proofs.Marks.{low-mark}
use Rattle.qp_table.proofs.Steps.{dec-says}
use Rattle.qp_calls.specs.Tokens.{Hold, Token, Held, Loose, same_token, token_of, take_out, stands, with_left, hands_by, hands_after}
use Rattle.qp_calls.specs.LaneView.{References}
use Rattle.qp_calls.specs.Clauses.{DropsOne, StandsHold}
use Rattle.qp_calls.proofs.HandLemmas.{same-equal}
use Rattle.qp_calls_log.specs.declared.log.Log.{Log}
use Rattle.qp_table.specs.Words.{mark_seen}
use Rattle.qp_table.specs.Lane.{lane_of, tokens, tokens_of_view, has_content, event_seen, told_as}
use Rattle.qp_table.proofs.Gaining.{mark-here, mark-was, mark-rises, shown-here}
use Rattle.qp_table.proofs.Hands.{tokens-out, refs-out, loose-true}
use Rattle.qp_table.specs.Told.{DropTold, HasPlace}
use Rattle.qp_shared_lane.specs.declared.lane.LaneState.{LaneState}
use Rattle.qp_shared_lane.specs.Holds.{LaneHolds, told_by, was_seen, IsPlaced, IsWorn}
use Rattle.qp_shared_lane.specs.Lane.{world_of_lane, lane_with, state_view}
use Rattle.qp_shared_lane.specs.More.{IsPut, OnTable}
use Rattle.qp_shared_lane.specs.Laws.{LaneGainsRecord}
use Rattle.qp_shared_lane.proofs.LawLemmas.{table_records_keep_the_lane}
use Rattle.qp_shared_blocks.proofs.Lanes.{held, held-place, held-known}
use Rattle.qp_shared_blocks.proofs.Parts.{grown-same, read-without, still-same, seen-last, held-parts, spot-is}

-- the hands after it, where so many are left, and the block's life ended at m
module _ (hands : List Token) (v u : View) (p b k left m : ℕ) (all : (t : Token) → tokens t hands ≡ tokens_of_view v t) (here : IsTrue (stands (Held p b k) hands)) (mine : 0 < many (is_ref p b k) v.hands)
    (refs : u.hands ≡ without (is_ref p b k) v.hands) (fresh : u.fresh ≡ v.fresh) (used : u.used ≡ cond (eqb left 0) (v.used ++ spot p b m ∷ []) v.used) where
  abbrev rest : List Token
  rest = take_out (Held p b k) hands

  held-left : (q c s left : ℕ) → tokens (Held q c s) (with_left p b (Left left) rest) ≡ tokens (Held q c s) rest
  held-left q c s zero = omega arith
  held-left q c s (suc l) = refl

  fresh-left : (q c left : ℕ) → tokens (Loose q c false) (with_left p b (Left left) rest) ≡ tokens (Loose q c false) rest
  fresh-left q c zero = fresh-off ((q == p) && (c == b))
    where
      fresh-off : (x : Bool) → cond {A = ℕ} (x && false) 1 0 + tokens (Loose q c false) rest ≡ tokens (Loose q c false) rest
      fresh-off true = omega arith
      fresh-off false = omega arith
  fresh-left q c (suc l) = refl

  used-left : (q c left : ℕ) → u.used ≡ cond (eqb left 0) (v.used ++ spot p b m ∷ []) v.used → tokens (Loose q c true) rest ≡ many (is_spot q c) v.used → tokens (Loose q c true) (with_left p b (Left left) rest) ≡ many (is_spot q c) u.used
  used-left q c zero is before = let s = many-snoc (is_spot q c) v.used (spot p b m) in let z = ap (λ (t : Bool). cond {A = ℕ} t 1 0) (loose-true q c p b) in let i = ap (many (is_spot q c)) is in omega arith
  used-left q c (suc l) is before = before ∙ sym (ap (many (is_spot q c)) (is ∙ ap (λ (t : Bool). cond {A = List Spot} t (v.used ++ spot p b m ∷ []) v.used) (ne_eqb (suc l) 0 (λ e. absurd (omega arith)))))

  pub drop-hands : (t : Token) → tokens t (with_left p b (Left left) rest) ≡ tokens_of_view u t
  drop-hands t = go t (tokens-out t (Held p b k) hands here) (all t)
    where
      go : (t : Token) → tokens t rest + cond (same_token t (Held p b k)) 1 0 ≡ tokens t hands → tokens t hands ≡ tokens_of_view v t → tokens t (with_left p b (Left left) rest) ≡ tokens_of_view u t
      go (Held q c s) out was = held-left q c s left ∙ (let r = refs-out q c s p b k v.hands mine in let i = ap (many (is_ref q c s)) refs in omega arith)
      go (Loose q c false) out was = fresh-left q c left ∙ (let i = ap (many (is_spot q c)) fresh in omega arith)
      go (Loose q c true) out was = used-left q c left used (omega arith)

  drop-case : (t : Bool) → cond {A = List Spot} t (v.used ++ spot p b m ∷ []) v.used ≡ u.used → HasPlace p b → IsPlaced v → IsPlaced u
  drop-case true is place placed q c h = bool-dec (is_spot q c (spot p b m))
      (λ e. let z = spot-same q c e in subst (λ x. HasPlace x c) z.0 (subst (λ x. HasPlace p x) z.1 place))
      (λ e. placed q c (let i = ap (many (is_spot q c)) is in let f = ap (many (is_spot q c)) fresh in let s = many-snoc (is_spot q c) v.used (spot p b m) in let z = ap (λ (t : Bool). cond {A = ℕ} t 1 0) e in omega arith))
    where
      bool-dec : (b : Bool) {P : Type 0} → (b ≡ true → P) → (b ≡ false → P) → P
      bool-dec true t f = t refl
      bool-dec false t f = f refl

      spot-same : (q c : ℕ) → is_spot q c (spot p b m) ≡ true → (p ≡ q) × (b ≡ c)
      spot-same q c e = let z = spot-is q c p b m m (and_from (is_spot q c (spot p b m)) (eqb m m) e (eq-eqb m m refl)) in (z.0, z.1)
  drop-case false is place placed q c h = placed q c (let i = ap (many (is_spot q c)) is in let f = ap (many (is_spot q c)) fresh in omega arith)

  pub drop-placed : HasPlace p b → IsPlaced v → IsPlaced u
  drop-placed = drop-case (eqb left 0) (sym used)

  worn-case : (sys : System) → ((w : Word) → mark_seen sys v.seen w ≤ mark_seen sys u.seen w) → m ≤ mark_seen sys u.seen (word.Block p b) → (t : Bool) → cond {A = List Spot} t (v.used ++ spot p b m ∷ []) v.used ≡ u.used → IsWorn sys v → IsWorn sys u
  worn-case sys rise end true is worn q c n h = bool-dec (is_spot_at q c n (spot p b m))
      (λ e. let z = spot-is q c p b n m e in let z2 = z.2 in subst (λ x. n ≤ mark_seen sys u.seen (word.Block x c)) z.0 (subst (λ x. n ≤ mark_seen sys u.seen (word.Block p x)) z.1 (omega arith)))
      (λ e. let old = worn q c n (let i = ap (many (is_spot_at q c n)) is in let s = many-snoc (is_spot_at q c n) v.used (spot p b m) in let z = ap (λ (t : Bool). cond {A = ℕ} t 1 0) e in omega arith) in let r = rise (word.Block q c) in omega arith)
    where
      bool-dec : (b : Bool) {P : Type 0} → (b ≡ true → P) → (b ≡ false → P) → P
      bool-dec true t f = t refl
      bool-dec false t f = f refl
  worn-case sys rise end false is worn q c n h = let old = worn q c n (let i = ap (many (is_spot_at q c n)) is in omega arith) in let r = rise (word.Block q c) in omega arith

  pub drop-worn : (sys : System) → ((w : Word) → mark_seen sys v.seen w ≤ mark_seen sys u.seen w) → m ≤ mark_seen sys u.seen (word.Block p b) → IsWorn sys v → IsWorn sys u
  drop-worn sys rise end = worn-case sys rise end (eqb left 0) (sym used)

module _ (l : LaneState) (h : Hold) (u : View) (n : ℕ) (g : Log) (more : List ℕ) (r : Rec) (stand : StandsHold h (state_view l)) (told : DropTold l.sys.now l.by h.pool h.block h.name l.seat.me.0 n u)
    (put : IsPut r (n % 4294967296 - 1) l.log l.numbers.list g more) (is : item_of r ≡ record { of = l.by; body = Dec h.pool h.block (n / 4294967296) h.name }) where
  abbrev v : View
  v = l.seat.me.0

  abbrev w : Word
  w = word.Block h.pool h.block

  abbrev left : ℕ
  left = n % 4294967296 - 1

  abbrev last : ToldItem
  last = for_object l.by (dropped h.pool h.block (n / 4294967296) h.name left)

  place : HasPlace h.pool h.block
  place = held-place l h stand

  some-left : 0 < n % 4294967296
  some-left = told.2

  mark-is : mark_in (block_at h.pool h.block) (n + 4294967295) ≡ suc (n / 4294967296)
  mark-is = let p = place.1 in let b = place.2 in let s = some-left in low-mark (block_at h.pool h.block) (n + 4294967295) (omega arith) ∙ omega arith

  left-is : (n + 4294967295) % 4294967296 ≡ left
  left-is = let s = some-left in omega arith

  end-is : (n + 4294967295) / 4294967296 ≡ suc (n / 4294967296)
  end-is = let s = some-left in omega arith

  used-is : u.used ≡ cond (eqb left 0) (v.used ++ spot h.pool h.block ((n + 4294967295) / 4294967296) ∷ []) v.used
  used-is = ap (λ (z : View). z.used) told.0 ∙ ap (λ (k : ℕ). cond {A = List Spot} (eqb k 0) (v.used ++ spot h.pool h.block ((n + 4294967295) / 4294967296) ∷ []) v.used) left-is

  mine : 0 < many (is_ref h.pool h.block h.name) v.hands
  mine = held l h stand

  here : IsTrue (stands (Held h.pool h.block h.name) (hands_after [] (told_by l.log l.numbers.list v)))
  unfolding lane_of
  here = stand.1

  rises : (y : Word) → mark_seen l.sys.now v.seen y ≤ mark_seen l.sys.now u.seen y
  rises = mark-rises l.sys.now w v u (n + 4294967295) told.1.saw

  mark-now : mark_seen l.sys.now u.seen w ≡ suc (n / 4294967296)
  mark-now = mark-here l.sys.now w v u (n + 4294967295) told.1.saw ∙ mark-is

  step : OnTable l.sys.now (hands_after [] (told_by l.log l.numbers.list v)) v u r left last w (suc (n / 4294967296))
  unfolding hands_by
  step = record {
    as_seen = rec_of 18 l.by (h.pool ∷ h.block ∷ (n / 4294967296) ∷ h.name ∷ []);
    says = is ∙ sym (dec-says l.by h.pool h.block (n / 4294967296) h.name);
    logs = ap (λ (z : View). z.logs) told.0;
    told = ap (λ (i : Item). told_as (event_seen u.contents) i left) is;
    on = refl;
    found = n + 4294967295;
    saw = told.1.saw;
    mark = mark-is;
    touches = record { marks = λ y. refl; only = λ y. refl };
    seen = (record { word = block_at h.pool h.block; value = n + 4294967295 } ∷ [], ap (λ (z : View). z.seen) told.0);
    lane_numbers = ap (λ (z : View). z.lane_numbers) told.0;
    serves = λ o. ap (λ (z : View). list_any (is_serve o) z.serves) told.0;
    grown = grown-same v u (ap (λ (z : View). z.contents) told.0);
    read = read-without v u (ref h.pool h.block h.name) (ap (λ (z : View). z.contents) told.0) (ap (λ (z : View). z.hands) told.0) l.holds.read;
    still = still-same v u (ap (λ (z : View). z.fills) told.0) (ap (λ (z : View). z.claims) told.0) (ap (λ (z : View). z.takes) told.0) (ap (λ (z : View). z.gives) told.0) (ap (λ (z : View). z.fresh) told.0) l.holds.still;
    placed = drop-placed (hands_after [] (told_by l.log l.numbers.list v)) v u h.pool h.block h.name left ((n + 4294967295) / 4294967296) l.holds.hands here mine (ap (λ (z : View). z.hands) told.0) (ap (λ (z : View). z.fresh) told.0) used-is place l.holds.placed;
    worn = drop-worn (hands_after [] (told_by l.log l.numbers.list v)) v u h.pool h.block h.name left ((n + 4294967295) / 4294967296) l.holds.hands here mine (ap (λ (z : View). z.hands) told.0) (ap (λ (z : View). z.fresh) told.0) used-is l.sys.now rises (let a = mark-now in let b = end-is in omega arith) l.holds.worn;
    hands_are = drop-hands (hands_after [] (told_by l.log l.numbers.list v)) v u h.pool h.block h.name left ((n + 4294967295) / 4294967296) l.holds.hands here mine (ap (λ (z : View). z.hands) told.0) (ap (λ (z : View). z.fresh) told.0) used-is;
    handled = λ e x. subst (λ qs. IsTrue (has_content qs e)) (sym (ap (λ (z : View). z.contents) told.0)) (subst (λ d. IsTrue (has_content v.contents d)) (sym (held-parts e h.pool h.block h.name (same-equal (token_of e) (Held h.pool h.block h.name) x))) (held-known l h stand));
    borne = and_from _ _ told.1.saw.here (subst (λ xs. was_seen xs (block_at h.pool h.block) (λ x. eqb (x / 4294967296) (n / 4294967296 + 1) && eqb (x % 4294967296) left) ≡ true) (sym (ap (λ (z : View). z.seen) told.0))
        (seen-last v.seen (block_at h.pool h.block) (n + 4294967295) (λ x. eqb (x / 4294967296) (n / 4294967296 + 1) && eqb (x % 4294967296) left) (and_from _ _ (eq-eqb _ _ (let e = end-is in omega arith)) (eq-eqb _ _ left-is))));
  }

  pub dec-kept : LaneGainsRecord (world_of_lane l) l.sys.now l.by l.count l.ceiling l.log l.numbers.list v l.side.seat.me.0 g more u l.side.seat.me.0 l.ceiling last
  dec-kept = table_records_keep_the_lane (world_of_lane l) l.sys.now l.by l.count l.ceiling l.log l.numbers.list v l.side.seat.me.0 g more u r left last w (suc (n / 4294967296)) l.holds put step

  -- what contracts see of it
  pub drops-one : g.spare + 1 ≡ l.log.spare → DropsOne h left (state_view l) (lane_with (world_of_lane l) l.sys.now l.by g more u l.side.seat.me.0)
  unfolding lane_of
  drops-one spare = record {
    number = n / 4294967296;
    adds = record { grows = dec-kept.gains; spare = spare };
    draws = record {
      up = let a = told.1.found.le in let x = mark-was l.sys.now w v u (n + 4294967295) told.1.saw in let y = mark-now in
          let p = place.1 in let b = place.2 in let z = low-mark (block_at h.pool h.block) n (omega arith) in omega arith;
      says = shown-here l.sys.now w v u (n + 4294967295) told.1.saw ∙ ap References left-is;
    };
  }

-- the same, by what was read of the reference
module _ (l : LaneState) (h : Hold) (p b k : ℕ) (same : record { pool = p; block = b; name = k } ≡ h) (stand : StandsHold h (state_view l)) (u : View) (n : ℕ) (g : Log) (more : List ℕ) (r : Rec)
    (told : DropTold l.words.now.shared.key l.by p b k l.seat.me.0 n u) (put : IsPut r (n % 4294967296 - 1) l.log l.numbers.list g more) (is : item_of r ≡ record { of = l.by; body = Dec p b (n / 4294967296) k }) where
  told-of : DropTold l.sys.now l.by h.pool h.block h.name l.seat.me.0 n u
  told-of = subst (λ (x : Hold). DropTold l.sys.now l.by x.pool x.block x.name l.seat.me.0 n u) same (subst (λ s. DropTold s l.by p b k l.seat.me.0 n u) l.key told)

  is-of : item_of r ≡ record { of = l.by; body = Dec h.pool h.block (n / 4294967296) h.name }
  is-of = is ∙ ap (λ (x : Hold). record { of = l.by; body = Dec x.pool x.block (n / 4294967296) x.name }) same

  pub dec-holds : LaneHolds l.sys.now l.count l.ceiling g more u l.side.seat.me.0
  dec-holds = (dec-kept l h u n g more r stand told-of put is-of).holds

  pub dec-drops : (left : ℕ) → n % 4294967296 - 1 ≡ left → g.spare + 1 ≡ l.log.spare → DropsOne h left (state_view l) (lane_with (world_of_lane l) l.sys.now l.by g more u l.side.seat.me.0)
  dec-drops left is spare = subst (λ x. DropsOne h x (state_view l) (lane_with (world_of_lane l) l.sys.now l.by g more u l.side.seat.me.0)) is (drops-one l h u n g more r stand told-of put is-of spare)
