-- The calls on queues do what their clauses say.
use Rattle.std.proofs.Common.{◌≡◌, ℕ, suc, ◌+◌, ◌-◌, ◌≤◌, false, List, [], ◌∷◌, ◌++◌, length, refl, sym, ◌∙◌, ap, arith, inl, inr, Option, Some, None}
use Rattle.std.specs.Option.{unwrap_or}
use Rattle.std.proofs.lemmas.Bool.{lt-ltb}
use Rattle.qp_model.specs.declared.record.Rec.{Rec}
use Rattle.qp_model.specs.declared.words.Word.TheVariants as word
use Rattle.qp_model.specs.declared.systems.System.{System}
use Rattle.qp_model.specs.declared.bodies.Body.{Body}
use Rattle.qp_model.specs.declared.bodies.Body.TheVariants.{Nil, Seen, Post, Lifo, NoLifo}
use Rattle.qp_model.specs.Told.{plain}
use Rattle.qp_model.specs.History.{Draws, touch_of, drawn_on, total, all_items}
use Rattle.qp_model.specs.Line.{Line}
use Rattle.qp_model.specs.Sites.{ring_of}
use Rattle.qp_model.specs.Parts.{room_before}
use Rattle.qp_model.specs.Knowing.{known_of, told}
use Rattle.qp_calls.specs.declared.tokens.HeldEntry.{HeldEntry}
use Rattle.qp_calls.specs.declared.tokens.HeldEntry.TheVariants as token
use Rattle.qp_calls.specs.LaneView.{LaneView, Purse, Counts, Looks}
use Rattle.qp_calls.specs.Tokens.{Held}
use Rattle.qp_calls.specs.Clauses.{EntryStands, ShowsQueue, entry_of, refusal_of}
use Rattle.qp_plain_sound.specs.WordStates.{line_in}
use Rattle.qp_plain_sound.specs.Sound.{SoundWorld, facts_in, hands_in, names_block}
use Rattle.qp_plain_sound.specs.May.{May, IsQueue, IsOwned}
use Rattle.qp_plain_sound.specs.View.{view_of, shown_in, counts_of}
use Rattle.qp_plain_sound.specs.Step.{WorldStep, Extends, MayCome, before, hands_before}
use Rattle.qp_plain_sound.specs.Calls.{ClaimIsDone, ClaimIsRefused, LifoIsDone, LifoIsRefused, TakeTellsNone, TakeFindsNone, SeenIsDone, CountsAreRead}
use Rattle.qp_plain_sound.proofs.Times.{all-stands}
use Rattle.qp_plain_sound.proofs.Standing.{line-in}
use Rattle.qp_plain_sound.proofs.NextLemmas.{queue_total}
use Rattle.qp_plain_sound.proofs.CallParts.{adds, draws-up, line-after, line-same}
use Rattle.qp_model.proofs.LineLemmas.{same_number}
use Rattle.qp_model.proofs.NumberLemmas.{not-zero}

-- an entry that may be handed in may be posted
owned : (s : WorldStep) (e : HeldEntry) → SoundWorld s.sys s.lanes s.order → EntryStands e (before s) → IsOwned s.sys (hands_before s) (entry_of e)
unfolding entry_of view_of
owned s (token.Static sig) world h = record { good = rw h refl; token = inl refl }
owned s (token.Pool k) world h =
    let block = all-stands (names_block s.sys) (Held k.pool k.block k.name) (hands_before s) world.sound.tokens h.1 in
    record { good = rw (not-zero k.pool h.0) block; token = inr h.1 }

-- the free entries of a queue are those of its counts
pub room-is : (s : WorldStep) (a f l m : ℕ) → SoundWorld s.sys s.lanes s.order → IsQueue s.sys s.lanes a f l m
    → (length (line_in s.sys s.lanes a).entries + m ≡ f + l) × (length (line_in s.sys s.lanes a).entries ≤ ring_of s.sys a + 1)
room-is s a f l m world q =
    let line = line-in s.sys s.lanes world.sound.words a q.object in
    (rw (q.firsts, q.lasts, q.takes) line.counted, line.fits)

-- what a queue shows at its counts
pub shows : (s : WorldStep) (a f l m : ℕ) (sys : System) (lanes : List (List Rec)) (order : List ℕ) (spare : ℕ) → line_in sys lanes a ≡ record { entries = (line_in sys lanes a).entries; f = f; l = l; m = m }
    → ShowsQueue a f l m (view_of sys lanes order s.at spare s.by s.stops s.answered s.purses)
unfolding view_of shown_in
shows s a f l m sys lanes order spare is = record {
  says = ap counts_of is;
  own = λ serves. (sym (ap (λ x. x.l) is), sym (ap (λ x. x.m) is));
}

-- An entry is posted.
module _ (s : WorldStep) (to f l m : ℕ) (e : HeldEntry) (ext : Extends s s.by (Post to (f + 1) l m (entry_of e))) (stand : EntryStands e (before s)) (q : IsQueue s.sys s.lanes to f l m)
    (room : length (line_in s.sys s.lanes to).entries ≤ ring_of s.sys to) where
  abbrev post : Body
  post = Post to (f + 1) l m (entry_of e)

  post_may : MayCome s s.by post
  unfolding May
  post_may = (f, refl, record { queue = q; room = room; owned = owned s e ext.world stand })

  post_draws : touch_of s.by post ≡ Draws (word.Queue to) (suc (total (word.Queue to) (all_items s.lanes)))
  post_draws =
      let t = queue_total s.sys s.lanes ext.world.sound.words (hands_before s) to f l m q in
      ap (Draws (word.Queue to)) (omega (arith, t))

  post_told : (c : ℕ) → told (facts_in s.sys s.more) s.by c post ≡ plain post
  unfolding told known_of
  post_told c = refl

  post_line : line_in s.sys s.more to ≡ record { entries = (line_in s.sys s.more to).entries; f = f + 1; l = l; m = m }
  post_line = with_counts (line-after s s.by post ext.world ext.grown ext.says post_may to q.object post_draws)
    where
      with_counts : {n : Line} → n ≡ record { entries = (line_in s.sys s.lanes to).entries ++ entry_of e ∷ []; f = (line_in s.sys s.lanes to).f + 1; l = (line_in s.sys s.lanes to).l; m = (line_in s.sys s.lanes to).m }
          → n ≡ record { entries = n.entries; f = f + 1; l = l; m = m }
      with_counts is = is ∙ rw (is, q.firsts, q.lasts, q.takes) refl

pub claim-done : ClaimIsDone
unfolding view_of room_before
claim-done s to f l m e margin ext stand q enough =
    let counted = room-is s to f l m ext.world q in
    let room : length (line_in s.sys s.lanes to).entries ≤ ring_of s.sys to = omega (arith, enough) in
    record {
      f = f + 1;
      l = l;
      m = m;
      adds = adds s s.by (Post to (f + 1) l m (entry_of e)) ext.world ext.grown ext.says (post_may s to f l m e ext stand q room) ext.less _ (post_told s to f l m e ext stand q room);
      enough = lt-ltb _ _ (omega (arith, enough, counted.0));
      up = draws-up s s.by (Post to (f + 1) l m (entry_of e)) ext.world ext.grown ext.says (post_may s to f l m e ext stand q room) (word.Queue to) (same_number to) (post_draws s to f l m e ext stand q room);
      shows = shows s to (f + 1) l m s.sys s.more s.longer s.left (post_line s to f l m e ext stand q room);
    }

-- A queue is shown as it stands: the record draws nothing.
module _ (s : WorldStep) (a f l m : ℕ) (o : ℕ) (b : Body) (world : SoundWorld s.sys s.lanes s.order) (q : IsQueue s.sys s.lanes a f l m) where
  still_line : (now : Line) → now ≡ line_in s.sys s.lanes a → now ≡ record { entries = now.entries; f = f; l = l; m = m }
  still_line now is = is ∙ rw (is, q.firsts, q.lasts, q.takes) refl

-- No entry is posted.
refusal_may : (s : WorldStep) (to f l m : ℕ) (margin : Option ℕ) → SoundWorld s.sys s.lanes s.order → IsQueue s.sys s.lanes to f l m
    → ring_of s.sys to + 1 - length (line_in s.sys s.lanes to).entries ≤ unwrap_or margin 0 → MayCome s s.by (refusal_of margin to f l m)
unfolding May
refusal_may s to f l m (Some k) world q few = let is = room-is s to f l m world q in (q, omega (arith, few, is.0))
refusal_may s to f l m None world q few = let is = room-is s to f l m world q in (q, omega (arith, few, is.0, is.1))

refusal_told : (s : WorldStep) (to f l m c : ℕ) (margin : Option ℕ) → told (facts_in s.sys s.more) s.by c (refusal_of margin to f l m) ≡ plain (refusal_of margin to f l m)
unfolding told known_of
refusal_told s to f l m c (Some k) = refl
refusal_told s to f l m c None = refl

refusal_off : (a to f l m o : ℕ) (margin : Option ℕ) → drawn_on (word.Queue a) (touch_of o (refusal_of margin to f l m)) ≡ false
refusal_off a to f l m o (Some k) = refl
refusal_off a to f l m o None = refl

pub claim-refused : ClaimIsRefused
unfolding view_of
claim-refused s to f l m e margin ext q few =
    let may = refusal_may s to f l m margin ext.world q few in
    let is = room-is s to f l m ext.world q in
    record {
      adds = adds s s.by (refusal_of margin to f l m) ext.world ext.grown ext.says may ext.less _ (λ c. refusal_told s to f l m c margin);
      given_back = refl;
      few = omega (arith, few, is.0);
      shows = shows s to f l m s.sys s.more s.longer s.left
          (still_line s to f l m s.by (refusal_of margin to f l m) ext.world q (line_in s.sys s.more to)
          (line-same s s.by (refusal_of margin to f l m) ext.world ext.grown ext.says may to (refusal_off to to f l m s.by margin)));
    }

-- An entry is posted last-in.
module _ (s : WorldStep) (f l m : ℕ) (e : HeldEntry) (ext : Extends s s.by (Lifo f (l + 1) m (entry_of e))) (stand : EntryStands e (before s)) (q : IsQueue s.sys s.lanes s.by f l m)
    (room : length (line_in s.sys s.lanes s.by).entries ≤ ring_of s.sys s.by) where
  abbrev front : Body
  front = Lifo f (l + 1) m (entry_of e)

  lifo_may : MayCome s s.by front
  unfolding May
  lifo_may = (l, refl, record { queue = q; room = room; owned = owned s e ext.world stand })

  lifo_draws : touch_of s.by front ≡ Draws (word.Queue s.by) (suc (total (word.Queue s.by) (all_items s.lanes)))
  lifo_draws =
      let t = queue_total s.sys s.lanes ext.world.sound.words (hands_before s) s.by f l m q in
      ap (Draws (word.Queue s.by)) (omega (arith, t))

  lifo_told : (c : ℕ) → told (facts_in s.sys s.more) s.by c front ≡ plain front
  unfolding told known_of
  lifo_told c = refl

  lifo_line : line_in s.sys s.more s.by ≡ record { entries = (line_in s.sys s.more s.by).entries; f = f; l = l + 1; m = m }
  lifo_line = with_counts (line-after s s.by front ext.world ext.grown ext.says lifo_may s.by q.object lifo_draws)
    where
      with_counts : {n : Line}
          → n ≡ record { entries = entry_of e ∷ (line_in s.sys s.lanes s.by).entries; f = (line_in s.sys s.lanes s.by).f; l = (line_in s.sys s.lanes s.by).l + 1; m = (line_in s.sys s.lanes s.by).m }
          → n ≡ record { entries = n.entries; f = f; l = l + 1; m = m }
      with_counts is = is ∙ rw (is, q.firsts, q.lasts, q.takes) refl

pub lifo-done : LifoIsDone
unfolding view_of
lifo-done s f l m e ext stand q room =
    let counted = room-is s s.by f l m ext.world q in
    record {
      f = f;
      l = l + 1;
      m = m;
      adds = adds s s.by (Lifo f (l + 1) m (entry_of e)) ext.world ext.grown ext.says (lifo_may s f l m e ext stand q room) ext.less _ (lifo_told s f l m e ext stand q room);
      enough = omega (arith, room, counted.0);
      up = draws-up s s.by (Lifo f (l + 1) m (entry_of e)) ext.world ext.grown ext.says (lifo_may s f l m e ext stand q room) (word.Queue s.by) (same_number s.by) (lifo_draws s f l m e ext stand q room);
      shows = shows s s.by f (l + 1) m s.sys s.more s.longer s.left (lifo_line s f l m e ext stand q room);
    }

no_lifo_told : (s : WorldStep) (a f l m c : ℕ) → told (facts_in s.sys s.more) s.by c (NoLifo a f l m) ≡ plain (NoLifo a f l m)
unfolding told known_of
no_lifo_told s a f l m c = refl

pub lifo-refused : LifoIsRefused
unfolding view_of May
lifo-refused s f l m e ext q full =
    let is = room-is s s.by f l m ext.world q in
    let all : f + l - m ≡ ring_of s.sys s.by + 1 = omega (arith, full, is.0) in
    let may : MayCome s s.by (NoLifo s.by f l m) = (q, all) in
    record {
      adds = adds s s.by (NoLifo s.by f l m) ext.world ext.grown ext.says may ext.less _ (λ c. no_lifo_told s s.by f l m c);
      given_back = refl;
      full = all;
      shows = shows s s.by f l m s.sys s.more s.longer s.left
          (still_line s s.by f l m s.by (NoLifo s.by f l m) ext.world q (line_in s.sys s.more s.by) (line-same s s.by (NoLifo s.by f l m) ext.world ext.grown ext.says may s.by refl));
    }

-- The queue is seen.
seen_told : (s : WorldStep) (o p f l m c : ℕ) → told (facts_in s.sys s.more) o c (Seen p f l m) ≡ plain (Seen p f l m)
unfolding told known_of
seen_told s o p f l m c = refl

pub seen-done : SeenIsDone
unfolding view_of May
seen-done s p c ext q =
    let may : MayCome s 0 (Seen p c.f c.l c.m) = q in (
      adds s 0 (Seen p c.f c.l c.m) ext.world ext.grown ext.says may ext.less _ (λ x. seen_told s 0 p c.f c.l c.m x),
      shows s p c.f c.l c.m s.sys s.more s.longer s.left
          (still_line s p c.f c.l c.m 0 (Seen p c.f c.l c.m) ext.world q (line_in s.sys s.more p) (line-same s 0 (Seen p c.f c.l c.m) ext.world ext.grown ext.says may p refl)),
      omega (arith, (room-is s p c.f c.l c.m ext.world q).0),
    )

-- It is looked at, and nothing is added.
module _ (sys : System) (lanes : List (List Rec)) (order : List ℕ) (at spare by : ℕ) (stops answered : List ℕ) (purses : List Purse) (world : SoundWorld sys lanes order)
    (a f l m : ℕ) (q : IsQueue sys lanes a f l m) where
  abbrev view : LaneView
  view = view_of sys lanes order at spare by stops answered purses

  count_is : f + l + m ≡ total (word.Queue a) (all_items lanes)
  count_is = queue_total sys lanes world.sound.words (hands_in sys lanes order) a f l m q

  line_is : line_in sys lanes a ≡ record { entries = (line_in sys lanes a).entries; f = f; l = l; m = m }
  line_is = rw (q.firsts, q.lasts, q.takes) refl

  looks : Looks (word.Queue a) (f + l + m) (Counts f l m) view view
  unfolding view_of shown_in
  looks = record {
    world = refl;
    sys = refl;
    told = refl;
    spare = refl;
    by = refl;
    serves = λ o. refl;
    stops = refl;
    answered = refl;
    asked = refl;
    here = sym count_is;
    rise = omega (arith, count_is);
    mark = λ v other. refl;
    says = ap counts_of line_is;
    shown = λ v same. refl;
    own = λ o. refl;
    event = λ e known. refl;
    hands = refl;
    plan = refl;
    happened = refl;
    lane = refl;
    log = refl;
    aside = refl;
  }

  shows_now : ShowsQueue a f l m view
  unfolding view_of shown_in
  shows_now = record {
    says = ap counts_of line_is;
    own = λ serves. (sym (ap (λ x. x.l) line_is), sym (ap (λ x. x.m) line_is));
  }

pub counts-read : CountsAreRead
counts-read sys lanes order at spare by stops answered purses p c world q =
    let line = line-in sys lanes world.sound.words p q.object in (
      looks sys lanes order at spare by stops answered purses world p c.f c.l c.m q,
      shows_now sys lanes order at spare by stops answered purses world p c.f c.l c.m q,
      omega (arith, line.counted, q.firsts, q.lasts, q.takes),
    )

empty-counts : (sys : System) (lanes : List (List Rec)) (order : List ℕ) (me f l m : ℕ) → SoundWorld sys lanes order → IsQueue sys lanes me f l m → (line_in sys lanes me).entries ≡ [] → f + l ≡ m
empty-counts sys lanes order me f l m world q empty =
    let line = line-in sys lanes world.sound.words me q.object in
    let none : length (line_in sys lanes me).entries ≡ 0 = ap length empty in
    rw (q.firsts, q.lasts, q.takes) (omega (arith, line.counted, none))

pub take-finds_none : TakeFindsNone
take-finds_none sys lanes order at spare by stops answered purses me f l m world q empty same = record {
  adds = rw same (looks sys lanes order at spare by stops answered purses world me f l m q);
  empty = empty-counts sys lanes order me f l m world q empty;
  shows = shows_now sys lanes order at spare by stops answered purses world me f l m q;
}

nil_told : (s : WorldStep) (o f l m c : ℕ) → told (facts_in s.sys s.more) o c (Nil f l m) ≡ plain (Nil f l m)
unfolding told known_of
nil_told s o f l m c = refl

nil_may : (s : WorldStep) (me f l m : ℕ) → SoundWorld s.sys s.lanes s.order → IsQueue s.sys s.lanes me f l m → (line_in s.sys s.lanes me).entries ≡ [] → MayCome s me (Nil f l m)
unfolding May
nil_may s me f l m world q empty = (q, empty-counts s.sys s.lanes s.order me f l m world q empty)

pub take-tells_none : TakeTellsNone
take-tells_none s me f l m ext q empty other =
    let may = nil_may s me f l m ext.world q empty in
    record {
      adds = rw other (adds s me (Nil f l m) ext.world ext.grown ext.says may ext.less _ (λ c. nil_told s me f l m c));
      empty = empty-counts s.sys s.lanes s.order me f l m ext.world q empty;
      shows = shows s me f l m s.sys s.more s.longer s.left
          (still_line s me f l m me (Nil f l m) ext.world q (line_in s.sys s.more me) (line-same s me (Nil f l m) ext.world ext.grown ext.says may me refl));
    }
