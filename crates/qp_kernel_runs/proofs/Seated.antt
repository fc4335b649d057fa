-- What a call does to a lane it does to the lane with its stimuli and what has happened.
use Rattle.std.proofs.Common.{ℕ, zero, suc, Bool, true, false, List, refl}
use Rattle.std.specs.declared.option.Option.{Option}
use Rattle.std.specs.Bool.{MatchBool}
use Rattle.qp_model.specs.declared.stimulus.Stim.{Stim}
use Rattle.qp_model.specs.declared.words.Word.{Word}
use Rattle.qp_model.specs.Told.{Told, ToldItem, Event}
use Rattle.qp_calls.specs.Tokens.{Hold}
use Rattle.qp_calls.specs.declared.tokens.Fresh.{Fresh}
use Rattle.qp_calls.specs.declared.tokens.HeldEntry.{HeldEntry}
use Rattle.qp_calls.specs.declared.answers.Counts as counts
use Rattle.qp_calls.specs.declared.answers.Give.{Give}
use Rattle.qp_calls.specs.declared.answers.Give.TheVariants as give
use Rattle.qp_calls.specs.declared.answers.Dec.{Dec}
use Rattle.qp_calls.specs.declared.answers.Dec.TheVariants as dec
use Rattle.qp_calls.specs.declared.answers.Claim.{Claim}
use Rattle.qp_calls.specs.declared.answers.Claim.TheVariants as claim
use Rattle.qp_calls.specs.declared.answers.Take.{Take}
use Rattle.qp_calls.specs.declared.answers.Take.TheVariants as take
use Rattle.qp_calls.specs.declared.answers.Arm as arming
use Rattle.qp_calls.specs.declared.answers.Arm.TheVariants as armed
use Rattle.qp_calls.specs.declared.answers.Tick as ticking
use Rattle.qp_calls.specs.declared.answers.Tick.TheVariants as ticked
use Rattle.qp_calls.specs.LaneView.{LaneView, Happening, Shown, NotShown, Gains, GrowsOf, AddsOf, Looks, is_known}
use Rattle.qp_calls.specs.Clauses.{Draws, GivesBlock, Makes, MakesMore, DropsOne, LetsGo, GoesBack, ShowsQueue, ClaimsEntry, ClaimsFront, EventIs, EntryStands, Takes, Sees, Counted, AddsDrawn, Subscribing, Unsubscribing, ReadsSubscribers, CallArms, CallDisarms, CallRearms, AnswersTick, last_nil, same_counts}
use Rattle.qp_calls.specs.declared.tokens.HeldEntry.TheVariants as token
use Rattle.qp_model.specs.declared.bodies.Body.{Body}
use Rattle.qp_model.specs.declared.bodies.Body.TheVariants.{Spill, BadTicks}
use Rattle.qp_model.specs.declared.record.Rec.{Rec}
use Rattle.qp_model.specs.Record.{body_of}
use Rattle.qp_calls.specs.Notes.{IsNote, MayNote, told_note}
use Rattle.qp_kernel_runs.specs.Seating.{seated}

module _ (plan : List (List Stim)) (hs : List Happening) (v w : LaneView) where
  abbrev s : LaneView
  s = seated plan hs v

  abbrev t : LaneView
  t = seated plan hs w

  pub gains : (ts : List ToldItem) → Gains ts v w → Gains ts s t
  unfolding is_known
  gains ts g = record {
    world = g.world;
    sys = g.sys;
    told = g.told;
    by = g.by;
    serves = g.serves;
    stops = g.stops;
    answered = g.answered;
    asked = g.asked;
    mark = g.mark;
    rise = g.rise;
    between = g.between;
    shown = g.shown;
    own = g.own;
    event = λ e known. g.event e known;
    hands = g.hands;
    plan = refl;
    happened = refl;
    lane = g.lane;
    log = g.log;
    aside = g.aside;
  }

  pub adds : (o : ℕ) (g : List Told) → AddsOf o g v w → AddsOf o g s t
  adds o g a = record { grows = gains _ a.grows; spare = a.spare }

  pub looks : (a : Word) (n : ℕ) (x : Shown) → Looks a n x v w → Looks a n x s t
  unfolding is_known
  looks a n x l = record {
    world = l.world;
    sys = l.sys;
    told = l.told;
    spare = l.spare;
    by = l.by;
    serves = l.serves;
    stops = l.stops;
    answered = l.answered;
    asked = l.asked;
    here = l.here;
    rise = l.rise;
    mark = l.mark;
    says = l.says;
    shown = l.shown;
    own = l.own;
    event = λ e known. l.event e known;
    hands = l.hands;
    plan = refl;
    happened = refl;
    lane = l.lane;
    log = l.log;
    aside = l.aside;
  }

  draws : (a : Word) (x : Shown) → Draws a x v w → Draws a x s t
  draws a x d = record { up = d.up; says = d.says }

  shows : (a f l m : ℕ) → ShowsQueue a f l m w → ShowsQueue a f l m t
  shows a f l m x = record { says = x.says; own = x.own }

  pub gives : (pool : ℕ) (reserve : Option ℕ) (ev : Event) (r : Give) → GivesBlock pool reserve ev v w r → GivesBlock pool reserve ev s t r
  gives pool reserve ev (give.Given f) x = record {
    number = x.number;
    from = x.from;
    free = x.free;
    adds = adds _ _ x.adds;
    its_pool = x.its_pool;
    unused = x.unused;
    enough = x.enough;
    draws = draws _ _ x.draws;
    was = x.was;
    bare = x.bare;
  }
  gives pool reserve ev (give.Short n free) x = record { adds = adds _ _ x.adds; few = x.few; says = x.says }

  pub makes : (p b count : ℕ) (h : Hold) → Makes p b count v w h → Makes p b count s t h
  makes p b count h x = record { adds = adds _ _ x.adds; its_pool = x.its_pool; its_block = x.its_block; draws = draws _ _ x.draws }

  pub makes-more : (h made : Hold) → MakesMore h v w made → MakesMore h s t made
  makes-more h made x = record { others = x.others; makes = makes _ _ _ made x.makes; hands = x.hands }

  drops : (h : Hold) (left : ℕ) → DropsOne h left v w → DropsOne h left s t
  drops h left x = record { number = x.number; adds = adds _ _ x.adds; draws = draws _ _ x.draws }

  pub lets-go : (h : Hold) (r : Dec) → LetsGo h v w r → LetsGo h s t r
  lets-go h dec.Kept x = (x.0, drops h (suc x.0) x.1)
  lets-go h (dec.Last f) x = (drops h 0 x.0, x.1, x.2, x.3)

  pub goes-back : (f : Fresh) → GoesBack f v w → GoesBack f s t
  goes-back f x = record { number = x.number; others = x.others; adds = adds _ _ x.adds; draws = draws _ _ x.draws }

  pub claims : (to : ℕ) (e : HeldEntry) (margin : Option ℕ) (r : Claim) → ClaimsEntry to e margin v w r → ClaimsEntry to e margin s t r
  claims to e margin claim.Done x = record { f = x.f; l = x.l; m = x.m; adds = adds _ _ x.adds; enough = x.enough; up = x.up; shows = shows _ _ _ _ x.shows }
  claims to e margin (claim.Short same f l m) x = record { adds = adds _ _ x.adds; given_back = x.given_back; few = x.few; shows = shows _ _ _ _ x.shows }

  pub claims-front : (e : HeldEntry) (r : Claim) → ClaimsFront e v w r → ClaimsFront e s t r
  claims-front e claim.Done x = record { f = x.f; l = x.l; m = x.m; adds = adds _ _ x.adds; enough = x.enough; up = x.up; shows = shows _ _ _ _ x.shows }
  claims-front e (claim.Short same f l m) x = record { adds = adds _ _ x.adds; given_back = x.given_back; full = x.full; shows = shows _ _ _ _ x.shows }

  stands : (e : HeldEntry) → EntryStands e w → EntryStands e t
  stands (token.Static sig) h = h
  stands (token.Pool k) h = h

  fixed : (e : HeldEntry) → EventIs e w → EventIs e t
  fixed (token.Static sig) h = h
  fixed (token.Pool k) h = h

  none : (b : Bool) (a : Word) (n : ℕ) (x : Shown) (o : ℕ) (g : List Told) → MatchBool b (Looks a n x v w) (AddsOf o g v w) → MatchBool b (Looks a n x s t) (AddsOf o g s t)
  none true a n x o g h = looks a n x h
  none false a n x o g h = adds o g h

  pub takes : (me : ℕ) (r : Take) → Takes me v w r → Takes me s t r
  takes me (take.Taken e) x = record {
    f = x.f;
    l = x.l;
    m = x.m;
    adds = adds _ _ x.adds;
    some = x.some;
    up = x.up;
    stands = stands e x.stands;
    event = x.event;
    fixed = fixed e x.fixed;
    shows = shows _ _ _ _ x.shows;
  }
  takes me (take.Empty f l m) x = record {
    adds = none (same_counts (last_nil me NotShown v.told) f l m) _ _ _ _ _ x.adds;
    empty = x.empty;
    shows = shows _ _ _ _ x.shows;
  }

  pub sees : (p : ℕ) (c : counts.Counts) → Sees p v w c → Sees p s t c
  sees p c x = (adds _ _ x.0, shows _ _ _ _ x.1, x.2)

  pub counted : (p : ℕ) (c : counts.Counts) → Counted p v w c → Counted p s t c
  counted p c x = (looks _ _ _ x.0, shows _ _ _ _ x.1, x.2)

  does : (a : Word) (g : ℕ → Told) → AddsDrawn a g v w → AddsDrawn a g s t
  does a g x = (x.0, adds _ _ x.1, x.2)

  pub subscribing : (sig : ℕ) (r : Bool) → Subscribing sig v w r → Subscribing sig s t r
  subscribing sig true x = does _ _ x
  subscribing sig false x = (x.0, adds _ _ x.1)

  pub unsubscribing : (sig : ℕ) (r : Bool) → Unsubscribing sig v w r → Unsubscribing sig s t r
  unsubscribing sig true x = does _ _ x
  unsubscribing sig false x = (x.0, adds _ _ x.1)

  pub reads : (sig set : ℕ) → ReadsSubscribers sig v w set → ReadsSubscribers sig s t set
  reads sig set x = (x.0, adds _ _ x.1, x.2)

  pub arms : (k ticks interval : ℕ) (r : arming.Arm) → CallArms k ticks interval v w r → CallArms k ticks interval s t r
  arms k ticks interval armed.Done x = does _ _ x
  arms k ticks interval (armed.Armed n c) x = (adds _ _ x.0, x.1)

  pub disarms : (k former : ℕ) → CallDisarms k v w former → CallDisarms k s t former
  disarms k zero x = (x.0, adds _ _ x.1)
  disarms k (suc c) x = does _ _ x

  pub rearms : (k ticks former : ℕ) → CallRearms k ticks v w former → CallRearms k ticks s t former
  rearms k ticks former x = does _ _ x

  pub ticks-one : (k : ℕ) (r : ticking.Tick) → AnswersTick k v w r → AnswersTick k s t r
  ticks-one k ticked.Idle x = (x.0, adds _ _ x.1)
  ticks-one k ticked.Down x = (x.0, x.1, (x.2.0, adds _ _ x.2.1, x.2.2))
  ticks-one k ticked.Fired x = (x.0, (x.1.0, adds _ _ x.1.1, x.1.2))

  note : (b : Body) → IsNote b s → IsNote b v
  note (Spill n) h = h
  note (BadTicks i ticks interval) h = h
  note b h = h

  pub may-note : (r : Rec) → MayNote r s → MayNote r v
  unfolding MayNote
  may-note r h = note (body_of r) h

  pub notes : (r : Rec) → GrowsOf r.of (told_note r v) v w → GrowsOf r.of (told_note r s) s t
  unfolding told_note
  notes r g = gains _ g
