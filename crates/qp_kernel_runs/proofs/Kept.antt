-- What is true of the world stays so by each call of lane 0.
use Rattle.std.proofs.Common.{ℕ, zero, suc, Bool, true, false, List}
use Rattle.std.specs.declared.option.Option.{Option}
use Rattle.std.specs.Bool.{MatchBool}
use Rattle.qp_model.specs.declared.words.Word.{Word}
use Rattle.qp_model.specs.Told.{Told, ToldItem, Event}
use Rattle.qp_calls.specs.Tokens.{Hold}
use Rattle.qp_calls.specs.declared.tokens.Fresh.{Fresh}
use Rattle.qp_calls.specs.declared.tokens.HeldEntry.{HeldEntry}
use Rattle.qp_calls.specs.declared.answers.Counts as counts
use Rattle.qp_calls.specs.declared.answers.Give.{Give}
use Rattle.qp_calls.specs.declared.answers.Give.TheVariants as give
use Rattle.qp_calls.specs.declared.answers.Dec.{Dec}
use Rattle.qp_calls.specs.declared.answers.Dec.TheVariants as dec
use Rattle.qp_calls.specs.declared.answers.Claim.{Claim}
use Rattle.qp_calls.specs.declared.answers.Claim.TheVariants as claim
use Rattle.qp_calls.specs.declared.answers.Take.{Take}
use Rattle.qp_calls.specs.declared.answers.Take.TheVariants as take
use Rattle.qp_calls.specs.declared.answers.Arm as arming
use Rattle.qp_calls.specs.declared.answers.Arm.TheVariants as armed
use Rattle.qp_calls.specs.declared.answers.Tick as ticking
use Rattle.qp_calls.specs.declared.answers.Tick.TheVariants as ticked
use Rattle.qp_calls.specs.LaneView.{LaneView, Shown, NotShown, Gains, AddsOf, Looks}
use Rattle.qp_calls.specs.Clauses.{GivesBlock, Makes, MakesMore, LetsGo, GoesBack, ClaimsEntry, ClaimsFront, Takes, Sees, AddsDrawn, Subscribing, Unsubscribing, ReadsSubscribers, CallArms, CallDisarms, CallRearms, AnswersTick, last_nil, same_counts}
use Rattle.qp_plain.specs.declared.world.PlainWorld.{PlainWorld}
use Rattle.qp_plain.specs.WorldView.{world_view}
use Rattle.qp_kernel_runs.specs.declared.world.SimWorld.{SimWorld}
use Rattle.qp_kernel_runs.specs.SimHolds.{SimHolds}
use Rattle.qp_kernel_runs.proofs.Holding.{holds-gains, holds-looks}

module _ (w : SimWorld) (p : PlainWorld) where
  abbrev v : LaneView
  v = world_view w.plain

  abbrev u : LaneView
  u = world_view p

  abbrev pub Still : Type 0
  Still = SimHolds w.stim.now w.begun.items w.last w.halted w.done.list u

  pub gained : (ts : List ToldItem) → Gains ts v u → Still
  gained ts g = holds-gains w.stim.now w.begun.items w.last w.halted w.done.list ts v u g w.holds

  added : (o : ℕ) (g : List Told) → AddsOf o g v u → Still
  added o g a = gained _ a.grows

  looked : (a : Word) (n : ℕ) (x : Shown) → Looks a n x v u → Still
  looked a n x l = holds-looks w.stim.now w.begun.items w.last w.halted w.done.list a n x v u l w.holds

  pub gives : (pool : ℕ) (reserve : Option ℕ) (ev : Event) (r : Give) → GivesBlock pool reserve ev v u r → Still
  gives pool reserve ev (give.Given f) x = added _ _ x.adds
  gives pool reserve ev (give.Short n free) x = added _ _ x.adds

  pub makes : (q b count : ℕ) (h : Hold) → Makes q b count v u h → Still
  makes q b count h x = added _ _ x.adds

  pub makes-more : (h made : Hold) → MakesMore h v u made → Still
  makes-more h made x = added _ _ x.makes.adds

  pub lets-go : (h : Hold) (r : Dec) → LetsGo h v u r → Still
  lets-go h dec.Kept x = added _ _ x.1.adds
  lets-go h (dec.Last f) x = added _ _ x.0.adds

  pub goes-back : (f : Fresh) → GoesBack f v u → Still
  goes-back f x = added _ _ x.adds

  pub claims : (to : ℕ) (e : HeldEntry) (margin : Option ℕ) (r : Claim) → ClaimsEntry to e margin v u r → Still
  claims to e margin claim.Done x = added _ _ x.adds
  claims to e margin (claim.Short same f l m) x = added _ _ x.adds

  pub claims-front : (e : HeldEntry) (r : Claim) → ClaimsFront e v u r → Still
  claims-front e claim.Done x = added _ _ x.adds
  claims-front e (claim.Short same f l m) x = added _ _ x.adds

  none : (b : Bool) (a : Word) (n : ℕ) (x : Shown) (o : ℕ) (g : List Told) → MatchBool b (Looks a n x v u) (AddsOf o g v u) → Still
  none true a n x o g h = looked a n x h
  none false a n x o g h = added o g h

  pub takes : (me : ℕ) (r : Take) → Takes me v u r → Still
  takes me (take.Taken e) x = added _ _ x.adds
  takes me (take.Empty f l m) x = none (same_counts (last_nil me NotShown v.told) f l m) _ _ _ _ _ x.adds

  pub sees : (q : ℕ) (c : counts.Counts) → Sees q v u c → Still
  sees q c x = added _ _ x.0

  does : (a : Word) (g : ℕ → Told) → AddsDrawn a g v u → Still
  does a g x = added _ _ x.1

  pub subscribing : (sig : ℕ) (r : Bool) → Subscribing sig v u r → Still
  subscribing sig true x = does _ _ x
  subscribing sig false x = added _ _ x.1

  pub unsubscribing : (sig : ℕ) (r : Bool) → Unsubscribing sig v u r → Still
  unsubscribing sig true x = does _ _ x
  unsubscribing sig false x = added _ _ x.1

  pub reads : (sig set : ℕ) → ReadsSubscribers sig v u set → Still
  reads sig set x = added _ _ x.1

  pub arms : (k ticks interval : ℕ) (r : arming.Arm) → CallArms k ticks interval v u r → Still
  arms k ticks interval armed.Done x = does _ _ x
  arms k ticks interval (armed.Armed n c) x = added _ _ x.0

  pub disarms : (k former : ℕ) → CallDisarms k v u former → Still
  disarms k zero x = added _ _ x.1
  disarms k (suc c) x = does _ _ x

  pub rearms : (k ticks former : ℕ) → CallRearms k ticks v u former → Still
  rearms k ticks former x = does _ _ x

  pub ticks-one : (k : ℕ) (r : ticking.Tick) → AnswersTick k v u r → Still
  ticks-one k ticked.Idle x = added _ _ x.1
  ticks-one k ticked.Down x = added _ _ x.2.1
  ticks-one k ticked.Fired x = added _ _ x.1.1
