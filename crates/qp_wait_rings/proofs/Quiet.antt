-- What a lane's calls leave of it: its records are a front of the later ones, and all but two calls add neither a post nor a refusal.
use Rattle.std.proofs.Common.{◌≡◌, ℕ, zero, suc, ◌+◌, Bool, true, false, not, ◌||◌, List, [], ◌∷◌, ◌++◌, refl, sym, ◌∙◌, ap, append-nil, Option, Some, None}
use Rattle.std.specs.Bool.{MatchBool}
use Rattle.std.specs.List.{list_all}
use Rattle.qp_model.specs.declared.record.Rec.{Rec}
use Rattle.qp_model.specs.declared.bodies.Body.{Body}
use Rattle.qp_model.specs.declared.bodies.Body.TheVariants.{Post, Lifo, Full, NoEntry, NoLifo, Lock, Nil}
use Rattle.qp_model.specs.declared.words.Word.{Word}
use Rattle.qp_model.specs.declared.words.Word.TheVariants as word
use Rattle.qp_model.specs.Record.{body_of}
use Rattle.qp_model.specs.Told.{Event, Told, ToldItem, for_object, plain}
use Rattle.qp_calls.specs.Tokens.{Hold}
use Rattle.qp_calls.specs.declared.tokens.Fresh.{Fresh}
use Rattle.qp_calls.specs.declared.tokens.HeldEntry.{HeldEntry}
use Rattle.qp_calls.specs.declared.answers.Counts as counts
use Rattle.qp_calls.specs.declared.answers.Give.{Give}
use Rattle.qp_calls.specs.declared.answers.Give.TheVariants as give
use Rattle.qp_calls.specs.declared.answers.Dec.{Dec}
use Rattle.qp_calls.specs.declared.answers.Dec.TheVariants as dec
use Rattle.qp_calls.specs.declared.answers.Claim.{Claim}
use Rattle.qp_calls.specs.declared.answers.Claim.TheVariants as claim
use Rattle.qp_calls.specs.declared.answers.Take.{Take}
use Rattle.qp_calls.specs.declared.answers.Take.TheVariants as take
use Rattle.qp_calls.specs.declared.answers.Arm as arming
use Rattle.qp_calls.specs.declared.answers.Arm.TheVariants as armed
use Rattle.qp_calls.specs.declared.answers.Tick as ticking
use Rattle.qp_calls.specs.declared.answers.Tick.TheVariants as ticked
use Rattle.qp_calls.specs.Clauses.{CallArms, ClaimsEntry, ClaimsFront, Counted, CallDisarms, AddsDrawn, GivesBlock, GoesBack, LetsGo, Makes, MakesMore, ReadsSubscribers, CallRearms, Sees, Stopped, Stops, Subscribing, Takes, AnswersTick, Unsubscribing, entry_of, last_nil, refusal_of, same_counts}
use Rattle.qp_calls.specs.LaneView.{AddsOf, Counts, GrowsOf, LaneView, Looks, NotShown, Roomier, Sets, Shown, ceiling_in}
use Rattle.qp_calls.specs.Notes.{IsNote, MayNote, note_told, told_note}
use Rattle.qp_wait_rings.specs.Records.{has_posted, is_refused, rings_nothing}

-- more records came
pub record Grown (v w : LaneView) : Type 0 where
  pub sys : w.sys ≡ v.sys
  pub ts : List ToldItem
  pub told : w.told ≡ v.told ++ ts

-- and none of them is a post or a refusal
pub record Quietly (v w : LaneView) : Type 0 where
  pub grown : Grown v w
  pub silent : list_all rings_nothing grown.ts ≡ true

pub still-quiet : (v w : LaneView) → w.sys ≡ v.sys → w.told ≡ v.told → Quietly v w
still-quiet v w sys told = record { grown = record { sys = sys; ts = []; told = told ∙ sym (append-nil v.told) }; silent = refl }

pub same-quiet : (v w : LaneView) → w ≡ v → Quietly v w
same-quiet v w is = still-quiet v w (ap (λ u. u.sys) is) (ap (λ u. u.told) is)

-- a record that is neither
abbrev pub is_quiet : Body → Bool
is_quiet b = not (has_posted b || is_refused b)

pub gains-quiet : (o : ℕ) (t : Told) (v w : LaneView) → GrowsOf o (t ∷ []) v w → is_quiet t.body ≡ true → Quietly v w
gains-quiet o t v w g quiet = record { grown = record { sys = g.sys; ts = for_object o t ∷ []; told = g.told }; silent = rw quiet refl }

pub adds-quiet : (o : ℕ) (t : Told) (v w : LaneView) → AddsOf o (t ∷ []) v w → is_quiet t.body ≡ true → Quietly v w
adds-quiet o t v w adds quiet = gains-quiet o t v w adds.grows quiet

pub looks-quiet : (x : Word) (n : ℕ) (s : Shown) (v w : LaneView) → Looks x n s v w → Quietly v w
looks-quiet x n s v w looks = still-quiet v w looks.sys looks.told

-- Call by call.

pub room-quiet : (v w : LaneView) → Roomier v w → Quietly v w
room-quiet v w room = still-quiet v w (ap (λ u. u.sys) room.same) (ap (λ u. u.told) room.same)

pub by-quiet : (o : ℕ) (v w : LaneView) → Sets o v w → Quietly v w
by-quiet o v w sets = still-quiet v w (ap (λ u. u.sys) sets) (ap (λ u. u.told) sets)

told-body : (c : ℕ) (b : Body) → (note_told c b).body ≡ b
told-body c (Lock x) = refl
told-body c _ = refl

note-body : (b : Body) (v : LaneView) → IsNote b v → is_quiet b ≡ true
note-body (Post to f l m e) v h = absurd (let no = h.0 in cc)
note-body (Lifo f l m e) v h = absurd (let no = h.0 in cc)
note-body (Full to f l m k) v h = absurd (let no = h.0 in cc)
note-body (NoEntry to f l m) v h = absurd (let no = h.0 in cc)
note-body (NoLifo a f l m) v h = absurd (let no = h.0 in cc)
note-body _ v h = refl

pub note-quiet : (r : Rec) (v w : LaneView) → MayNote r v → GrowsOf r.of (told_note r v) v w → Quietly v w
unfolding MayNote told_note
note-quiet r v w may grown = gains-quiet r.of (note_told (ceiling_in 0 v.told) (body_of r)) v w grown (rw (told-body (ceiling_in 0 v.told) (body_of r)) (note-body (body_of r) v may))

pub give-quiet : (pool : ℕ) (reserve : Option ℕ) (ev : Event) (v w : LaneView) (r : Give) → GivesBlock pool reserve ev v w r → Quietly v w
give-quiet pool reserve ev v w (give.Given f) h = adds-quiet v.by _ v w h.adds refl
give-quiet pool (Some k) ev v w (give.Short n free) h = adds-quiet v.by _ v w h.adds refl
give-quiet pool None ev v w (give.Short n free) h = adds-quiet v.by _ v w h.adds refl

pub first-quiet : (p b n : ℕ) (v w : LaneView) (h : Hold) → Makes p b n v w h → Quietly v w
first-quiet p b n v w h makes = adds-quiet v.by _ v w makes.adds refl

pub inc-quiet : (h : Hold) (v w : LaneView) (made : Hold) → MakesMore h v w made → Quietly v w
inc-quiet h v w made more = adds-quiet v.by _ v w more.makes.adds refl

pub dec-quiet : (h : Hold) (v w : LaneView) (r : Dec) → LetsGo h v w r → Quietly v w
dec-quiet h v w dec.Kept goes = adds-quiet v.by _ v w goes.1.adds refl
dec-quiet h v w (dec.Last f) goes = adds-quiet v.by _ v w goes.0.adds refl

pub back-quiet : (f : Fresh) (v w : LaneView) → GoesBack f v w → Quietly v w
back-quiet f v w back = adds-quiet v.by _ v w back.adds refl

pub take-quiet : (me : ℕ) (v w : LaneView) (r : Take) → Takes me v w r → Quietly v w
take-quiet me v w (take.Taken e) t = adds-quiet me _ v w t.adds refl
take-quiet me v w (take.Empty f l m) t = by (same_counts (last_nil me NotShown v.told) f l m) t.adds
  where
    by : (b : Bool) → MatchBool b (Looks (word.Queue me) (f + l + m) (Counts f l m) v w) (AddsOf me (plain (Nil f l m) ∷ []) v w) → Quietly v w
    by true looks = looks-quiet (word.Queue me) (f + l + m) (Counts f l m) v w looks
    by false adds = adds-quiet me (plain (Nil f l m)) v w adds refl

pub seen-quiet : (p : ℕ) (v w : LaneView) (c : counts.Counts) → Sees p v w c → Quietly v w
seen-quiet p v w c sees = adds-quiet 0 _ v w sees.0 refl

pub counts-quiet : (p : ℕ) (v w : LaneView) (c : counts.Counts) → Counted p v w c → Quietly v w
counts-quiet p v w c counted = looks-quiet _ _ _ v w counted.0

does-quiet : (x : Word) (t : ℕ → Told) (v w : LaneView) → ((n : ℕ) → is_quiet (t n).body ≡ true) → AddsDrawn x t v w → Quietly v w
does-quiet x t v w quiet does = adds-quiet v.by (t does.0) v w does.1 (quiet does.0)

pub subscribe-quiet : (sig : ℕ) (v w : LaneView) (r : Bool) → Subscribing sig v w r → Quietly v w
subscribe-quiet sig v w true h = does-quiet _ _ v w (λ n. refl) h
subscribe-quiet sig v w false h = adds-quiet v.by _ v w h.1 refl

pub unsubscribe-quiet : (sig : ℕ) (v w : LaneView) (r : Bool) → Unsubscribing sig v w r → Quietly v w
unsubscribe-quiet sig v w true h = does-quiet _ _ v w (λ n. refl) h
unsubscribe-quiet sig v w false h = adds-quiet v.by _ v w h.1 refl

pub reads-quiet : (sig : ℕ) (v w : LaneView) (set : ℕ) → ReadsSubscribers sig v w set → Quietly v w
reads-quiet sig v w set h = adds-quiet v.by _ v w h.1 refl

pub arm-quiet : (t ticks interval : ℕ) (v w : LaneView) (r : arming.Arm) → CallArms t ticks interval v w r → Quietly v w
arm-quiet t ticks interval v w armed.Done h = does-quiet _ _ v w (λ n. refl) h
arm-quiet t ticks interval v w (armed.Armed n c) h = adds-quiet v.by _ v w h.0 refl

pub disarm-quiet : (t : ℕ) (v w : LaneView) (former : ℕ) → CallDisarms t v w former → Quietly v w
disarm-quiet t v w zero h = adds-quiet v.by _ v w h.1 refl
disarm-quiet t v w (suc c) h = does-quiet _ _ v w (λ n. refl) h

pub rearm-quiet : (t ticks : ℕ) (v w : LaneView) (former : ℕ) → CallRearms t ticks v w former → Quietly v w
rearm-quiet t ticks v w former h = does-quiet _ _ v w (λ n. refl) h

pub tick-quiet : (t : ℕ) (v w : LaneView) (r : ticking.Tick) → AnswersTick t v w r → Quietly v w
tick-quiet t v w ticked.Idle h = adds-quiet v.by _ v w h.1 refl
tick-quiet t v w ticked.Down h = adds-quiet 0 _ v w h.2.1 refl
tick-quiet t v w ticked.Fired h = adds-quiet 0 _ v w h.1.1 refl

pub stop-quiet : (code : ℕ) (v w : LaneView) → Stops code v w → Quietly v w
stop-quiet code v w stops = still-quiet v w (ap (λ u. u.sys) stops) (ap (λ u. u.told) stops)

pub stopped-quiet : (v w : LaneView) (r : Option ℕ) → Stopped v w r → Quietly v w
stopped-quiet v w None h = still-quiet v w (ap (λ u. u.sys) h.0) (ap (λ u. u.told) h.0)
stopped-quiet v w (Some code) h = still-quiet v w (ap (λ u. u.sys) h.0) (ap (λ u. u.told) h.0)

-- The two calls that post.

pub claim-grown : (to : ℕ) (e : HeldEntry) (margin : Option ℕ) (v w : LaneView) (r : Claim) → ClaimsEntry to e margin v w r → Grown v w
claim-grown to e margin v w claim.Done h = record { sys = h.adds.grows.sys; ts = for_object v.by (plain (Post to h.f h.l h.m (entry_of e))) ∷ []; told = h.adds.grows.told }
claim-grown to e margin v w (claim.Short same f l m) h = record { sys = h.adds.grows.sys; ts = for_object v.by (plain (refusal_of margin to f l m)) ∷ []; told = h.adds.grows.told }

pub lifo-grown : (e : HeldEntry) (v w : LaneView) (r : Claim) → ClaimsFront e v w r → Grown v w
lifo-grown e v w claim.Done h = record { sys = h.adds.grows.sys; ts = for_object v.by (plain (Lifo h.f h.l h.m (entry_of e))) ∷ []; told = h.adds.grows.told }
lifo-grown e v w (claim.Short same f l m) h = record { sys = h.adds.grows.sys; ts = for_object v.by (plain (NoLifo v.by f l m)) ∷ []; told = h.adds.grows.told }
