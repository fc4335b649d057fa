-- What a test may go on with after a call.
use Rattle.std.proofs.Common.{◌≡◌, ℕ, zero, suc, ◌<◌, ◌&&◌, Bool, true, false, List, [], ◌∷◌, Option, Some, None, Ok, Err, refl, sym, ◌∙◌, subst, arith}
use Rattle.std.specs.declared.result.Result.{Result}
use Rattle.qp_model.specs.declared.systems.System.{System}
use Rattle.qp_model.specs.declared.record.Rec.{Rec}
use Rattle.qp_model.specs.declared.bodies.Entry as model
use Rattle.qp_model.specs.declared.bodies.Body.TheVariants.{BadTicks, Done, Say}
use Rattle.qp_model.specs.Record.{item_of}
use Rattle.qp_model.specs.Shapes.{ticks_fit}
use Rattle.std.specs.List.{list_all}
use Rattle.std.proofs.lemmas.Bool.{and_parts}
use Rattle.qp_calls.specs.declared.tokens.HeldEntry.{HeldEntry}
use Rattle.qp_calls.specs.declared.deferred.Deferred.{Deferred}
use Rattle.qp_calls.specs.declared.answers.RoomFault.{RoomFault}
use Rattle.qp_calls.specs.Notes.{MayNote, told_note}
use Rattle.qp_calls.specs.Deferring.{AnswersKept, DefersCall, FlushesAll, is_named, kept_in, tokens_in}
use Rattle.qp_calls.proofs.CountLemmas.{count-with, stand-same}
use Rattle.std.specs.Result.{OnOk, result_ok}
use Rattle.qp_model.specs.Calls.{Call}
use Rattle.qp_model.specs.Told.{Told}
use Rattle.qp_model.proofs.RecordLemmas.{body-is}
use Rattle.qp_calls.specs.declared.did.Did.{Did}
use Rattle.qp_calls.specs.declared.answers.Arm as arming
use Rattle.qp_calls.specs.declared.answers.Arm.TheVariants as armed
use Rattle.qp_calls.specs.LaneView.{LaneView, GrowsOf, Roomier}
use Rattle.qp_calls.specs.Tokens.{hands_after, hands_by}
use Rattle.qp_calls.specs.Clauses.{CallArms, entry_of, CallDisarms, CallRearms, Subscribing, Unsubscribing}
use Rattle.qp_calls.specs.Entries.{is_value}
use Rattle.qp_calls.specs.Groups.{CallAnswers, CallReturns}
use Rattle.qp_plain_tests.specs.Desk.{GoesOnAfter, MayGoOn, StaysSteady, Steady}

pub answers-steady : (sys : System) (o : ℕ) (now : Option model.Entry) (c : Call) (d : Did) (v w : LaneView) → CallAnswers sys o now c d v w → is_value d ≡ true → Steady v w
answers-steady sys o now c d v w a value = record { sys = a.grows.sys; serves = a.grows.serves; hands = a.hands value }

-- one record more, which is of no token, where there was room
pub steady-by : (o : ℕ) (t : Told) (u v w : LaneView) → Roomier u v → GrowsOf o (t ∷ []) v w → hands_by v.hands t ≡ v.hands → Steady u w
unfolding hands_after
steady-by o t u v w room grows same = record {
  sys = grows.sys ∙ rw room.same refl;
  serves = λ p. grows.serves p ∙ rw room.same refl;
  hands = grows.hands ∙ same ∙ rw room.same refl;
}

pub subscribed-steady : (sig : ℕ) (u v w : LaneView) (b : Bool) → Roomier u v → Subscribing sig v w b → Steady u w
unfolding hands_by
subscribed-steady sig u v w true room s = steady-by v.by _ u v w room s.1.grows refl
subscribed-steady sig u v w false room s = steady-by v.by _ u v w room s.1.grows refl

pub unsubscribed-steady : (sig : ℕ) (u v w : LaneView) (b : Bool) → Roomier u v → Unsubscribing sig v w b → Steady u w
unfolding hands_by
unsubscribed-steady sig u v w true room s = steady-by v.by _ u v w room s.1.grows refl
unsubscribed-steady sig u v w false room s = steady-by v.by _ u v w room s.1.grows refl

pub armed-steady : (t n i : ℕ) (u v w : LaneView) (a : arming.Arm) → Roomier u v → CallArms t n i v w a → Steady u w
unfolding hands_by
armed-steady t n i u v w armed.Done room s = steady-by v.by _ u v w room s.1.grows refl
armed-steady t n i u v w (armed.Armed k c) room s = steady-by v.by _ u v w room s.0.grows refl

pub disarmed-steady : (t : ℕ) (u v w : LaneView) (former : ℕ) → Roomier u v → CallDisarms t v w former → Steady u w
unfolding hands_by
disarmed-steady t u v w zero room s = steady-by v.by _ u v w room s.1.grows refl
disarmed-steady t u v w (suc c) room s = steady-by v.by _ u v w room s.1.grows refl

pub rearmed-steady : (t n : ℕ) (u v w : LaneView) (former : ℕ) → Roomier u v → CallRearms t n v w former → Steady u w
unfolding hands_by
rearmed-steady t n u v w former room s = steady-by v.by _ u v w room s.1.grows refl

-- Notes.

pub may-refuse : (o t : ℕ) (r : Rec) (v : LaneView) → item_of r ≡ record { of = o; body = BadTicks t 0 0 } → 0 < v.spare → MayNote r v
unfolding MayNote ticks_fit
may-refuse o t r v is some = rw (body-is o (BadTicks t 0 0) r is) (refl, some)

pub said-steady : (o x : ℕ) (r : Rec) (u v w : LaneView) → item_of r ≡ record { of = o; body = Say x } → Roomier u v → GrowsOf r.of (told_note r v) v w → Steady u w
unfolding hands_by told_note
said-steady o x r u v w is room grows = steady-by r.of _ u v w room grows (rw (body-is o (Say x) r is) refl)

pub done-steady : (o : ℕ) (r : Rec) (u v w : LaneView) → item_of r ≡ record { of = o; body = Done } → Roomier u v → GrowsOf r.of (told_note r v) v w → Steady u w
unfolding hands_by told_note
done-steady o r u v w is room grows = steady-by r.of _ u v w room grows (rw (body-is o Done r is) refl)

-- Going on.

pub both : (x y : Bool) → x ≡ true → y ≡ true → (x && y) ≡ true
both x y h k = rw (h, k) refl

pub ok-of : {T E : Type 0} (P : Type 0) (x : T) (r : Result T E) → Some x ≡ result_ok r → OnOk r P → P
ok-of P x (Ok y) e h = h
ok-of P x (Err f) e h = absurd (cc)

pub steady-goes : (sys : System) (entries : List HeldEntry) (v w : LaneView) → MayGoOn sys entries v → Steady v w → MayGoOn sys entries w
steady-goes sys entries v w may s = record {
  sound = may.sound;
  its = s.sys ∙ may.its;
  serves = λ o. rw (s.serves o) (may.serves o);
  stand = stand-same entries v w may.stand s.hands s.sys;
}

pub goes-steady : (sys : System) (now : HeldEntry) (list : Deferred) (v w : LaneView) (d : Option Did) → MayGoOn sys (now ∷ list.entries.items) v → StaysSteady v w d → GoesOnAfter sys now list w d
goes-steady sys now list v w None may s = s
goes-steady sys now list v w (Some d) may s = λ value. steady-goes sys (now ∷ list.entries.items) v w may (s value)

pub goes-call : (sys : System) (now : HeldEntry) (list : Deferred) (hand : Option model.Entry) (c : Call) (r : Result Did RoomFault) (v w : LaneView)
    → MayGoOn sys (now ∷ list.entries.items) v → CallReturns hand c v w r → GoesOnAfter sys now list w (result_ok r)
goes-call sys now list hand c (Ok d) v w may a = λ value. steady-goes sys (now ∷ list.entries.items) v w may (answers-steady v.sys v.by hand c d v w a value)
goes-call sys now list hand c (Err fault) v w may a = tt

-- the list changes, and with it the hands: the entry at hand still stands beside it
goes-kept : (sys : System) (now : HeldEntry) (list more : Deferred) (hand : Option model.Entry) (c : Call) (d : Did) (v w : LaneView)
    → MayGoOn sys (now ∷ list.entries.items) v → AnswersKept hand c d list more v w → is_value d ≡ true → MayGoOn sys (now ∷ more.entries.items) w
goes-kept sys now list more hand c d v w may a value = record {
  sound = may.sound;
  its = a.grows.sys ∙ may.its;
  serves = λ o. rw (a.grows.serves o) (may.serves o);
  stand = record {
    named = both (is_named w.sys now) (list_all (λ e. is_named w.sys e) more.entries.items)
        (subst (λ s. is_named s now ≡ true) (sym a.grows.sys) (and_parts (is_named v.sys now) (list_all (λ e. is_named v.sys e) list.entries.items) may.stand.named).0)
        a.stand.named;
    counts = λ t.
        let before = count-with t (entry_of now) (tokens_in (kept_in list)) in
        let after = count-with t (entry_of now) (tokens_in (kept_in more)) in
        let few = may.stand.counts t in
        let alike = a.hands value t in
        omega (arith, before, after, few, alike);
  };
}

pub goes-list : (sys : System) (now : HeldEntry) (list more : Deferred) (hand : Option model.Entry) (c : Call) (r : Result Did RoomFault) (v w : LaneView)
    → MayGoOn sys (now ∷ list.entries.items) v → DefersCall hand c list more v w r → GoesOnAfter sys now more w (result_ok r)
goes-list sys now list more hand c (Ok d) v w may a = λ value. goes-kept sys now list more hand c d v w may a value
goes-list sys now list more hand c (Err fault) v w may a = tt

pub goes-flush : (sys : System) (now : HeldEntry) (list more : Deferred) (c : Call) (r : Result Did RoomFault) (v w : LaneView)
    → MayGoOn sys (now ∷ list.entries.items) v → FlushesAll list more v w r → GoesOnAfter sys now more w (result_ok r)
goes-flush sys now list more c (Ok d) v w may a = λ value. goes-kept sys now list more None _ d v w may a value
goes-flush sys now list more c (Err fault) v w may a = tt
