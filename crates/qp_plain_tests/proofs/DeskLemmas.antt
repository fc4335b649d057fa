-- What a test may go on with after takes, notes and releases.
use Rattle.std.proofs.Common.{◌≡◌, ℕ, ◌+◌, Bool, true, false, List, [], ◌∷◌, map, refl, sym, ◌∙◌, subst, ap, arith}
use Rattle.std.specs.Bool.{MatchBool}
use Rattle.std.specs.List.{list_all}
use Rattle.qp_model.specs.declared.systems.System.{System}
use Rattle.qp_model.specs.declared.record.Rec.{Rec}
use Rattle.qp_model.specs.declared.bodies.Body.TheVariants.{Done}
use Rattle.qp_model.specs.Record.{item_of}
use Rattle.qp_model.specs.Parts.{is_static}
use Rattle.qp_calls.specs.declared.tokens.HeldEntry.{HeldEntry}
use Rattle.qp_calls.specs.declared.tokens.HeldEntry.TheVariants as token
use Rattle.qp_calls.specs.declared.did.Did.{Did}
use Rattle.qp_calls.specs.LaneView.{AddsOf, Counts, LaneView, GrowsOf, Looks, Roomier, Sets}
use Rattle.qp_model.specs.declared.words.Word.TheVariants as word
use Rattle.qp_model.specs.declared.bodies.Body.TheVariants.{Nil}
use Rattle.qp_model.specs.Sound.{IsSound}
use Rattle.qp_model.specs.Told.{plain}
use Rattle.qp_plain_sound.specs.Sound.{hands_in}
use Rattle.qp_plain_sound.specs.View.{view_of}
use Rattle.qp_plain.specs.declared.world.PlainWorld.{PlainWorld}
use Rattle.qp_plain.specs.Book.{lists_of}
use Rattle.qp_plain.specs.Books.{log_recs}
use Rattle.qp_plain.specs.NewWorld.{GoesTo, IsNewWorld}
use Rattle.qp_plain.specs.WorldView.{world_view}
use Rattle.qp_calls.specs.Tokens.{hands_after, hands_by}
use Rattle.qp_calls.specs.Clauses.{TakesIt, TakesNone, entry_of, last_nil, same_counts}
use Rattle.qp_calls.specs.LaneView.{NotShown}
use Rattle.qp_calls.specs.Notes.{told_note}
use Rattle.qp_calls.specs.Deferring.{is_named, tokens_in}
use Rattle.qp_calls.specs.Groups.{EndsStep}
use Rattle.qp_calls.proofs.CountLemmas.{count-with, stand-rest, stands-named, taken-hands, stand-tail, none-stand}
use Rattle.qp_plain_tests.specs.declared.ends.End.{End}
use Rattle.qp_plain_tests.specs.declared.ends.End.TheVariants as ended
use Rattle.qp_plain_tests.specs.Desk.{MayGoOn, MayStillGoOn, Steady}
use Rattle.qp_plain_tests.proofs.DeedLemmas.{both, done-steady, steady-goes}

pub room-steady : (u v : LaneView) → Roomier u v → Steady u v
room-steady u v room = record { sys = rw room.same refl; serves = λ o. rw room.same refl; hands = rw room.same refl }

pub room-goes : (sys : System) (es : List HeldEntry) (u v : LaneView) → Roomier u v → MayGoOn sys es u → MayGoOn sys es v
room-goes sys es u v room may = steady-goes sys es u v may (room-steady u v room)

pub by-goes : (sys : System) (es : List HeldEntry) (o : ℕ) (u v : LaneView) → Sets o u v → MayGoOn sys es u → MayGoOn sys es v
by-goes sys es o u v set may = steady-goes sys es u v may (record { sys = rw set refl; serves = λ p. rw set refl; hands = rw set refl })

-- a static event needs no token
pub static-goes : (sys : System) (sig : ℕ) (es : List HeldEntry) (v : LaneView) → is_static sys sig ≡ true → MayGoOn sys es v → MayGoOn sys (token.Static sig ∷ es) v
unfolding entry_of
static-goes sys sig es v fixed may = record {
  sound = may.sound;
  its = may.its;
  serves = may.serves;
  stand = record {
    named = both (is_static v.sys sig) (list_all (λ e. is_named v.sys e) es) (subst (λ s. is_static s sig ≡ true) (sym may.its) fixed) may.stand.named;
    counts = may.stand.counts;
  };
}

pub others-go : (sys : System) (k : HeldEntry) (es : List HeldEntry) (v : LaneView) → MayGoOn sys (k ∷ es) v → MayGoOn sys es v
others-go sys k es v may = record { sound = may.sound; its = may.its; serves = may.serves; stand = stand-tail k es v may.stand }

pub others-still : (sys : System) (k : HeldEntry) (es : List HeldEntry) (v : LaneView) (e : End) → MayStillGoOn sys (k ∷ es) v e → MayStillGoOn sys es v e
others-still sys k es v ended.Whole may = others-go sys k es v may
others-still sys k es v (ended.Assert code) may = may
others-still sys k es v ended.Refused may = may

pub done-goes : (sys : System) (es : List HeldEntry) (o : ℕ) (r : Rec) (u v w : LaneView) → item_of r ≡ record { of = o; body = Done } → Roomier u v → GrowsOf r.of (told_note r v) v w
    → MayGoOn sys es u → MayGoOn sys es w
done-goes sys es o r u v w is room grows may = steady-goes sys es u w may (done-steady o r u v w is room grows)

-- the entry at hand was released
pub released-goes : (sys : System) (k : HeldEntry) (es : List HeldEntry) (d : Did) (v w : LaneView) → EndsStep (entry_of k) d v w → MayGoOn sys (k ∷ es) v → MayGoOn sys es w
released-goes sys k es d v w ends may = record {
  sound = may.sound;
  its = ends.released.grows.sys ∙ may.its;
  serves = λ o. rw (ends.released.grows.serves o) (may.serves o);
  stand = stand-rest k es v w may.stand ends.released.hands ends.released.grows.sys;
}

-- an entry was taken
pub taken-goes : (sys : System) (me : ℕ) (e : HeldEntry) (es : List HeldEntry) (v w : LaneView) → TakesIt me e v w → MayGoOn sys es v → MayGoOn sys (e ∷ es) w
taken-goes sys me e es v w t may = record {
  sound = may.sound;
  its = t.adds.grows.sys ∙ may.its;
  serves = λ o. rw (t.adds.grows.serves o) (may.serves o);
  stand = record {
    named = both (is_named w.sys e) (list_all (λ x. is_named w.sys x) es) (stands-named e w t.stands) (subst (λ s. list_all (λ x. is_named s x) es ≡ true) (sym t.adds.grows.sys) may.stand.named);
    counts = λ x.
        let token = count-with x (entry_of e) (tokens_in (map entry_of es)) in
        let hand = count-with x (entry_of e) v.hands in
        let few = may.stand.counts x in
        rw (taken-hands me e v w t) (omega (arith, token, hand, few));
  };
}

-- or the queue was empty
none-steady : (me f l m : ℕ) (v w : LaneView) (b : Bool) → MatchBool b (Looks (word.Queue me) (f + l + m) (Counts f l m) v w) (AddsOf me (plain (Nil f l m) ∷ []) v w) → Steady v w
unfolding hands_after hands_by
none-steady me f l m v w true looks = record { sys = looks.sys; serves = looks.serves; hands = looks.hands }
none-steady me f l m v w false adds = record { sys = adds.grows.sys; serves = adds.grows.serves; hands = adds.grows.hands }

pub empty-goes : (sys : System) (me f l m : ℕ) (es : List HeldEntry) (v w : LaneView) → TakesNone me f l m v w → MayGoOn sys es v → MayGoOn sys es w
empty-goes sys me f l m es v w t may = steady-goes sys es v w may (none-steady me f l m v w (same_counts (last_nil me NotShown v.told) f l m) t.adds)

-- Worlds.

sys-view : (w : PlainWorld) → (world_view w).sys ≡ w.sys.now
unfolding view_of
sys-view w = refl

serves-view : (w : PlainWorld) (o : ℕ) → (world_view w).serves o ≡ true
unfolding view_of
serves-view w o = refl

hands-view : (w : PlainWorld) → (world_view w).hands ≡ hands_in w.sys.now (lists_of w.book) w.book.order.items
unfolding view_of
hands-view w = refl

-- nothing has happened in a new world, in which each lane serves each object
pub new-goes : (sys : System) (n : ℕ) (es : List HeldEntry) (world : PlainWorld) → IsSound sys → IsNewWorld sys n world → es ≡ [] → MayGoOn sys es (world_view world)
new-goes sys n es world sound new none =
    let empty : MayGoOn sys [] (world_view world) = record {
      sound = sound;
      its = sys-view world ∙ new.sys_is;
      serves = serves-view world;
      stand = none-stand (world_view world);
    } in
    subst (λ xs. MayGoOn sys xs (world_view world)) (sym none) empty

-- another lane has the same tokens
chosen-steady : (lane : ℕ) (a b : PlainWorld) → GoesTo lane a b → Steady (world_view a) (world_view b)
chosen-steady lane a b goes = record {
  sys = sys-view b ∙ goes.sys_is ∙ sym (sys-view a);
  serves = λ o. serves-view b o ∙ sym (serves-view a o);
  hands =
      hands-view b ∙ ap (λ s. hands_in s (lists_of b.book) b.book.order.items) goes.sys_is ∙ ap (λ order. hands_in a.sys.now (lists_of b.book) order) goes.order
      ∙ ap (λ logs. hands_in a.sys.now (map log_recs logs) a.book.order.items) goes.logs ∙ sym (hands-view a);
}

pub chosen-goes : (sys : System) (lane : ℕ) (es : List HeldEntry) (a b : PlainWorld) → GoesTo lane a b → MayGoOn sys es (world_view a) → MayGoOn sys es (world_view b)
chosen-goes sys lane es a b goes may = steady-goes sys es (world_view a) (world_view b) may (chosen-steady lane a b goes)
