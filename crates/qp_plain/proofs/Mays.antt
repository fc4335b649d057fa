-- What stands in the hands of a world, and which record may come.
use Rattle.std.proofs.Common.{◌≡◌, ℕ, ◌+◌, ◌-◌, ◌<◌, ◌≤◌, nat_lt, nat_le, true, List, ◌∷◌, length, refl, subst, arith, IsTrue, Option, Some, None, inl, inr}
use Rattle.std.specs.Option.{unwrap_or}
use Rattle.std.proofs.lemmas.Bool.{and_from, and_parts, le-leb, lt-ltb}
use Rattle.std.proofs.lemmas.Bool.Decides.{nat_tests}
use Rattle.qp_model.specs.Sites.{ring_of}
use Rattle.qp_model.specs.WordLaw.{is_block, is_object, is_timer}
use Rattle.std.proofs.lemmas.Option.{slice_get_within}
use Rattle.qp_calls.specs.declared.tokens.Fresh.{Fresh}
use Rattle.qp_calls.specs.declared.tokens.HeldEntry.{HeldEntry}
use Rattle.qp_calls.specs.declared.tokens.HeldEntry.TheVariants as token
use Rattle.qp_calls.specs.Tokens.{Hold, Held, Loose, stands}
use Rattle.qp_calls.specs.Clauses.{Owns, EntryStands, StandsHold, StandsFresh, entry_of, refusal_of, shortage_of}
use Rattle.qp_plain_sound.specs.May.{May, IsOwned, IsPool, IsQueue}
use Rattle.qp_plain_sound.specs.Sound.{hands_in, names_block, is_good}
use Rattle.qp_calls.specs.Deferring.{is_named}
use Rattle.qp_plain_words.specs.Queue.{is_token}
use Rattle.std.specs.List.{list_all}
use Rattle.qp_model.specs.declared.bodies.Entry as model
use Rattle.qp_plain_sound.specs.Step.{MayCome}
use Rattle.qp_plain_sound.specs.View.{view_of}
use Rattle.qp_plain_sound.specs.WordStates.{line_in}
use Rattle.qp_plain_sound.proofs.Times.{all-stands}
use Rattle.qp_plain_sound.proofs.Standing.{line-in}
use Rattle.qp_model.specs.declared.record.Rec.{Rec}
use Rattle.qp_model.proofs.NumberLemmas.{not-zero}
use Rattle.qp_plain.specs.declared.book.Book.{Book}
use Rattle.qp_plain.specs.declared.world.PlainWorld.{PlainWorld}
use Rattle.qp_plain.specs.Book.{lists_of}
use Rattle.qp_plain.specs.WorldView.{world_view}
use Rattle.qp_plain.proofs.Calling.{step_at}

-- a token that stands is on a block of the system
pub held-block : (w : PlainWorld) (h : Hold) → StandsHold h (world_view w) → IsTrue (is_block w.sys.now h.pool h.block)
unfolding view_of
held-block w h stand = all-stands (names_block w.sys.now) (Held h.pool h.block h.name) (hands_in w.sys.now (lists_of w.book) w.book.order.items) w.holds.world.sound.tokens stand.1

pub fresh-block : (w : PlainWorld) (f : Fresh) → StandsFresh f (world_view w) → IsTrue (is_block w.sys.now f.pool f.block)
unfolding view_of
fresh-block w f stand = all-stands (names_block w.sys.now) (Loose f.pool f.block f.used) (hands_in w.sys.now (lists_of w.book) w.book.order.items) w.holds.world.sound.tokens stand.1

pub held-stands : (w : PlainWorld) (h : Hold) → StandsHold h (world_view w) → IsTrue (stands (Held h.pool h.block h.name) (hands_in w.sys.now (lists_of w.book) w.book.order.items))
unfolding view_of
held-stands w h stand = stand.1

pub fresh-stands : (w : PlainWorld) (f : Fresh) → StandsFresh f (world_view w) → IsTrue (stands (Loose f.pool f.block f.used) (hands_in w.sys.now (lists_of w.book) w.book.order.items))
unfolding view_of
fresh-stands w f stand = stand.1

-- an entry that may be handed in may be posted
pub owned : (w : PlainWorld) (e : HeldEntry) → EntryStands e (world_view w) → IsOwned w.sys.now (hands_in w.sys.now (lists_of w.book) w.book.order.items) (entry_of e)
unfolding entry_of view_of
owned w (token.Static sig) h = record { good = rw h refl; token = inl refl }
owned w (token.Pool k) h = let block = held-block w k h in record { good = rw (not-zero k.pool h.0) block; token = inr h.1 }

-- the entries of a queue, at its counts
pub record Room (w : PlainWorld) (a f l m : ℕ) : Type 0 where
  pub counted : length (line_in w.sys.now (lists_of w.book) a).entries + m ≡ f + l
  pub fits : length (line_in w.sys.now (lists_of w.book) a).entries ≤ ring_of w.sys.now a + 1

pub room-is : (w : PlainWorld) (a f l m : ℕ) → IsQueue w.sys.now (lists_of w.book) a f l m → Room w a f l m
room-is w a f l m q =
    let line = line-in w.sys.now (lists_of w.book) w.holds.world.sound.words a q.object in
    record { counted = rw (q.firsts, q.lasts, q.takes) line.counted; fits = line.fits }

pub refusal-may : (w : PlainWorld) (b : Book) (r : Rec) (to f l m : ℕ) (margin : Option ℕ) → IsQueue w.sys.now (lists_of w.book) to f l m
    → ring_of w.sys.now to + 1 - length (line_in w.sys.now (lists_of w.book) to).entries ≤ unwrap_or margin 0 → MayCome (step_at w b r) w.by (refusal_of margin to f l m)
unfolding May
refusal-may w b r to f l m (Some k) q few = let is = room-is w to f l m q in (q, omega (arith, few, is.counted))
refusal-may w b r to f l m None q few = let is = room-is w to f l m q in (q, omega (arith, few, is.counted, is.fits))

pub shortage-may : (w : PlainWorld) (b : Book) (r : Rec) (p n free : ℕ) (reserve : Option ℕ) → IsPool w.sys.now (lists_of w.book) p n free → free ≤ unwrap_or reserve 0
    → MayCome (step_at w b r) w.by (shortage_of reserve p n free)
unfolding May
shortage-may w b r p n free (Some k) is few = (is, few)
shortage-may w b r p n free None is few = (is, omega (arith, few))

-- a timer that an object owns is one of the system
pub owned-timer : (w : PlainWorld) (t : ℕ) → Owns (world_view w) t → IsTrue (is_timer w.sys.now t)
unfolding view_of
owned-timer w t owns =
    let lt = slice_get_within w.sys.now.timers (t - 1) owns.timer owns.there in
    let some : nat_lt 0 t ≡ true = lt-ltb 0 t owns.some in
    let within : nat_le t (length w.sys.now.timers) ≡ true = le-leb t (length w.sys.now.timers) (omega (arith, lt, owns.some)) in
    and_from _ _ some within

-- a token that stands names a pool
pub stands-token : (w : PlainWorld) (e : HeldEntry) → EntryStands e (world_view w) → is_token e ≡ true
stands-token w (token.Static sig) h = refl
stands-token w (token.Pool k) h = some k.pool h.0
  where
    some : (n : ℕ) → 0 < n → nat_lt 0 n ≡ true
    some n lt = grind (arith, nat_tests)

-- an entry of a queue names a static signal or a pool
pub named-good : (w : PlainWorld) (e : HeldEntry) → is_token e ≡ true → is_good w.sys.now (entry_of e) ≡ true → is_named w.sys.now e ≡ true
unfolding entry_of
named-good w (token.Static sig) t h = (and_parts _ _ h).0
named-good w (token.Pool k) t h = t

pub front-good : (w : PlainWorld) (a : ℕ) (e : model.Entry) (others : List model.Entry) → IsTrue (is_object w.sys.now a) → (line_in w.sys.now (lists_of w.book) a).entries ≡ e ∷ others → is_good w.sys.now e ≡ true
front-good w a e others h front =
    (and_parts _ _ (subst (λ xs. list_all (is_good w.sys.now) xs ≡ true) front (w.holds.world.sound.entries a h))).0
