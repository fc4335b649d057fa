-- A deferred list keeps within its room.
use Rattle.std.proofs.Common.{◌≡◌, ℕ, ◌<◌, ◌≤◌, ◌==◌, nat_lt, Bool, true, false, cond, List, [], ◌∷◌, ◌++◌, length, drop, refl, ap, arith, Option, Some, None, length-append}
use Rattle.std.specs.Option.{option_and_then}
use Rattle.std.proofs.lemmas.Bool.Decides.{nat_tests}
use Rattle.std.proofs.lemmas.List.{length-drop}
use Rattle.qp_model.specs.declared.systems.System.{System}
use Rattle.qp_model.specs.declared.bodies.Entry.{Entry}
use Rattle.qp_model.specs.declared.bodies.Body.{Body}
use Rattle.qp_model.specs.declared.bodies.Body.TheVariants as item
use Rattle.qp_model.specs.Line.{is_front}
use Rattle.qp_model.specs.Told.{Told}
use Rattle.qp_model.specs.Pieces.{Piece, records_in}
use Rattle.qp_model.specs.Acts.{Config, Actor}
use Rattle.qp_model.specs.Deferral.{keep, kept_after}
use Rattle.qp_model.specs.Course.{Course}
use Rattle.qp_model.proofs.DeferralLemmas.{Kept, course-keeps}
use Rattle.qp_model.proofs.AbleLemmas.{some-same}
use Rattle.qp_model.proofs.KernelLaneLemmas.{granted}

same : (room : ℕ) (kept new : List Entry) → kept ≡ new → length kept ≤ room → length new ≤ room
same room kept new is h = omega (arith, ap length is)

dropped : (room : ℕ) (kept new : List Entry) → drop 1 kept ≡ new → length kept ≤ room → length new ≤ room
dropped room kept new is h = omega (arith, ap length is, length-drop 1 kept)

keep-within : (room : ℕ) (old new : List Entry) (b : Body) → keep room old b ≡ Some new → length old ≤ room → length new ≤ room
unfolding keep
keep-within room old new (item.Defer e) is few =
    let at = granted (nat_lt (length old) room) (old ++ e ∷ []) new is in
    let less : length old < room = grind (arith, nat_tests, at.0) in
    omega (arith, less, ap length at.1, length-append old (e ∷ []))
keep-within room old new item.NoDefer is few = by (nat_lt (length old) room) is
  where
    by : (v : Bool) → cond v None (Some old) ≡ Some new → length new ≤ room
    by true is = absurd (cc)
    by false is = same room old new (some-same is) few
keep-within room old new (item.Recall e) is few = dropped room old new (granted (is_front e old) (drop 1 old) new is).1 few
keep-within room old new (item.Flush e) is few = dropped room old new (granted (is_front e old) (drop 1 old) new is).1 few
keep-within room old new item.NoRecall is few = same room old new (granted (length old == 0) old new is).1 few
keep-within room old new b is few = same room old new (some-same is) few

pub kept-within : (room : ℕ) (old new : List Entry) (g : List Told) → kept_after room old g ≡ Some new → length old ≤ room → length new ≤ room
unfolding kept_after
kept-within room old new [] is few = let same : length old ≡ length new = ap length (some-same is) in omega (arith, same, few)
kept-within room old new (t ∷ g) is few = by (keep room old t.body) refl is (λ mid k e. kept-within room mid new g e (keep-within room old mid t.body k few))
  where
    by : (o : Option (List Entry)) → keep room old t.body ≡ o → option_and_then (λ rest. kept_after room rest g) o ≡ Some new
        → ((mid : List Entry) → keep room old t.body ≡ Some mid → kept_after room mid g ≡ Some new → length new ≤ room) → length new ≤ room
    by None k is go = absurd (cc)
    by (Some mid) k is go = go mid k is

-- a course leaves the list that its records give
pub course-kept : (sys : System) (a : Actor) (first d : Config) (es : List Entry) (ps : List Piece) → Course sys a first es ps (Some d) → kept_after a.room first.kept (records_in ps) ≡ Some d.kept
unfolding Kept
course-kept sys a first d es ps h = course-keeps sys a first es ps (Some d) h

pub course-within : (sys : System) (a : Actor) (first d : Config) (es : List Entry) (ps : List Piece) → length first.kept ≤ a.room → Course sys a first es ps (Some d) → length d.kept ≤ a.room
course-within sys a first d es ps few h = kept-within a.room first.kept d.kept (records_in ps) (course-kept sys a first d es ps h) few
