-- A deferred list stays within its capacity.
use Rattle.std.proofs.Common.{◌≡◌, ℕ, ◌<◌, ◌≤◌, ◌==◌, nat_lt, Bool, true, false, List, [], ◌∷◌, ◌++◌, length, drop, cond, refl, sym, ap, Option, Some, None, arith, length-append}
use Rattle.std.specs.Option.{option_and_then}
use Rattle.std.proofs.lemmas.Bool.Decides.{nat_tests}
use Rattle.std.proofs.lemmas.List.{length-drop}
use Rattle.qp_model.specs.declared.bodies.Entry.{Entry}
use Rattle.qp_model.specs.declared.bodies.Body.{Body}
use Rattle.qp_model.specs.declared.bodies.Body.TheVariants.{Defer, NoDefer, Recall, NoRecall, Flush}
use Rattle.qp_model.specs.Line.{is_front}
use Rattle.qp_model.specs.Told.{Told}
use Rattle.qp_model.specs.Calls as call
use Rattle.qp_model.specs.Calls.{Call}
use Rattle.qp_model.specs.Deferral.{keep, kept_after, KeepsDeferred}
use Rattle.qp_model.proofs.KernelLaneLemmas.{granted}
use Rattle.qp_model.proofs.AbleLemmas.{some-same}

when-false : {X : Type 0} (b : Bool) (x y : X) → cond b None (Some x) ≡ Some y → x ≡ y
when-false true x y h = absurd (cc)
when-false false x y h = cc

added : (room : ℕ) (kept new : List Entry) (e : Entry) → nat_lt (length kept) room ≡ true → kept ++ e ∷ [] ≡ new → length new ≤ room
added room kept new e test is =
    let less : length kept < room = grind (arith, nat_tests, test) in
    omega (arith, ap length is, length-append kept (e ∷ []))

dropped : (room : ℕ) (kept new : List Entry) → drop 1 kept ≡ new → length kept ≤ room → length new ≤ room
dropped room kept new is h = omega (arith, ap length is, length-drop 1 kept)

same : (room : ℕ) (kept new : List Entry) → kept ≡ new → length kept ≤ room → length new ≤ room
same room kept new is h = omega (arith, ap length is)

keep-within : (room : ℕ) (kept new : List Entry) (b : Body) → keep room kept b ≡ Some new → length kept ≤ room → length new ≤ room
unfolding keep
keep-within room kept new (Defer e) is h =
    let at = granted (nat_lt (length kept) room) (kept ++ e ∷ []) new is in added room kept new e at.0 at.1
keep-within room kept new NoDefer is h = same room kept new (when-false (nat_lt (length kept) room) kept new is) h
keep-within room kept new (Recall e) is h = dropped room kept new (granted (is_front e kept) (drop 1 kept) new is).1 h
keep-within room kept new (Flush e) is h = dropped room kept new (granted (is_front e kept) (drop 1 kept) new is).1 h
keep-within room kept new NoRecall is h = same room kept new (granted (length kept == 0) kept new is).1 h
keep-within room kept new b is h = same room kept new (some-same is) h

after-within : (room : ℕ) (g : List Told) (kept new : List Entry) → kept_after room kept g ≡ Some new → length kept ≤ room → length new ≤ room
unfolding kept_after
after-within room [] kept new is h = same room kept new (some-same is) h
after-within room (t ∷ g) kept new is h = by (λ mid e within. after-within room g mid new e within) (keep room kept t.body) refl is
  where
    by : ((mid : List Entry) → kept_after room mid g ≡ Some new → length mid ≤ room → length new ≤ room) → (o : Option (List Entry)) → keep room kept t.body ≡ o
        → option_and_then (λ rest. kept_after room rest g) o ≡ Some new → length new ≤ room
    by later None at e = absurd (cc)
    by later (Some mid) at e = later mid e (keep-within room kept mid t.body at h)

-- so does a call's
pub keeps-within : (room : ℕ) (x : Call) (g : List Told) (old new : List Entry) → KeepsDeferred room x g old new → length old ≤ room → length new ≤ room
unfolding KeepsDeferred
keeps-within room call.Defer g old new h within = after-within room g old new h within
keeps-within room call.Recall g old new h within = after-within room g old new h within
keeps-within room call.Flush g old new h within = after-within room g old new h.0 within
keeps-within room x g old new h within = same room old new (sym h) within
