-- The deferred list of an object, as its records leave it.
use Rattle.std.specs.Prelude.{◌≡◌, ℕ, ◌==◌, nat_lt, List, [], ◌∷◌, ◌++◌, length, drop, if◌then◌else◌, Some, None}
use Rattle.std.specs.declared.option.Option.{Option}
use Rattle.std.specs.Option.{option_and_then}
use Rattle.qp_model.specs.declared.bodies.Entry.{Entry}
use Rattle.qp_model.specs.declared.bodies.Body.{Body}
use Rattle.qp_model.specs.declared.bodies.Body.TheVariants.{Defer, NoDefer, Recall, NoRecall, Flush}
use Rattle.qp_model.specs.Line.{is_front}
use Rattle.qp_model.specs.Told.{Told}
use Rattle.qp_model.specs.Calls as call
use Rattle.qp_model.specs.Calls.{Call}

-- the list after a record, or None where the record can't stand; the room is the list's capacity
unfoldable pub keep : ℕ → List Entry → Body → Option (List Entry)
keep room kept (Defer e) = if nat_lt (length kept) room then Some (kept ++ e ∷ []) else None
keep room kept NoDefer = if nat_lt (length kept) room then None else Some kept
keep room kept (Recall e) = if is_front e kept then Some (drop 1 kept) else None
keep room kept (Flush e) = if is_front e kept then Some (drop 1 kept) else None
keep room kept NoRecall = if length kept == 0 then Some kept else None
keep room kept _ = Some kept

-- the list after the records, or None where one of them can't stand
unfoldable pub kept_after : ℕ → List Entry → List Told → Option (List Entry)
unfolding keep
kept_after room kept [] = Some kept
kept_after room kept (t ∷ ts) = option_and_then (λ rest. kept_after room rest ts) (keep room kept t.body)

-- what a call leaves of the list: a flush leaves it empty, and only three calls change it
unfoldable pub KeepsDeferred : ℕ → Call → List Told → List Entry → List Entry → Type 0
unfolding kept_after
KeepsDeferred room call.Defer g old new = kept_after room old g ≡ Some new
KeepsDeferred room call.Recall g old new = kept_after room old g ≡ Some new
KeepsDeferred room call.Flush g old new = (kept_after room old g ≡ Some new) × (new ≡ [])
KeepsDeferred room x g old new = new ≡ old
