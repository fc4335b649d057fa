-- A flush tells no more entries than a deferred list holds.
use Rattle.std.proofs.Common.{◌≡◌, ℕ, zero, suc, ◌≤◌, Bool, true, false, List, [], ◌∷◌, ◌++◌, length, cond, sym, ◌∙◌, ap, inl, inr, Option, Some, None, arith}
use Rattle.std.specs.Option.{option_and_then}
use Rattle.qp_model.specs.declared.systems.System.{System}
use Rattle.qp_model.specs.declared.bodies.Entry.{Entry}
use Rattle.qp_model.specs.declared.bodies.Body.TheVariants as item
use Rattle.qp_model.specs.Line.{is_front}
use Rattle.qp_model.specs.Told.{Told, plain}
use Rattle.qp_model.specs.Calls as call
use Rattle.qp_model.specs.Calls.{Call, Flushed}
use Rattle.qp_model.specs.Sites.{ring_of}
use Rattle.qp_model.specs.Parts.{is_static, sizes_of}
use Rattle.qp_model.specs.Shapes.{Fits, NoBlockFor, Posts, PostsFront, PostsNew, PostsNewFront, Forwards, Publishes, Defers, Recalls, Subscribes, Unsubscribes, Arms, Rearms, Disarms, Flushes}
use Rattle.qp_model.specs.Deferral.{keep, kept_after, KeepsDeferred}
use Rattle.qp_check_calls.proofs.KeptLemmas.{kept-drops}

-- each record of a flush takes an entry from the list
flushes-few : (room n : ℕ) (g : List Told) (old new : List Entry) → Flushes n g → kept_after room old g ≡ Some new → n ≤ length old
unfolding Flushes kept_after keep
flushes-few room zero g old new h k = omega arith
flushes-few room (suc n) g old new (e, rel, rest, drops, flushes, is) k =
    by (λ xs list. flushes-few room n rest xs new flushes (sym (kept-drops room xs e rel rest drops) ∙ list)) old (ap (kept_after room old) (sym is) ∙ k)
  where
    by : ((xs : List Entry) → kept_after room xs (rel ++ rest) ≡ Some new → n ≤ length xs) → (old : List Entry)
        → kept_after room old (plain (item.Flush e) ∷ (rel ++ rest)) ≡ Some new → suc n ≤ length old
    by more [] list = absurd (cc)
    by more (x ∷ xs) list = front (is_front e (x ∷ xs)) list
      where
        front : (b : Bool) → option_and_then (λ rest'. kept_after room rest' (rel ++ rest)) (cond b (Some xs) None) ≡ Some new → suc n ≤ length (x ∷ xs)
        front true list = omega (arith, more xs list)
        front false list = absurd (cc)

no-block : (fixed : Bool) (sizes pars : List ℕ) (reserve : Option ℕ) (n : ℕ) (g : List Told) → NoBlockFor fixed sizes pars reserve (Flushed n) g → ⊥
unfolding NoBlockFor
no-block fixed sizes pars None n g h = h
no-block fixed sizes pars (Some r) n g h = h

no-post : (ring to : ℕ) (margin : Option ℕ) (head : List Told) (e : Entry) (n : ℕ) (g : List Told) → Posts ring to margin head e (Flushed n) g → ⊥
unfolding Posts
no-post ring to None head e n g h = h
no-post ring to (Some k) head e n g h = h

-- no other call tells a number of entries
pub flushed-few : (sys : System) (o : ℕ) (now : Option Entry) (room : ℕ) (x : Call) (n : ℕ) (g : List Told) (old new : List Entry)
    → Fits sys o now x (Flushed n) g → KeepsDeferred room x g old new → length old ≤ room → n ≤ room
unfolding Fits KeepsDeferred PostsNew PostsNewFront PostsFront Forwards Publishes Defers Recalls Subscribes Unsubscribes Arms Rearms Disarms
flushed-few sys o now room (call.Post to sig pars margin reserve) n g old new (inl h) k within = absurd (no-block (is_static sys sig) (sizes_of sys) pars reserve n g h)
flushed-few sys o now room (call.Post to sig pars margin reserve) n g old new (inr h) k within = absurd (no-post (ring_of sys to) to margin h.0 h.1 n g h.3)
flushed-few sys o now room (call.Lifo sig pars reserve) n g old new (inl h) k within = absurd (no-block (is_static sys sig) (sizes_of sys) pars reserve n g h)
flushed-few sys o now room (call.Lifo sig pars reserve) n g old new (inr h) k within = absurd h.3
flushed-few sys o now room (call.Forward to margin) n g old new h k within = absurd (no-post (ring_of sys to) to margin h.0 h.1 n g h.3)
flushed-few sys o now room (call.Publish sig pars reserve) n g old new h k within = absurd (no-block (is_static sys sig) (sizes_of sys) pars reserve n g h)
flushed-few sys o now room call.Defer n g old new h k within = absurd h
flushed-few sys o now room call.Recall n g old new h k within = absurd h
flushed-few sys o now room call.Flush n g old new h k within = omega (arith, flushes-few room n g old new h k.0)
flushed-few sys o now room (call.Subscribe sig) n g old new h k within = absurd h
flushed-few sys o now room (call.Unsubscribe sig) n g old new h k within = absurd h
flushed-few sys o now room (call.Arm t ticks interval) n g old new h k within = absurd h.0
flushed-few sys o now room (call.Rearm t ticks) n g old new h k within = absurd h.0
flushed-few sys o now room (call.Disarm t) n g old new h k within = absurd h
