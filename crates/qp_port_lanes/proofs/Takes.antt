-- Records that aren't of takes, and what a look and a take add.
use Rattle.std.proofs.Common.{◌≡◌, ◌⊎◌, ℕ, ◌+◌, Bool, true, false, List, [], ◌∷◌, ◌++◌, map, length, refl, sym, ◌∙◌, ap, inl, inr, append_assoc, append-nil, arith}
use Rattle.std.specs.Bool.{MatchBool}
use Rattle.std.specs.List.{list_any}
use Rattle.qp_model.specs.declared.bodies.Body.{Body}
use Rattle.qp_model.specs.declared.bodies.Body.TheVariants as body
use Rattle.qp_model.specs.declared.words.Word.TheVariants as word
use Rattle.qp_model.specs.Told.{Told, ToldItem, for_object, plain}
use Rattle.qp_model_order.proofs.StimLemmas.{any-both}
use Rattle.qp_calls.specs.Clauses.{TakesNone, last_nil, same_counts}
use Rattle.qp_calls.specs.LaneView.{AddsOf, Counts, LaneView, Looks, NotShown}
use Rattle.qp_calls.proofs.Advancing.{advances-looks}
use Rattle.qp_kernel.specs.Turning.{seen_told, spill_told}
use Rattle.qp_kernel_turns.specs.declared.halting.Halt.{Halt}
use Rattle.qp_kernel_turns.specs.declared.halting.Halt.TheVariants as halt
use Rattle.qp_kernel_turns.specs.Halting.{TurnHalts}
use Rattle.qp_kernel_turns.specs.Lanes.{LaneGoes}
use Rattle.qp_kernel_turns.proofs.Lanes.{gains-goes}
use Rattle.qp_port_law.proofs.HomeRecords.{AreInside, is_step}
use Rattle.qp_port_lanes.specs.Takes.{AddsEmpty, AddsNoTake, is_take}

step-take : (b : Body) → is_step b ≡ true → is_take b ≡ false
step-take (body.Took f l m e) h = absurd (cc)
step-take (body.Nil f l m) h = absurd (cc)
step-take _ h = refl

-- none of a step is one
pub inside-none : (o : ℕ) (g : List Told) → AreInside g → list_any (λ t. is_take t.told.body) (map (for_object o) g) ≡ false
inside-none o [] h = refl
inside-none o (t ∷ ts) h = rw (step-take t.body h.0, inside-none o ts h.1) refl

-- Records behind others.

pub no-take : (old new : List ToldItem) → new ≡ old → AddsNoTake old new
no-take old new same = record { ts = []; told = same ∙ sym (append-nil old); none = refl }

pub no-take-then : (old mid new : List ToldItem) → AddsNoTake old mid → AddsNoTake mid new → AddsNoTake old new
no-take-then old mid new one two = record {
  ts = one.ts ++ two.ts;
  told = two.told ∙ ap (λ l. l ++ two.ts) one.told ∙ append_assoc old one.ts two.ts;
  none = any-both (λ (t : ToldItem). is_take t.told.body) one.ts two.ts one.none two.none;
}

-- the run stops
pub no-take-halts : (v w : LaneView) (h : Halt) → TurnHalts v w h → AddsNoTake v.told w.told
no-take-halts v w halt.Memory h = no-take v.told w.told (ap (λ u. u.told) h.stops)
no-take-halts v w halt.Stopped (inl h) = no-take v.told w.told (ap (λ u. u.told) h.answered)
no-take-halts v w halt.Stopped (inr h) = record { ts = spill_told (length v.told) ∷ []; told = ap (λ u. u.told) h.stops ∙ h.spills.told; none = refl }

-- a take finds the queue empty
pub empty-takes : (me f l m : ℕ) (v w : LaneView) → TakesNone me f l m v w → AddsEmpty me v.told w.told
empty-takes me f l m v w t = record { f = f; l = l; m = m; empty = t.empty; told = by (same_counts (last_nil me NotShown v.told) f l m) t.adds }
  where
    by : (b : Bool) → MatchBool b (Looks (word.Queue me) (f + l + m) (Counts f l m) v w) (AddsOf me (plain (body.Nil f l m) ∷ []) v w)
        → (w.told ≡ v.told) ⊎ ((w.told ≡ v.told ++ for_object me (plain (body.Nil f l m)) ∷ []) ⊎ (w.told ≡ v.told ++ seen_told me f l m ∷ []))
    by true looks = inl looks.told
    by false adds = inr (inl adds.grows.told)

-- and the lane went on
pub empty-goes : (me f l m : ℕ) (v w : LaneView) → TakesNone me f l m v w → LaneGoes false v w
empty-goes me f l m v w t = by (same_counts (last_nil me NotShown v.told) f l m) t.adds
  where
    by : (b : Bool) → MatchBool b (Looks (word.Queue me) (f + l + m) (Counts f l m) v w) (AddsOf me (plain (body.Nil f l m) ∷ []) v w) → LaneGoes false v w
    by true looks = record {
      keeps = record {
        same = record { sys = looks.sys; lane = looks.lane; world = looks.world; plan = looks.plan; happened = refl; serves = looks.serves; advances = advances-looks (word.Queue me) (f + l + m) (Counts f l m) v w looks };
        still = λ apart. looks.happened;
        asks = λ apart. let same = looks.asked in omega (arith, same);
        told = ([], looks.told ∙ sym (append-nil v.told));
        log = ([], looks.log ∙ sym (append-nil v.log));
      };
      stops = looks.stops;
      answered = looks.answered;
    }
    by false adds = gains-goes false (map (for_object me) (plain (body.Nil f l m) ∷ [])) v w adds.grows
