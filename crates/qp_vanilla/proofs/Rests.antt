-- From the records of a rest to what is known behind it.
use Rattle.std.proofs.Common.{◌≡◌, ℕ, ◌==◌, Bool, true, false, [], ◌∷◌, ◌++◌, refl, ◌∙◌, ap}
use Rattle.std.proofs.lemmas.Bool.{and_right}
use Rattle.qp_model.specs.declared.systems.System.{System}
use Rattle.qp_model.specs.declared.record.Rec.{Rec}
use Rattle.qp_model.specs.declared.bodies.Body.TheVariants as body
use Rattle.qp_model.specs.declared.words.Word.TheVariants as word
use Rattle.qp_model.specs.Record.{item_of}
use Rattle.qp_model.specs.Sound.{IsSound}
use Rattle.qp_model.specs.Told.{plain, untold}
use Rattle.qp_model_order.specs.RunOrder.{placed}
use Rattle.qp_calls.specs.LaneView.{GrowsOf, LaneView, Roomier, ceiling_in, mark_after, mark_by, own_after, Own}
use Rattle.qp_calls.specs.Notes.{spills_told, told_note}
use Rattle.qp_calls.specs.Tokens.{hands_after, hands_by}
use Rattle.qp_calls.proofs.Growing.{room-then}
use Rattle.qp_calls.proofs.NoteLemmas.{ceiling-append}
use Rattle.qp_dispatch.proofs.Quiet.{spills-append}
use Rattle.qp_kernel.specs.Happenings.{lanes_of}
use Rattle.qp_kernel.specs.Turning.{Terms, rest_told}
use Rattle.qp_kernel.proofs.HappeningLemmas.{IsIdleRecord}
use Rattle.qp_kernel_turns.specs.Halting.{asked_once}
use Rattle.qp_kernel_turns.specs.Knowing.{IsScanning}
use Rattle.qp_kernel_turns.specs.Ordering.{AreSeenEmpty, InOrder, PassedInOrder}
use Rattle.qp_kernel_turns.specs.Turning.{Stand, Stood}
use Rattle.qp_kernel_turns.proofs.Halted.{same-lanes}
use Rattle.qp_kernel_turns.proofs.Looking.{GoesFor}
use Rattle.qp_kernel_turns.proofs.Ordered.{empty-once, grows-in_order, in_order-once, none-still, still-empty}
use Rattle.qp_kernel_turns.proofs.Pending.{stays-by}
use Rattle.qp_kernel_turns.proofs.Places.{follow-none}
use Rattle.qp_kernel_turns.proofs.Turns.{noted}
use Rattle.qp_vanilla.specs.Resting.{Rested}
use Rattle.qp_vanilla.proofs.Resting.{goes-again, goes-over}

rest-idle : (n : ℕ) → IsIdleRecord (placed 0 (untold (rest_told n)))
rest-idle n = record { stim = refl; enters = λ o. refl; leaves = λ o. (and_right (0 == o) false refl) }

rest-mark : (q n k : ℕ) → mark_after (word.Queue q) n (rest_told k ∷ []) ≡ n
unfolding mark_after mark_by
rest-mark q n k = refl

rest-own : (q k : ℕ) (o : Own) → own_after q o (rest_told k ∷ []) ≡ o
unfolding own_after
rest-own q k o = refl

rest-goes : (n : ℕ) (v v1 v2 : LaneView) → Roomier (asked_once v) v1 → GrowsOf 0 (plain (body.Rest n) ∷ []) v1 v2 → spills_told v.told ≡ false → GoesFor (rest_told n ∷ []) v v2
unfolding hands_after hands_by ceiling_in
rest-goes n v v1 v2 room grown none =
    let told : v2.told ≡ v.told ++ rest_told n ∷ [] = grown.told ∙ ap (λ u. u.told ++ rest_told n ∷ []) room.same in
    record {
      of = grown.sys ∙ ap (λ u. u.sys) room.same;
      told = told;
      serves = λ o. grown.serves o ∙ ap (λ u. u.serves o) room.same;
      hands = grown.hands ∙ ap (λ u. u.hands) room.same;
      ceiling = ap (ceiling_in 0) told ∙ ceiling-append 0 v.told (rest_told n ∷ []);
      spills = rw told (spills-append 0 v.told (plain (body.Rest n) ∷ []) none refl);
    }

module _ (sys : System) (sound : IsSound sys) (terms : Terms) (single : terms.threaded ≡ false) (cooperative : terms.cooperative ≡ true) (a : Stand) (base : a.stack ≡ [])
    (k : Stood (IsScanning sys terms []) sys terms a) (r : Rec) (v1 v2 : LaneView) (room : Roomier (asked_once a.lane) v1)
    (is : item_of r ≡ record { of = 0; body = body.Rest a.looks }) (grown : GrowsOf r.of (told_note r v1) v1 v2) where
  note : GrowsOf 0 (plain (body.Rest a.looks) ∷ []) v1 v2
  note = noted 0 (body.Rest a.looks) r v1 v2 is grown

  goes : GoesFor (rest_told a.looks ∷ []) a.lane v2
  goes = rest-goes a.looks a.lane v1 v2 room note k.knows.lane.spills

  lanes : lanes_of v2 ≡ lanes_of a.lane
  lanes = same-lanes a.lane v2 (grown.plan ∙ ap (λ u. u.plan) room.same) (grown.happened ∙ ap (λ u. u.happened) room.same)

  pub rested : Rested sys terms a (record a { lane = v2 })
  rested = record {
    again = goes-again sys sound terms single cooperative a.looks a.stack a.objects a.lane v2 k base lanes goes;
    over = goes-over sys sound terms single cooperative a.looks a.stack a.objects a.lane v2 k base lanes goes;
    onward = record {
      hands = follow-none a.objects a.lane v2 goes.hands;
      answered = grown.answered ∙ ap (λ u. u.answered) room.same;
      plan = grown.plan ∙ ap (λ u. u.plan) room.same;
    };
  }

  pub rested-in_order : (acts : Bool) → InOrder acts sys a.looks a.lane → AreSeenEmpty sys 0 0 a.lane → PassedInOrder acts sys 0 0 a (record a { lane = v2 })
  rested-in_order acts h seen =
      let gains = room-then (rest_told a.looks ∷ []) (asked_once a.lane) v1 v2 room note in
      let once = in_order-once acts sys a.looks a.lane h in
      record {
        order = grows-in_order acts sys a.looks (rest_told a.looks ∷ []) (asked_once a.lane) v2 gains (refl, tt) refl refl once;
        none = λ side acting none. none-still acts sys a.looks (rest_told a.looks) (asked_once a.lane) v2 (rest-idle a.looks) gains once side acting none;
        empty = λ i d from its high. still-empty d.priority (rest_told a.looks ∷ []) (asked_once a.lane) v2 gains (rest-mark d.priority (a.lane.mark (word.Queue d.priority)) a.looks) (rest-own d.priority a.looks (a.lane.own d.priority)) (empty-once d.priority a.lane (seen i d from its high));
        stays = stays-by a.lane v2 (λ p. gains.own p ∙ rest-own p a.looks (a.lane.own p)) (λ p. gains.rise (word.Queue p));
      }
