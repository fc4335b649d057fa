-- The laws of the order of a run.
use Rattle.std.proofs.Common.{true, false, [], ◌∷◌, ◌++◌, refl, ap, ◌∙◌}
use Rattle.qp_model.specs.Ends.{ends_last}
use Rattle.qp_model.specs.Places.{in_order}
use Rattle.qp_model.specs.OneOrder.{looks_right, items_placed}
use Rattle.qp_model.specs.Record.{item_of}
use Rattle.qp_model.specs.History.{all_items}
use Rattle.qp_model_order.specs.RunOrder.{thread_of}
use Rattle.qp_model_order.specs.Laws.{OrderBegins, ZeroComesLast, FreeLookComesLast, StimulusComesLast, OrderEndsInZero, OrderEndsInStimulus, OrderEndsInFullLane, EndsAreOneOrder, SourceGoesOn, SourceMayStop, NumbersGoOn, StimuliAreTheirOwn, OneLookChanges}
use Rattle.qp_model_order.proofs.StimulusForm.{stimulus-form, stimulus-items, cut-items}
use Rattle.qp_model_order.proofs.StimLemmas.{stim-own, stim-other}
use Rattle.qp_model_order.proofs.RunLemmas.{order-new, order-zero, order-look, order-stimulus, ends-zero, ends-asserted, ends-cut, ends-full}
use Rattle.qp_model_order.proofs.SourceLemmas.{runs-stimulus, runs-before, runs-asserted, runs-cut}
use Rattle.qp_model_order.proofs.NumberLemmas.{total-lane, numbered-next}

pub order_begins : OrderBegins
order_begins sys stimuli sources empty = order-new sys stimuli sources empty

pub zero_comes_last : ZeroComesLast
zero_comes_last sys stimuli looks lane0 sources xs old is none calm = order-zero sys stimuli looks lane0 sources xs old is none calm

pub free_look_comes_last : FreeLookComesLast
free_look_comes_last sys stimuli looks lane0 sources xs old n floor next nobody = order-look sys stimuli looks lane0 sources xs old n floor next nobody

pub stimulus_comes_last : StimulusComesLast
stimulus_comes_last sys stimuli looks lane0 front l back xs old n floor p g a behind calm =
    order-stimulus sys stimuli looks lane0 (front ++ l ∷ back) xs old front l back refl n floor p a.next a.acts g a.lookless behind calm

pub order_ends_in_zero : OrderEndsInZero
order_ends_in_zero sys stimuli looks lane0 sources xs old is none ends = ends-zero sys stimuli looks lane0 sources xs old is none ends

pub order_ends_in_stimulus : OrderEndsInStimulus
order_ends_in_stimulus sys stimuli looks lane0 front l back xs old n floor p g true a behind ends =
    ends-cut sys stimuli looks lane0 (front ++ l ∷ back) xs old front l back refl n floor p a.next a.acts g a.lookless behind ends
order_ends_in_stimulus sys stimuli looks lane0 front l back xs old n floor p g false a behind ends =
    ends-asserted sys stimuli looks lane0 (front ++ l ∷ back) xs old front l back refl n floor p a.next a.acts g a.lookless behind ends

pub order_ends_in_full_lane : OrderEndsInFullLane
order_ends_in_full_lane sys stimuli looks lane0 front l back xs old n floor size next = ends-full sys stimuli looks lane0 (front ++ l ∷ back) xs old front l back n floor size refl next

pub ends_are_one_order : EndsAreOneOrder
ends_are_one_order sys stimuli lane0 sources cuts xs h numbers = record {
  placed = h.stand;
  turns = ap (looks_right (thread_of sys stimuli lane0 sources cuts) []) h.merged ∙ h.turns;
  numbers = ap (λ ys. in_order [] (items_placed ys)) h.merged ∙ numbers;
  ends = ap (λ ys. ends_last (items_placed ys)) h.merged ∙ h.ends;
  free = h.free;
}

pub source_goes_on : SourceGoesOn
source_goes_on sys kernel done g whole s look one may fits = runs-stimulus sys kernel done g whole s [] look one may fits

pub source_stops : SourceMayStop
source_stops sys kernel done g whole s left = (
  runs-before sys kernel done g whole s left,
  λ look one may fits. runs-asserted sys kernel done g whole s left look one may fits,
  λ look one back asserted may some fits. runs-cut sys kernel done g whole s left look one back asserted may some fits,
)

pub numbers_go_on : NumbersGoOn
numbers_go_on front lane back r order old next =
    numbered-next (all_items (front ++ lane ∷ back)) (all_items (front ++ (lane ++ r ∷ []) ∷ back)) order (item_of r) old next (λ w. total-lane w front lane back r)

pub stimuli_are_their_own : StimuliAreTheirOwn
stimuli_are_their_own sys s asserted = (
  λ g fits. stimulus-items asserted g (stimulus-form sys s asserted g fits),
  λ one back n some fits. cut-items asserted one back n some (stimulus-form sys s asserted (one ++ back) fits),
)

pub one_look_changes : OneLookChanges
one_look_changes front l back n p g cuts behind = (stim-own front l back p n g, λ k other. stim-other cuts front l back p n g behind k other)
