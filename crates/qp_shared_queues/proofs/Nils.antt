-- Takes of an empty queue.
use Rattle.std.proofs.Common.{◌≡◌, ℕ, ◌+◌, ◌<◌, ◌&&◌, not, List, [], ◌∷◌, Bool, true, false, cond, refl, sym, ap, subst, ◌∙◌, eq-eqb, Some, None, Option, get_or, length}
use Rattle.std.specs.Bool.{MatchBool}
use Rattle.std.proofs.lemmas.List.{get_or_read}
use Rattle.qp_model.specs.declared.record.Rec.{Rec}
use Rattle.qp_model.specs.declared.words.Word.TheVariants as word
use Rattle.qp_model.specs.declared.bodies.Body.TheVariants.{Nil}
use Rattle.qp_model.specs.History.{lane_items}
use Rattle.qp_model.specs.Record.{item_of}
use Rattle.qp_model.specs.Told.{plain}
use Rattle.qp_table.specs.Rule.{queue_at}
use Rattle.qp_table.specs.After.{noted, glanced}
use Rattle.qp_table.specs.QueueLaws.{f_in, l_in, m_in}
use Rattle.qp_table.specs.declared.view.View.{View}
use Rattle.qp_table.proofs.Looks.{nil-says}
use Rattle.qp_calls.specs.declared.answers.Counts as counts
use Rattle.qp_calls.specs.LaneView.{Counts, NotShown, Looks, AddsOf}
use Rattle.qp_calls.specs.Clauses.{TakesNone, last_nil, same_counts}
use Rattle.qp_calls_log.specs.declared.log.Log.{Log}
use Rattle.qp_calls_log.specs.Lane.{nil_of, last_nil_in}
use Rattle.qp_calls_log.specs.LaneLaws.{told-nil}
use Rattle.qp_table.specs.Told.{nil_rec}
use Rattle.qp_shared_words.specs.Nils.{is_new}
use Rattle.qp_shared_loops.specs.Ends.{LoopTakesNone as NoneEnds}
use Rattle.qp_shared_loops.proofs.Following.{sees-none}
use Rattle.qp_shared_lane.specs.declared.lane.LaneState.{LaneState}
use Rattle.qp_shared_lane.specs.Lane.{state_view, world_of_lane}
use Rattle.qp_shared_lane.specs.More.{IsPut}
use Rattle.qp_shared_lane.proofs.LawLemmas.{lanes_tell_their_logs}
use Rattle.qp_shared_queues.proofs.Lane.{then_view, ThenHolds}
use Rattle.qp_shared_queues.proofs.Looking.{counted-holds, counted-there}
use Rattle.qp_shared_queues.proofs.Noting.{neutral-nil, noted-holds, noted-adds, noted-shows}

-- whether the counts are new, by what the lane last told of the empty queue
new-is : (last : Option counts.Counts) (x : ℕ) → is_new last x ≡ not (same_counts (nil_of last) (f_in x) (l_in x) (m_in x))
new-is (Some c) x = refl
new-is None x = refl

pub last-is : (xs : List (Option counts.Counts)) (a k : ℕ) (last : Option counts.Counts) → k ≡ a → k < length xs → last ≡ get_or xs k last → nil_of last ≡ nil_of (get_or xs a None)
last-is xs a k last same low is = ap nil_of (get_or_read xs k last low is None ∙ ap (λ i. get_or xs i None) same)

module _ (l : LaneState) (a x : ℕ) (last : Option counts.Counts) (u : View) (told : Bool) (ends : NoneEnds l.sys.now (is_new last) a l.seat.me.0 x u)
    (small : a < 33) (last_is : nil_of last ≡ nil_of (get_or l.log.nils.items a None)) (told_is : told ≡ same_counts (last_nil_in a NotShown (lane_items l.log.recs.items)) (f_in x) (l_in x) (m_in x)) where
  last-told : last_nil_in a NotShown (lane_items l.log.recs.items) ≡ last_nil a NotShown (state_view l).told
  last-told = let t = lanes_tell_their_logs (world_of_lane l) l.sys.now l.by l.count l.ceiling l.log l.numbers.list l.seat.me.0 l.side.seat.me.0 l.holds in
      ap (last_nil_in a NotShown) (sym t.told) ∙ sym (told-nil a NotShown (state_view l).told)

  pub told-before : told ≡ same_counts (last_nil a NotShown (state_view l).told) (f_in x) (l_in x) (m_in x)
  told-before = told_is ∙ ap (λ s. same_counts s (f_in x) (l_in x) (m_in x)) last-told

  is-new : is_new last x ≡ not told
  is-new = new-is last x ∙ ap not (ap (λ s. same_counts s (f_in x) (l_in x) (m_in x)) (last_is ∙ l.log.nils_are a small) ∙ sym told_is)

  u-is : u ≡ cond {A = View} (not told) (noted l.seat.me.0 (queue_at a) x (nil_rec a x)) (glanced l.seat.me.0 (queue_at a) x)
  u-is = ends.0.0 ∙ (λ i. cond {A = View} (eq-eqb (f_in x + l_in x) (m_in x) ends.1 i && is-new i) (noted l.seat.me.0 (queue_at a) x (nil_rec a x)) (glanced l.seat.me.0 (queue_at a) x))

  -- told before
  module _ (yes : told ≡ true) where
    looked : u ≡ glanced l.seat.me.0 (queue_at a) x
    looked = u-is ∙ ap (λ (t : Bool). cond {A = View} (not t) (noted l.seat.me.0 (queue_at a) x (nil_rec a x)) (glanced l.seat.me.0 (queue_at a) x)) yes

    pub again-holds : ThenHolds l l.log l.numbers.list u
    again-holds = counted-holds l a x u looked ends.0.1

    pub takes-again : TakesNone a (f_in x) (l_in x) (m_in x) (state_view l) (then_view l l.log l.numbers.list u)
    takes-again = let z = counted-there l a x u looked ends.0.1 in record {
      adds = subst (λ (t : Bool). MatchBool t (Looks (word.Queue a) (f_in x + l_in x + m_in x) (Counts (f_in x) (l_in x) (m_in x)) (state_view l) (then_view l l.log l.numbers.list u)) (AddsOf a (plain (Nil (f_in x) (l_in x) (m_in x)) ∷ []) (state_view l) (then_view l l.log l.numbers.list u))) (sym yes ∙ told-before) z.0;
      empty = ends.1;
      shows = z.1;
    }

  -- told now
  module _ (no : told ≡ false) (h : Log) (more : List ℕ) (rec : Rec) (put : IsPut rec 0 l.log l.numbers.list h more) (says : item_of rec ≡ record { of = a; body = Nil (f_in x) (l_in x) (m_in x) }) where
    recorded : u ≡ noted l.seat.me.0 (queue_at a) x (nil_rec a x)
    recorded = u-is ∙ ap (λ (t : Bool). cond {A = View} (not t) (noted l.seat.me.0 (queue_at a) x (nil_rec a x)) (glanced l.seat.me.0 (queue_at a) x)) no

    pub nil-holds : ThenHolds l h more u
    nil-holds = noted-holds l a a x _ (Nil (f_in x) (l_in x) (m_in x)) l.seat.me.0.seen rec (nil_rec a x) u h more recorded (sees-none l.seat.me.0.seen) ends.0.1.saw ends.0.1.mark put says (nil-says a (f_in x) (l_in x) (m_in x)) (neutral-nil a (f_in x) (l_in x) (m_in x))

    pub takes-nil : h.spare + 1 ≡ l.log.spare → TakesNone a (f_in x) (l_in x) (m_in x) (state_view l) (then_view l h more u)
    takes-nil spare = record {
      adds = subst (λ (t : Bool). MatchBool t (Looks (word.Queue a) (f_in x + l_in x + m_in x) (Counts (f_in x) (l_in x) (m_in x)) (state_view l) (then_view l h more u)) (AddsOf a (plain (Nil (f_in x) (l_in x) (m_in x)) ∷ []) (state_view l) (then_view l h more u))) (sym no ∙ told-before)
          (noted-adds l a a x _ (Nil (f_in x) (l_in x) (m_in x)) l.seat.me.0.seen rec (nil_rec a x) u h more recorded (sees-none l.seat.me.0.seen) ends.0.1.saw ends.0.1.mark put says (nil-says a (f_in x) (l_in x) (m_in x)) (neutral-nil a (f_in x) (l_in x) (m_in x)) spare);
      empty = ends.1;
      shows = noted-shows l a a x _ (Nil (f_in x) (l_in x) (m_in x)) l.seat.me.0.seen rec (nil_rec a x) u h more recorded (sees-none l.seat.me.0.seen) ends.0.1.saw ends.0.1.mark put says (nil-says a (f_in x) (l_in x) (m_in x)) (neutral-nil a (f_in x) (l_in x) (m_in x)) (f_in x) (l_in x) (m_in x) refl refl refl ends.0.1.own;
    }
