-- One call that adds a record: what it leaves of the world, and of the lane's view.
use Rattle.std.proofs.Common.{◌≡◌, ℕ, suc, ◌+◌, ◌<◌, true, false, List, [], ◌∷◌, ◌++◌, refl, sym, ◌∙◌, subst, arith, IsTrue}
use Rattle.qp_model.specs.declared.record.Rec.{Rec}
use Rattle.qp_model.specs.declared.words.Word.{Word}
use Rattle.qp_model.specs.declared.words.Word.TheVariants as word
use Rattle.qp_model.specs.declared.bodies.Entry.{Entry}
use Rattle.qp_model.specs.declared.bodies.Body.{Body}
use Rattle.qp_model.specs.Record.{item_of}
use Rattle.qp_model.specs.Told.{Told, for_object}
use Rattle.qp_model.specs.History.{Draws, touch_of, same_word, mark_of, drawn_on, hist, total, is_numbered, all_items}
use Rattle.qp_model.specs.Line.{line_next}
use Rattle.qp_model.specs.FreeBlocks.{pool_next}
use Rattle.qp_model.specs.References.{refs_next}
use Rattle.qp_model.specs.Knowing.{event_of_entry, known_of, told}
use Rattle.qp_model.specs.WordLaw.{is_object, is_block, is_pool}
use Rattle.qp_calls.specs.LaneView.{Gains, AddsOf, mark_or, ceiling_in}
use Rattle.qp_calls.specs.Tokens.{hands_of}
use Rattle.qp_plain_sound.specs.Log.{with_record}
use Rattle.qp_plain_sound.specs.WordStates.{pool_in, refs_in, line_in}
use Rattle.qp_plain_sound.specs.Sound.{SoundWorld, facts_in, hands_in, is_made}
use Rattle.qp_plain_sound.specs.View.{view_of}
use Rattle.qp_plain_sound.specs.Step.{WorldStep, Grown, MayCome, before, behind, hands_before}
use Rattle.qp_plain_sound.proofs.WorldLemmas.{world-more, hands_now}
use Rattle.qp_plain_sound.proofs.ViewLemmas.{view-gains, marks-now, hist-now, line-now, pool-now, refs-now, line-still, pool-still, refs-still, set-still, event_of-still}

module _ (s : WorldStep) (o : ℕ) (b : Body) (world : SoundWorld s.sys s.lanes s.order) (grown : Grown s.lanes s.order s.at s.rec s.more s.longer)
    (says : item_of s.rec ≡ record { of = o; body = b }) (may : MayCome s o b) where
  -- what holds of the lanes with the record holds of those after the call
  after_lanes : (P : List (List Rec) → Type 0) → P (with_record s.lanes s.at s.rec) → P s.more
  after_lanes P h = subst P (sym grown.lanes_are) h

  after_both : (P : List (List Rec) → List ℕ → Type 0) → P (with_record s.lanes s.at s.rec) (s.order ++ s.at ∷ []) → P s.more s.longer
  after_both P h = subst (λ ls. P ls s.longer) (sym grown.lanes_are) (subst (P (with_record s.lanes s.at s.rec)) (sym grown.order_is) h)

  pub world-after : SoundWorld s.sys s.more s.longer
  world-after = after_both (λ ls xs. SoundWorld s.sys ls xs) (world-more s.sys s.lanes s.order s.at s.rec o b world grown.within says may)

  pub gains : Gains (for_object o (told (facts_in s.sys s.more) o (ceiling_in 0 (before s).told) b) ∷ []) (before s) (behind s)
  unfolding view_of
  gains =
      after_both (λ ls xs. Gains (for_object o (told (facts_in s.sys ls) o (ceiling_in 0 (before s).told) b) ∷ []) (before s) (view_of s.sys ls xs s.at s.left s.by s.stops s.answered s.purses))
      (view-gains s.sys s.lanes s.order s.at s.rec o b world grown.within says may s.spare s.left s.by s.stops s.answered s.purses)

  -- the same, told in another way
  pub adds : s.left + 1 ≡ s.spare → (t : Told) → ((c : ℕ) → told (facts_in s.sys s.more) o c b ≡ t) → AddsOf o (t ∷ []) (before s) (behind s)
  unfolding view_of
  adds less t is = record { grows = subst (λ x. Gains (for_object o x ∷ []) (before s) (behind s)) (is (ceiling_in 0 (before s).told)) gains; spare = less }

  pub marks-after : (w : Word) → total w (all_items s.more) ≡ mark_or (total w (all_items s.lanes)) (mark_of w (touch_of o b))
  marks-after w =
      after_lanes (λ ls. total w (all_items ls) ≡ mark_or (total w (all_items s.lanes)) (mark_of w (touch_of o b)))
      (marks-now s.sys s.lanes s.order s.at s.rec o b world grown.within says may w)

  -- a number that is drawn raises the mark
  pub draws-up : (w : Word) → same_word w w ≡ true → touch_of o b ≡ Draws w (suc (total w (all_items s.lanes))) → (before s).mark w < (behind s).mark w
  unfolding view_of
  draws-up w self draws =
      let now : total w (all_items s.more) ≡ suc (total w (all_items s.lanes)) = marks-after w ∙ rw (draws, self) refl in
      omega (arith, now)

  pub hands-after : hands_in s.sys s.more s.longer ≡ hands_of (hands_before s) b (known_of (facts_in s.sys s.more) o 0 b)
  hands-after =
      after_both (λ ls xs. hands_in s.sys ls xs ≡ hands_of (hands_before s) b (known_of (facts_in s.sys ls) o 0 b))
      (hands_now s.sys s.lanes s.order s.at s.rec o b world grown.within says may)

  pub hist-after : (w : Word) → same_word w w ≡ true → IsTrue (is_numbered w (all_items s.lanes)) → touch_of o b ≡ Draws w (suc (total w (all_items s.lanes)))
      → hist w (all_items s.more) ≡ hist w (all_items s.lanes) ++ record { of = o; body = b } ∷ []
  hist-after w self numbers draws =
      after_lanes (λ ls. hist w (all_items ls) ≡ hist w (all_items s.lanes) ++ record { of = o; body = b } ∷ [])
      (hist-now s.sys s.lanes s.order s.at s.rec o b world grown.within says may w self numbers draws)

  pub line-after : (a : ℕ) → IsTrue (is_object s.sys a) → touch_of o b ≡ Draws (word.Queue a) (suc (total (word.Queue a) (all_items s.lanes))) → line_in s.sys s.more a ≡ line_next (line_in s.sys s.lanes a) b
  line-after a h draws =
      after_lanes (λ ls. line_in s.sys ls a ≡ line_next (line_in s.sys s.lanes a) b) (line-now s.sys s.lanes s.order s.at s.rec o b world grown.within says may a h draws)

  pub pool-after : (p : ℕ) → IsTrue (is_pool s.sys p) → touch_of o b ≡ Draws (word.Pool p) (suc (total (word.Pool p) (all_items s.lanes))) → pool_in s.sys s.more p ≡ pool_next (pool_in s.sys s.lanes p) b
  pool-after p h draws =
      after_lanes (λ ls. pool_in s.sys ls p ≡ pool_next (pool_in s.sys s.lanes p) b) (pool-now s.sys s.lanes s.order s.at s.rec o b world grown.within says may p h draws)

  pub refs-after : (p c : ℕ) → IsTrue (is_block s.sys p c) → touch_of o b ≡ Draws (word.Block p c) (suc (total (word.Block p c) (all_items s.lanes))) → refs_in s.more p c ≡ refs_next (refs_in s.lanes p c) b
  refs-after p c h draws =
      after_lanes (λ ls. refs_in ls p c ≡ refs_next (refs_in s.lanes p c) b) (refs-now s.sys s.lanes s.order s.at s.rec o b world grown.within says may p c h draws)

  pub line-same : (a : ℕ) → drawn_on (word.Queue a) (touch_of o b) ≡ false → line_in s.sys s.more a ≡ line_in s.sys s.lanes a
  line-same a k = after_lanes (λ ls. line_in s.sys ls a ≡ line_in s.sys s.lanes a) (line-still s.sys s.lanes s.order s.at s.rec o b world grown.within says may a k)

  pub pool-same : (p : ℕ) → drawn_on (word.Pool p) (touch_of o b) ≡ false → pool_in s.sys s.more p ≡ pool_in s.sys s.lanes p
  pool-same p k = after_lanes (λ ls. pool_in s.sys ls p ≡ pool_in s.sys s.lanes p) (pool-still s.sys s.lanes s.order s.at s.rec o b world grown.within says may p k)

  pub refs-same : (p c : ℕ) → drawn_on (word.Block p c) (touch_of o b) ≡ false → refs_in s.more p c ≡ refs_in s.lanes p c
  refs-same p c k = after_lanes (λ ls. refs_in ls p c ≡ refs_in s.lanes p c) (refs-still s.sys s.lanes s.order s.at s.rec o b world grown.within says may p c k)

  pub set-same : (g : ℕ) → drawn_on (word.Signal g) (touch_of o b) ≡ false → hist (word.Signal g) (all_items s.more) ≡ hist (word.Signal g) (all_items s.lanes)
  set-same g k =
      after_lanes (λ ls. hist (word.Signal g) (all_items ls) ≡ hist (word.Signal g) (all_items s.lanes)) (set-still s.sys s.lanes s.order s.at s.rec o b world grown.within says may g k)

  pub event_of-same : (e : Entry) → is_made (all_items s.lanes) e ≡ true → event_of_entry (facts_in s.sys s.more) e ≡ event_of_entry (facts_in s.sys s.lanes) e
  event_of-same e made =
      after_lanes (λ ls. event_of_entry (facts_in s.sys ls) e ≡ event_of_entry (facts_in s.sys s.lanes) e) (event_of-still s.sys s.lanes s.order s.at s.rec o b world grown.within says may e made)
