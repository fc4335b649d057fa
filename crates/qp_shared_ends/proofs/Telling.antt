-- What a lane tells of its records is what the history of all gives.
use Rattle.std.proofs.Common.{◌≡◌, ℕ, ◌+◌, ◌/◌, ◌%◌, Bool, true, false, ◌&&◌, ◌||◌, List, [], ◌∷◌, ◌++◌, length, refl, sym, ◌∙◌, ap, Some, arith, eqb, IsTrue}
use Rattle.std.specs.Prelude.{count_ones}
use Rattle.std.specs.List.{list_all}
use Rattle.std.proofs.lemmas.Bool.{and_parts}
use Rattle.std.proofs.lemmas.List.{append_assoc}
use Rattle.qp_chart.specs.StateTree.{has}
use Rattle.qp_model.specs.declared.record.Rec.{Rec}
use Rattle.qp_model.specs.declared.systems.System.{System}
use Rattle.qp_model.specs.declared.bodies.Entry.{Entry}
use Rattle.qp_model.specs.declared.bodies.Body.{Body}
use Rattle.qp_model.specs.declared.bodies.Body.TheVariants.{Took, New, Dec, Lock, Same}
use Rattle.qp_model.specs.Record.{Item, item_of}
use Rattle.qp_model.specs.Told.{Event, Free, Left, Member, ToldItem}
use Rattle.qp_model.specs.History.{lane_items}
use Rattle.qp_model.specs.Knowing.{Facts, free_before, references_after, set_at, event_of_entry, event_known, known_of, told, told_lane, ceiling_after}
use Rattle.qp_model.specs.WordLaw.{is_pool, is_block, is_signal}
use Rattle.qp_calls.specs.Tokens.{token_of, handles}
use Rattle.qp_calls.specs.LaneView.{handled_in}
use Rattle.qp_calls.proofs.HandLemmas.{same-self}
use Rattle.qp_table.specs.Rule.{pool_at, block_at}
use Rattle.qp_table.specs.declared.view.Content.{Content}
use Rattle.qp_table.specs.declared.view.Glance.{Glance}
use Rattle.qp_table.specs.Lane.{known_with, told_as, tell_lane, event_seen, has_content}
use Rattle.qp_shared_lane.specs.Holds.{was_seen, is_borne_out, borne_out, FormerIs, AreFormer, SubscriberIs, KnowSubscribers, member_over}
use Rattle.qp_shared_ends.proofs.Members.{same_at, bare_all}

pub bare-tell : (ev : Entry → Event) (recs : List Rec) (ks : List ℕ) → length ks ≡ length recs → bare_all (tell_lane ev recs ks) ≡ lane_items recs
unfolding tell_lane lane_items
bare-tell ev [] ks e = refl
bare-tell ev (r ∷ recs) [] e = absurd (omega arith)
bare-tell ev (r ∷ recs) (k ∷ ks) e = ap (λ l. item_of r ∷ l) (bare-tell ev recs ks (omega arith))

or-left : (a b : Bool) → a ≡ true → (a || b) ≡ true
or-left true b e = refl
or-left false b e = absurd (cc)

or-right : (a b : Bool) → b ≡ true → (a || b) ≡ true
or-right true b e = refl
or-right false b e = e

-- what the end knows of a lane that serves these objects, has seen these words and read these events, and has these records
pub record Truths (sys : System) (w : Facts) (seen : List Glance) (contents : List Content) (serves : ℕ → Bool) (lane : List Item) : Type 0 where
  pub free : (p n k : ℕ) → IsTrue (is_pool sys p) → was_seen seen (pool_at p) (λ x. eqb (x / 4294967296) n && eqb (count_ones (x % 4294967296)) k) ≡ true → k ≡ free_before w p n
  pub left : (p b d k : ℕ) → IsTrue (is_block sys p b) → was_seen seen (block_at p b) (λ x. eqb (x / 4294967296) (d + 1) && eqb (x % 4294967296) k) ≡ true → k ≡ references_after w p b d
  pub event : (e : Entry) → has_content contents e ≡ true → event_of_entry w e ≡ Some (event_seen contents e)
  pub same : (o s n : ℕ) (before : List Item) (ts : List ToldItem) → IsTrue (is_signal sys s) → IsTrue (serves o) → lane ≡ before ++ same_at o s n ∷ bare_all ts → KnowSubscribers serves (before ++ same_at o s n ∷ []) ts
      → has (set_at w s n) o ≡ member_over o s false before

module _ (sys : System) (w : Facts) (seen : List Glance) (contents : List Content) (serves : ℕ → Bool) (lane : List Item) (truths : Truths sys w seen contents serves lane) where
  abbrev ev : Entry → Event
  ev = event_seen contents

  known-is : (o : ℕ) (b : Body) (k c : ℕ) (before : List Item) (ts : List ToldItem) → is_borne_out sys seen b (known_with ev b k) ≡ true → FormerIs c b (known_with ev b k) → SubscriberIs serves before o b (known_with ev b k)
      → ((e : Entry) → handles (token_of e) b ≡ true → has_content contents e ≡ true) → lane ≡ before ++ record { of = o; body = b } ∷ bare_all ts → KnowSubscribers serves (before ++ record { of = o; body = b } ∷ []) ts
      → known_with ev b k ≡ known_of w o c b
  unfolding known_of
  known-is o (Took f l m e) k c before ts borne former subs handled at later = sym (ap event_known (truths.event e (handled e (same-self (token_of e)))))
  known-is o (New p n b from sig pars) k c before ts borne former subs handled at later = let z = and_parts (is_pool sys p) (was_seen seen (pool_at p) (λ x. eqb (x / 4294967296) n && eqb (count_ones (x % 4294967296)) k)) borne in
      ap Free (truths.free p n k z.0 z.1)
  known-is o (Dec p b d r) k c before ts borne former subs handled at later = let z = and_parts (is_block sys p b) (was_seen seen (block_at p b) (λ x. eqb (x / 4294967296) (d + 1) && eqb (x % 4294967296) k)) borne in
      ap Left (truths.left p b d k z.0 z.1)
  known-is o (Lock x) k c before ts borne former subs handled at later = former
  known-is o (Same s n) k c before ts borne former subs handled at later = subs.1 ∙ ap Member (sym (truths.same o s n before ts borne subs.0 at later))
  known-is o _ k c before ts borne former subs handled at later = refl

  pub recs-told : (c : ℕ) (before : List Item) (recs : List Rec) (ks : List ℕ) → length ks ≡ length recs → lane ≡ before ++ lane_items recs → list_all (borne_out sys seen) (tell_lane ev recs ks) ≡ true → AreFormer c (tell_lane ev recs ks)
      → KnowSubscribers serves before (tell_lane ev recs ks) → ((e : Entry) → handled_in (token_of e) (tell_lane ev recs ks) ≡ true → has_content contents e ≡ true) → told_lane w c (lane_items recs) ≡ tell_lane ev recs ks
  unfolding tell_lane lane_items told_lane told AreFormer KnowSubscribers
  recs-told c before [] ks e at borne former subs handled = refl
  recs-told c before (r ∷ recs) [] e at borne former subs handled = absurd (omega arith)
  recs-told c before (r ∷ recs) (k ∷ ks) e at borne former subs handled =
      let i : Item = item_of r in
      let z = and_parts (borne_out sys seen (told_as ev i k)) (list_all (borne_out sys seen) (tell_lane ev recs ks)) borne in
      let known = known-is i.of i.body k c before (tell_lane ev recs ks) z.0 former.0 subs.0 (λ x h. handled x (or-left (handles (token_of x) i.body) (handled_in (token_of x) (tell_lane ev recs ks)) h))
      (at ∙ ap (λ l. before ++ i ∷ l) (sym (bare-tell ev recs ks (omega arith)))) subs.1 in
      let rest = recs-told (ceiling_after c i.body) (before ++ i ∷ []) recs ks (omega arith) (at ∙ sym (append_assoc before (i ∷ []) (lane_items recs))) z.1 former.1 subs.1 (λ x h. handled x (or-right (handles (token_of x) i.body) (handled_in (token_of x) (tell_lane ev recs ks)) h)) in
      (λ j. record { of = i.of; told = record { body = i.body; known = sym known j } } ∷ rest j)
