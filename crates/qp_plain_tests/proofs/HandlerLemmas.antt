-- Handlers' publications, and the lane after them.
use Rattle.std.proofs.Common.{◌≡◌, ℕ, ◌-◌, List, [], ◌∷◌, ◌++◌, refl, sym, ◌∙◌, ap, subst, arith, Option, Some, None, Ok, Err}
use Rattle.std.specs.declared.result.Result.{Result}
use Rattle.std.specs.Result.{result_ok}
use Rattle.qp_model.specs.declared.record.Rec.{Rec}
use Rattle.qp_model.specs.declared.bodies.Body.TheVariants.{Lock, Unlock}
use Rattle.qp_model.specs.Record.{item_of}
use Rattle.qp_model.specs.Told.{Event, ToldItem, for_object, plain}
use Rattle.qp_model.proofs.RecordLemmas.{body-is}
use Rattle.qp_calls.specs.declared.did.Did.{Did}
use Rattle.qp_calls.specs.declared.answers.RoomFault.{RoomFault}
use Rattle.qp_calls.specs.declared.publication.Begun.{Begun}
use Rattle.qp_calls.specs.declared.publication.Begun.TheVariants as begun
use Rattle.qp_calls.specs.declared.publication.Publication.{Publication}
use Rattle.qp_calls.specs.LaneView.{LaneView, GrowsOf, Roomier, ceiling_in}
use Rattle.qp_calls.specs.Clauses.{entry_of}
use Rattle.qp_calls.specs.Notes.{spare_after, told_note}
use Rattle.qp_calls.specs.Publishing.{Begins, BeginsGoing}
use Rattle.qp_calls.specs.Tokens.{hands_by, without_entry}
use Rattle.qp_calls.proofs.Answering.{without-with}
use Rattle.qp_plain_tests.specs.Desk.{EndsIt, StaysSteady, Steady, Without}
use Rattle.qp_plain_tests.proofs.DeedLemmas.{steady-by}

pub steady-then : (u v w : LaneView) → Steady u v → Steady v w → Steady u w
steady-then u v w a b = record { sys = b.sys ∙ a.sys; serves = λ o. b.serves o ∙ a.serves o; hands = b.hands ∙ a.hands }

still : (v : LaneView) → Roomier v v
still v = record { same = refl; more = omega arith }

-- behind an `unlock` the ceiling is its number
ceiling-unlocked : (c n o : ℕ) (xs : List ToldItem) → ceiling_in c (xs ++ for_object o (plain (Unlock n)) ∷ []) ≡ n
unfolding ceiling_in
ceiling-unlocked c n o [] = refl
ceiling-unlocked c n o (x ∷ xs) = ceiling-unlocked _ n o xs

pub locked-steady : (o x : ℕ) (r : Rec) (u v w : LaneView) → item_of r ≡ record { of = o; body = Lock x } → Roomier u v → GrowsOf r.of (told_note r v) v w → Steady u w
unfolding hands_by told_note
locked-steady o x r u v w is room grows = steady-by r.of _ u v w room grows (rw (body-is o (Lock x) r is) refl)

pub locked-spare : (o x : ℕ) (r : Rec) (v w : LaneView) → item_of r ≡ record { of = o; body = Lock x } → w.spare ≡ spare_after r v.spare → w.spare ≡ v.spare - 1
unfolding spare_after
locked-spare o x r v w is spare = spare ∙ rw (body-is o (Lock x) r is) refl

pub unlocked-steady : (o x : ℕ) (r : Rec) (v w : LaneView) → item_of r ≡ record { of = o; body = Unlock x } → GrowsOf r.of (told_note r v) v w → Steady v w
unfolding hands_by told_note
unlocked-steady o x r v w is grows = steady-by r.of _ v v w (still v) grows (rw (body-is o (Unlock x) r is) refl)

pub unlocked-ceiling : (o x : ℕ) (r : Rec) (v w : LaneView) → item_of r ≡ record { of = o; body = Unlock x } → GrowsOf r.of (told_note r v) v w → x ≡ ceiling_in 0 w.told
unfolding told_note
unlocked-ceiling o x r v w is grows =
    let told : w.told ≡ v.told ++ for_object r.of (plain (Unlock x)) ∷ [] = grows.told ∙ rw (body-is o (Unlock x) r is) refl in
    sym (ap (λ ts. ceiling_in 0 ts) told ∙ ceiling-unlocked 0 x r.of v.told)

-- what is known of a publication that goes on
pub begun-going : (ev : Event) (reserve : Option ℕ) (c : ℕ) (r : Result Begun RoomFault) (b : Begun) (p : Publication) (v w : LaneView)
    → Begins ev reserve c v w r → Some b ≡ result_ok r → b ≡ begun.Going p → BeginsGoing ev reserve c p v w
begun-going ev reserve c (Ok (begun.Going q)) b p v w begins some is =
    let same : begun.Going q ≡ begun.Going p = cc in
    let one : q ≡ p = cc in
    subst (λ x. BeginsGoing ev reserve c x v w) one begins
begun-going ev reserve c (Ok (begun.Did d)) b p v w begins some is = absurd (cc)
begun-going ev reserve c (Err fault) b p v w begins some is = absurd (cc)

-- from its beginning to its end a publication changes no token
whole-steady : (ev : Event) (reserve : Option ℕ) (c : ℕ) (p : Publication) (u v w x : LaneView) → Steady u v → BeginsGoing ev reserve c p v w → Without (entry_of p.entry) w x → Steady u x
whole-steady ev reserve c p u v w x before begins ends = record {
  sys = ends.sys ∙ begins.grows.sys ∙ before.sys;
  serves = λ o. ends.serves o ∙ begins.grows.serves o ∙ before.serves o;
  hands = ends.hands ∙ ap (λ hs. without_entry (entry_of p.entry) hs) begins.hands ∙ without-with (entry_of p.entry) v.hands ∙ before.hands;
}

pub ends-steady : (ev : Event) (reserve : Option ℕ) (c : ℕ) (p : Publication) (d : Option Did) (u v w x : LaneView)
    → Steady u v → BeginsGoing ev reserve c p v w → EndsIt (entry_of p.entry) w x d → StaysSteady u x d
ends-steady ev reserve c p None u v w x before begins ends = ends
ends-steady ev reserve c p (Some d) u v w x before begins ends = λ value. whole-steady ev reserve c p u v w x before begins (ends value)
