-- What could still come of a stimulus that was cut.
use Rattle.std.proofs.Common.{◌≡◌, ℕ, Bool, true, false, List, [], ◌∷◌, ◌++◌, map, refl, sym, subst, Option, Some, None, inl, inr}
use Rattle.std.specs.Prelude.{◌≢◌}
use Rattle.qp_base.specs.declared.event.Ev.{Ev}
use Rattle.qp_model.specs.declared.stimulus.Stim.{Stim}
use Rattle.qp_model.specs.declared.stimulus.Stim.TheVariants as stim
use Rattle.qp_model.specs.declared.systems.System.{System}
use Rattle.qp_model.specs.declared.bodies.Body.{Body}
use Rattle.qp_model.specs.declared.bodies.Body.TheVariants as item
use Rattle.qp_model.specs.Record.{entry}
use Rattle.qp_model.specs.Told.{Told, Event, plain, for_object}
use Rattle.qp_model.specs.Calls as call
use Rattle.qp_model.specs.Calls.{Answer, Refused, AtQueue, AtPool, is_assertion}
use Rattle.qp_model.specs.Parts.{is_static, sizes_of}
use Rattle.qp_model.specs.Sites.{ring_of}
use Rattle.qp_model.specs.Sound.{IsSound}
use Rattle.qp_model.specs.Shapes.{Fits, Drops, MakesNew, NoBlockFor, Posts, PostsNew}
use Rattle.qp_model.specs.Sources.{CallFits, StimFits, Ticks}
use Rattle.qp_calls.specs.declared.answers.RoomFault.{RoomFault}
use Rattle.qp_calls.specs.LaneView.{LaneView, Gains, Grows}
use Rattle.qp_calls.specs.Clauses.{IsEvent, IsFault, event_of}
use Rattle.qp_calls.specs.Publishing.{PublishCut}
use Rattle.qp_calls.specs.Ticking.{GrowsByTicks, TickCut, by_ticker, ticker}
use Rattle.qp_calls.proofs.FirstPool.{pool_of_sound}
use Rattle.qp_calls.proofs.Flushing.{fault-still}
use Rattle.qp_calls.proofs.Growing.{gains-none}
use Rattle.qp_calls_stimulus.specs.Settling.{SettleCut}
use Rattle.qp_calls_stimulus.specs.Calling.{CallsCut}

-- a post could be refused, or asserted where nothing was asked for
record CouldPost (fixed : Bool) (sizes : List ℕ) (ring to sig : ℕ) (pars : List ℕ) (margin reserve : Option ℕ) : Type 0 where
  answer : Answer
  back : List Told
  posts : PostsNew fixed sizes ring to sig pars margin reserve answer back
  some : back ≢ []

static_post : (sizes : List ℕ) (ring to sig : ℕ) (pars : List ℕ) (margin reserve : Option ℕ) → CouldPost true sizes ring to sig pars margin reserve
unfolding PostsNew MakesNew Posts Drops
static_post sizes ring to sig pars None reserve =
    record { answer = AtQueue; back = plain (item.NoEntry to 0 0 0) ∷ []; posts = inr ([], entry 0 sig 0, (refl, refl), (0, 0, 0, refl)); some = λ none. absurd (cc) }
static_post sizes ring to sig pars (Some k) reserve =
    record { answer = Refused; back = plain (item.Full to 0 0 0 k) ∷ []; posts = inr ([], entry 0 sig 0, (refl, refl), (0, 0, 0, [], refl, refl)); some = λ none. absurd (cc) }

could_post : (sys : System) (to : ℕ) (ev : Event) (margin reserve : Option ℕ) → IsSound sys → IsEvent sys ev
    → CouldPost (is_static sys ev.sig) (sizes_of sys) (ring_of sys to) to ev.sig ev.pars margin reserve
unfolding PostsNew NoBlockFor
could_post sys to ev margin reserve sound is = go (is_static sys ev.sig) refl reserve
  where
    go : (b : Bool) → is_static sys ev.sig ≡ b → (reserve : Option ℕ) → CouldPost b (sizes_of sys) (ring_of sys to) to ev.sig ev.pars margin reserve
    go true h reserve = static_post (sizes_of sys) (ring_of sys to) to ev.sig ev.pars margin reserve
    go false h None =
        let pool = pool_of_sound sys ev sound is h in
        record { answer = AtPool; back = plain (item.NoBlock pool.number 0 0) ∷ []; posts = inl (pool.number, 0, 0, refl, pool.first, refl); some = λ none. absurd (cc) }
    go false h (Some k) =
        let pool = pool_of_sound sys ev sound is h in
        record { answer = Refused; back = plain (item.Short pool.number 0 0 k) ∷ []; posts = inl (pool.number, 0, 0, refl, pool.first, refl); some = λ none. absurd (cc) }

-- `room` refused a post
pub post-cut : (sys : System) (to : ℕ) (ev : Ev) (margin reserve : Option ℕ) (a w : LaneView) → IsSound sys → IsEvent sys (event_of ev) → w ≡ a
    → CallsCut sys (stim.Post to ev margin reserve) a w
unfolding StimFits CallFits Fits
post-cut sys to ev margin reserve a w sound is same =
    let could = could_post sys to (event_of ev) margin reserve sound is in
    record {
      one = [];
      back = could.back;
      asserted = is_assertion could.answer;
      grows = subst (λ x. Grows [] a x) (sym same) (gains-none a);
      fits = λ kernel. (could.answer, could.posts, refl);
      some = could.some;
    }

-- or cut a publication
pub publish-cut : (sys : System) (ev : Ev) (reserve : Option ℕ) (a w : LaneView) → a.sys ≡ sys → PublishCut (event_of ev) reserve a w → CallsCut sys (stim.Publish ev reserve) a w
unfolding StimFits CallFits
publish-cut sys ev reserve a w of cut = record {
  one = cut.g;
  back = cut.rest;
  asserted = is_assertion cut.answer;
  grows = cut.grows;
  fits = λ kernel. (cut.answer, subst (λ s. Fits s 0 None (call.Publish ev.sig ev.pars.items reserve) cut.answer (cut.g ++ cut.rest)) of cut.fits, refl);
  some = cut.some;
}

-- The ticks of a source are no object's.

none-ticks : (b : Body) → ticker 0 b ≡ 0
none-ticks (item.Tick t n counter) = refl
none-ticks (item.Fire t n reload) = refl
none-ticks _ = refl

all-none : (g : List Told) → map (by_ticker 0) g ≡ map (for_object 0) g
all-none [] = refl
all-none (t ∷ g) = rw (none-ticks t.body, all-none g) refl

pub ticks-grow : (g : List Told) (a w : LaneView) → a.by ≡ 0 → GrowsByTicks g a w → Grows g a w
ticks-grow g a w none h =
    let at : Gains (map (by_ticker 0) g) a w = subst (λ o. Gains (map (by_ticker o) g) a w) none h in
    subst (λ o. Gains (map (for_object o) g) a w) (sym none) (subst (λ ts. Gains ts a w) (all-none g) at)

pub tick-cut : (sys : System) (rate : ℕ) (a w : LaneView) → a.sys ≡ sys → a.by ≡ 0 → TickCut rate a w → CallsCut sys (stim.Tick rate) a w
unfolding StimFits
tick-cut sys rate a w of none cut = record {
  one = cut.g;
  back = cut.rest;
  asserted = false;
  grows = ticks-grow cut.g a w none cut.grows;
  fits = λ kernel. subst (λ (s : System). Ticks s rate 1 s.timers false (cut.g ++ cut.rest)) of cut.fits;
  some = cut.some;
}

-- or cut a settle
pub settle-is_cut : (sys : System) (a w : LaneView) → SettleCut sys a w → CallsCut sys stim.Settle a w
unfolding StimFits
settle-is_cut sys a w cut = record { one = cut.g; back = cut.rest; asserted = false; grows = cut.grows; fits = λ kernel. (cut.fits kernel, refl); some = cut.some }

-- the fault is one of the lane as it is now
pub cut-here : {sys : System} {s : Stim} (f : RoomFault) (a w : LaneView) → w ≡ a → IsFault a f → CallsCut sys s a w → CallsCut sys s a w × IsFault w f
cut-here f a w same fault cut = (cut, fault-still f a w same fault)
