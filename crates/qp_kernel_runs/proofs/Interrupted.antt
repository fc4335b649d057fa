-- What a look let happen, as lane 0 sees it.
use Rattle.std.proofs.Common.{◌≡◌, ℕ, zero, suc, ◌+◌, ◌-◌, ◌<◌, ◌≤◌, ◌==◌, nat_lt, cond, Bool, true, false, ◌⊎◌, ◌&&◌, ◌||◌, List, [], ◌∷◌, ◌++◌, map, length, drop, get_or, slice_set, refl, sym, ◌∙◌, ap, subst, arith, inl, inr, Option, Some, None, append-nil}
use Rattle.std.specs.List.{list_all, list_any}
use Rattle.std.specs.Option.{option_map, is_some}
use Rattle.std.proofs.lemmas.Bool.{and_from, and_parts}
use Rattle.std.proofs.lemmas.Bool.Decides.{nat_tests}
use Rattle.qp_model.specs.declared.stimulus.Stim.{Stim}
use Rattle.qp_model.specs.declared.systems.System.{System}
use Rattle.qp_model.specs.Kernels.{sim}
use Rattle.qp_model.specs.Sources.{StimFits}
use Rattle.qp_model.specs.Told.{Told}
use Rattle.qp_model.specs.declared.stimulus.Stim.TheVariants as stim
use Rattle.qp_model.specs.OneOrder.{all_empty, acts_next, may_act}
use Rattle.qp_calls.specs.LaneView.{LaneView, Purse, Happening, is_codeless, no_code, is_known}
use Rattle.qp_calls.specs.Clauses.{Stopped}
use Rattle.qp_plain_sound.specs.View.{view_of}
use Rattle.qp_model_order.specs.SourceRun.{untold_all}
use Rattle.qp_kernel.specs.Happenings.{run_order, lane_order, told_by_source, has_no_stim}
use Rattle.qp_kernel.specs.Interrupting.{IsLaneKept, IsUntouched, Acts, Happens, HappensToFail, HappensInPart, FindsNoRoom, HasNone, IsStopped, is_unset}
use Rattle.qp_kernel_turns.specs.Halting.{asked_once}
use Rattle.qp_calls_log.specs.declared.log.Log.{Log}
use Rattle.qp_plain.specs.declared.world.PlainWorld.{PlainWorld}
use Rattle.qp_plain.specs.Book.{logs_of, purse_of, no_purse}
use Rattle.qp_plain.specs.NewWorld.{chosen, log_in}
use Rattle.qp_plain.specs.World.{StopIs, was_handed}
use Rattle.qp_plain.specs.WorldView.{world_view}
use Rattle.qp_plain.proofs.Stopping.{nothing-handed}
use Rattle.qp_plain.proofs.EmptyQueues.{rests-counts}
use Rattle.qp_calls_stimulus.specs.declared.doing.Stimulated.{Stimulated}
use Rattle.qp_calls_stimulus.specs.declared.doing.Stimulated.TheVariants as stimulated
use Rattle.qp_kernel_runs.specs.declared.world.SimWorld.{SimWorld}
use Rattle.qp_kernel_runs.specs.Acting.{HasActed}
use Rattle.qp_kernel_runs.specs.Choosing.{IsChosen, left_of}
use Rattle.qp_kernel_runs.specs.Seating.{seated}
use Rattle.qp_kernel_runs.specs.SimView.{sim_view}
use Rattle.qp_kernel_runs.specs.Visiting.{Rests, Amounts, EndsInAssertion, EndsInSpill, EndsAtOnce}
use Rattle.qp_kernel_runs.proofs.ChoiceLemmas.{acts-chosen}
use Rattle.qp_kernel_runs.proofs.Worlds.{purses, purse-here}

-- The lane is kept, whatever has happened and was answered.
pub seated-kept : (plan : List (List Stim)) (hs more : List Happening) (v w : LaneView) → IsLaneKept v w → IsLaneKept (seated plan hs v) (seated plan more w)
unfolding is_known
seated-kept plan hs more v w k = record {
  world = k.world;
  lane = k.lane;
  log = k.log;
  sys = k.sys;
  told = k.told;
  spare = k.spare;
  by = k.by;
  serves = k.serves;
  rise = k.rise;
  shown = k.shown;
  stops = k.stops;
  own = k.own;
  event = λ e known. k.event e known;
  plan = refl;
}

pub kept-answered : (v w : LaneView) (codes : List ℕ) (asked : ℕ) → IsLaneKept v w → IsLaneKept v (record w { answered = codes; asked = asked })
kept-answered v w codes asked k = record {
  world = k.world;
  lane = k.lane;
  log = k.log;
  sys = k.sys;
  told = k.told;
  spare = k.spare;
  by = k.by;
  serves = k.serves;
  rise = k.rise;
  shown = k.shown;
  stops = k.stops;
  own = k.own;
  event = k.event;
  plan = k.plan;
}

-- Behind a question that found no code all goes as before it.
pub kept-once : (v w : LaneView) → IsLaneKept (asked_once v) w → IsLaneKept v w
unfolding is_known
kept-once v w k = record {
  world = k.world;
  lane = k.lane;
  log = k.log;
  sys = k.sys;
  told = k.told;
  spare = k.spare;
  by = k.by;
  serves = k.serves;
  rise = k.rise;
  shown = k.shown;
  stops = k.stops;
  own = k.own;
  event = λ e known. k.event e known;
  plan = k.plan;
}

untouched-once : (v w : LaneView) → IsUntouched (asked_once v) w → IsUntouched v w
untouched-once v w u = record { kept = kept-once v w u.kept; answered = u.answered; hands = u.hands }

acts-once : (v : LaneView) (base : Bool) (source place : ℕ) (s : Stim) → Acts (asked_once v) base source place s → Acts v base source place s
acts-once v base source place s a = record { some = a.some; few = a.few; counted = a.counted; left = a.left; its = a.its; next = a.next }

pub none-once : (base : Bool) (v w : LaneView) → HasNone true base (asked_once v) w → HasNone true base v w
none-once base v w h = record { untouched = untouched-once v w h.untouched; happened = h.happened; asked = λ apart. absurd (cc); none = h.none }

pub happens-once : (look : ℕ) (base : Bool) (v w : LaneView) → Happens look base (asked_once v) w → Happens look base v w
happens-once look base v w h = record {
  untouched = untouched-once v w h.untouched;
  source = h.source;
  place = h.place;
  s = h.s;
  one = h.one;
  acts = acts-once v base h.source h.place h.s h.acts;
  fits = h.fits;
  comes = h.comes;
}

pub stopped-once : (look : ℕ) (base : Bool) (v w : LaneView) → IsStopped look base (asked_once v) w → IsStopped look base v w
stopped-once look base v w h = record { kept = kept-once v w h.kept; code = h.code; answered = h.answered; why = by h.why }
  where
    by : ((w.happened ≡ v.happened) × (is_unset v ≡ false)) ⊎ HappensToFail look base (asked_once v) w ⊎ HappensInPart look base (asked_once v) w ⊎ FindsNoRoom base (asked_once v) w
        → ((w.happened ≡ v.happened) × (is_unset v ≡ false)) ⊎ HappensToFail look base v w ⊎ HappensInPart look base v w ⊎ FindsNoRoom base v w
    by (inl still) = inl still
    by (inr (inl f)) =
        inr (inl (record { source = f.source; place = f.place; s = f.s; one = f.one; acts = acts-once v base f.source f.place f.s f.acts; fits = f.fits; comes = f.comes }))
    by (inr (inr (inl f))) = inr (inr (inl (record {
      source = f.source;
      place = f.place;
      s = f.s;
      one = f.one;
      back = f.back;
      asserted = f.asserted;
      size = f.size;
      acts = acts-once v base f.source f.place f.s f.acts;
      some = f.some;
      fits = f.fits;
      states = f.states;
      full = f.full;
      comes = f.comes;
    })))
    by (inr (inr (inr f))) = inr (inr (inr (record {
      source = f.source;
      place = f.place;
      s = f.s;
      size = f.size;
      acts = acts-once v base f.source f.place f.s f.acts;
      states = f.states;
      full = f.full;
      comes = f.comes;
    })))

pub kept-same : (v : LaneView) → IsLaneKept v v
kept-same v = record {
  world = refl;
  lane = refl;
  log = ([], sym (append-nil v.log));
  sys = refl;
  told = refl;
  spare = refl;
  by = refl;
  serves = λ o. refl;
  rise = λ x. omega arith;
  shown = λ x same. refl;
  stops = refl;
  own = λ a. refl;
  event = λ e known. refl;
  plan = refl;
}

-- Where a code was found, a lane has handed one in.
all-put_back : (p : Purse → Bool) (xs : List Purse) (k : ℕ) (d y : Purse) → list_all p (slice_set xs k y) ≡ true → p (get_or xs k d) ≡ true → list_all p xs ≡ true
all-put_back p [] k d y h here = refl
all-put_back p (x ∷ xs) zero d y h here = and_from _ _ here (and_parts _ _ h).1
all-put_back p (x ∷ xs) (suc k) d y h here = and_from _ _ (and_parts _ _ h).0 (all-put_back p xs k d y (and_parts _ _ h).1 here)

codeless-bare : (ps : List Purse) → list_all is_codeless ps ≡ true → list_all (λ p. no_code p.stops) ps ≡ true
codeless-bare [] h = refl
codeless-bare (p ∷ ps) h = and_from _ _ (and_parts _ _ (and_parts _ _ h).0).0 (codeless-bare ps (and_parts _ _ h).1)

none-handed : (c : ℕ) (gs : List Log) → list_all (λ p. no_code p.stops) (map purse_of gs) ≡ true → list_any (was_handed c) gs ≡ true → ⊥
none-handed c [] h k = absurd (cc)
none-handed c (g ∷ gs) h k = go g.stops.list (and_parts _ _ h).0 k (none-handed c gs (and_parts _ _ h).1)
  where
    go : (cs : List ℕ) → no_code cs ≡ true → (list_any (λ x. x == c) cs || list_any (was_handed c) gs) ≡ true → (list_any (was_handed c) gs ≡ true → ⊥) → ⊥
    go [] e k later = later k
    go (x ∷ cs) e k later = absurd (cc)

pub code-handed : (w : PlainWorld) (code : ℕ) (codes : List ℕ) → (world_view w).answered ≡ code ∷ codes → (no_code (world_view w).stops && list_all is_codeless (world_view w).aside.purses) ≡ true → ⊥
unfolding view_of
code-handed w code codes found bare = by (w.stop == 0) refl
  where
    by : (u : Bool) → (w.stop == 0) ≡ u → ⊥
    by true e =
        let none : w.stop ≡ 0 = grind (arith, nat_tests) in
        let empty = nothing-handed w.book w.book.within (subst (λ x. StopIs x (logs_of w.book)) none w.stops) in
        let wrong : [] ≡ code ∷ codes = sym empty.1 ∙ found in
        absurd (cc)
    by false e =
        let handed : list_any (was_handed w.stop) (logs_of w.book) ≡ true = subst (λ u. (u || list_any (was_handed w.stop) (logs_of w.book)) ≡ true) e w.stops.handed in
        let parts = and_parts _ _ bare in
        let others : list_all (λ p. no_code p.stops) (slice_set (purses w) (chosen w) no_purse) ≡ true = codeless-bare (slice_set (purses w) (chosen w) no_purse) parts.1 in
        let here : no_code (get_or (purses w) (chosen w) no_purse).stops ≡ true = subst (λ p. no_code p.stops ≡ true) (purse-here w) parts.0 in
        none-handed w.stop (logs_of w.book) (all-put_back (λ p. no_code p.stops) (purses w) (chosen w) no_purse no_purse others here) handed

-- Whether a code was found.
pub none-found : (v w : LaneView) (r : Option ℕ) → Stopped v w r → is_some r ≡ false → (w ≡ asked_once v) × (list_all is_codeless v.aside.purses ≡ true)
none-found v w None h e = (h.0, h.3)
none-found v w (Some code) h e = absurd (cc)

pub some-found : (v w : LaneView) (r : Option ℕ) → Stopped v w r → is_some r ≡ true → (code : ℕ) × Stopped v w (Some code)
some-found v w None h e = absurd (cc)
some-found v w (Some code) h e = (code, h)

-- A code is found, before any source acts.
module _ (plan : List (List Stim)) (hs : List Happening) (w p : PlainWorld) (code : ℕ) (found : Stopped (world_view w) (world_view p) (Some code)) where
  now : world_view p ≡ record (world_view w) { answered = code ∷ (world_view w).answered; asked = suc (world_view w).asked }
  now = found.0

  unset : (u x y z : Bool) → ((u && y) ≡ true → ⊥) → ((u && x) && y) ≡ z → z ≡ false
  unset u x y false none e = refl
  unset true true true true none e = absurd (none refl)
  unset true true false true none e = absurd (cc)
  unset true false y true none e = absurd (cc)
  unset false x y true none e = absurd (cc)

  pub stopped-first : (look : ℕ) (base : Bool) → IsStopped look base (seated plan hs (world_view w)) (seated plan hs (world_view p))
  stopped-first look base = record {
    kept = subst (λ v. IsLaneKept (seated plan hs (world_view w)) (seated plan hs v)) (sym now) (kept-answered (seated plan hs (world_view w)) (seated plan hs (world_view w)) (code ∷ (world_view w).answered) (suc (world_view w).asked) (kept-same (seated plan hs (world_view w))));
    code = code;
    answered = ap (λ v. v.answered) now;
    why = inl (
      refl,
      unset (no_code (world_view w).stops) (no_code (world_view w).answered) (list_all is_codeless (world_view w).aside.purses) _
          (λ bare. code-handed p code (world_view w).answered (ap (λ v. v.answered) now)
          (ap (λ v. no_code v.stops && list_all is_codeless v.aside.purses) now ∙ bare)) refl,
    );
  }

-- The source that was chosen acted.
module _ (w : SimWorld) (sys : System) (made : (world_view w.plain).sys ≡ sys) (base rests : Bool) (resting : rests ≡ (base && all_empty w.plain.sys.now (log_in w.plain))) (live : w.halted ≡ false) where
  abbrev v : LaneView
  v = sim_view w

  logged : log_in w.plain ≡ run_order 0 (untold_all (world_view w.plain).told) w.done.list
  unfolding view_of
  logged = w.holds.order

  pub chosen-acts : (found : Option ℕ) → IsChosen rests w.stim.now w.begun.items w.last found → has_no_stim v
      → acts_next v.sys v.plan (lane_order v) base ≡ option_map (λ j. record { source = j + 1; place = get_or w.begun.items j 0 + 1 }) found
  unfolding view_of
  chosen-acts found is none =
      acts-chosen v.sys w.stim.now w.begun.items w.last w.done.list (world_view w.plain) base found w.holds.counted w.holds.recent (w.holds.counts live) none
      (subst (λ b. IsChosen b w.stim.now w.begun.items w.last found)
      (resting ∙ ap (λ l. base && all_empty w.plain.sys.now l) logged) is)

  pub nothing-acts : IsChosen rests w.stim.now w.begun.items w.last None → (u : LaneView) → u ≡ v → HasNone true base v u
  nothing-acts is u e = subst (HasNone true base v) (sym e) (record {
    untouched = record { kept = kept-same v; answered = refl; hands = refl };
    happened = refl;
    asked = λ apart. absurd (cc);
    none = λ acts none. chosen-acts None is none;
  })

  -- a `settle` finds every queue empty
  pub rests-there : (j : ℕ) → IsChosen rests w.stim.now w.begun.items w.last (Some j) → (ss : List Stim) → left_of w.stim.now w.begun.items j ≡ stim.Settle ∷ ss → Rests (world_view w.plain)
  unfolding view_of
  rests-there j is ss e =
      let may : may_act rests (left_of w.stim.now w.begun.items j) ≡ true = subst (λ k. may_act rests (left_of w.stim.now w.begun.items k) ≡ true) (sym is.its) is.may in
      let resting_now : rests ≡ true = subst (λ l. may_act rests l ≡ true) e may in
      let empty = (and_parts base (all_empty w.plain.sys.now (log_in w.plain)) (sym resting ∙ resting_now)).1 in
      λ p object. rests-counts w.plain empty p object

  pub place-there : (j : ℕ) → IsChosen rests w.stim.now w.begun.items w.last (Some j) → j < length w.stim.now
  place-there j is = let few = go w.last (length w.stim.now) is.turn is.few w.holds.recent (nat_lt (w.last + is.turn) (length w.stim.now)) refl in omega (arith, few, is.its)
    where
      go : (last n k : ℕ) → k < n → last ≤ n → (u : Bool) → nat_lt (last + k) n ≡ u → cond u (last + k) (last + k - n) < n
      go last n k lt le true e = grind (arith, nat_tests)
      go last n k lt le false e = omega (arith, lt, le)

  module _ (j look : ℕ) (new : SimWorld) (answer : Stimulated) (few : j < length w.stim.now) (is : IsChosen rests w.stim.now w.begun.items w.last (Some j)) (acted : HasActed j sys look w new answer) where
    abbrev place : ℕ
    place = get_or w.begun.items j 0 + 1

    acts : Acts v base (j + 1) place acted.s
    acts = record {
      some = omega arith;
      few = omega (arith, few);
      counted = omega arith;
      left = acted.left;
      its =
          let first : place - 1 ≡ get_or w.begun.items j 0 = omega arith in
          let at : j + 1 - 1 ≡ j = omega arith in
          ap (λ k. drop k (get_or w.stim.now (j + 1 - 1) [])) first ∙ ap (λ k. drop (get_or w.begun.items j 0) (get_or w.stim.now k [])) at ∙ acted.its;
      next = λ none. chosen-acts (Some j) is none;
    }

    lane_kept : IsLaneKept v (sim_view new)
    lane_kept = subst (λ plan. IsLaneKept v (seated plan new.done.list (world_view new.plain))) (sym acted.plan) (seated-kept w.stim.now w.done.list new.done.list (world_view w.plain) (world_view new.plain) acted.leaves.kept)

    pub memory-acted : IsLaneKept v (sim_view new)
    memory-acted = lane_kept

    abbrev Amount : Stimulated → Type 0
    Amount x = Amounts sys acted.s place look (length (told_by_source (j + 1) w.done.list)) acted.g (world_view w.plain) (world_view new.plain) x

    of-system : (asserted : Bool) (g : List Told) → StimFits sys sim acted.s asserted g → StimFits v.sys sim acted.s asserted g
    of-system asserted g fits = subst (λ y. StimFits y sim acted.s asserted g) (sym made) fits

    comes-as : (g : List Told) → acted.g ≡ g → (sim_view new).happened ≡ v.happened ++ (record { at = length v.told; source = j + 1; told = g }) ∷ []
    comes-as g is_g = acted.happened ∙ ap (λ l. v.happened ++ (record { at = length v.told; source = j + 1; told = l }) ∷ []) is_g

    pub done-acted : Amount stimulated.Done → Happens look base v (sim_view new)
    done-acted k = record {
      untouched = record { kept = lane_kept; answered = acted.leaves.answered; hands = k.3 };
      source = j + 1;
      place = place;
      s = acted.s;
      one = k.0;
      acts = acts;
      fits = of-system false k.0 (k.2 sim);
      comes = comes-as _ k.1;
    }

    module _ (p : PlainWorld) where
      abbrev u : LaneView
      u = seated new.stim.now new.done.list (world_view p)

      why-acted : (EndsInAssertion sys acted.s place look acted.g ⊎ EndsInSpill sys acted.s place look (length (told_by_source (j + 1) w.done.list)) acted.g ⊎ EndsAtOnce (length (told_by_source (j + 1) w.done.list)) acted.g)
          → ((u.happened ≡ v.happened) × (is_unset v ≡ false)) ⊎ HappensToFail look base v u ⊎ HappensInPart look base v u ⊎ FindsNoRoom base v u
      why-acted (inl a) = inr (inl (record { source = j + 1; place = place; s = acted.s; one = a.one; acts = acts; fits = of-system true a.one (a.fits sim); comes = comes-as _ a.is }))
      why-acted (inr (inl a)) = inr (inr (inl (record {
        source = j + 1;
        place = place;
        s = acted.s;
        one = a.one;
        back = a.back;
        asserted = a.asserted;
        size = a.size;
        acts = acts;
        some = a.some;
        fits = of-system a.asserted (a.one ++ a.back) (a.fits sim);
        states = a.states;
        full = a.full;
        comes = comes-as _ a.is;
      })))
      why-acted (inr (inr a)) = inr (inr (inr (record {
        source = j + 1;
        place = place;
        s = acted.s;
        size = length (told_by_source (j + 1) w.done.list);
        acts = acts;
        states = refl;
        full = a.full;
        comes = comes-as _ a.is;
      })))

      pub stopped-acted : (r : Option ℕ) → Stopped (world_view new.plain) (world_view p) r → Amount stimulated.Stopped → IsStopped look base v u
      stopped-acted None found k = let wrong : false ≡ true = sym k.0 ∙ found.3 in absurd (cc)
      stopped-acted (Some code) found k = record {
        kept = subst (λ x. IsLaneKept v (seated new.stim.now new.done.list x)) (sym found.0) (kept-answered v (sim_view new) (code ∷ (world_view new.plain).answered) (suc (world_view new.plain).asked) lane_kept);
        code = code;
        answered = ap (λ x. x.answered) found.0 ∙ ap (λ l. code ∷ l) acted.leaves.answered;
        why = why-acted k.1;
      }
