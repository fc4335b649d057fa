-- What comes of the `settle`.
use Rattle.std.proofs.Common.{◌≡◌, ℕ, zero, suc, ◌+◌, ◌<◌, ◌≤◌, ◌==◌, nat_lt, Bool, true, false, not, List, [], ◌∷◌, ◌++◌, map, length, take, drop, refl, sym, ◌∙◌, ap, subst, inl, inr, arith, append_assoc, append-nil}
use Rattle.std.specs.List.{list_all, list_any, AllByRecursion}
use Rattle.std.proofs.lemmas.List.{map-append, length-take-le, take-append-drop}
use Rattle.std.proofs.lemmas.Bool.Decides.{nat_tests}
use Rattle.qp_model.specs.declared.stimulus.Stim.{Stim}
use Rattle.qp_model.specs.declared.stimulus.Stim.TheVariants as stim
use Rattle.qp_model.specs.declared.systems.System.{System}
use Rattle.qp_model.specs.declared.words.Word.TheVariants as word
use Rattle.qp_model.specs.declared.bodies.Body.TheVariants as body
use Rattle.qp_model.specs.Told.{Told, ToldItem, plain, for_object}
use Rattle.qp_model.specs.Knowing.{told_alone}
use Rattle.qp_model.specs.Kernels.{sim, may_try}
use Rattle.qp_model.specs.Ends.{is_end, may_cut}
use Rattle.qp_model.specs.Sources.{AllDone, InStimulus, SeesEmpty, Settles, SourceRuns, StimFits, Tries, none_twice, priorities, same_list}
use Rattle.qp_model.proofs.FitsLemmas.{all-append}
use Rattle.qp_model.proofs.HistoryLemmas.{same_word-refl}
use Rattle.qp_calls.specs.declared.answers.Counts as counts
use Rattle.qp_calls.specs.LaneView.{Counts, Grows, GrowsOf, LaneView, mark_after, mark_by}
use Rattle.qp_calls.specs.Halting.{HaltsFull}
use Rattle.qp_calls.specs.Tokens.{Token, hands_after, hands_by}
use Rattle.qp_model_order.specs.SourceRun.{untold_all}
use Rattle.qp_model_order.specs.Stimulus.{ArePlain, source_items}
use Rattle.qp_model_order.proofs.SourceLemmas.{runs-cut, runs-stimulus}
use Rattle.qp_model_order.proofs.StimLemmas.{any-both}
use Rattle.qp_port_law.specs.SourcesLeft.{SourceLeaves}
use Rattle.qp_calls_stimulus.specs.Settling.{SeesNone, SeesSome, SettleCut}
use Rattle.qp_port_lanes.specs.CursorAt.{IsKnownTry, IsSourceAt, tries_in}
use Rattle.qp_port_lanes.specs.Passing.{IsClear, IsInSettle, ShowsEntry}
use Rattle.qp_port_lanes.proofs.Leaving.{Calm, full-lane, no-look, tries-append, tries-quiet}
use Rattle.qp_model_order.proofs.SourceLanes.{alone-source, alone-append, untold-append}
use Rattle.qp_port_lanes.proofs.Going.{known-later}
use Rattle.qp_port_lanes.proofs.Tries.{EndsTry, cut-is-plain, entry-ends, pick, plain-seen, same-is, settle-alone, settle-plain, settles-behind, tries-more, twice-snoc}
use Rattle.qp_model_order.proofs.StimulusForm.{plain-calm}

-- Looks leave the hands as they were.

hands-seen : (os : List ℕ) (one front rest : List Told) → SeesEmpty os one → one ≡ front ++ rest → (hs : List Token) → hands_after hs (map (for_object 0) front) ≡ hs
unfolding SeesEmpty hands_after hands_by
hands-seen os one [] rest h is hs = refl
hands-seen [] one (t ∷ front) rest h is hs = absurd (cc)
hands-seen (o ∷ os) one (t ∷ front) rest h is hs =
    let head : t ≡ plain (body.Seen o h.0 h.1 h.2) = let e = h.4 in cc in
    let tail : h.3 ≡ front ++ rest = let e = h.4 in cc in
    rw head (hands-seen os h.3 front rest h.6 tail hs)

hands-settle : (sys : System) (front rest : List Told) → Settles sys sim (front ++ rest) → (hs : List Token) → hands_after hs (map (for_object 0) front) ≡ hs
unfolding Settles Tries hands_after hands_by
hands-settle sys [] rest h hs = refl
hands-settle sys (t ∷ front) rest (n, tries, last, is, fits, inl may, sees) hs = let wrong : false ≡ true = may in absurd (cc)
hands-settle sys (t ∷ front) rest (n, tries, last, is, fits, inr none, sees) hs =
    let empty : tries ≡ [] = subst (λ k. Tries (priorities sys) k tries) none fits in
    let all : t ∷ (front ++ rest) ≡ plain body.Settle ∷ last = is ∙ ap (λ a. a ++ plain body.Settle ∷ last) empty in
    let head : t ≡ plain body.Settle = cc in
    let tail : last ≡ front ++ rest = cc in
    rw head (hands-seen (priorities sys) last front rest sees tail hs)

-- A stimulus that is next is there.

few-next : (n : ℕ) (ss : List Stim) (s : Stim) (rest : List Stim) → drop n ss ≡ s ∷ rest → n < length ss
few-next zero [] s rest h = absurd (cc)
few-next zero (x ∷ xs) s rest h = omega arith
few-next (suc n) [] s rest h = absurd (cc)
few-next (suc n) (x ∷ xs) s rest h = let on = few-next n xs s rest h in omega (arith, on)

take-next : (n : ℕ) (ss : List Stim) (s : Stim) (rest : List Stim) → drop n ss ≡ s ∷ rest → take (suc n) ss ≡ take n ss ++ s ∷ []
take-next zero [] s rest h = absurd (cc)
take-next zero (x ∷ xs) s rest h = let head : x ≡ s = cc in ap (λ y. y ∷ []) head
take-next (suc n) [] s rest h = absurd (cc)
take-next (suc n) (x ∷ xs) s rest h = ap (λ ys. x ∷ ys) (take-next n xs s rest h)

-- the last record of a list
last-is : (xs ys : List ToldItem) (a b : ToldItem) → xs ++ a ∷ [] ≡ ys ++ b ∷ [] → a ≡ b
last-is [] [] a b e = cc
last-is [] (y ∷ []) a b e = absurd (cc)
last-is [] (y ∷ z ∷ ys) a b e = absurd (cc)
last-is (x ∷ []) [] a b e = absurd (cc)
last-is (x ∷ z ∷ xs) [] a b e = absurd (cc)
last-is (x ∷ xs) (y ∷ ys) a b e = let tail : xs ++ a ∷ [] ≡ ys ++ b ∷ [] = cc in last-is xs ys a b tail

entry-shown : (p f l m : ℕ) → m < f + l → tries_in (for_object 0 (plain (body.Seen p f l m)) ∷ []) ≡ (p ∷ f ∷ l ∷ m ∷ []) ∷ []
entry-shown p f l m h = let some : nat_lt m (f + l) ≡ true = grind (arith, nat_tests, h) in rw some refl

module _ (sys : System) (ss : List Stim) (n : ℕ) (w : LaneView) (o : IsInSettle sys ss n w) where
  few : n < length ss
  few = few-next n ss stim.Settle o.rest o.next

  long : length (take n ss) ≡ n
  long = length-take-le n ss (let lt = few in omega (arith, lt))

  place : 1 + length (take n ss) ≡ n + 1
  place = let same = long in omega (arith, same)

  all_stimuli : take n ss ++ stim.Settle ∷ o.rest ≡ ss
  all_stimuli = ap (λ xs. take n ss ++ xs) (sym o.next) ∙ take-append-drop n ss

  -- records more
  module _ (g : List Told) (u : LaneView) (grows : Grows g w u) where
    its : GrowsOf 0 g w u
    its = subst (λ k. GrowsOf k g w u) o.none grows

    whole : u.told ≡ o.front ++ map (for_object 0) (plain (body.Stim (n + 1) 0) ∷ (o.tries ++ g))
    whole =
        its.told ∙ ap (λ ts. ts ++ map (for_object 0) g) o.told
        ∙ append_assoc o.front (map (for_object 0) (plain (body.Stim (n + 1) 0) ∷ o.tries)) (map (for_object 0) g)
        ∙ ap (λ ts. o.front ++ ts) (sym (map-append (for_object 0) (plain (body.Stim (n + 1) 0) ∷ o.tries) g))

    told_all : told_alone u.told ≡ told_alone o.front ++ plain (body.Stim (1 + length (take n ss)) 0) ∷ (o.tries ++ g)
    told_all =
        ap told_alone whole ∙ alone-append o.front (plain (body.Stim (n + 1) 0) ∷ (o.tries ++ g))
        ∙ ap (λ k. told_alone o.front ++ plain (body.Stim k 0) ∷ (o.tries ++ g)) (sym place)

    alone : list_all (λ i. i.of == 0) (untold_all u.told) ≡ true
    alone =
        ap (λ ts. list_all (λ i. i.of == 0) (untold_all ts)) its.told
        ∙ rw (untold-append w.told (map (for_object 0) g)) (all-append (λ i. i.of == 0) (untold_all w.told) (source_items g) o.alone (alone-source g))

    calm_with : list_any (λ i. is_end i.body) (source_items g) ≡ false → list_any (λ i. is_end i.body) (untold_all u.told) ≡ false
    calm_with none =
        ap (λ ts. list_any (λ i. is_end i.body) (untold_all ts)) its.told
        ∙ rw (untold-append w.told (map (for_object 0) g)) (any-both (λ i. is_end i.body) (untold_all w.told) (source_items g) o.calm none)

    -- plain ones
    module _ (is_plain : ArePlain g) where
      no_tries : tries_in u.told ≡ tries_in w.told
      no_tries = ap tries_in its.told ∙ tries-quiet w.told (map (for_object 0) g) (plain-seen g is_plain)

      calm_more : Calm u.told
      calm_more = record { alone = alone; calm = calm_with (plain-calm g is_plain); tries = ap none_twice no_tries ∙ o.differ }

      known_more : AllByRecursion (IsKnownTry u) (tries_in u.told)
      known_more =
          subst (AllByRecursion (IsKnownTry u)) (sym no_tries)
          (known-later w u (λ p. its.rise (word.Queue p)) (λ p. its.shown (word.Queue p)) (tries_in w.told) o.known)

  -- each queue was seen empty
  pub settled-at : (u : LaneView) → SeesNone (priorities sys) w u → IsSourceAt sys ss (n + 1) false u
  unfolding StimFits
  settled-at u seen =
      let g : List Told = plain body.Settle ∷ seen.one in
      let is_plain = settle-plain sys seen.one seen.fits in
      let grown = its g u seen.grows in
      let lt = few in
      let more : take (n + 1) ss ≡ take n ss ++ stim.Settle ∷ [] = ap (λ k. take k ss) (succ n) ∙ take-next n ss stim.Settle o.rest o.next in
      record {
        of = grown.sys ∙ o.of;
        none = grown.by ∙ o.none;
        front = u.told;
        behind = [];
        told = sym (append-nil u.told);
        runs = λ kernel may.
            subst (λ xs. SourceRuns sys kernel 1 xs AllDone (told_alone u.told)) (sym more)
            (subst (SourceRuns sys kernel 1 (take n ss ++ stim.Settle ∷ []) AllDone) (sym (told_all g u seen.grows))
            (runs-stimulus sys kernel (take n ss) (told_alone o.front) (o.runs kernel may) stim.Settle [] 0 (o.tries ++ g) (no-look kernel may)
            (settles-behind sys kernel o.count o.tries g may o.fits (settle-alone sys kernel seen.one seen.fits), refl)));
        few = omega (arith, lt);
        under_way = refl;
        alone = alone g u seen.grows;
        calm = calm_with g u seen.grows (plain-calm g is_plain);
        tries = ap none_twice (no_tries g u seen.grows is_plain) ∙ o.differ;
        known = known_more g u seen.grows is_plain;
        hands = seen.hands ∙ o.hands;
      }
    where
      succ : (k : ℕ) → k + 1 ≡ suc k
      succ k = omega arith

  -- room was refused within it
  module _ (u z : LaneView) (cut : SettleCut sys w u) where
    cut_plain : ArePlain cut.g
    cut_plain = cut-is-plain sys cut.g cut.rest cut.some (cut.fits sim)

    pub cut-hands : u.hands ≡ w.hands
    cut-hands = (its cut.g u cut.grows).hands ∙ hands-settle sys cut.g cut.rest (cut.fits sim) w.hands

    pub cut-calm : list_any (λ i. is_end i.body) (untold_all u.told) ≡ false
    cut-calm = calm_with cut.g u cut.grows (plain-calm cut.g cut_plain)

    pub cut-leaves : (kernel end : ℕ) → may_try kernel ≡ true → may_cut end ≡ true → HaltsFull u z → SourceLeaves sys kernel end ss z.told
    unfolding StimFits
    cut-leaves kernel end may early full =
        let told : z.told ≡ u.told ++ for_object 0 (plain (body.Spill (length u.told))) ∷ [] = ap (λ y. y.told) full.stops ∙ full.spills.told in
        let fits : Settles sys kernel ((o.tries ++ cut.g) ++ cut.rest) =
        subst (Settles sys kernel) (sym (append_assoc o.tries cut.g cut.rest)) (settles-behind sys kernel o.count o.tries (cut.g ++ cut.rest) may o.fits (cut.fits kernel)) in
        let runs : SourceRuns sys kernel 1 ss InStimulus (told_alone u.told) =
        subst (λ xs. SourceRuns sys kernel 1 xs InStimulus (told_alone u.told)) all_stimuli
        (subst (SourceRuns sys kernel 1 (take n ss ++ stim.Settle ∷ o.rest) InStimulus) (sym (told_all cut.g u cut.grows))
        (runs-cut sys kernel (take n ss) (told_alone o.front) (o.runs kernel may) stim.Settle o.rest 0 (o.tries ++ cut.g) cut.rest false (no-look kernel may) cut.some (fits, refl))) in
        subst (SourceLeaves sys kernel end ss) (sym told)
        (full-lane sys kernel end ss u.told InStimulus (length u.told) early (calm_more cut.g u cut.grows cut_plain) runs (rw early refl) refl full.few)

  -- a queue showed an entry
  module _ (u : LaneView) (seen : SeesSome sys w u) (clear : AllByRecursion (IsClear w) (priorities sys)) where
    try : EndsTry (priorities sys) seen.one
    try = entry-ends (priorities sys) seen.one seen.fits

    abbrev c : counts.Counts
    c = seen.found.counts

    abbrev last : ToldItem
    last = for_object 0 (plain (body.Seen seen.found.object c.f c.l c.m))

    -- the last record is the look at this queue
    seen_last : u.told ≡ seen.found.before.told ++ last ∷ []
    seen_last = seen.found.sees.0.grows.told

    by_try : u.told ≡ (w.told ++ map (for_object 0) (plain body.Settle ∷ try.es)) ++ for_object 0 (plain (body.Seen try.p try.f try.l try.m)) ∷ []
    by_try =
        (its (plain body.Settle ∷ seen.one) u seen.grows).told
        ∙ ap (λ one. w.told ++ map (for_object 0) (plain body.Settle ∷ one)) try.is
        ∙ ap (λ ts. w.told ++ ts) (map-append (for_object 0) (plain body.Settle ∷ try.es) (plain (body.Seen try.p try.f try.l try.m) ∷ []))
        ∙ sym (append_assoc w.told (map (for_object 0) (plain body.Settle ∷ try.es)) (for_object 0 (plain (body.Seen try.p try.f try.l try.m)) ∷ []))

    same_body : body.Seen try.p try.f try.l try.m ≡ body.Seen seen.found.object c.f c.l c.m
    same_body =
        ap (λ (t : ToldItem). t.told.body)
        (last-is (w.told ++ map (for_object 0) (plain body.Settle ∷ try.es)) seen.found.before.told (for_object 0 (plain (body.Seen try.p try.f try.l try.m))) last (sym by_try ∙ seen_last))

    same_object : try.p ≡ seen.found.object
    same_object = let is = same_body in cc

    now_mark : u.mark (word.Queue seen.found.object) ≡ c.f + c.l + c.m
    unfolding mark_after mark_by
    now_mark = seen.found.sees.0.grows.mark (word.Queue seen.found.object) ∙ rw (same_word-refl (word.Queue seen.found.object)) refl

    now_shown : u.shown (word.Queue seen.found.object) ≡ Counts c.f c.l c.m
    now_shown = seen.found.sees.1.says

    pub shows-now : ShowsEntry sys seen.found.object c u
    shows-now = record { its = seen.found.its; some = seen.found.some; mark = now_mark; shown = now_shown }

    quiet : tries_in (map (for_object 0) (plain body.Settle ∷ try.es)) ≡ []
    quiet = plain-seen try.es try.plain_are

    tries_now : tries_in u.told ≡ tries_in w.told ++ (seen.found.object ∷ c.f ∷ c.l ∷ c.m ∷ []) ∷ []
    tries_now =
        ap tries_in by_try
        ∙ tries-append (w.told ++ map (for_object 0) (plain body.Settle ∷ try.es)) (for_object 0 (plain (body.Seen try.p try.f try.l try.m)) ∷ [])
        ∙ ap (λ b. tries_in (w.told ++ map (for_object 0) (plain body.Settle ∷ try.es)) ++ tries_in (for_object 0 (plain b) ∷ [])) same_body
        ∙ ap (λ xs. xs ++ tries_in (for_object 0 (plain (body.Seen seen.found.object c.f c.l c.m)) ∷ [])) (tries-quiet w.told (map (for_object 0) (plain body.Settle ∷ try.es)) quiet)
        ∙ ap (λ xs. tries_in w.told ++ xs) (entry-shown seen.found.object c.f c.l c.m seen.found.some)

    -- the lane had seen the queue empty, so no earlier try ended as this one
    clear_here : IsClear w seen.found.object
    clear_here = subst (IsClear w) same_object (pick (IsClear w) try.p (priorities sys) try.its clear)

    rises : w.mark (word.Queue seen.found.object) ≤ u.mark (word.Queue seen.found.object)
    rises = (its (plain body.Settle ∷ seen.one) u seen.grows).rise (word.Queue seen.found.object)

    not-known : IsKnownTry w (seen.found.object ∷ c.f ∷ c.l ∷ c.m ∷ []) → ⊥
    not-known k =
        let now = now_mark in
        let up = rises in
        let low = k.0 in
        let same : c.f + c.l + c.m ≡ w.mark (word.Queue seen.found.object) = omega (arith, now, up, low) in
        let shown : Counts clear_here.f clear_here.l clear_here.m ≡ Counts c.f c.l c.m = sym clear_here.shown ∙ k.2 same in
        let f : clear_here.f ≡ c.f = cc in
        let l : clear_here.l ≡ c.l = cc in
        let m : clear_here.m ≡ c.m = cc in
        let few = clear_here.empty in
        let some = k.1 in
        absurd (omega (arith, f, l, m, few, some))

    others-differ : (xs : List (List ℕ)) → AllByRecursion (IsKnownTry w) xs → list_all (λ y. not (same_list y (seen.found.object ∷ c.f ∷ c.l ∷ c.m ∷ []))) xs ≡ true
    others-differ [] h = refl
    others-differ (x ∷ xs) h = go (same_list x (seen.found.object ∷ c.f ∷ c.l ∷ c.m ∷ [])) refl (others-differ xs h.1)
      where
        go : (b : Bool) → same_list x (seen.found.object ∷ c.f ∷ c.l ∷ c.m ∷ []) ≡ b
            → list_all (λ y. not (same_list y (seen.found.object ∷ c.f ∷ c.l ∷ c.m ∷ []))) xs ≡ true
            → list_all (λ y. not (same_list y (seen.found.object ∷ c.f ∷ c.l ∷ c.m ∷ []))) (x ∷ xs) ≡ true
        go true e later = absurd (not-known (subst (IsKnownTry w) (same-is x (seen.found.object ∷ c.f ∷ c.l ∷ c.m ∷ []) e) h.0))
        go false e later = rw (e, later) refl

    calm_try : list_any (λ i. is_end i.body) (source_items (plain body.Settle ∷ seen.one)) ≡ false
    calm_try =
        ap (λ one. list_any (λ i. is_end i.body) (source_items (plain body.Settle ∷ one))) try.is
        ∙ ap (λ ts. list_any (λ i. is_end i.body) (untold_all ts)) (map-append (for_object 0) (plain body.Settle ∷ try.es) (plain (body.Seen try.p try.f try.l try.m) ∷ []))
        ∙ ap (λ is. list_any (λ i. is_end i.body) is) (untold-append (map (for_object 0) (plain body.Settle ∷ try.es)) (for_object 0 (plain (body.Seen try.p try.f try.l try.m)) ∷ []))
        ∙ (any-both (λ i. is_end i.body) (source_items (plain body.Settle ∷ try.es)) (source_items (plain (body.Seen try.p try.f try.l try.m) ∷ [])) (plain-calm try.es try.plain_are) refl)

    pub tried-at : IsSourceAt sys ss n true u
    tried-at =
        let grown = its (plain body.Settle ∷ seen.one) u seen.grows in
        let lt = few in
        record {
          of = grown.sys ∙ o.of;
          none = grown.by ∙ o.none;
          front = o.front;
          behind = plain (body.Stim (n + 1) 0) ∷ (o.tries ++ (plain body.Settle ∷ seen.one));
          told = whole (plain body.Settle ∷ seen.one) u seen.grows;
          runs = o.runs;
          few = omega (arith, lt);
          under_way = record {
            rest = o.rest;
            next = o.next;
            n = o.count;
            tries = o.tries ++ (plain body.Settle ∷ seen.one);
            records = refl;
            fits = tries-more (priorities sys) o.count o.tries seen.one o.fits seen.fits;
          };
          alone = alone (plain body.Settle ∷ seen.one) u seen.grows;
          calm = calm_with (plain body.Settle ∷ seen.one) u seen.grows calm_try;
          tries = ap none_twice tries_now ∙ twice-snoc (tries_in w.told) (seen.found.object ∷ c.f ∷ c.l ∷ c.m ∷ []) o.differ (others-differ (tries_in w.told) o.known);
          known = subst (AllByRecursion (IsKnownTry u)) (sym tries_now) (all-known (tries_in w.told) (known-later w u (λ p. grown.rise (word.Queue p)) (λ p. grown.shown (word.Queue p)) (tries_in w.told) o.known));
          hands = seen.hands ∙ o.hands;
        }
      where
        known_now : IsKnownTry u (seen.found.object ∷ c.f ∷ c.l ∷ c.m ∷ [])
        known_now = let now = now_mark in (omega (arith, now), seen.found.some, λ e. now_shown)

        all-known : (xs : List (List ℕ)) → AllByRecursion (IsKnownTry u) xs → AllByRecursion (IsKnownTry u) (xs ++ (seen.found.object ∷ c.f ∷ c.l ∷ c.m ∷ []) ∷ [])
        all-known [] h = (known_now, tt)
        all-known (x ∷ xs) h = (h.0, all-known xs h.1)
