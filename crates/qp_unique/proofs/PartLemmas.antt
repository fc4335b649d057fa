-- Two runs that have come equally far go on by the same records of a stimulus.
use Rattle.std.proofs.Common.{◌≡◌, ◌∙◌, ◌⊎◌, inl, inr, ℕ, ◌+◌, ◌<◌, ◌==◌, Bool, true, false, cond, List, [], ◌∷◌, ◌++◌, length, get_or, Some, None, refl, sym, ap, subst, arith, append-nil}
use Rattle.std.proofs.lemmas.List.{append_assoc, length-append}
use Rattle.std.specs.List.{list_all}
use Rattle.qp_chart.specs.declared.checked.Chart.{Chart}
use Rattle.qp_model.specs.declared.stimulus.Stim.{Stim}
use Rattle.qp_model.specs.declared.systems.System.{System}
use Rattle.qp_model.specs.declared.systems.ObjectDef.{ObjectDef}
use Rattle.qp_model.specs.declared.bodies.Body.TheVariants as body
use Rattle.qp_model.specs.Record.{Item}
use Rattle.qp_model.specs.Told.{Told}
use Rattle.qp_model.specs.Knowing.{Facts, told, records_of, ceiling_over}
use Rattle.qp_model.specs.Sites.{object_at}
use Rattle.qp_model.specs.Sources.{SourceEnd, InStimulus}
use Rattle.qp_model.specs.OneOrder.{Placed}
use Rattle.qp_model.proofs.KnowingLemmas.{records_of-append}
use Rattle.qp_check_ends.specs.Underway.{Underway, underway_next}
use Rattle.qp_check_ends.specs.SourceState.{SourceState, Between, Within, source_next, source_after, source_stops}
use Rattle.qp_model_order.specs.RunOrder.{placed}
use Rattle.qp_model_order.specs.Placing.{all_placed}
use Rattle.qp_unique.specs.Held.{MayComeNext}
use Rattle.qp_unique.specs.NextInSource.{underway_told}
use Rattle.qp_unique.specs.Tidy.{spill_free}
use Rattle.qp_unique.proofs.KernelLemmas.{item-is}
use Rattle.qp_unique.proofs.LookLemmas.{begins, begun_in, StimFirst}
use Rattle.qp_unique.proofs.AwayLemmas.{done-none}
use Rattle.qp_unique.proofs.StimulusLemmas.{stimulus_goes_on_alone}
use Rattle.qp_unique.proofs.SourceSteps.{stim-read, other-read, after-split, after-first, alone, alone-at, record-first, stim-some, stops-none, no-stim}
use Rattle.qp_unique.proofs.Sides.{Mode, Side, LongLane, order_of, held_to}
use Rattle.qp_model.proofs.AbleLemmas.{some-same}

no-first : (i : Item) (is : List Item) → begun_in (i ∷ is) ≡ 0 → (begins i ≡ false) × (begun_in is ≡ 0)
no-first i is h = by (begins i) refl h
  where
    by : (b : Bool) → begins i ≡ b → cond b 1 0 + begun_in is ≡ 0 → (begins i ≡ false) × (begun_in is ≡ 0)
    by true e h = absurd (let no : 1 + begun_in is ≡ 0 = h in omega (arith, no))
    by false e h = (e, omega (arith, h))

module _ (sys : System) (charts : (p : ℕ) (d : ObjectDef) → object_at sys p ≡ Some d → Chart) (stimuli : List (List Stim)) (mode : Mode) where
  -- the rest of a stimulus, in the lane of source n + 1 and in the order
  pub record Part (a : Side sys charts stimuli mode) (xs : List Placed) (n : ℕ) (done rest : List Item) : Type 0 where
    pub before : List (List Item)
    pub behind : List (List Item)
    pub lane : List Item
    pub are : a.sources ≡ before ++ lane ∷ behind
    pub at : length before ≡ n
    pub more : List Item
    pub is : lane ≡ done ++ (rest ++ more)
    pub first : StimFirst more
    pub back : List Placed
    pub order : order_of sys charts stimuli mode a ≡ xs ++ (all_placed (1 + n) rest ++ back)
    pub plain : begun_in rest ≡ 0

  abbrev first_of : ℕ → SourceState
  first_of n = Between 1 (get_or stimuli n [])

  -- what a source has read
  abbrev read_of : Side sys charts stimuli mode → ℕ → List Item → SourceState → Type 0
  read_of a n is s = source_after sys mode.kernel (Some (first_of n)) (records_of a.w 0 0 is) ≡ Some s

  module _ (a : Side sys charts stimuli mode) (xs : List Placed) (n : ℕ) (done : List Item) where
    -- the lane is read up to a place, and on
    pub lane-read : (rest : List Item) (h : Part a xs n done rest)
        → (mid end : SourceState) × read_of a n done mid × (source_after sys mode.kernel (Some mid) (records_of a.w 0 (ceiling_over 0 done) (rest ++ h.more)) ≡ Some end) × alone h.lane
    lane-read rest h =
        let source = a.source h.before h.lane h.behind h.are in
        let moved : source_after sys mode.kernel (Some (first_of n)) (records_of a.w 0 0 h.lane) ≡ Some source.1 =
        subst (λ k. source_after sys mode.kernel (Some (first_of k)) (records_of a.w 0 0 h.lane) ≡ Some source.1) h.at source.3 in
        let whole : records_of a.w 0 0 h.lane ≡ records_of a.w 0 0 done ++ records_of a.w 0 (ceiling_over 0 done) (rest ++ h.more) =
        ap (records_of a.w 0 0) h.is ∙ records_of-append a.w 0 0 done (rest ++ h.more) in
        let split = after-split sys mode.kernel (first_of n) source.1 (records_of a.w 0 0 done) (records_of a.w 0 (ceiling_over 0 done) (rest ++ h.more))
        (subst (λ ts. source_after sys mode.kernel (Some (first_of n)) ts ≡ Some source.1) whole moved) in
        (split.0, source.1, split.1, split.2, source.0)

    -- its next record is read, and comes next by the words
    pub part-next : (y : Item) (rest : List Item) (h : Part a xs n done (y ∷ rest))
        → (mid next : SourceState) × read_of a n done mid × (source_next sys mode.kernel mid (told a.w 0 (ceiling_over 0 done) y.body) ≡ Some next) × (y.of ≡ 0)
        × MayComeNext sys (held_to sys (ceiling_over 0 done) xs) 0 (told a.w 0 (ceiling_over 0 done) y.body)
    part-next y rest h =
        let at = lane-read (y ∷ rest) h in
        let own = alone-at done y (rest ++ h.more) (subst alone h.is at.4) in
        let next = after-first sys mode.kernel at.0 at.1 (told a.w 0 (ceiling_over 0 done) y.body) _
        (subst (λ ts. source_after sys mode.kernel (Some at.0) ts ≡ Some at.1) (record-first a.w (ceiling_over 0 done) y (rest ++ h.more) own.0) at.3) in
        let comes = a.comes xs (placed (1 + n) y) (all_placed (1 + n) rest ++ h.back) (ceiling_over 0 done) h.order in
        (at.0, next.0, at.2, next.1, own.0, subst (λ o. MayComeNext sys (held_to sys (ceiling_over 0 done) xs) o (told a.w o (ceiling_over 0 done) y.body)) own.0 comes)

    -- where nothing is left, the stimulus goes on by nothing
    pub part-ends : (h : Part a xs n done []) (u : Underway) (k : ℕ) (left : List Stim) (t : Told) → read_of a n done (Within u k left)
        → (underway_next sys mode.kernel u t ≡ None) ⊎ ((a.spilt ≡ true) × (spill_free < length done))
    unfolding source_after records_of
    part-ends h u k left t read = by h.more h.first (a.source h.before h.lane h.behind h.are) h.is
      where
        by : (more : List Item) → StimFirst more
            → (list_all (λ i. i.of == 0) h.lane ≡ true) × (end : SourceState) × (stop : SourceEnd)
            × (source_after sys mode.kernel (Some (Between 1 (get_or stimuli (length h.before) []))) (records_of a.w 0 0 h.lane) ≡ Some end)
            × (source_stops mode.kernel end stop ≡ true) × (stop ≡ InStimulus → (a.spilt ≡ true) × (spill_free < length h.lane))
            → h.lane ≡ done ++ ([] ++ more) → (underway_next sys mode.kernel u t ≡ None) ⊎ ((a.spilt ≡ true) × (spill_free < length done))
        by [] first (own, end, stop, reads, stops, not) is =
            let whole : h.lane ≡ done = is ∙ append-nil done in
            let one : source_after sys mode.kernel (Some (first_of n)) (records_of a.w 0 0 done) ≡ Some end =
            subst (λ l. source_after sys mode.kernel (Some (first_of n)) (records_of a.w 0 0 l) ≡ Some end) whole
            (subst (λ m. source_after sys mode.kernel (Some (first_of m)) (records_of a.w 0 0 h.lane) ≡ Some end) h.at reads) in
            let same : end ≡ Within u k left = some-same (sym one ∙ read) in
            on stop (subst (λ s. source_stops mode.kernel s stop ≡ true) same stops) (λ e. let at = not e in (at.0, subst (λ l. spill_free < length l) whole at.1))
          where
            on : (stop : SourceEnd) → source_stops mode.kernel (Within u k left) stop ≡ true → (stop ≡ InStimulus → (a.spilt ≡ true) × (spill_free < length done))
                → (underway_next sys mode.kernel u t ≡ None) ⊎ ((a.spilt ≡ true) × (spill_free < length done))
            on InStimulus stops spilt = inr (spilt refl)
            on other stops spilt = inl (stops-none sys mode.kernel mode.one u k left other t stops (λ e. cc))
        by (z ∷ zs) first (own, end, stop, reads, stops, not) is =
            let alone_z = alone-at done z zs (subst alone is own) in
            let one : source_after sys mode.kernel (Some (first_of n)) (records_of a.w 0 0 (done ++ z ∷ zs)) ≡ Some end =
            subst (λ l. source_after sys mode.kernel (Some (first_of n)) (records_of a.w 0 0 l) ≡ Some end) is
            (subst (λ m. source_after sys mode.kernel (Some (first_of m)) (records_of a.w 0 0 h.lane) ≡ Some end) h.at reads) in
            let split = after-split sys mode.kernel (first_of n) end (records_of a.w 0 0 done) (records_of a.w 0 (ceiling_over 0 done) (z ∷ zs))
            (subst (λ ts. source_after sys mode.kernel (Some (first_of n)) ts ≡ Some end) (records_of-append a.w 0 0 done (z ∷ zs)) one) in
            let same : split.0 ≡ Within u k left = some-same (sym split.1 ∙ read) in
            let next = after-first sys mode.kernel split.0 end (told a.w 0 (ceiling_over 0 done) z.body) _
            (subst (λ ts. source_after sys mode.kernel (Some split.0) ts ≡ Some end) (record-first a.w (ceiling_over 0 done) z zs alone_z.0) split.2) in
            let stim = stim-some z.body first in
            let goes : source_next sys mode.kernel split.0 (told a.w 0 (ceiling_over 0 done) (body.Stim stim.0 stim.1)) ≡ Some next.0 =
            subst (λ d. source_next sys mode.kernel split.0 (told a.w 0 (ceiling_over 0 done) d) ≡ Some next.0) stim.2 next.1 in
            let after = stim-read sys mode.kernel a.w (ceiling_over 0 done) split.0 next.0 stim.0 stim.1 goes in
            inl (done-none sys mode.kernel u t (after.4 u k left same))

    -- one record on
    pub part-on : (y : Item) (rest : List Item) → Part a xs n done (y ∷ rest) → Part a (xs ++ placed (1 + n) y ∷ []) n (done ++ y ∷ []) rest
    part-on y rest h =
        record {
          before = h.before;
          behind = h.behind;
          lane = h.lane;
          are = h.are;
          at = h.at;
          more = h.more;
          is = h.is ∙ sym (append_assoc done (y ∷ []) (rest ++ h.more));
          first = h.first;
          back = h.back;
          order = h.order ∙ sym (append_assoc xs (placed (1 + n) y ∷ []) (all_placed (1 + n) rest ++ h.back));
          plain = (no-first y rest h.plain).1;
        }

  -- the records told of a lane, and one more
  pub told-on : (w : Facts) (done : List Item) (y : Item) → y.of ≡ 0 → records_of w 0 0 (done ++ y ∷ []) ≡ records_of w 0 0 done ++ told w 0 (ceiling_over 0 done) y.body ∷ []
  unfolding records_of
  told-on w done y of = records_of-append w 0 0 done (y ∷ []) ∙ ap (λ ts. records_of w 0 0 done ++ ts) (record-first w (ceiling_over 0 done) y [] of)

  -- one run doesn't end a stimulus where the other goes on, but by a `spill`
  only-one-ends : (a b : Side sys charts stimuli mode) (n : ℕ) (z : Item) (rb : List Item) (xs : List Placed) (done : List Item) → Part a xs n done [] → Part b xs n done (z ∷ rb)
      → records_of a.w 0 0 done ≡ records_of b.w 0 0 done → (a.spilt ≡ true) × (spill_free < length done)
  only-one-ends a b n z rb xs done ha hb told_so =
      let nb = part-next b xs n done z rb hb in
      let other = other-read sys mode.kernel b.w (ceiling_over 0 done) nb.0 nb.1 z.body (no-stim z.body (no-first z rb hb.plain).0) nb.3 in
      let read : read_of a n done (Within other.0 other.2 other.3) =
      ap (λ ts. source_after sys mode.kernel (Some (first_of n)) ts) told_so ∙ nb.2 ∙ ap Some other.4 in
      by other.0 other.1 other.5 (part-ends a xs n done ha other.0 other.2 other.3 (told b.w 0 (ceiling_over 0 done) z.body) read)
    where
      by : (u next : Underway) → underway_next sys mode.kernel u (told b.w 0 (ceiling_over 0 done) z.body) ≡ Some next
          → (underway_next sys mode.kernel u (told b.w 0 (ceiling_over 0 done) z.body) ≡ None) ⊎ ((a.spilt ≡ true) × (spill_free < length done)) → (a.spilt ≡ true) × (spill_free < length done)
      by u next on (inl none) = absurd (let no : None ≡ Some next = sym none ∙ on in cc)
      by u next on (inr spilt) = spilt

  -- both go on by the same record
  same-first : (a b : Side sys charts stimuli mode) (n : ℕ) (y z : Item) (ra rb : List Item) (xs : List Placed) (done : List Item) → Part a xs n done (y ∷ ra) → Part b xs n done (z ∷ rb)
      → records_of a.w 0 0 done ≡ records_of b.w 0 0 done
      → (y ≡ z) × (y.of ≡ 0) × (told a.w 0 (ceiling_over 0 done) y.body ≡ told b.w 0 (ceiling_over 0 done) y.body)
  unfolding told
  same-first a b n y z ra rb xs done ha hb told_so =
      let na = part-next a xs n done y ra ha in
      let nb = part-next b xs n done z rb hb in
      let one = other-read sys mode.kernel a.w (ceiling_over 0 done) na.0 na.1 y.body (no-stim y.body (no-first y ra ha.plain).0) na.3 in
      let two = other-read sys mode.kernel b.w (ceiling_over 0 done) nb.0 nb.1 z.body (no-stim z.body (no-first z rb hb.plain).0) nb.3 in
      let mids : na.0 ≡ nb.0 = some-same (sym na.2 ∙ ap (λ ts. source_after sys mode.kernel (Some (first_of n)) ts) told_so ∙ nb.2) in
      let states : Within one.0 one.2 one.3 ≡ Within two.0 two.2 two.3 = sym one.4 ∙ mids ∙ two.4 in
      let same : one.0 ≡ two.0 = under states in
      let ta = stimulus_goes_on_alone sys (held_to sys (ceiling_over 0 done) xs) mode.kernel one.0 one.1 (told a.w 0 (ceiling_over 0 done) y.body)
      (a.counted xs _ (ceiling_over 0 done) ha.order) na.5 one.5 in
      let tb = stimulus_goes_on_alone sys (held_to sys (ceiling_over 0 done) xs) mode.kernel two.0 two.1 (told b.w 0 (ceiling_over 0 done) z.body)
      (b.counted xs _ (ceiling_over 0 done) hb.order) nb.5 two.5 in
      let both : told a.w 0 (ceiling_over 0 done) y.body ≡ told b.w 0 (ceiling_over 0 done) z.body =
      some-same (sym ta ∙ ap (underway_told sys (held_to sys (ceiling_over 0 done) xs)) same ∙ tb) in
      let bodies : y.body ≡ z.body = ap (λ (t : Told). t.body) both in
      let whole : y ≡ z = item-is y z.of z.body (na.4 ∙ sym nb.4) bodies in
      (whole, na.4, both ∙ ap (told b.w 0 (ceiling_over 0 done)) (sym bodies))
    where
      under : {u v : Underway} {j k : ℕ} {ls ms : List Stim} → Within u j ls ≡ Within v k ms → u ≡ v
      under e = cc

  -- a stimulus of the first run goes on behind as many records as are free of a `spill`
  long-part : (a : Side sys charts stimuli mode) (xs : List Placed) (n : ℕ) (done rest : List Item) → Part a xs n done rest → spill_free < length done → LongLane sys charts stimuli mode a
  long-part a xs n done rest h long =
      let size = ap length h.is ∙ length-append done (rest ++ h.more) in
      (h.before, h.lane, h.behind, h.are, omega (arith, long, size))

  -- the rests are the same, but where a lane ended with a `spill`
  pub same-part : (a b : Side sys charts stimuli mode) (n : ℕ) (ra rb : List Item) (xs : List Placed) (done : List Item) → Part a xs n done ra → Part b xs n done rb
      → records_of a.w 0 0 done ≡ records_of b.w 0 0 done
      → ((ra ≡ rb) × (records_of a.w 0 0 (done ++ ra) ≡ records_of b.w 0 0 (done ++ rb))) ⊎ (((a.spilt ≡ true) ⊎ (b.spilt ≡ true)) × LongLane sys charts stimuli mode a)
  same-part a b n [] [] xs done ha hb told_so = inl (refl, subst (λ l. records_of a.w 0 0 l ≡ records_of b.w 0 0 l) (sym (append-nil done)) told_so)
  same-part a b n [] (z ∷ rb) xs done ha hb told_so =
      let ends = only-one-ends a b n z rb xs done ha hb told_so in
      inr (inl ends.0, long-part a xs n done [] ha ends.1)
  same-part a b n (y ∷ ra) [] xs done ha hb told_so =
      let ends = only-one-ends b a n y ra xs done hb ha (sym told_so) in
      inr (inr ends.0, long-part a xs n done (y ∷ ra) ha ends.1)
  same-part a b n (y ∷ ra) (z ∷ rb) xs done ha hb told_so =
      let same = same-first a b n y z ra rb xs done ha hb told_so in
      let hb2 : Part b xs n done (y ∷ rb) = subst (λ x. Part b xs n done (x ∷ rb)) (sym same.0) hb in
      by same (same-part a b n ra rb (xs ++ placed (1 + n) y ∷ []) (done ++ y ∷ []) (part-on a xs n done y ra ha) (part-on b xs n done y rb hb2)
      (told-on a.w done y same.1 ∙ ap (λ t. records_of a.w 0 0 done ++ t ∷ []) same.2 ∙ ap (λ ts. ts ++ told b.w 0 (ceiling_over 0 done) y.body ∷ []) told_so ∙ sym (told-on b.w done y same.1)))
    where
      by : (y ≡ z) × (y.of ≡ 0) × (told a.w 0 (ceiling_over 0 done) y.body ≡ told b.w 0 (ceiling_over 0 done) y.body)
          → ((ra ≡ rb) × (records_of a.w 0 0 ((done ++ y ∷ []) ++ ra) ≡ records_of b.w 0 0 ((done ++ y ∷ []) ++ rb))) ⊎ (((a.spilt ≡ true) ⊎ (b.spilt ≡ true)) × LongLane sys charts stimuli mode a)
          → ((y ∷ ra ≡ z ∷ rb) × (records_of a.w 0 0 (done ++ y ∷ ra) ≡ records_of b.w 0 0 (done ++ z ∷ rb))) ⊎ (((a.spilt ≡ true) ⊎ (b.spilt ≡ true)) × LongLane sys charts stimuli mode a)
      by same (inr over) = inr over
      by same (inl more) =
          let rests : ra ≡ rb = more.0 in
          let whole : y ∷ ra ≡ z ∷ rb = ap (λ us. y ∷ us) rests ∙ ap (λ x. x ∷ rb) same.0 in
          inl (
            whole,
            subst (λ l. records_of a.w 0 0 l ≡ records_of b.w 0 0 (done ++ y ∷ rb)) (append_assoc done (y ∷ []) ra)
                (subst (λ l. records_of a.w 0 0 ((done ++ y ∷ []) ++ ra) ≡ records_of b.w 0 0 l) (append_assoc done (y ∷ []) rb) more.1)
                ∙ ap (λ x. records_of b.w 0 0 (done ++ x ∷ rb)) same.0,
          )
