-- The records of a lawful journal, for the tokens that they use: each owner, an object or a source, uses what its own records have left.
use Rattle.std.proofs.Common.{◌≡◌, ◌∙◌, ℕ, suc, ◌+◌, ◌-◌, ◌==◌, Bool, true, false, not, ◌&&◌, List, [], ◌∷◌, length, filter, refl, sym, ap, subst, arith, cond, ◌⊎◌, inl, inr, Option, Some, None, IsTrue}
use Rattle.std.specs.List.{AllByRecursion, count_by, find, list_all, position}
use Rattle.std.specs.Option.{unwrap_or, option_map_or}
use Rattle.std.specs.Prelude.{slice_get, map}
use Rattle.std.proofs.lemmas.Bool.{and_parts}
use Rattle.std.proofs.lemmas.Bool.Decides.{nat_tests}
use Rattle.qp_chart.specs.declared.checked.Chart.{Chart}
use Rattle.qp_model.specs.declared.record.Rec.{Rec}
use Rattle.qp_model.specs.declared.stimulus.Stim.{Stim}
use Rattle.qp_model.specs.declared.systems.System.{System}
use Rattle.qp_model.specs.declared.systems.ObjectDef.{ObjectDef}
use Rattle.qp_model.specs.declared.journals.Journal.{Journal}
use Rattle.qp_model.specs.declared.bodies.Body.{Body}
use Rattle.qp_model.specs.declared.bodies.Body.TheVariants as item
use Rattle.qp_model.specs.Record.{Item}
use Rattle.qp_model.specs.Told.{Told, Known}
use Rattle.qp_model.specs.History.{all_items, lane_items}
use Rattle.qp_model.specs.Knowing.{told, ceiling_after, records_of}
use Rattle.qp_model.specs.Kernels.{port, qv}
use Rattle.qp_model.specs.Sites.{object_at}
use Rattle.qp_model.specs.Sound.{IsSound}
use Rattle.qp_model.specs.WordLaw.{is_object}
use Rattle.qp_model.specs.Pieces.{Piece}
use Rattle.qp_model.specs.Course.{chart_at}
use Rattle.qp_model.specs.Ends.{is_spill, is_turn_mark, may_cut}
use Rattle.qp_model.specs.Home.{lane_at, home_of, by_object}
use Rattle.qp_model.specs.HomeLane.{is_at_home, are_at_home, count_taken, is_home_lane}
use Rattle.qp_model.specs.KernelLane.{Reading, Setting, lane_read, role_of}
use Rattle.qp_model.specs.Sources.{IsSourceLane, source_records}
use Rattle.qp_model.specs.Lawful.{Lawful, is_settle, ObjectHolds, CourseHolds, KernelHolds, cut_of, facts_of, reading_holds, setting_of}
use Rattle.qp_model.proofs.ListLemmas.{every-front, every-behind}
use Rattle.qp_model.proofs.NumberLemmas.{every-append}
use Rattle.qp_calls.specs.Tokens.{Token, hands_by}
use Rattle.qp_replay.proofs.LaneRecords.{RoleNames, Whose, found-one, lane-each, every-lane, home-lane}
use Rattle.qp_replay.proofs.CallRecords.{Claims, Lin, Rules, Uses}
use Rattle.qp_replay.proofs.CourseRecords.{ChartNames, cut-lin}
use Rattle.qp_replay.proofs.SourceRecords.{StimNames, own-objects, source-lin}

-- the record uses no token, whatever is known beside it
record Mute (P : Claims) (o : ℕ) (b : Body) : Type 0 where
  uses : (H : List Token) → Uses o P H b
  still : (H : List Token) (k : Known) → hands_by H (record { body = b; known = k }) ≡ H

module _ (sys : System) (o : ℕ) (P : Claims) where
  -- records that use none may stand between the others
  lin-more : (f : Told → Bool) (H : List Token) (ts : List Told) → AllByRecursion (λ t. f t ≡ false → Mute P o t.body) ts → Lin sys o P H (filter f ts) → Lin sys o P H ts
  lin-more f H [] others l = tt
  lin-more f H (t ∷ ts) others l = go (f t) refl l (λ J k. lin-more f J ts others.1 k)
    where
      go : (b : Bool) → f t ≡ b → Lin sys o P H (cond b (t ∷ filter f ts) (filter f ts)) → ((J : List Token) → Lin sys o P J (filter f ts) → Lin sys o P J ts) → Lin sys o P H (t ∷ ts)
      go true e l more = (l.0, λ known. more (hands_by H t) (l.1 known))
      go false e l more =
          let mute = others.0 e in
          (mute.uses H, λ known. subst (λ J. Lin sys o P J ts) (sym (mute.still H t.known)) (more H l))

  -- where all are so
  lin-mute : (H : List Token) (ts : List Told) → AllByRecursion (λ t. Mute P o t.body) ts → Lin sys o P H ts
  lin-mute H [] all = tt
  lin-mute H (t ∷ ts) all = (all.0.uses H, λ known. subst (λ J. Lin sys o P J ts) (sym (all.0.still H t.known)) (lin-mute H ts all.1))

module _ (sys : System) (stimuli : List (List Stim)) (j : Journal) (P : Claims) (rules : Rules sys P) (may_rest : (j.kernel == qv) ≡ true → P.Rests) (sound : IsSound sys) (fit : AllByRecursion (AllByRecursion (StimNames P.names)) stimuli) (lawful : Lawful sys stimuli j)
    (charts : (d : ObjectDef) → object_at sys d.priority ≡ Some d → (chart : Chart) → chart_at sys d.chart ≡ Some chart → ChartNames P.names sys d.priority chart) where
  abbrev LinOf : ℕ → List Told → Type 0
  LinOf o ts = Lin sys o P [] ts

  -- records of a lane, each of which is mute or of an owner
  abbrev MuteOr : (ℕ → Type 0) → Item → Type 0
  MuteOr Own i = Mute P i.of i.body ⊎ Own i.of

  -- those of one that is no owner
  others-lin : (Own : ℕ → Type 0) (o c : ℕ) (is : List Item) → (Own o → ⊥) → AllByRecursion (MuteOr Own) is → AllByRecursion (λ t. Mute P o t.body) (records_of (facts_of sys j) o c is)
  unfolding records_of told
  others-lin Own o c [] other each = tt
  others-lin Own o c (i ∷ is) other each = go (i.of == o) refl (others-lin Own o (ceiling_after c i.body) is other each.1)
    where
      mute : i.of ≡ o → Mute P o i.body
      mute is = elim each.0 [ inl m ↦ subst (λ p. Mute P p i.body) is m | inr own ↦ absurd (other (subst Own is own)) ]

      go : (b : Bool) → (i.of == o) ≡ b → AllByRecursion (λ t. Mute P o t.body) (records_of (facts_of sys j) o (ceiling_after c i.body) is)
          → AllByRecursion (λ t. Mute P o t.body) (cond b (told (facts_of sys j) o c i.body ∷ records_of (facts_of sys j) o (ceiling_after c i.body) is) (records_of (facts_of sys j) o (ceiling_after c i.body) is))
      go true e rest = let is : i.of ≡ o = grind (arith, nat_tests, e) in (mute is, rest)
      go false e rest = rest

  lane-lin : (Own : ℕ → Type 0) (o : ℕ) (is : List Item) → AllByRecursion (MuteOr Own) is → Own o ⊎ (Own o → ⊥) → (Own o → LinOf o (records_of (facts_of sys j) o 0 is)) → LinOf o (records_of (facts_of sys j) o 0 is)
  lane-lin Own o is each (inl own) lin = lin own
  lane-lin Own o is each (inr other) lin = lin-mute sys o P [] (records_of (facts_of sys j) o 0 is) (others-lin Own o 0 is other each)

  module _ (s : Setting) (objects_are : (p : ℕ) → IsTrue (is_object s.sys p) → P.names.Object p) (objects : AllByRecursion (λ p. IsTrue (is_object s.sys p)) (map (λ d. d.priority) s.sys.objects)) where
    role-mute : (o : ℕ) (b : Body) → ((s.kernel == qv) ≡ true → P.Rests) → RoleNames s (λ p. IsTrue (is_object s.sys p)) objects (role_of b) → Mute P o b
    unfolding role_of hands_by
    role-mute o (item.Look k floor) may h = record { uses = λ H. tt; still = λ H k. refl }
    role-mute o (item.Seen p f l m) may h = record { uses = λ H. objects_are p h; still = λ H k. refl }
    role-mute o (item.Rest k) may h = record { uses = λ H. may h; still = λ H k. refl }
    role-mute o (item.Spill n) may h = record { uses = λ H. tt; still = λ H k. refl }
    role-mute o b may h = absurd h

    kernel-each : (end : Reading) (lane : List Item) → ((s.kernel == qv) ≡ true → P.Rests) → lane_read s lane ≡ Some end → AllByRecursion (λ i. Mute P i.of i.body ⊎ IsTrue (is_object s.sys i.of)) lane
    kernel-each end lane may e = each lane (lane-each s (λ p. IsTrue (is_object s.sys p)) objects end lane e)
      where
        each : (is : List Item) → AllByRecursion (λ i. Whose s (λ p. IsTrue (is_object s.sys p)) objects i.of (role_of i.body)) is
            → AllByRecursion (λ i. Mute P i.of i.body ⊎ IsTrue (is_object s.sys i.of)) is
        each [] h = tt
        each (i ∷ is) h = (elim h.0 [ inl role ↦ inl (role-mute i.of i.body may role.1) | inr object ↦ inr object ], each is h.1)

  spill-mute : (o : ℕ) (b : Body) → not (is_spill b) ≡ false → Mute P o b
  unfolding hands_by
  spill-mute o (item.Spill n) h = record { uses = λ H. tt; still = λ H k. refl }
  spill-mute o b h = absurd (cc)

  turn-mute : (o : ℕ) (b : Body) → IsTrue (is_object sys o) → not (is_turn_mark b) ≡ false → Mute P o b
  unfolding hands_by
  turn-mute o (item.Nil f l m) object h = record { uses = λ H. rules.object o object; still = λ H k. refl }
  turn-mute o item.Spent object h = record { uses = λ H. tt; still = λ H k. refl }
  turn-mute o b object h = absurd (cc)

  -- an object's own records
  object-lin : (d : ObjectDef) → object_at sys d.priority ≡ Some d → ObjectHolds sys j d → LinOf d.priority (by_object (facts_of sys j) j d.priority)
  unfolding CourseHolds is_object
  object-lin d found holds =
      let home : IsTrue (is_object sys d.priority) = rw found refl in
      let ps : List Piece = holds.course.0 in
      let lin = cut-lin sys d P rules (rules.object d.priority home) (charts d found) (cut_of sys j d.priority) ps holds.course.2 in
      lin-more sys d.priority P (λ t. not (is_turn_mark t.body)) [] (by_object (facts_of sys j) j d.priority) (marks home (by_object (facts_of sys j) j d.priority))
      (subst (LinOf d.priority) holds.course.1 lin)
    where
      marks : IsTrue (is_object sys d.priority) → (ts : List Told) → AllByRecursion (λ t. not (is_turn_mark t.body) ≡ false → Mute P d.priority t.body) ts
      marks home [] = tt
      marks home (t ∷ ts) = ((λ h. turn-mute d.priority t.body home h), marks home ts)

  own-lin : (o : ℕ) → IsTrue (is_object sys o) → LinOf o (by_object (facts_of sys j) j o)
  unfolding is_object object_at by_object facts_of
  own-lin o object =
      let found = found-one (ObjectHolds sys j) o sys.objects lawful.objects object in
      let here : find (λ x. x.priority == found.0.priority) sys.objects ≡ Some found.0 = subst (λ p. find (λ x. x.priority == p) sys.objects ≡ Some found.0) (sym found.2) found.1 in
      subst (λ p. LinOf p (by_object (facts_of sys j) j p)) found.2 (object-lin found.0 here found.3)

  decide-object : (o : ℕ) → IsTrue (is_object sys o) ⊎ (IsTrue (is_object sys o) → ⊥)
  decide-object o = go (is_object sys o)
    where
      go : (b : Bool) → (b ≡ true) ⊎ (b ≡ true → ⊥)
      go true = inl refl
      go false = inr (λ e. absurd (cc))

  decide-same : (o p : ℕ) → (o ≡ p) ⊎ (o ≡ p → ⊥)
  decide-same o p = go (o == p) refl
    where
      go : (b : Bool) → (o == p) ≡ b → (o ≡ p) ⊎ (o ≡ p → ⊥)
      go true e = inl (grind (arith, nat_tests, e))
      go false e = inr (λ is. differs is)
        where
          differs : o ≡ p → ⊥
          differs is = let yes : (o == p) ≡ true = grind (arith, nat_tests, is) in absurd (cc)

  -- lane 0 of a kernel
  zero-each : (j.kernel == port) ≡ false → AllByRecursion (MuteOr (λ o. IsTrue (is_object sys o))) (lane_items (lane_at j 0))
  unfolding lane_read setting_of
  zero-each is = whose (lane_read (setting_of sys j) (lane_items (lane_at j 0))) refl kernel.lane
    where
      kernel : KernelHolds sys j
      kernel = rw is at lawful.kernel

      whose : (end : Option Reading) → lane_read (setting_of sys j) (lane_items (lane_at j 0)) ≡ end
          → IsTrue (reading_holds j (lane_items (lane_at j 0)) (count_by (λ i. is_settle i.body) (all_items j.lanes)) end) → AllByRecursion (MuteOr (λ o. IsTrue (is_object sys o))) (lane_items (lane_at j 0))
      whose None e h = absurd (cc)
      whose (Some end) e h = kernel-each (setting_of sys j) rules.object (own-objects sys) end (lane_items (lane_at j 0)) may_rest e

  zero-lin : (j.kernel == port) ≡ false → (o : ℕ) → LinOf o (records_of (facts_of sys j) o 0 (lane_items (lane_at j 0)))
  unfolding by_object facts_of home_of
  zero-lin is o = lane-lin (λ o. IsTrue (is_object sys o)) o (lane_items (lane_at j 0)) (zero-each is) (decide-object o) (λ object. go (j.kernel == port) is (own-lin o object))
    where
      go : (b : Bool) → b ≡ false
          → LinOf o (records_of (facts_of sys j) o 0 (lane_items (lane_at j (cond b (option_map_or (λ i. i + 1) (position (λ d. d.priority == o) sys.objects) 0) 0))))
          → LinOf o (records_of (facts_of sys j) o 0 (lane_items (lane_at j 0)))
      go false e h = h
      go true e h = absurd (cc)

  -- a home lane
  at-home : (o : ℕ) (spent cut : Bool) (i : Item) → IsTrue (is_object sys o) → is_at_home o spent cut i.of i.body ≡ true → MuteOr (λ p. p ≡ o) i
  unfolding hands_by
  at-home o spent cut i object h = go i.body refl h
    where
      go : (b : Body) → i.body ≡ b → is_at_home o spent cut i.of b ≡ true → MuteOr (λ p. p ≡ o) i
      go (item.Seen q f l m) e h =
          let test : (q == o) ≡ true = (and_parts (i.of == 0) (q == o) (and_parts _ spent h).0).1 in
          let same : q ≡ o = grind (arith, nat_tests, test) in
          inl (subst (Mute P i.of) (sym e) (record { uses = λ H. rules.object q (subst (λ p. IsTrue (is_object sys p)) (sym same) object); still = λ H k. refl }))
      go (item.Spill len) e h = inl (subst (Mute P i.of) (sym e) (record { uses = λ H. tt; still = λ H k. refl }))
      go b e h = inr (own h)
        where
          own : (i.of == o) ≡ true → i.of ≡ o
          own h = grind (arith, nat_tests, h)

  all-at-home : (o budget : ℕ) (cuts : Bool) (n : ℕ) (is : List Item) → IsTrue (is_object sys o) → are_at_home o budget cuts n is ≡ true → AllByRecursion (MuteOr (λ p. p ≡ o)) is
  unfolding are_at_home
  all-at-home o budget cuts n [] object h = tt
  all-at-home o budget cuts n (i ∷ is) object h =
      let parts = and_parts (is_at_home o (n == budget) (cuts && (length is == 0)) i.of i.body) (are_at_home o budget cuts (count_taken n i.body) is) h in
      (at-home o (n == budget) (cuts && (length is == 0)) i object parts.0, all-at-home o budget cuts (count_taken n i.body) is object parts.1)

  home-lin : (j.kernel == port) ≡ true → (d : ObjectDef) → IsTrue (is_object sys d.priority) → ObjectHolds sys j d → (o : ℕ) → LinOf o (records_of (facts_of sys j) o 0 (lane_items (lane_at j (home_of sys j d.priority))))
  unfolding by_object is_home_lane facts_of
  home-lin is_port d object holds o =
      let all = (and_parts _ _ (and_parts _ _ (home-lane sys j d is_port holds)).0).0 in
      lane-lin (λ p. p ≡ d.priority) o (lane_items (lane_at j (home_of sys j d.priority))) (all-at-home d.priority j.budget (may_cut j.end) 0 (lane_items (lane_at j (home_of sys j d.priority))) object all)
      (decide-same o d.priority) (λ e. subst (λ p. LinOf p (records_of (facts_of sys j) p 0 (lane_items (lane_at j (home_of sys j d.priority))))) (sym e) (own-lin d.priority object))

  spill-stays : (c : ℕ) (b : Body) → not (is_spill b) ≡ false → ceiling_after c b ≡ c
  spill-stays c (item.Spill n) h = refl
  spill-stays c b h = absurd (cc)

  -- the lane of a source: without its `spill` it is told as the law book has it
  told-plain : (c : ℕ) (is : List Item) → list_all (λ i. i.of == 0) is ≡ true
      → records_of (facts_of sys j) 0 c (filter (λ i. not (is_spill i.body)) is) ≡ filter (λ t. not (is_spill t.body)) (records_of (facts_of sys j) 0 c is)
  unfolding records_of told
  told-plain c [] alone = refl
  told-plain c (i ∷ is) alone = go (i.of == 0) (not (is_spill i.body)) refl parts.0 (told-plain (ceiling_after c i.body) is parts.1) (λ e. told-plain c is parts.1)
    where
      parts : ((i.of == 0) ≡ true) × (list_all (λ i. i.of == 0) is ≡ true)
      parts = and_parts (i.of == 0) (list_all (λ i. i.of == 0) is) alone

      go : (z b : Bool) → not (is_spill i.body) ≡ b → z ≡ true
          → records_of (facts_of sys j) 0 (ceiling_after c i.body) (filter (λ i. not (is_spill i.body)) is) ≡ filter (λ t. not (is_spill t.body)) (records_of (facts_of sys j) 0 (ceiling_after c i.body) is)
          → (b ≡ false → records_of (facts_of sys j) 0 c (filter (λ i. not (is_spill i.body)) is) ≡ filter (λ t. not (is_spill t.body)) (records_of (facts_of sys j) 0 c is))
          → records_of (facts_of sys j) 0 c (cond b (i ∷ filter (λ i. not (is_spill i.body)) is) (filter (λ i. not (is_spill i.body)) is))
          ≡ filter (λ t. not (is_spill t.body)) (cond z (told (facts_of sys j) 0 c i.body ∷ records_of (facts_of sys j) 0 (ceiling_after c i.body) is) (records_of (facts_of sys j) 0 (ceiling_after c i.body) is))
      go true true e z later same = rw (parts.0, e) (ap (λ r. told (facts_of sys j) 0 c i.body ∷ r) later)
      go true false e z later same =
          rw e (same refl ∙ ap (λ d. filter (λ t. not (is_spill t.body)) (records_of (facts_of sys j) 0 d is)) (sym (spill-stays c i.body e)))
      go false b e z later same = absurd (cc)

  source-lane : (ss : List Stim) (lane : List Item) → AllByRecursion (StimNames P.names) ss → IsSourceLane (facts_of sys j) j.kernel j.end ss lane → (o : ℕ) → LinOf o (records_of (facts_of sys j) o 0 lane)
  unfolding source_records facts_of
  source-lane ss lane fits h o =
      lane-lin (λ p. p ≡ 0) o lane (none lane h.alone) (decide-same o 0) (λ e. subst (λ p. LinOf p (records_of (facts_of sys j) p 0 lane)) (sym e) own)
    where
      none : (is : List Item) → list_all (λ i. i.of == 0) is ≡ true → AllByRecursion (MuteOr (λ p. p ≡ 0)) is
      none [] h = tt
      none (i ∷ is) h = let first : (i.of == 0) ≡ true = (and_parts _ _ h).0 in let zero_of : i.of ≡ 0 = grind (arith, nat_tests, first) in (inr zero_of, none is (and_parts _ _ h).1)

      spills : (ts : List Told) → AllByRecursion (λ t. not (is_spill t.body) ≡ false → Mute P 0 t.body) ts
      spills [] = tt
      spills (t ∷ ts) = ((λ h. spill-mute 0 t.body h), spills ts)

      own : LinOf 0 (records_of (facts_of sys j) 0 0 lane)
      own =
          lin-more sys 0 P (λ t. not (is_spill t.body)) [] (records_of (facts_of sys j) 0 0 lane) (spills (records_of (facts_of sys j) 0 0 lane))
          (subst (LinOf 0) (told-plain 0 lane h.alone) (source-lin sys sound P rules j.kernel 1 ss h.stimuli.0 (source_records (facts_of sys j) lane) fits h.stimuli.1 []))

  -- every owner's records, in every lane
  pub owners-lin : (a o : ℕ) → LinOf o (records_of (facts_of sys j) o 0 (lane_items (lane_at j a)))
  unfolding records_of
  owners-lin a o =
      every-lane sys stimuli j sound lawful (AllByRecursion (StimNames P.names)) (λ is. (o : ℕ) → LinOf o (records_of (facts_of sys j) o 0 is))
      (record { empty = λ o. tt; kernel = zero-lin; home = home-lin; source = λ ss lane names h. source-lane ss lane names h }) fit a o

  -- Each record of the journal.

  module _ (Fine : ℕ → Body → Type 0) (from : (o : ℕ) (H : List Token) (b : Body) → Uses o P H b → Fine o b) where
    abbrev FineItem : Item → Type 0
    FineItem i = Fine i.of i.body

    abbrev KnownItem : Item → Type 0
    KnownItem i = (c : ℕ) → P.Knows (told (facts_of sys j) i.of c i.body)

    lin-each : (o : ℕ) (H : List Token) (ts : List Told) → Lin sys o P H ts → AllByRecursion P.Knows ts → AllByRecursion (λ t. Fine o t.body) ts
    lin-each o H [] l k = tt
    lin-each o H (t ∷ ts) l k = (from o H t.body l.0, lin-each o (hands_by H t) ts (l.1 k.0) k.1)

    records-known : (o c : ℕ) (is : List Item) → AllByRecursion KnownItem is → AllByRecursion P.Knows (records_of (facts_of sys j) o c is)
    unfolding records_of
    records-known o c [] h = tt
    records-known o c (i ∷ is) h = go (i.of == o) refl (records-known o (ceiling_after c i.body) is h.1)
      where
        go : (b : Bool) → (i.of == o) ≡ b → AllByRecursion P.Knows (records_of (facts_of sys j) o (ceiling_after c i.body) is)
            → AllByRecursion P.Knows (cond b (told (facts_of sys j) o c i.body ∷ records_of (facts_of sys j) o (ceiling_after c i.body) is) (records_of (facts_of sys j) o (ceiling_after c i.body) is))
        go true e rest = let is : i.of ≡ o = grind (arith, nat_tests, e) in (subst (λ x. P.Knows (told (facts_of sys j) x c i.body)) is (h.0 c), rest)
        go false e rest = rest

    owner-each : (c : ℕ) (is : List Item) → ((o : ℕ) → AllByRecursion (λ t. Fine o t.body) (records_of (facts_of sys j) o c is)) → AllByRecursion FineItem is
    unfolding records_of told
    owner-each c [] own = tt
    owner-each c (i ∷ is) own = (here (i.of == i.of) (grind (arith, nat_tests)) (own i.of), owner-each (ceiling_after c i.body) is (λ o. rest o (i.of == o) (own o)))
      where
        rest : (o : ℕ) (b : Bool)
            → AllByRecursion (λ t. Fine o t.body) (cond b (told (facts_of sys j) o c i.body ∷ records_of (facts_of sys j) o (ceiling_after c i.body) is) (records_of (facts_of sys j) o (ceiling_after c i.body) is))
            → AllByRecursion (λ t. Fine o t.body) (records_of (facts_of sys j) o (ceiling_after c i.body) is)
        rest o true h = h.1
        rest o false h = h

        here : (b : Bool) → b ≡ true
            → AllByRecursion (λ t. Fine i.of t.body) (cond b (told (facts_of sys j) i.of c i.body ∷ records_of (facts_of sys j) i.of (ceiling_after c i.body) is) (records_of (facts_of sys j) i.of (ceiling_after c i.body) is))
            → FineItem i
        here true e h = h.0
        here false e h = absurd (cc)

    -- what follows from what a record uses holds of each record, where what is known beside each is so
    pub all-fine : AllByRecursion KnownItem (all_items j.lanes) → AllByRecursion FineItem (all_items j.lanes)
    unfolding all_items lane_items
    all-fine known = go j.lanes known (λ a o. owners-lin a o)
      where
        go : (ls : List (List Rec)) → AllByRecursion KnownItem (all_items ls) → ((a o : ℕ) → LinOf o (records_of (facts_of sys j) o 0 (lane_items (unwrap_or (slice_get ls a) []))))
            → AllByRecursion FineItem (all_items ls)
        go [] k lin = tt
        go (l ∷ ls) k lin =
            every-append FineItem (lane_items l) (all_items ls)
            (owner-each 0 (lane_items l) (λ o. lin-each o [] (records_of (facts_of sys j) o 0 (lane_items l)) (lin 0 o) (records-known o 0 (lane_items l) (every-front KnownItem (lane_items l) (all_items ls) k))))
            (go ls (every-behind KnownItem (lane_items l) (all_items ls) k) (λ a. lin (suc a)))
