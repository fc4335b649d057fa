-- The definitions of the kernel's lane, of the sources and of the end, by the tests of their parts.
use Rattle.std.proofs.Common.{◌≡◌, ◌+◌, ◌==◌, Bool, true, false, List, length, drop, refl, sym, ◌∙◌, arith, IsTrue, ◌↔◌}
use Rattle.std.specs.Prelude.{⊤}
use Rattle.std.specs.Bool.{MatchBool}
use Rattle.std.specs.List.{AllByRecursion}
use Rattle.std.proofs.lemmas.Bool.Decides.{nat_tests}
use Rattle.qp_model.specs.declared.record.Rec.{Rec}
use Rattle.qp_model.specs.declared.stimulus.Stim.{Stim}
use Rattle.qp_model.specs.declared.systems.System.{System}
use Rattle.qp_model.specs.declared.journals.Journal.{Journal}
use Rattle.qp_model.specs.Course.{FollowsTo}
use Rattle.qp_model.specs.History.{lane_items, all_items}
use Rattle.qp_model.specs.Home.{lane_at}
use Rattle.qp_model.specs.KernelLane.{lane_read}
use Rattle.qp_model.specs.Kernels.{port, has_one_order}
use Rattle.qp_model.specs.Lawful.{KernelHolds, OrderHolds, SpillsStand, cut_of, facts_of, is_settle, lanes_before, one_thread, reading_holds, setting_of, source_lanes}
use Rattle.qp_model.specs.OneOrder.{IsOneOrder}
use Rattle.qp_model.specs.Points.{lane_pieces}
use Rattle.qp_check_calls.specs.Decides.{Decides}
use Rattle.qp_check_kernel.specs.OneOrder.{run_of}
use Rattle.qp_check.proofs.DecideLemmas.{decides-where}
use Rattle.std.specs.Prelude.{count_by}
use Rattle.qp_check_shapes.proofs.GroupsDecideLemmas.{decides-as, decides-no, decides-yes}

module _ (sys : System) (j : Journal) where
  abbrev Reads : Bool
  Reads = reading_holds j (lane_items (lane_at j 0)) (count_by (λ i. is_settle i.body) (all_items j.lanes)) (lane_read (setting_of sys j) (lane_items (lane_at j 0)))

  abbrev Points : Type 0
  Points = AllByRecursion (λ d. FollowsTo sys d (cut_of sys j d.priority) (lane_pieces (facts_of sys j) (setting_of sys j) d.priority (lane_items (lane_at j 0)))) sys.objects

  pub kernel-unread : false ≡ Reads → Decides false (KernelHolds sys j)
  kernel-unread fails = decides-no (KernelHolds sys j) (λ h. let bad : false ≡ true = fails ∙ h.lane in let absent : ⊥ = cc in absent)

  pub kernel-read : true ≡ Reads → (b : Bool) → Decides b Points → Decides b (KernelHolds sys j)
  kernel-read reads b h = decides-as Points (KernelHolds sys j) b (λ points. record { lane = sym reads; points = points }) (λ k. k.points) h

  -- a question that is asked of one of two kinds only
  pub asked-not : (P : Type 0) (b : Bool) → b ≡ true → MatchBool b ⊤ P
  asked-not P b is = rw is tt

  pub asked : (P : Type 0) (b : Bool) → b ≡ false → P → MatchBool b ⊤ P
  asked P b is h = rw is h

  pub asked-fails : (P : Type 0) (b : Bool) → b ≡ false → (P → ⊥) → MatchBool b ⊤ P → ⊥
  asked-fails P b is fails h = let held : P = rw is at h in fails held

  pub other-kernel : j.kernel ≡ port → (j.kernel == port) ≡ true
  other-kernel is = grind (arith, nat_tests)

  pub no-port : (j.kernel ≡ port → ⊥) → (j.kernel == port) ≡ false
  no-port ne = grind (arith, nat_tests)

-- a question of a truth value's kind, in the other order
pub unasked : (P : Type 0) (b : Bool) → b ≡ false → Decides true (MatchBool b P ⊤)
unasked P b is = decides-yes (MatchBool b P ⊤) (rw is tt)

pub when-asked : (P : Type 0) (b : Bool) → b ≡ true → (c : Bool) → Decides c P → Decides c (MatchBool b P ⊤)
when-asked P b is c h = decides-as P (MatchBool b P ⊤) c (λ p. rw is p) (λ m. rw is at m) h

-- one of two parts
pub both-not : (P Q : Type 0) → (P → ⊥) → Decides false (P × Q)
both-not P Q fails = decides-no (P × Q) (λ h. fails h.0)

pub both-as : (P Q : Type 0) → P → (b : Bool) → Decides b Q → Decides b (P × Q)
both-as P Q p b h = decides-as Q (P × Q) b (λ q. (p, q)) (λ pq. pq.1) h

module _ (sys : System) (stimuli : List (List Stim)) (j : Journal) where
  abbrev HasOrder : Bool → Type 0
  HasOrder cuts = SpillsStand sys j cuts 1 stimuli × IsOneOrder (one_thread sys stimuli j cuts)

  pub order-is : (cuts : Bool) (lane0 : List Rec) (sources : List (List Rec)) → lane0 ≡ lane_at j 0 → sources ≡ drop (lanes_before sys j) j.lanes → run_of sys stimuli cuts lane0 sources ≡ one_thread sys stimuli j cuts
  unfolding one_thread source_lanes
  order-is cuts lane0 sources first rest = rw (first, rest) refl

  pub ordered-as : (cuts : Bool) (lane0 : List Rec) (sources : List (List Rec)) → lane0 ≡ lane_at j 0 → sources ≡ drop (lanes_before sys j) j.lanes → (b : Bool) → IsTrue b ↔ IsOneOrder (run_of sys stimuli cuts lane0 sources)
      → Decides b (IsOneOrder (one_thread sys stimuli j cuts))
  ordered-as cuts lane0 sources first rest b h = decides-where (IsOneOrder (one_thread sys stimuli j cuts)) b (rw (order-is cuts lane0 sources first rest) at h)

  pub order-found : HasOrder true → Decides true (OrderHolds sys stimuli j)
  unfolding OrderHolds
  order-found h = decides-yes ((cuts : Bool) × SpillsStand sys j cuts 1 stimuli × IsOneOrder (one_thread sys stimuli j cuts)) (true, h.0, h.1)

  pub order-behind : (HasOrder true → ⊥) → (b : Bool) → Decides b (HasOrder false) → Decides b (OrderHolds sys stimuli j)
  unfolding OrderHolds
  order-behind fails b h = decides-as (HasOrder false) ((cuts : Bool) × SpillsStand sys j cuts 1 stimuli × IsOneOrder (one_thread sys stimuli j cuts)) b (λ f. (false, f.0, f.1)) (λ o. back o.0 o.1 o.2) h
    where
      back : (cuts : Bool) → SpillsStand sys j cuts 1 stimuli → IsOneOrder (one_thread sys stimuli j cuts) → HasOrder false
      back true spills order = absurd (fails (spills, order))
      back false spills order = (spills, order)

  -- what is asked of all lanes together
  abbrev pub AreWhole : Type 0
  AreWhole = IsTrue (length j.lanes == lanes_before sys j + length stimuli) × MatchBool (has_one_order j.kernel) (OrderHolds sys stimuli j) ⊤
