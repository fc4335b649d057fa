-- Workers that come one after another.
use Rattle.std.proofs.Common.{◌≡◌, ℕ, suc, ◌+◌, ◌<◌, List, [], ◌∷◌, ◌++◌, map, length, refl, sym, ◌∙◌, ap, subst, arith, append_assoc, append-nil, slice_index_or, length-append, Ok, Err}
use Rattle.std.specs.List.{remove}
use Rattle.std.specs.declared.result.Result.{Result}
use Rattle.std.specs.Result.{OnOk}
use Rattle.std.proofs.lemmas.List.{length-map}
use Rattle.qp_model.specs.declared.stimulus.Stim.{Stim}
use Rattle.qp_model.specs.declared.systems.System.{System}
use Rattle.qp_model.specs.declared.systems.ObjectDef.{ObjectDef}
use Rattle.qp_dispatch.specs.declared.objects.Turn.{Turn}
use Rattle.qp_port_lanes.specs.declared.home.Home.{Home}
use Rattle.qp_port_lanes.specs.At.{IsUnstartedHome}
use Rattle.qp_port.specs.declared.job.Job.{Job}
use Rattle.qp_port.specs.declared.job.Job.TheVariants as job
use Rattle.qp_port.specs.Making.{AddsOne, AreAllMade, HomesMade, IsHomeMade, IsThis, MadesHome, MadesNothing}
use Rattle.qp_port_lanes.specs.Workers.{AddsAll, IsFreshWorker, SourcesMade}
use Rattle.qp_port.specs.Rows.{IsNothing}

-- the first of a list is taken out
pub first-taken : {A : Type 0} → (xs : List A) (r : A) → 0 < length xs → r ≡ slice_index_or xs 0 r → xs ≡ r ∷ remove xs 0
first-taken [] r some is = absurd (omega (arith, some))
first-taken (x ∷ xs) r some is = ap (λ y. y ∷ xs) (sym is)

-- where there is none, none came
pub no-homes : {T : Type 0} (Made : ObjectDef → T → Type 0) (ds : List ObjectDef) → length ds ≡ 0 → HomesMade Made ds []
no-homes Made [] h = tt
no-homes Made (d ∷ ds) h = absurd (omega (arith, h))

pub no-sources : {T : Type 0} (Made : ℕ → T → Type 0) (k : ℕ) (more : List (List Stim)) → length more ≡ 0 → SourcesMade Made k more []
no-sources Made k [] h = tt
no-sources Made k (ss ∷ more) h = absurd (omega (arith, h))

pub on-ok : {A E : Type 0} (P Q : Type 0) (r : Result A E) → (P → Q) → OnOk r P → OnOk r Q
on-ok P Q (Ok x) f h = f h
on-ok P Q (Err e) f h = tt

module _ {T L : Type 0} (lane : T → L) where
  pub adds-none : (Made : List T → Type 0) → Made [] → (ls : List L) (ws : List T) → AddsAll lane Made ls ws ls ws
  adds-none Made made ls ws = record { all = []; made = made; now_are = sym (append-nil ws); lanes_are = refl }

  pub adds-more : (One : T → Type 0) (More Made : List T → Type 0) → ((w : T) (us : List T) → One w → More us → Made (w ∷ us)) → (ls : List L) (ws : List T) (ms : List L) (us : List T) (ks : List L) (vs : List T)
      → AddsOne lane One ls ws ms us → AddsAll lane More ms us ks vs → AddsAll lane Made ls ws ks vs
  adds-more One More Made both ls ws ms us ks vs one more = record {
    all = one.one ∷ more.all;
    made = both one.one more.all one.made more.made;
    now_are = more.now_are ∙ ap (λ xs. xs ++ more.all) one.now_are ∙ append_assoc ws (one.one ∷ []) more.all;
    lanes_are = one.lanes_are ∙ ap (λ xs. lane one.one ∷ xs) more.lanes_are;
  }

  pub one-long : (One : T → Type 0) (ls : List L) (ws : List T) (ms : List L) (us : List T) → AddsOne lane One ls ws ms us → length ls ≡ suc (length ms)
  one-long One ls ws ms us one = ap length one.lanes_are

  homes-long : (Made : ObjectDef → T → Type 0) (ds : List ObjectDef) (ws : List T) → HomesMade Made ds ws → length ws ≡ length ds
  homes-long Made [] [] h = refl
  homes-long Made (d ∷ ds) (w ∷ ws) h = ap suc (homes-long Made ds ws h.1)
  homes-long Made [] (w ∷ ws) h = absurd h
  homes-long Made (d ∷ ds) [] h = absurd h

  sources-long : (Made : ℕ → T → Type 0) (k : ℕ) (more : List (List Stim)) (ws : List T) → SourcesMade Made k more ws → length ws ≡ length more
  sources-long Made k [] [] h = refl
  sources-long Made k (ss ∷ more) (w ∷ ws) h = ap suc (sources-long Made (k + 1) more ws h.1)
  sources-long Made k [] (w ∷ ws) h = absurd h
  sources-long Made k (ss ∷ more) [] h = absurd h

  pub all-homes_long : (Made : ObjectDef → T → Type 0) (ds : List ObjectDef) (ls : List L) (ws : List T) (ms : List L) (us : List T) → AddsAll lane (HomesMade Made ds) ls ws ms us → length ls ≡ length ds + length ms
  all-homes_long Made ds ls ws ms us h =
      let long = ap length h.lanes_are in
      let both = length-append (map lane h.all) ms in
      let same = length-map h.all lane in
      let count = homes-long Made ds h.all h.made in
      omega (arith, long, both, same, count)

  -- a first one, the objects and the sources, and no lane is left over
  pub all-made : (Nothing : T → Type 0) (Home : ObjectDef → T → Type 0) (Source : ℕ → T → Type 0) (ds : List ObjectDef) (stimuli : List (List Stim)) (ls os bs cs : List L) (us vs ws : List T)
      → AddsOne lane Nothing ls [] os us → AddsAll lane (HomesMade Home ds) os us bs vs → AddsAll lane (SourcesMade Source 1 stimuli) bs vs cs ws → length ls ≡ 1 + length ds + length stimuli
      → AreAllMade lane Nothing Home Source ds stimuli ls ws
  all-made Nothing Home Source ds stimuli ls os bs cs us vs ws one homes sources many =
      let workers : ws ≡ one.one ∷ homes.all ++ sources.all = sources.now_are ∙ ap (λ xs. xs ++ sources.all) (homes.now_are ∙ ap (λ xs. xs ++ homes.all) one.now_are) in
      let none : cs ≡ [] = nothing cs left in
      let back : bs ≡ map lane sources.all = sources.lanes_are ∙ ap (λ xs. map lane sources.all ++ xs) none ∙ append-nil (map lane sources.all) in
      record {
        first = one.one;
        homes = homes.all;
        sources = sources.all;
        workers_are = workers;
        lanes_are = one.lanes_are ∙ ap (λ xs. lane one.one ∷ xs) (homes.lanes_are ∙ ap (λ xs. map lane homes.all ++ xs) back ∙ sym (map-both homes.all sources.all)) ∙ ap (map lane) (sym workers);
        nothing = one.made;
        homes_made = homes.made;
        sources_made = sources.made;
      }
    where
      left : length cs ≡ 0
      left =
          let a = one-long Nothing ls [] os us one in
          let b = all-homes_long Home ds os us bs vs homes in
          let long = ap length sources.lanes_are in
          let both = length-append (map lane sources.all) cs in
          let same = length-map sources.all lane in
          let count = sources-long Source 1 stimuli sources.all sources.made in
          omega (arith, a, b, long, both, same, count, many)

      nothing : (xs : List L) → length xs ≡ 0 → xs ≡ []
      nothing [] h = refl
      nothing (x ∷ xs) h = absurd (omega (arith, h))

      map-both : (xs ys : List T) → map lane (xs ++ ys) ≡ map lane xs ++ map lane ys
      map-both [] ys = refl
      map-both (x ∷ xs) ys = ap (λ zs. lane x ∷ zs) (map-both xs ys)

  -- the same, where lists are those
  pub all-of : (One Nothing : T → Type 0) (Home : ObjectDef → T → Type 0) (Source : ℕ → T → Type 0) → ((w : T) → One w → Nothing w) → (ds listed : List ObjectDef) (stimuli sources : List (List Stim))
      (ls os bs cs : List L) (none us vs ws : List T) → none ≡ [] → listed ≡ ds → sources ≡ stimuli
      → AddsOne lane One ls none os us → AddsAll lane (HomesMade Home listed) os us bs vs → AddsAll lane (SourcesMade Source 1 sources) bs vs cs ws → length ls ≡ 1 + length ds + length stimuli
      → AreAllMade lane Nothing Home Source ds stimuli ls ws
  all-of One Nothing Home Source made ds listed stimuli sources ls os bs cs none us vs ws empty listed_is sources_are one homes more many =
      all-made Nothing Home Source ds stimuli ls os bs cs us vs ws
      (record { one = one.one; made = made one.one one.made; now_are = one.now_are ∙ ap (λ xs. xs ++ one.one ∷ []) empty; lanes_are = one.lanes_are })
      (subst (λ xs. AddsAll lane (HomesMade Home xs) os us bs vs) listed_is homes)
      (subst (λ xs. AddsAll lane (SourcesMade Source 1 xs) bs vs cs ws) sources_are more) many

-- What comes is what was made.

pub made-nothing : (sys : System) (budget : ℕ) (s : System) (b : ℕ) (t : Turn) (x : Job) → IsFreshWorker sys budget s b t → IsThis job.Nothing x → MadesNothing sys budget s b t x
made-nothing sys budget s b t x fresh is = record { fresh = fresh; its = subst IsNothing (sym is) tt }

pub made-home : (sys : System) (budget : ℕ) (d : ObjectDef) (home : Home) (s : System) (b : ℕ) (t : Turn) (x : Job) → IsUnstartedHome sys d.priority home → IsFreshWorker sys budget s b t → IsThis (job.Home home) x → MadesHome sys budget d s b t x
made-home sys budget d home s b t x made fresh is = record { fresh = fresh; its = subst (IsHomeMade sys d) (sym is) made }
