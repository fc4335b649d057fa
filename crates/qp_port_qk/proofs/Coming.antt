-- Workers that come one after another.
use Rattle.std.proofs.Common.{◌≡◌, ℕ, suc, ◌+◌, ◌<◌, List, [], ◌∷◌, ◌++◌, map, length, refl, sym, ◌∙◌, ap, subst, arith, append-nil, slice_index_or, length-append}
use Rattle.std.specs.List.{remove}
use Rattle.std.proofs.lemmas.List.{length-map}
use Rattle.qp_model.specs.declared.stimulus.Stim.{Stim}
use Rattle.qp_port_qk.specs.Making.{AreAllQkMade}
use Rattle.qp_port_lanes.specs.Workers.{AddsAll, SourcesMade}

-- the first of a list is taken out
pub first-taken : {A : Type 0} → (xs : List A) (r : A) → 0 < length xs → r ≡ slice_index_or xs 0 r → xs ≡ r ∷ remove xs 0
first-taken [] r some is = absurd (omega (arith, some))
first-taken (x ∷ xs) r some is = ap (λ y. y ∷ xs) (sym is)

pub none-made : {T : Type 0} (Made : ℕ → T → Type 0) (k : ℕ) (more : List (List Stim)) → length more ≡ 0 → SourcesMade Made k more []
none-made Made k [] h = tt
none-made Made k (ss ∷ more) h = absurd (omega (arith, h))

module _ {T L : Type 0} (lane : T → L) where
  pub adds-none : (Made : List T → Type 0) → Made [] → (ls : List L) (ws : List T) → AddsAll lane Made ls ws ls ws
  adds-none Made made ls ws = record { all = []; made = made; now_are = sym (append-nil ws); lanes_are = refl }

  sources-long : (Made : ℕ → T → Type 0) (k : ℕ) (more : List (List Stim)) (ws : List T) → SourcesMade Made k more ws → length ws ≡ length more
  sources-long Made k [] [] h = refl
  sources-long Made k (ss ∷ more) (w ∷ ws) h = ap suc (sources-long Made (k + 1) more ws h.1)
  sources-long Made k [] (w ∷ ws) h = absurd h
  sources-long Made k (ss ∷ more) [] h = absurd h

  -- a first one and the sources, and no lane is left over
  pub all-made : (Kernel : T → Type 0) (Source : ℕ → T → Type 0) (stimuli sources : List (List Stim)) (ls ms cs : List L) (one : T) (none us ws : List T)
      → Kernel one → none ≡ [] → us ≡ none ++ one ∷ [] → ls ≡ lane one ∷ ms → sources ≡ stimuli → AddsAll lane (SourcesMade Source 1 sources) ms us cs ws → length ls ≡ 1 + length stimuli
      → AreAllQkMade lane Kernel Source stimuli ls ws
  all-made Kernel Source stimuli sources ls ms cs one none us ws made empty pushed taken same more many =
      let workers : ws ≡ one ∷ more.all = more.now_are ∙ ap (λ xs. xs ++ more.all) (pushed ∙ ap (λ xs. xs ++ one ∷ []) empty) in
      let left : cs ≡ [] = nothing cs rest in
      let back : ms ≡ map lane more.all = more.lanes_are ∙ ap (λ xs. map lane more.all ++ xs) left ∙ append-nil (map lane more.all) in
      record {
        first = one;
        sources = more.all;
        workers_are = workers;
        lanes_are = taken ∙ ap (λ xs. lane one ∷ xs) back ∙ ap (map lane) (sym workers);
        kernel = made;
        sources_made = subst (λ xs. SourcesMade Source 1 xs more.all) same more.made;
      }
    where
      rest : length cs ≡ 0
      rest =
          let a = ap length taken in
          let long = ap length more.lanes_are in
          let both = length-append (map lane more.all) cs in
          let count = length-map more.all lane in
          let made = sources-long Source 1 sources more.all more.made in
          let of = ap (λ (xs : List (List Stim)). length xs) same in
          omega (arith, a, long, both, count, made, of, many)

      nothing : (xs : List L) → length xs ≡ 0 → xs ≡ []
      nothing [] h = refl
      nothing (x ∷ xs) h = absurd (omega (arith, h))
