-- The looks of a turn that didn't find the queue empty.
use Rattle.std.proofs.Common.{◌≡◌, ℕ, ◌+◌, ◌<◌, nat_lt, true, List, [], ◌∷◌, ◌++◌, length, refl, sym, ◌∙◌, ap, inl, inr, arith, append-nil, append_assoc}
use Rattle.std.specs.List.{list_all}
use Rattle.std.proofs.lemmas.Bool.Decides.{nat_tests}
use Rattle.std.proofs.lemmas.List.Folds.{list_all-append}
use Rattle.qp_model.specs.declared.bodies.Body.TheVariants as body
use Rattle.qp_model.specs.Told.{Told, for_object, plain, told_took}
use Rattle.qp_calls.specs.declared.answers.Counts as counts
use Rattle.qp_calls.specs.declared.tokens.HeldEntry.{HeldEntry}
use Rattle.qp_calls.specs.Clauses.{Sees, Stops, TakesIt, entry_of}
use Rattle.qp_calls.specs.LaneView.{GrowsOf, LaneView, Roomier}
use Rattle.qp_kernel.specs.Turning.{seen_told, spill_told}
use Rattle.qp_kernel_turns.specs.declared.halting.Halt.{Halt}
use Rattle.qp_kernel_turns.specs.declared.halting.Halt.TheVariants as halt
use Rattle.qp_kernel_turns.specs.Halting.{TurnHalts, asked_once}
use Rattle.qp_port_law.specs.HomeLanes.{looks_in, nils_in}
use Rattle.qp_port_law.proofs.HomeRecords.{AreInside, inside-looks, inside-nils, looks-append, nils-append, of_it}
use Rattle.qp_port_lanes.specs.Turning.{NeverEmpty, shows_entry}

pub never-same : (v w : LaneView) → w.told ≡ v.told → NeverEmpty v w
never-same v w same = record { ts = []; told = same ∙ sym (append-nil v.told); nils = refl; looks = refl }

pub never-room : (v w : LaneView) → Roomier (asked_once v) w → NeverEmpty v w
never-room v w room = never-same v w (ap (λ u. u.told) room.same)

pub never-then : (u v w : LaneView) → NeverEmpty u v → NeverEmpty v w → NeverEmpty u w
never-then u v w a b = record {
  ts = a.ts ++ b.ts;
  told = b.told ∙ ap (λ ts. ts ++ b.ts) a.told ∙ append_assoc u.told a.ts b.ts;
  nils = nils-append a.ts b.ts ∙ ap (λ xs. xs ++ nils_in b.ts) a.nils ∙ b.nils;
  looks = ap (list_all shows_entry) (looks-append a.ts b.ts) ∙ list_all-append shows_entry (looks_in a.ts) (looks_in b.ts) ∙ rw (a.looks, b.looks) refl;
}

-- records of the inside of a step
pub never-inside : (o : ℕ) (g : List Told) (v w : LaneView) → w.told ≡ v.told ++ of_it o g → AreInside g → NeverEmpty v w
never-inside o g v w told inside = record { ts = of_it o g; told = told; nils = inside-nils o g inside; looks = ap (list_all shows_entry) (inside-looks o g inside) }

pub never-spilled : (n : ℕ) (v w : LaneView) → w.told ≡ v.told ++ spill_told n ∷ [] → NeverEmpty v w
never-spilled n v w told = record { ts = spill_told n ∷ []; told = told; nils = refl; looks = refl }

-- the turn ends before it looks
pub never-halts : (v w : LaneView) (h : Halt) → TurnHalts v w h → NeverEmpty v w
never-halts v w halt.Stopped (inl f) = never-same v w (ap (λ u. u.told) f.answered)
never-halts v w halt.Stopped (inr f) = never-spilled (length v.told) v w (ap (λ u. u.told) f.stops ∙ f.spills.told)
never-halts v w halt.Memory f = never-same v w (ap (λ u. u.told) f.stops)

-- an entry was taken
pub never-took : (me : ℕ) (e : HeldEntry) (v w : LaneView) → TakesIt me e v w → NeverEmpty v w
never-took me e v w t = record {
  ts = for_object me (told_took t.f t.l t.m (entry_of e) (w.event (entry_of e))) ∷ [];
  told = t.adds.grows.told;
  nils = refl;
  looks = refl;
}

-- the look in the place of a take showed an entry
pub never-spent : (p : ℕ) (c : counts.Counts) (v w1 w2 w3 : LaneView) → Sees p v w1 c → c.m < c.f + c.l → GrowsOf p (plain body.Spent ∷ []) w1 w2 → Stops 6 w2 w3 → NeverEmpty v w3
never-spent p c v w1 w2 w3 sees some spent stops =
    let entry : nat_lt c.m (c.f + c.l) ≡ true = grind (arith, nat_tests, some) in
    record {
      ts = seen_told p c.f c.l c.m ∷ for_object p (plain body.Spent) ∷ [];
      told = ap (λ u. u.told) stops ∙ spent.told ∙ ap (λ ts. ts ++ for_object p (plain body.Spent) ∷ []) sees.0.grows.told
          ∙ append_assoc v.told (seen_told p c.f c.l c.m ∷ []) (for_object p (plain body.Spent) ∷ []);
      nils = refl;
      looks = rw entry refl;
    }
