-- Names one after another.
use Rattle.std.proofs.Common.{◌≡◌, ℕ, ◌+◌, ◌<◌, List, ◌∷◌, length, drop, get_or, cond, Some, ap, ◌∙◌, sym, add-one}
use Rattle.std.specs.Str.{bytes_eq}
use Rattle.std.specs.BTreeMap as tree
use Rattle.std.specs.BTreeMap.{BTreeMap}
use Rattle.std.specs.Cmp.Lexicographic.{slice_cmp}
use Rattle.std.specs.Ordering.{nat_cmp}
use Rattle.std.proofs.Math.Seq.{drop-cons}
use Rattle.std.proofs.lemmas.Map.Text.{btree_map_updates_str}
use denote.Ref.{Bor}
use Rattle.qp_model.specs.declared.systems.SignalDef.{SignalDef}
use Rattle.qp_model.specs.declared.systems.ObjectDef.{ObjectDef}
use Rattle.qp_stim.specs.declared.names.Signal.{Signal}
use Rattle.qp_stim.specs.Names.{object_in, signal_in}
use Rattle.qp_stim.specs.Maps.{text_in}

-- objects from place i on, the first of which was put in last
pub text_in-object : (bytes : List ℕ) (m n : BTreeMap (Bor (List ℕ)) ℕ) (i : ℕ) (ds : List ObjectDef) (d : ObjectDef)
    → tree.UpdatesBy (λ x y. slice_cmp nat_cmp x.now y.now) (λ k. slice_cmp nat_cmp bytes k.now) m n (Some d.priority)
    → i < length ds → d ≡ get_or ds i d → bytes ≡ d.name
    → ((name : List ℕ) → text_in m name ≡ object_in (drop (i + 1) ds) name)
    → (name : List ℕ) → text_in n name ≡ object_in (drop i ds) name
text_in-object bytes m n i ds d updates below is same known name =
    let first : drop i ds ≡ get_or ds i d ∷ drop (i + 1) ds = rw add-one (drop-cons ds i d below) in
    btree_map_updates_str bytes m n (Some d.priority) updates name
    ∙ ap (λ rest. cond (bytes_eq bytes name) (Some d.priority) rest) (known name)
    ∙ ap (λ b. cond (bytes_eq b name) (Some d.priority) (object_in (drop (i + 1) ds) name)) same
    ∙ ap (λ e. object_in (e ∷ drop (i + 1) ds) name) is
    ∙ sym (ap (λ l. object_in l name) first)

pub text_in-signal : (bytes : List ℕ) (m n : BTreeMap (Bor (List ℕ)) Signal) (i k : ℕ) (ds : List SignalDef) (d : SignalDef)
    → tree.UpdatesBy (λ x y. slice_cmp nat_cmp x.now y.now) (λ k. slice_cmp nat_cmp bytes k.now) m n (Some (record { number = k; params = d.params; fixed = d.fixed }))
    → i < length ds → d ≡ get_or ds i d → bytes ≡ d.name
    → ((name : List ℕ) → text_in m name ≡ signal_in (k + 1) (drop (i + 1) ds) name)
    → (name : List ℕ) → text_in n name ≡ signal_in k (drop i ds) name
text_in-signal bytes m n i k ds d updates below is same known name =
    let signal : Signal = record { number = k; params = d.params; fixed = d.fixed } in
    let first : drop i ds ≡ get_or ds i d ∷ drop (i + 1) ds = rw add-one (drop-cons ds i d below) in
    btree_map_updates_str bytes m n (Some signal) updates name
    ∙ ap (λ rest. cond (bytes_eq bytes name) (Some signal) rest) (known name)
    ∙ ap (λ b. cond (bytes_eq b name) (Some signal) (signal_in (k + 1) (drop (i + 1) ds) name)) same
    ∙ ap (λ e. signal_in k (e ∷ drop (i + 1) ds) name) is
    ∙ sym (ap (λ l. signal_in k l name) first)
