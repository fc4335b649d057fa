-- Bytes have one answer.
use Rattle.std.proofs.Common.{◌≡◌, ℕ, List, inl, inr, Some, None, Ok, Err, refl, sym, ◌∙◌, ap}
use Rattle.std.specs.declared.result.Result.{Result}
use Rattle.std.specs.Str.{IsUtf8}
use Rattle.std.proofs.lemmas.Option.{none-some, same_Some}
use Rattle.toml.specs.Parse.{parse_document}
use Rattle.qp_chart_names.specs.declared.place.Part.{Part}
use Rattle.qp_chart_names.specs.declared.place.Path.{Path}
use Rattle.qp_chart_names.specs.Faults.{Fault}
use Rattle.qp_system_tables.specs.declared.fault.SystemFault.TheVariants.{Memory, NotToml, At}
use Rattle.qp_system_tables.specs.declared.raw.RawSystem.{RawSystem}
use Rattle.qp_system_tables.specs.Tables.{raw_of}
use Rattle.qp_system_tables.specs.Document.{TreeGives}
use Rattle.qp_system.specs.Later.{later_fault}
use Rattle.qp_system.specs.SystemOf.{HasFault}
use Rattle.qp_system.specs.SystemLaw.{SystemsAreSound, SystemsHaveNoFault, RefusalsAreOne}
use Rattle.qp_system.proofs.SoundLemmas.{system-is_sound}

-- bytes are one tree, which is read one way
pub tree-one : (bytes : List ℕ) (r s : Result RawSystem Fault) → TreeGives bytes r → TreeGives bytes s → r ≡ s
unfolding TreeGives
tree-one bytes r s h k =
    let same : h.0 ≡ k.0 = same_Some h.0 k.0 (sym h.2 ∙ k.2) in
    sym h.3 ∙ ap raw_of same ∙ k.3

-- bytes have one set of tables
pub raws-one : (bytes : List ℕ) (a b : RawSystem) → TreeGives bytes (Ok a) → TreeGives bytes (Ok b) → a ≡ b
raws-one bytes a b h k = let same = tree-one bytes (Ok a) (Ok b) h k in cc

no-toml : (bytes : List ℕ) (r : Result RawSystem Fault) → TreeGives bytes r → (IsUtf8 bytes → parse_document bytes ≡ None) → ⊥
unfolding TreeGives
no-toml bytes r h none = none-some h.0 (sym (none h.1) ∙ h.2)

-- bytes that are a tree without a fault have none
no-fault : (bytes : List ℕ) (raw : RawSystem) (f : Fault) → TreeGives bytes (Ok raw) → later_fault raw ≡ None → HasFault bytes f → ⊥
unfolding HasFault
no-fault bytes raw f h none (inl k) = let same = tree-one bytes (Ok raw) (Err f) h k in cc
no-fault bytes raw f h none (inr k) =
    none-some f (sym none ∙ ap later_fault (raws-one bytes raw k.0 h k.1) ∙ k.2)

-- the first fault of bytes is one
fault-one : (bytes : List ℕ) (f g : Fault) → HasFault bytes f → HasFault bytes g → f ≡ g
unfolding HasFault
fault-one bytes f g (inl h) (inl k) = let same = tree-one bytes (Err f) (Err g) h k in cc
fault-one bytes f g (inl h) (inr k) = let same = tree-one bytes (Err f) (Ok k.0) h k.1 in cc
fault-one bytes f g (inr h) (inl k) = let same = tree-one bytes (Ok h.0) (Err g) h.1 k in cc
fault-one bytes f g (inr h) (inr k) =
    let same : Some f ≡ Some g = sym h.2 ∙ ap later_fault (raws-one bytes h.0 k.0 h.1 k.1) ∙ k.2 in cc

path-same : (p q : Path) → p.0.items ≡ q.0.items → p ≡ q
path-same p q e = let make : List Part → Path = λ parts. record { 0 = record { items = parts } } in ap make e

at-same : (c d : ℕ) (p q : Path) → (let f : Fault = record { code = c; path = p.0.items } in f) ≡ record { code = d; path = q.0.items } → At c p ≡ At d q
at-same c d p q e =
    let code : c ≡ d = ap (λ (f : Fault). f.code) e in
    let path : p ≡ q = path-same p q (ap (λ (f : Fault). f.path) e) in
    cc

pub systems_are_sound : SystemsAreSound
systems_are_sound bytes sys h = system-is_sound bytes sys h

pub systems_have_no_fault : SystemsHaveNoFault
systems_have_no_fault bytes sys Memory h k = refl
systems_have_no_fault bytes sys NotToml h k = absurd (no-toml bytes _ h.read k)
systems_have_no_fault bytes sys (At code path) h k = absurd (no-fault bytes h.raw _ h.read h.passed k)

has-tree : (bytes : List ℕ) (f : Fault) → HasFault bytes f → (IsUtf8 bytes → parse_document bytes ≡ None) → ⊥
unfolding HasFault
has-tree bytes f (inl h) none = no-toml bytes _ h none
has-tree bytes f (inr h) none = no-toml bytes _ h.1 none

pub refusals_are_one : RefusalsAreOne
refusals_are_one bytes Memory f h k = inl refl
refusals_are_one bytes NotToml Memory h k = inr (inl refl)
refusals_are_one bytes NotToml NotToml h k = inr (inr refl)
refusals_are_one bytes NotToml (At code path) h k = absurd (has-tree bytes _ k h)
refusals_are_one bytes (At code path) Memory h k = inr (inl refl)
refusals_are_one bytes (At code path) NotToml h k = absurd (has-tree bytes _ h k)
refusals_are_one bytes (At c p) (At d q) h k = inr (inr (at-same c d p q (fault-one bytes _ _ h k)))
