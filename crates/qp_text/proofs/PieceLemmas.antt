-- Texts that are made of the pieces of a list, one after another.
use Rattle.std.proofs.Common.{◌≡◌, ◌∙◌, ℕ, suc, ◌+◌, ◌<◌, ◌≤◌, List, ◌++◌, length, take, drop, get_or, sym, ap, add-one, append_assoc, append-nil, drop-cons}
use Rattle.std.proofs.Math.Seq.{take-suc}
use Rattle.std.proofs.lemmas.List.{take-append-drop, take_all}
use Rattle.std.proofs.lemmas.Grind.{flat_map-append}
use Rattle.std.specs.List.{flat_map}

-- all the pieces
pub pieces-all : {X : Type 0} (f : X → List ℕ) (xs : List X) (i : ℕ) → length xs ≤ i → flat_map f (take i xs) ≡ flat_map f xs
pieces-all f xs i past = ap (flat_map f) (take_all i xs past)

module _ {X : Type 0} (f : X → List ℕ) (xs : List X) (i : ℕ) (x : X) (inside : i < length xs) (is : x ≡ get_or xs i x) where
  -- one piece more
  pub pieces-next : flat_map f (take (i + 1) xs) ≡ flat_map f (take i xs) ++ f x
  pieces-next = rw (add-one, take-suc xs i x inside, flat_map-append, sym is) (ap (λ piece. flat_map f (take i xs) ++ piece) (append-nil (f x)))

  -- the pieces up to this one, and those behind it
  pub pieces-around : flat_map f xs ≡ (flat_map f (take i xs) ++ f x) ++ flat_map f (drop (suc i) xs)
  pieces-around =
      ap (flat_map f) (sym (take-append-drop i xs)) ∙ flat_map-append f (take i xs) (drop i xs)
      ∙ ap (λ behind. flat_map f (take i xs) ++ flat_map f behind) (drop-cons xs i x inside)
      ∙ ap (λ y. flat_map f (take i xs) ++ (f y ++ flat_map f (drop (suc i) xs))) (sym is)
      ∙ sym (append_assoc (flat_map f (take i xs)) (f x) (flat_map f (drop (suc i) xs)))
