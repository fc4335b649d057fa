-- Frames one after another.
use Rattle.std.proofs.Common.{◌≡◌, ◌∙◌, ℕ, suc, ◌+◌, ◌%◌, ◌<◌, List, [], ◌∷◌, ◌++◌, length, map, take, drop, get_or, Option, refl, sym, ap, append_assoc, append-nil, add-one, drop-cons}
use Rattle.std.proofs.Math.Seq.{take-suc}
use Rattle.std.proofs.lemmas.List.{take-append-drop}
use Rattle.qp_base.specs.Sink.{appended, AppendsPrefix}
use Rattle.qp_model.specs.declared.record.Rec.{Rec}
use Rattle.qp_model.specs.Output.{JournalItem, record_item}
use Rattle.qp_model.specs.OutputFrames.{frame, frames_from}
use Rattle.qp_text.proofs.PutsLemmas.{appended-twice, prefix-longer, prefix-then}
use Rattle.qp_frames.specs.Sequence.{sequence_behind}

pub frames-append : (form s : ℕ) (xs ys : List JournalItem) → frames_from form s (xs ++ ys) ≡ frames_from form s xs ++ frames_from form (sequence_behind s xs) ys
frames-append form s [] ys = refl
frames-append form s (x ∷ xs) ys =
    ap (λ t. frame form s x ++ t) (frames-append form ((s + 1) % 256) xs ys)
    ∙ sym (append_assoc (frame form s x) (frames_from form ((s + 1) % 256) xs) (frames_from form (sequence_behind ((s + 1) % 256) xs) ys))

pub behind-append : (s : ℕ) (xs ys : List JournalItem) → sequence_behind s (xs ++ ys) ≡ sequence_behind (sequence_behind s xs) ys
behind-append s [] ys = refl
behind-append s (x ∷ xs) ys = behind-append ((s + 1) % 256) xs ys

-- one item alone
pub frames-one : (form s : ℕ) (x : JournalItem) → frames_from form s (x ∷ []) ≡ frame form s x
frames-one form s x = append-nil (frame form s x)

module _ (form s : ℕ) (xs ys : List JournalItem) (w0 w1 w2 : Option (List ℕ)) (written : w1 ≡ appended w0 (frames_from form s xs)) where
  -- the frames of some items, and then those of more
  pub frames-put : w2 ≡ appended w1 (frames_from form (sequence_behind s xs) ys) → w2 ≡ appended w0 (frames_from form s (xs ++ ys))
  frames-put put =
      put ∙ rw (written, frames-append form s xs ys) (appended-twice w0 (frames_from form s xs) (frames_from form (sequence_behind s xs) ys))

  -- the same, where the second call failed and others would have followed
  pub frames-cut : (zs : List JournalItem) → AppendsPrefix w1 (frames_from form (sequence_behind s xs) ys) w2 → AppendsPrefix w0 (frames_from form s ((xs ++ ys) ++ zs)) w2
  frames-cut zs p =
      rw (frames-append form s (xs ++ ys) zs)
      (prefix-longer (frames_from form s (xs ++ ys)) (frames_from form (sequence_behind s (xs ++ ys)) zs) w0 w2
      (rw (frames-append form s xs ys) (prefix-then (frames_from form s xs) (frames_from form (sequence_behind s xs) ys) w0 w1 w2 written p)))

-- a call for the first items failed, and others would have followed
pub frames-cut_first : (form s : ℕ) (xs ys : List JournalItem) (w0 w1 : Option (List ℕ))
    → AppendsPrefix w0 (frames_from form s xs) w1 → AppendsPrefix w0 (frames_from form s (xs ++ ys)) w1
frames-cut_first form s xs ys w0 w1 p = rw (frames-append form s xs ys) (prefix-longer (frames_from form s xs) (frames_from form (sequence_behind s xs) ys) w0 w1 p)

map-parts : (xs ys : List Rec) → map record_item (xs ++ ys) ≡ map record_item xs ++ map record_item ys
map-parts [] ys = refl
map-parts (x ∷ xs) ys = ap (λ t. record_item x ∷ t) (map-parts xs ys)

module _ (xs : List Rec) (i : ℕ) (x : Rec) (inside : i < length xs) (is : x ≡ get_or xs i x) where
  -- one record more
  pub records-next : map record_item (take (i + 1) xs) ≡ map record_item (take i xs) ++ record_item x ∷ []
  records-next = rw (add-one, take-suc xs i x inside, map-parts, sym is) refl

  -- the records up to this one, and those behind it
  pub records-around : map record_item xs ≡ (map record_item (take i xs) ++ record_item x ∷ []) ++ map record_item (drop (suc i) xs)
  records-around =
      ap (map record_item) (sym (take-append-drop i xs)) ∙ map-parts (take i xs) (drop i xs)
      ∙ ap (λ sequence_behind. map record_item (take i xs) ++ map record_item sequence_behind) (drop-cons xs i x inside)
      ∙ ap (λ y. map record_item (take i xs) ++ (record_item y ∷ map record_item (drop (suc i) xs))) (sym is)
      ∙ sym (append_assoc (map record_item (take i xs)) (record_item x ∷ []) (map record_item (drop (suc i) xs)))
