-- Looking a file up by its name.
use Rattle.std.proofs.Common.{◌≡◌, ℕ, ◌+◌, ◌<◌, ◌≤◌, true, false, List, length, map, drop, get_or, None, Some, Vec, sym, add-one, drop-cons}
use Rattle.std.proofs.lemmas.List.{drop_all}
use Rattle.std.specs.Str.{bytes_eq}
use Rattle.std.specs.declared.alloc.Global.{Global}
use Rattle.arrayvec.specs.ArrayString.{ArrayString}
use Rattle.qp_base.specs.MemShelf.{bytes_of_file}

-- the name and the bytes of a file
abbrev pub file_of : ArrayString × Vec ℕ Global → List ℕ × List ℕ
file_of file = (file.0.bytes, file.1.items)

-- the files from the index on
abbrev pub files_from : ℕ → List (ArrayString × Vec ℕ Global) → List (List ℕ × List ℕ)
files_from i files = map file_of (drop i files)

module _ (files : List (ArrayString × Vec ℕ Global)) (i : ℕ) (name : List ℕ) (file : ArrayString × Vec ℕ Global)
    (inside : i < length files) (is : file ≡ get_or files i file) where
  -- a file of this name is the first that is left
  pub held_by-here : bytes_eq file.0.bytes name ≡ true → bytes_of_file (files_from i files) name ≡ Some file.1.items
  held_by-here same = rw (drop-cons files i file inside, sym is, same)

  -- a file of another name is passed
  pub held_by-passed : bytes_eq file.0.bytes name ≡ false → bytes_of_file (files_from i files) name ≡ bytes_of_file (files_from (i + 1) files) name
  held_by-passed other = rw (add-one, drop-cons files i file inside, sym is, other)

-- past the last file there is none
pub held_by-passed_all : (files : List (ArrayString × Vec ℕ Global)) (i : ℕ) (name : List ℕ) → length files ≤ i
    → bytes_of_file (files_from i files) name ≡ None
held_by-passed_all files i name past = rw (drop_all i files past)
