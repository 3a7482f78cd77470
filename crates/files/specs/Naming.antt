-- How the files of pieces are named. Assumes nothing.
use Rattle.std.specs.Prelude.{◌≡◌, ◌≢◌, ℕ, ◌+◌, ◌-◌, ◌<◌, cond, ◌==◌, ◌⊎◌, List, [], ◌∷◌, ◌++◌, length, Some, codes, nat_lt, slice_index, slice_index_or, string_bytes, String}
use Rattle.std.specs.Fmt.{decimal}
use Rattle.std.specs.Path.{path_file_name}

-- what the pieces of a file are named by: stdin for a dash alone, else the last part of the path
abbrev pub Named : List ℕ → List ℕ → Type 0
Named file name = ((file ≡ codes "-") × (name ≡ codes "stdin")) ⊎ ((file ≢ codes "-") × (path_file_name file ≡ Some name))

-- a slash (47), unless the folder ends with one
abbrev pub between : List ℕ → List ℕ
between folder = cond (slice_index folder (length folder - 1) == 47) [] (codes "/")

-- in decimal, a 0 before a lone digit
abbrev pub two_digits : ℕ → List ℕ
two_digits n = cond (nat_lt n 10) (48 ∷ decimal n) (decimal n)

-- where the piece numbered n goes
abbrev pub path_of : List ℕ → List ℕ → ℕ → List ℕ
path_of folder name n = folder ++ (between folder ++ (name ++ (codes "." ++ two_digits n)))

-- where the first n pieces go, the first piece first
abbrev pub Paths : {Z : Type 0} → List ℕ → List ℕ → ℕ → List (String Z) → Type 0
Paths {Z} folder name n all = (length all ≡ n) × ((k : ℕ) (d : String Z) → k < n → string_bytes (slice_index_or all k d) ≡ path_of folder name (k + 1))
