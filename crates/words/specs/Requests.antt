-- What cut is asked for by its words. Assumes nothing.
use Rattle.std.specs.Prelude.{List, [], ◌∷◌, string_bytes, String}
use Rattle.words.specs.declared.request.Request.{Request}
use Rattle.words.specs.Options.{Sets, given}
use Rattle.words.specs.Scans.{Says}

-- the words say these options, and two of them are names: the file, then the folder
abbrev pub Asked : {Z : Type 0} → List (String Z) → Request → Type 0
Asked ws r = Says given Sets ws r.options (string_bytes r.file ∷ string_bytes r.folder ∷ [])
