-- Settings in range. Assumes nothing.
use Rattle.std.specs.Prelude.{◌≡◌, false, Result, MatchResult}
use Rattle.piece.specs.declared.Settings.{Settings}
use Rattle.piece.specs.declared.fault.CutFault.{CutFault}
use Rattle.piece.specs.declared.fault.CutFault.TheVariants as fault
use Rattle.piece.specs.declared.scheme.Scheme.{Scheme}
use Rattle.piece.specs.Cutting.{is_in_range}
use Rattle.piece.specs.Rows.{number_of}

-- the settings of a scheme, as numbers
abbrev pub as_settings : Scheme → Settings
as_settings S = record { rows = number_of S.rows; m = S.m; n = S.n }

-- the scheme of these settings, or the refusal of settings out of range
abbrev pub OfSettings : Settings → Result Scheme CutFault → Type 0
OfSettings S r = MatchResult r (λ s. as_settings s ≡ S) (λ f. (is_in_range S ≡ false) × (f ≡ fault.Settings S.rows S.m S.n))
