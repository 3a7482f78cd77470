-- A number in two digits or more. Assumes nothing.
use Rattle.std.proofs.Common.{◌≡◌, ℕ, suc, ◌+◌, ◌-◌, ◌/◌, ◌%◌, ◌^◌, ◌<◌, false, List, [], ◌∷◌, ◌++◌, length, refl, inl, inr, arith, append-nil}
use Rattle.std.specs.Fmt.{char_count, decimal, padded_integral, format_spec}
use Rattle.std.proofs.lemmas.Bool.{cases_lt}
use Rattle.std.proofs.lemmas.Bool.Decides.{nat_tests}
use Rattle.std.proofs.lemmas.Fmt.{decimal_digit, decimal_step, decimal_nonempty}
use Rattle.files.specs.Naming.{two_digits}

-- what `{:02}` writes of digits
abbrev spread : List ℕ → List ℕ
spread ds = padded_integral (format_spec 32 0 4 2 (2 ^ 64 - 1)) false [] ds

one : (d : ℕ) → spread (d ∷ []) ≡ 48 ∷ d ∷ []
unfolding padded_integral char_count
one d = refl

two_or_more : (d e : ℕ) (ds : List ℕ) → spread (d ∷ e ∷ ds) ≡ d ∷ e ∷ ds
unfolding padded_integral char_count
two_or_more d e ds = let none : 2 - (suc (suc (length ds))) ≡ 0 = omega arith in rw none (simp append-nil)

more : (ds : List ℕ) (d : ℕ) → 0 < length ds → spread (ds ++ (d ∷ [])) ≡ ds ++ (d ∷ [])
more [] d h = absurd (omega arith)
more (e ∷ []) d h = two_or_more e d []
more (e ∷ f ∷ ds) d h = two_or_more e f (ds ++ (d ∷ []))

pub at_two : (n : ℕ) → n < 2 ^ 64 → padded_integral (format_spec 32 0 4 2 (2 ^ 64 - 1)) false [] (decimal n) ≡ two_digits n
at_two n h = elim (cases_lt n 10) [
  | inl less ↦ (let e = decimal_digit n less in let p = one (48 + n) in grind (arith, nat_tests))
  | inr more_digits ↦ (
      let e = decimal_step n (omega arith) h in
      let s = decimal_nonempty (n / 10) (omega arith) in
      let p = more (decimal (n / 10)) (48 + n % 10) s in
      grind (arith, nat_tests))
]
